-- What comes of any boot, in one place: the claim of specs/Boots.antt.
-- Assumes nothing.
use Prim.Native.Nat.{ℕ, ◌≤◌, ◌<◌}
use mathlib.Core.Path.{◌≡◌, ap}
use mathlib.Core.Bool.{true, false}
use borrow.Author.Tests.{lt-ltb}
use lib.IntN.{negsuc}
use lib.ListN.{replicate}
use Rattle.rules.specs.State.{most, new_handler}
use Rattle.rules.specs.Valid.{valid}
use Rattle.rules.specs.declared.Handler.{Handler}
use Rattle.policy.specs.Plan.{boot}
use Rattle.policy.specs.Table.{alert_count}
use Rattle.policy.specs.declared.Installed.{Installed}
use Rattle.policy.specs.declared.Lifecycle.{Lifecycle}
use Rattle.boot_laws.specs.Boots.{Boots, NewBoots}
use Rattle.boot_laws.specs.Stands.{Success}
use Rattle.boot_laws.proofs.After.{boot_ran, boot_stands, boot_untouched, boot_eventless}
use Rattle.boot_laws.proofs.AnyBoot.{boot_valid, boot_above}
use Rattle.boot_laws.proofs.Boot.{boot_either, boot_succeeds, new_succeeds, went}
use Rattle.boot_laws.proofs.Receivers.{boot_linked, boot_ready, boot_rise, off_rise, boot_new}
use Rattle.boot_laws.proofs.Unlocked.{boot_unlocked}
use Rattle.boot_laws.proofs.Wires.{rest_quiet, boot_at_rest, boot_wrong, new_rests}

-- one that does not begin
bad_state : (l : Lifecycle) (h : Handler) → valid h ≡ false → boot l h ≡ record { handler = h; answer = negsuc 6; register = 0; spare = replicate 6 0 }
unfolding boot
bad_state l h e = rw e

few_alerts : (l : Lifecycle) (h : Handler) → valid h ≡ true → h.n < alert_count → boot l h ≡ record { handler = h; answer = negsuc 12; register = 0; spare = replicate 6 0 }
unfolding boot
few_alerts l h e m = rw (e, lt-ltb h.n alert_count m)

pub boots : (l : Lifecycle) (h : Handler) → Boots l h
boots l h =
    record {
      bad_state = bad_state l h;
      few_alerts = few_alerts l h;
      either = boot_either l h;
      succeeds = boot_succeeds l h;
      success = λ s. let w = went l h s in (w.good, w.large, boot_ran l h s);
      stands = boot_stands l h;
      eventless = boot_eventless l h;
      at_rest = λ s r. let q = rest_quiet l h (went l h s) r in (q.0, q.1, boot_at_rest l h s r);
      wrong = boot_wrong l h;
      untouched = boot_untouched l h;
      unlocked = boot_unlocked l h;
      keeps_valid = boot_valid l h;
      keeps_above = boot_above l h;
      linked = boot_linked l h;
      ready = boot_ready l h;
      first_rise = boot_rise l h;
      off_rise = off_rise l h;
    }

pub new_boots : (l : Lifecycle) (n : ℕ) → NewBoots l n
new_boots l n = record { new_succeeds = new_succeeds l n; receivers = boot_new l n; rests = new_rests n; rests_after = λ a b. boot_at_rest l (new_handler n) (ok a b) (new_rests n) }
  where
    ok : alert_count ≤ n → n ≤ most → Success l (new_handler n)
    ok a b = let e = new_succeeds l n a b in record { register = ap (λ (r : Installed). r.register) e; answer = ap (λ (r : Installed). r.answer) e }
