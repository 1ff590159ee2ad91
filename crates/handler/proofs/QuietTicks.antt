-- A tick without effects of its access, in which no alert has an event or equal wires.
-- Assumes nothing.
use Prim.Native.Nat.{◌≤◌}
use mathlib.Core.Path.{◌≡◌, refl, sym, ap, ◌∙◌}
use mathlib.Core.Bool.{Bool, true, false, true≢false, not, ◌&&◌}
use lib.Dec.{eqb}
use lib.ListN.{length}
use borrow.Author.Tests.{eqb-true}
use Rattle.bits.proofs.IndexLaws.{and-true}
use Rattle.rules.specs.Samples.{pingable, heard}
use Rattle.rules.specs.State.{most, local_count}
use Rattle.rules.specs.declared.Effects.{Effects}
use Rattle.rules.specs.declared.Handler.{Handler}
use Rattle.rules.specs.declared.Sample.{Sample}
use Rattle.samples.specs.Quiet.{QuietBy}
use Rattle.samples.specs.declared.pace.Met.{Met}
use Rattle.samples.proofs.QuietSamples.{quiet_sampled, quiet_links}
use Rattle.handler.specs.Finished.{finished, no_effects}
use Rattle.handler.specs.QuietTick.{moved_by, ended}
use Rattle.handler.proofs.WholeTick.{finish_by}

-- the effects of an access that has none
pub none_are : (e : Effects) → ((eqb e.clears 0 && eqb e.raises 0) && not e.begins) ≡ true → e ≡ no_effects
none_are e t =
    let p = and-true (eqb e.clears 0 && eqb e.raises 0) (not e.begins) t in
    let q = and-true (eqb e.clears 0) (eqb e.raises 0) p.0 in
    λ u. record { clears = eqb-true e.clears 0 q.0 u; raises = eqb-true e.raises 0 q.1 u; begins = unset e.begins p.1 u }
  where
    unset : (b : Bool) → not b ≡ true → b ≡ false
    unset true t = absurd (true≢false (sym t))
    unset false t = refl

-- m is what step 2 leaves for the links
pub quiet_tick : (h : Handler) (e : Effects) (s : Sample) (m : Met) → h.n ≤ most
    → length h.alerts.cause ≡ most → length h.locals.cause ≡ local_count
    → QuietBy h.n h.links h.timer (pingable h) s m → e ≡ no_effects
    → ended h m (moved_by h.classes h.interrupts) ≡ finished h e s
quiet_tick h e s m small alerts locals q f =
    finish_by h no_effects s (heard h s no_effects) (record { handler = h; assigned = 0 }) _ _ _ _ _ refl
    (quiet_sampled h s m small q alerts locals) refl refl refl refl (quiet_links h s m small q _)
    ∙ ap (λ (d : Effects). finished h d s) (sym f)
