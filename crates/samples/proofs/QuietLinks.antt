-- A step 2 of which nothing comes but for the links, by the words of what `pace` tells: where none has a place set, no alert has what they tell.
-- Assumes nothing.
use Prim.Native.Nat.{ℕ, zero, suc, ◌/◌, ◌%◌, ◌-◌, ◌*◌, ◌<◌}
use mathlib.Core.Path.{◌≡◌, refl, sym, ap, ◌∙◌}
use mathlib.Core.Bool.{Bool, true, false, false≢true, not, ◌&&◌, ◌||◌}
use mathlib.Core.List.{List}
use native.Mathlib.Omega.{arith}
use borrow.Author.Tests.{eqb-true}
use lib.Dec.{eqb}
use lib.ListN.{get_or}
use Rattle.bits.specs.Bits.{place}
use Rattle.bits.specs.Index.{place_in, words_by}
use Rattle.bits.proofs.BitLaws.{bit_none}
use Rattle.bits.proofs.IndexLaws.{and-true}
use Rattle.bits.proofs.WordLaws.{place_in_each}
use Rattle.rules.specs.State.{most, words}
use Rattle.rules.specs.declared.Links.{Links}
use Rattle.rules.specs.declared.Sample.{Sample}
use Rattle.rules.specs.declared.Timer.{Timer}
use Rattle.samples.specs.Quiet.{none_set, QuietBy}
use Rattle.samples.specs.Paced.{asks_by, PacedBy}
use Rattle.samples.specs.Received.{happens_at, equal_at}
use Rattle.samples.specs.declared.pace.Paced.{Paced}

-- ── words with no place set ──

module _ (ws : List ℕ) (e : none_set ws ≡ true) where
  word_none : (v : ℕ) → v < words → get_or ws v 0 ≡ 0
  word_none zero l = eqb-true _ _ (and-true (eqb (get_or ws 0 0) 0) _ e).0
  word_none (suc zero) l = eqb-true _ _ (and-true (eqb (get_or ws 1 0) 0) _ (and-true (eqb (get_or ws 0 0) 0) _ e).1).0
  word_none (suc (suc zero)) l =
      eqb-true _ _ (and-true (eqb (get_or ws 2 0) 0) _ (and-true (eqb (get_or ws 1 0) 0) _ (and-true (eqb (get_or ws 0 0) 0) _ e).1).1).0
  word_none (suc (suc (suc zero))) l =
      eqb-true _ _ (and-true (eqb (get_or ws 2 0) 0) _ (and-true (eqb (get_or ws 1 0) 0) _ (and-true (eqb (get_or ws 0 0) 0) _ e).1).1).1
  word_none (suc (suc (suc (suc v)))) l = absurd (omega arith)

  pub place_none : (i : ℕ) → i < words * 64 → place_in ws i ≡ false
  place_none i l =
      let d : i / 64 < words = omega arith in
      ap (λ (x : ℕ). place x (i % 64)) (word_none (i / 64) d) ∙ bit_none (63 - i % 64)

  -- a rule whose words they are holds of no alert
  rule_none : (f : ℕ → Bool) → ws ≡ words_by words f → (i : ℕ) → i < most → f i ≡ false
  rule_none f z i l = sym (place_in_each words f i (omega arith)) ∙ ap (λ (xs : List ℕ). place_in xs i) (sym z) ∙ place_none i (omega arith)

-- ── pings ──

-- none of three
none_of : (a b c : Bool) → not (a || (b || c)) ≡ true → (a ≡ false) × (b ≡ false) × (c ≡ false)
none_of true b c e = absurd (false≢true e)
none_of false true c e = absurd (false≢true e)
none_of false false true e = absurd (false≢true e)
none_of false false false e = (refl, refl, refl)

-- what `pace` tells is what a quiet step 2 promises
module _ (n : ℕ) (k : Links) (c : Timer) (pingable : Bool) (s : Sample) (r : Paced) (a b : Bool) (p : PacedBy n k c false pingable s r)
    (y : a ≡ none_set r.events) (z : b ≡ none_set r.equal) where
  abbrev steady : Bool
  steady = not (r.fails_alert || (r.fails_line || r.wrong))

  none : (a && (b && steady)) ≡ true → (r.fails_alert ≡ false) × (r.fails_line ≡ false) × (r.wrong ≡ false)
  none q = none_of r.fails_alert r.fails_line r.wrong (and-true b steady (and-true a (b && steady) q).1).1

  pub quiet_by : (a && (b && steady)) ≡ true → QuietBy n k c pingable s r.met
  quiet_by q =
      record {
        leaves = λ t. record { receivers = p.receivers t; meets = p.meets t; checked = p.checked t; right = p.right t };
        no_event =
            λ i l. rule_none r.events (sym y ∙ (and-true a (b && steady) q).0) (happens_at n k.receivers (asks_by n k c false pingable s) s.alerts) p.happened i l;
        none_equal =
            λ i l. rule_none r.equal (sym z ∙ (and-true b steady (and-true a (b && steady) q).1).0)
            (equal_at n k.receivers (asks_by n k c false pingable s) s.alerts) p.equals i l;
        no_alert_fails = sym p.alert_fails ∙ (none q).0;
        no_line_fails = sym p.line_fails_law ∙ (none q).1;
        none_wrong = sym p.any_wrong ∙ (none q).2;
      }
