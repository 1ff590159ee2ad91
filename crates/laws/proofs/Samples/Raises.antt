-- Which local alerts occur: 0 and 1 by a ping that fails, 2 by equal wires, 3 by a wrong receive pair and 5 by a write that differs from its stage, and no
-- other.
-- Assumes nothing.
use Prim.Native.Nat.{ℕ, zero, suc, ◌^◌, ◌≤◌, ◌<◌}
use mathlib.Core.Path.{◌≡◌, refl, ap, ◌∙◌}
use mathlib.Core.Logic.{◌⊎◌, inl, inr}
use mathlib.Core.Bool.{Bool, true, false, false≢true, and-false, or-false, cond, not, ◌&&◌, ◌||◌}
use native.Mathlib.Omega.{arith}
use lib.Dec.{eqb}
use Rattle.std.specs.Prelude.{Ok, Err}
use Rattle.bits.proofs.BitLaws.{bit_none}
use Rattle.bits.proofs.IndexLaws.{any_none}
use Rattle.bits.specs.Bits.{bit}
use Rattle.bits.specs.Index.{any_to}
use Rattle.link_rules.specs.Senders.{line_count}
use Rattle.link_rules.specs.Timer.{is_line, fails, fails_alert, fails_line}
use Rattle.rules.specs.Access.{verdict, accepts, accepted, accessed_by, accessed, effects}
use Rattle.rules.specs.Answer.{refusal_number, Verdict}
use Rattle.rules.specs.Samples.{alert_broken, line_wrong, timed, raised, heard, occurs}
use Rattle.rules.specs.State.{most, local_count, local}
use Rattle.rules.specs.declared.Access.{Access}
use Rattle.rules.specs.declared.Effects.{Effects}
use Rattle.rules.specs.declared.Field.{Field}
use Rattle.rules.specs.declared.Handler.{Handler}
use Rattle.rules.specs.declared.Heard.{Heard}
use Rattle.rules.specs.declared.Sample.{Sample}
use Rattle.laws.proofs.Samples.Heard.{heard_raise}

-- an access raises local 5, or none
pub raises_either : (h : Handler) (x : Access) (j : ℕ) (P : Bool → Type 0) → P (bit 0 j) → P (bit (2 ^ 5) j) → P (bit (effects h x).raises j)
unfolding effects accessed
raises_either h x j P a b = go (verdict h x)
  where
    at : (t : Bool) → P (bit (cond t (2 ^ 5) 0) j)
    at true = b
    at false = a

    go : (v : Verdict) → P (bit (accessed_by v h x).effects.raises j)
    go (Ok tt) = a
    go (Err m) = at (eqb (refusal_number m) 12)

-- an accepted one raises none
pub accepted_raises : (h : Handler) (x : Access) → accepted h x ≡ true → (effects h x).raises ≡ 0
unfolding effects accessed
accepted_raises h x e = go (verdict h x) e
  where
    go : (v : Verdict) → accepts v ≡ true → (accessed_by v h x).effects.raises ≡ 0
    go (Ok tt) e = refl
    go (Err n) e = absurd (false≢true e)

-- ── no ping fails, no equal wires of an enabled alert, no wrong receive pair, and nothing raised by step 1: no local alert occurs ──

module _ (g : Handler) (s : Sample) (fx : Effects) (m : g.n ≤ most) (z : fx.raises ≡ 0) (f : fails (timed g s fx) g.links.turn ≡ false)
    (b : (i : ℕ) → i < most → alert_broken g s.alerts i ≡ false) (w : any_to (line_wrong g s) line_count ≡ false) where
  none_raised : (j : ℕ) → raised g s fx j ≡ false
  unfolding raised
  none_raised j =
      simp (f, any_none (alert_broken g s.alerts) g.n (λ i l. b i (omega arith)), w, z, bit_none j, and-false (eqb j 0), and-false (eqb j 1), and-false (eqb j 2), and-false (eqb j 3))

  pub none_occurs : (j : ℕ) → j < local_count → occurs g (heard g s fx) j ≡ false
  unfolding occurs
  none_occurs j l = ap (λ (b : Bool). b && eqb (local g Field.En j) 1) (heard_raise g s fx j l ∙ none_raised j)

-- ── what a ping that fails and a wrong receive pair raise, in the state g after step 1, by the sample s ──

module _ (h : Handler) (x : Access) (g : Handler) (s : Sample) where
  -- local 0 is raised where an alert's ping fails and nowhere else, local 1 where a line's does
  pub raised_0 : raised g s (effects h x) 0 ≡ fails_alert (timed g s (effects h x)) g.links.turn
  unfolding bit raised
  raised_0 =
      ap (λ (b : Bool). fails_alert (timed g s (effects h x)) g.links.turn || b) (raises_either h x 0 (λ t. t ≡ false) refl refl)
      ∙ or-false (fails_alert (timed g s (effects h x)) g.links.turn)

  pub raised_1 : raised g s (effects h x) 1 ≡ fails_line (timed g s (effects h x)) g.links.turn
  unfolding bit raised
  raised_1 =
      ap (λ (b : Bool). fails_line (timed g s (effects h x)) g.links.turn || b) (raises_either h x 1 (λ t. t ≡ false) refl refl)
      ∙ or-false (fails_line (timed g s (effects h x)) g.links.turn)

  -- local 3 where a receive pair is wrong
  pub raised_3 : raised g s (effects h x) 3 ≡ any_to (line_wrong g s) line_count
  unfolding bit raised
  raised_3 =
      ap (λ (b : Bool). any_to (line_wrong g s) line_count || b) (raises_either h x 3 (λ t. t ≡ false) refl refl)
      ∙ or-false (any_to (line_wrong g s) line_count)

-- ── class k, by the state g after step 1 and the sample s ──

module _ (h : Handler) (x : Access) (g : Handler) (s : Sample) (k : ℕ) where
  abbrev v : Heard
  v = heard g s (effects h x)

  -- local alert j is disabled or assigned to another class
  abbrev Elsewhere : ℕ → Type 0
  Elsewhere j = (eqb (local g Field.En j) 1 && eqb (local g Field.Class j) k) ≡ false

  -- no ping fails, or local 0 and local 1, which a failing one raises, are elsewhere
  abbrev FailsNone : Type 0
  FailsNone = (fails (timed g s (effects h x)) g.links.turn ≡ false) ⊎ (Elsewhere 0 × Elsewhere 1)

  -- no receive pair is wrong, or local 3, which a wrong one raises, is elsewhere
  abbrev WrongNone : Type 0
  WrongNone = (any_to (line_wrong g s) line_count ≡ false) ⊎ Elsewhere 3

  abbrev none : ℕ → Type 0
  none j = (occurs g v j && eqb (local g Field.Class j) k) ≡ false

  -- such a one does not occur in class k
  off : (j : ℕ) → Elsewhere j → none j
  unfolding occurs
  off j e = go (bit v.raises j)
    where
      go : (r : Bool) → ((r && eqb (local g Field.En j) 1) && eqb (local g Field.Class j) k) ≡ false
      go true = e
      go false = refl

  -- nor does one that is not raised: by step 1 alone, which raises another
  still : (j : ℕ) → j < local_count → raised g s (effects h x) j ≡ bit (effects h x).raises j → bit 0 j ≡ false → bit (2 ^ 5) j ≡ false → none j
  unfolding occurs
  still j l e a b =
      ap (λ (r : Bool). (r && eqb (local g Field.En j) 1) && eqb (local g Field.Class j) k)
      (heard_raise g s (effects h x) j l ∙ e ∙ raises_either h x j (λ t. t ≡ false) a b)

  -- local 0 and local 1 in class k
  no_failure : FailsNone → none 0 × none 1
  unfolding bit raised
  no_failure (inl f) = (
    still 0 (omega arith) (ap (λ (b : Bool). (b && not (is_line g.links.turn)) || bit (effects h x).raises 0) f) refl refl,
    still 1 (omega arith) (ap (λ (b : Bool). (b && is_line g.links.turn) || bit (effects h x).raises 1) f) refl refl,
  )
  no_failure (inr e) = (off 0 e.0, off 1 e.1)

  -- local 3 in class k
  no_wrong : WrongNone → none 3
  unfolding bit raised
  no_wrong (inl w) = still 3 (omega arith) (ap (λ (b : Bool). b || bit (effects h x).raises 3) w) refl refl
  no_wrong (inr e) = off 3 e

  -- where no ping fails and no receive pair is wrong, or local 0, 1 and 3 are elsewhere, and local 2 and local 5 are, none occurs in class k
  pub no_local : FailsNone → WrongNone → Elsewhere 2 → Elsewhere 5 → any_to (λ j. occurs g v j && eqb (local g Field.Class j) k) local_count ≡ false
  unfolding bit raised
  no_local f w two five = any_none (λ j. occurs g v j && eqb (local g Field.Class j) k) local_count each
    where
      each : (j : ℕ) → j < local_count → none j
      each zero l = (no_failure f).0
      each (suc zero) l = (no_failure f).1
      each (suc (suc zero)) l = off 2 two
      each (suc (suc (suc zero))) l = no_wrong w
      each (suc (suc (suc (suc zero)))) l = still 4 l refl refl refl
      each (suc (suc (suc (suc (suc zero))))) l = off 5 five
      each (suc (suc (suc (suc (suc (suc zero)))))) l = still 6 l refl refl refl
      each (suc (suc (suc (suc (suc (suc (suc j))))))) l = absurd (omega arith)
