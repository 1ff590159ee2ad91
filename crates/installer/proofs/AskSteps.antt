-- One access, from what a tick gave.
-- Assumes nothing.
use Prim.Native.Nat.{ℕ, ◌^◌, ◌<◌}
use mathlib.Core.Path.{◌≡◌, refl, sym, ap, ◌∙◌}
use mathlib.Core.Bool.{Bool, true, false, cond}
use native.Mathlib.Omega.{arith}
use borrow.Author.Tests.{eq-eqb, ne_eqb}
use lib.IntN.{ℤ, pos, negsuc}
use lib.ListN.{replicate}
use mir.Facts.{to_z-of_z}
use mir.Syntax.{w64}
use mir.Val.{SFits, to_z, of_z}
use Rattle.handler.specs.Answered.{answered}
use Rattle.handler.specs.declared.tick.Answered.{Answered}
use Rattle.policy.specs.Install.{Ask, rest, is, under, asked}
use Rattle.policy.specs.Progress.{Progress}
use Rattle.rules.specs.Tick.{ticked}
use Rattle.rules.specs.declared.Handler.{Handler}
use Rattle.rules.specs.declared.Input.{Input}

-- ── a signed answer, compared with a value ──

same_value : (z : ℤ) (v : ℕ) → of_z w64 z ≡ v → SFits w64 z → v < 2 ^ 32 → is z v ≡ true
same_value (pos n) v e f l = eq-eqb n v e
same_value (negsuc n) v e f l = let m : n < 2 ^ 63 = f.sfits in absurd (omega arith)

other_value : (z : ℤ) (v : ℕ) → (of_z w64 z ≡ v → ⊥) → is z v ≡ false
other_value (pos n) v e = ne_eqb n v e
other_value (negsuc n) v e = refl

-- ── one access ──

abbrev pub halt : Handler → ℕ → ℤ → Progress
halt h r z = record { reached = record { handler = h; answer = z; register = r; spare = replicate 6 0 }; going = false }

module _ (h : Handler) (a : Ask) (x : Input) (t : Answered) (f : SFits w64 t.answer) (ex : x ≡ rest a.access) (et : t ≡ answered (ticked h x)) where
  -- what was given, in the words of the definition
  asked_is : (b : Bool) → is t.answer a.wanted ≡ b → cond b (under t.handler) (halt t.handler a.register t.answer) ≡ asked h a
  unfolding asked answered
  asked_is b e =
      ap (λ (y : Bool). cond y (under t.handler) (halt t.handler a.register t.answer)) (sym e)
      ∙ ap (λ (s : Answered). cond (is s.answer a.wanted) (under s.handler) (halt s.handler a.register s.answer))
      (et ∙ ap (λ (y : Input). answered (ticked h y)) ex)

  pub asked_same : of_z w64 t.answer ≡ a.wanted → a.wanted < 2 ^ 32 → under t.handler ≡ asked h a
  asked_same e l = asked_is true (same_value t.answer a.wanted e f l)

  -- the answer is one of 64 bits, and so reads back as it is
  pub asked_other : (of_z w64 t.answer ≡ a.wanted → ⊥)
      → halt t.handler a.register (to_z w64 (of_z w64 t.answer)) ≡ asked h a
  asked_other e = ap (λ (z : ℤ). halt t.handler a.register z) (to_z-of_z f) ∙ asked_is false (other_value t.answer a.wanted e)
