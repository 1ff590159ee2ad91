-- "Numbers that come back": refusal 7 is met exactly by a state that is not valid, and then the tick is not run.
-- Assumes nothing.
use Prim.Native.Nat.{ℕ}
use mathlib.Core.Path.{◌≡◌, refl, sym, ap, ◌∙◌}
use mathlib.Core.Bool.{Bool, true, false, cond, not, ◌&&◌}
use mathlib.Core.Logic.{◌↔◌}
use mathlib.Core.List.{List, [], ◌∷◌}
use native.Mathlib.Omega.{arith}
use borrow.Author.Tests.{eq-eqb, not-true}
use lib.Dec.{eqb}
use lib.IntN.{pos, neg_ℤ, neg_ℤ-neg_ℤ}
use Rattle.std.specs.Prelude.{Err}
use Rattle.bits.proofs.IndexLaws.{and-true}
use Rattle.rules.specs.Access.{verdict, access_cases, given, accessed_by, accessed, answer_to}
use Rattle.rules.specs.Answer.{Case, first_of, number, refusal_number, Verdict}
use Rattle.rules.specs.Tick.{lines, output_of, after, tick, ticked, no_output}
use Rattle.rules.specs.Valid.{valid}
use Rattle.rules.specs.declared.Access.{Access}
use Rattle.rules.specs.declared.Access.TheVariants.{Nothing, Read, Write, Malformed}
use Rattle.rules.specs.declared.Answer.{Answer}
use Rattle.rules.specs.declared.Handler.{Handler}
use Rattle.rules.specs.declared.Input.{Input}
use Rattle.rules.specs.declared.Refusal.TheVariants.{BadState}
use Rattle.rules.specs.declared.Ticked.{Ticked}
use Rattle.laws.proofs.Map.Cases.{pick}

-- a valid state: the tick is run
pub ticked_good : (h : Handler) (x : Input) → valid h ≡ true → ticked h x ≡ tick h x
unfolding ticked
ticked_good h x e = rw e

-- it reaches the state after steps 1 to 4
pub ticked_handler : (h : Handler) (x : Input) → valid h ≡ true → (ticked h x).handler ≡ after h x
unfolding tick
ticked_handler h x e = ap (λ (t : Ticked). t.handler) (ticked_good h x e)

-- step 5: "outputs from the state now reached"
pub ticked_lines : (h : Handler) (x : Input) → valid h ≡ true → (ticked h x).output.lines ≡ lines (ticked h x).handler
unfolding tick output_of
ticked_lines h x e = rw (ticked_good h x e)

-- any other: state unchanged, refusal 7, interrupts and lines 0
pub ticked_bad : (h : Handler) (x : Input) → valid h ≡ false → ticked h x ≡ record { handler = h; answer = Answer.Refused BadState; output = no_output }
unfolding ticked
ticked_bad h x e = rw e

-- ── the answer of a tick that is run is never 7 ──

-- is the refusal number 7?
abbrev is_seven : Answer → Bool
is_seven Answer.Done = false
is_seven (Answer.Value v) = false
is_seven (Answer.Refused m) = eqb (refusal_number m) 7

number_seven : (a : Answer) → number a ≡ neg_ℤ (pos 7) → is_seven a ≡ true
unfolding number
number_seven Answer.Done e = let z : ◌≡◌ {A = ℕ} 0 1 = cc in absurd (omega arith)
number_seven (Answer.Value v) e = let z : ◌≡◌ {A = ℕ} 0 1 = cc in absurd (omega arith)
number_seven (Answer.Refused m) e =
    let p : pos (refusal_number m) ≡ pos 7 = sym (neg_ℤ-neg_ℤ (pos (refusal_number m))) ∙ ap neg_ℤ e in
    eq-eqb (refusal_number m) 7 (cc)

abbrev NotSeven : Answer → Type 0
NotSeven a = is_seven a ≡ false

given_other : (h : Handler) (x : Access) → NotSeven (given h x)
given_other h Nothing = refl
given_other h (Read r) = refl
given_other h (Write r v) = refl
given_other h Malformed = refl

-- no case of the list is 7's
abbrev no_seven : List Case → Bool
no_seven [] = true
no_seven (c ∷ cs) = not (is_seven (Answer.Refused c.refusal)) && no_seven cs

-- so the first that holds is not
first_other : (h : Handler) (x : Access) (cs : List Case) → no_seven cs ≡ true → NotSeven (given h x) → NotSeven (accessed_by (first_of cs) h x).answer
unfolding first_of
first_other h x [] e n = n
first_other h x (c ∷ cs) e n =
    let b = and-true (not (is_seven (Answer.Refused c.refusal))) (no_seven cs) e in
    pick (λ (v : Verdict). NotSeven (accessed_by v h x).answer) c.holds (Err c.refusal) (first_of cs)
    (λ _. not-true (is_seven (Answer.Refused c.refusal)) b.0)
    (λ _. first_other h x cs b.1 n)

answer_other : (h : Handler) (x : Access) → NotSeven (answer_to h x)
unfolding answer_to accessed verdict
answer_other h x = first_other h x (access_cases h x) refl (given_other h x)

seven_test : (h : Handler) (x : Input) → is_seven (ticked h x).answer ≡ not (valid h)
unfolding ticked tick
seven_test h x = go (valid h)
  where
    go : (b : Bool) → is_seven (cond b (tick h x) (record { handler = h; answer = Answer.Refused BadState; output = no_output })).answer ≡ not b
    go true = answer_other h x.access
    go false = refl

-- ── refusal 7 is given exactly where the state is not valid ──

-- as the signed number
pub seven_number : (h : Handler) (x : Input) → (number (ticked h x).answer ≡ neg_ℤ (pos 7)) ↔ (valid h ≡ false)
unfolding number
seven_number h x = (
  λ e. not-true (valid h) (sym (seven_test h x) ∙ number_seven (ticked h x).answer e),
  λ e. ap (λ (t : Ticked). number t.answer) (ticked_bad h x e),
)

-- as the answer
pub seven : (h : Handler) (x : Input) → ((ticked h x).answer ≡ Answer.Refused BadState) ↔ (valid h ≡ false)
unfolding number
seven h x = (λ e. (seven_number h x).0 (ap number e), λ e. ap (λ (t : Ticked). t.answer) (ticked_bad h x e))
