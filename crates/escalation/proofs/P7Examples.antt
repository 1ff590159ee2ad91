-- P7 from the theorem: an escalation that starts in tick 100, for every list of later inputs that is long enough.
-- Assumes nothing.
use Prim.Native.Nat.{ℕ, suc, ◌+◌, ◌-◌, ◌≤◌, ◌<◌}
use mathlib.Core.Path.{◌≡◌, refl, sym, ap, ◌∙◌, subst}
use mathlib.Core.Logic.{◌≢◌}
use mathlib.Core.Bool.{true}
use mathlib.Core.List.{List, [], ◌∷◌}
use native.Mathlib.Omega.{arith}
use lib.ListN.{length}
use Rattle.class_rules.proofs.ClassLaws.{state_number_law}
use Rattle.class_rules.specs.Class.{phase, state_of, state_number}
use Rattle.class_rules.specs.declared.Class.{Class}
use Rattle.class_rules.specs.declared.ClassState.{ClassState}
use Rattle.class_rules.specs.declared.ClassState.TheVariants.{Terminal}
use Rattle.laws.proofs.State.StateNumber.{number_state}
use Rattle.laws.proofs.Valid.ValidLaws.{facts}
use Rattle.rules.specs.Scenes.{raise, none}
use Rattle.rules.proofs.Scenes.{rules}
use Rattle.rules.specs.Run.{run}
use Rattle.rules.specs.State.{class_count, class_at}
use Rattle.rules.specs.Valid.{valid}
use Rattle.rules.specs.declared.Handler.{Handler}
use Rattle.rules.specs.declared.Input.{Input}
use Rattle.escalation.specs.Escalation.{OfPhase, state_in, Starts, Escalated}
use Rattle.escalation.specs.List.{given_at, class_read}
use Rattle.escalation.proofs.Demand3.{demand3}
use Rattle.escalation.proofs.StartExamples.{locked, post}
use Rattle.escalation.proofs.ListTicks.{at_valid, given_handler}

-- ── a start in tick 100, the first of the list, and any later inputs ys ──

module _ (h : Handler) (x : Input) (ys : List Input) (v : valid h ≡ true) (t : ℕ) (from : 100 ≤ t) (to : t ≤ 100 + length ys) where
  from100 : (k : ℕ) → Starts h x k → Escalated (class_read h x k) 100 t (given_at 100 h (x ∷ ys) t) k
  unfolding run
  from100 k s =
      (demand3 h (x ∷ ys) v).escalation 100 k 100 (record { from = omega arith; to = omega arith }) s t from
      (record { from = omega arith; to = omega arith })

  -- the number that STATE reads as
  state_reads : (k : ℕ) → k < class_count → (m : ClassState) → state_in (given_at 100 h (x ∷ ys) t).handler k ≡ m
      → (class_at (given_at 100 h (x ∷ ys) t).handler k).state ≡ state_number m
  state_reads k l m e =
      let ok : valid (given_at 100 h (x ∷ ys) t).handler ≡ true =
      ap valid (given_handler h (x ∷ ys) v (t - 100) (omega arith)) ∙ at_valid h (x ∷ ys) v (suc (t - 100)) in
      sym (number_state _ ((facts _ ok).classes k l).state) ∙ ap state_number e

-- ── P7: class 2 of two alerts, lengths 0, 10, 10 and last ──

abbrev pub class : ℕ → Class
class last = locked 0 0 (0 ∷ 10 ∷ 10 ∷ last ∷ [])

abbrev pub station : ℕ → Handler
station last = post 2 (class last)

-- alert 1 rises in tick 100, and then come any inputs: class 2 after tick t
abbrev after : ℕ → List Input → ℕ → Class
after last ys t = class_at (given_at 100 (station last) (raise 1 none ∷ ys) t).handler 2

started : (last : ℕ) → Starts (station last) (raise 1 none) 2
unfolding rules
started last = record { is_class = omega arith; is_start = refl; is_locked = refl; has_en = refl; has_lock = refl }

is_read : (last : ℕ) → class_read (station last) (raise 1 none) 2 ≡ class last
unfolding rules
is_read last = refl

pub valid_5 : valid (station 5) ≡ true
unfolding rules
valid_5 = refl

valid_most : valid (station 4294967295) ≡ true
unfolding rules
valid_most = refl

module _ (last : ℕ) (v : valid (station last) ≡ true) (ys : List Input) (t : ℕ) (from : 100 ≤ t) (to : t ≤ 100 + length ys) where
  pub escalated : Escalated (class last) 100 t (given_at 100 (station last) (raise 1 none ∷ ys) t) 2
  escalated =
      subst (λ (c : Class). Escalated c 100 t (given_at 100 (station last) (raise 1 none ∷ ys) t) 2) (is_read last)
      (from100 (station last) (raise 1 none) ys v t from to 2 (started last))

  in_phase_law : (p : ℕ) → p < 4 → OfPhase (class last) 100 p t → (after last ys t).state ≡ state_number (phase p)
  in_phase_law p l o = state_reads (station last) (raise 1 none) ys v t from to 2 (omega arith) (phase p) ((escalated.in_phase_law p l).1 o)

  in_terminal : 121 + last ≤ t → 0 < last → (after last ys t).state ≡ 3
  in_terminal l p = state_reads (station last) (raise 1 none) ys v t from to 2 (omega arith) Terminal (escalated.in_terminal.1 (omega arith))

  before_terminal : t < 121 + last → (after last ys t).state ≢ 3
  before_terminal l e = omega (arith, escalated.in_terminal.0 (ap state_of e ∙ state_number_law Terminal))

-- "Lengths 0, 10, 10, 5, start in tick 100, no clear: phases start at 100, 101, 111, 121; Terminal at 126"
p7 : (ys : List Input) (t : ℕ) → 100 ≤ t → t ≤ 100 + length ys
    → (t < 101 → (after 5 ys t).state ≡ 4)
    × (101 ≤ t → t < 111 → (after 5 ys t).state ≡ 5)
    × (111 ≤ t → t < 121 → (after 5 ys t).state ≡ 6)
    × (121 ≤ t → t < 126 → (after 5 ys t).state ≡ 7)
    × (126 ≤ t → (after 5 ys t).state ≡ 3)
p7 ys t from to = (
  λ (b : t < 101). in_phase_law 5 valid_5 ys t from to 0 (omega arith) (record { from = omega arith; to = omega arith }),
  λ (a : 101 ≤ t) (b : t < 111). in_phase_law 5 valid_5 ys t from to 1 (omega arith) (record { from = omega arith; to = omega arith }),
  λ (a : 111 ≤ t) (b : t < 121). in_phase_law 5 valid_5 ys t from to 2 (omega arith) (record { from = omega arith; to = omega arith }),
  λ (a : 121 ≤ t) (b : t < 126). in_phase_law 5 valid_5 ys t from to 3 (omega arith) (record { from = omega arith; to = omega arith }),
  λ a. in_terminal 5 valid_5 ys t from to a (omega arith),
)

-- "With 4294967295 as the last length, Terminal comes at 4294967416"
p7_most : (ys : List Input) → 4294967316 ≤ length ys
    → ((after 4294967295 ys 4294967415).state ≢ 3) × ((after 4294967295 ys 4294967416).state ≡ 3)
p7_most ys l = (
  before_terminal 4294967295 valid_most ys 4294967415 (omega arith) (omega arith) (omega arith),
  in_terminal 4294967295 valid_most ys 4294967416 (omega arith) (omega arith) (omega arith) (omega arith),
)
