-- What a class gets in each tick of a trace, as a list that is computed of each run by itself: equal lists are the theorem's hypothesis, of the tick.
-- Assumes nothing.
use Prim.Native.Nat.{ℕ, zero, suc, ◌-◌, ◌<◌}
use mathlib.Core.Path.{◌≡◌, refl, sym, ap, ◌∙◌}
use mathlib.Core.Bool.{Bool}
use mathlib.Core.List.{List, [], ◌∷◌}
use native.Mathlib.Nat.{le_of_suc-le-suc, not-suc-le-zero}
use native.Mathlib.Omega.{arith}
use lib.ListN.{get_or, length}
use Rattle.bits.specs.Bits.{bit}
use Rattle.escalation.proofs.ListTicks
use Rattle.escalation.proofs.ListTicks.{input}
use Rattle.escalation.specs.List.{no_input}
use Rattle.rules.specs.Run.{run}
use Rattle.rules.specs.Stages.{class_stages}
use Rattle.rules.specs.State.{class_at}
use Rattle.rules.specs.Tick.{ticked, event_in}
use Rattle.rules.specs.declared.Access.{Access}
use Rattle.rules.specs.declared.Handler.{Handler}
use Rattle.rules.specs.declared.Input.{Input}
use Rattle.isolation.specs.Isolation.{Alike, AlikeEnable}
use Rattle.isolation.specs.OwnAccess.{own, changes_state, changes_enable}

-- an event or none, the access to its block, a change of its bit of INTR_STATE by software or none
pub record Got : Type 0 where
  pub has_event : Bool
  pub access : Access
  pub change : Bool

abbrev pub got : ℕ → Handler → Input → Got
got k g x = record { has_event = event_in g x k; access = own g x.access k; change = changes_state g x.access k }

-- what a view of the state before a tick and of its input gives, for each tick of a run
unfoldable pub along : {A : Type 0} → (Handler → Input → A) → Handler → List Input → List A
along view h [] = []
along view h (x ∷ xs) = view h x ∷ along view (ticked h x).handler xs

abbrev pub gets : ℕ → Handler → List Input → List Got
gets k h xs = along (got k) h xs

-- the changes by software of its bit of INTR_ENABLE
abbrev pub enables : ℕ → Handler → List Input → List Bool
enables k h xs = along (λ g x. changes_enable g x.access k) h xs

module _ {A : Type 0} (view : Handler → Input → A) where
  length_along : (h : Handler) (xs : List Input) → length (along view h xs) ≡ length xs
  unfolding along
  length_along h [] = refl
  length_along h (x ∷ xs) = ap suc (length_along (ticked h x).handler xs)

  pub along_at : (h : Handler) (xs : List Input) (i : ℕ) (d : A) → i < length xs → get_or (along view h xs) i d ≡ view (ListTicks.at h xs i) (input xs i)
  unfolding along run
  along_at h [] i d l = absurd (not-suc-le-zero l)
  along_at h (x ∷ xs) zero d l = refl
  along_at h (x ∷ xs) (suc i) d l = along_at (ticked h x).handler xs i d (le_of_suc-le-suc l)

  module _ (h : Handler) (xs : List Input) (f : Handler) (ys : List Input) (e : along view h xs ≡ along view f ys) where
    one_length : length xs ≡ length ys
    one_length = sym (length_along h xs) ∙ ap length e ∙ length_along f ys

    -- equal lists are equal in each tick
    same_at : (i : ℕ) → i < length xs → view (ListTicks.at h xs i) (input xs i) ≡ view (ListTicks.at f ys i) (input ys i)
    same_at i l =
        let d : A = view h no_input in
        sym (along_at h xs i d l) ∙ ap (λ (vs : List A). get_or vs i d) e ∙ along_at f ys i d (let n = one_length in omega arith)

module _ (k first : ℕ) (h : Handler) (xs : List Input) (f : Handler) (ys : List Input) where
  pub alike_by : gets k h xs ≡ gets k f ys → class_at h k ≡ class_at f k → class_stages h.stages k ≡ class_stages f.stages k
      → bit h.interrupts.state k ≡ bit f.interrupts.state k → Alike k first h xs f ys
  alike_by e c s b =
      record {
        same_class = c;
        same_stages = s;
        same_bit = b;
        same_tick = λ t m. let o = same_at (got k) h xs f ys e (t - first) (omega (arith, m.from, m.to)) in record {
          same_event = ap (λ (g : Got). g.has_event) o;
          same_access = ap (λ (g : Got). g.access) o;
          same_change = ap (λ (g : Got). g.change) o;
        };
      }

  pub enable_by : enables k h xs ≡ enables k f ys → bit h.interrupts.enable k ≡ bit f.interrupts.enable k → AlikeEnable k first h xs f ys
  enable_by e b =
      record {
        same_enable = b;
        same_change = λ t m. same_at (λ g x. changes_enable g x.access k) h xs f ys e (t - first) (omega (arith, m.from, m.to));
      }
