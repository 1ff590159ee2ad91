-- The whole tick: the rules satisfy its sentences, and they leave no choice. Two handlers that satisfy them have, in every tick of every state
-- and input, the same state after it, the same number and the same outputs.
-- Assumes nothing.
use mathlib.Core.Path.{◌≡◌, refl, sym, ◌∙◌, ap, subst}
use mathlib.Core.Logic.{◌↔◌}
use mathlib.Core.Bool.{Bool, true, false, false≢true}
use lib.IntN.{ℤ}
use Rattle.rules.specs.Access.{accessed, acted, answer_to, effects}
use Rattle.rules.specs.Answer.{number}
use Rattle.rules.specs.Tick.{ticked}
use Rattle.rules.specs.Valid.{valid}
use Rattle.rules.specs.declared.Accessed.{Accessed}
use Rattle.rules.specs.declared.Answer.{Answer}
use Rattle.rules.specs.declared.Handler.{Handler}
use Rattle.rules.specs.declared.Input.{Input}
use Rattle.rules.specs.declared.Sample.{Sample}
use Rattle.rules.specs.declared.Ticked.{Ticked}
use Rattle.sentences.specs.AccessArrays.{Sized}
use Rattle.sentences.specs.Tick.{Runs}
use Rattle.sentences.specs.Valid.{Valid}
use Rattle.sentences.specs.Whole.{Whole}
use Rattle.sentences.proofs.AccessHolds.{holds_access}
use Rattle.sentences.proofs.AccessOnly.{only_access}
use Rattle.sentences.proofs.HoldsTick.{holds_step1, holds_tick, holds_numbers}
use Rattle.sentences.proofs.HoldsValid.{holds_valid}
use Rattle.sentences.proofs.OnlyTick.{same_ticked, same_refused, only_numbers}

unfoldable pub holds_whole : Whole ticked number
unfolding acted answer_to effects
holds_whole = record { step1 = accessed; accesses = holds_access; given = holds_step1; ticks = holds_tick; numbers = holds_numbers }

-- what two ticks have in common
pub record Same (m n : Answer → ℤ) (t u : Ticked) : Type 0 where
  pub state : t.handler ≡ u.handler
  pub answer : m t.answer ≡ n u.answer
  pub output : t.output ≡ u.output

-- steps 1 that leave one state and hand on the same, and answer the same number
module _ (m n : Answer → ℤ) (a b : Accessed) (s : Sample) (t u : Ticked) (v : Valid a.handler) (x : Runs a s t) (y : Runs b s u) where
  -- the second tick, with the first one's answer
  abbrev other : Ticked
  other = record { handler = u.handler; answer = a.answer; output = u.output }

  runs_other : a.handler ≡ b.handler → a.effects ≡ b.effects → Runs a s other
  runs_other e f =
      subst (λ (d : Accessed). Runs d s other) (λ i. record { handler = sym e i; answer = a.answer; effects = sym f i })
      (record {
        state2 = y.state2;
        step2 = y.step2;
        state4 = y.state4;
        steps34 = y.steps34;
        links = y.links;
        step5 = y.step5;
        answer = refl;
      })

  same_run : a.handler ≡ b.handler → a.effects ≡ b.effects → m a.answer ≡ n b.answer → Same m n t u
  same_run e f g =
      let d = same_ticked a s t other v x (runs_other e f) in
      record {
        state = ap (λ (t : Ticked). t.handler) d;
        answer = ap m x.answer ∙ g ∙ ap n (sym y.answer);
        output = ap (λ (t : Ticked). t.output) d;
      }

pub only_whole : (f g : Handler → Input → Ticked) (m n : Answer → ℤ) → Whole f m → Whole g n
    → (h : Handler) (x : Input) → Sized h → Same m n (f h x) (g h x)
only_whole f g m n p q h x l = go (valid h) (holds_valid h)
  where
    go : (t : Bool) → (t ≡ true) ↔ Valid h → Same m n (f h x) (g h x)
    go true v =
        let w = v.0 refl in
        let s = only_access _ _ _ _ _ _ p.accesses q.accesses h x.access w.n l in
        same_run m n (p.step1 h x.access) (q.step1 h x.access) x.sample (f h x) (g h x) (p.given.valid h x.access w)
        ((p.ticks h x).runs w) ((q.ticks h x).runs w) s.0 s.2 s.1
    go false v =
        let z : ¬ Valid h = λ w. false≢true (v.1 w) in
        let s = same_refused h (f h x) (g h x) ((p.ticks h x).refused z) ((q.ticks h x).refused z) in
        record {
          state = ap (λ (t : Ticked). t.handler) s;
          answer = ap m (ap (λ (t : Ticked). t.answer) s) ∙ only_numbers m n p.numbers q.numbers (g h x).answer;
          output = ap (λ (t : Ticked). t.output) s;
        }
