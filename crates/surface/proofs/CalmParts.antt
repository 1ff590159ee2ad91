-- The parts of what a calm call gives and of the list that it leaves.
-- Assumes nothing.
use Prim.Native.Nat.{ℕ}
use mathlib.Core.Path.{◌≡◌, ap, ◌∙◌}
use mathlib.Core.Bool.{true}
use mathlib.Core.List.{List}
use lib.ListN.{length, take, drop}
use Rattle.calm.specs.CalmedBy.{CalmedBy}
use Rattle.calm_laws.proofs.CallTicks.{call_is_run, call_words_law, call_rest}
use Rattle.calm_rules.specs.Call.{calmed, call_inputs, call_words}
use Rattle.calm_rules.specs.declared.Calmed.{Calmed}
use Rattle.escalation.proofs.Demand3 as theorem
use Rattle.escalation.specs.Escalation.{Demand3}
use Rattle.rules.specs.Run.{run}
use Rattle.rules.specs.Valid.{valid}
use Rattle.rules.specs.declared.Handler.{Handler}
use Rattle.rules.specs.declared.Wires.{Wires}
use Rattle.surface.specs.CallParts.{CalmWords, CalmLater}

pub calm_parts : (h : Handler) (w : Wires) (n : ℕ) (list : List ℕ) (r : Calmed) (left : List ℕ) → CalmedBy h w n list r left
    → (r.handler ≡ run h (call_inputs h w n list))
    × ((r.answer ≡ (calmed h w n list).answer)
    × ((r.output ≡ (calmed h w n list).output)
    × (CalmWords h w n list left × (CalmLater h w n list left × (valid h ≡ true → Demand3 h (call_inputs h w n list))))))
calm_parts h w n list r left e = (
  ap (λ (c : Calmed). c.handler) e.gives ∙ call_is_run h w n list,
  (
    ap (λ (c : Calmed). c.answer) e.gives,
    (
      ap (λ (c : Calmed). c.output) e.gives,
      (
        ap (take (length (call_words h w n list))) e.leaves ∙ call_words_law h w n list,
        (ap (drop (length (call_words h w n list))) e.leaves ∙ call_rest h w n list, theorem.demand3 h (call_inputs h w n list)),
      ),
    ),
  ),
)
