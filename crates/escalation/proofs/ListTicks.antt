-- The ticks of a list by their index: tick i takes the state after i ticks to the state after i + 1, and its lines are those of that state.
-- Assumes nothing.
use Prim.Native.Nat.{ℕ, suc, ◌<◌}
use mathlib.Core.Path.{◌≡◌, sym, ap, ◌∙◌}
use mathlib.Core.Bool.{true}
use mathlib.Core.List.{List}
use lib.ListN.{get_or, length, take}
use Rattle.laws.proofs.Valid.KeepsValid.{run_valid}
use Rattle.laws.proofs.Valid.Refusal7.{ticked_handler, ticked_lines}
use Rattle.laws.proofs.Tick.Runs.{run_next, ticks_at}
use Rattle.rules.specs.Run.{run, ticks}
use Rattle.rules.specs.Tick.{lines, after}
use Rattle.rules.specs.Valid.{valid}
use Rattle.rules.specs.declared.Handler.{Handler}
use Rattle.rules.specs.declared.Input.{Input}
use Rattle.rules.specs.declared.Ticked.{Ticked}
use Rattle.escalation.specs.List.{no_input, no_tick}

-- the state after i ticks, and the input of tick i
abbrev pub at : Handler → List Input → ℕ → Handler
at h xs i = run h (take i xs)

abbrev pub input : List Input → ℕ → Input
input xs i = get_or xs i no_input

module _ (h : Handler) (xs : List Input) (v : valid h ≡ true) where
  pub at_valid : (i : ℕ) → valid (at h xs i) ≡ true
  at_valid i = run_valid h (take i xs) v

  pub at_next : (i : ℕ) → i < length xs → at h xs (suc i) ≡ after (at h xs i) (input xs i)
  at_next i l = run_next h xs i no_input l ∙ ticked_handler (at h xs i) (input xs i) (at_valid i)

  pub given_handler : (i : ℕ) → i < length xs → (get_or (ticks h xs) i no_tick).handler ≡ at h xs (suc i)
  given_handler i l = ap (λ (t : Ticked). t.handler) (ticks_at h xs i no_input no_tick l) ∙ sym (run_next h xs i no_input l)

  pub given_lines : (i : ℕ) → i < length xs → (get_or (ticks h xs) i no_tick).output.lines ≡ lines (get_or (ticks h xs) i no_tick).handler
  given_lines i l = rw (ticks_at h xs i no_input no_tick l) (ticked_lines (at h xs i) (input xs i) (at_valid i))
