-- Wrong turns: the texts joined depend on where the reads cut the input.
-- Assumes nothing.
use Prim.Native.Nat.{ℕ}
use mathlib.Core.Path.{◌≡◌, ap}
use mathlib.Core.List.{List, [], ◌∷◌}
use native.Mathlib.Omega.{arith}
use lib.ListN.{get_or, length, take, drop}
use Rattle.bits.specs.Fields.{to_bytes}
use Rattle.rules.proofs.Scenes.{rules}
use Rattle.rules.specs.Run.{run}
use Rattle.rules.specs.State.{new_handler}
use Rattle.rules.specs.declared.Handler.{Handler}
use Rattle.trace_rules.proofs.TraceScenes.{traces}
use Rattle.trace_rules.specs.Record.{inputs_of}
use Rattle.trace_rules.specs.declared.Edition.{Edition}
use Rattle.replay_rules.specs.Prints.{words_text, records_text}
use Rattle.replay_rules.specs.Turns.{joined}
use Rattle.replay_rules.proofs.PrintScenes.{texts, reads321}

abbrev Joins : (Edition → Handler → List (List ℕ) → List (List ℕ)) → Type 0
Joins f = (e : Edition) (h : Handler) (ps : List (List ℕ)) → joined (f e h ps) ≡ records_text e h (joined ps)

-- the bytes of an unfinished record are forgotten
unfoldable pub rest_lost : Edition → Handler → List (List ℕ) → List (List ℕ)
rest_lost e h [] = []
rest_lost e h (p ∷ ps) = words_text e h p ∷ rest_lost e (run h (inputs_of e p)) ps

pub no_rest_lost : ¬ Joins rest_lost
unfolding rules traces texts rest_lost
no_rest_lost r =
    let d = ap (λ (t : List ℕ). length t) (r Edition.Alerts64 (new_handler 1) (take 10 reads321 ∷ drop 10 reads321 ∷ [])) in
    omega (arith, d)

-- each turn begins from the first state: two equal writes of EN of alert 0 enable it, and the third turn reads it; byte 49 is the last digit of the third word
unfoldable pub state_lost : Edition → Handler → List (List ℕ) → List (List ℕ)
state_lost e h [] = []
state_lost e h (p ∷ ps) = words_text e h p ∷ state_lost e h ps

pub no_state_lost : ¬ Joins state_lost
unfolding rules traces texts state_lost
no_state_lost r =
    let w = to_bytes 24 0x880000000000000100000000000000008000000000000000 in
    let g = to_bytes 24 0x480000000000000000000000000000008000000000000000 in
    let d = ap (λ (t : List ℕ). get_or t 49 0) (r Edition.Alerts64 (new_handler 1) (w ∷ w ∷ g ∷ [])) in
    omega (arith, d)
