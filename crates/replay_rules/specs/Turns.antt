-- The program takes its input in turns: a read gives some bytes, a piece, and the records that are whole then are run and their words printed.
-- The bytes of a record that has not come whole are kept for the next turn. A read that gives nothing is the end.
-- Assumes nothing.
use Rattle.std.specs.Prelude.{ℕ, ◌*◌, cond, List, [], ◌∷◌, ◌++◌, length, drop}
use Rattle.rules.specs.Run.{run}
use Rattle.rules.specs.State.{new_handler}
use Rattle.rules.specs.declared.Handler.{Handler}
use Rattle.trace_rules.specs.Edition.{record_bytes}
use Rattle.trace_rules.specs.Record.{inputs_of, record_count}
use Rattle.trace_rules.specs.declared.Edition.{Edition}
use Rattle.replay_rules.specs.Prints.{words_text, end_text, refused_text, takes}

-- the bytes after the last whole record
abbrev pub rest_of : Edition → List ℕ → List ℕ
rest_of e bytes = drop (record_count e bytes * record_bytes e) bytes

-- pieces one after another, and texts
unfoldable pub joined : List (List ℕ) → List ℕ
joined [] = []
joined (p ∷ ps) = p ++ joined ps

-- what is handed to `write`, call by call, where the reads behind N give these pieces: from a state, with the bytes that are kept
unfoldable pub turn_texts : Edition → Handler → List ℕ → List (List ℕ) → List (List ℕ)
turn_texts e h kept [] = end_text (length kept) ∷ []
turn_texts e h kept (p ∷ ps) = words_text e h (kept ++ p) ∷ turn_texts e (run h (inputs_of e (kept ++ p))) (rest_of e (kept ++ p)) ps

-- behind a byte that is N
unfoldable pub start_texts : Edition → ℕ → List (List ℕ) → List (List ℕ)
start_texts e n ps = cond (takes e n) (turn_texts e (new_handler n) [] ps) (refused_text ∷ [])
