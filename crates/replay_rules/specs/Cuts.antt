-- The claim about cuts: the texts of the turns joined are what is printed for the whole input, however the reads cut it.
-- Assumes nothing.
use Rattle.std.specs.Prelude.{ℕ, ◌≤◌, ◌≡◌, List, [], ◌∷◌}
use Rattle.trace_rules.specs.declared.Edition.{Edition}
use Rattle.replay_rules.specs.Prints.{prints, refused_text}
use Rattle.replay_rules.specs.Turns.{joined, start_texts}

-- the first byte and N come by a read each, which is of one byte; ps are the pieces that the reads behind them give
pub record Cuts : Type 0 where
  -- no byte, or none behind a first byte that is no N
  pub missing : prints [] ≡ refused_text
  pub missing_n : (first : ℕ) → 253 ≤ first → first ≤ 255 → prints (first ∷ []) ≡ refused_text
  -- any other first byte is N
  pub others : (n : ℕ) (ps : List (List ℕ)) → n ≤ 252 → joined (start_texts Edition.Alerts64 n ps) ≡ prints (n ∷ joined ps)
  -- N behind a first byte
  pub at_255 : (n : ℕ) (ps : List (List ℕ)) → joined (start_texts Edition.Alerts248 n ps) ≡ prints (255 ∷ n ∷ joined ps)
  pub at_254 : (n : ℕ) (ps : List (List ℕ)) → joined (start_texts Edition.Pings n ps) ≡ prints (254 ∷ n ∷ joined ps)
  pub at_253 : (n : ℕ) (ps : List (List ℕ)) → joined (start_texts Edition.Wires n ps) ≡ prints (253 ∷ n ∷ joined ps)
