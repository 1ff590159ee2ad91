-- "The program reads from standard input one byte N, then records": which records, by the first byte, in sentences.
-- Assumes nothing.
use Rattle.std.specs.Prelude.{ℕ, ◌≤◌, ◌≡◌}
use Rattle.trace_rules.specs.declared.Edition.{Edition}

pub record FirstByte (edition : ℕ → Edition) : Type 0 where
  -- request (iii): "A program input whose first byte is 255 holds N next and new records"
  pub at_255 : edition 255 ≡ Edition.Alerts248
  -- request (ix): "Records grow to 75 bytes .., first byte 254"
  pub at_254 : edition 254 ≡ Edition.Pings
  -- request (xi): "In records four receive pairs .. replace the answer byte, first byte 253"
  pub at_253 : edition 253 ≡ Edition.Wires
  -- request (iii): "other inputs are read as before"
  pub others : (first : ℕ) → first ≤ 252 → edition first ≡ Edition.Alerts64
