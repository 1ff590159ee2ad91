-- `back::wrong_lines` meets its contract.
-- Assumes nothing.
use native.Mathlib.Omega.{arith}
use Rattle.bits.proofs.BitLaws.{bit_none, is_bits_of}
use Rattle.link_rules.specs.Senders.{line_count}
use Rattle.samples.proofs.back.wrong_lines.Goals as goal

pub returns-in-Pairs : goal.returns-in-Pairs
returns-in-Pairs c = rw c.in-Pairs.is c.find_wrong.ensures

pub returns-in-Answers : goal.returns-in-Answers
returns-in-Answers c = rw c.in-Answers.is (is_bits_of line_count 0 _ (omega arith) (λ e h. bit_none e))
