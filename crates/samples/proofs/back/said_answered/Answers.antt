-- `back::said_answered` meets its contract.
-- Assumes nothing.
use Rattle.bits.proofs.BitLaws.{bit_none}
use Rattle.samples.proofs.back.said_answered.Goals as goal

pub returns-in-Pairs : goal.returns-in-Pairs
returns-in-Pairs c = λ e. rw c.in-Pairs.is (bit_none e)

pub returns-in-Answers : goal.returns-in-Answers
returns-in-Answers c = λ e. rw c.in-Answers.is
