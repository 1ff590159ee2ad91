-- `places::bit_at` meets its contract.
-- Assumes nothing.
use Prim.Native.Nat.{◌/◌}
use native.Mathlib.Omega.{arith}
use borrow.Author.Rules.{rules}
use Rattle.formats.proofs.BitAtLaws.{bit_number, bit_past}
use Rattle.dump_reader.proofs.places.bit_at.Goals as goal

pub overflow_cast-b : goal.overflow_cast-b
overflow_cast-b c = omega (arith, c.shared_slice_known-1.given (c.args.p / 8))

pub returns-then-i-bytes : goal.returns-then-i-bytes
returns-then-i-bytes c = bit_number _ _

pub returns-else-i-bytes : goal.returns-else-i-bytes
returns-else-i-bytes c = bit_past _ _ (search rules)
