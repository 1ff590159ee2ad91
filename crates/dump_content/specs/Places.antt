-- What stands at a bit of the bytes.
-- Assumes nothing.
use Rattle.std.specs.Prelude.{ℕ, ◌+◌, ◌*◌, List, length, drop}
use Rattle.bits.specs.Bits.{num}
use Rattle.bits.specs.Index.{each}
use Rattle.dump_map.specs.Kinds.{has_kind}
use Rattle.dump_map.specs.declared.Kind.{Kind}
use Rattle.dump_rules.specs.Shown.{ShownStage, picks}
use Rattle.dump_rules.specs.declared.ContentClass.{ContentClass}
use Rattle.formats.specs.BitList.{bits_of_bytes, filled}
use Rattle.rules.specs.Map.{decode}

-- a number of w bits
abbrev pub number_at : List ℕ → ℕ → ℕ → ℕ
number_at bytes at w = filled w (drop at (bits_of_bytes bytes))

abbrev pub class_at_bit : List ℕ → ℕ → ContentClass
class_at_bit bytes at = record { state = number_at bytes at 3; count = number_at bytes (at + 3) 32; accum = number_at bytes (at + 35) 16 }

-- a bit for each register of a kind, by register number
abbrev pub flag_at_bit : Kind → List ℕ → ℕ → ℕ → ℕ → ℕ
flag_at_bit kind bytes n at r = number_at bytes (at + length (picks (λ x. has_kind kind (decode n x)) 0 r)) (num (has_kind kind (decode n r)))

abbrev pub stage_at_bit : List ℕ → ℕ → ShownStage
stage_at_bit bytes at = record { register = number_at bytes at 16; value = number_at bytes (at + 16) 32 }

abbrev pub stages_at_bit : List ℕ → ℕ → ℕ → List ShownStage
stages_at_bit bytes at k = each k (λ i. stage_at_bit bytes (at + 48 * i))
