-- Request (xiv): the reader.
-- Assumes nothing.
use Rattle.std.specs.Prelude.{ℕ, suc, ◌-◌, ◌≡◌, ◌≢◌, ◌↔◌, Bool, true, ◌&&◌, List, [], ◌∷◌, ◌++◌, eqb, leb, length}
use Rattle.bits.specs.Bits.{fits}
use Rattle.class_rules.specs.Class.{state_of, state_fits, count_fits}
use Rattle.formats.specs.BitList.{bits_of_bytes}
use Rattle.formats.specs.Format.{Outcome, got, cut, wrong, Format, Chain, field, pair, as_type, chain, repeated}
use Rattle.rules.specs.Map.{decode, bits, is_lock, is_shadowed}
use Rattle.rules.specs.State.{most, class_count}
use Rattle.dump_rules.specs.Shown.{ShownClass, ShownStage, Shown, WellShown, picks, limit, is_cause, numbers_with}
use Rattle.dump_rules.specs.Dump.{mark, to_full, head_bits, dump_of}

-- ── what the reader is to give: the claim ──

abbrev pub IsDump : List ℕ → Shown → Type 0
IsDump bytes s = WellShown s × (bytes ≡ dump_of s)

-- the start of a dump, cut; of no bytes too
abbrev pub IsCut : List ℕ → Type 0
IsCut bytes = (s : Shown) × (rest : List ℕ) × (rest ≢ []) × IsDump (bytes ++ rest) s

-- what reading gives: a content, 17, 16
pub data Seen : Type 0 where
  shows : Shown → Seen
  cut_start : Seen
  no_dump : Seen

pub record Reads (bytes : List ℕ) (r : Seen) : Type 0 where
  pub content : (s : Shown) → (r ≡ shows s) ↔ IsDump bytes s
  pub seventeen : (r ≡ cut_start) ↔ IsCut bytes
  pub sixteen : (r ≡ no_dump) ↔ (((s : Shown) → ¬ IsDump bytes s) × ¬ IsCut bytes)

-- ── how it is found: the dump as a format, field by field ──

abbrev pub any_number : ℕ → Bool
any_number v = true

abbrev pub first : List ℕ → ℕ
first [] = 0
first (x ∷ xs) = x

abbrev pub later : List ℕ → List ℕ
later [] = []
later (x ∷ xs) = xs

-- each byte of the mark
abbrev pub mark_chain : Chain (List ℕ) ℕ
mark_chain = record { one = λ s k. field 8 (eqb (first s)); next = λ s x. later s; default = 0 }

-- count and accumulator of a class in a state
abbrev pub count_format : ℕ → Format (ℕ × ℕ)
count_format s = pair (field 32 (count_fits (state_of s))) (λ c. field 16 any_number)

abbrev pub class_from : ℕ × (ℕ × ℕ) → ShownClass
class_from p = record { state = p.0; count = p.1.0; accum = p.1.1 }

abbrev pub class_to : ShownClass → ℕ × (ℕ × ℕ)
class_to c = (c.state, (c.count, c.accum))

abbrev pub class_format : Format ShownClass
class_format = as_type class_from class_to (pair (field 3 state_fits) count_format)

abbrev pub no_class : ShownClass
no_class = record { state = 0; count = 0; accum = 0 }

abbrev pub classes_format : Format (List ShownClass)
classes_format = chain (repeated class_format no_class) class_count tt

abbrev pub bit_format : Format ℕ
bit_format = field 1 any_number

abbrev pub bits_format : ℕ → Format (List ℕ)
bits_format k = chain (repeated bit_format 0) k tt

-- how many shadowed registers there are from a number on
abbrev pub shadowed_from : ℕ → ℕ → ℕ
shadowed_from n a = length (picks (λ r. is_shadowed (decode n r)) a (limit - a))

-- the register of a stage that k follow: there are k shadowed ones above it
abbrev pub stage_at : ℕ → ℕ → ℕ → ℕ → Bool
stage_at n from k r = leb from r && (is_shadowed (decode n r) && leb k (shadowed_from n (suc r)))

abbrev pub value_format : ℕ → ℕ → Format ℕ
value_format n r = field 32 (fits (bits (decode n r)))

abbrev pub stage_from : ℕ × ℕ → ShownStage
stage_from p = record { register = p.0; value = p.1 }

abbrev pub stage_to : ShownStage → ℕ × ℕ
stage_to s = (s.register, s.value)

abbrev pub stage_format : ℕ → ℕ → ℕ → Format ShownStage
stage_format n from k = as_type stage_from stage_to (pair (field 16 (stage_at n from k)) (value_format n))

abbrev pub stage_chain : ℕ → Chain ℕ ShownStage
stage_chain n = record { one = stage_format n; next = λ from s. suc s.register; default = record { register = 0; value = 0 } }

abbrev pub stages_format : ℕ → Format (ℕ × List ShownStage)
stages_format n = pair (field 16 (λ k. leb k (shadowed_from n 0))) (λ k. chain (stage_chain n) k 0)

abbrev pub cause_count : ℕ → ℕ
cause_count n = length (numbers_with is_cause n)

abbrev pub lock_count : ℕ → ℕ
lock_count n = length (numbers_with is_lock n)

-- zeros to a full byte, and the stages
abbrev pub zero_format : ℕ → Format ℕ
zero_format n = field (to_full (head_bits (cause_count n) (lock_count n))) (eqb 0)

abbrev pub padded_format : ℕ → Format (ℕ × (ℕ × List ShownStage))
padded_format n = pair (zero_format n) (λ z. stages_format n)

-- the locks, the causes and the classes before them
abbrev pub locks_format : ℕ → Format (List ℕ × (ℕ × (ℕ × List ShownStage)))
locks_format n = pair (bits_format (lock_count n)) (λ ls. padded_format n)

abbrev pub flags_format : ℕ → Format (List ℕ × (List ℕ × (ℕ × (ℕ × List ShownStage))))
flags_format n = pair (bits_format (cause_count n)) (λ cs. locks_format n)

abbrev pub body_format : ℕ → Format (List ShownClass × (List ℕ × (List ℕ × (ℕ × (ℕ × List ShownStage)))))
body_format n = pair classes_format (λ c. flags_format n)

-- N, and before it the mark
abbrev pub alerts_format : Format ℕ
alerts_format = field 8 (λ n. leb n most)

abbrev pub unmarked_format : Format (ℕ × (List ShownClass × (List ℕ × (List ℕ × (ℕ × (ℕ × List ShownStage))))))
unmarked_format = pair alerts_format body_format

abbrev pub Parts : Type 0
Parts = List ℕ × (ℕ × (List ShownClass × (List ℕ × (List ℕ × (ℕ × (ℕ × List ShownStage))))))

abbrev pub parts_format : Format Parts
parts_format = pair (chain mark_chain 4 mark) (λ m. unmarked_format)

abbrev pub content_of : Parts → Shown
content_of p =
    record {
      n = p.1.0;
      classes = p.1.1.0;
      causes = p.1.1.1.0;
      locks = p.1.1.1.1.0;
      stages = p.1.1.1.1.1.1.1;
    }

abbrev pub parts_of : Shown → Parts
parts_of s = (mark, (s.n, (s.classes, (s.causes, (s.locks, (0, (length s.stages, s.stages)))))))

abbrev pub dump_format : Format Shown
dump_format = as_type content_of parts_of parts_format

-- bytes behind a whole dump make it none
abbrev pub seen : Outcome Shown → Seen
seen (got s []) = shows s
seen (got s (b ∷ bs)) = no_dump
seen cut = cut_start
seen wrong = no_dump

unfoldable pub read_dump : List ℕ → Seen
read_dump bytes = seen (dump_format.read (bits_of_bytes bytes))
