-- The format of dumps is lawful: dumps are read back, nothing else is, and exactly the starts of dumps are cut.
-- Assumes nothing.
use Prim.Native.Nat.{ℕ, suc, ◌+◌, ◌-◌, ◌^◌, ◌≤◌, ◌<◌}
use mathlib.Core.Path.{◌≡◌, refl, sym, ap, ap₂, ◌∙◌, subst}
use mathlib.Core.Bool.{Bool, true, false≢true, ◌&&◌}
use mathlib.Core.List.{List, [], ◌∷◌}
use native.Mathlib.Omega.{arith}
use native.Mathlib.Decide.{dec_lt}
use borrow.Author.Tests.{leb-true, le-leb, eq-eqb, eqb-true, lt-ltb}
use lib.Dec.{eqb, leb}
use lib.ListN.{length}
use lib.Pow.{pow_pos}
use Rattle.bits.specs.Bits.{fits}
use Rattle.bits.proofs.IndexLaws.{and-true, true_and}
use Rattle.class_rules.specs.Class.{state_of, state_fits, count_fits}
use Rattle.class_rules.specs.declared.ClassState.{ClassState}
use Rattle.class_rules.specs.declared.ClassState.TheVariants.{Idle, Timeout, Phase0, Phase1, Phase2, Phase3, Terminal}
use Rattle.formats.specs.Format.{Format, Lawful, Inhabited, field, pair, chain, All}
use Rattle.formats.proofs.FormatLaws.{field_lawful, pair_lawful, pair_inhabited, as_lawful, as_inhabited, chain_lawful, chain_inhabited, chain_length, repeated_lawful, repeated_inhabited}
use Rattle.laws.proofs.Map.MapLaws.{decode_none}
use Rattle.rules.specs.Map.{decode, bits, is_shadowed, is_register}
use Rattle.rules.specs.State.{most, class_count}
use Rattle.rules.specs.declared.Register.{Register}
use Rattle.dump_rules.specs.Shown.{ShownStage, picks, limit}
use Rattle.dump_rules.specs.Dump.{mark, to_full, head_bits}
use Rattle.dump_rules.specs.Reader.{any_number, no_class, bit_format, first, later, mark_chain, class_format, classes_format, bits_format, shadowed_from, stage_at, stage_format, stage_chain, stages_format, cause_count, lock_count, flags_format, Parts, parts_format, content_of, parts_of, dump_format, count_format, class_from, class_to, value_format, stage_from, stage_to, zero_format, padded_format, body_format, alerts_format}
use Rattle.dump_rules.proofs.KindLaws.{shadowed_register}
use Rattle.dump_rules.proofs.PickLaws.{many_above, many_first}

-- ── the mark ──

later_bytes : (s : List ℕ) → All (λ b. b < 2 ^ 8) s → All (λ b. b < 2 ^ 8) (later s)
later_bytes [] h = tt
later_bytes (x ∷ xs) h = h.1

first_byte : (s : List ℕ) → All (λ b. b < 2 ^ 8) s → first s < 2 ^ 8
first_byte [] h = pow_pos 8
first_byte (x ∷ xs) h = h.0

mark_some : (s : List ℕ) (k : ℕ) → All (λ b. b < 2 ^ 8) s → Inhabited (field 8 (eqb (first s)))
mark_some s k h = (first s, (first_byte s h, eq-eqb (first s) (first s) refl))

mark_bytes : All (λ b. b < 2 ^ 8) mark
mark_bytes = (omega arith, (omega arith, (omega arith, (omega arith, tt))))

pub mark_lawful : Lawful (chain mark_chain 4 mark)
mark_lawful = chain_lawful mark_chain (λ k s. All (λ b. b < 2 ^ 8) s) (λ s k. field_lawful 8 (eqb (first s))) mark_some (λ s k x h g. later_bytes s h) 4 mark mark_bytes

-- it is read as it is
pub mark_only : (s xs : List ℕ) → (chain mark_chain (length s) s).good xs → xs ≡ s
mark_only [] xs h = h
mark_only (c ∷ s) [] h = absurd (let q : 1 ≡ 0 = ap length h.1 in omega arith)
mark_only (c ∷ s) (x ∷ xs) h = ap₂ {C = List ℕ} ◌∷◌ (sym (eqb-true c x h.0.0.1)) (mark_only s xs h.0.1)

pub mark_good : (s : List ℕ) → All (λ b. b < 2 ^ 8) s → (chain mark_chain (length s) s).good s
mark_good [] h = refl
mark_good (c ∷ s) h = (((h.0, eq-eqb c c refl), mark_good s h.1), refl)

pub the_mark : (chain mark_chain 4 mark).good mark
the_mark = mark_good mark mark_bytes

-- ── a class ──

some_count : (q : ClassState) → (c : ℕ) × ((c < 2 ^ 32) × (count_fits q c ≡ true))
some_count Idle = (0, (omega arith, refl))
some_count Timeout = (1, (omega arith, refl))
some_count Phase0 = (1, (omega arith, refl))
some_count Phase1 = (1, (omega arith, refl))
some_count Phase2 = (1, (omega arith, refl))
some_count Phase3 = (1, (omega arith, refl))
some_count Terminal = (0, (omega arith, refl))

any_inhabited : (w : ℕ) → Inhabited (field w any_number)
any_inhabited w = (0, (pow_pos w, refl))

count_lawful : (s : ℕ) → Lawful (count_format s)
count_lawful s = pair_lawful (field 32 (count_fits (state_of s))) (λ c. field 16 any_number) (field_lawful 32 (count_fits (state_of s))) (λ c g. field_lawful 16 any_number) (λ c g. any_inhabited 16)

count_inhabited : (s : ℕ) → Inhabited (count_format s)
count_inhabited s = pair_inhabited (field 32 (count_fits (state_of s))) (λ c. field 16 any_number) (some_count (state_of s)) (λ c g. any_inhabited 16)

abbrev class_parts : Format (ℕ × (ℕ × ℕ))
class_parts = pair (field 3 state_fits) count_format

class_parts_lawful : Lawful class_parts
class_parts_lawful = pair_lawful (field 3 state_fits) count_format (field_lawful 3 state_fits) (λ s g. count_lawful s) (λ s g. count_inhabited s)

pub class_lawful : Lawful class_format
class_lawful = as_lawful class_from class_to class_parts class_parts_lawful (λ p g. refl)

class_inhabited : Inhabited class_format
class_inhabited =
    as_inhabited class_from class_to class_parts class_parts_lawful (λ p g. refl)
    (pair_inhabited (field 3 state_fits) count_format (0, (omega arith, refl)) (λ s g. count_inhabited s))

pub classes_lawful : Lawful classes_format
classes_lawful = repeated_lawful class_format no_class class_lawful class_inhabited class_count

classes_inhabited : Inhabited classes_format
classes_inhabited = repeated_inhabited class_format no_class class_lawful class_inhabited class_count

-- ── the bits ──

pub bits_lawful : (k : ℕ) → Lawful (bits_format k)
bits_lawful k = repeated_lawful bit_format 0 (field_lawful 1 any_number) (any_inhabited 1) k

bits_inhabited : (k : ℕ) → Inhabited (bits_format k)
bits_inhabited k = repeated_inhabited bit_format 0 (field_lawful 1 any_number) (any_inhabited 1) k

-- ── the stages ──

module _ (n : ℕ) where
  abbrev shadow : ℕ → Bool
  shadow r = is_shadowed (decode n r)

  -- past the map there is no register
  pub past_map : (r : ℕ) → is_register (decode n r) ≡ true → r < limit
  past_map r e = go (dec_lt r limit)
    where
      go : Dec (r < limit) → r < limit
      go (yes l) = l
      go (no l) =
          let d : decode n r ≡ Register.Unassigned = decode_none n r (omega arith) (λ a b. omega arith) (λ j a b c. omega arith) (λ a b. omega arith) in
          absurd (false≢true (sym (ap is_register d) ∙ e))

  pub shadow_lt : (r : ℕ) → shadow r ≡ true → r < limit
  shadow_lt r e = past_map r (shadowed_register (decode n r) e)

  -- above a stage's register there is one fewer
  pub fewer_above : (from r : ℕ) → from ≤ r → shadow r ≡ true → suc (shadowed_from n (suc r)) ≤ shadowed_from n from
  fewer_above from r l e =
      let b : r < limit = shadow_lt r e in
      let s : from + (limit - from) ≡ limit = omega arith in
      subst (λ (z : ℕ). suc (length (picks shadow (suc r) (z - suc r))) ≤ shadowed_from n from) s (many_above shadow from (limit - from) r l (omega arith) e)

  some_register : (from k : ℕ) → suc k ≤ shadowed_from n from → Inhabited (field 16 (stage_at n from k))
  some_register from k h =
      let s = many_first shadow from (limit - from) k h in
      let l : s.0 < limit = shadow_lt s.0 s.3 in
      let g : from ≤ s.0 = s.1 in
      let f : from + (limit - from) ≡ limit = omega arith in
      let e : k ≤ shadowed_from n (suc s.0) = subst (λ (z : ℕ). k ≤ length (picks shadow (suc s.0) (z - suc s.0))) f s.4 in
      let w : s.0 < 2 ^ 16 = omega arith in
      (s.0, (w, true_and (le-leb from s.0 g) (true_and s.3 (le-leb k (shadowed_from n (suc s.0)) e))))

  value_inhabited : (r : ℕ) → Inhabited (value_format n r)
  value_inhabited r = (0, (pow_pos 32, lt-ltb 0 (2 ^ bits (decode n r)) (pow_pos (bits (decode n r)))))

  abbrev stage_parts : ℕ → ℕ → Format (ℕ × ℕ)
  stage_parts from k = pair (field 16 (stage_at n from k)) (value_format n)

  stage_parts_lawful : (from k : ℕ) → Lawful (stage_parts from k)
  stage_parts_lawful from k = pair_lawful (field 16 (stage_at n from k)) (value_format n) (field_lawful 16 (stage_at n from k)) (λ r g. field_lawful 32 (fits (bits (decode n r)))) (λ r g. value_inhabited r)

  pub stage_lawful : (from k : ℕ) → Lawful (stage_format n from k)
  stage_lawful from k = as_lawful stage_from stage_to (stage_parts from k) (stage_parts_lawful from k) (λ p g. refl)

  stage_some : (from k : ℕ) → suc k ≤ shadowed_from n from → Inhabited (stage_format n from k)
  stage_some from k h =
      as_inhabited stage_from stage_to (stage_parts from k) (stage_parts_lawful from k) (λ p g. refl)
      (pair_inhabited (field 16 (stage_at n from k)) (value_format n) (some_register from k h) (λ r g. value_inhabited r))

  -- what is asked of a stage's register
  pub stage_facts : (from k r : ℕ) → stage_at n from k r ≡ true → (from ≤ r) × (shadow r ≡ true) × (k ≤ shadowed_from n (suc r))
  stage_facts from k r e =
      let a = and-true (leb from r) (shadow r && leb k (shadowed_from n (suc r))) e in
      let b = and-true (shadow r) (leb k (shadowed_from n (suc r))) a.1 in
      (leb-true from r a.0, b.0, leb-true k (shadowed_from n (suc r)) b.1)

  abbrev Enough : ℕ → ℕ → Type 0
  Enough k from = k ≤ shadowed_from n from

  stage_on : (from k : ℕ) (s : ShownStage) → Enough (suc k) from → (stage_format n from k).good s → Enough k (suc s.register)
  stage_on from k s h g = (stage_facts from k s.register g.0.0.1).2

  pub chained_lawful : (k : ℕ) → Enough k 0 → Lawful (chain (stage_chain n) k 0)
  chained_lawful k h = chain_lawful (stage_chain n) Enough stage_lawful stage_some stage_on k 0 h

  chained_inhabited : (k : ℕ) → Enough k 0 → Inhabited (chain (stage_chain n) k 0)
  chained_inhabited k h = chain_inhabited (stage_chain n) Enough stage_lawful stage_some stage_on k 0 h

  abbrev number_format : Format ℕ
  number_format = field 16 (λ k. leb k (shadowed_from n 0))

  pub stages_lawful : Lawful (stages_format n)
  stages_lawful =
      pair_lawful number_format (λ k. chain (stage_chain n) k 0) (field_lawful 16 (λ k. leb k (shadowed_from n 0)))
      (λ k g. chained_lawful k (leb-true k (shadowed_from n 0) g.1))
      (λ k g. chained_inhabited k (leb-true k (shadowed_from n 0) g.1))

  stages_inhabited : Inhabited (stages_format n)
  stages_inhabited =
      pair_inhabited number_format (λ k. chain (stage_chain n) k 0) (0, (pow_pos 16, le-leb 0 (shadowed_from n 0) (omega arith)))
      (λ k g. chained_inhabited k (leb-true k (shadowed_from n 0) g.1))

  -- ── the zeros, and what follows N ──

  pad_inhabited : Inhabited (zero_format n)
  pad_inhabited = (0, (pow_pos (to_full (head_bits (cause_count n) (lock_count n))), refl))

  pub padded_lawful : Lawful (padded_format n)
  padded_lawful = pair_lawful (zero_format n) (λ z. stages_format n) (field_lawful (to_full (head_bits (cause_count n) (lock_count n))) (eqb 0)) (λ z g. stages_lawful) (λ z g. stages_inhabited)

  padded_inhabited : Inhabited (padded_format n)
  padded_inhabited = pair_inhabited (zero_format n) (λ z. stages_format n) pad_inhabited (λ z g. stages_inhabited)

  pub locks_lawful : Lawful (pair (bits_format (lock_count n)) (λ ls. padded_format n))
  locks_lawful = pair_lawful (bits_format (lock_count n)) (λ ls. padded_format n) (bits_lawful (lock_count n)) (λ ls g. padded_lawful) (λ ls g. padded_inhabited)

  locks_inhabited : Inhabited (pair (bits_format (lock_count n)) (λ ls. padded_format n))
  locks_inhabited = pair_inhabited (bits_format (lock_count n)) (λ ls. padded_format n) (bits_inhabited (lock_count n)) (λ ls g. padded_inhabited)

  pub flags_lawful : Lawful (flags_format n)
  flags_lawful = pair_lawful (bits_format (cause_count n)) (λ cs. pair (bits_format (lock_count n)) (λ ls. padded_format n)) (bits_lawful (cause_count n)) (λ cs g. locks_lawful) (λ cs g. locks_inhabited)

  flags_inhabited : Inhabited (flags_format n)
  flags_inhabited = pair_inhabited (bits_format (cause_count n)) (λ cs. pair (bits_format (lock_count n)) (λ ls. padded_format n)) (bits_inhabited (cause_count n)) (λ cs g. locks_inhabited)

-- ── the whole ──

pub body_lawful : (n : ℕ) → Lawful (body_format n)
body_lawful n = pair_lawful classes_format (λ c. flags_format n) classes_lawful (λ c g. flags_lawful n) (λ c g. flags_inhabited n)

body_inhabited : (n : ℕ) → Inhabited (body_format n)
body_inhabited n = pair_inhabited classes_format (λ c. flags_format n) classes_inhabited (λ c g. flags_inhabited n)

pub unmarked_lawful : Lawful (pair alerts_format body_format)
unmarked_lawful = pair_lawful alerts_format body_format (field_lawful 8 (λ n. leb n most)) (λ n g. body_lawful n) (λ n g. body_inhabited n)

unmarked_inhabited : Inhabited (pair alerts_format body_format)
unmarked_inhabited = pair_inhabited alerts_format body_format (0, (omega arith, refl)) (λ n g. body_inhabited n)

pub parts_lawful : Lawful parts_format
parts_lawful = pair_lawful (chain mark_chain 4 mark) (λ m. pair alerts_format body_format) mark_lawful (λ m g. unmarked_lawful) (λ m g. unmarked_inhabited)

-- mark, zeros and number of stages are what they must be
parts_back : (p : Parts) → parts_format.good p → parts_of (content_of p) ≡ p
parts_back p g =
    let b = g.1.1.1.1.1 in
    let m : mark ≡ p.0 = sym (mark_only mark p.0 g.0) in
    let z : 0 ≡ p.1.1.1.1.1.0 = eqb-true 0 p.1.1.1.1.1.0 b.0.1 in
    let k : length p.1.1.1.1.1.1.1 ≡ p.1.1.1.1.1.1.0 = chain_length (stage_chain p.1.0) p.1.1.1.1.1.1.0 0 p.1.1.1.1.1.1.1 b.1.1 in
    λ i. (m i, (p.1.0, (p.1.1.0, (p.1.1.1.0, (p.1.1.1.1.0, (z i, (k i, p.1.1.1.1.1.1.1)))))))

pub dump_lawful : Lawful dump_format
dump_lawful = as_lawful content_of parts_of parts_format parts_lawful parts_back
