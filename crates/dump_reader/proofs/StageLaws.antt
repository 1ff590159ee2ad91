-- The stages of a dump, as code reads them.
-- Assumes nothing.
use Prim.Native.Nat.{ℕ, suc, ◌+◌, ◌-◌, ◌*◌, ◌%◌, ◌^◌, ◌≤◌, ◌<◌}
use mathlib.Core.Path.{◌≡◌, refl, sym, ap, ap₂, ◌∙◌, subst}
use mathlib.Core.Bool.{Bool, true, false, ◌&&◌}
use mathlib.Core.List.{List, ◌++◌, append_assoc}
use native.Mathlib.Omega.{arith}
use borrow.Author.Tests.{ltb-true, ltb-false, le-leb, lt-leb}
use lib.Dec.{leb, ltb}
use lib.ListN.{length, take, drop, length-append}
use lib.Pow.{pow_pos, pow_mono}
use lib.Seq.{take_at}
use Rattle.std.specs.Prelude.{Result, Ok, Some}
use Rattle.bits.specs.Bits.{fits}
use Rattle.bits.specs.Index.{any_to}
use Rattle.bits.proofs.FirstLaws.{one_shl}
use Rattle.formats.specs.BitList.{bit_list, number_of, bits_of_bytes, filled}
use Rattle.formats.specs.Format.{Format, pair, chain, joined, parted}
use Rattle.formats.proofs.BitListLaws.{length_bits, list_back, length_bits_of_bytes}
use Rattle.formats.proofs.BitAtLaws.{filled_whole, filled_lt}
use Rattle.rules.specs.Map.{decode, is_shadowed}
use Rattle.dump_rules.specs.Shown.{ShownStage, picks, limit}
use Rattle.dump_rules.specs.Reader.{stage_at, stage_format, stage_chain}
use Rattle.dump_rules.proofs.LawfulDump.{stage_lawful, stage_facts}
use Rattle.dump_map.specs.Kinds.{has_kind, Counted, left_by}
use Rattle.dump_reader.specs.Steps.{step_at}
use Rattle.dump_map.specs.declared.Kind.{Kind}
use Rattle.dump_rules.specs.declared.Unread.{Unread}
use Rattle.dump_reader.proofs.StepLaws.{fine_of, fine_any, step_on, pair_on, as_step}
use Rattle.dump_reader.proofs.FieldSteps.{on_step}
use Rattle.dump_map.proofs.CountLaws.{counted_left}

-- ── numbers that begin with so many bits ──

pub span_cut : (have : ℕ) → have < 16 → ((1 * 2 ^ (16 - have)) % 2 ^ 64 ≡ 2 ^ (16 - have)) × ((1 * 2 ^ (16 - have)) % 2 ^ 64 ≤ 65536)
span_cut have h =
    let e : (1 * 2 ^ (16 - have)) % 2 ^ 64 ≡ 2 ^ (16 - have) = one_shl 64 (16 - have) (omega arith) in
    let p : 2 ^ (16 - have) ≤ 2 ^ 16 = pow_mono (let k : 16 - have ≤ 16 = omega arith in k) in
    (e, omega arith)

pub span_whole : (have : ℕ) → 16 ≤ have → (1 ≡ 2 ^ (16 - have)) × (1 ≤ 65536)
span_whole have h = (ap (λ (k : ℕ). 2 ^ k) (let e : 0 ≡ 16 - have = omega arith in e), omega arith)

-- ── the register ──

-- a register that is left has k above it exactly where all these are no more than the total
pub left_in : (n from below total k end r passed : ℕ) → Counted n from below total → from ≤ r → r < limit → is_shadowed (decode n r) ≡ true
    → passed ≡ length (picks (λ x. has_kind Kind.Shadowed (decode n x)) from (r - from))
    → (ltb r end && leb (below + passed + k + 1) total) ≡ left_by n k end (Some r)
left_in n from below total k end r passed c f l s e = ap (λ (z : Bool). ltb r end && z) (counted_left n from below total k r passed c f l s e)

module _ (bytes : List ℕ) (at : ℕ) where
  pub register_fine : (n from k lo span left : ℕ) (fine : Bool) → at ≤ 8 * length bytes → lo ≡ filled 16 (drop at (bits_of_bytes bytes))
      → left ≡ 8 * length bytes - at → span ≡ 2 ^ (16 - left) → fine ≡ any_to (λ x. stage_at n from k (lo + x)) span → fine ≡ fine_of bytes at 16 (stage_at n from k)
  register_fine n from k lo span left fine h e o f g =
      let l : length (bits_of_bytes bytes) ≡ 8 * length bytes = length_bits_of_bytes bytes in
      g ∙ ap₂ (λ (x y : ℕ). any_to (λ i. stage_at n from k (x + i)) y) e (f ∙ ap (λ (z : ℕ). 2 ^ (16 - z)) (o ∙ ap (λ (z : ℕ). z - at) (sym l)))
      ∙ fine_any 16 (stage_at n from k) bytes at (omega arith)

  pub small : (w v : ℕ) → v ≡ filled w (drop at (bits_of_bytes bytes)) → v < 2 ^ w
  small w v e = subst (λ (z : ℕ). z < 2 ^ w) (sym e) (filled_lt w w (drop at (bits_of_bytes bytes)) (omega arith))

  -- ── a stage: where it ends, and its register ──

  stage_number : (n from k : ℕ) (a : ShownStage) (rest : List Bool) → (stage_format n from k).good a → drop at (bits_of_bytes bytes) ≡ (stage_format n from k).bits a ++ rest
      → filled 16 (drop at (bits_of_bytes bytes)) ≡ a.register
  stage_number n from k a rest g e =
      let r : ℕ = a.register in
      let v : List Bool = bit_list 32 a.value in
      let x : drop at (bits_of_bytes bytes) ≡ bit_list 16 r ++ (v ++ rest) = e ∙ append_assoc (bit_list 16 r) v rest in
      let l : 16 ≤ length (drop at (bits_of_bytes bytes)) =
      let y : length (drop at (bits_of_bytes bytes)) ≡ length (bit_list 16 r) + length (v ++ rest) = ap length x ∙ length-append (bit_list 16 r) (v ++ rest) in
      omega (arith, length_bits 16 r) in
      filled_whole 16 (drop at (bits_of_bytes bytes)) l ∙ ap (λ (z : List Bool). number_of (take 16 z)) x
      ∙ ap number_of (take_at (bit_list 16 r) (v ++ rest) 16 (length_bits 16 r)) ∙ list_back 16 r g.0.0.0

  -- in a loop: i of m are read
  pub stage_on : (n m i from : ℕ) (x : Result ℕ Unread) → x ≡ step_at (chain (stage_chain n) (m - i) from) bytes at → i < m → at ≤ 8 * length bytes
      → (b v : ℕ) → Ok b ≡ step_at (stage_format n from (m - (i + 1))) bytes at → v ≡ filled 16 (drop at (bits_of_bytes bytes))
      → (x ≡ step_at (chain (stage_chain n) (m - (i + 1)) (v + 1)) bytes b) × (from ≤ v)
  stage_on n m i from x inv l h b v e f =
      let k : ℕ = m - (i + 1) in
      let t : length (bits_of_bytes bytes) ≡ 8 * length bytes = length_bits_of_bytes bytes in
      let s = step_on bytes at (stage_format n from k) (stage_lawful n from k) (omega arith) b (sym e) in
      let a : ShownStage = s.0 in
      let y = (stage_lawful n from k).only (drop at (bits_of_bytes bytes)) a (drop b (bits_of_bytes bytes)) s.1 in
      let r : v ≡ a.register = f ∙ stage_number n from k a (drop b (bits_of_bytes bytes)) y.0 y.1 in
      let g : ShownStage → Format (List ShownStage) = λ z. chain (stage_chain n) k (suc z.register) in
      let w : suc a.register ≡ v + 1 = omega arith in (
        sym (on_step bytes at (stage_chain n) m i from x inv l)
            ∙ as_step joined (parted (stage_chain n).default) (pair (stage_format n from k) g) bytes at
            ∙ pair_on (stage_format n from k) g bytes at a b s.1
            ∙ ap (λ (z : ℕ). step_at (chain (stage_chain n) k z) bytes b) w,
        omega (arith, (stage_facts n from k a.register y.0.0.0.1).0),
      )

-- a value up to the largest is below the limit
pub below_limit : (m b : ℕ) → m ≡ 2 ^ b → (x : ℕ) → fits b x ≡ leb x (m - 1)
below_limit m b e x = go (ltb x (2 ^ b)) refl
  where
    p : 0 < 2 ^ b
    p = pow_pos b

    go : (t : Bool) → ltb x (2 ^ b) ≡ t → ltb x (2 ^ b) ≡ leb x (m - 1)
    go true h = let l : x < 2 ^ b = ltb-true x (2 ^ b) h in h ∙ sym (le-leb x (m - 1) (omega (arith, p)))
    go false h = let l : 2 ^ b ≤ x = ltb-false x (2 ^ b) h in h ∙ sym (lt-leb x (m - 1) (omega (arith, p)))
