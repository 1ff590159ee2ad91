-- The wires of a record as words of 64, edition by edition.
-- Assumes nothing.
use Prim.Native.Nat.{ℕ, ◌+◌, ◌*◌, ◌^◌, ◌≤◌, ◌<◌}
use mathlib.Core.Path.{◌≡◌, sym, ap, ◌∙◌}
use mathlib.Core.List.{List, [], ◌∷◌, ◌++◌}
use native.Mathlib.Nat.{add-zero, add-mul, mul_assoc}
use native.Mathlib.Omega.{arith}
use lib.ListN.{get_or, length, take, drop, replicate}
use lib.Pow.{pow_pos, pow-add, shl_lt}
use Rattle.bits.specs.Fields.{total, unpack, of_bytes}
use Rattle.bits.proofs.PackLaws.{unpack_parts}
use Rattle.trace_rules.specs.Record.{wire_words}
use Rattle.rules.specs.State.{words}
use Rattle.trace.proofs.Records.{get_d_byte, part_bytes, part_lt}

-- ── the first word of a number, and the others ──

one_word : (x : ℕ) → x < 2 ^ 64 → unpack (64 ∷ []) x ≡ x ∷ []
unfolding unpack
one_word x h = ap (λ (n : ℕ). n ∷ []) (omega arith)

next_word : (ws : List ℕ) (x y : ℕ) → x < 2 ^ 64 → y < 2 ^ total ws → unpack (64 ∷ ws) (x * 2 ^ total ws + y) ≡ x ∷ unpack ws y
next_word ws x y h l = unpack_parts (64 ∷ []) ws x y h l ∙ ap (λ (vs : List ℕ). vs ++ unpack ws y) (one_word x h)

-- a sum shifted up
shift_add : (x y m j : ℕ) → (x * 2 ^ m + y) * 2 ^ j ≡ x * 2 ^ (m + j) + y * 2 ^ j
shift_add x y m j = add-mul (x * 2 ^ m) y (2 ^ j) ∙ ap (λ (n : ℕ). n + y * 2 ^ j) (mul_assoc x (2 ^ m) (2 ^ j) ∙ ap (λ (n : ℕ). x * n) (sym (pow-add 2 m j)))

module _ (xs : List ℕ) (bytes : (i : ℕ) → get_or xs i 0 < 2 ^ 8) (at : ℕ) where
  -- the number of the n bytes that begin at a place
  abbrev part : ℕ → ℕ → ℕ
  part n p = of_bytes (take n (drop p xs))

  pub wires_64_law : (a : ℕ) → at + 8 ≤ length xs → a ≡ part 8 at → a ∷ 0 ∷ 0 ∷ 0 ∷ [] ≡ wire_words 64 (part 8 at)
  unfolding unpack
  wires_64_law a h e =
      let l : part 8 at < 2 ^ 64 = part_lt 8 at xs h bytes in
      ap (λ (n : ℕ). n ∷ 0 ∷ 0 ∷ 0 ∷ []) e
      ∙ sym (next_word (64 ∷ 64 ∷ 64 ∷ []) (part 8 at) 0 l (pow_pos 192))
      ∙ ap (unpack (replicate words 64)) (add-zero (part 8 at * 2 ^ 192))

  -- the bytes from p on, of which the first eight are a word: shifted up by a byte, that word and the rest
  next_part : (n p q : ℕ) → p + (8 + n) ≤ length xs → p + 8 ≡ q → part (8 + n) p * 2 ^ 8 ≡ part 8 p * 2 ^ (8 * n + 8) + part n q * 2 ^ 8
  next_part n p q h e =
      ap (λ (m : ℕ). m * 2 ^ 8) (part_bytes 8 n p xs h) ∙ shift_add (part 8 p) (part n (p + 8)) (8 * n) 8
      ∙ ap (λ (k : ℕ). part 8 p * 2 ^ (8 * n + 8) + part n k * 2 ^ 8) e

  rest_lt : (n p : ℕ) → p + n ≤ length xs → part n p * 2 ^ 8 < 2 ^ (8 * n + 8)
  rest_lt n p h = shl_lt (8 * n) 8 (part_lt n p xs h bytes)

  pub wires_248_law : (a b c d : ℕ) → at + 31 ≤ length xs → a ≡ part 8 at → b ≡ part 8 (at + 8) → c ≡ part 8 (at + 16) → d ≡ part 7 (at + 24) * 2 ^ 8
      → a ∷ b ∷ c ∷ d ∷ [] ≡ wire_words 248 (part 31 at)
  wires_248_law a b c d h ea eb ec ed =
      let one : unpack (replicate 4 64) (part 31 at * 2 ^ 8) ≡ part 8 at ∷ unpack (replicate 3 64) (part 23 (at + 8) * 2 ^ 8) =
      ap (unpack (replicate 4 64)) (next_part 23 at (at + 8) h (omega arith))
      ∙ next_word (replicate 3 64) (part 8 at) (part 23 (at + 8) * 2 ^ 8) (part_lt 8 at xs (omega arith) bytes) (rest_lt 23 (at + 8) (omega arith)) in
      let two : unpack (replicate 3 64) (part 23 (at + 8) * 2 ^ 8) ≡ part 8 (at + 8) ∷ unpack (replicate 2 64) (part 15 (at + 16) * 2 ^ 8) =
      ap (unpack (replicate 3 64)) (next_part 15 (at + 8) (at + 16) (omega arith) (omega arith))
      ∙ next_word (replicate 2 64) (part 8 (at + 8)) (part 15 (at + 16) * 2 ^ 8) (part_lt 8 (at + 8) xs (omega arith) bytes) (rest_lt 15 (at + 16) (omega arith)) in
      let three : unpack (replicate 2 64) (part 15 (at + 16) * 2 ^ 8) ≡ part 8 (at + 16) ∷ unpack (replicate 1 64) (part 7 (at + 24) * 2 ^ 8) =
      ap (unpack (replicate 2 64)) (next_part 7 (at + 16) (at + 24) (omega arith) (omega arith))
      ∙ next_word (replicate 1 64) (part 8 (at + 16)) (part 7 (at + 24) * 2 ^ 8) (part_lt 8 (at + 16) xs (omega arith) bytes) (rest_lt 7 (at + 24) (omega arith)) in
      let four : unpack (replicate 1 64) (part 7 (at + 24) * 2 ^ 8) ≡ part 7 (at + 24) * 2 ^ 8 ∷ [] = one_word (part 7 (at + 24) * 2 ^ 8) (rest_lt 7 (at + 24) (omega arith)) in
      rw (ea, eb, ec, ed) (sym (one ∙ ap (λ (ws : List ℕ). part 8 at ∷ ws) (two ∙ ap (λ (ws : List ℕ). part 8 (at + 8) ∷ ws) (three ∙ ap (λ (ws : List ℕ). part 8 (at + 16) ∷ ws) four))))

  -- seven bytes: four, and three
  pub seven_bytes : at + 7 ≤ length xs → part 7 at ≡ part 4 at * 2 ^ 24 + (get_or xs (at + 4) 0 * 2 ^ 16 + (get_or xs (at + 5) 0 * 2 ^ 8 + get_or xs (at + 6) 0))
  seven_bytes h =
      let p : at + 4 + 1 ≡ at + 5 = omega arith in
      let q : at + 5 + 1 ≡ at + 6 = omega arith in
      let s : part 7 at ≡ part 4 at * 2 ^ 24 + part 3 (at + 4) = part_bytes 4 3 at xs h in
      let t : part 3 (at + 4) ≡ part 1 (at + 4) * 2 ^ 16 + part 2 (at + 5) =
      part_bytes 1 2 (at + 4) xs (omega arith) ∙ ap (λ (k : ℕ). part 1 (at + 4) * 2 ^ 16 + part 2 k) p in
      let u : part 2 (at + 5) ≡ part 1 (at + 5) * 2 ^ 8 + part 1 (at + 6) =
      part_bytes 1 1 (at + 5) xs (omega arith) ∙ ap (λ (k : ℕ). part 1 (at + 5) * 2 ^ 8 + part 1 k) q in
      let v : part 1 (at + 4) ≡ get_or xs (at + 4) 0 = get_d_byte (at + 4) xs (omega arith) in
      let w : part 1 (at + 5) ≡ get_or xs (at + 5) 0 = get_d_byte (at + 5) xs (omega arith) in
      let x : part 1 (at + 6) ≡ get_or xs (at + 6) 0 = get_d_byte (at + 6) xs (omega arith) in
      omega arith
