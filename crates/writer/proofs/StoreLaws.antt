-- Runs of stores: the bytes of a number, of words, and of a record.
-- Assumes nothing.
use Prim.Native.Nat.{ℕ, zero, suc, ◌+◌, ◌*◌, ◌/◌, ◌%◌, ◌^◌, ◌≤◌, ◌<◌}
use mathlib.Core.Path.{◌≡◌, refl, sym, ap, ap₂, subst, ◌∙◌}
use mathlib.Core.List.{List, [], ◌∷◌, ◌++◌}
use native.Mathlib.Nat.{add-zero, add-suc, suc-add, zero-add, mul-add-div_right}
use native.Mathlib.Omega.{arith}
use lib.ListN.{length, replicate, set, take, drop, length-replicate, replicate-append-replicate}
use lib.Pow.{pow_pos}
use lib.Seq.{sets, sets-eq, take_all}
use borrow.Rule.Slice.PartMut.{put_mid}
use Rattle.std.specs.Int.{bytes_high_first}
use Rattle.std.proofs.lemmas.Slice.{put_mid-paste}
use Rattle.bits.specs.Fields.{total, pack, unpack, to_bytes, Fit, none, one}
use Rattle.bits.specs.Index.{each, each_from}
use Rattle.bits.proofs.ByteLaws.{length_bytes}
use Rattle.bits.proofs.FieldLaws.{pack_lt}
use Rattle.bits.proofs.IndexLaws.{length_each}
use Rattle.bits.proofs.PackLaws.{pack_append, fit_append, pack_two, unpack_parts, total_bytes}
use Rattle.trace_rules.specs.Edition.{newest, alerts, tail}
use Rattle.trace_rules.specs.Record.{head, wires, wires_of, pair_bits, access_of, head_fields, record_of}
use Rattle.rules.specs.State.{words}
use Rattle.rules.specs.declared.Input.{Input}
use Rattle.rules.specs.declared.Receive.{Receive}
use Rattle.trace_laws.proofs.LineBits.{pair_bits_lt}
use Rattle.trace_laws.proofs.WireLaws.{wires_lt}
use Rattle.writer.specs.EntryParts.{input_in, access_word, word_bytes, set_bytes, last_bytes}

-- one run of stores behind another
pub sets_append : (l : List ℕ) (i : ℕ) (xs ys : List ℕ) → sets (sets l i xs) (i + length xs) ys ≡ sets l i (xs ++ ys)
sets_append l i [] ys = ap (λ (n : ℕ). sets l n ys) (add-zero i)
sets_append l i (x ∷ xs) ys =
    ap (λ (n : ℕ). sets (sets l i (x ∷ xs)) n ys) (add-suc i (length xs) ∙ sym (suc-add i (length xs))) ∙ sets_append (set l i x) (suc i) xs ys

-- ── the bytes of a number ──

-- a part of k entries written over
pub put_part : (l ys zs : List ℕ) (at k : ℕ) → ys ≡ zs → length zs ≡ k → at + length zs ≤ length l → put_mid at k l ys ≡ sets l at zs
put_part l ys zs at k e p h =
    put_mid-paste at k l ys zs (length zs) e p refl
    ∙ ap (λ (m : List ℕ). take at l ++ m ++ drop (at + length zs) l) (take_all (length zs) zs (omega arith))
    ∙ sym (sets-eq zs l at h)

-- the bytes of std are those of the layout
pub four_bytes : (x : ℕ) → bytes_high_first 4 x ≡ to_bytes 4 x
unfolding unpack
four_bytes x = let d : x % 2 ^ 8 ≡ x / 2 ^ 0 % 2 ^ 8 = omega arith in rw d

pub eight_bytes : (w : ℕ) → bytes_high_first 8 w ≡ to_bytes 8 w
unfolding unpack
eight_bytes w = let d : w % 2 ^ 8 ≡ w / 2 ^ 0 % 2 ^ 8 = omega arith in rw d

pub seven_bytes : (w : ℕ) → take 7 (bytes_high_first 8 w) ≡ to_bytes 7 (w / 2 ^ 8)
unfolding unpack
seven_bytes w =
    let a : w / 2 ^ 56 % 2 ^ 8 ≡ w / 2 ^ 8 / 2 ^ 48 % 2 ^ 8 = omega arith in
    let b : w / 2 ^ 48 % 2 ^ 8 ≡ w / 2 ^ 8 / 2 ^ 40 % 2 ^ 8 = omega arith in
    let c : w / 2 ^ 40 % 2 ^ 8 ≡ w / 2 ^ 8 / 2 ^ 32 % 2 ^ 8 = omega arith in
    let d : w / 2 ^ 32 % 2 ^ 8 ≡ w / 2 ^ 8 / 2 ^ 24 % 2 ^ 8 = omega arith in
    let e : w / 2 ^ 24 % 2 ^ 8 ≡ w / 2 ^ 8 / 2 ^ 16 % 2 ^ 8 = omega arith in
    let f : w / 2 ^ 16 % 2 ^ 8 ≡ w / 2 ^ 8 / 2 ^ 8 % 2 ^ 8 = omega arith in
    let g : w / 2 ^ 8 % 2 ^ 8 ≡ w / 2 ^ 8 / 2 ^ 0 % 2 ^ 8 = omega arith in
    rw (a, b, c, d, e, f, g)

-- ── words one after another ──

each_last : (b n : ℕ) (f : ℕ → ℕ) → each_from b (suc n) f ≡ each_from b n f ++ (f (b + n) ∷ [])
unfolding each_from
each_last b zero f = ap (λ (i : ℕ). f i ∷ []) (sym (add-zero b))
each_last b (suc n) f =
    ap (λ (ws : List ℕ). f b ∷ ws) (each_last (suc b) n f ∙ ap (λ (i : ℕ). each_from (suc b) n f ++ (f i ∷ [])) (suc-add b n ∙ sym (add-suc b n)))

each_fits : (b n : ℕ) (f : ℕ → ℕ) → ((i : ℕ) → f i < 2 ^ 64) → Fit (replicate n 64) (each_from b n f)
unfolding each_from
each_fits b zero f h = none
each_fits b (suc n) f h = one (h b) (each_fits (suc b) n f h)

-- words of 64
pub words_fit : (n : ℕ) (f : ℕ → ℕ) → ((i : ℕ) → f i < 2 ^ 64) → Fit (replicate n 64) (each n f)
words_fit n f h = each_fits 0 n f h

module _ (f : ℕ → ℕ) (h : (i : ℕ) → f i < 2 ^ 64) where
  -- the number of the first n words
  abbrev packed : ℕ → ℕ
  packed n = pack (replicate n 64) (each n f)

  total_words : (n : ℕ) → total (replicate n 64) ≡ 8 * (8 * n)
  total_words zero = refl
  total_words (suc n) = omega (arith, total_words n)

  pub packed_lt : (n : ℕ) → packed n < 2 ^ (8 * (8 * n))
  packed_lt n = subst (λ (k : ℕ). packed n < 2 ^ k) (total_words n) (pack_lt (words_fit n f h))

  packed_next : (n : ℕ) → packed (suc n) ≡ packed n * 2 ^ 64 + f n
  unfolding pack
  packed_next n =
      let r : replicate {A = ℕ} (suc n) 64 ≡ replicate n 64 ++ (64 ∷ []) = ap (λ (k : ℕ). replicate k 64) (let z : suc n ≡ n + 1 = omega arith in z) ∙ sym (replicate-append-replicate n 1 64) in
      let e : each (suc n) f ≡ each n f ++ (f n ∷ []) = each_last 0 n f ∙ ap (λ (i : ℕ). each n f ++ (f i ∷ [])) (zero-add n) in
      ap₂ pack r e ∙ pack_append (replicate n 64) (64 ∷ []) (each n f) (f n ∷ []) (length_each n f ∙ sym (length-replicate n 64)) ∙ omega arith

  pub words_bytes : (n : ℕ) → word_bytes n f ≡ to_bytes (8 * n) (packed n)
  unfolding word_bytes unpack
  words_bytes zero = refl
  words_bytes (suc n) =
      let z : 8 * n + 8 ≡ 8 * suc n = omega arith in
      ap (λ (bs : List ℕ). bs ++ to_bytes 8 (f n)) (words_bytes n)
      ∙ sym (unpack_parts (replicate (8 * n) 8) (replicate 8 8) (packed n) (f n) (subst (λ (k : ℕ). packed n < 2 ^ k) (sym (total_bytes (8 * n))) (packed_lt n)) (h n))
      ∙ ap₂ unpack (replicate-append-replicate (8 * n) 8 8 ∙ ap (λ (k : ℕ). replicate k 8) z) (sym (packed_next n))

  pub length_words : (n : ℕ) → length (word_bytes n f) ≡ 8 * n
  length_words n = ap length (words_bytes n) ∙ length_bytes (8 * n) (packed n)

-- one more word behind those that stand
pub put_word_next : (l out next : List ℕ) (at v : ℕ) (f : ℕ → ℕ) → ((i : ℕ) → f i < 2 ^ 64) → out ≡ sets l at (word_bytes v f)
    → next ≡ sets out (at + 8 * v) (to_bytes 8 (f v)) → next ≡ sets l at (word_bytes (suc v) f)
unfolding word_bytes
put_word_next l out next at v f h p q =
    q ∙ ap₂ (λ (o : List ℕ) (n : ℕ). sets o (at + n) (to_bytes 8 (f v))) p (sym (length_words f h v)) ∙ sets_append l at (word_bytes v f) (to_bytes 8 (f v))

-- ── a wire set ──

module _ (f : ℕ → ℕ) (h : (i : ℕ) → f i < 2 ^ 64) where
  abbrev set_wires : ℕ
  set_wires = wires_of (alerts newest) (each words f)

  pub set_lt : set_wires < 2 ^ alerts newest
  set_lt = wires_lt newest (each words f) (words_fit words f h)

  shifted : (p x : ℕ) → (p * 2 ^ 64 + x) / 2 ^ 8 ≡ p * 2 ^ 56 + x / 2 ^ 8
  shifted p x =
      let e : p * 2 ^ 64 + x ≡ (p * 2 ^ 56) * 2 ^ 8 + x = omega arith in
      ap (λ (n : ℕ). n / 2 ^ 8) e ∙ mul-add-div_right (pow_pos 8) (p * 2 ^ 56) x

  pub set_bytes_law : to_bytes 31 set_wires ≡ set_bytes f
  set_bytes_law =
      let n : set_wires ≡ packed f h 3 * 2 ^ 56 + f 3 / 2 ^ 8 = ap (λ (m : ℕ). m / 2 ^ 8) (packed_next f h 3) ∙ shifted (packed f h 3) (f 3) in
      let l : f 3 < 2 ^ 64 = h 3 in
      ap (to_bytes 31) n ∙ unpack_parts (replicate 24 8) (replicate 7 8) (packed f h 3) (f 3 / 2 ^ 8) (packed_lt f h 3) (omega arith)
      ∙ ap (λ (bs : List ℕ). bs ++ to_bytes 7 (f 3 / 2 ^ 8)) (sym (words_bytes f h 3))

  pub length_set_bytes : length (set_bytes f) ≡ 31
  length_set_bytes = ap length (sym set_bytes_law) ∙ length_bytes 31 set_wires

-- the words, and behind them the seven bytes
pub put_set : (l m n : List ℕ) (at : ℕ) (f : ℕ → ℕ) → ((i : ℕ) → f i < 2 ^ 64) → m ≡ sets l at (word_bytes 3 f) → n ≡ sets m (at + 24) (to_bytes 7 (f 3 / 2 ^ 8))
    → n ≡ sets l at (set_bytes f)
put_set l m n at f h p q =
    let t : List ℕ = to_bytes 7 (f 3 / 2 ^ 8) in
    q ∙ ap₂ (λ (o : List ℕ) (k : ℕ). sets o (at + k) t) p (sym (length_words f h 3)) ∙ sets_append l at (word_bytes 3 f) t

-- ── the word and the receive pairs, of which a and b are the positive and the negative wires ──

module _ (w a b : ℕ) (h : w < 2 ^ 32) where
  abbrev pairs : ℕ
  pairs = pair_bits (Receive.Pairs a b)

  abbrev last_fields : List ℕ
  last_fields = w ∷ 0 ∷ pairs ∷ []

  last_fit : Fit (tail newest) last_fields
  last_fit = one h (one (pow_pos 0) (one (pair_bits_lt (Receive.Pairs a b)) none))

  last_bytes_law : to_bytes 5 (pack (tail newest) last_fields) ≡ last_bytes w a b
  unfolding pack unpack
  last_bytes_law =
      let l : pairs < 2 ^ 8 = pair_bits_lt (Receive.Pairs a b) in
      let n : w * 2 ^ 8 + (0 * 2 ^ 8 + (pairs * 2 ^ 0 + 0)) ≡ w * 2 ^ 8 + pairs = omega arith in
      let d : pairs / 2 ^ 0 % 2 ^ 8 ≡ pairs = omega arith in
      ap (to_bytes 5) n ∙ unpack_parts (replicate 4 8) (replicate 1 8) w pairs h (omega arith) ∙ ap (λ (x : ℕ). to_bytes 4 w ++ (x ∷ [])) d

-- four bytes, and the byte behind them
pub put_last : (l m : List ℕ) (i w a b x : ℕ) → m ≡ sets l i (to_bytes 4 w) → x ≡ pair_bits (Receive.Pairs a b) → set m (i + 4) x ≡ sets l i (last_bytes w a b)
unfolding unpack
put_last l m i w a b x e f =
    ap₂ (λ (k : List ℕ) (y : ℕ). sets k (i + 4) (y ∷ [])) e f ∙ sets_append l i (to_bytes 4 w) (pair_bits (Receive.Pairs a b) ∷ [])

-- ── a record: the access, two wire sets, the word and the receive pairs ──

module _ (k r v : ℕ) (f g : ℕ → ℕ) (w a b : ℕ) (p : (i : ℕ) → f i < 2 ^ 64) (q : (i : ℕ) → g i < 2 ^ 64) (u : w < 2 ^ 32) where
  abbrev word : ℕ
  word = access_word (access_of k r v)

  abbrev entry : Input
  entry = input_in k r v (each words f) (each words g) w a b

  abbrev both : List ℕ
  both = set_wires f p ∷ set_wires g q ∷ []

  both_fit : Fit (wires newest) both
  both_fit = one (set_lt f p) (one (set_lt g q) none)

  both_bytes : to_bytes 62 (pack (wires newest) both) ≡ set_bytes f ++ set_bytes g
  both_bytes =
      let b : ℕ = set_wires f p in
      let c : ℕ = set_wires g q in
      ap (to_bytes 62) (pack_two 248 248 b c) ∙ unpack_parts (replicate 31 8) (replicate 31 8) b c (set_lt f p) (set_lt g q)
      ∙ ap₂ (λ (l m : List ℕ). l ++ m) (set_bytes_law f p) (set_bytes_law g q)

  record_parts : word < 2 ^ 64 → record_of newest entry ≡ to_bytes 8 word ++ ((set_bytes f ++ set_bytes g) ++ last_bytes w a b)
  unfolding record_of access_word
  record_parts h =
      let rest : ℕ = pack (wires newest ++ tail newest) (both ++ last_fields w a b u) in
      ap (to_bytes 75) (pack_append (head newest) (wires newest ++ tail newest) (head_fields (access_of k r v)) (both ++ last_fields w a b u) refl)
      ∙ unpack_parts (replicate 8 8) (replicate 67 8) word rest h (pack_lt (fit_append both_fit (last_fit w a b u)))
      ∙ ap (λ (l : List ℕ). to_bytes 8 word ++ l)
      (ap (to_bytes 67) (pack_append (wires newest) (tail newest) both (last_fields w a b u) refl)
      ∙ unpack_parts (replicate 62 8) (replicate 5 8) (pack (wires newest) both) (pack (tail newest) (last_fields w a b u)) (pack_lt both_fit) (pack_lt (last_fit w a b u))
      ∙ ap₂ (λ (l m : List ℕ). l ++ m) both_bytes (last_bytes_law w a b u))

  length_both : length (set_bytes f ++ set_bytes g) ≡ 62
  length_both = ap length (sym both_bytes) ∙ length_bytes 62 (pack (wires newest) both)

  pub put_parts : (l m n o s : List ℕ) (i held : ℕ) → held < 2 ^ 64 → held ≡ word → m ≡ sets l i (to_bytes 8 held) → n ≡ sets m (i + 8) (set_bytes f)
      → o ≡ sets n (i + 39) (set_bytes g) → s ≡ sets o (i + 70) (last_bytes w a b) → s ≡ sets l i (record_of newest entry)
  unfolding unpack
  put_parts l m n o s i held h e x y z t =
      let c : word < 2 ^ 64 = omega arith in
      let first : List ℕ = to_bytes 8 word in
      let sets_both : List ℕ = set_bytes f ++ set_bytes g in
      let j : i + 39 ≡ i + 8 + length (set_bytes f) = let k : length (set_bytes f) ≡ 31 = length_set_bytes f p in omega arith in
      let d : i + 70 ≡ i + 8 + length sets_both = let k : length (set_bytes f ++ set_bytes g) ≡ 62 = length_both in omega arith in
      let wired : o ≡ sets (sets l i first) (i + 8) sets_both =
      z ∙ ap (λ (k : List ℕ). sets k (i + 39) (set_bytes g)) (y ∙ ap (λ (k : List ℕ). sets k (i + 8) (set_bytes f)) (x ∙ ap (λ (k : ℕ). sets l i (to_bytes 8 k)) e))
      ∙ ap (λ (k : ℕ). sets (sets (sets l i first) (i + 8) (set_bytes f)) k (set_bytes g)) j
      ∙ sets_append (sets l i first) (i + 8) (set_bytes f) (set_bytes g) in
      t ∙ ap₂ (λ (k : List ℕ) (n : ℕ). sets k n (last_bytes w a b)) wired d
      ∙ sets_append (sets l i first) (i + 8) sets_both (last_bytes w a b)
      ∙ sets_append l i first (sets_both ++ last_bytes w a b)
      ∙ ap (sets l i) (sym (record_parts c))
