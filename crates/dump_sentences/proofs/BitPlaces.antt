-- Where the parts of a dump's bits stand, counted from its first bit.
-- Assumes nothing.
use Prim.Native.Nat.{ℕ, zero, suc, ◌+◌, ◌-◌, ◌*◌, ◌/◌, ◌%◌, ◌≤◌, ◌<◌}
use mathlib.Core.Path.{◌≡◌, refl, sym, ap, ◌∙◌, subst}
use mathlib.Core.Bool.{Bool, true, false, cond}
use mathlib.Core.List.{List, [], ◌∷◌, ◌++◌}
use native.Mathlib.Nat.{mul-suc}
use native.Mathlib.Omega.{arith}
use lib.ListN.{get_or, length, get_or-append}
use lib.Seq.{get_or-append-add}
use Rattle.bits.specs.Bits.{bit}
use Rattle.bits.proofs.BitLaws.{bit_ext}
use Rattle.dump_laws.specs.Claims.{up_from}
use Rattle.dump_rules.specs.Dump.{mark, class_bits, stage_bits, to_full, head_bits, dump_bits, dump_of}
use Rattle.dump_rules.specs.Shown.{ShownClass, ShownStage, Shown, WellShown, picks}
use Rattle.dump_rules.proofs.DumpBits.{format_bits, class_length, stage_length}
use Rattle.dump_rules.proofs.ReaderLaws.{bits_of_dump}
use Rattle.formats.specs.BitList.{bit_list, bits_of_bytes}
use Rattle.formats.specs.Format.{flat}
use Rattle.formats.proofs.BitAtLaws.{bits_at}
use Rattle.formats.proofs.BitListLaws.{length_bits, length_bits_of_bytes}
use Rattle.formats.proofs.FormatLaws.{flat_length}
use Rattle.trace_sentences.specs.RecordBits.{bit_at}

-- ── lists ──

-- behind the first w
pub skip : (xs ys : List Bool) (w p : ℕ) → length xs ≡ w → get_or (xs ++ ys) (w + p) false ≡ get_or ys p false
skip xs ys w p e = ap (λ (v : ℕ). get_or (xs ++ ys) (v + p) false) (sym e) ∙ get_or-append-add xs ys p false

pub front : (xs ys : List Bool) (w p : ℕ) → length xs ≡ w → p < w → get_or (xs ++ ys) p false ≡ get_or xs p false
front xs ys w p e l = get_or-append xs ys false p (omega arith)

-- the bits of each of a list, w of them each
pub flat_at : {A : Type 0} (f : A → List Bool) (w : ℕ) → ((x : A) → length (f x) ≡ w) → (xs : List A) (i j : ℕ) (d : A) → i < length xs → j < w
    → get_or (flat f xs) (w * i + j) false ≡ get_or (f (get_or xs i d)) j false
unfolding flat
flat_at f w e [] i j d l u = absurd (omega arith)
flat_at f w e (x ∷ xs) zero j d l u = let z : w * 0 + j ≡ j = omega arith in ap (λ (p : ℕ). get_or (f x ++ flat f xs) p false) z ∙ front (f x) (flat f xs) w j (e x) u
flat_at f w e (x ∷ xs) (suc i) j d l u =
    let m : w * suc i ≡ w * i + w = mul-suc w i in
    let z : w * suc i + j ≡ w + (w * i + j) = omega arith in
    ap (λ (p : ℕ). get_or (f x ++ flat f xs) p false) z ∙ skip (f x) (flat f xs) w (w * i + j) (e x) ∙ flat_at f w e xs i j d (omega arith) u

-- numbers one after the other
pub up_length : (a m : ℕ) → length (up_from a m) ≡ m
up_length a zero = refl
up_length a (suc m) = ap (λ (k : ℕ). suc k) (up_length (suc a) m)

pub up_at : (a m i d : ℕ) → i < m → get_or (up_from a m) i d ≡ a + i
up_at a zero i d l = absurd (omega arith)
up_at a (suc m) zero d l = omega arith
up_at a (suc m) (suc i) d l = up_at (suc a) m i d (omega arith) ∙ omega arith

-- a number that is picked stands behind those below it
pub pick_at : (p : ℕ → Bool) (a k m d : ℕ) → p (a + k) ≡ true → k < m → get_or (picks p a m) (length (picks p a k)) d ≡ a + k
unfolding picks
pick_at p a k zero d e l = absurd (omega arith)
pick_at p a zero (suc m) d e l =
    let z : a + 0 ≡ a = omega arith in
    ap (λ (t : Bool). get_or (cond t (a ∷ picks p (suc a) m) (picks p (suc a) m)) 0 d) (ap p (sym z) ∙ e) ∙ sym z
pick_at p a (suc k) (suc m) d e l =
    let z : suc a + k ≡ a + suc k = omega arith in go (p a) (pick_at p (suc a) k m d (ap p z ∙ e) (omega arith) ∙ z)
  where
    go : (t : Bool) → get_or (picks p (suc a) m) (length (picks p (suc a) k)) d ≡ a + suc k
        → get_or (cond t (a ∷ picks p (suc a) m) (picks p (suc a) m)) (length (cond t (a ∷ picks p (suc a) k) (picks p (suc a) k))) d ≡ a + suc k
    go true i = i
    go false i = i

-- ── bytes by their bits ──

pub byte_by_bits : (a b : List ℕ) (n : ℕ) → get_or a n 0 ≤ 255 → get_or b n 0 ≤ 255 → ((q : ℕ) → 8 * n ≤ q → q < 8 * n + 8 → bit_at a q ≡ bit_at b q) → get_or a n 0 ≡ get_or b n 0
byte_by_bits a b n x y s = bit_ext 8 (get_or a n 0) (get_or b n 0) (omega arith) (omega arith) (λ k u. go k u (s (8 * n + (7 - k)) (omega arith) (omega arith)))
  where
    go : (k : ℕ) → k < 8 → bit_at a (8 * n + (7 - k)) ≡ bit_at b (8 * n + (7 - k)) → bit (get_or a n 0) k ≡ bit (get_or b n 0) k
    go k u t =
        let e : (8 * n + (7 - k)) / 8 ≡ n = omega arith in
        let f : 7 - (8 * n + (7 - k)) % 8 ≡ k = omega arith in
        subst (λ (j : ℕ). bit (get_or a n 0) j ≡ bit (get_or b n 0) j) f
        (subst (λ (i : ℕ). bit (get_or a i 0) (7 - (8 * n + (7 - k)) % 8) ≡ bit (get_or b i 0) (7 - (8 * n + (7 - k)) % 8)) e t)

-- ── the dump of what is shown of n alerts ──

module _ (s : Shown) (v : WellShown s) (n : ℕ) (cs : length s.causes ≡ 7 + n) (ls : length s.locks ≡ 16 + n) where
  pub dump_bit : (p : ℕ) → bit_at (dump_of s) p ≡ get_or (dump_bits s) p false
  dump_bit p = sym (bits_at (dump_of s) p) ∙ ap (λ (bs : List Bool). get_or bs p false) (bits_of_dump s v ∙ format_bits s v)

  abbrev G : List Bool
  G = flat stage_bits s.stages

  abbrev K : List Bool
  K = bit_list 16 (length s.stages)

  abbrev zeros : ℕ
  zeros = to_full (head_bits (length s.causes) (length s.locks))

  abbrev Z : List Bool
  Z = bit_list zeros 0

  abbrev L : List Bool
  L = flat (bit_list 1) s.locks

  abbrev U : List Bool
  U = flat (bit_list 1) s.causes

  abbrev C : List Bool
  C = flat class_bits s.classes

  length_classes : length C ≡ 204
  length_classes = flat_length class_bits 51 class_length s.classes ∙ ap (λ (k : ℕ). 51 * k) v.four

  length_causes : length U ≡ 7 + n
  length_causes = flat_length (bit_list 1) 1 (length_bits 1) s.causes ∙ omega (arith, cs)

  length_locks : length L ≡ 16 + n
  length_locks = flat_length (bit_list 1) 1 (length_bits 1) s.locks ∙ omega (arith, ls)

  length_mark : length (bits_of_bytes mark) ≡ 32
  length_mark = length_bits_of_bytes mark

  at_mark : (j : ℕ) → j < 32 → get_or (dump_bits s) j false ≡ get_or (bits_of_bytes mark) j false
  unfolding dump_bits
  at_mark j l = front (bits_of_bytes mark) _ 32 j length_mark l

  behind_mark : (p : ℕ) → get_or (dump_bits s) (32 + p) false ≡ get_or (bit_list 8 s.n ++ (C ++ (U ++ (L ++ (Z ++ (K ++ G)))))) p false
  unfolding dump_bits
  behind_mark p = skip (bits_of_bytes mark) _ 32 p length_mark

  behind_n : (p : ℕ) → get_or (dump_bits s) (40 + p) false ≡ get_or (C ++ (U ++ (L ++ (Z ++ (K ++ G))))) p false
  behind_n p = let e : 40 + p ≡ 32 + (8 + p) = omega arith in ap (λ (q : ℕ). get_or (dump_bits s) q false) e ∙ behind_mark (8 + p) ∙ skip (bit_list 8 s.n) _ 8 p (length_bits 8 s.n)

  behind_classes : (p : ℕ) → get_or (dump_bits s) (244 + p) false ≡ get_or (U ++ (L ++ (Z ++ (K ++ G)))) p false
  behind_classes p = let e : 244 + p ≡ 40 + (204 + p) = omega arith in ap (λ (q : ℕ). get_or (dump_bits s) q false) e ∙ behind_n (204 + p) ∙ skip C _ 204 p length_classes

  behind_causes : (p : ℕ) → get_or (dump_bits s) (251 + n + p) false ≡ get_or (L ++ (Z ++ (K ++ G))) p false
  behind_causes p =
      let e : 251 + n + p ≡ 244 + (7 + n + p) = omega arith in ap (λ (q : ℕ). get_or (dump_bits s) q false) e ∙ behind_classes (7 + n + p) ∙ skip U _ (7 + n) p length_causes

  behind_locks : (p : ℕ) → get_or (dump_bits s) (267 + 2 * n + p) false ≡ get_or (Z ++ (K ++ G)) p false
  behind_locks p =
      let e : 267 + 2 * n + p ≡ 251 + n + (16 + n + p) = omega arith in ap (λ (q : ℕ). get_or (dump_bits s) q false) e ∙ behind_causes (16 + n + p) ∙ skip L _ (16 + n) p length_locks

  behind_zeros : (p : ℕ) → get_or (dump_bits s) (8 * ((274 + 2 * n) / 8) + p) false ≡ get_or (K ++ G) p false
  behind_zeros p =
      let e : 8 * ((274 + 2 * n) / 8) + p ≡ 267 + 2 * n + (zeros + p) = omega (arith, cs, ls) in
      ap (λ (q : ℕ). get_or (dump_bits s) q false) e ∙ behind_locks (zeros + p) ∙ skip Z _ zeros p (length_bits zeros 0)

  -- ── bits of the parts ──

  pub mark_at : (j : ℕ) → j < 32 → bit_at (dump_of s) j ≡ bit_at mark j
  mark_at j l = dump_bit j ∙ at_mark j l ∙ bits_at mark j

  pub n_at : (j : ℕ) → j < 8 → bit_at (dump_of s) (32 + j) ≡ get_or (bit_list 8 s.n) j false
  n_at j l = dump_bit (32 + j) ∙ behind_mark j ∙ front (bit_list 8 s.n) _ 8 j (length_bits 8 s.n) l

  pub class_at_law : (k j : ℕ) (d : ShownClass) → k < 4 → j < 51 → bit_at (dump_of s) (40 + (51 * k + j)) ≡ get_or (class_bits (get_or s.classes k d)) j false
  class_at_law k j d l u =
      dump_bit (40 + (51 * k + j)) ∙ behind_n (51 * k + j) ∙ front C _ 204 (51 * k + j) length_classes (omega arith)
      ∙ flat_at class_bits 51 class_length s.classes k j d (omega (arith, v.four)) u

  one_bit : (xs : List ℕ) (j d : ℕ) → j < length xs → get_or (flat (bit_list 1) xs) j false ≡ bit (get_or xs j d) 0
  unfolding bit_list
  one_bit xs j d l =
      let e : 1 * j + 0 ≡ j = omega arith in
      ap (λ (p : ℕ). get_or (flat (bit_list 1) xs) p false) (sym e) ∙ flat_at (bit_list 1) 1 (length_bits 1) xs j 0 d l (omega arith)

  pub cause_at_law : (j d : ℕ) → j < 7 + n → bit_at (dump_of s) (244 + j) ≡ bit (get_or s.causes j d) 0
  cause_at_law j d l = dump_bit (244 + j) ∙ behind_classes j ∙ front U _ (7 + n) j length_causes l ∙ one_bit s.causes j d (omega arith)

  pub lock_at_law : (j d : ℕ) → j < 16 + n → bit_at (dump_of s) (251 + n + j) ≡ bit (get_or s.locks j d) 0
  lock_at_law j d l = dump_bit (251 + n + j) ∙ behind_causes j ∙ front L _ (16 + n) j length_locks l ∙ one_bit s.locks j d (omega arith)

  pub zero_at : (j : ℕ) → j < 8 * ((274 + 2 * n) / 8) - (267 + 2 * n) → bit_at (dump_of s) (267 + 2 * n + j) ≡ get_or (bit_list zeros 0) j false
  zero_at j l = dump_bit (267 + 2 * n + j) ∙ behind_locks j ∙ front Z _ zeros j (length_bits zeros 0) (omega (arith, cs, ls))

  pub number_at : (j : ℕ) → j < 16 → bit_at (dump_of s) (8 * ((274 + 2 * n) / 8) + j) ≡ get_or (bit_list 16 (length s.stages)) j false
  number_at j l = dump_bit (8 * ((274 + 2 * n) / 8) + j) ∙ behind_zeros j ∙ front K _ 16 j (length_bits 16 (length s.stages)) l

  pub stage_at : (i j : ℕ) (d : ShownStage) → i < length s.stages → j < 48
      → bit_at (dump_of s) (8 * ((274 + 2 * n) / 8) + (16 + (48 * i + j))) ≡ get_or (stage_bits (get_or s.stages i d)) j false
  stage_at i j d l u =
      dump_bit (8 * ((274 + 2 * n) / 8) + (16 + (48 * i + j)))
      ∙ behind_zeros (16 + (48 * i + j))
      ∙ skip K G 16 (48 * i + j) (length_bits 16 (length s.stages))
      ∙ flat_at stage_bits 48 stage_length s.stages i j d l u
