-- Where the fields of a dump stand.
-- Assumes nothing.
use Prim.Native.Nat.{ℕ, zero, suc, ◌+◌, ◌*◌, ◌^◌, ◌≤◌, ◌<◌}
use mathlib.Core.Path.{◌≡◌, refl, sym, ap, ◌∙◌}
use mathlib.Core.Bool.{Bool}
use mathlib.Core.List.{List, [], ◌∷◌, ◌++◌, append_assoc}
use native.Mathlib.Omega.{arith}
use lib.ListN.{length, get_or, take, drop, length-append}
use lib.Seq.{take_at, drop_at, drop-drop, length-take-le}
use Rattle.formats.specs.BitList.{AreBytes, bit_list, number_of, bits_of_bytes, filled}
use Rattle.formats.specs.Format.{flat}
use Rattle.formats.proofs.BitListLaws.{length_bits, list_back, length_bits_of_bytes}
use Rattle.formats.proofs.BitAtLaws.{filled_whole}
use Rattle.formats.proofs.FormatLaws.{flat_length}
use Rattle.dump_rules.specs.Shown.{Shown, WellShown}
use Rattle.dump_rules.specs.Dump.{mark, class_bits, stage_bits, to_full, head_bits, dump_bits}
use Rattle.dump_rules.specs.Reader.{shows, read_dump}
use Rattle.dump_rules.proofs.DumpBits.{format_bits, class_length}
use Rattle.dump_rules.proofs.ReaderLaws.{bits_of_dump, one_dump}

-- ── bits behind others ──

module _ (bits : List Bool) where
  -- what stands behind the first w of them
  pub next : (at w : ℕ) (xs ys : List Bool) → drop at bits ≡ xs ++ ys → length xs ≡ w → drop (at + w) bits ≡ ys
  next at w xs ys e l = sym (drop-drop w at bits) ∙ ap (drop w) e ∙ drop_at xs ys w l

  -- a number
  pub number : (at w v : ℕ) (rest : List Bool) → drop at bits ≡ bit_list w v ++ rest → v < 2 ^ w → filled w (drop at bits) ≡ v
  number at w v rest e h =
      let n : w ≤ length (drop at bits) =
      let m : length (drop at bits) ≡ length (bit_list w v) + length rest = ap length e ∙ length-append (bit_list w v) rest in
      omega (arith, length_bits w v) in
      filled_whole w (drop at bits) n ∙ ap (λ (z : List Bool). number_of (take w z)) e
      ∙ ap number_of (take_at (bit_list w v) rest w (length_bits w v)) ∙ list_back w v h

-- entry i of a list
flat_at : {A : Type 0} (f : A → List Bool) (xs : List A) (i : ℕ) (d : A) → i < length xs
    → flat f xs ≡ flat f (take i xs) ++ (f (get_or xs i d) ++ flat f (drop (suc i) xs))
unfolding flat
flat_at f [] i d h = absurd (omega arith)
flat_at f (x ∷ xs) zero d h = refl
flat_at f (x ∷ xs) (suc i) d h =
    ap (λ (l : List Bool). f x ++ l) (flat_at f xs i d (omega arith))
    ∙ sym (append_assoc (f x) (flat f (take i xs)) (f (get_or xs i d) ++ flat f (drop (suc i) xs)))

pub entry : {A : Type 0} (f : A → List Bool) (w : ℕ) → ((x : A) → length (f x) ≡ w) → (bits : List Bool) (at : ℕ) (xs : List A) (rest : List Bool) (i : ℕ) (d : A)
    → drop at bits ≡ flat f xs ++ rest → i < length xs → drop (at + w * i) bits ≡ f (get_or xs i d) ++ (flat f (drop (suc i) xs) ++ rest)
entry f w size bits at xs rest i d e l =
    let p : List Bool = flat f (take i xs) in
    let m : List Bool = f (get_or xs i d) in
    let q : List Bool = flat f (drop (suc i) xs) in
    let n : length p ≡ w * i = flat_length f w size (take i xs) ∙ ap (λ (k : ℕ). w * k) (length-take-le i xs (omega arith)) in
    next bits at (w * i) p (m ++ (q ++ rest))
    (e ∙ ap (λ (z : List Bool). z ++ rest) (flat_at f xs i d l) ∙ append_assoc p (m ++ q) rest ∙ ap (λ (z : List Bool). p ++ z) (append_assoc m q rest)) n

-- ── the dump ──

module _ (bytes : List ℕ) (s : Shown) (b : AreBytes bytes) (e : read_dump bytes ≡ shows s) where
  abbrev all : List Bool
  all = bits_of_bytes bytes

  pub well : WellShown s
  well = (one_dump bytes b s e).0

  abbrev c : ℕ
  c = length s.causes

  abbrev l : ℕ
  l = length s.locks

  abbrev z : ℕ
  z = to_full (head_bits c l)

  abbrev k : ℕ
  k = length s.stages

  abbrev after_number : List Bool
  after_number = flat stage_bits s.stages

  abbrev after_zeros : List Bool
  after_zeros = bit_list 16 k ++ after_number

  abbrev after_locks : List Bool
  after_locks = bit_list z 0 ++ after_zeros

  abbrev after_causes : List Bool
  after_causes = flat (bit_list 1) s.locks ++ after_locks

  abbrev after_classes : List Bool
  after_classes = flat (bit_list 1) s.causes ++ after_causes

  abbrev after_alerts : List Bool
  after_alerts = flat class_bits s.classes ++ after_classes

  pub at_alerts : drop 32 all ≡ bit_list 8 s.n ++ after_alerts
  unfolding dump_bits
  at_alerts =
      ap (drop 32) (ap bits_of_bytes (one_dump bytes b s e).1 ∙ bits_of_dump s well ∙ format_bits s well)
      ∙ drop_at (bits_of_bytes mark) (bit_list 8 s.n ++ after_alerts) 32 (length_bits_of_bytes mark)

  pub at_classes : drop 40 all ≡ after_alerts
  at_classes = next all 32 8 (bit_list 8 s.n) after_alerts at_alerts (length_bits 8 s.n)

  pub at_causes : drop 244 all ≡ after_classes
  at_causes = next all 40 204 (flat class_bits s.classes) after_classes at_classes (flat_length class_bits 51 class_length s.classes ∙ ap (λ (n : ℕ). 51 * n) well.four)

  flag_size : (xs : List ℕ) → length (flat (bit_list 1) xs) ≡ length xs
  flag_size xs = flat_length (bit_list 1) 1 (length_bits 1) xs ∙ (let y : 1 * length xs ≡ length xs = omega arith in y)

  pub at_locks : drop (244 + c) all ≡ after_causes
  at_locks = next all 244 c (flat (bit_list 1) s.causes) after_causes at_causes (flag_size s.causes)

  pub at_zeros : drop (244 + c + l) all ≡ after_locks
  at_zeros = next all (244 + c) l (flat (bit_list 1) s.locks) after_locks at_locks (flag_size s.locks)

  pub at_number : drop (244 + c + l + z) all ≡ after_zeros
  at_number = next all (244 + c + l) z (bit_list z 0) after_zeros at_zeros (length_bits z 0)

  pub at_stages : drop (244 + c + l + z + 16) all ≡ after_number
  at_stages = next all (244 + c + l + z) 16 (bit_list 16 k) after_number at_number (length_bits 16 k)
