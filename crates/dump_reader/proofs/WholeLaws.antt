-- The parts of a dump one behind the other, the mark, and the verdict.
-- Assumes nothing.
use Prim.Native.Nat.{ℕ, zero, suc, ◌+◌, ◌-◌, ◌*◌, ◌/◌, ◌^◌, ◌≤◌, ◌<◌}
use mathlib.Core.Path.{◌≡◌, refl, sym, ap, ap₂, ◌∙◌, subst}
use mathlib.Core.Bool.{Bool, true, false, cond}
use mathlib.Core.List.{List, [], ◌∷◌, ◌++◌}
use native.Mathlib.Omega.{arith}
use native.Mathlib.Nat.{add-zero}
use borrow.Author.Tests.{leb-true, leb-false, le-leb, lt-leb, eq-eqb, ne_eqb}
use lib.Dec.{eqb, leb}
use lib.ListN.{length, get_or, drop, length-append, length-drop}
use lib.Seq.{take_at, drop-append-add, drop-length}
use Rattle.std.specs.Prelude.{Result, Ok, Err}
use Rattle.bits.proofs.IndexLaws.{any_at}
use Rattle.formats.specs.BitList.{AreBytes, bit_list, number_of, bits_of_bytes, filled}
use Rattle.formats.specs.Format.{Outcome, got, cut, wrong, field, chain, repeated, some_from}
use Rattle.formats.proofs.BitListLaws.{length_bits, list_back, length_bits_of_bytes}
use Rattle.formats.proofs.BitAtLaws.{filled_whole}
use Rattle.formats.proofs.FormatLaws.{field_lawful}
use Rattle.rules.specs.Map.{decode, is_lock}
use Rattle.dump_rules.specs.Shown.{Shown, WellShown, limit, is_cause}
use Rattle.dump_rules.specs.Dump.{mark, to_full, head_bits, dump_of}
use Rattle.dump_rules.specs.Reader.{IsDump, IsCut, seen, read_dump, any_number, bit_format, bits_format, cause_count, lock_count, shadowed_from, first, later, mark_chain, dump_format}
use Rattle.dump_rules.proofs.PickLaws.{many_le}
use Rattle.dump_rules.proofs.LawfulDump.{dump_lawful}
use Rattle.dump_rules.proofs.GoodDump.{rise_many}
use Rattle.dump_rules.proofs.ReaderLaws.{dump_length_law, reads}
use Rattle.dump_reader.specs.Steps.{step_of, step_at, step_by, judged_of}
use Rattle.dump_reader.specs.Reads.{Reads, ReadsNumber}
use Rattle.dump_reader.specs.declared.reader.Reader.{Reader}
use Rattle.dump_rules.specs.declared.Unread.{Unread}
use Rattle.dump_rules.specs.declared.Unread.TheVariants.{CutDump, NoDump}
use Rattle.dump_reader.proofs.StepLaws.{on, fine_of, field_step, step_on, nothing_step}
use Rattle.dump_reader.proofs.FieldSteps.{any_fine, field_code, chain_on, chain_err, loop_err, loop_on}

-- ── bits one after another: as one number of so many bits ──

any_step : (bytes : List ℕ) (at k : ℕ) → at ≤ 8 * length bytes → step_at (field k any_number) bytes at ≡ step_by (8 * length bytes) at k true
any_step bytes at k h = sym (field_code bytes at k any_number true (step_by (8 * length bytes) at k true) h (any_fine bytes at k h) refl)

run_bits : (bytes : List ℕ) (k at : ℕ) → at ≤ 8 * length bytes → step_at (bits_format k) bytes at ≡ step_by (8 * length bytes) at k true
run_bits bytes zero at h =
    let t : length (bits_of_bytes bytes) ≡ 8 * length bytes = length_bits_of_bytes bytes in
    nothing_step [] bytes at (omega arith) ∙ sym (ap (λ (b : Bool). cond b (Ok (at + 0)) (Err CutDump)) (le-leb 0 (8 * length bytes - at) (omega arith)) ∙ ap on (add-zero at))
run_bits bytes (suc k) at h = go (leb 1 (8 * length bytes - at)) refl (λ l. run_bits bytes k (at + 1) l)
  where
    bits : ℕ
    bits = 8 * length bytes

    go : (t : Bool) → leb 1 (bits - at) ≡ t → (at + 1 ≤ bits → step_at (bits_format k) bytes (at + 1) ≡ step_by bits (at + 1) k true)
        → step_at (bits_format (suc k)) bytes at ≡ step_by bits at (suc k) true
    go false e ih =
        let l : bits - at < 1 = leb-false 1 (bits - at) e in
        let q : step_by bits at 1 true ≡ Err CutDump = ap (λ (b : Bool). cond b (Ok (at + 1)) (Err CutDump)) e in
        sym (chain_err bytes at (repeated bit_format 0) k tt CutDump (sym (any_step bytes at 1 h ∙ q)))
        ∙ sym (ap (λ (b : Bool). cond b (Ok (at + suc k)) (Err CutDump)) (lt-leb (suc k) (bits - at) (omega arith)))
    go true e ih =
        let l : 1 ≤ bits - at = leb-true 1 (bits - at) e in
        let q : step_by bits at 1 true ≡ Ok (at + 1) = ap (λ (b : Bool). cond b (Ok (at + 1)) (Err CutDump)) e in
        let x = chain_on bytes at (repeated bit_format 0) k tt (field_lawful 1 any_number) (at + 1) h (sym (any_step bytes at 1 h ∙ q)) in
        x.1 ∙ ih (omega arith) ∙ rest (leb k (bits - (at + 1))) refl l
      where
        rest : (u : Bool) → leb k (bits - (at + 1)) ≡ u → 1 ≤ bits - at → step_by bits (at + 1) k true ≡ step_by bits at (suc k) true
        rest true f l =
            let m : k ≤ bits - (at + 1) = leb-true k (bits - (at + 1)) f in
            let a : at + 1 + k ≡ at + suc k = omega arith in
            ap (λ (b : Bool). cond b (Ok (at + 1 + k)) (Err CutDump)) f ∙ ap on a
            ∙ sym (ap (λ (b : Bool). cond b (Ok (at + suc k)) (Err CutDump)) (le-leb (suc k) (bits - at) (omega arith)))
        rest false f l =
            let m : bits - (at + 1) < k = leb-false k (bits - (at + 1)) f in
            ap (λ (b : Bool). cond b (Ok (at + 1 + k)) (Err CutDump)) f
            ∙ sym (ap (λ (b : Bool). cond b (Ok (at + suc k)) (Err CutDump)) (lt-leb (suc k) (bits - at) (omega arith)))

-- a bit for each register of a kind
pub flags_read : {A : Type 0} (k m : ℕ) (from to : Reader) (r : Result A Unread) → m ≡ k → Reads (field m any_number) from to r → Reads (bits_format k) from to r
flags_read k m from to r e c =
    let h : from.at ≤ 8 * length from.bytes.now = from.within in
    record {
      bytes = c.bytes;
      place = c.place ∙ any_step from.bytes.now from.at m h ∙ ap (λ (j : ℕ). step_by (8 * length from.bytes.now) from.at j true) e ∙ sym (run_bits from.bytes.now k from.at h);
    }

pub zero_only : (x : ℕ) → eqb 0 x ≡ leb x 0
zero_only zero = refl
zero_only (suc x) = ne_eqb 0 (suc x) (omega arith) ∙ sym (lt-leb (suc x) 0 (omega arith))

-- zeros to a full byte
pub pad_read : (n c l w : ℕ) (from to : Reader) (r : Result ℕ Unread) → c ≡ cause_count n → l ≡ lock_count n → w ≡ to_full (head_bits c l)
    → ReadsNumber w (eqb 0) from to r → ReadsNumber (to_full (head_bits (cause_count n) (lock_count n))) (eqb 0) from to r
pad_read n c l w from to r e f g =
    subst (λ (j : ℕ). ReadsNumber j (eqb 0) from to r) (g ∙ ap₂ (λ (x y : ℕ). to_full (head_bits x y)) e f)

-- ── the mark ──

first_at : (xs : List ℕ) (i : ℕ) → first (drop i xs) ≡ get_or xs i 0
first_at [] zero = refl
first_at [] (suc i) = refl
first_at (x ∷ xs) zero = refl
first_at (x ∷ xs) (suc i) = first_at xs i

later_at : (xs : List ℕ) (i : ℕ) → later (drop i xs) ≡ drop (i + 1) xs
later_at xs i = go xs i ∙ ap (λ (k : ℕ). drop k xs) (let e : suc i ≡ i + 1 = omega arith in e)
  where
    go : (xs : List ℕ) (i : ℕ) → later (drop i xs) ≡ drop (suc i) xs
    go [] zero = refl
    go [] (suc i) = refl
    go (x ∷ xs) zero = refl
    go (x ∷ xs) (suc i) = go xs i

drop_bits : (xs : List ℕ) (i : ℕ) → drop (8 * i) (bits_of_bytes xs) ≡ bits_of_bytes (drop i xs)
unfolding bits_of_bytes
drop_bits xs zero = refl
drop_bits [] (suc i) = nil (8 * suc i)
  where
    nil : (k : ℕ) → ◌≡◌ {A = List Bool} (drop k []) []
    nil zero = refl
    nil (suc k) = refl
drop_bits (x ∷ xs) (suc i) =
    let e : 8 * suc i ≡ length (bit_list 8 x) + 8 * i = let l : length (bit_list 8 x) ≡ 8 = length_bits 8 x in omega arith in
    ap (λ (k : ℕ). drop k (bit_list 8 x ++ bits_of_bytes xs)) e ∙ drop-append-add (bit_list 8 x) (bits_of_bytes xs) (8 * i) ∙ drop_bits xs i

first_byte : (xs : List ℕ) (i : ℕ) → i < length xs → get_or xs i 0 < 2 ^ 8 → filled 8 (bits_of_bytes (drop i xs)) ≡ get_or xs i 0
unfolding bits_of_bytes
first_byte [] i h l = absurd (omega arith)
first_byte (x ∷ xs) zero h l =
    let n : 8 ≤ length (bit_list 8 x ++ bits_of_bytes xs) = let m : length (bit_list 8 x ++ bits_of_bytes xs) ≡ length (bit_list 8 x) + length (bits_of_bytes xs) = length-append (bit_list 8 x) (bits_of_bytes xs) in omega (arith, length_bits 8 x) in
    filled_whole 8 (bit_list 8 x ++ bits_of_bytes xs) n ∙ ap number_of (take_at (bit_list 8 x) (bits_of_bytes xs) 8 (length_bits 8 x)) ∙ list_back 8 x l
first_byte (x ∷ xs) (suc i) h l = first_byte xs i (omega arith) l

byte_at : (xs : List ℕ) (i : ℕ) → i < length xs → get_or xs i 0 < 2 ^ 8 → filled 8 (drop (8 * i) (bits_of_bytes xs)) ≡ get_or xs i 0
byte_at xs i h l = ap (filled 8) (drop_bits xs i) ∙ first_byte xs i h l

mark_small : (i : ℕ) → i < 4 → get_or mark i 0 < 2 ^ 8
mark_small zero h = omega arith
mark_small (suc zero) h = omega arith
mark_small (suc (suc zero)) h = omega arith
mark_small (suc (suc (suc zero))) h = omega arith
mark_small (suc (suc (suc (suc i)))) h = absurd (omega arith)

module _ (bytes : List ℕ) (i : ℕ) (l : i < 4) (x : Result ℕ Unread) (inv : x ≡ step_at (chain mark_chain (4 - i) (drop i mark)) bytes (8 * i)) where
  total : length (bits_of_bytes bytes) ≡ 8 * length bytes
  total = length_bits_of_bytes bytes

  same_rule : step_at (field 8 (eqb (get_or mark i 0))) bytes (8 * i) ≡ step_at (field 8 (eqb (first (drop i mark)))) bytes (8 * i)
  same_rule = ap (λ (c : ℕ). step_at (field 8 (eqb c)) bytes (8 * i)) (sym (first_at mark i))

  -- a byte that is there
  byte_step : i < length bytes → get_or bytes i 0 < 2 ^ 8 → (t : Bool) → eqb (get_or mark i 0) (get_or bytes i 0) ≡ t
      → step_at (field 8 (eqb (get_or mark i 0))) bytes (8 * i) ≡ cond t (Ok (8 * i + 8)) (Err NoDump)
  byte_step h s t e =
      let w : leb 8 (length (bits_of_bytes bytes) - 8 * i) ≡ true = le-leb 8 (length (bits_of_bytes bytes) - 8 * i) (omega (arith, total)) in
      let f : fine_of bytes (8 * i) 8 (eqb (get_or mark i 0)) ≡ t =
      ap (λ (b : Bool). cond b (eqb (get_or mark i 0) (filled 8 (drop (8 * i) (bits_of_bytes bytes)))) (some_from (eqb (get_or mark i 0)) 8 (drop (8 * i) (bits_of_bytes bytes)))) w
      ∙ ap (eqb (get_or mark i 0)) (byte_at bytes i h s) ∙ e in
      field_step bytes (8 * i) 8 (eqb (get_or mark i 0)) (omega (arith, total))
      ∙ ap₂ (λ (a b : Bool). cond a (cond b (Ok (8 * i + 8)) (Err CutDump)) (Err NoDump)) f w

  pub mark_wrong : i < length bytes → get_or bytes i 0 < 2 ^ 8 → (get_or bytes i 0 ≡ get_or mark i 0 → ⊥) → (Err NoDump) ≡ x
  mark_wrong h s d =
      loop_err bytes (8 * i) mark_chain 4 i (drop i mark) x inv l NoDump
      (sym (byte_step h s false (ne_eqb (get_or mark i 0) (get_or bytes i 0) (λ e. d (sym e)))) ∙ same_rule)

  pub mark_on : i < length bytes → get_or bytes i 0 < 2 ^ 8 → get_or bytes i 0 ≡ get_or mark i 0 → x ≡ step_at (chain mark_chain (4 - (i + 1)) (drop (i + 1) mark)) bytes (8 * (i + 1))
  mark_on h s e =
      let y =
      loop_on bytes (8 * i) mark_chain 4 i (drop i mark) x inv (field_lawful 8 (eqb (first (drop i mark)))) l (omega arith) (8 * i + 8)
      (sym (byte_step h s true (eq-eqb (get_or mark i 0) (get_or bytes i 0) (sym e))) ∙ same_rule) in
      let z : 8 * i + 8 ≡ 8 * (i + 1) = omega arith in
      y.1 ∙ ap₂ (λ (s : List ℕ) (b : ℕ). step_at (chain mark_chain (4 - (i + 1)) s) bytes b) (later_at mark i) z

  pub mark_cut : length bytes ≤ i → 8 * i ≤ 8 * length bytes → (Err CutDump) ≡ x
  unfolding number_of
  mark_cut h k =
      let none_left : drop (8 * i) (bits_of_bytes bytes) ≡ [] = ap (λ (j : ℕ). drop j (bits_of_bytes bytes)) (let e : 8 * i ≡ length (bits_of_bytes bytes) = omega (arith, total) in e) ∙ drop-length (bits_of_bytes bytes) in
      let w : leb 8 (length (bits_of_bytes bytes) - 8 * i) ≡ false = lt-leb 8 (length (bits_of_bytes bytes) - 8 * i) (omega (arith, total)) in
      let f : fine_of bytes (8 * i) 8 (eqb (get_or mark i 0)) ≡ true =
      ap (λ (b : Bool). cond b (eqb (get_or mark i 0) (filled 8 (drop (8 * i) (bits_of_bytes bytes)))) (some_from (eqb (get_or mark i 0)) 8 (drop (8 * i) (bits_of_bytes bytes)))) w
      ∙ ap (some_from (eqb (get_or mark i 0)) 8) none_left ∙ some in
      loop_err bytes (8 * i) mark_chain 4 i (drop i mark) x inv l CutDump
      (sym (field_step bytes (8 * i) 8 (eqb (get_or mark i 0)) (omega (arith, total)) ∙ ap₂ (λ (a b : Bool). cond a (cond b (Ok (8 * i + 8)) (Err CutDump)) (Err NoDump)) f w) ∙ same_rule)
    where
      some : some_from (eqb (get_or mark i 0)) 8 [] ≡ true
      some = any_at (λ y. eqb (get_or mark i 0) (number_of [] * 2 ^ 8 + y)) (2 ^ 8) (get_or mark i 0) (mark_small i l) (eq-eqb (get_or mark i 0) (0 * 2 ^ 8 + get_or mark i 0) (omega arith))

-- ── the verdict ──

module _ (from to : Reader) (start : from.at ≡ 0) where
  abbrev bytes : List ℕ
  bytes = from.bytes.now

  from_start : step_at dump_format bytes from.at ≡ step_of (length (bits_of_bytes bytes)) (dump_format.read (bits_of_bytes bytes))
  unfolding step_at
  from_start = ap (step_at dump_format bytes) start

  judged_on : {A : Type 0} (u : A) → Reads dump_format from to (Ok u)
      → (s : Shown) × (read_dump bytes ≡ seen (got s (drop to.at (bits_of_bytes bytes)))) × (to.at ≤ 8 * length bytes)
  unfolding read_dump
  judged_on u c =
      let h : from.at ≤ 8 * length bytes = from.within in
      let x = step_on bytes from.at dump_format dump_lawful (omega (arith, length_bits_of_bytes bytes)) to.at (sym c.place) in
      (x.0, ap seen (ap (λ (k : ℕ). dump_format.read (drop k (bits_of_bytes bytes))) (sym start) ∙ x.1), omega (arith, x.2, length_bits_of_bytes bytes))

  pub judged_dump : {A : Type 0} (u : A) → Reads dump_format from to (Ok u) → 8 * length to.bytes.now - to.at ≡ 0 → Ok tt ≡ judged_of (read_dump bytes)
  judged_dump u c f =
      let x = judged_on u c in
      let b : length to.bytes.now ≡ length bytes = ap length c.bytes in
      let e : to.at ≡ length (bits_of_bytes bytes) = omega (arith, x.2, length_bits_of_bytes bytes) in
      let z : drop to.at (bits_of_bytes bytes) ≡ [] = ap (λ (j : ℕ). drop j (bits_of_bytes bytes)) e ∙ drop-length (bits_of_bytes bytes) in
      sym (ap judged_of (x.1 ∙ ap (λ (r : List Bool). seen (got x.0 r)) z))

  more_behind : (s : Shown) (r : List Bool) → 0 < length r → judged_of (seen (got s r)) ≡ Err NoDump
  more_behind s [] h = absurd (omega arith)
  more_behind s (b ∷ bs) h = refl

  pub judged_more : {A : Type 0} (u : A) → Reads dump_format from to (Ok u) → (8 * length to.bytes.now - to.at ≡ 0 → ⊥) → Err NoDump ≡ judged_of (read_dump bytes)
  judged_more u c d =
      let x = judged_on u c in
      let b : length to.bytes.now ≡ length bytes = ap length c.bytes in
      let l : to.at ≤ 8 * length bytes = x.2 in
      let n : length (drop to.at (bits_of_bytes bytes)) ≡ length (bits_of_bytes bytes) - to.at = length-drop to.at (bits_of_bytes bytes) in
      let t : length (bits_of_bytes bytes) ≡ 8 * length bytes = length_bits_of_bytes bytes in
      sym (ap judged_of x.1 ∙ more_behind x.0 (drop to.at (bits_of_bytes bytes)) (omega arith))

  pub judged_failed : {A : Type 0} (e : Unread) → Reads {B = A} dump_format from to (Err e) → Err e ≡ judged_of (read_dump bytes)
  unfolding read_dump
  judged_failed e c = go (dump_format.read (bits_of_bytes bytes)) (sym from_start ∙ sym c.place)
    where
      go : (o : Outcome Shown) → step_of (length (bits_of_bytes bytes)) o ≡ Err e → Err e ≡ judged_of (seen o)
      go (got s r) p = cc
      go cut p = cc
      go wrong p = cc

-- ── no dump is longer than 10,000 bytes ──

dump_short : (s : Shown) → WellShown s → length (dump_of s) ≤ 10000
dump_short s w =
    let c : length s.causes ≤ limit = subst (λ (k : ℕ). k ≤ limit) (sym w.all_causes) (many_le (λ r. is_cause (decode s.n r)) 0 limit) in
    let l : length s.locks ≤ limit = subst (λ (k : ℕ). k ≤ limit) (sym w.all_locks) (many_le (λ r. is_lock (decode s.n r)) 0 limit) in
    let k : length s.stages ≤ shadowed_from s.n 0 = rise_many s.n 0 s.stages w.rising in
    let m : shadowed_from s.n 0 ≤ limit - 0 = many_le (λ r. Rattle.rules.specs.Map.is_shadowed (decode s.n r)) 0 (limit - 0) in
    let n : length (dump_of s) ≡ 4 + (head_bits (length s.causes) (length s.locks) + 7) / 8 + 2 + 6 * length s.stages = dump_length_law s w in
    omega arith

pub judged_long : (bytes : List ℕ) → AreBytes bytes → 10000 < length bytes → Err NoDump ≡ judged_of (read_dump bytes)
judged_long bytes b h =
    sym (ap judged_of ((reads bytes b).sixteen.1 ((λ s d. dump s d), (λ c. start c))))
  where
    dump : (s : Shown) → IsDump bytes s → ⊥
    dump s d = let x : length bytes ≡ length (dump_of s) = ap length d.1 in omega (arith, dump_short s d.0)

    start : IsCut bytes → ⊥
    start c =
        let x : length bytes + length c.1 ≡ length (dump_of c.0) = sym (length-append bytes c.1) ∙ ap length c.3.1 in
        omega (arith, dump_short c.0 c.3.0)

-- all four bytes of the mark are read
pub mark_end : (bytes : List ℕ) (i : ℕ) (x : Result ℕ Unread) → i ≡ 4 → i ≤ length bytes → x ≡ step_at (chain mark_chain (4 - i) (drop i mark)) bytes (8 * i) → Ok 32 ≡ x
mark_end bytes i x e l inv =
    let t : length (bits_of_bytes bytes) ≡ 8 * length bytes = length_bits_of_bytes bytes in
    sym (nothing_step [] bytes 32 (omega arith)) ∙ ap (λ (j : ℕ). step_at (chain mark_chain (4 - j) (drop j mark)) bytes (8 * j)) (sym e) ∙ sym inv
