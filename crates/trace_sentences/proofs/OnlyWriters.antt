-- No sentence of the writer is missing: whatever satisfies them gives one answer and one buffer. The rules' own round trip serves to show that a
-- well-formed record is determined by what it holds.
-- Assumes nothing.
use Prim.Native.Nat.{ℕ, ◌+◌, ◌*◌, ◌/◌, ◌%◌, ◌≤◌, ◌<◌}
use mathlib.Core.Path.{◌≡◌, refl, sym, ap, ◌∙◌}
use mathlib.Core.Bool.{Bool, true, false, false≢true}
use mathlib.Core.List.{List}
use native.Mathlib.Omega.{arith}
use native.Mathlib.Decide.{dec_lt}
use lib.IntN.{ℤ}
use lib.ListN.{get_or, length, take, drop}
use lib.Seq.{ext_get_or, get_or-take, get_or-drop}
use Rattle.bits.specs.Index.{place_in}
use Rattle.rules.specs.Access.{malformed}
use Rattle.rules.specs.Samples.{receive_positive, receive_negative}
use Rattle.trace_rules.specs.Edition.{newest}
use Rattle.trace_rules.specs.Record.{input_of, record_of}
use Rattle.trace_rules.specs.Writer.{any_unrecordable}
use Rattle.rules.specs.declared.Access.{Access}
use Rattle.trace_rules.specs.declared.Edition.TheVariants.{Wires}
use Rattle.rules.specs.declared.Input.{Input}
use Rattle.rules.specs.declared.Receive.{Receive}
use Rattle.trace_laws.proofs.RecordLaws.{record_input}
use Rattle.trace_laws.proofs.WriterLaws.{own_numbers}
use Rattle.sentences.proofs.OnlySamples.{same_words}
use Rattle.trace_sentences.specs.RecordBits.{form, bit_at, Stands, WiresAre, PairsAre, ReceiveIs, Holds}
use Rattle.trace_sentences.specs.Writers.{HeldIn, RecordOf, entry, Case10, Case11, Refuses, Wrote, WriteIs, Arrays, Writer}
use Rattle.trace_sentences.proofs.BytePlaces.{one_stands}
use Rattle.trace_sentences.proofs.HoldsRecords.{holds_reader}
use Rattle.trace_sentences.proofs.HoldsWriters.{formed, ten, is_ten}
use Rattle.trace_sentences.proofs.OnlyRecords.{same_pairs, same_access, some_kind}

-- ── one record of an access and sample ──

module _ (bytes : List ℕ) (a : Access) (p : HeldIn bytes a) where
  holds_read : Holds Wires bytes (input_of newest bytes)
  holds_read = holds_reader Wires bytes p.size p.byte

  read_access : (input_of newest bytes).access ≡ a
  read_access = let k = some_kind Wires bytes p.size p.byte in same_access Wires bytes k.0 k.1 (input_of newest bytes) p.held.0 holds_read p.held.1 ∙ p.held.2

  -- writing what was read gives the same bytes
  written_back : record_of newest (input_of newest bytes) ≡ bytes
  written_back =
      let k = some_kind Wires bytes p.size p.byte in
      let o = own_numbers bytes in
      ap (record_of newest) o
      ∙ record_input newest bytes p.size (λ i. let l : get_or bytes i 0 ≤ 255 = p.byte i in omega arith)
      (ap (λ (y : Input). malformed y.access) (sym o) ∙ formed bytes (input_of newest bytes) p.well_formed holds_read k.0 k.1.size k.1)

same_bits : (b c : List ℕ) (s : ℕ) (ws vs : List ℕ) → WiresAre b s 248 ws → WiresAre c s 248 vs → ((i : ℕ) → i < 248 → bit_at b (s + i) ≡ bit_at c (s + i)) → ws ≡ vs
same_bits b c s ws vs x y e = same_words ws vs x.words y.words x.word y.word (λ i l. go i l (dec_lt i 248))
  where
    go : (i : ℕ) → i < 256 → Dec (i < 248) → place_in ws i ≡ place_in vs i
    go i l (yes m) = x.wire i m ∙ e i m ∙ sym (y.wire i m)
    go i l (no f) = let m : 248 ≤ i = omega arith in x.past i m l ∙ sym (y.past i m l)

-- the word, and the receive pairs of what was handed in
same_word : (b c : List ℕ) (v u : ℕ) → Stands b 560 32 v → Stands c 560 32 u → ((i : ℕ) → i < 32 → bit_at b (560 + i) ≡ bit_at c (560 + i)) → v ≡ u
same_word b c v u x y e = one_stands c 560 32 v u (record { size = x.size; bits = λ i l. x.bits i l ∙ e i l }) y

same_lines : (b c : List ℕ) (p m : ℕ) → PairsAre b 592 p m → PairsAre c 592 p m → (v u : Receive) → ReceiveIs (form Wires) b v → ReceiveIs (form Wires) c u → v ≡ u
same_lines b c p m x y v u f g =
    let (p1, m1, s, i, j, d) = f.pairs refl in
    let (p2, m2, t, k, l, e) = g.pairs refl in
    let z : PairsAre c 592 p1 m1 = record {
      positive = λ n h. s.positive n h ∙ sym (x.positive n h) ∙ y.positive n h;
      negative = λ n h. s.negative n h ∙ sym (x.negative n h) ∙ y.negative n h;
    } in
    d ∙ same_pairs c 592 p1 m1 p2 m2 z t i j k l ∙ sym e

-- one sample's pairs in two records
handed : (x : Input) (b c : List ℕ) → RecordOf x b → RecordOf x c → (v u : Receive) → ReceiveIs (form Wires) b v → ReceiveIs (form Wires) c u → v ≡ u
handed x b c r s v u f g =
    let (p, m, d, y) = r.pairs in
    let (q, o, e, z) = s.pairs in
    let k : Receive.Pairs q o ≡ Receive.Pairs p m = sym e ∙ d in
    let w : PairsAre c 592 p m = record {
      positive = λ n h. sym (ap (λ (i : Receive). receive_positive i n) k) ∙ z.positive n h;
      negative = λ n h. sym (ap (λ (i : Receive). receive_negative i n) k) ∙ z.negative n h;
    } in
    same_lines b c p m y w v u f g

pub same_record : (x : Input) (b c : List ℕ) → RecordOf x b → RecordOf x c → b ≡ c
same_record x b c r s =
    let h = holds_read b x.access r.access in
    let k = holds_read c x.access s.access in
    let y : input_of newest b ≡ input_of newest c = λ i.
    record {
      access = (read_access b x.access r.access ∙ sym (read_access c x.access s.access)) i;
      sample = record {
        alerts = record {
          pos = same_bits b c 64 (input_of newest b).sample.alerts.pos (input_of newest c).sample.alerts.pos h.positive k.positive (λ j l. r.positive j l ∙ sym (s.positive j l)) i;
          neg = same_bits b c 312 (input_of newest b).sample.alerts.neg (input_of newest c).sample.alerts.neg h.negative k.negative (λ j l. r.negative j l ∙ sym (s.negative j l)) i;
        };
        word = same_word b c (input_of newest b).sample.word (input_of newest c).sample.word h.word k.word (λ j l. r.word j l ∙ sym (s.word j l)) i;
        receive = handed x b c r s (input_of newest b).sample.receive (input_of newest c).sample.receive h.receive k.receive i;
      };
    } in
    sym (written_back b x.access r.access) ∙ ap (record_of newest) y ∙ written_back c x.access s.access

-- ── the writer ──

pub record SameWrite (a b : ℤ) (left kept : List ℕ) : Type 0 where
  pub answer : a ≡ b
  pub buffer : left ≡ kept

module _ (xs : List Input) (buffer : List ℕ) (a b : ℤ) (left kept : List ℕ) where
  pub same_refuses : (m : ℕ) → Refuses m buffer a left → Refuses m buffer b kept → SameWrite a b left kept
  same_refuses m x y = record { answer = x.answer ∙ sym y.answer; buffer = x.bytes ∙ sym y.bytes }

  -- byte j is in record j / 75
  in_record : (bs : List ℕ) (j : ℕ) → get_or bs j 0 ≡ get_or (take 75 (drop (j / 75 * 75) bs)) (j % 75) 0
  in_record bs j =
      let e : j / 75 * 75 + j % 75 ≡ j = omega arith in
      let l : j % 75 < 75 = omega arith in
      sym (get_or-take 75 (drop (j / 75 * 75) bs) (j % 75) 0 l ∙ get_or-drop (j / 75 * 75) bs (j % 75) 0 ∙ ap (λ (n : ℕ). get_or bs n 0) e)

  same_wrote : Wrote xs buffer a left → Wrote xs buffer b kept → SameWrite a b left kept
  same_wrote x y =
      record {
        answer = x.answer ∙ sym y.answer;
        buffer = ext_get_or 0 left kept (x.lent ∙ sym y.lent) (λ j l. go j (dec_lt j (length xs * 75)));
      }
    where
      go : (j : ℕ) → Dec (j < length xs * 75) → get_or left j 0 ≡ get_or kept j 0
      go j (yes m) =
          let l : j / 75 < length xs = omega arith in
          in_record left j
          ∙ ap (λ (bs : List ℕ). get_or bs (j % 75) 0)
          (same_record (entry xs (j / 75)) (take 75 (drop (j / 75 * 75) left)) (take 75 (drop (j / 75 * 75) kept)) (x.records (j / 75) l) (y.records (j / 75) l))
          ∙ sym (in_record kept j)
      go j (no f) = let m : length xs * 75 ≤ j = omega arith in x.later j m ∙ sym (y.later j m)

  dec_10 : Dec (Case10 xs)
  dec_10 = go (any_unrecordable newest xs) (ten xs) (is_ten xs)
    where
      go : (t : Bool) → (t ≡ true → Case10 xs) → (Case10 xs → t ≡ true) → Dec (Case10 xs)
      go true f g = yes (f refl)
      go false f g = no (λ c. false≢true (g c))

  pub same_write : WriteIs xs buffer a left → WriteIs xs buffer b kept → SameWrite a b left kept
  same_write x y = go dec_10 (dec_lt (length buffer) (length xs * 75))
    where
      go : Dec (Case10 xs) → Dec (Case11 xs buffer) → SameWrite a b left kept
      go (yes c) d = same_refuses 10 (x.refused_10 c) (y.refused_10 c)
      go (no f) (yes d) = same_refuses 11 (x.refused_11 f d) (y.refused_11 f d)
      go (no f) (no g) = same_wrote (x.writes f g) (y.writes f g)

-- two writers that satisfy the sentences are one, of accesses and samples as their types have them
pub only_writer : (f g : List Input → List ℕ → ℤ) (l k : List Input → List ℕ → List ℕ) → Writer f l → Writer g k → (xs : List Input) (buffer : List ℕ)
    → ((i : ℕ) → i < length xs → Arrays (entry xs i)) → SameWrite (f xs buffer) (g xs buffer) (l xs buffer) (k xs buffer)
only_writer f g l k x y xs buffer a = same_write xs buffer (f xs buffer) (g xs buffer) (l xs buffer) (k xs buffer) (x xs buffer a) (y xs buffer a)
