-- The rules' writer satisfies the sentences.
-- Assumes nothing.
use Prim.Native.Nat.{ℕ, zero, suc, ◌+◌, ◌-◌, ◌*◌, ◌^◌, ◌≤◌, ◌<◌}
use mathlib.Core.Path.{◌≡◌, refl, sym, ap, ◌∙◌, subst}
use mathlib.Core.Logic.{inl}
use mathlib.Core.Bool.{Bool, true, false, false≢true, not, ◌||◌}
use mathlib.Core.List.{List, [], ◌∷◌, ◌++◌, append_assoc}
use native.Mathlib.Omega.{arith}
use native.Mathlib.Nat.{le_of_suc-le-suc, not-suc-le-zero}
use borrow.Author.Tests.{lt-ltb, le-ltb}
use lib.IntN.{ℤ, pos, neg_ℤ}
use lib.ListN.{get_or, length, take, drop, replicate, length-append, length-drop}
use lib.Seq.{take_at, drop-append-add, get_or-append-add, get_or-drop}
use lib.Pow.{pow_pos}
use Rattle.std.specs.Prelude.{Ok, Err}
use Rattle.bits.specs.Bits.{bit, bits_of}
use Rattle.bits.specs.Fields.{Fit, none, one}
use Rattle.bits.specs.Index.{place_in}
use Rattle.bits.proofs.BitLaws.{bit_bits_of}
use Rattle.bits.proofs.FieldLaws.{unpack_fits}
use Rattle.rules.specs.Access.{malformed}
use Rattle.rules.specs.Answer.{first_of, number, Verdict}
use Rattle.rules.specs.Samples.{receive_positive, receive_negative}
use Rattle.trace_rules.specs.Edition.{newest}
use Rattle.trace_rules.specs.Record.{input_of, held_in, record_of, recordable, wire_words}
use Rattle.trace_rules.specs.Writer.{Wired, keeps, records_of, any_unrecordable, write_verdict, write, Written}
use Rattle.rules.specs.declared.Access.{Access}
use Rattle.rules.specs.declared.Access.TheVariants.{Malformed}
use Rattle.rules.specs.declared.Answer.{Answer}
use Rattle.trace_rules.specs.declared.Edition.TheVariants.{Wires}
use Rattle.rules.specs.declared.Input.{Input}
use Rattle.rules.specs.declared.Receive.{Receive}
use Rattle.rules.specs.declared.Refusal.{Refusal}
use Rattle.rules.specs.declared.Refusal.TheVariants.{NoRecord, ShortBuffer}
use Rattle.trace_laws.specs.Wires.{shown}
use Rattle.trace_laws.proofs.RecordLaws.{record_length, record_byte, input_record}
use Rattle.trace_laws.proofs.Recordable.{read_recordable}
use Rattle.trace_laws.proofs.WireLaws.{same_shown}
use Rattle.trace_laws.proofs.WriterLaws.{records_length, write_refused, write_accepted, write_answer, own_numbers}
use Rattle.sentences.proofs.SentenceCases.{by_phase}
use Rattle.trace_sentences.specs.RecordBits.{form, Kind, Bad, PairsAre, Holds}
use Rattle.trace_sentences.specs.Writers.{HeldIn, RecordOf, entry, Case10, Case11, Refuses, Wrote, Arrays, Writer}
use Rattle.trace_sentences.proofs.HoldsRecords.{holds_reader}
use Rattle.trace_sentences.proofs.OnlyRecords.{same_access, some_kind}

-- ── bytes ──

up_to_255 : (bytes : List ℕ) → ((i : ℕ) → get_or bytes i 0 < 2 ^ 8) → (i : ℕ) → get_or bytes i 0 ≤ 255
up_to_255 bytes b i = let l : get_or bytes i 0 < 2 ^ 8 = b i in omega arith

fit_words : (n : ℕ) (ws : List ℕ) → length ws ≡ n → ((v : ℕ) → v < n → get_or ws v 0 ≤ 18446744073709551615) → Fit (replicate n 64) ws
fit_words zero [] l b = none
fit_words zero (w ∷ ws) l b = absurd (omega arith)
fit_words (suc n) [] l b = absurd (omega arith)
fit_words (suc n) (w ∷ ws) l b =
    let m : w ≤ 18446744073709551615 = b 0 (omega arith) in
    let k : w < 2 ^ 64 = omega arith in
    one k (fit_words n ws (omega arith) (λ v h. b (suc v) (omega arith)))

wired : (x : Input) → Arrays x → Wired x
wired x a =
    record {
      positive = fit_words 4 x.sample.alerts.pos a.positive a.positive_word;
      negative = fit_words 4 x.sample.alerts.neg a.negative a.negative_word;
      word = omega (arith, a.word);
    }

-- ── what some record holds ──

well : (a : Access) → recordable newest a ≡ true → a ≡ Malformed → ⊥
unfolding recordable
well a t e = false≢true (ap (recordable newest) (sym e) ∙ t)

module _ (x : Input) (w : Wired x) (t : recordable newest x.access ≡ true) where
  abbrev bytes : List ℕ
  bytes = record_of newest x

  read_back : input_of newest bytes ≡ shown newest x
  read_back = own_numbers bytes ∙ input_record newest x w t

  holds_read : Holds Wires bytes (input_of newest bytes)
  holds_read = holds_reader Wires bytes (record_length newest x) (up_to_255 bytes (record_byte newest x))

  held_in_law : HeldIn bytes x.access
  held_in_law =
      let e : (input_of newest bytes).access ≡ x.access = ap (λ (y : Input). y.access) read_back in
      record {
        size = record_length newest x;
        byte = up_to_255 bytes (record_byte newest x);
        well_formed = λ b. well x.access t (sym e ∙ holds_read.malformed b);
        held = (input_of newest bytes, holds_read, e);
      }

  -- what is read of the lines, against what was handed in
  pairs_of : (p m : ℕ) → x.sample.receive ≡ Receive.Pairs p m → PairsAre bytes 592 p m
  pairs_of p m e =
      let (q, o, a, b, c, d) = holds_read.receive.pairs refl in
      let k : Receive.Pairs q o ≡ Receive.Pairs (bits_of 4 (bit p)) (bits_of 4 (bit m)) =
      sym d ∙ ap (λ (y : Input). y.sample.receive) read_back ∙ ap (keeps newest) e in
      record {
        positive = λ l h. sym (bit_bits_of 4 (bit p) l (omega arith)) ∙ ap (λ (r : Receive). receive_positive r l) (sym k) ∙ a.positive l h;
        negative = λ l h. sym (bit_bits_of 4 (bit m) l (omega arith)) ∙ ap (λ (r : Receive). receive_negative r l) (sym k) ∙ a.negative l h;
      }

  -- of receive pairs p and m
  record_of_law : (p m : ℕ) → x.sample.receive ≡ Receive.Pairs p m → RecordOf x bytes
  record_of_law p m e =
      let s = same_shown newest x w in
      record {
        access = held_in_law;
        positive = λ i l. sym (holds_read.positive.wire i l) ∙ ap (λ (y : Input). place_in y.sample.alerts.pos i) read_back ∙ s.positive i l;
        negative = λ i l.
            let m : i < 248 = omega arith in
            sym (holds_read.negative.wire i m) ∙ ap (λ (y : Input). place_in y.sample.alerts.neg i) read_back ∙ s.negative i m;
        word = λ i l.
            let m : i < 32 = omega arith in
            sym (holds_read.word.bits i m) ∙ ap (λ (n : ℕ). bit n (31 - i)) (ap (λ (y : Input). y.sample.word) read_back ∙ s.word);
        pairs = (p, m, e, pairs_of p m e);
      }

abbrev quiet : Access → Input
quiet a = record { access = a; sample = record { alerts = record { pos = wire_words 248 0; neg = wire_words 248 0 }; word = 0; receive = Receive.Pairs 0 0 } }

-- a well-formed record holds no malformed access
pub formed : (bytes : List ℕ) (x : Input) → ¬ Bad (form Wires) bytes → Holds Wires bytes x → (k : ℕ) → k < 4 → Kind bytes k → malformed x.access ≡ false
formed bytes x f h =
    by_phase (λ k. Kind bytes k → malformed x.access ≡ false) (λ s. ap malformed (h.nothing f s)) (λ s. ap malformed (h.read f s).2)
    (λ s. ap malformed (h.write f s).4) (λ s. absurd (f (inl s)))

held_recordable : (bytes : List ℕ) (a : Access) → HeldIn bytes a → recordable newest a ≡ true
held_recordable bytes a p =
    let h = holds_reader Wires bytes p.size p.byte in
    let k = some_kind Wires bytes p.size p.byte in
    let e : (input_of newest bytes).access ≡ a = same_access Wires bytes k.0 k.1 (input_of newest bytes) p.held.0 h p.held.1 ∙ p.held.2 in
    let o : (input_of newest bytes).access ≡ (held_in newest bytes).access = ap (λ (y : Input). y.access) (own_numbers bytes) in
    ap (recordable newest) (sym e ∙ o)
    ∙ read_recordable newest bytes (ap malformed (sym o) ∙ formed bytes (input_of newest bytes) p.well_formed h k.0 k.1.size k.1)

-- an access is recordable, or no well-formed record holds it
no_record : (a : Access) → recordable newest a ≡ false → (bytes : List ℕ) → ¬ HeldIn bytes a
no_record a f bytes p = false≢true (sym f ∙ held_recordable bytes a p)

some_record : (a : Access) → ((bytes : List ℕ) → ¬ HeldIn bytes a) → recordable newest a ≡ false
some_record a f = go (recordable newest a) refl
  where
    go : (b : Bool) → recordable newest a ≡ b → b ≡ false
    go true e = absurd (f (record_of newest (quiet a)) (held_in_law (quiet a) (record { positive = unpack_fits _ _; negative = unpack_fits _ _; word = pow_pos 32 }) e))
    go false e = refl

-- ── the lists ──

module _ where
  pub ten : (xs : List Input) → any_unrecordable newest xs ≡ true → Case10 xs
  unfolding any_unrecordable
  ten [] e = absurd (false≢true e)
  ten (x ∷ xs) e = go (recordable newest x.access) refl (ten xs)
    where
      go : (b : Bool) → recordable newest x.access ≡ b → (any_unrecordable newest xs ≡ true → Case10 xs) → Case10 (x ∷ xs)
      go true p later = let c = later (sym (ap (λ (b : Bool). not b || any_unrecordable newest xs) p) ∙ e) in (suc c.0, omega (arith, c.1), c.2)
      go false p later = (0, omega arith, no_record x.access p)

  or_right : (b : Bool) → (b || true) ≡ true
  or_right true = refl
  or_right false = refl

  pub is_ten : (xs : List Input) → Case10 xs → any_unrecordable newest xs ≡ true
  unfolding any_unrecordable
  is_ten [] (i, l, f) = absurd (not-suc-le-zero l)
  is_ten (x ∷ xs) (zero, l, f) = ap (λ (b : Bool). not b || any_unrecordable newest xs) (some_record x.access f)
  is_ten (x ∷ xs) (suc i, l, f) = ap (λ (b : Bool). not (recordable newest x.access) || b) (is_ten xs (i, le_of_suc-le-suc l, f)) ∙ or_right (not (recordable newest x.access))

  none_ten : (xs : List Input) → ¬ Case10 xs → any_unrecordable newest xs ≡ false
  none_ten xs f = go (any_unrecordable newest xs) (ten xs)
    where
      go : (b : Bool) → (b ≡ true → Case10 xs) → b ≡ false
      go true t = absurd (f (t refl))
      go false t = refl

  -- record i
  at_record : (xs : List Input) (rest : List ℕ) (i : ℕ) → i < length xs → take 75 (drop (i * 75) (records_of newest xs ++ rest)) ≡ record_of newest (entry xs i)
  unfolding records_of
  at_record [] rest i l = absurd (not-suc-le-zero l)
  at_record (x ∷ xs) rest zero l =
      ap (take 75) (append_assoc (record_of newest x) (records_of newest xs) rest) ∙ take_at (record_of newest x) (records_of newest xs ++ rest) 75 (record_length newest x)
  at_record (x ∷ xs) rest (suc i) l =
      let e : suc i * 75 ≡ length (record_of newest x) + i * 75 = omega (arith, record_length newest x) in
      ap (take 75) (ap (drop (suc i * 75)) (append_assoc (record_of newest x) (records_of newest xs) rest)
      ∙ ap (λ (n : ℕ). drop n (record_of newest x ++ (records_of newest xs ++ rest))) e ∙ drop-append-add (record_of newest x) (records_of newest xs ++ rest) (i * 75))
      ∙ at_record xs rest i (le_of_suc-le-suc l)

  each_recordable : (xs : List Input) → ¬ Case10 xs → (i : ℕ) → i < length xs → recordable newest (entry xs i).access ≡ true
  each_recordable xs f i l = go (recordable newest (entry xs i).access) refl
    where
      go : (b : Bool) → recordable newest (entry xs i).access ≡ b → b ≡ true
      go true e = refl
      go false e = absurd (f (i, l, no_record (entry xs i).access e))

-- ── the writer ──

module _ (xs : List Input) (buffer : List ℕ) where
  refuses : (m : Refusal) (n : ℕ) → number (Answer.Refused m) ≡ neg_ℤ (pos n) → write_verdict newest xs buffer ≡ Err m
      → Refuses n buffer (write newest xs buffer).answer (write newest xs buffer).buffer
  refuses m n z v =
      let b = write_refused newest xs buffer m v in
      record { answer = ap (λ (s : Written). s.answer) b ∙ z; bytes = ap (λ (s : Written). s.buffer) b }

  verdict_10 : Case10 xs → write_verdict newest xs buffer ≡ Err NoRecord
  unfolding write_verdict first_of
  verdict_10 c = rw (is_ten xs c)

  verdict_11 : ¬ Case10 xs → Case11 xs buffer → write_verdict newest xs buffer ≡ Err ShortBuffer
  unfolding write_verdict first_of
  verdict_11 f c = rw (none_ten xs f, lt-ltb (length buffer) (length xs * 75) c)

  accepted : ¬ Case10 xs → ¬ Case11 xs buffer → write_verdict newest xs buffer ≡ Ok tt
  unfolding write_verdict first_of
  accepted f g = let l : length xs * 75 ≤ length buffer = omega arith in rw (none_ten xs f, le-ltb (length buffer) (length xs * 75) l)

  abbrev all : List ℕ
  all = records_of newest xs ++ drop (length xs * 75) buffer

  wrote : ((i : ℕ) → i < length xs → Arrays (entry xs i)) → ¬ Case10 xs → ¬ Case11 xs buffer → Wrote xs buffer (pos (length xs * 75)) all
  wrote a f g =
      record {
        answer = refl;
        records = λ i l.
            subst (RecordOf (entry xs i)) (sym (at_record xs (drop (length xs * 75) buffer) i l))
            (let v = (a i l).pairs in record_of_law (entry xs i) (wired (entry xs i) (a i l)) (each_recordable xs f i l) v.0 v.1 v.2);
        later = λ j l.
            let e : length (records_of newest xs) + (j - length xs * 75) ≡ j = omega (arith, records_length newest xs) in
            let d : length xs * 75 + (j - length xs * 75) ≡ j = omega arith in
            ap (λ (n : ℕ). get_or all n 0) (sym e) ∙ get_or-append-add (records_of newest xs) (drop (length xs * 75) buffer) (j - length xs * 75) 0
            ∙ get_or-drop (length xs * 75) buffer (j - length xs * 75) 0 ∙ ap (λ (n : ℕ). get_or buffer n 0) d;
        lent = length-append (records_of newest xs) (drop (length xs * 75) buffer)
            ∙ (let p = records_length newest xs in let q = length-drop (length xs * 75) buffer in let r : length xs * 75 ≤ length buffer = omega arith in omega arith);
      }

pub holds_writer : Writer (λ xs buffer. (write newest xs buffer).answer) (λ xs buffer. (write newest xs buffer).buffer)
unfolding number
holds_writer xs buffer a =
    record {
      refused_10 = λ c. refuses xs buffer NoRecord 10 refl (verdict_10 xs buffer c);
      refused_11 = λ f c. refuses xs buffer ShortBuffer 11 refl (verdict_11 xs buffer f c);
      writes = λ f g.
          let v = accepted xs buffer f g in
          subst (λ (z : ℤ). Wrote xs buffer z (write newest xs buffer).buffer) (sym (write_answer newest xs buffer v))
          (subst (λ (bs : List ℕ). Wrote xs buffer (pos (length xs * 75)) bs) (sym (write_accepted newest xs buffer v)) (wrote xs buffer a f g));
    }
