-- What a call of the writer promises once more, taken from it for every list that is lent, every buffer, entry, wire and byte, in raw numbers. A promise
-- that says less, or asks for more (bytes left out, a buffer of exact length, fewer wires), does not give it.
-- Assumes nothing.
use Prim.Native.Nat.{ℕ, zero, suc, ◌+◌, ◌*◌, ◌/◌, ◌%◌, ◌≤◌, ◌<◌}
use mathlib.Core.Path.{◌≡◌, refl, sym, ap, ap₂, ◌∙◌, subst}
use mathlib.Core.Bool.{Bool, true, false, cond}
use mathlib.Core.List.{List, [], ◌++◌}
use native.Mathlib.Nat.{le_of_suc-le-suc, not-suc-le-zero}
use native.Mathlib.Omega.{arith}
use borrow.Author.Tests.{eq-eqb}
use lib.IntN.{ℤ, negsuc}
use lib.ListN.{get_or, length, take, drop}
use Rattle.std.specs.Prelude.{Ok, Err}
use Rattle.bits.proofs.IndexLaws.{true_and, length_each, at_each}
use Rattle.bits.specs.Bits.{place}
use Rattle.bits.specs.Index.{each, place_in}
use Rattle.rules.specs.Access.{malformed}
use Rattle.rules.specs.Answer.{number, Verdict}
use Rattle.trace_rules.specs.Record.{access_of, held_in, kind_of, register_of, value_of, inputs_of}
use Rattle.trace_rules.specs.Writer.{SameRead, AllSame, no_more, and, write_verdict, write_of, write}
use Rattle.trace_rules.specs.declared.Edition.{Edition}
use Rattle.rules.specs.declared.Input.{Input}
use Rattle.rules.specs.declared.Receive.{Receive}
use Rattle.rules.specs.declared.Refusal.TheVariants.{NoRecord}
use Rattle.trace_laws.proofs.LineBits.{four_bits}
use Rattle.writer.specs.Lent.{Lent, list_of, even, write_lent, Wrote, ReadBack, WrittenBack}

-- ── lists of one length: an entry has a kind, a register, a value, four words of each wire set, a word and the receive pairs ──

record Even (l : Lent) : Type 0 where
  registers : length l.registers ≡ length l.kinds
  values : length l.values ≡ length l.kinds
  positive : length l.positive ≡ length l.kinds * 4
  negative : length l.negative ≡ length l.kinds * 4
  entropy : length l.entropy ≡ length l.kinds
  receive_positive_law : length l.receive_positive_law ≡ length l.kinds
  receive_negative_law : length l.receive_negative_law ≡ length l.kinds

is_even : (l : Lent) → Even l → even l ≡ true
is_even l e =
    true_and (eq-eqb _ _ e.registers) (true_and (eq-eqb _ _ e.values) (true_and (eq-eqb _ _ e.positive)
    (true_and (eq-eqb _ _ e.negative) (true_and (eq-eqb _ _ e.entropy)
    (true_and (eq-eqb _ _ e.receive_positive_law) (eq-eqb _ _ e.receive_negative_law))))))

abbrev entry_of : Lent → ℕ → Input
entry_of l i =
    record {
      access = access_of (get_or l.kinds i 0) (get_or l.registers i 0) (get_or l.values i 0);
      sample =
          record {
            alerts = record { pos = each 4 (λ v. get_or l.positive (i * 4 + v) 0); neg = each 4 (λ v. get_or l.negative (i * 4 + v) 0) };
            word = get_or l.entropy i 0;
            receive = Receive.Pairs (get_or l.receive_positive_law i 0) (get_or l.receive_negative_law i 0);
          };
    }

abbrev entries : Lent → List Input
entries l = each (length l.kinds) (entry_of l)

-- ── the answer, and every byte of the buffer ──

module _ (l : Lent) (buffer left : List ℕ) (r : ℤ) (w : Wrote l buffer r left) where
  written : Even l → (r ≡ (write Edition.Wires (entries l) buffer).answer) × (left ≡ (write Edition.Wires (entries l) buffer).buffer)
  unfolding write_lent list_of
  written e = (
    w.answer
        ∙ ap (λ (b : Bool). (cond b (write Edition.Wires (entries l) buffer) (write_of Edition.Wires (Err NoRecord) [] buffer)).answer) (is_even l e),
    w.bytes
        ∙ ap (λ (b : Bool). (cond b (write Edition.Wires (entries l) buffer) (write_of Edition.Wires (Err NoRecord) [] buffer)).buffer) (is_even l e),
  )

  -- lists of unequal lengths: 10, and the buffer keeps its bytes
  uneven : even l ≡ false → (r ≡ negsuc 9) × (left ≡ buffer)
  unfolding write_lent write_of number
  uneven e = (
    w.answer ∙ ap (λ (b : Bool). (cond b (write Edition.Wires (list_of l) buffer) (write_of Edition.Wires (Err NoRecord) [] buffer)).answer) e,
    w.bytes ∙ ap (λ (b : Bool). (cond b (write Edition.Wires (list_of l) buffer) (write_of Edition.Wires (Err NoRecord) [] buffer)).buffer) e,
  )

-- ── reading what was written gives the same accesses, the same 248 pairs of wires, the same words and receive pairs ──

same_length : {xs ys : List Input} → AllSame Edition.Wires xs ys → length ys ≡ length xs
same_length no_more = refl
same_length (and s r) = ap suc (same_length r)

same_at : {xs ys : List Input} (d : Input) → AllSame Edition.Wires xs ys → (i : ℕ) → i < length xs
    → SameRead Edition.Wires (get_or xs i d) (get_or ys i d)
same_at d no_more i l = absurd (not-suc-le-zero l)
same_at d (and s r) zero l = s
same_at d (and s r) (suc i) l = same_at d r i (le_of_suc-le-suc l)

module _ (l : Lent) (buffer left : List ℕ) (back : ReadBack l buffer left) (e : Even l) (a : write_verdict Edition.Wires (entries l) buffer ≡ (Ok tt)) where
  -- what the 75 bytes of each entry hold
  abbrev again : List Input
  again = inputs_of Edition.Wires (take (length l.kinds * 75) left)

  accepted : write_verdict Edition.Wires (list_of l) buffer ≡ Ok tt
  unfolding list_of
  accepted = a

  all_same : AllSame Edition.Wires (entries l) again
  unfolding list_of
  all_same = (back (is_even l e) accepted).0

  as_many : length again ≡ length l.kinds
  as_many = same_length all_same ∙ length_each (length l.kinds) (entry_of l)

  module _ (i : ℕ) (b : i < length l.kinds) where
    abbrev read : Input
    read = get_or again i (entry_of l i)

    same : SameRead Edition.Wires (entry_of l i) read
    same =
        subst (λ (x : Input). SameRead Edition.Wires x read) (at_each (length l.kinds) (entry_of l) i (entry_of l i) b)
        (same_at (entry_of l i) all_same i (subst (λ (n : ℕ). i < n) (sym (length_each (length l.kinds) (entry_of l))) b))

    -- the numbers that were lent
    numbers_back : (kind_of read.access ≡ get_or l.kinds i 0)
        × (register_of read.access ≡ get_or l.registers i 0)
        × (value_of read.access ≡ get_or l.values i 0)
    numbers_back =
        let n = (back (is_even l e) accepted).1 i b in
        (ap kind_of same.access ∙ n.0, ap register_of same.access ∙ n.1, ap value_of same.access ∙ n.2)

    -- and each of the 248 pairs of wires
    wires_back : (j : ℕ) → j < 248
        → (place_in read.sample.alerts.pos j ≡ place (get_or l.positive (i * 4 + j / 64) 0) (j % 64))
        × (place_in read.sample.alerts.neg j ≡ place (get_or l.negative (i * 4 + j / 64) 0) (j % 64))
    wires_back j c =
        let d : j / 64 < 4 = omega arith in (
          same.positive j c ∙ ap (λ (w : ℕ). place w (j % 64)) (at_each 4 (λ v. get_or l.positive (i * 4 + v) 0) (j / 64) 0 d),
          same.negative j c ∙ ap (λ (w : ℕ). place w (j % 64)) (at_each 4 (λ v. get_or l.negative (i * 4 + v) 0) (j / 64) 0 d),
        )

    -- and the word, and the receive pairs of the four lines
    lines_back : (read.sample.word ≡ get_or l.entropy i 0)
        × (read.sample.receive ≡ Receive.Pairs (get_or l.receive_positive_law i 0 % 16) (get_or l.receive_negative_law i 0 % 16))
    lines_back = (same.word, same.receive ∙ ap₂ Receive.Pairs (four_bits (get_or l.receive_positive_law i 0)) (four_bits (get_or l.receive_negative_law i 0)))

-- ── writing what was read gives the same bytes, and later bytes stay ──

bytes_back : (l : Lent) (buffer left : List ℕ) → WrittenBack l buffer left → (bytes : List ℕ) → length bytes % 75 ≡ 0 → ((i : ℕ) → get_or bytes i 0 < 256)
    → ((i : ℕ) → i < length bytes / 75 → malformed (held_in Edition.Wires (take 75 (drop (i * 75) bytes))).access ≡ false) → Even l
    → entries l ≡ inputs_of Edition.Wires bytes → length bytes ≤ length buffer → left ≡ bytes ++ drop (length bytes) buffer
unfolding list_of
bytes_back l buffer left back bytes w b f e q n = back bytes (record { whole = w; byte = b; formed = f }) (is_even l e) q n
