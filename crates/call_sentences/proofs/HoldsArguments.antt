-- The boundary's definitions satisfy the sentences of its calls.
-- Assumes nothing.
use Prim.Native.Nat.{ℕ, ◌+◌, ◌*◌, ◌≤◌, ◌<◌}
use mathlib.Core.Path.{◌≡◌, refl, sym, ap, subst}
use mathlib.Core.Logic.{◌≢◌, inl, inr, ⊎_elim}
use mathlib.Core.Bool.{Bool, true, false, cond, and-false, ◌&&◌}
use mathlib.Core.List.{List}
use native.Mathlib.Omega.{arith}
use native.Mathlib.Decide.{ℕ_discrete}
use borrow.Author.Tests.{ne_eqb, eq-eqb, eqb-true}
use lib.Dec.{eqb}
use lib.ListN.{get_or, length}
use Rattle.bits.proofs.IndexLaws.{at_each, length_each, and-true, true_and}
use Rattle.boundary.specs.Input.{input_by}
use Rattle.rules.specs.Answer.{number}
use Rattle.trace_rules.specs.Record.{access_of}
use Rattle.trace_rules.specs.Writer.{write_of}
use Rattle.rules.specs.declared.Input.{Input}
use Rattle.trace_laws.proofs.RecordLaws.{kind_over}
use Rattle.trace_sentences.specs.Writers.{entry, Arrays}
use Rattle.trace_sentences.proofs.HoldsWriters.{holds_writer}
use Rattle.writer.specs.Lent.{Lent, lent, input_at, list_of, even, write_lent, words_at, word_at}
use Rattle.call_sentences.specs.Arguments.{TickInputs, Lists, EntryIs, FourOf, ListIs, Uneven, Words, WriteCalls}

-- ── a tick ──

pub holds_tick_inputs : TickInputs input_by
unfolding access_of
holds_tick_inputs kind register value w =
    record {
      nothing = λ e. rw e;
      read = λ e. rw e;
      write = λ e. rw e;
      other = λ l. let m : 3 ≤ kind = omega arith in kind_over kind (cond (eqb kind 0) 0 register) (cond (eqb kind 2) value 0) m;
      alerts = refl;
      word = refl;
      receive = refl;
    }

-- ── a writing ──

holds_entry : (kind register value : ℕ) → EntryIs kind register value (access_of kind register value)
unfolding access_of
holds_entry kind register value =
    record {
      nothing = λ a b c. rw (a, b, c);
      read = λ a b. rw (a, b);
      write = λ a. rw a;
      other = λ l. kind_over kind register value l;
      read_value = λ a f. rw (a, ne_eqb value 0 f);
      nothing_register = λ a f. rw (a, ne_eqb register 0 f);
      nothing_value = λ a f. rw (a, ne_eqb value 0 f, and-false (eqb register 0));
    }

holds_four : (list : List ℕ) (i : ℕ) → FourOf list i (words_at list i)
holds_four list i = record { four = length_each 4 (word_at list i); word = λ v l. at_each 4 (word_at list i) v 0 l }

-- as the contract of `tarravane_record` names them
abbrev pub lent_by : Lists → Lent
lent_by l = lent l.kinds l.registers l.values l.positive l.negative l.entropy l.receive_positive_law l.receive_negative_law

module _ (l : Lists) where
  entry_at : (i : ℕ) → i < length l.kinds → entry (list_of (lent_by l)) i ≡ input_at (lent_by l) i
  unfolding list_of
  entry_at i h = at_each (length l.kinds) (input_at (lent_by l)) i _ h

  many_of : length (list_of (lent_by l)) ≡ length l.kinds
  unfolding list_of
  many_of = length_each (length l.kinds) (input_at (lent_by l))

  holds_list : ListIs l (list_of (lent_by l))
  holds_list =
      record {
        many = many_of;
        access = λ i h.
            subst (λ (x : Input). EntryIs (get_or l.kinds i 0) (get_or l.registers i 0) (get_or l.values i 0) x.access) (sym (entry_at i h))
            (holds_entry (get_or l.kinds i 0) (get_or l.registers i 0) (get_or l.values i 0));
        pos = λ i h. subst (λ (x : Input). FourOf l.positive i x.sample.alerts.pos) (sym (entry_at i h)) (holds_four l.positive i);
        neg = λ i h. subst (λ (x : Input). FourOf l.negative i x.sample.alerts.neg) (sym (entry_at i h)) (holds_four l.negative i);
        word = λ i h. ap (λ (x : Input). x.sample.word) (entry_at i h);
        receive = λ i h. ap (λ (x : Input). x.sample.receive) (entry_at i h);
      }

  arrays : Words l → (i : ℕ) → i < length (list_of (lent_by l)) → Arrays (entry (list_of (lent_by l)) i)
  arrays w i h =
      let k : i < length l.kinds = omega (arith, many_of) in
      let a = holds_list.pos i k in
      let b = holds_list.neg i k in
      record {
        positive = a.four;
        positive_word = λ v s. subst (λ (n : ℕ). n ≤ 18446744073709551615) (sym (a.word v s)) (w.positive (i * 4 + v));
        negative = b.four;
        negative_word = λ v s. subst (λ (n : ℕ). n ≤ 18446744073709551615) (sym (b.word v s)) (w.negative (i * 4 + v));
        word = subst (λ (n : ℕ). n ≤ 4294967295) (sym (holds_list.word i k)) (w.entropy i);
        pairs = (get_or l.receive_positive_law i 0, get_or l.receive_negative_law i 0, holds_list.receive i k);
      }

  -- ── lengths: the test of each list but the kinds ──

  abbrev many : List ℕ → Bool
  many xs = eqb (length xs) (length l.kinds)

  abbrev fours : List ℕ → Bool
  fours xs = eqb (length xs) (length l.kinds * 4)

  -- the tests behind the first, the second, ..
  abbrev after5 : Bool
  after5 = many l.receive_positive_law && many l.receive_negative_law

  abbrev after4 : Bool
  after4 = many l.entropy && after5

  abbrev after3 : Bool
  after3 = fours l.negative && after4

  abbrev after2 : Bool
  after2 = fours l.positive && after3

  abbrev after1 : Bool
  after1 = many l.values && after2

  all_even : even (lent_by l) ≡ true → ¬ Uneven l
  all_even e =
      let a = and-true (many l.registers) after1 e in
      let b = and-true (many l.values) after2 a.1 in
      let c = and-true (fours l.positive) after3 b.1 in
      let d = and-true (fours l.negative) after4 c.1 in
      let f = and-true (many l.entropy) after5 d.1 in
      let g = and-true (many l.receive_positive_law) (many l.receive_negative_law) f.1 in
      ⊎_elim (λ n. n (eqb-true (length l.registers) (length l.kinds) a.0))
      (⊎_elim (λ n. n (eqb-true (length l.values) (length l.kinds) b.0))
      (⊎_elim (λ n. n (eqb-true (length l.positive) (length l.kinds * 4) c.0))
      (⊎_elim (λ n. n (eqb-true (length l.negative) (length l.kinds * 4) d.0))
      (⊎_elim (λ n. n (eqb-true (length l.entropy) (length l.kinds) f.0))
      (⊎_elim (λ n. n (eqb-true (length l.receive_positive_law) (length l.kinds) g.0))
      (λ n. n (eqb-true (length l.receive_negative_law) (length l.kinds) g.1)))))))

  not_even : Uneven l → even (lent_by l) ≡ false
  not_even u = go (even (lent_by l)) refl
    where
      go : (b : Bool) → even (lent_by l) ≡ b → b ≡ false
      go true e = absurd (all_even e u)
      go false e = refl

  is_even : ¬ Uneven l → even (lent_by l) ≡ true
  is_even f =
      true_and (same (length l.registers) (length l.kinds) (λ n. f (inl n)))
      (true_and (same (length l.values) (length l.kinds) (λ n. f (inr (inl n))))
      (true_and (same (length l.positive) (length l.kinds * 4) (λ n. f (inr (inr (inl n)))))
      (true_and (same (length l.negative) (length l.kinds * 4) (λ n. f (inr (inr (inr (inl n))))))
      (true_and (same (length l.entropy) (length l.kinds) (λ n. f (inr (inr (inr (inr (inl n)))))))
      (true_and (same (length l.receive_positive_law) (length l.kinds) (λ n. f (inr (inr (inr (inr (inr (inl n))))))))
      (same (length l.receive_negative_law) (length l.kinds) (λ n. f (inr (inr (inr (inr (inr (inr n)))))))))))))
    where
      same : (a b : ℕ) → (a ≢ b → ⊥) → eqb a b ≡ true
      same a b g = go (ℕ_discrete a b)
        where
          go : Dec (a ≡ b) → eqb a b ≡ true
          go (yes e) = eq-eqb a b e
          go (no n) = absurd (g n)

pub holds_write_calls : WriteCalls (λ l buffer. (write_lent (lent_by l) buffer).answer) (λ l buffer. (write_lent (lent_by l) buffer).buffer)
unfolding write_lent write_of number
holds_write_calls l buffer w =
    record {
      uneven = λ u. let n = not_even l u in record { answer = rw n; bytes = rw n };
      writes = λ u.
          let y = is_even l u in (list_of (lent_by l), holds_list l, rw y (holds_writer (list_of (lent_by l)) buffer (arrays l w)));
    }
