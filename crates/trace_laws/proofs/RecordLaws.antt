-- One record: reading what was written gives the same access and sample, and writing what was read the same bytes.
-- Assumes nothing.
use Prim.Native.Nat.{ℕ, zero, suc, ◌*◌, ◌^◌, ◌≤◌, ◌<◌}
use mathlib.Core.Path.{◌≡◌, refl, sym, ap, ap₂, ◌∙◌, subst}
use mathlib.Core.Bool.{Bool, true, false, false≢true, cond, ◌&&◌}
use mathlib.Core.List.{List, [], ◌∷◌}
use native.Mathlib.Omega.{arith}
use native.Mathlib.Nat.{mod-lt}
use borrow.Author.Tests.{ltb-true, ne_eqb}
use lib.Dec.{eqb, eqb-suc-zero}
use lib.ListN.{get_or, length}
use lib.Pow.{pow_pos}
use Rattle.bits.specs.Bits.{fits}
use Rattle.bits.specs.Fields.{total, pack, unpack, of_bytes, to_bytes, Fit, none, one}
use Rattle.bits.proofs.ByteLaws.{length_bytes, is_byte, bytes_lt, to_of_bytes, of_to_bytes}
use Rattle.bits.proofs.FieldLaws.{pack_lt, unpack_pack, pack_unpack, unpack_fits}
use Rattle.bits.proofs.IndexLaws.{and-true}
use Rattle.rules.specs.Access.{malformed}
use Rattle.trace_rules.specs.Edition.{record_bytes, register_bits, zero_bits, alerts, tail, has_timer}
use Rattle.trace_rules.specs.Record.{layout, value_bits, access_of, access_in, word_in, receive_of, input_of_fields, held_in, kind_of, register_of, value_of, tail_fields, fields_of_input, record_of, recordable}
use Rattle.trace_rules.specs.Writer.{Wired, keeps}
use Rattle.rules.specs.declared.Access.{Access}
use Rattle.rules.specs.declared.Access.TheVariants.{Nothing, Read, Write, Malformed}
use Rattle.trace_rules.specs.declared.Edition.{Edition}
use Rattle.trace_rules.specs.declared.Edition.TheVariants.{Alerts64, Alerts248, Pings, Wires}
use Rattle.rules.specs.declared.Input.{Input}
use Rattle.rules.specs.declared.Sample.{Sample}
use Rattle.rules.specs.declared.Receive.{Receive}
use Rattle.rules.specs.declared.Receive.TheVariants.{Pairs, Answers}
use Rattle.rules.specs.declared.Wires as wires
use Rattle.trace_laws.specs.Wires.{shown}
use Rattle.trace_laws.proofs.LineBits.{answer_bits_lt, answers_back, answer_bits_back, pair_bits_lt, positives_back, negatives_back, pair_bits_back}
use Rattle.trace_laws.proofs.WireLaws.{wires_lt, wires_back}

pub record_length : (e : Edition) (x : Input) → length (record_of e x) ≡ record_bytes e
unfolding record_of
record_length e x = length_bytes (record_bytes e) (pack (layout e) (fields_of_input e x))

pub record_byte : (e : Edition) (x : Input) (i : ℕ) → get_or (record_of e x) i 0 < 2 ^ 8
unfolding record_of
record_byte e x i = is_byte (record_bytes e) (pack (layout e) (fields_of_input e x)) i

-- the fields fill the bytes
layout_bytes : (e : Edition) → total (layout e) ≡ 8 * record_bytes e
layout_bytes Alerts64 = refl
layout_bytes Alerts248 = refl
layout_bytes Pings = refl
layout_bytes Wires = refl

-- ── from an access and sample to bytes and back ──

-- the fields of an access that is recordable fit
kind_lt : (a : Access) → kind_of a < 2 ^ 2
kind_lt Nothing = omega arith
kind_lt (Read r) = omega arith
kind_lt (Write r v) = omega arith
kind_lt Malformed = omega arith

register_lt : (e : Edition) (a : Access) → recordable e a ≡ true → register_of a < 2 ^ register_bits e
unfolding recordable
register_lt e Nothing t = pow_pos (register_bits e)
register_lt e (Read r) t = ltb-true r (2 ^ register_bits e) t
register_lt e (Write r v) t = ltb-true r (2 ^ register_bits e) (and-true (fits (register_bits e) r) (fits value_bits v) t).0
register_lt e Malformed t = pow_pos (register_bits e)

value_lt : (e : Edition) (a : Access) → recordable e a ≡ true → value_of a < 2 ^ value_bits
unfolding recordable
value_lt e Nothing t = pow_pos value_bits
value_lt e (Read r) t = pow_pos value_bits
value_lt e (Write r v) t = ltb-true v (2 ^ value_bits) (and-true (fits (register_bits e) r) (fits value_bits v) t).1
value_lt e Malformed t = pow_pos value_bits

-- those of a tail do
tail_fits : (e : Edition) (s : Sample) → s.word < 2 ^ 32 → Fit (tail e) (tail_fields e s)
tail_fits Alerts64 s l = none
tail_fits Alerts248 s l = none
tail_fits Pings s l = one l (one (pow_pos 4) (one (answer_bits_lt s.receive) none))
tail_fits Wires s l = one l (one (pow_pos 0) (one (pair_bits_lt s.receive) none))

-- they have no bit among the zero bits, and give the word and what is kept of the lines
tail_zeros : (e : Edition) (s : Sample) → get_or (tail_fields e s) 1 0 ≡ 0
tail_zeros Alerts64 s = refl
tail_zeros Alerts248 s = refl
tail_zeros Pings s = refl
tail_zeros Wires s = refl

word_back : (e : Edition) (s : Sample) → word_in (tail_fields e s) ≡ cond (has_timer e) s.word 0
word_back Alerts64 s = refl
word_back Alerts248 s = refl
word_back Pings s = refl
word_back Wires s = refl

receive_back : (e : Edition) (s : Sample) → receive_of e (get_or (tail_fields e s) 2 0) ≡ keeps e s.receive
receive_back Alerts64 s = refl
receive_back Alerts248 s = refl
receive_back Pings s = ap Answers (answers_back s.receive)
receive_back Wires s = ap₂ Pairs (positives_back s.receive) (negatives_back s.receive)

-- and give the access
access_back : (e : Edition) (a : Access) → recordable e a ≡ true → access_of (kind_of a) (register_of a) (value_of a) ≡ a
unfolding recordable access_of
access_back e Nothing t = refl
access_back e (Read r) t = refl
access_back e (Write r v) t = refl
access_back e Malformed t = absurd (false≢true t)

module _ (e : Edition) (x : Input) (w : Wired x) (t : recordable e x.access ≡ true) where
  fields_fit : Fit (layout e) (fields_of_input e x)
  fields_fit =
      one (kind_lt x.access) (one (register_lt e x.access t) (one (pow_pos (zero_bits e)) (one (value_lt e x.access t)
      (one (wires_lt e x.sample.alerts.pos w.positive) (one (wires_lt e x.sample.alerts.neg w.negative) (tail_fits e x.sample w.word))))))

  same_access : (input_of_fields e (fields_of_input e x)).access ≡ x.access
  same_access =
      ap (λ (n : ℕ). cond (eqb n 0) (access_of (kind_of x.access) (register_of x.access) (value_of x.access)) Malformed) (tail_zeros e x.sample)
      ∙ access_back e x.access t

  -- reading the record gives the same access, and the wires, the word and what comes back from the lines as the edition has a place for them
  pub input_record : held_in e (record_of e x) ≡ shown e x
  unfolding held_in record_of
  input_record =
      let small = subst (λ (k : ℕ). pack (layout e) (fields_of_input e x) < 2 ^ k) (layout_bytes e) (pack_lt fields_fit) in
      ap (λ (n : ℕ). input_of_fields e (unpack (layout e) n)) (of_to_bytes (record_bytes e) (pack (layout e) (fields_of_input e x)) small)
      ∙ ap (input_of_fields e) (unpack_pack fields_fit)
      ∙ ap (λ (a : Access). record { access = a; sample = (input_of_fields e (fields_of_input e x)).sample }) same_access
      ∙ ap₂ (λ (n : ℕ) (r : Receive). record { access = x.access; sample = record { alerts = (shown e x).sample.alerts; word = n; receive = r } })
      (word_back e x.sample) (receive_back e x.sample)

-- ── from bytes to an access and sample and back ──

-- a kind over 2 is no access
pub kind_over : (k r v : ℕ) → 3 ≤ k → access_of k r v ≡ Malformed
unfolding access_of
kind_over k r v h = rw (ne_eqb k 0 (λ z. omega arith), ne_eqb k 1 (λ z. omega arith), ne_eqb k 2 (λ z. omega arith))

-- the wires of any bytes are words of 64, and their entropy word has 32 bits
word_lt : (e : Edition) {ts : List ℕ} → Fit (tail e) ts → word_in ts < 2 ^ 32
word_lt Alerts64 none = pow_pos 32
word_lt Alerts248 none = pow_pos 32
word_lt Pings (one l f) = l
word_lt Wires (one l f) = l

pub held_wired : (e : Edition) (bytes : List ℕ) → Wired (held_in e bytes)
unfolding held_in unpack
held_wired e bytes = record { positive = unpack_fits _ _; negative = unpack_fits _ _; word = word_lt e (unpack_fits (tail e) (of_bytes bytes)) }

-- a record that is not malformed has no bit among its zero bits, those of its tail too, and its access has its kind, register and value
pub record FieldsOf (a : Access) (kind register zeros value more : ℕ) : Type 0 where
  pub has_kind_law : kind_of a ≡ kind
  pub has_register : register_of a ≡ register
  pub has_zeros : 0 ≡ zeros
  pub has_value : value_of a ≡ value
  pub has_more : 0 ≡ more

-- a test that leads to a malformed record does not hold of one that is not
not_bad : (b : Bool) (a : Access) → b ≡ false → malformed (cond b a Malformed) ≡ false → ⊥
not_bad true a p q = false≢true (sym p)
not_bad false a p q = false≢true (sym q)

abbrev held : ℕ → ℕ → ℕ → ℕ → ℕ → Access
held k r z v m = cond (eqb z 0 && eqb m 0) (access_of k r v) Malformed

held_fields : (k r z v m : ℕ) → malformed (held k r z v m) ≡ false → FieldsOf (held k r z v m) k r z v m
unfolding access_of
held_fields zero zero zero zero zero f = record { has_kind_law = refl; has_register = refl; has_zeros = refl; has_value = refl; has_more = refl }
held_fields zero zero zero (suc v) zero f = absurd (not_bad (eqb (suc v) 0) Nothing (eqb-suc-zero v) f)
held_fields zero (suc r) zero v zero f = absurd (not_bad (eqb (suc r) 0 && eqb v 0) Nothing (ap (λ (b : Bool). b && eqb v 0) (eqb-suc-zero r)) f)
held_fields (suc zero) r zero zero zero f = record { has_kind_law = refl; has_register = refl; has_zeros = refl; has_value = refl; has_more = refl }
held_fields (suc zero) r zero (suc v) zero f = absurd (not_bad (eqb (suc v) 0) (Read r) (eqb-suc-zero v) f)
held_fields (suc (suc zero)) r zero v zero f = record { has_kind_law = refl; has_register = refl; has_zeros = refl; has_value = refl; has_more = refl }
held_fields (suc (suc (suc k))) r zero v zero f = absurd (false≢true (sym f ∙ ap malformed (kind_over (suc (suc (suc k))) r v (omega arith))))
held_fields k r zero v (suc m) f = absurd (not_bad (eqb (suc m) 0) (access_of k r v) (eqb-suc-zero m) f)
held_fields k r (suc z) v m f = absurd (not_bad (eqb (suc z) 0 && eqb m 0) (access_of k r v) (ap (λ (b : Bool). b && eqb m 0) (eqb-suc-zero z)) f)

pub access_fields : (k r z v : ℕ) (ts : List ℕ) → malformed (access_in (k ∷ r ∷ z ∷ v ∷ []) ts) ≡ false
    → FieldsOf (access_in (k ∷ r ∷ z ∷ v ∷ []) ts) k r z v (get_or ts 1 0)
access_fields k r z v ts f = held_fields k r z v (get_or ts 1 0) f

-- the fields of its tail, of the word and what was read of the lines, are its fields
tail_back : (e : Edition) (w : wires.Wires) {ts : List ℕ} → Fit (tail e) ts → 0 ≡ get_or ts 1 0
    → tail_fields e (record { alerts = w; word = word_in ts; receive = receive_of e (get_or ts 2 0) }) ≡ ts
tail_back Alerts64 w none z = refl
tail_back Alerts248 w none z = refl
tail_back Pings w (one {x = n} l (one {x = m} k (one {x = a} j none))) z =
    ap₂ (λ (p q : ℕ). n ∷ p ∷ q ∷ []) z (answer_bits_back a j)
tail_back Wires w (one {x = n} l (one {x = m} k (one {x = a} j none))) z =
    ap₂ (λ (p q : ℕ). n ∷ p ∷ q ∷ []) z (pair_bits_back a j)

-- the fields of its access, wires and tail are its fields
fields_of_read : (e : Edition) (k r z v p m : ℕ) (ts : List ℕ) → p < 2 ^ alerts e → m < 2 ^ alerts e → Fit (tail e) ts → malformed (access_in (k ∷ r ∷ z ∷ v ∷ []) ts) ≡ false
    → fields_of_input e (input_of_fields e (k ∷ r ∷ z ∷ v ∷ p ∷ m ∷ ts)) ≡ k ∷ r ∷ z ∷ v ∷ p ∷ m ∷ ts
fields_of_read e k r z v p m ts h l t f =
    let a = access_fields k r z v ts f in
    let b = tail_back e (input_of_fields e (k ∷ r ∷ z ∷ v ∷ p ∷ m ∷ ts)).sample.alerts t a.has_more in
    rw (a.has_kind_law, a.has_register, a.has_value, ← a.has_zeros, wires_back e p h, wires_back e m l, b)

pub record_input : (e : Edition) (bytes : List ℕ) → length bytes ≡ record_bytes e → ((i : ℕ) → get_or bytes i 0 < 2 ^ 8) → malformed (held_in e bytes).access ≡ false
    → record_of e (held_in e bytes) ≡ bytes
unfolding held_in record_of unpack
record_input e bytes n h f =
    let small = subst (λ (k : ℕ). of_bytes bytes < 2 ^ k) (ap (λ (k : ℕ). 8 * k) n ∙ sym (layout_bytes e)) (bytes_lt bytes h) in
    ap (λ (fs : List ℕ). to_bytes (record_bytes e) (pack (layout e) fs)) (fields_of_read e _ _ _ _ _ _ _ (mod-lt _ (pow_pos (alerts e))) (mod-lt _ (pow_pos (alerts e))) (unpack_fits (tail e) (of_bytes bytes)) f)
    ∙ ap (to_bytes (record_bytes e)) (pack_unpack (layout e) (of_bytes bytes) small)
    ∙ ap (λ (k : ℕ). to_bytes k (of_bytes bytes)) (sym n) ∙ to_of_bytes bytes h
