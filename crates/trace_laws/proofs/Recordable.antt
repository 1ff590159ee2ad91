-- An access is recordable where some well-formed record holds it, and nowhere else.
-- Assumes nothing.
use Prim.Native.Nat.{ℕ, ◌^◌, ◌<◌}
use mathlib.Core.Path.{◌≡◌, refl, sym, ap, ◌∙◌}
use mathlib.Core.Logic.{◌↔◌}
use mathlib.Core.Bool.{true, false, false≢true}
use mathlib.Core.List.{List, [], ◌∷◌}
use native.Mathlib.Nat.{mod-lt}
use native.Mathlib.Omega.{arith}
use borrow.Author.Tests.{lt-ltb}
use lib.Pow.{pow_pos}
use lib.ListN.{get_or, drop}
use Rattle.bits.specs.Fields.{unpack, of_bytes}
use Rattle.bits.proofs.FieldLaws.{unpack_fits}
use Rattle.bits.proofs.IndexLaws.{true_and}
use Rattle.rules.specs.Access.{malformed}
use Rattle.trace_rules.specs.Edition.{register_bits, alerts}
use Rattle.trace_rules.specs.Record.{layout, value_bits, access_in, register_of, value_of, wire_words, held_in, record_of, recordable}
use Rattle.trace_rules.specs.Writer.{WellFormed, HeldBy, Wired}
use Rattle.rules.specs.declared.Access.{Access}
use Rattle.rules.specs.declared.Access.TheVariants.{Nothing, Read, Write, Malformed}
use Rattle.trace_rules.specs.declared.Edition.{Edition}
use Rattle.rules.specs.declared.Input.{Input}
use Rattle.rules.specs.declared.Receive.TheVariants.{Pairs}
use Rattle.trace_laws.proofs.RecordLaws.{record_length, record_byte, input_record, access_fields}
use Rattle.trace_laws.proofs.WellFormedLaws.{formed_one, one_formed}

-- ── what a record holds ──

fields_recordable : (e : Edition) (a : Access) → malformed a ≡ false → register_of a < 2 ^ register_bits e → value_of a < 2 ^ value_bits → recordable e a ≡ true
unfolding recordable
fields_recordable e Nothing f l m = refl
fields_recordable e (Read r) f l m = lt-ltb r (2 ^ register_bits e) l
fields_recordable e (Write r v) f l m = true_and (lt-ltb r (2 ^ register_bits e) l) (lt-ltb v (2 ^ value_bits) m)
fields_recordable e Malformed f l m = absurd (false≢true (sym f))

held_recordable : (e : Edition) (k r z v : ℕ) (ts : List ℕ) → r < 2 ^ register_bits e → v < 2 ^ value_bits → malformed (access_in (k ∷ r ∷ z ∷ v ∷ []) ts) ≡ false
    → recordable e (access_in (k ∷ r ∷ z ∷ v ∷ []) ts) ≡ true
held_recordable e k r z v ts l m f =
    let a = access_fields k r z v ts f in
    fields_recordable e (access_in (k ∷ r ∷ z ∷ v ∷ []) ts) f (omega (arith, a.has_register)) (omega (arith, a.has_value))

pub read_recordable : (e : Edition) (bytes : List ℕ) → malformed (held_in e bytes).access ≡ false → recordable e (held_in e bytes).access ≡ true
unfolding held_in unpack
read_recordable e bytes f =
    let fs : List ℕ = unpack (layout e) (of_bytes bytes) in
    held_recordable e (get_or fs 0 0) (get_or fs 1 0) (get_or fs 2 0) (get_or fs 3 0) (drop 6 fs) (mod-lt _ (pow_pos (register_bits e))) (mod-lt _ (pow_pos value_bits)) f

-- ── a record for what is recordable ──

formed : (e : Edition) (a : Access) → recordable e a ≡ true → malformed a ≡ false
unfolding recordable
formed e Nothing t = refl
formed e (Read r) t = refl
formed e (Write r v) t = refl
formed e Malformed t = absurd (false≢true t)

pub record_formed : (e : Edition) (x : Input) → Wired x → recordable e x.access ≡ true → WellFormed e (record_of e x)
record_formed e x w t =
    one_formed e (record_of e x) (record_length e x) (record_byte e x)
    (ap (λ (y : Input). malformed y.access) (input_record e x w t) ∙ formed e x.access t)

-- with all wires at 0 and word 0
abbrev quiet : Edition → Access → Input
quiet e a = record { access = a; sample = record { alerts = record { pos = wire_words (alerts e) 0; neg = wire_words (alerts e) 0 }; word = 0; receive = Pairs 0 0 } }

held : (e : Edition) (a : Access) → recordable e a ≡ true → HeldBy e a
held e a t =
    let x = quiet e a in
    let w : Wired x = record { positive = unpack_fits _ _; negative = unpack_fits _ _; word = pow_pos 32 } in
    (record_of e x, record_length e x, record_formed e x w t, ap (λ (y : Input). y.access) (input_record e x w t))

pub recordable_is : (e : Edition) (a : Access) → (recordable e a ≡ true) ↔ HeldBy e a
recordable_is e a =
    (held e a, λ h. ap (recordable e) (sym h.3) ∙ read_recordable e h.0 (formed_one e h.0 h.1 h.2))
