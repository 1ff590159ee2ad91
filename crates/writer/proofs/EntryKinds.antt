-- Which accesses a well-formed record holds, kind by kind, and the first word of its record.
-- Assumes nothing.
use Prim.Native.Nat.{ℕ, zero, suc, ◌+◌, ◌*◌, ◌^◌, ◌≤◌, ◌<◌}
use mathlib.Core.Path.{◌≡◌, refl, sym, ap, ◌∙◌}
use mathlib.Core.Bool.{Bool, true, false, false≢true, cond, ◌&&◌}
use native.Mathlib.Omega.{arith}
use borrow.Author.Tests.{eqb-true, ltb-true}
use lib.Dec.{eqb}
use Rattle.bits.specs.Bits.{fits}
use Rattle.bits.specs.Fields.{pack}
use Rattle.bits.proofs.IndexLaws.{and-true}
use Rattle.trace_rules.specs.Edition.{newest, register_bits}
use Rattle.trace_rules.specs.Record.{value_bits, access_of, recordable, kind_of, register_of, value_of}
use Rattle.rules.specs.declared.Access.{Access}
use Rattle.trace_laws.proofs.RecordLaws.{kind_over}
use Rattle.writer.specs.EntryParts.{access_word}

-- kind 0: neither register nor value
none_recordable : (r v : ℕ) → recordable newest (access_of 0 r v) ≡ (eqb r 0 && eqb v 0)
unfolding recordable access_of
none_recordable r v = go (eqb r 0 && eqb v 0)
  where
    go : (b : Bool) → recordable newest (cond b Access.Nothing Access.Malformed) ≡ b
    go true = refl
    go false = refl

and_comm : (a b : Bool) → (a && b) ≡ (b && a)
and_comm true true = refl
and_comm true false = refl
and_comm false true = refl
and_comm false false = refl

-- kind 1: no value
read_recordable : (r v : ℕ) → recordable newest (access_of 1 r v) ≡ (fits (register_bits newest) r && eqb v 0)
unfolding recordable access_of
read_recordable r v = go (eqb v 0) ∙ and_comm (eqb v 0) (fits (register_bits newest) r)
  where
    go : (b : Bool) → recordable newest (cond b (Access.Read r) Access.Malformed) ≡ (b && fits (register_bits newest) r)
    go true = refl
    go false = refl

-- no other kind
other_recordable : (k r v : ℕ) → 3 ≤ k → recordable newest (access_of k r v) ≡ false
unfolding recordable
other_recordable k r v h = ap (recordable newest) (kind_over k r v h)

-- the fields of such a record, its first word, and the numbers of its access
pub record Held (k r v : ℕ) : Type 0 where
  pub kind_fits : k < 4
  pub register_fits : r < 2 ^ register_bits newest
  pub word : access_word (access_of k r v) ≡ k * 2 ^ 62 + r * 2 ^ 51 + v
  pub kind : kind_of (access_of k r v) ≡ k
  pub register : register_of (access_of k r v) ≡ r
  pub value : value_of (access_of k r v) ≡ v

pub held : (k r v : ℕ) → recordable newest (access_of k r v) ≡ true → Held k r v
unfolding access_word access_of recordable pack
held zero r v e =
    let a = and-true (eqb r 0) (eqb v 0) (sym (none_recordable r v) ∙ e) in
    let p : r ≡ 0 = eqb-true r 0 a.0 in
    let q : v ≡ 0 = eqb-true v 0 a.1 in
    rw (p, q) (record { kind_fits = omega arith; register_fits = omega arith; word = refl; kind = refl; register = refl; value = refl })
held (suc zero) r v e =
    let a = and-true (fits (register_bits newest) r) (eqb v 0) (sym (read_recordable r v) ∙ e) in
    let p : r < 2 ^ register_bits newest = ltb-true r (2 ^ register_bits newest) a.0 in
    let q : v ≡ 0 = eqb-true v 0 a.1 in
    rw q (record { kind_fits = omega arith; register_fits = p; word = omega arith; kind = refl; register = refl; value = refl })
held (suc (suc zero)) r v e =
    let a = and-true (fits (register_bits newest) r) (fits value_bits v) e in
    record { kind_fits = omega arith; register_fits = ltb-true r (2 ^ register_bits newest) a.0; word = omega arith; kind = refl; register = refl; value = refl }
held (suc (suc (suc k))) r v e = absurd (false≢true (sym (other_recordable (suc (suc (suc k))) r v (omega arith)) ∙ e))
