-- A reader that moves on over formats, one behind the other.
-- Assumes nothing.
use Prim.Native.Nat.{ℕ, ◌+◌, ◌-◌, ◌*◌, ◌≤◌, ◌<◌}
use mathlib.Core.Path.{◌≡◌, refl, sym, ap, ◌∙◌}
use mathlib.Core.Bool.{Bool}
use mathlib.Core.List.{List}
use native.Mathlib.Omega.{arith}
use lib.ListN.{length, drop}
use Rattle.std.specs.Prelude.{Result, Ok, Err}
use Rattle.std.specs.Result.{IsErrAnd}
use Rattle.std.proofs.lemmas.Result.{err_from_is_err_and}
use Rattle.formats.specs.BitList.{bits_of_bytes, filled}
use Rattle.formats.specs.Format.{Format, Lawful, Chain, field, pair, as_type, chain}
use Rattle.formats.proofs.BitListLaws.{length_bits_of_bytes}
use Rattle.dump_rules.specs.declared.Unread.{Unread}
use Rattle.dump_reader.specs.Steps.{step_at, step_by}
use Rattle.dump_reader.specs.Reads.{Came, Reads, ReadsFirst, placed}
use Rattle.dump_reader.specs.declared.reader.Reader.{Reader}
use Rattle.dump_reader.proofs.StepLaws.{on, fine_of, step_on, pair_on, pair_err, as_step}
use Rattle.dump_reader.proofs.FieldSteps.{field_code, on_then, loop_err, loop_on, loop_end}

in_bits : (p : Reader) → p.at ≤ length (bits_of_bytes p.bytes.now)
in_bits p = let h : p.at ≤ 8 * length p.bytes.now = p.within in omega (arith, length_bits_of_bytes p.bytes.now)

-- what a `?` passes on
pub exit : {D : Type 0} (r : Result D Unread) (e : Unread) → IsErrAnd r (λ y. y ≡ e) → r ≡ Err e
exit r e h = let p = err_from_is_err_and r h in rw (p.1, p.2)

-- ── a field ──

module _ (w : ℕ) (ok : ℕ → Bool) (fine : Bool) (from to : Reader) (f : fine ≡ fine_of from.bytes.now from.at w ok) where
  pub field_read : {A : Type 0} (r : Result A Unread) → Came (step_by (8 * length from.bytes.now) from.at w fine) from to r → Reads (field w ok) from to r
  field_read r c = record { bytes = c.bytes; place = field_code from.bytes.now from.at w ok fine (placed to.at r) from.within f c.place }

  pub number_read : {A : Type 0} (u : A) (v : ℕ) → v ≡ filled w (drop from.at (bits_of_bytes from.bytes.now))
      → Came (step_by (8 * length from.bytes.now) from.at w fine) from to (Ok u) → ReadsFirst (field w ok) w from to (Ok v)
  number_read u v e c = let d = field_read (Ok u) c in record { reads = record { bytes = d.bytes; place = d.place }; value = λ x i. cc }

  pub number_failed : {A : Type 0} (e : Unread) (r : Result ℕ Unread) → Came {A = A} (step_by (8 * length from.bytes.now) from.at w fine) from to (Err e)
      → IsErrAnd r (λ y. y ≡ e) → ReadsFirst (field w ok) w from to r
  number_failed e r c h =
      let i : r ≡ Err e = exit r e h in
      let d = field_read (Err e) c in
      record { reads = record { bytes = d.bytes; place = ap (placed to.at) i ∙ d.place }; value = λ x j. cc }

-- ── one behind the other ──

pub failed : {A C D : Type 0} (f : Format A) (from to : Reader) (e : Unread) (r : Result D Unread) → Reads {B = C} f from to (Err e) → IsErrAnd r (λ y. y ≡ e) → Reads f from to r
failed f from to e r c h = record { bytes = c.bytes; place = ap (placed to.at) (exit r e h) ∙ c.place }

module _ {A B D : Type 0} (f : Format A) (g : A → Format B) (from mid : Reader) (r : Result D Unread) where
  pub then_failed : {C : Type 0} (e : Unread) → Reads {B = C} f from mid (Err e) → IsErrAnd r (λ y. y ≡ e) → Reads (pair f g) from mid r
  then_failed e c h = record { bytes = c.bytes; place = ap (placed mid.at) (exit r e h) ∙ sym (pair_err f g from.bytes.now from.at e (sym c.place)) }

-- in the same bytes
same_bytes : {B : Type 0} (g : Format B) (from mid : Reader) → mid.bytes.now ≡ from.bytes.now → step_at g mid.bytes.now mid.at ≡ step_at g from.bytes.now mid.at
same_bytes g from mid e = ap (λ (b : List ℕ). step_at g b mid.at) e

pub then_number : {B D : Type 0} (w : ℕ) (ok : ℕ → Bool) (g : ℕ → Format B) (from mid to : Reader) (v : ℕ) (r : Result D Unread)
    → ReadsFirst (field w ok) w from mid (Ok v) → Reads (g v) mid to r → Reads (pair (field w ok) g) from to r
then_number w ok g from mid to v r n c =
    record {
      bytes = c.bytes ∙ n.reads.bytes;
      place = c.place ∙ same_bytes (g v) from mid n.reads.bytes ∙ ap (λ (x : ℕ). step_at (g x) from.bytes.now mid.at) (n.value v refl)
          ∙ sym (on_then from.bytes.now from.at w ok g mid.at from.within (sym n.reads.place));
    }

-- what is read first is not looked at
pub then_pass : {A B C D : Type 0} (f : Format A) (g : Format B) → Lawful f → (from mid to : Reader) (u : C) (r : Result D Unread)
    → Reads f from mid (Ok u) → Reads g mid to r → Reads (pair f (λ x. g)) from to r
then_pass f g lf from mid to u r n c =
    let x = step_on from.bytes.now from.at f lf (in_bits from) mid.at (sym n.place) in
    record {
      bytes = c.bytes ∙ n.bytes;
      place = c.place ∙ same_bytes g from mid n.bytes ∙ sym (pair_on f (λ x. g) from.bytes.now from.at x.0 mid.at x.1);
    }

pub typed : {A B D : Type 0} (to_b : A → B) (to_a : B → A) (f : Format A) (from to : Reader) (r : Result D Unread) → Reads f from to r → Reads (as_type to_b to_a f) from to r
typed to_b to_a f from to r c = record { bytes = c.bytes; place = c.place ∙ sym (as_step to_b to_a f from.bytes.now from.at) }

-- what begins with a number answers it
module _ {A : Type 0} (f : Format A) (w : ℕ) (from to : Reader) where
  pub answers : {C : Type 0} (u : C) (v : ℕ) → ((x : ℕ) → on v ≡ Ok x → x ≡ filled w (drop from.at (bits_of_bytes from.bytes.now)))
      → Reads f from to (Ok u) → ReadsFirst f w from to (Ok v)
  answers u v e c = record { reads = record { bytes = c.bytes; place = c.place }; value = e }

  pub answers_none : (e : Unread) (r : Result ℕ Unread) → IsErrAnd r (λ y. y ≡ e) → Reads f from to r → ReadsFirst f w from to r
  answers_none e r h c = let i : r ≡ Err e = exit r e h in record { reads = c; value = λ x j. cc }

-- ── a list, in a loop: k of m are read from `start` on, and the reader is at `from` ──

module _ {S A T : Type 0} (c : Chain S A) (m k : ℕ) (s : S) (f : Format T) (start from : Reader) (same : from.bytes.now ≡ start.bytes.now)
    (rest : step_at f start.bytes.now start.at ≡ step_at (chain c (m - k) s) from.bytes.now from.at) where
  pub turn_failed : {C D : Type 0} → k < m → (mid : Reader) (e : Unread) (r : Result D Unread) → Reads {B = C} (c.one s (m - (k + 1))) from mid (Err e)
      → IsErrAnd r (λ y. y ≡ e) → Reads f start mid r
  turn_failed l mid e r n h =
      record { bytes = n.bytes ∙ same; place = ap (placed mid.at) (exit r e h) ∙ loop_err from.bytes.now from.at c m k s (step_at f start.bytes.now start.at) rest l e n.place }

  pub turn_on : {C : Type 0} → Lawful (c.one s (m - (k + 1))) → k < m → (mid : Reader) (u : C) → Reads (c.one s (m - (k + 1))) from mid (Ok u)
      → (a : A) × (step_at f start.bytes.now start.at ≡ step_at (chain c (m - (k + 1)) (c.next s a)) mid.bytes.now mid.at)
  turn_on lf l mid u n =
      let y = loop_on from.bytes.now from.at c m k s (step_at f start.bytes.now start.at) rest lf l from.within mid.at n.place in
      (y.0, y.1 ∙ sym (same_bytes (chain c (m - (k + 1)) (c.next s y.0)) from mid n.bytes))

  pub turns_end : {C : Type 0} → m ≤ k → (u : C) → Reads f start from (Ok u)
  turns_end l u = record { bytes = same; place = loop_end from.bytes.now from.at c m k s (step_at f start.bytes.now start.at) rest l from.within }
