-- The trace writer: what is written is read back, and what is read is written back.
-- Assumes nothing.
use Prim.Native.Nat.{ℕ, zero, suc, ◌+◌, ◌*◌, ◌≤◌}
use mathlib.Core.Path.{◌≡◌, refl, sym, ap, ap₂, ◌∙◌, subst}
use mathlib.Core.Bool.{Bool, true, false, false≢true, cond, not, ◌||◌}
use mathlib.Core.Logic.{◌↔◌}
use mathlib.Core.List.{List, [], ◌∷◌, ◌++◌, map, append_assoc}
use native.Mathlib.Nat.{zero-mul, suc-mul}
use native.Mathlib.Omega.{arith}
use borrow.Author.Tests.{not-false, le-ltb}
use lib.Dec.{ltb}
use lib.IntN.{pos}
use lib.ListN.{length, take, drop, length-append}
use lib.Seq.{take_at}
use Rattle.std.specs.Prelude.{Ok, Err}
use Rattle.bits.proofs.IndexLaws.{length_each}
use Rattle.bits.specs.Index.{each, each_from}
use Rattle.rules.specs.Answer.{first_of, number, Verdict}
use Rattle.trace_rules.specs.Edition.{newest, record_bytes}
use Rattle.trace_rules.specs.Record.{carried, held_in, input_of, record_of, recordable, inputs_of, record_at, record_count}
use Rattle.trace_rules.specs.Writer.{WellFormed, Wired, AllWired, none, one, AllSame, no_more, and, records_of, any_unrecordable, write_cases, write_verdict, write_of, write}
use Rattle.rules.specs.declared.Answer.{Answer}
use Rattle.rules.specs.declared.Access.{Access}
use Rattle.rules.specs.declared.Access.TheVariants.{Nothing, Read, Write, Malformed}
use Rattle.trace_rules.specs.declared.Edition.{Edition}
use Rattle.rules.specs.declared.Input.{Input}
use Rattle.rules.specs.declared.Refusal.{Refusal}
use Rattle.rules.specs.declared.Refusal.TheVariants.{NoRecord, ShortBuffer}
use Rattle.trace_laws.proofs.RecordLaws.{record_length, input_record, record_input}
use Rattle.trace_laws.proofs.Recordable.{read_recordable, record_formed}
use Rattle.laws.proofs.Access.Refusals.{first_accepts}
use Rattle.trace_laws.proofs.WellFormedLaws.{formed_one, none_formed, well_formed_append, inputs_none, inputs_cons, by_records}
use Rattle.trace_laws.proofs.WireLaws.{same_shown}
use Rattle.trace_laws.specs.Wires.{shown}

-- ── a record for each ──

pub records_length : (e : Edition) (xs : List Input) → length (records_of e xs) ≡ length xs * record_bytes e
unfolding records_of
records_length e [] = sym (zero-mul (record_bytes e))
records_length e (x ∷ xs) =
    length-append (record_of e x) (records_of e xs) ∙ ap₂ ◌+◌ (record_length e x) (records_length e xs)
    ∙ (let z : record_bytes e + length xs * record_bytes e ≡ length (x ∷ xs) * record_bytes e = omega (arith, suc-mul (length xs) (record_bytes e)) in z)

pub records_append : (e : Edition) (xs ys : List Input) → records_of e (xs ++ ys) ≡ records_of e xs ++ records_of e ys
unfolding records_of
records_append e [] ys = refl
records_append e (x ∷ xs) ys =
    ap (λ (bs : List ℕ). record_of e x ++ bs) (records_append e xs ys) ∙ sym (append_assoc (record_of e x) (records_of e xs) (records_of e ys))

-- ── what writing gives ──

pub write_refused : (e : Edition) (xs : List Input) (buffer : List ℕ) (m : Refusal) → write_verdict e xs buffer ≡ Err m
    → write e xs buffer ≡ record { answer = number (Answer.Refused m); buffer = buffer }
unfolding write write_of
write_refused e xs buffer m r = ap (λ (v : Verdict). write_of e v xs buffer) r

pub write_accepted : (e : Edition) (xs : List Input) (buffer : List ℕ) → write_verdict e xs buffer ≡ Ok tt
    → (write e xs buffer).buffer ≡ records_of e xs ++ drop (length xs * record_bytes e) buffer
unfolding write write_of
write_accepted e xs buffer a = ap (λ (v : Verdict). (write_of e v xs buffer).buffer) a

pub write_answer : (e : Edition) (xs : List Input) (buffer : List ℕ) → write_verdict e xs buffer ≡ Ok tt → (write e xs buffer).answer ≡ pos (length xs * record_bytes e)
unfolding write write_of
write_answer e xs buffer a = ap (λ (v : Verdict). (write_of e v xs buffer).answer) a

-- 10 is given exactly where an access is not recordable
pub ten_is : (e : Edition) (xs : List Input) (buffer : List ℕ) → (write_verdict e xs buffer ≡ Err NoRecord) ↔ (any_unrecordable e xs ≡ true)
unfolding write_verdict first_of
ten_is e xs buffer = go (any_unrecordable e xs) (ltb (length buffer) (length xs * record_bytes e))
  where
    go : (a b : Bool) → (◌≡◌ {A = Verdict} (cond a (Err NoRecord) (cond b (Err ShortBuffer) (Ok tt))) (Err NoRecord)) ↔ (a ≡ true)
    go true b = (λ e. refl, λ e. refl)
    go false true = (λ e. let z : ◌≡◌ {A = ℕ} 0 1 = cc in absurd (omega arith), λ e. absurd (false≢true e))
    go false false = (λ e. let z : ◌≡◌ {A = ℕ} 0 1 = cc in absurd (omega arith), λ e. absurd (false≢true e))

-- and 11 exactly where all are and the buffer is too short
pub eleven_is : (e : Edition) (xs : List Input) (buffer : List ℕ)
    → (write_verdict e xs buffer ≡ Err ShortBuffer) ↔ ((any_unrecordable e xs ≡ false) × (ltb (length buffer) (length xs * record_bytes e) ≡ true))
unfolding write_verdict first_of
eleven_is e xs buffer = go (any_unrecordable e xs) (ltb (length buffer) (length xs * record_bytes e))
  where
    go : (a b : Bool)
        → (◌≡◌ {A = Verdict} (cond a (Err NoRecord) (cond b (Err ShortBuffer) (Ok tt))) (Err ShortBuffer)) ↔ ((a ≡ false) × (b ≡ true))
    go true b = (λ e. let z : ◌≡◌ {A = ℕ} 0 1 = cc in absurd (omega arith), λ e. absurd (false≢true (sym e.0)))
    go false true = (λ e. (refl, refl), λ e. refl)
    go false false = (λ e. let z : ◌≡◌ {A = ℕ} 0 1 = cc in absurd (omega arith), λ e. absurd (false≢true e.1))

-- accepted: every access is recordable
pub accepted_recordable : (e : Edition) (xs : List Input) (buffer : List ℕ) → write_verdict e xs buffer ≡ Ok tt → any_unrecordable e xs ≡ false
unfolding write_verdict
accepted_recordable e xs buffer a = (first_accepts (write_cases e xs buffer) (record { refusal = NoRecord; holds = false })).0 a 0 (omega arith)

-- ── wires ──

wired_from : (b n : ℕ) (f : ℕ → Input) → ((i : ℕ) → Wired (f i)) → AllWired (each_from b n f)
unfolding each_from
wired_from b zero f w = none
wired_from b (suc n) f w = one (w b) (wired_from (suc b) n f w)

pub each_wired : (n : ℕ) (f : ℕ → Input) → ((i : ℕ) → Wired (f i)) → AllWired (each n f)
each_wired n f w = wired_from 0 n f w

-- ── the newest edition has the map's own register numbers ──

own_access : (a : Access) → carried newest a ≡ a
own_access Nothing = refl
own_access (Read r) = refl
own_access (Write r v) = refl
own_access Malformed = refl

pub own_numbers : (bytes : List ℕ) → input_of newest bytes ≡ held_in newest bytes
unfolding input_of
own_numbers bytes = ap (λ (a : Access). record { access = a; sample = (held_in newest bytes).sample }) (own_access (held_in newest bytes).access)

-- ── reading what was written ──

or-false : (a b : Bool) → (a || b) ≡ false → (a ≡ false) × (b ≡ false)
or-false true b e = absurd (false≢true (sym e))
or-false false b e = (refl, e)

inputs_records : (xs : List Input) → AllWired xs → any_unrecordable newest xs ≡ false → inputs_of newest (records_of newest xs) ≡ map (shown newest) xs
unfolding records_of any_unrecordable
inputs_records [] w e = inputs_none newest
inputs_records (x ∷ xs) (one v w) e =
    let p = or-false (not (recordable newest x.access)) (any_unrecordable newest xs) e in
    inputs_cons newest (record_of newest x) (records_of newest xs) (record_length newest x)
    ∙ ap₂ {C = List Input} ◌∷◌ (own_numbers (record_of newest x)
    ∙ input_record newest x v (not-false (recordable newest x.access) p.0)) (inputs_records xs w p.1)

-- what is written is well formed
pub written_formed : (xs : List Input) → AllWired xs → any_unrecordable newest xs ≡ false → WellFormed newest (records_of newest xs)
unfolding records_of any_unrecordable
written_formed [] w e = none_formed newest
written_formed (x ∷ xs) (one v w) e =
    let p = or-false (not (recordable newest x.access)) (any_unrecordable newest xs) e in
    well_formed_append newest (record_of newest x) (records_of newest xs) (record_formed newest x v (not-false (recordable newest x.access) p.0)) (written_formed xs w p.1)

read_shown : (xs : List Input) (buffer : List ℕ) → AllWired xs → write_verdict newest xs buffer ≡ Ok tt
    → inputs_of newest (take (length xs * record_bytes newest) (write newest xs buffer).buffer) ≡ map (shown newest) xs
read_shown xs buffer w e =
    ap (λ (bs : List ℕ). inputs_of newest (take (length xs * record_bytes newest) bs)) (write_accepted newest xs buffer e)
    ∙ ap (inputs_of newest) (take_at (records_of newest xs) (drop (length xs * record_bytes newest) buffer) (length xs * record_bytes newest) (records_length newest xs))
    ∙ inputs_records xs w (accepted_recordable newest xs buffer e)

all_same : (xs : List Input) → AllWired xs → AllSame newest xs (map (shown newest) xs)
all_same [] w = no_more
all_same (x ∷ xs) (one v w) = and (same_shown newest x v) (all_same xs w)

pub read_written : (xs : List Input) (buffer : List ℕ) → AllWired xs → write_verdict newest xs buffer ≡ Ok tt
    → AllSame newest xs (inputs_of newest (take (length xs * record_bytes newest) (write newest xs buffer).buffer))
read_written xs buffer w e =
    subst (AllSame newest xs) (sym (read_shown xs buffer w e)) (all_same xs w)

-- ── writing what was read ──

pub written_read : (bytes : List ℕ) → WellFormed newest bytes → records_of newest (inputs_of newest bytes) ≡ bytes
unfolding records_of
written_read =
    by_records newest (λ bytes. records_of newest (inputs_of newest bytes) ≡ bytes) (ap (records_of newest) (inputs_none newest))
    (λ r rest n w e. ap (records_of newest) (inputs_cons newest r rest n) ∙ ap₂ {C = List ℕ} ◌++◌ (ap (record_of newest) (own_numbers r) ∙ record_input newest r n w.byte (formed_one newest r n w)) e)

read_all_recordable : (bytes : List ℕ) → WellFormed newest bytes → any_unrecordable newest (inputs_of newest bytes) ≡ false
unfolding any_unrecordable
read_all_recordable =
    by_records newest (λ bytes. any_unrecordable newest (inputs_of newest bytes) ≡ false) (ap (any_unrecordable newest) (inputs_none newest))
    (λ r rest n w e. ap (any_unrecordable newest) (inputs_cons newest r rest n) ∙ ap₂ (λ (a b : Bool). not a || b) (ap (λ (x : Input). recordable newest x.access) (own_numbers r) ∙ read_recordable newest r (formed_one newest r n w)) e)

pub well_formed_accepted : (bytes buffer : List ℕ) → WellFormed newest bytes → length bytes ≤ length buffer → write_verdict newest (inputs_of newest bytes) buffer ≡ Ok tt
unfolding write_verdict first_of inputs_of
well_formed_accepted bytes buffer w l =
    let n : length (inputs_of newest bytes) ≡ record_count newest bytes = length_each (record_count newest bytes) (λ i. input_of newest (record_at newest bytes i)) in
    rw (read_all_recordable bytes w, le-ltb (length buffer) (length (inputs_of newest bytes) * record_bytes newest) (omega (arith, w.whole)))
