-- Wrong writers that the sentences refuse, as theorems, as in RefutedRecords.antt.
-- Assumes nothing.
use Prim.Native.Nat.{ℕ, zero, suc, ◌*◌, ◌≤◌, ◌<◌}
use mathlib.Core.Path.{◌≡◌, refl, sym, ap, ◌∙◌}
use mathlib.Core.Bool.{Bool, false, false≢true, cond}
use mathlib.Core.List.{List, [], ◌∷◌}
use native.Mathlib.Omega.{arith}
use lib.Dec.{ltb}
use lib.IntN.{ℤ, pos, neg_ℤ}
use lib.ListN.{get_or, length, take, replicate}
use Rattle.bits.specs.Bits.{bit}
use Rattle.rules.specs.Answer.{first_of, number}
use Rattle.rules.specs.declared.Access.{Access}
use Rattle.rules.specs.declared.Access.TheVariants.{Nothing, Malformed}
use Rattle.rules.specs.declared.Input.{Input}
use Rattle.rules.specs.declared.Receive.{Receive}
use Rattle.trace_rules.specs.Edition.{newest}
use Rattle.trace_rules.specs.Record.{recordable}
use Rattle.trace_rules.specs.Writer.{any_unrecordable, write, write_of, write_verdict}
use Rattle.trace_rules.specs.declared.Edition.TheVariants.{Alerts248, Pings}
use Rattle.rules.proofs.Scenes.{rules}
use Rattle.trace_rules.proofs.TraceScenes.{traces}
use Rattle.sentences.proofs.SentenceCases.{by_phase}
use Rattle.trace_sentences.specs.Writers.{Arrays, entry, Case10, Writer}
use Rattle.trace_sentences.proofs.HoldsWords.{value_of, refusal_of_law}
use Rattle.trace_sentences.proofs.HoldsWriters.{ten, is_ten, holds_writer}
use Rattle.trace_sentences.proofs.OnlyWriters.{only_writer}

abbrev still : Input
still = record { access = Nothing; sample = record { alerts = record { pos = replicate 4 0; neg = replicate 4 0 }; word = 0; receive = Receive.Pairs 0 0 } }

still_word : (v : ℕ) → v < 4 → get_or (replicate 4 0) v 0 ≤ 18446744073709551615
still_word = by_phase (λ v. get_or (replicate 4 0) v 0 ≤ 18446744073709551615) (omega arith) (omega arith) (omega arith) (omega arith)

-- an access, and receive pairs of these positive wires, with all other wires and the word at 0
abbrev still_with : Access → ℕ → Input
still_with a p = record { access = a; sample = record { alerts = still.sample.alerts; word = 0; receive = Receive.Pairs p 0 } }

arrays : (a : Access) (p : ℕ) → Arrays (still_with a p)
arrays a p = record { positive = refl; positive_word = still_word; negative = refl; negative_word = still_word; word = omega arith; pairs = (p, 0, refl) }

still_arrays : (i : ℕ) → i < length (still ∷ []) → Arrays (entry (still ∷ []) i)
still_arrays zero l = arrays Nothing 0
still_arrays (suc i) l = absurd (omega arith)

-- where every access has a record, 10 is not the case
none_bad : (xs : List Input) → any_unrecordable newest xs ≡ false → ¬ Case10 xs
none_bad xs e c = false≢true (sym e ∙ is_ten xs c)

-- one that empties a buffer that is too short
abbrev emptied : List Input → List ℕ → List ℕ
emptied xs buffer = cond (ltb (length buffer) (length xs * 75)) [] (write newest xs buffer).buffer

pub no_emptied_buffer : ¬ Writer (λ xs buffer. (write newest xs buffer).answer) emptied
unfolding write write_of write_verdict first_of any_unrecordable recordable
no_emptied_buffer w =
    let e = (only_writer (λ xs buffer. (write newest xs buffer).answer) (λ xs buffer. (write newest xs buffer).answer) emptied (λ xs buffer. (write newest xs buffer).buffer) w holds_writer (still ∷ []) (5 ∷ []) still_arrays).buffer in
    let d = ap (λ (bs : List ℕ). length bs) e in omega (arith, d)

-- one that looks at the first access alone
abbrev careless : List Input → List ℕ → ℤ
careless xs buffer = (write newest (take 1 xs) buffer).answer

abbrev second_bad : List Input
second_bad = still ∷ still_with Malformed 0 ∷ []

second_arrays : (i : ℕ) → i < length second_bad → Arrays (entry second_bad i)
second_arrays zero l = arrays Nothing 0
second_arrays (suc zero) l = arrays Malformed 0
second_arrays (suc (suc i)) l = absurd (omega arith)

pub no_ten_of_first_only : ¬ Writer careless (λ xs buffer. (write newest xs buffer).buffer)
unfolding write write_of write_verdict first_of any_unrecordable recordable number
no_ten_of_first_only w =
    let r = (w second_bad [] second_arrays).refused_10 (ten second_bad refl) in
    let d = ap refusal_of_law r.answer in omega (arith, d)

-- request (ix): one that still writes records of 70 bytes
pub no_older_record : ¬ Writer (λ xs buffer. (write Alerts248 xs buffer).answer) (λ xs buffer. (write Alerts248 xs buffer).buffer)
unfolding write write_of write_verdict first_of any_unrecordable recordable
no_older_record w =
    let r = (w (still ∷ []) (replicate 75 0) still_arrays).writes (none_bad (still ∷ []) refl) (λ l. omega (arith, l)) in
    let d = ap value_of r.answer in omega (arith, d)

-- request (xi): one that still writes the record of request (ix), of as many bytes: line 0's positive wire is 1
abbrev raised_0 : Input
raised_0 = still_with Nothing 1

one_array : (p i : ℕ) → i < length (still_with Nothing p ∷ []) → Arrays (entry (still_with Nothing p ∷ []) i)
one_array p zero l = arrays Nothing p
one_array p (suc i) l = absurd (omega arith)

abbrev positives_in : Receive → ℕ
positives_in (Receive.Pairs p m) = p
positives_in (Receive.Answers a) = 0

pub no_record_of_pings : ¬ Writer (λ xs buffer. (write Pings xs buffer).answer) (λ xs buffer. (write Pings xs buffer).buffer)
unfolding rules traces
no_record_of_pings w =
    let r = (((w (raised_0 ∷ []) (replicate 75 0) (one_array 1)).writes (none_bad (raised_0 ∷ []) refl) (λ l. omega (arith, l))).records 0 (omega arith)).pairs in
    let e : 1 ≡ r.0 = ap positives_in r.2 in
    false≢true (sym (r.3.positive 0 (omega arith)) ∙ ap (λ (p : ℕ). bit p 0) (sym e))

-- one that refuses receive wires with a bit above line 3, which count for nothing
abbrev wires_above : Receive → Bool
wires_above (Receive.Pairs p m) = ltb 15 p
wires_above (Receive.Answers a) = false

abbrev strict : List Input → List ℕ → ℤ
strict xs buffer = cond (wires_above (entry xs 0).sample.receive) (neg_ℤ (pos 10)) (write newest xs buffer).answer

abbrev more_wires : Input
more_wires = still_with Nothing 16

pub no_refused_wires : ¬ Writer strict (λ xs buffer. (write newest xs buffer).buffer)
unfolding any_unrecordable recordable
no_refused_wires w =
    let r = (w (more_wires ∷ []) (replicate 75 0) (one_array 16)).writes (none_bad (more_wires ∷ []) refl) (λ l. omega (arith, l)) in
    let d = ap refusal_of_law r.answer in omega (arith, d)
