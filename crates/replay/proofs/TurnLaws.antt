-- Turns: one that reads nothing, one that reads, and two as one.
-- Assumes nothing.
use Prim.Native.Nat.{ℕ, ◌*◌, ◌≤◌, ◌<◌}
use mathlib.Core.Path.{◌≡◌, sym, ap, subst, ◌∙◌}
use mathlib.Core.Bool.{true}
use mathlib.Core.List.{List, [], ◌++◌, append-nil, append_assoc}
use native.Mathlib.Nat.{div-eq_of_lt, zero-mul}
use native.Mathlib.Omega.{arith}
use lib.ListN.{length, take, drop, length-take, take-append-drop}
use lib.Seq.{take-take}
use Rattle.bits.specs.Index.{each_from}
use Rattle.trace_rules.specs.Batch.{admits}
use Rattle.trace_rules.specs.Edition.{record_bytes}
use Rattle.trace_rules.specs.Record.{input_of, inputs_of, record_at, record_count}
use Rattle.rules.specs.Run.{run}
use Rattle.trace_rules.specs.declared.Edition.{Edition}
use Rattle.rules.specs.declared.Handler.{Handler}
use Rattle.trace_laws.proofs.BatchLaws.{run_admits}
use Rattle.laws.proofs.Tick.Runs.{run_append}
use Rattle.replay.specs.Rest.{Ran, Turned, rest_of}
use Rattle.replay.proofs.RestLaws.{inputs_behind, rest_behind}

-- what the ticks leave is a state that refusal 7 would not meet
pub ran_admits : (e : Edition) (h : Handler) (bytes : List ℕ) (g : Handler) → admits e h ≡ true → g ≡ run h (inputs_of e bytes) → admits e g ≡ true
ran_admits e h bytes g v s = ap (admits e) s ∙ run_admits e h bytes v

-- ── no bytes came ──

module _ (e : Edition) (bytes : List ℕ) (short : length bytes < record_bytes e) where
  none_whole : record_count e bytes ≡ 0
  none_whole = div-eq_of_lt short

  no_inputs : inputs_of e bytes ≡ []
  unfolding inputs_of each_from
  no_inputs = ap (λ (k : ℕ). each_from 0 k (λ i. input_of e (record_at e bytes i))) none_whole

  all_rest : rest_of e bytes ≡ bytes
  all_rest = ap (λ (k : ℕ). drop (k * record_bytes e) bytes) none_whole ∙ ap (λ (k : ℕ). drop k bytes) (zero-mul (record_bytes e))

pub turned_none : (e : Edition) (h : Handler) (n : ℕ) (old buffer : List ℕ) → n < record_bytes e → take n buffer ≡ take n old → Turned e h (take n old) h n buffer
unfolding run
turned_none e h n old buffer short same =
    let kept = take n old in
    let s : length (kept ++ []) < record_bytes e = rw append-nil (simp length-take (omega arith)) in
    record {
      came = [];
      ran =
          record {
            state = ap (run h) (sym (no_inputs e (kept ++ []) s));
            kept = record { rest = same ∙ sym (append-nil kept) ∙ sym (all_rest e (kept ++ []) s); short = short };
          };
    }

-- ── a read ──

-- count bytes are in the buffer then, and the n that were kept are the first of them
pub turned_read : (e : Edition) (h : Handler) (n count : ℕ) (old read : List ℕ) → n ≤ count → take n read ≡ take n old
    → (g : Handler) (k : ℕ) (buffer : List ℕ) → Ran e h (take count read) g k buffer → Turned e h (take n old) g k buffer
turned_read e h n count old read l same g k buffer r =
    let came = drop n (take count read) in
    let all : take count read ≡ take n old ++ came =
    sym (take-append-drop n (take count read)) ∙ ap (λ (xs : List ℕ). xs ++ came) (take-take n count read l ∙ same) in
    record { came = came; ran = subst (λ (xs : List ℕ). Ran e h xs g k buffer) all r }

-- ── the next turn ──

-- two turns give what one gives that reads the bytes of both: how the input is cut changes nothing
pub turned_next : (e : Edition) (h : Handler) (kept : List ℕ) (g : Handler) (n : ℕ) (buffer : List ℕ) → Turned e h kept g n buffer
    → (f : Handler) (m : ℕ) (later : List ℕ) → Turned e g (take n buffer) f m later → Turned e h kept f m later
turned_next e h kept g n buffer t f m later u =
    let a = kept ++ t.came in
    let b = u.came in
    let all : a ++ b ≡ kept ++ (t.came ++ b) = append_assoc kept t.came b in
    let same : take n buffer ++ b ≡ rest_of e a ++ b = ap (λ (xs : List ℕ). xs ++ b) t.ran.kept.rest in
    record {
      came = t.came ++ b;
      ran =
          record {
            state =
                u.ran.state ∙ ap (λ (x : Handler). run x (inputs_of e (take n buffer ++ b))) t.ran.state
                ∙ ap (λ (xs : List ℕ). run (run h (inputs_of e a)) (inputs_of e xs)) same
                ∙ sym (run_append h (inputs_of e a) (inputs_of e (rest_of e a ++ b)))
                ∙ ap (run h) (sym (inputs_behind e a b))
                ∙ ap (λ (xs : List ℕ). run h (inputs_of e xs)) all;
            kept =
                record {
                  rest = u.ran.kept.rest ∙ ap (rest_of e) same ∙ sym (rest_behind e a b) ∙ ap (rest_of e) all;
                  short = u.ran.kept.short;
                };
          };
    }

-- the same where the next turn's edition is only known to be equal
pub turned_then : (e : Edition) (h : Handler) (kept : List ℕ) (g : Handler) (n : ℕ) (buffer : List ℕ) → Turned e h kept g n buffer
    → (d : Edition) → d ≡ e → (f : Handler) (m : ℕ) (later : List ℕ) → Turned d g (take n buffer) f m later → Turned e h kept f m later
turned_then e h kept g n buffer t d same f m later u =
    turned_next e h kept g n buffer t f m later (subst (λ (x : Edition). Turned x g (take n buffer) f m later) same u)
