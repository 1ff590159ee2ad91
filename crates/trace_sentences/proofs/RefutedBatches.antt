-- Wrong batches that the sentences refuse, as theorems, as in RefutedRecords.antt.
-- Assumes nothing.
use Prim.Native.Nat.{ℕ, ◌-◌, ◌/◌, ◌%◌}
use mathlib.Core.Path.{refl, sym, ap, ◌∙◌}
use mathlib.Core.Logic.{inl, inr, ⊎_elim}
use mathlib.Core.Bool.{false≢true, cond}
use mathlib.Core.List.{List, [], ◌∷◌, ◌++◌}
use native.Mathlib.Omega.{arith}
use lib.Dec.{eqb, ltb}
use lib.IntN.{ℤ, pos, neg_ℤ}
use lib.ListN.{length, take, replicate}
use Rattle.rules.specs.Run.{run}
use Rattle.rules.specs.State.{new_handler, with_timer}
use Rattle.rules.specs.Tick.{ticked}
use Rattle.rules.specs.declared.Handler.{Handler}
use Rattle.trace_rules.specs.Batch.{batch}
use Rattle.trace_rules.specs.Edition.{record_bytes}
use Rattle.trace_rules.specs.Record.{input_of, inputs_of}
use Rattle.trace_rules.specs.Word.{word_of}
use Rattle.trace_rules.specs.declared.Edition.{Edition}
use Rattle.trace_rules.specs.declared.Edition.TheVariants.{Alerts64, Alerts248, Pings, Wires}
use Rattle.rules.proofs.Scenes.{rules}
use Rattle.trace_rules.proofs.TraceScenes.{traces}
use Rattle.laws.proofs.Access.Written.{new_valid}
use Rattle.sentences.specs.Valid.{Valid}
use Rattle.sentences.proofs.HoldsValid.{holds_valid}
use Rattle.trace_sentences.specs.BatchTicks.{Case7, Batches}
use Rattle.trace_sentences.proofs.HoldsBatches.{holds_batches}
use Rattle.trace_sentences.proofs.HoldsWords.{refusal_of_law}

-- ── batches: the rules' ticks, words, records and states, but another answer or another list ──

abbrev Answers : (Edition → Handler → List ℕ → List ℕ → ℤ) → Type 0
Answers answer = Batches ticked word_of input_of (λ e h bytes out. (batch e h bytes out).handler) answer (λ e h bytes out. (batch e h bytes out).out)

abbrev Lists : (Edition → Handler → List ℕ → List ℕ → List ℕ) → Type 0
Lists list = Batches ticked word_of input_of (λ e h bytes out. (batch e h bytes out).handler) (λ e h bytes out. (batch e h bytes out).answer) list

-- a new handler of 1 and of 65 alerts
valid_1 : Valid (new_handler 1)
valid_1 = (holds_valid (new_handler 1)).0 (new_valid 1 (omega arith) (omega arith))

valid_65 : Valid (new_handler 65)
valid_65 = (holds_valid (new_handler 65)).0 (new_valid 65 (omega arith) (omega arith))

not_7 : ¬ Case7 Alerts248 (new_handler 1)
unfolding new_handler
not_7 = ⊎_elim (λ f. f valid_1) (⊎_elim (λ l. omega (arith, l)) (λ t. omega (arith, t.1)))

-- 8 before 7
abbrev hasty : Edition → Handler → List ℕ → List ℕ → ℤ
hasty e h bytes out = cond (eqb (length bytes % record_bytes e) 0) (batch e h bytes out).answer (neg_ℤ (pos 8))

pub no_eight_before_seven : ¬ Answers hasty
unfolding new_handler
no_eight_before_seven b =
    let r = (b Alerts248 (new_handler 249) (0 ∷ []) []).refused_7 (inl (λ v. omega (arith, v.n))) in
    let d = ap refusal_of_law r.answer in omega (arith, d)

-- 9 before 8
abbrev hurried : Edition → Handler → List ℕ → List ℕ → ℤ
hurried e h bytes out = cond (ltb (length out) (length bytes / record_bytes e)) (neg_ℤ (pos 9)) (batch e h bytes out).answer

pub no_nine_before_eight : ¬ Answers hurried
no_nine_before_eight b =
    let r = (b Alerts248 (new_handler 1) (replicate 71 0) []).refused_8 not_7 (λ e. omega (arith, e)) in
    let d = ap refusal_of_law r.answer in omega (arith, d)

-- half records taken
abbrev halved : Edition → Handler → List ℕ → List ℕ → ℤ
halved e h bytes out = cond (eqb (length bytes % (record_bytes e / 2)) 0) (pos 0) (batch e h bytes out).answer

pub no_half_records : ¬ Answers halved
no_half_records b =
    let r = (b Alerts248 (new_handler 1) (replicate 35 0) []).refused_8 not_7 (λ e. omega (arith, e)) in
    let d = ap refusal_of_law r.answer in omega (arith, d)

-- an old batch that takes a handler of 65 alerts
abbrev lenient : Edition → Handler → List ℕ → List ℕ → ℤ
lenient e h bytes out = (batch Alerts248 h bytes out).answer

pub no_old_batch_of_65 : ¬ Answers lenient
unfolding new_handler
no_old_batch_of_65 b =
    let r = (b Alerts64 (new_handler 65) [] []).refused_7 (inr (inl (omega arith))) in
    let n : ¬ Case7 Alerts248 (new_handler 65) = ⊎_elim (λ f. f valid_65) (⊎_elim (λ l. omega (arith, l)) (λ t. omega (arith, t.1))) in
    let s = (holds_batches Alerts248 (new_handler 65) [] []).runs n (λ f. f refl) (λ l. omega (arith, l)) in
    let d = ap refusal_of_law (sym s.answer ∙ r.answer) in omega (arith, d)

-- request (ix): a handler of one alert whose timer is on
abbrev timed : Handler
timed = with_timer (record { timeout = 0; regwen = 1; enable = 1 }) (new_handler 1)

timed_valid : Valid timed
unfolding rules
timed_valid = (holds_valid timed).0 refl

-- it is refused by no batch of request (ix), and by no newest one
timed_runs : ¬ Case7 Pings timed
unfolding new_handler
timed_runs = ⊎_elim (λ f. f timed_valid) (⊎_elim (λ l. omega (arith, l)) (λ t. false≢true (sym t.0)))

timed_runs_newest : ¬ Case7 Wires timed
unfolding new_handler
timed_runs_newest = ⊎_elim (λ f. f timed_valid) (⊎_elim (λ l. omega (arith, l)) (λ t. false≢true (sym t.0)))

-- an older batch that runs where the timer is on
abbrev eager : Edition → Handler → List ℕ → List ℕ → ℤ
eager e h bytes out = (batch Pings h bytes out).answer

pub no_older_batch_with_timer_on : ¬ Answers eager
no_older_batch_with_timer_on b =
    let r = (b Alerts248 timed [] []).refused_7 (inr (inr (refl, refl))) in
    let s = (holds_batches Pings timed [] []).runs timed_runs (λ f. f refl) (λ l. omega (arith, l)) in
    let d = ap refusal_of_law (sym s.answer ∙ r.answer) in omega (arith, d)

-- one that looks at the timer only where there are bytes
abbrev unasked : Edition → Handler → List ℕ → List ℕ → ℤ
unasked e h bytes out = cond (eqb (length bytes) 0) (pos 0) (batch e h bytes out).answer

pub no_empty_batch_with_timer_on : ¬ Answers unasked
no_empty_batch_with_timer_on b =
    let r = (b Alerts64 timed [] []).refused_7 (inr (inr (refl, refl))) in
    let d = ap refusal_of_law r.answer in omega (arith, d)

-- one that looks at the timer behind its length
abbrev tardy : Edition → Handler → List ℕ → List ℕ → ℤ
tardy e h bytes out = cond (eqb (length bytes % record_bytes e) 0) (batch e h bytes out).answer (batch Pings h bytes out).answer

pub no_eight_before_timer_on : ¬ Answers tardy
no_eight_before_timer_on b =
    let r = (b Alerts64 timed (0 ∷ []) []).refused_7 (inr (inr (refl, refl))) in
    let s = (holds_batches Pings timed (0 ∷ []) []).refused_8 timed_runs (λ e. omega (arith, e)) in
    let d = ap refusal_of_law (sym s.answer ∙ r.answer) in omega (arith, d)

-- a newest batch that does not run where the timer is on
abbrev timid : Edition → Handler → List ℕ → List ℕ → ℤ
timid e h bytes out = (batch Alerts248 h bytes out).answer

pub no_newest_refused_with_timer_on : ¬ Answers timid
no_newest_refused_with_timer_on b =
    let r = (b Wires timed [] []).runs timed_runs_newest (λ f. f refl) (λ l. omega (arith, l)) in
    let s = (holds_batches Alerts248 timed [] []).refused_7 (inr (inr (refl, refl))) in
    let d = ap refusal_of_law (sym s.answer ∙ r.answer) in omega (arith, d)

-- request (xi): "older editions run as in (ix)": a batch of request (ix) that does not run where the timer is on
abbrev wary : Edition → Handler → List ℕ → List ℕ → ℤ
wary Alerts64 h bytes out = (batch Alerts64 h bytes out).answer
wary Alerts248 h bytes out = (batch Alerts248 h bytes out).answer
wary Pings h bytes out = (batch Alerts248 h bytes out).answer
wary Wires h bytes out = (batch Wires h bytes out).answer

pub no_pings_refused_with_timer_on : ¬ Answers wary
no_pings_refused_with_timer_on b =
    let r = (b Pings timed [] []).runs timed_runs (λ f. f refl) (λ l. omega (arith, l)) in
    let s = (holds_batches Alerts248 timed [] []).refused_7 (inr (inr (refl, refl))) in
    let d = ap refusal_of_law (sym s.answer ∙ r.answer) in omega (arith, d)

-- later words cleared
abbrev cleared : Edition → Handler → List ℕ → List ℕ → List ℕ
cleared e h bytes out = take (length bytes) (batch e h bytes out).out ++ replicate (length out - length bytes) 0

pub no_cleared_words : ¬ Lists cleared
no_cleared_words b =
    let r = (b Alerts248 (new_handler 1) [] (5 ∷ [])).runs not_7 (λ f. f refl) (λ l. omega (arith, l)) in
    let e = r.later 0 (omega arith) in
    omega (arith, e)

-- a refused batch that runs: 1 is written to INTR_ENABLE, and the list has no room for the word
abbrev enables : List ℕ
enables = 0x80 ∷ 0x08 ∷ 0 ∷ 0 ∷ 0 ∷ 0 ∷ 0 ∷ 1 ∷ replicate 62 0

pub no_refused_run : ¬ Batches ticked word_of input_of (λ e h bytes out. run h (inputs_of e bytes)) (λ e h bytes out. (batch e h bytes out).answer) (λ e h bytes out. (batch e h bytes out).out)
unfolding rules traces
no_refused_run b =
    let r = (b Alerts248 (new_handler 1) enables []).refused_9 not_7 (λ f. f refl) (omega arith) in
    let d = ap (λ (h : Handler). h.interrupts.enable) r.state in omega (arith, d)
