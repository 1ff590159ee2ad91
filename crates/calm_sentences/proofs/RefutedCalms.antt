-- Wrong calm calls that the sentences refuse, as theorems.
-- Assumes nothing.
use Prim.Native.Nat.{ℕ, zero, suc, ◌+◌, ◌-◌, ◌*◌, ◌%◌, ◌^◌}
use mathlib.Core.Path.{refl}
use mathlib.Core.Bool.{cond}
use mathlib.Core.List.{List, [], ◌∷◌, ◌++◌, map}
use native.Mathlib.Omega.{arith}
use lib.Dec.{ltb}
use lib.IntN.{pos}
use lib.ListN.{get_or, length, drop, replicate}
use Rattle.std.specs.Prelude.{Ok, Err}
use Rattle.calm_laws.specs.Tells.{lines_in}
use Rattle.calm_rules.specs.Call.{calmed_by, calmed, calmed_list, call_words}
use Rattle.calm_rules.specs.declared.Bar.TheVariants.{TimerOn, ShortList}
use Rattle.calm_rules.specs.declared.Calmed.{Calmed}
use Rattle.rules.specs.State.{is_on, class_at}
use Rattle.rules.specs.Tick.{lines, no_output, output_of, ticked}
use Rattle.rules.specs.declared.Access.{Access}
use Rattle.rules.specs.declared.Handler.{Handler}
use Rattle.rules.specs.declared.Input.{Input}
use Rattle.rules.specs.declared.Output.{Output}
use Rattle.rules.specs.declared.Receive.TheVariants.{Pairs}
use Rattle.rules.specs.declared.Wires.{Wires}
use Rattle.trace_sentences.proofs.HoldsWords.{refusal_of_law, value_of}
use Rattle.calm_sentences.specs.Calms.{Calms}
use Rattle.calm_sentences.proofs.CalmScenes.{low, equal, calms, differs_in}

-- ── the words: Phase 1 comes in tick 2, and line 1 with it ──

-- the words with each made anew by f
abbrev rewritten : (ℕ → ℕ) → Handler → Wires → ℕ → List ℕ → List ℕ
rewritten f h w n list = map f (call_words h w n list) ++ drop (length (call_words h w n list)) list

-- the first tick is 0
pub no_first_tick_0 : ¬ Calms calmed (rewritten (λ x. x - 1))
unfolding calms
no_first_tick_0 =
    differs_in calmed (rewritten (λ x. x - 1)) 0 0 0 low 2 20 (λ c left. get_or left 0 0) 0x4000000000000001 0x4000000000000002 refl refl (omega arith) (λ e. omega (arith, e))

-- line 0 last
abbrev line_0_last : ℕ → ℕ
line_0_last x = 2 ^ 60 * lines_in x + x % 2 ^ 32

pub no_line_0_last : ¬ Calms calmed (rewritten line_0_last)
unfolding calms
no_line_0_last =
    differs_in calmed (rewritten line_0_last) 0 0 0 low 2 20 (λ c left. get_or left 0 0) 0x2000000000000002 0x4000000000000002 refl refl (omega arith) (λ e. omega (arith, e))

-- later entries at 0
abbrev cleared : Handler → Wires → ℕ → List ℕ → List ℕ
cleared h w n list = call_words h w n list ++ replicate (length list - length (call_words h w n list)) 0

pub no_later_entry_cleared : ¬ Calms calmed cleared
unfolding calms
no_later_entry_cleared = differs_in calmed cleared 0 0 0 low 2 20 (λ c left. get_or left 1 0) 0 77 refl refl (omega arith) (λ e. omega (arith, e))

-- the changes not counted
abbrev uncounted : Handler → Wires → ℕ → List ℕ → Calmed
uncounted h w n list = let c = calmed h w n list in record { handler = c.handler; answer = pos 0; output = c.output }

pub no_answer_0 : ¬ Calms uncounted calmed_list
unfolding calms
no_answer_0 = differs_in uncounted calmed_list 0 0 0 low 2 20 (λ c left. value_of c.answer) 0 1 refl refl (omega arith) (λ e. omega (arith, e))

-- ── the ticks ──

-- one tick short
abbrev short : Handler → Wires → ℕ → List ℕ → Calmed
short h w n list = calmed h w (n - 1) list

pub no_tick_short : ¬ Calms short calmed_list
unfolding calms
no_tick_short = differs_in short calmed_list 0 0 0 low 1 20 (λ c left. (class_at c.handler 0).count) 1 2 refl refl (omega arith) (λ e. omega (arith, e))

-- equal wires taken as (0,1): local 2 does not occur
abbrev unequal : Handler → Wires → ℕ → List ℕ → Calmed
unequal h w n list = calmed h low n list

pub no_equal_wires_hidden : ¬ Calms unequal calmed_list
unfolding calms
no_equal_wires_hidden =
    differs_in unequal calmed_list 0 0 0 equal 1 20 (λ c left. get_or c.handler.locals.cause 2 9) 0 1 refl refl (omega arith) (λ e. omega (arith, e))

-- receivers that answer nothing: local 3 occurs, since line 0 is on
abbrev silent : Wires → Input
silent w = record { access = Access.Nothing; sample = record { alerts = w; word = 0; receive = Pairs 0 15 } }

unfoldable pub unanswered : Handler → Wires → ℕ → Handler
unanswered h w zero = h
unanswered h w (suc n) = (ticked (unanswered h w n) (silent w)).handler

abbrev faulty : Handler → Wires → ℕ → List ℕ → Calmed
faulty h w n list = let c = calmed h w n list in record { handler = unanswered h w n; answer = c.answer; output = c.output }

pub no_answer_missing : ¬ Calms faulty calmed_list
unfolding calms unanswered
no_answer_missing =
    differs_in faulty calmed_list 0 0 0 low 2 20 (λ c left. get_or c.handler.locals.cause 3 9) 1 0 refl refl (omega arith) (λ e. omega (arith, e))

-- ── the outputs of tick 0 ──

abbrev shown : (Handler → Output) → Handler → Wires → ℕ → List ℕ → Calmed
shown o h w n list = let c = calmed h w n list in record { handler = c.handler; answer = c.answer; output = cond (ltb 0 n) c.output (o h) }

-- nothing in tick 0: Phase 0 drives line 0
pub no_tick_0_dark : ¬ Calms (shown (λ h. no_output)) calmed_list
unfolding calms
no_tick_0_dark = differs_in (shown (λ h. no_output)) calmed_list 0 0 0 low 0 20 (λ c left. c.output.lines) 0 1 refl refl (omega arith) (λ e. omega (arith, e))

-- the pairs of the tick before in tick 0
pub no_tick_0_pairs : ¬ Calms (shown (λ h. output_of h h)) calmed_list
unfolding calms
no_tick_0_pairs = differs_in (shown (λ h. output_of h h)) calmed_list 0 0 1 low 0 20 (λ c left. c.output.escalation.pos) 1 0 refl refl (omega arith) (λ e. omega (arith, e))

-- ── the refusals ──

abbrev number_in : Calmed → List ℕ → ℕ
number_in c left = refusal_of_law c.answer

-- 15 before 7
abbrev hasty_15 : Handler → Wires → ℕ → List ℕ → Calmed
hasty_15 h w n list = cond (is_on h) (calmed_by (Err TimerOn) h w n) (calmed h w n list)

pub no_fifteen_before_seven : ¬ Calms hasty_15 calmed_list
unfolding calms
no_fifteen_before_seven = differs_in hasty_15 calmed_list 1 16 0 low 1 20 number_in 15 7 refl refl (omega arith) (λ e. omega (arith, e))

-- 18 before 15
abbrev hasty_18 : Handler → Wires → ℕ → List ℕ → Calmed
hasty_18 h w n list = cond (ltb (length list) 20) (calmed_by (Err ShortList) h w n) (calmed h w n list)

pub no_eighteen_before_fifteen : ¬ Calms hasty_18 calmed_list
unfolding calms
no_eighteen_before_fifteen = differs_in hasty_18 calmed_list 1 0 0 low 1 19 number_in 18 15 refl refl (omega arith) (λ e. omega (arith, e))

-- 19 entries are enough
abbrev lenient : Handler → Wires → ℕ → List ℕ → Calmed
lenient h w n list = cond (ltb (length list) 19) (calmed h w n list) (calmed h w n (list ++ 0 ∷ []))

pub no_nineteen_entries : ¬ Calms lenient calmed_list
unfolding calms
no_nineteen_entries = differs_in lenient calmed_list 0 0 0 low 1 19 number_in 0 18 refl refl (omega arith) (λ e. omega (arith, e))

-- it runs with the timer on
abbrev unstopped : Handler → Wires → ℕ → List ℕ → Calmed
unstopped h w n list = cond (is_on h) (calmed_by (Ok tt) h w n) (calmed h w n list)

pub no_run_with_timer_on : ¬ Calms unstopped calmed_list
unfolding calms
no_run_with_timer_on = differs_in unstopped calmed_list 1 0 0 low 0 20 number_in 0 15 refl refl (omega arith) (λ e. omega (arith, e))

-- a refusal that shows the lines
abbrev lit : Handler → Wires → ℕ → List ℕ → Calmed
lit h w n list =
    let c = calmed h w n list in
    cond (ltb (length list) 20)
    (record {
      handler = c.handler;
      answer = c.answer;
      output =
          record { interrupts = 0; lines = lines h; acknowledge = no_output.acknowledge; ping = no_output.ping; escalation = no_output.escalation };
    }) c

pub no_lines_on_refusal : ¬ Calms lit calmed_list
unfolding calms
no_lines_on_refusal = differs_in lit calmed_list 0 0 0 low 1 19 (λ c left. c.output.lines) 1 0 refl refl (omega arith) (λ e. omega (arith, e))
