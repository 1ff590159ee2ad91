-- "One tick, in order": which step works on which state, and refusal 7, in sentences: raw fields and plain comparisons, and no definition of
-- the rules. Step 1 is given: `step1` is any function of a state and an access, and Access.antt has its sentences.
-- Assumes nothing.
use Rattle.std.specs.Prelude.{◌≡◌}
use Rattle.rules.specs.declared.Access.{Access}
use Rattle.rules.specs.declared.Accessed.{Accessed}
use Rattle.rules.specs.declared.Answer.{Answer}
use Rattle.rules.specs.declared.Handler.{Handler}
use Rattle.rules.specs.declared.Input.{Input}
use Rattle.rules.specs.declared.Refusal.TheVariants.{BadState}
use Rattle.rules.specs.declared.Sample.{Sample}
use Rattle.rules.specs.declared.Ticked.{Ticked}
use Rattle.sentences.specs.Links.{Linked}
use Rattle.sentences.specs.Outputs.{ClassesStepped, OutputOf}
use Rattle.sentences.specs.Pairs.{AllLow}
use Rattle.sentences.specs.Samples.{RaisesFiveOrNone, Sampled}
use Rattle.sentences.specs.Valid.{Valid}

-- ── a tick that is run: a is what step 1 gave, s is the tick's sample, and t is what the tick gives ──

pub record Runs (a : Accessed) (s : Sample) (t : Ticked) : Type 0 where
  -- "2. Samples": on the state after step 1
  pub state2 : Handler
  pub step2 : Sampled a.handler s a.effects state2
  -- "3. Class k has an event ..", "4. The class is in one of seven states ..": on the state after step 2
  pub state4 : Handler
  pub steps34 : ClassesStepped a.handler s a.effects state2 state4
  -- requests (viii), (ix) and (xi): the links last, by the lines of step 5, to the state after the tick
  pub links : Linked a.handler s a.effects t.output.lines state4 t.handler
  -- "5. Outputs from the state now reached"; request (viii): the acknowledge pairs by the receivers before step 2
  pub step5 : OutputOf a.handler t.handler t.output
  -- "1. The access, on the state before any event of this tick": its answer is the tick's
  pub answer : t.answer ≡ a.answer

-- ── refusal 7, "state that breaks the rule below": "state unchanged, tick not run, interrupts and lines 0"; request (viii): pairs (0,1) ──

pub record Refused7 (h : Handler) (t : Ticked) : Type 0 where
  -- "state unchanged, tick not run"
  pub state : t.handler ≡ h
  -- "interrupts and lines 0"
  pub interrupts : t.output.interrupts ≡ 0
  pub lines : t.output.lines ≡ 0
  -- request (viii): "Acknowledge and ping pairs become outputs, (0,1) .. on 7"
  pub acknowledge : AllLow t.output.acknowledge
  pub ping : AllLow t.output.ping
  -- request (xi): "7 sends it", (0,1), on the four lines' pairs
  pub escalation_positive : t.output.escalation.pos ≡ 0
  pub escalation_negative : t.output.escalation.neg ≡ 15
  -- refusal 7 is the answer; Numbers.antt says that it is -7
  pub answer : t.answer ≡ Answer.Refused BadState

-- ── the tick, of every state and input ──

pub record TickOf (step1 : Handler → Access → Accessed) (h : Handler) (x : Input) (t : Ticked) : Type 0 where
  -- "For an access the order is 7, 5, 1, 2, 4, 3": 7 comes before step 1
  pub refused : ¬ Valid h → Refused7 h t
  -- "1. The access, on the state before any event of this tick", the steps after it "in order"
  pub runs : Valid h → Runs (step1 h x.access) x.sample t
  -- "States that calls produce never get it": refusal 7
  pub stays_valid : Valid h → Valid t.handler

abbrev pub Tick : (Handler → Access → Accessed) → (Handler → Input → Ticked) → Type 0
Tick step1 tick = (h : Handler) (x : Input) → TickOf step1 h x (tick h x)

-- ── what steps 2 to 5 take of step 1 ──

pub record Step1 (step1 : Handler → Access → Accessed) : Type 0 where
  -- "States that calls produce never get it": refusal 7; a reading: nor does the state that step 1 leaves to step 2
  pub valid : (h : Handler) (x : Access) → Valid h → Valid (step1 h x).handler
  -- request (v): local 5 is raised, or none
  pub raises : (h : Handler) (x : Access) → RaisesFiveOrNone (step1 h x).effects
