-- Request (x), "Classes that don't meddle": one claim about two runs, which may differ in all that is not named here, N too.
-- proofs/Isolated.antt proves it of every two lists of one length, from every two states that refusal 7 does not meet.
-- It speaks in the rules' own words: `run` and `ticks` are the runs' states and outputs, `event`, `decode`, `acted`, `value`, `stage` and `drives` are
-- those that each tick computes with. Ticks are numbered as in demand 3. Nothing is modelled a second time.
-- Assumes nothing.
use Rattle.std.specs.Prelude.{ℕ, ◌≡◌, true, List}
use Rattle.bits.specs.Bits.{bit}
use Rattle.class_rules.specs.Class.{drives}
use Rattle.escalation.specs.List.{IsTick, before, input_at, given_at}
use Rattle.rules.specs.Access.{value}
use Rattle.rules.specs.Stages.{class_stages, stage}
use Rattle.rules.specs.State.{class_at}
use Rattle.rules.specs.Tick.{event_in}
use Rattle.rules.specs.declared.Handler.{Handler}
use Rattle.rules.specs.declared.Input.{Input}
use Rattle.rules.specs.declared.Register.TheVariants.{Block}
use Rattle.rules.specs.declared.Setting.{Setting}
use Rattle.rules.specs.declared.Ticked.{Ticked}
use Rattle.isolation.specs.OwnAccess.{is_own, own, changes_state, changes_enable}

-- ── class k is treated alike ──

-- in the tick of state g and input x, and in that of state f and input y
pub record SameTick (k : ℕ) (g : Handler) (x : Input) (f : Handler) (y : Input) : Type 0 where
  -- "the same class events"
  pub same_event : event_in g x k ≡ event_in f y k
  -- "the same accesses to its own block"
  pub same_access : own g x.access k ≡ own f y.access k
  -- "the same changes by software of its interrupt bits": INTR_STATE
  pub same_change : changes_state g x.access k ≡ changes_state f y.access k

-- it "starts with equal content, open stages included, and interrupt bits", and every tick is alike
pub record Alike (k first : ℕ) (h : Handler) (xs : List Input) (f : Handler) (ys : List Input) : Type 0 where
  pub same_class : class_at h k ≡ class_at f k
  pub same_stages : class_stages h.stages k ≡ class_stages f.stages k
  pub same_bit : bit h.interrupts.state k ≡ bit f.interrupts.state k
  pub same_tick : (t : ℕ) → IsTick first xs t → SameTick k (before first h xs t) (input_at first xs t) (before first f ys t) (input_at first ys t)

-- the same of INTR_ENABLE, which only the interrupt reads
pub record AlikeEnable (k first : ℕ) (h : Handler) (xs : List Input) (f : Handler) (ys : List Input) : Type 0 where
  pub same_enable : bit h.interrupts.enable k ≡ bit f.interrupts.enable k
  pub same_change :
      (t : ℕ) → IsTick first xs t
      → changes_enable (before first h xs t) (input_at first xs t).access k ≡ changes_enable (before first f ys t) (input_at first ys t).access k

-- ── what two ticks that give o and p then have in common ──

pub record SameClass (k : ℕ) (o p : Ticked) : Type 0 where
  -- "Its state, accumulator, count, own registers": all that the class holds, and so what each register of its block holds
  pub content : class_at o.handler k ≡ class_at p.handler k
  pub registers : (s : Setting) → value o.handler (Block s k) ≡ value p.handler (Block s k)
  -- its stages, and so the stage of each register
  pub stages : class_stages o.handler.stages k ≡ class_stages p.handler.stages k
  pub staged : (s : Setting) → stage o.handler (Block s k) ≡ stage p.handler (Block s k)
  -- "the lines it drives itself"
  pub lines : (e : ℕ) → drives (class_at o.handler k) e ≡ drives (class_at p.handler k) e
  -- its bit of INTR_STATE
  pub interrupt_bit : bit o.handler.interrupts.state k ≡ bit p.handler.interrupts.state k

pub record SameInterrupt (k : ℕ) (o p : Ticked) : Type 0 where
  pub enable_bit : bit o.handler.interrupts.enable k ≡ bit p.handler.interrupts.enable k
  pub interrupt : bit o.output.interrupts k ≡ bit p.output.interrupts k

-- ── request (x), of the runs with inputs xs from the state h and with inputs ys from the state f ──

pub record Isolation (k first : ℕ) (h : Handler) (xs : List Input) (f : Handler) (ys : List Input) : Type 0 where
  -- "equal in every tick"
  pub class : Alike k first h xs f ys → (t : ℕ) → IsTick first xs t → SameClass k (given_at first h xs t) (given_at first f ys t)
  -- and so are the answers to accesses of its own block
  pub answer :
      Alike k first h xs f ys → (t : ℕ) → IsTick first xs t → is_own (before first h xs t) (input_at first xs t).access k ≡ true
      → (given_at first h xs t).answer ≡ (given_at first f ys t).answer
  -- its interrupt, where INTR_ENABLE is treated alike too
  pub interrupt :
      Alike k first h xs f ys → AlikeEnable k first h xs f ys → (t : ℕ) → IsTick first xs t
      → SameInterrupt k (given_at first h xs t) (given_at first f ys t)
