-- Demand 3, "A started escalation": one claim about a whole list of ticks. proofs/Demand3.antt proves it of every list.
-- It speaks in the rules' own words: `run` and `ticks` are the list's states and outputs, `starts`, `drives`, `locked`, `value`, `stage`, `decode`
-- and `clears` are those that each tick computes with. Nothing is modelled a second time.
-- Assumes nothing.
use Rattle.std.specs.Prelude.{ℕ, zero, suc, ◌+◌, ◌≤◌, ◌<◌, max, ◌≡◌, ◌↔◌, ◌≢◌, ◌⊎◌, true, false, List, get_or, length, take}
use Rattle.bits.specs.Bits.{bit}
use Rattle.class_rules.specs.Class.{en, lock, line_enable, line_map, phase_cyc, phase, state_of, drives}
use Rattle.class_rules.specs.Step.{trigger, due, starts}
use Rattle.class_rules.specs.declared.Class.{Class}
use Rattle.class_rules.specs.declared.ClassState.{ClassState}
use Rattle.class_rules.specs.declared.ClassState.TheVariants.{Idle, Timeout, Phase0, Terminal}
use Rattle.escalation.specs.List.{IsTick, before, input_at, given_at, no_input, class_read}
use Rattle.rules.specs.Access.{value, locked, clears}
use Rattle.rules.specs.Map.{decode, number_of}
use Rattle.rules.specs.Run.{run}
use Rattle.rules.specs.Stages.{stage}
use Rattle.rules.specs.State.{class_count, class_at}
use Rattle.rules.specs.Tick.{signals_in}
use Rattle.rules.specs.declared.Handler.{Handler}
use Rattle.rules.specs.declared.Input.{Input}
use Rattle.rules.specs.declared.Register.TheVariants.{Block}
use Rattle.rules.specs.declared.Setting.TheVariants.{Clr}
use Rattle.rules.specs.declared.Ticked.{Ticked}

-- ── the phases, from the class c as read in tick s ──

-- "Phase 0 starts in tick s. Phase p+1 starts as many ticks after the start of Phase p as the larger of PHASEp_CYC and 1; Terminal follows
-- Phase 3 by the same rule": how many ticks after s Phase p starts, and Terminal for p = 4
abbrev pub phase_start : Class → ℕ → ℕ
phase_start c zero = 0
phase_start c (suc p) = phase_start c p + max (phase_cyc c p) 1

-- "The ticks of a phase run from its start to the last tick before the next start"
pub record OfPhase (c : Class) (s p t : ℕ) : Type 0 where
  pub from : s + phase_start c p ≤ t
  pub to : t < s + phase_start c (suc p)

abbrev pub state_in : Handler → ℕ → ClassState
state_in h k = state_of (class_at h k).state

-- ── the start ──

-- "A class's escalation starts in the tick whose step 4 takes it from Idle or Timeout to Phase 0: by a trigger, or by being due with a Timeout
-- count at or above TIMEOUT_CYC": g and x are the tick's state and input, after is the state that it reaches
pub record StartIs (g : Handler) (x : Input) (k : ℕ) (after : Handler) : Type 0 where
  pub move :
      (starts (signals_in g x k) (class_read g x k) ≡ true)
      ↔ (((state_in g k ≡ Idle) ⊎ (state_in g k ≡ Timeout)) × (state_in after k ≡ Phase0))
  -- request (i): "a start now has an enabled line"
  pub line : starts (signals_in g x k) (class_read g x k) ≡ true → (e : ℕ) × (e < 4) × (line_enable (class_read g x k) e ≡ true)
  pub reason :
      starts (signals_in g x k) (class_read g x k) ≡ true
      → (trigger (signals_in g x k) (class_read g x k) ≡ true)
      ⊎ ((state_in g k ≡ Timeout) × (due (signals_in g x k) (class_read g x k) ≡ true) × ((class_read g x k).timeout ≤ (class_read g x k).count))

-- it starts, the class being locked with EN and LOCK: all "read after step 1 of tick s"
pub record Starts (g : Handler) (x : Input) (k : ℕ) : Type 0 where
  pub is_class : k < class_count
  pub is_start : starts (signals_in g x k) (class_read g x k) ≡ true
  pub is_locked : (class_read g x k).regwen ≡ 0
  pub has_en : en (class_read g x k) ≡ true
  pub has_lock : lock (class_read g x k) ≡ true

-- ── after the start: tick t, which gives o; c is class k as read in tick s ──

-- another class than k drives line e in the state h
abbrev pub DrivenByOther : Handler → ℕ → ℕ → Type 0
DrivenByOther h k e = (j : ℕ) × (j < class_count) × (j ≢ k) × (drives (class_at h j) e ≡ true)

pub record Line (c : Class) (s t : ℕ) (o : Ticked) (k e : ℕ) : Type 0 where
  -- the class drives the line exactly when it is enabled for it and the tick is of the line's mapped phase
  pub class : (drives (class_at o.handler k) e ≡ true) ↔ ((line_enable c e ≡ true) × OfPhase c s (line_map c e) t)
  -- a line enabled for it is on in the ticks of its mapped phase
  pub inside : line_enable c e ≡ true → OfPhase c s (line_map c e) t → bit o.output.lines e ≡ true
  -- and in the others, or where it is not enabled, exactly when another class drives it
  pub outside :
      ¬ ((line_enable c e ≡ true) × OfPhase c s (line_map c e) t)
      → (bit o.output.lines e ≡ true) ↔ DrivenByOther o.handler k e

pub record Escalated (c : Class) (s t : ℕ) (o : Ticked) (k : ℕ) : Type 0 where
  -- the class is in phase p exactly in the ticks of phase p, and in Terminal exactly from there on
  pub in_phase_law : (p : ℕ) → p < 4 → (state_in o.handler k ≡ phase p) ↔ OfPhase c s p t
  pub in_terminal : (state_in o.handler k ≡ Terminal) ↔ (s + phase_start c 4 ≤ t)
  -- ESC_CNT is 1 in a phase's first tick and one more in each tick after it, and 0 in Terminal
  pub count : (p : ℕ) → p < 4 → OfPhase c s p t → s + phase_start c p + (class_at o.handler k).count ≡ t + 1
  pub count_terminal : s + phase_start c 4 ≤ t → (class_at o.handler k).count ≡ 0
  pub line : (e : ℕ) → e < 4 → Line c s t o k e

-- ── locks ──

-- register number r is locked in the state g, what it holds there, and its stage's code, 0 for none
abbrev pub Locked : Handler → ℕ → Type 0
Locked g r = locked g (decode g.n r) ≡ true

abbrev pub value_of : Handler → ℕ → ℕ
value_of g r = value g (decode g.n r)

abbrev pub stage_of : Handler → ℕ → ℕ
stage_of g r = stage g (decode g.n r)

-- ── demand 3, of the list of ticks with inputs xs from the state h ──

pub record Demand3 (h : Handler) (xs : List Input) : Type 0 where
  -- what a start is, in each tick of the list and of each class
  pub start :
      (first k t : ℕ) → k < class_count → IsTick first xs t
      → StartIs (before first h xs t) (input_at first xs t) k (given_at first h xs t).handler
  -- once a locked class with EN and LOCK starts to escalate, its lines follow their mapped phases to the end of any list of ticks
  pub escalation :
      (first k s : ℕ) → IsTick first xs s → Starts (before first h xs s) (input_at first xs s) k
      → (t : ℕ) → s ≤ t → IsTick first xs t
      → Escalated (class_read (before first h xs s) (input_at first xs s) k) s t (given_at first h xs t) k
  -- "A register that is locked in the list's first state, or after one of its ticks, has the same value after every later tick of the list",
  -- and stays locked: i and j count the ticks that have run
  pub locks :
      (i j r : ℕ) → i ≤ j → j ≤ length xs → Locked (run h (take i xs)) r
      → Locked (run h (take j xs)) r × (value_of (run h (take j xs)) r ≡ value_of (run h (take i xs)) r)
  -- request (v), "no stage ever reaching a locked register": its stage is, after every later tick of the list, the one that it had, or none
  pub stages :
      (i j r : ℕ) → i ≤ j → j ≤ length xs → Locked (run h (take i xs)) r
      → (stage_of (run h (take j xs)) r ≡ stage_of (run h (take i xs)) r) ⊎ (stage_of (run h (take j xs)) r ≡ 0)
  -- "CLR holds no value; once it is locked, no later tick of the list has an accepted clear of its class"
  pub no_clear :
      (i j k : ℕ) → k < class_count → i ≤ j → j < length xs → Locked (run h (take i xs)) (number_of (Block Clr k))
      → clears (run h (take j xs)) (get_or xs j no_input).access k ≡ false
