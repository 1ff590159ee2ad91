-- Demand 3 is not vacuous: classes that start, in each way that document 01 names, and what the theorem says of those ticks.
-- Assumes nothing.
use Prim.Native.Nat.{ℕ, ◌≤◌, ◌<◌}
use mathlib.Core.Path.{◌≡◌, refl, sym, ap, ◌∙◌}
use mathlib.Core.Logic.{◌⊎◌, inl, inr, ⊎_elim}
use mathlib.Core.Bool.{true, false, false≢true}
use mathlib.Core.List.{List, [], ◌∷◌}
use native.Mathlib.Omega.{arith}
use lib.ListN.{replicate}
use Rattle.class_rules.specs.Class.{line_enable, state_number}
use Rattle.class_rules.specs.Step.{trigger, due, starts}
use Rattle.class_rules.specs.declared.Class.{Class}
use Rattle.class_rules.specs.declared.Signals.{Signals}
use Rattle.class_rules.specs.declared.ClassState.TheVariants.{Idle, Timeout, Phase0}
use Rattle.rules.specs.Scenes.{rest, raise, none, write}
use Rattle.rules.proofs.Scenes.{rules, settings, station}
use Rattle.rules.specs.Access.{clears}
use Rattle.rules.specs.Run.{run, ticks}
use Rattle.rules.specs.State.{class_count, class_at}
use Rattle.rules.specs.Tick.{ticked, signals_in}
use Rattle.rules.specs.Valid.{valid}
use Rattle.rules.specs.declared.Handler.{Handler}
use Rattle.rules.specs.declared.Input.{Input}
use Rattle.rules.specs.declared.Register.TheVariants.{Block}
use Rattle.rules.specs.declared.Setting.{Setting}
use Rattle.rules.specs.declared.Setting.TheVariants.{Clr}
use Rattle.escalation.specs.Escalation.{state_in, StartIs, Starts}
use Rattle.escalation.specs.List.{IsTick, before, input_at, given_at, class_read}
use Rattle.escalation.proofs.Demand3.{demand3}

-- ── scenes: two alerts, of which the last is enabled, in class k ──

-- a class with REGWEN 0
abbrev pub shut : Class → Class
shut c =
    record {
      lengths = c.lengths;
      timeout = c.timeout;
      count = c.count;
      ctrl = c.ctrl;
      accum = c.accum;
      thresh = c.thresh;
      regwen = 0;
      clrwen = c.clrwen;
      state = c.state;
    }

-- a locked class with EN, LOCK and all lines, line e in phase e
abbrev pub locked : ℕ → ℕ → List ℕ → Class
locked thresh timeout lengths = shut (settings 0x393F thresh timeout lengths)

abbrev pub post : ℕ → Class → Handler
post k c = station 2 (0 ∷ 1 ∷ replicate 246 0) (0 ∷ k ∷ replicate 246 0) k c

abbrev pub nines : List ℕ
nines = replicate 4 9

-- by a trigger
abbrev idle : Handler
idle = post 2 (locked 0 0 nines)

by_trigger : Starts idle (raise 1 none) 2
unfolding rules
by_trigger = record { is_class = omega arith; is_start = refl; is_locked = refl; has_en = refl; has_lock = refl }

-- by the timeout: due since the event of the tick before, with a Timeout count at TIMEOUT_CYC, and no trigger
abbrev pub waiting : Handler
waiting = run (post 3 (locked 9 1 nines)) (raise 1 none ∷ [])

pub by_timeout : Starts waiting (rest none) 3 × (state_in waiting 3 ≡ Timeout) × (trigger (signals_in waiting (rest none) 3) (class_read waiting (rest none) 3) ≡ false)
unfolding rules
by_timeout = (record { is_class = omega arith; is_start = refl; is_locked = refl; has_en = refl; has_lock = refl }, refl, refl)

-- by the timeout, with an accepted clear in the tick of the start: Phase 0 all the same, with ACCUM_CNT 0, and CLR_REGWEN 0 after it
abbrev pub clearing : Input
clearing = rest (write (Block Clr 3) 1)

pub with_clear : Starts waiting clearing 3 × (clears waiting clearing.access 3 ≡ true)
unfolding rules
with_clear = (record { is_class = omega arith; is_start = refl; is_locked = refl; has_en = refl; has_lock = refl }, refl)

cleared : (state_in (ticked waiting clearing).handler 3 ≡ Phase0)
    × ((class_at waiting 3).accum ≡ 1)
    × ((class_at (ticked waiting clearing).handler 3).accum ≡ 0)
    × ((class_at waiting 3).clrwen ≡ 1)
    × ((class_at (ticked waiting clearing).handler 3).clrwen ≡ 0)
unfolding rules
cleared = (refl, refl, refl, refl, refl)

-- REGWEN written 0 in the tick of the start: "read after step 1"
abbrev pub unlocked : Handler
unlocked = post 3 (settings 0x393F 0 0 nines)

abbrev pub locking : Input
locking = raise 1 (write (Block Setting.Regwen 3) 0)

pub just_locked : Starts unlocked locking 3 × ((class_at unlocked 3).regwen ≡ 1)
unfolding rules
just_locked = (record { is_class = omega arith; is_start = refl; is_locked = refl; has_en = refl; has_lock = refl }, refl)

-- ── what the claim says of a start in any tick t of any list, the ticks numbered from any first number ──

module _ (first k t : ℕ) (h : Handler) (xs : List Input) (v : valid h ≡ true) (small : k < class_count) (tick : IsTick first xs t) where
  -- the state before the tick, class k as it reads it and what the class meets
  abbrev g : Handler
  g = before first h xs t

  abbrev read : Class
  read = class_read g (input_at first xs t) k

  abbrev meets : Signals
  meets = signals_in g (input_at first xs t) k

  is : StartIs g (input_at first xs t) k (given_at first h xs t).handler
  is = (demand3 h xs v).start first k t small tick

  -- it takes the class from Idle or Timeout to Phase 0
  from_where : starts meets read ≡ true → (state_in g k ≡ Idle) ⊎ (state_in g k ≡ Timeout)
  from_where e = (is.move.0 e).0

  to_where : starts meets read ≡ true → state_in (given_at first h xs t).handler k ≡ Phase0
  to_where e = (is.move.0 e).1

  -- and a tick that does so is a start, from either
  idle_to_phase : state_in g k ≡ Idle → state_in (given_at first h xs t).handler k ≡ Phase0 → starts meets read ≡ true
  idle_to_phase m e = is.move.1 (inl m, e)

  timeout_to_phase : state_in g k ≡ Timeout → state_in (given_at first h xs t).handler k ≡ Phase0 → starts meets read ≡ true
  timeout_to_phase m e = is.move.1 (inr m, e)

  -- from Idle it is by a trigger
  by_a_trigger : starts meets read ≡ true → state_in g k ≡ Idle → trigger meets read ≡ true
  by_a_trigger e m = ⊎_elim (λ t. t) (λ r. absurd (other (sym m ∙ r.0))) (is.reason e)
    where
      other : Idle ≡ Timeout → ⊥
      other d = let z : ◌≡◌ {A = ℕ} 0 1 = ap state_number d in omega arith

  -- without one, from Timeout, by being due with a count at or above TIMEOUT_CYC
  by_being_due : starts meets read ≡ true → trigger meets read ≡ false
      → (state_in g k ≡ Timeout) × (due meets read ≡ true) × (read.timeout ≤ read.count)
  by_being_due e n = ⊎_elim (λ t. absurd (false≢true (sym n ∙ t))) (λ r. r) (is.reason e)

  -- and it has an enabled line
  has_a_line : starts meets read ≡ true → (e : ℕ) × (e < 4) × (line_enable read e ≡ true)
  has_a_line e = is.line e

-- ── and of the ticks above ──

start_is : (h : Handler) (x : Input) (k : ℕ) → valid h ≡ true → k < class_count → StartIs h x k (ticked h x).handler
unfolding run ticks
start_is h x k v l = is 0 k 0 h (x ∷ []) v l (record { from = omega arith; to = omega arith })

-- a class that starts is in Phase 0 after the tick
reaches : (h : Handler) (x : Input) (k : ℕ) → valid h ≡ true → Starts h x k → state_in (ticked h x).handler k ≡ Phase0
reaches h x k v s = ((start_is h x k v s.is_class).move.0 s.is_start).1

all_reach : (state_in (ticked idle (raise 1 none)).handler 2 ≡ Phase0)
    × (state_in (ticked waiting (rest none)).handler 3 ≡ Phase0)
    × (state_in (ticked waiting clearing).handler 3 ≡ Phase0)
    × (state_in (ticked unlocked locking).handler 3 ≡ Phase0)
unfolding rules
all_reach = (
  reaches idle (raise 1 none) 2 refl by_trigger,
  reaches waiting (rest none) 3 refl by_timeout.0,
  reaches waiting clearing 3 refl with_clear.0,
  reaches unlocked locking 3 refl just_locked.0,
)

-- and a tick that takes it from Timeout to Phase 0, which computing shows, is a start
is_start : starts (signals_in waiting clearing 3) (class_read waiting clearing 3) ≡ true
unfolding rules
is_start = (start_is waiting clearing 3 refl (omega arith)).move.1 (inr refl, cleared.0)

-- one without a trigger is by the timeout
timed_out : (class_read waiting (rest none) 3).timeout ≤ (class_read waiting (rest none) 3).count
unfolding rules
timed_out =
    ⊎_elim (λ t. absurd (false≢true (sym by_timeout.2 ∙ t))) (λ r. r.2)
    ((start_is waiting (rest none) 3 refl (omega arith)).reason by_timeout.0.is_start)

-- each has an enabled line
with_line : (e : ℕ) × (e < 4) × (line_enable (class_read waiting (rest none) 3) e ≡ true)
unfolding rules
with_line = (start_is waiting (rest none) 3 refl (omega arith)).line by_timeout.0.is_start

-- which may be line 3 alone
abbrev last_line : Handler
last_line = post 2 (shut (settings 0x3923 0 0 nines))

pub by_last_line : Starts last_line (raise 1 none) 2 × (line_enable (class_read last_line (raise 1 none) 2) 0 ≡ false)
unfolding rules
by_last_line = (record { is_class = omega arith; is_start = refl; is_locked = refl; has_en = refl; has_lock = refl }, refl)

-- and the same class without line enables does not start
abbrev lineless : Handler
lineless = post 2 (shut (settings 0x3903 0 0 nines))

no_start : starts (signals_in lineless (raise 1 none) 2) (class_read lineless (raise 1 none) 2) ≡ false
unfolding rules
no_start = refl
