-- "Numbers that come back": what the opposite of refusal 7 says of each register.
-- Assumes nothing.
use Rattle.std.specs.Prelude.{ℕ, ◌^◌, ◌≤◌, ◌<◌, ◌≡◌, Bool, true}
use Rattle.bits.specs.Bits.{bit}
use Rattle.class_rules.specs.Class.{phase_cyc, state_of, state_fits, count_fits}
use Rattle.class_rules.specs.declared.Class.{Class}
use Rattle.link_rules.specs.Pings.{Owned}
use Rattle.rules.specs.Map.{field_bits, bits}
use Rattle.rules.specs.Stages.{stage}
use Rattle.rules.specs.State.{most, local_count, class_count, local, alert, class_at, receiver_in, is_on}
use Rattle.rules.specs.declared.Field.{Field}
use Rattle.rules.specs.declared.Handler.{Handler}
use Rattle.rules.specs.declared.Links.{Links}
use Rattle.rules.specs.declared.Register.{Register}
use Rattle.rules.specs.declared.Timer.{Timer}
use Rattle.laws.specs.InMap.{in_map}

-- a class's registers hold no more than their fields' bits, STATE is a state's number, and the count suits the state
pub record ClassValid (c : Class) : Type 0 where
  pub regwen : c.regwen < 2
  pub ctrl : c.ctrl < 2 ^ 14
  pub clrwen : c.clrwen < 2
  pub accum : c.accum < 2 ^ 16
  pub thresh : c.thresh < 2 ^ 16
  pub timeout : c.timeout < 2 ^ 32
  pub lengths : (p : ℕ) → p < 4 → phase_cyc c p < 2 ^ 32
  pub count : c.count < 2 ^ 32
  pub state : state_fits c.state ≡ true
  pub suits : count_fits (state_of c.state) c.count ≡ true

-- the ping timer's registers hold no more than their fields' bits
pub record TimerValid (t : Timer) : Type 0 where
  pub regwen : t.regwen < 2
  pub timeout : t.timeout < 2 ^ 16
  pub enable : t.enable < 2

-- the open pings of a handler of n alerts with these links are the turn's; none is open while the timer is off
abbrev pub PingsOwned : ℕ → Bool → Links → Type 0
PingsOwned n on l = Owned n on l.turn (λ i. (receiver_in l.receivers i).pending) (bit l.lines)

-- N is at most the most, every register of the handler holds what its field can, and so does every stage, and no other ping than the turn's is open
pub record Valid (h : Handler) : Type 0 where
  pub n : h.n ≤ most
  pub state : h.interrupts.state < 16
  pub enable : h.interrupts.enable < 16
  pub locals : (f : Field) (j : ℕ) → j < local_count → local h f j < 2 ^ field_bits f
  pub alerts : (f : Field) (i : ℕ) → i < h.n → alert h f i < 2 ^ field_bits f
  pub classes : (k : ℕ) → k < class_count → ClassValid (class_at h k)
  pub timer : TimerValid h.timer
  pub pings : PingsOwned h.n (is_on h) h.links
  -- a stage's code is that of none or of a value that its field can hold
  pub stages : (q : Register) → in_map h.n q ≡ true → stage h q ≤ 2 ^ bits q
