-- What the receivers at the lines' ends give in a tick, as a caller in C asks for it, in sentences: raw bits, and no definition of the rules.
-- r are the four receivers before the tick, p and m the positive and negative wires of the lines' pairs, line 0 the lowest bit, and x is what comes back.
-- Assumes nothing.
use Rattle.std.specs.Prelude.{ℕ, ◌≤◌, ◌<◌, ◌≡◌, ◌↔◌, ◌⊎◌, true, false, not}
use Rattle.bits.specs.Bits.{bit}
use Rattle.link_rules.specs.declared.LineReceivers.{LineReceivers}
use Rattle.link_rules.specs.declared.Listened.{Listened}

-- ── line e's receiver ──

-- its wires were equal in the last tick, or they differed
abbrev pub Broken : LineReceivers → ℕ → Type 0
Broken r e = bit r.broken e ≡ true

abbrev pub Intact : LineReceivers → ℕ → Type 0
Intact r e = bit r.broken e ≡ false

-- where it stands: nothing came, its pair was on for one tick, it was on for one tick and then off, it was on for two ticks or more
abbrev pub Quiet : LineReceivers → ℕ → Type 0
Quiet r e = (bit r.last e ≡ false) × (bit r.deep e ≡ false)

abbrev pub Checking : LineReceivers → ℕ → Type 0
Checking r e = (bit r.last e ≡ true) × (bit r.deep e ≡ false)

abbrev pub Answering : LineReceivers → ℕ → Type 0
Answering r e = (bit r.last e ≡ false) × (bit r.deep e ≡ true)

abbrev pub Escalating : LineReceivers → ℕ → Type 0
Escalating r e = (bit r.last e ≡ true) × (bit r.deep e ≡ true)

-- ── its pair in the tick ──

abbrev pub Equal : ℕ → ℕ → ℕ → Type 0
Equal p m e = bit p e ≡ bit m e

abbrev pub On : ℕ → ℕ → ℕ → Type 0
On p m e = (bit p e ≡ true) × (bit m e ≡ false)

abbrev pub Off : ℕ → ℕ → ℕ → Type 0
Off p m e = (bit p e ≡ false) × (bit m e ≡ true)

-- ── what it sends in the tick, by what it was before: its answer, and on a broken pair 004's "same value" on both wires ──

pub record SendsBack (r : LineReceivers) (x : Listened) : Type 0 where
  pub positive : (e : ℕ) → e < 4 → bit x.positive e ≡ bit r.answer e
  pub negative : (e : ℕ) → e < 4 → Intact r e → bit x.negative e ≡ not (bit r.answer e)
  pub same_value : (e : ℕ) → e < 4 → Broken r e → bit x.negative e ≡ bit r.answer e

-- ── where it stands after the tick ──

pub record Moves (r : LineReceivers) (p m : ℕ) (n : LineReceivers) : Type 0 where
  pub broken : (e : ℕ) → e < 4 → (bit n.broken e ≡ true) ↔ Equal p m e
  -- equal wires: what was on the pair before is forgotten
  pub forgets : (e : ℕ) → e < 4 → Equal p m e → Quiet n e
  -- after them it starts anew, as a quiet one
  pub anew_off : (e : ℕ) → e < 4 → Broken r e → Off p m e → Quiet n e
  pub anew_on : (e : ℕ) → e < 4 → Broken r e → On p m e → Checking n e
  -- nothing comes, or one tick
  pub at_rest : (e : ℕ) → e < 4 → Intact r e → Quiet r e → Off p m e → Quiet n e
  pub one_tick : (e : ℕ) → e < 4 → Intact r e → Quiet r e → On p m e → Checking n e
  -- a ping's pulse, and then it is over
  pub ping : (e : ℕ) → e < 4 → Intact r e → Checking r e → Off p m e → Answering n e
  pub ping_over : (e : ℕ) → e < 4 → Intact r e → Answering r e → Off p m e → Quiet n e
  -- a tick on while a ping is being answered is the first of an escalation
  pub in_ping : (e : ℕ) → e < 4 → Intact r e → Answering r e → On p m e → Checking n e
  -- two ticks on are an escalation, until the first off
  pub two_ticks : (e : ℕ) → e < 4 → Intact r e → Checking r e → On p m e → Escalating n e
  pub longer : (e : ℕ) → e < 4 → Intact r e → Escalating r e → On p m e → Escalating n e
  pub off : (e : ℕ) → e < 4 → Intact r e → Escalating r e → Off p m e → Quiet n e

-- ── what it answers in the next tick ──

pub record WillAnswer (r : LineReceivers) (p m : ℕ) (n : LineReceivers) : Type 0 where
  -- 004: on equal wires "that value is being toggled each cycle", first 0
  pub equal_first : (e : ℕ) → e < 4 → Intact r e → Equal p m e → bit n.answer e ≡ false
  pub equal_toggles : (e : ℕ) → e < 4 → Broken r e → Equal p m e → bit n.answer e ≡ not (bit r.answer e)
  -- after them it starts anew from 0
  pub anew_off : (e : ℕ) → e < 4 → Broken r e → Off p m e → bit n.answer e ≡ false
  pub anew_on : (e : ℕ) → e < 4 → Broken r e → On p m e → bit n.answer e ≡ true
  -- "continuously toggling .. as long as the escalation signal is asserted"
  pub toggles : (e : ℕ) → e < 4 → Intact r e → On p m e → bit n.answer e ≡ not (bit r.answer e)
  -- a ping is "answered from the next tick with the 1010 pattern": it goes on after the pulse
  pub answers : (e : ℕ) → e < 4 → Intact r e → Checking r e ⊎ Answering r e → Off p m e → bit n.answer e ≡ not (bit r.answer e)
  pub silent : (e : ℕ) → e < 4 → Intact r e → Quiet r e ⊎ Escalating r e → Off p m e → bit n.answer e ≡ false

-- ── all that comes back ──

pub record Listens (r : LineReceivers) (p m : ℕ) (x : Listened) : Type 0 where
  pub sends : SendsBack r x
  pub moves : Moves r p m x.receivers
  pub will_answer : WillAnswer r p m x.receivers
  -- an escalation is seen "exactly where its pair is on in this tick and the one before"; 004: equal wires "will lead to assertion of the esc_req_o output"
  pub seen : (e : ℕ) → e < 4 → (bit x.seen e ≡ true) ↔ (Equal p m e ⊎ (Intact r e × ((bit r.last e ≡ true) × (bit p e ≡ true))))
  -- four lines: the bits from 4 up are 0
  pub positive_bits : x.positive ≤ 15
  pub negative_bits : x.negative ≤ 15
  pub seen_bits : x.seen ≤ 15
  pub last_bits : x.receivers.last ≤ 15
  pub deep_bits : x.receivers.deep ≤ 15
  pub answer_bits : x.receivers.answer ≤ 15
  pub broken_bits : x.receivers.broken ≤ 15

-- of any receivers and any wires
abbrev pub Receiving : (LineReceivers → ℕ → ℕ → Listened) → Type 0
Receiving by = (r : LineReceivers) (p m : ℕ) → Listens r p m (by r p m)
