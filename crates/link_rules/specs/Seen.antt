-- Request (xi), the second statement, over lists of ticks of any length.
-- Assumes nothing.
use Rattle.std.specs.Prelude.{ℕ, zero, suc, ◌<◌, ◌≡◌, ◌↔◌, ◌⊎◌, Bool, true, false, not, ◌&&◌, ◌||◌, List, get_or, length, take}
use Rattle.link_rules.specs.EscalationReceiver.{new_escalation_receiver, escalates, listeneds, responds_positive, responds_negative}
use Rattle.link_rules.specs.Sender.{new_sender, pulses, sents, pairs, wrong}
use Rattle.link_rules.specs.declared.Drive.{Drive}

-- the pair is on in tick i; past the end of the list it is off
abbrev pub on : List Bool → ℕ → Bool
on ps i = get_or ps i false

-- .. in the tick before; before the first tick it was off
abbrev pub on_before : List Bool → ℕ → Bool
on_before ps zero = false
on_before ps (suc i) = on ps i

-- a new receiver on sound wires sees an escalation in tick i
abbrev pub seen : List Bool → ℕ → Bool
seen ps i = escalates (listeneds new_escalation_receiver (take i ps)) (on ps i) (not (on ps i))

-- "a new receiver on sound wires sees an escalation exactly where its pair is on in this tick and the one before, also while answering a ping":
-- whatever was sent
pub record SeesExactly (ps : List Bool) : Type 0 where
  pub exactly : (i : ℕ) → (seen ps i ≡ true) ↔ ((on ps i ≡ true) × (on_before ps i ≡ true))

-- the line, and a ping's opening, in tick i of what a sender is given
abbrev pub no_drive : Drive
no_drive = record { line = false; ping = false }

abbrev pub line_at : List Drive → ℕ → Bool
line_at ds i = (get_or ds i no_drive).line

abbrev pub line_before : List Drive → ℕ → Bool
line_before ds zero = false
line_before ds (suc i) = line_at ds i

-- the tick before was a lone one, or the first of more: the line was on in it and off before it
abbrev pub first_before : List Drive → ℕ → Bool
first_before ds zero = false
first_before ds (suc zero) = line_at ds zero
first_before ds (suc (suc i)) = line_at ds (suc i) && not (line_at ds i)

-- a ping's pulse is on the wire in tick i
abbrev pub pulse_at : List Drive → ℕ → Bool
pulse_at ds i = pulses (sents new_sender (take i ds)) (get_or ds i no_drive)

-- what a new sender sends, whatever its line and its pings are
pub record Sends (ds : List Drive) : Type 0 where
  -- "A line on holds the pair, a lone tick lengthened to two"; the rest are pulses
  pub pair_is : (i : ℕ) → i < length ds → on (pairs new_sender ds) i ≡ (line_at ds i || first_before ds i) || pulse_at ds i
  -- "a ping is a one-tick pulse": the pair is off before it, and after it on only if the line is
  pub off_before : (i : ℕ) → pulse_at ds i ≡ true → on_before (pairs new_sender ds) i ≡ false
  pub off_after : (i : ℕ) → pulse_at ds i ≡ true → on (pairs new_sender ds) (suc i) ≡ line_at ds (suc i)

-- what a new receiver sees of a new sender, whatever its line and its pings are
pub record Seen (ds : List Drive) : Type 0 where
  -- the statement, of what this sender sends
  pub exactly : SeesExactly (pairs new_sender ds)
  -- "so never in a lone ping": not in its tick, and in the next tick only if the line is on there
  pub never_in_ping : (i : ℕ) → pulse_at ds i ≡ true → seen (pairs new_sender ds) i ≡ false
  pub never_after_ping : (i : ℕ) → pulse_at ds i ≡ true → seen (pairs new_sender ds) (suc i) ≡ line_at ds (suc i)
  -- no escalation is invented: one that is seen has the line on, or a lone tick of it just before
  pub only_lines : (i : ℕ) → seen (pairs new_sender ds) i ≡ true → (line_at ds i ≡ true) ⊎ (line_before ds i ≡ true)
  -- none is lost: a tick of the line is seen in that tick or the next, if there is one
  pub every_line :
      (i : ℕ) → suc i < length ds → line_at ds i ≡ true → (seen (pairs new_sender ds) i ≡ true) ⊎ (seen (pairs new_sender ds) (suc i) ≡ true)
  -- the sender never finds fault with a sound receiver: "Equal wires, or a wrong or missing answer" come from elsewhere
  pub never_wrong :
      (i : ℕ) → let r = listeneds new_escalation_receiver (take i (pairs new_sender ds)) in
      wrong (sents new_sender (take i ds)) (responds_positive r) (responds_negative r) ≡ false
