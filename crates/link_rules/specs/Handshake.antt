-- Request (viii) over any number of ticks: one receiver that stands anywhere, whatever it is given tick by tick.
-- Assumes nothing.
use Rattle.std.specs.Prelude.{ℕ, zero, suc, ◌+◌, ◌≤◌, ◌<◌, ◌≡◌, Bool, true, false, ◌||◌}
use Rattle.link_rules.specs.Pair.{rises, falls, equal}
use Rattle.link_rules.specs.Receiver.{received}
use Rattle.link_rules.specs.declared.Given.{Given}
use Rattle.link_rules.specs.declared.Received.{Received}
use Rattle.link_rules.specs.declared.Receiver.{Receiver}

-- before tick t the receiver that was r before tick 0, given xs 0, xs 1, ..
unfoldable pub receiver_at : Receiver → (ℕ → Given) → ℕ → Receiver
receiver_at r xs zero = r
receiver_at r xs (suc t) = (received (xs t) (receiver_at r xs t)).receiver

-- what it gives in tick t
abbrev pub received_at : Receiver → (ℕ → Given) → ℕ → Received
received_at r xs t = received (xs t) (receiver_at r xs t)

-- in tick t: a rise is taken; the wires are (1,0), (0,1), or equal; its ping is open, or is asked for now
abbrev pub taken_at : Receiver → (ℕ → Given) → ℕ → Bool
taken_at r xs t = (received_at r xs t).event || (received_at r xs t).answer

abbrev pub rises_at : (ℕ → Given) → ℕ → Bool
rises_at xs t = rises (xs t).pos (xs t).neg

abbrev pub falls_at : (ℕ → Given) → ℕ → Bool
falls_at xs t = falls (xs t).pos (xs t).neg

abbrev pub equal_at : (ℕ → Given) → ℕ → Bool
equal_at xs t = equal (xs t).pos (xs t).neg

abbrev pub pending_at : Receiver → (ℕ → Given) → ℕ → Bool
pending_at r xs t = (xs t).asks || (receiver_at r xs t).pending

-- from tick a on and before tick b no rise is taken; none is asked for
abbrev pub NoneTaken : Receiver → (ℕ → Given) → ℕ → ℕ → Type 0
NoneTaken r xs a b = (t : ℕ) → a ≤ t → t < b → taken_at r xs t ≡ false

abbrev pub NoneAsked : (ℕ → Given) → ℕ → ℕ → Type 0
NoneAsked xs a b = (t : ℕ) → a ≤ t → t < b → (xs t).asks ≡ false

pub record Handshakes (r : Receiver) (xs : ℕ → Given) : Type 0 where
  -- "alert raised, acknowledged in the next tick"
  pub acknowledged : (t : ℕ) → taken_at r xs t ≡ true → (received_at r xs (suc t)).acknowledge ≡ true
  -- a rise, its drop, and "two ticks of pause, in which a rise waits": rises are taken at least four ticks apart
  pub apart : (t u : ℕ) → taken_at r xs t ≡ true → taken_at r xs u ≡ true → t < u → t + 4 ≤ u
  -- a rise, (0,1) in tick t and (1,0) from the next tick until it is taken, is taken in that tick or one of the next two
  pub soon : (t : ℕ) → falls_at xs t ≡ true → ((u : ℕ) → t < u → u ≤ t + 3 → NoneTaken r xs (suc t) u → rises_at xs u ≡ true)
      → (taken_at r xs (suc t) || (taken_at r xs (suc (suc t)) || taken_at r xs (suc (suc (suc t))))) ≡ true
  -- "Equal wires .. hold the receiver where it is": they are no rise, no drop and no tick of the pause
  pub holds : (t : ℕ) → equal_at xs t ≡ true → (taken_at r xs t ≡ false) × ((receiver_at r xs (suc t)).stands ≡ (receiver_at r xs t).stands)
  -- "A rise taken while a ping is open answers .. it and is no event; any other is one event, in the tick it is taken"
  pub answer : (t : ℕ) → taken_at r xs t ≡ true → pending_at r xs t ≡ true → ((received_at r xs t).answer ≡ true) × ((received_at r xs t).event ≡ false)
  pub event : (t : ℕ) → taken_at r xs t ≡ true → pending_at r xs t ≡ false → ((received_at r xs t).event ≡ true) × ((received_at r xs t).answer ≡ false)
  -- a ping that is open in tick t is open up to and in the tick in which the next rise is taken, whatever else comes ..
  pub stays : (t u : ℕ) → pending_at r xs t ≡ true → t ≤ u → NoneTaken r xs t u → pending_at r xs u ≡ true
  -- .. "and closes it": after that rise none is open until one is asked for
  pub closed : (t u : ℕ) → taken_at r xs t ≡ true → t < u → NoneAsked xs (suc t) (suc u) → pending_at r xs u ≡ false
