-- Request (xi), "Escalation wires": what the four senders send and what comes back, in sentences: raw bits, and no definition of the rules.
-- The state is g after step 1 and h after the tick, f is what step 1 hands on, and lit are the lines of step 5, line 0 the lowest bit.
-- Assumes nothing.
use Rattle.std.specs.Prelude.{ℕ, ◌≤◌, ◌<◌, ◌≡◌, ◌↔◌, ◌⊎◌, ◌≢◌, true, false}
use Rattle.bits.specs.Bits.{bit}
use Rattle.rules.specs.declared.Effects.{Effects}
use Rattle.rules.specs.declared.Handler.{Handler}
use Rattle.rules.specs.declared.Receive.{Receive}
use Rattle.sentences.specs.Raw.{line_on, line_first, pair_last, pair_deep, right_answer}
use Rattle.sentences.specs.Turns.{LinesTurn, turn_line, Opens}

-- ── what line e sends in the tick ──

abbrev pub LineOn : ℕ → ℕ → Type 0
LineOn lit e = bit lit e ≡ true

-- the ping of line e opens
abbrev pub PingOpens : Handler → Effects → ℕ → Type 0
PingOpens g f e = Opens g f × (LinesTurn g × (e ≡ turn_line g))

-- "a ping is a one-tick pulse", in the tick in which it opens; "A real escalation wins over a ping"; "a ping due right after one on the wire closes unsent"
abbrev pub Pulse : Handler → Effects → ℕ → ℕ → Type 0
Pulse g f lit e = PingOpens g f e × ((¬ LineOn lit e) × (pair_last g e ≡ false))

-- the pair is (1,0): "A line on holds the pair, a lone tick lengthened to two": the line was on in the tick before and off before that, whether it is
-- on now or not. Else the pair is (0,1)
abbrev pub PairOn : Handler → Effects → ℕ → ℕ → Type 0
PairOn g f lit e = (LineOn lit e ⊎ (line_first g e ≡ true)) ⊎ Pulse g f lit e

-- ── where a sound receiver of line e's pair stands, by its pair in the last tick and the bit `deep` ──

abbrev pub Quiet : Handler → ℕ → Type 0
Quiet g e = (pair_last g e ≡ false) × (pair_deep g e ≡ false)

-- its pair was on for one tick: a ping, or the first tick of an escalation
abbrev pub Checking : Handler → ℕ → Type 0
Checking g e = (pair_last g e ≡ true) × (pair_deep g e ≡ false)

-- it was on for one tick and then off: a ping, of which two answers are to come
abbrev pub Answering : Handler → ℕ → Type 0
Answering g e = (pair_last g e ≡ false) × (pair_deep g e ≡ true)

-- it was on for two ticks or more
abbrev pub Escalating : Handler → ℕ → Type 0
Escalating g e = (pair_last g e ≡ true) × (pair_deep g e ≡ true)

-- an answer goes on after this tick: 004's "continuously toggling .. as long as the escalation signal is asserted", and four ticks of it after a ping, "1010"
abbrev pub ToAnswer : Handler → Effects → ℕ → ℕ → Type 0
ToAnswer g f lit e = PairOn g f lit e ⊎ (Checking g e ⊎ Answering g e)

-- ── the senders after the tick ──

pub record Sent (g : Handler) (f : Effects) (lit : ℕ) (h : Handler) : Type 0 where
  -- a reading: lone is said of the line, not of the pair
  pub on : (e : ℕ) → e < 4 → (line_on h e ≡ true) ↔ LineOn lit e
  pub first : (e : ℕ) → e < 4 → (line_first h e ≡ true) ↔ (LineOn lit e × (line_on g e ≡ false))
  -- the pair that is sent
  pub pair : (e : ℕ) → e < 4 → (pair_last h e ≡ true) ↔ PairOn g f lit e
  -- the sound receiver: nothing comes, or one tick
  pub at_rest : (e : ℕ) → e < 4 → Quiet g e → ¬ PairOn g f lit e → Quiet h e
  pub one_tick : (e : ℕ) → e < 4 → Quiet g e → PairOn g f lit e → Checking h e
  -- a ping's pulse: "answered from the next tick with the 1010 pattern", and then it is over
  pub ping : (e : ℕ) → e < 4 → Checking g e → ¬ PairOn g f lit e → Answering h e
  pub ping_over : (e : ℕ) → e < 4 → Answering g e → ¬ PairOn g f lit e → Quiet h e
  -- a tick on while a ping is being answered is the first of an escalation
  pub in_ping : (e : ℕ) → e < 4 → Answering g e → PairOn g f lit e → Checking h e
  -- two ticks on are an escalation, until the first off
  pub two_ticks : (e : ℕ) → e < 4 → Checking g e → PairOn g f lit e → Escalating h e
  pub longer : (e : ℕ) → e < 4 → Escalating g e → PairOn g f lit e → Escalating h e
  pub off : (e : ℕ) → e < 4 → Escalating g e → ¬ PairOn g f lit e → Quiet h e
  -- the right answer of the next tick is the other one while there is something to answer, "1010", first 1; a reading: it does not start anew where the
  -- line comes on, nor depend on what came back. At rest it is 0
  pub toggles : (e : ℕ) → e < 4 → ToAnswer g f lit e → right_answer h e ≢ right_answer g e
  pub silent : (e : ℕ) → e < 4 → ¬ ToAnswer g f lit e → right_answer h e ≡ false
  -- four lines: the bits from 4 up are 0
  pub on_bits : h.links.senders.on ≤ 15
  pub first_bits : h.links.senders.first ≤ 15
  pub last_bits : h.links.senders.last ≤ 15
  pub deep_bits : h.links.senders.deep ≤ 15
  pub answer_bits : h.links.senders.answer ≤ 15

-- ── what comes back ──

-- "four receive pairs"; "older editions run as in (ix), senders unchecked"
abbrev pub Checked : Receive → Type 0
Checked (Receive.Pairs p m) = Unit
Checked (Receive.Answers a) = ⊥

-- "Equal wires, or a wrong or missing answer" of line e, its positive wire in p and its negative one in m
abbrev pub Wrong : Handler → Receive → ℕ → Type 0
Wrong g (Receive.Pairs p m) e = (bit p e ≡ bit m e) ⊎ (bit p e ≢ right_answer g e)
Wrong g (Receive.Answers a) e = ⊥
