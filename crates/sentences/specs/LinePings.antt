-- Request (xi), "Escalation wires": what becomes of the ping of the turn's line, in sentences: raw fields and plain comparisons, and no definition of
-- the rules. The state is g after step 1, r is what comes back from the lines, f is what step 1 hands on, and lit are the lines of step 5.
-- Assumes nothing.
use Rattle.std.specs.Prelude.{ℕ, ◌+◌, ◌≡◌, ◌⊎◌, true}
use Rattle.bits.specs.Bits.{bit}
use Rattle.rules.specs.declared.Effects.{Effects}
use Rattle.rules.specs.declared.Handler.{Handler}
use Rattle.rules.specs.declared.Receive.{Receive}
use Rattle.sentences.specs.Raw.{pair_last}
use Rattle.sentences.specs.Senders.{LineOn, Checked, Wrong}
use Rattle.sentences.specs.Turns.{LinesTurn, turn_line, Runs, TurnOpen, Opens, OpenNow}

-- every answer to the open ping was right up to the tick before this one: the lowest bit of `right`
abbrev pub RightBefore : Handler → Type 0
RightBefore g = bit g.links.right 0 ≡ true

-- .. and this tick's is. In the tick in which it opens none is due yet; a reading: an answer that nobody checked is no right one
abbrev pub RightNow : Handler → Effects → Receive → Type 0
RightNow g f r = Checked r × (LinesTurn g × (Opens g f ⊎ ((Runs g f × TurnOpen g) × (RightBefore g × ¬ Wrong g r (turn_line g)))))

-- "answered from the next tick with the 1010 pattern": in the fourth tick after the ping, all four being right; `count` is the ticks from its opening to the
-- tick before this one. In an older record "the sample says which escalation pings are answered", line 0 in the lowest bit
abbrev pub LineAnswered : Handler → Effects → Receive → Type 0
LineAnswered g f (Receive.Pairs p m) =
    (Runs g f × TurnOpen g) × ((g.links.turn.count + 1 ≡ 4) × (RightBefore g × ¬ Wrong g (Receive.Pairs p m) (turn_line g)))
LineAnswered g f (Receive.Answers a) = OpenNow g f × (bit a (turn_line g) ≡ true)

-- "A real escalation wins over a ping and closes it unfailed; a ping due right after one on the wire closes unsent", the pair on in the tick before; in older
-- records neither does
abbrev pub Escalated : Handler → Effects → Receive → ℕ → Type 0
Escalated g f r lit = Checked r × (LinesTurn g × (OpenNow g f × (LineOn lit (turn_line g) ⊎ (Opens g f × (pair_last g (turn_line g) ≡ true)))))
