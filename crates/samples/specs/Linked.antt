-- Request (xi), the links after a tick, of the parts that they hang on: the links k before it, what step 2 leaves for them, and the lines of step 5.
-- Assumes nothing.
use Rattle.std.specs.Prelude.{ℕ, Bool, cond, ◌&&◌, eqb, ltb}
use Rattle.bits.specs.Bits.{bit, bits_of, num}
use Rattle.link_rules.specs.LinePing.{closed_by_line, closing}
use Rattle.link_rules.specs.Pings.{line_after}
use Rattle.link_rules.specs.Senders.{line_count, sender_in, sent_all}
use Rattle.link_rules.specs.Timer.{is_line, line_of, opens, turned}
use Rattle.link_rules.specs.declared.Drive.{Drive}
use Rattle.link_rules.specs.declared.Meets.{Meets}
use Rattle.rules.specs.declared.Links.{Links}
use Rattle.samples.specs.declared.pace.Met.{Met}

-- the lines whose ping is open after the tick, where the turn's line e, if it is a line's turn, has its ping open or not
abbrev pub lines_by : Bool → ℕ → Bool → ℕ → ℕ
lines_by line e pend lines = bits_of 32 (λ l. cond (ltb l line_count) (cond (line && eqb l e) pend (bit lines l)) (bit lines l))

module _ (k : Links) (v : Met) (lit : ℕ) where
  abbrev pub driven_by : ℕ → Drive
  driven_by e = record { line = bit lit e; ping = opens v.meets k.turn && (is_line k.turn && eqb e (line_of k.turn)) }

  abbrev pub closed_line : Bool
  closed_line = closed_by_line v.checked v.meets k.turn (sender_in k.senders (line_of k.turn)) (driven_by (line_of k.turn))

  abbrev pub whole_by : Meets
  whole_by = closing closed_line v.meets

  abbrev pub linked_by : Links
  linked_by =
      record {
        receivers = v.receivers;
        turn = turned whole_by k.turn;
        lines = bits_of 32 (λ l. cond (ltb l line_count) (line_after whole_by k.turn (bit k.lines l) l) (bit k.lines l));
        senders = sent_all k.senders driven_by;
        right = num v.right;
      }
