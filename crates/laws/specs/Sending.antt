-- Request (xi), a line's sender in a tick: what it is given.
-- Assumes nothing.
use Rattle.std.specs.Prelude.{ℕ, ◌&&◌, eqb}
use Rattle.bits.specs.Bits.{bit}
use Rattle.link_rules.specs.Timer.{is_line, line_of, opens}
use Rattle.link_rules.specs.declared.Drive.{Drive}
use Rattle.rules.specs.Tick.{lines, after}
use Rattle.rules.specs.declared.Handler.{Handler}
use Rattle.rules.specs.declared.Input.{Input}
use Rattle.laws.specs.Pinging.{meets_in}

-- line e as step 5 of the tick has it, and whether its ping opens
abbrev pub drive_in : Handler → Input → ℕ → Drive
drive_in h x e =
    let t = h.links.turn in
    record { line = bit (lines (after h x)) e; ping = opens (meets_in h x) t && (is_line t && eqb e (line_of t)) }
