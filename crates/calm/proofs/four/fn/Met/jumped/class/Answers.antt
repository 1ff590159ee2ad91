-- A class after the ticks, as `jumped` has it.
-- Assumes nothing.
use native.Mathlib.Omega.{arith}
use Rattle.calm_laws.specs.Four.{met}
use Rattle.calm_laws.proofs.Classes.{four_below}
use Rattle.calm.proofs.four.fn.Met.jumped.class.Goals as goal

pub jumped-requires : goal.jumped-requires
jumped-requires c =
    rw c.signals.ensures
    (c.requires.1.all c.args.k c.requires.0, omega (arith, c.requires.2, four_below (met c.captures.self.events c.captures.self.interrupts) c.captures.classes.now c.args.k c.requires.0))
