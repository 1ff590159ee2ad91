-- What the local alerts do.
-- Assumes nothing.
use Rattle.std.specs.Prelude.{ℕ, Bool, ◌&&◌, ◌||◌, List, eqb}
use Rattle.bits.specs.Bits.{bit}
use Rattle.rules.specs.State.{local_count}
use Rattle.events.specs.Noted.{Noted, enabled_in}
use Rattle.samples.specs.declared.locals.Occurred.{Occurred}

-- local alert j is raised: 0 and 1 if an alert's or a line's ping fails, 2 if an enabled alert has equal wires, 3 if a line's receive pair is wrong, and
-- those that the mask of step 1 names
abbrev pub raised_by : Bool → Bool → Bool → Bool → ℕ → ℕ → Bool
raised_by broken is_wrong alert line raises j =
    (eqb j 0 && alert) || ((eqb j 1 && line) || ((eqb j 2 && broken) || ((eqb j 3 && is_wrong) || bit raises j)))

-- the enabled local alerts among those that the mask names
abbrev pub among_bits : ℕ → List ℕ → ℕ → Bool
among_bits raised en j = bit raised j && enabled_in en j

-- the local alerts that occur are noted
abbrev pub OccurredAll : ℕ → List ℕ → List ℕ → List ℕ → Occurred → Type 0
OccurredAll raised en class before r = Noted (among_bits raised en) class before local_count local_count r.cause r.hits
