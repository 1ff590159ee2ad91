-- Request (v): what an access makes of the stages, register by register.
-- Assumes nothing.
use Rattle.std.specs.Prelude.{ℕ, ◌+◌, Bool, cond, eqb, Ok, Err}
use Rattle.rules.specs.Access.{is_first, named, drops}
use Rattle.rules.specs.Map.{decode, number_of}
use Rattle.rules.specs.declared.Access.{Access}
use Rattle.rules.specs.declared.Access.TheVariants.{Nothing, Read, Write, Malformed}
use Rattle.rules.specs.declared.Handler.{Handler}
use Rattle.rules.specs.declared.Register.{Register}
use Rattle.rules.specs.Answer.{Verdict}

-- the access names p
abbrev pub names : Handler → Access → Register → Bool
names h x p = eqb (number_of (named h x)) (number_of p)

-- the stage of the register that an accepted access names: a read drops it, a first write stages its value, a second one drops it
abbrev pub stage_given : Handler → Access → ℕ → ℕ
stage_given h Nothing old = old
stage_given h (Read r) old = 0
stage_given h (Write r v) old = cond (is_first h (decode h.n r)) (v + 1) 0
stage_given h Malformed old = old

-- by the verdict: 3 and 12 drop it, the other refusals leave it
abbrev pub stage_by : Verdict → Handler → Access → ℕ → ℕ
stage_by (Ok tt) h x old = stage_given h x old
stage_by (Err m) h x old = cond (drops m) 0 old
