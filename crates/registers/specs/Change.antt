-- "One tick", step 1: what an access leaves, and gives.
-- Assumes nothing.
use Rattle.std.specs.Prelude.{false}
use Rattle.rules.specs.Access.{kept, raised_by}
use Rattle.rules.specs.declared.Accessed.{Accessed}
use Rattle.rules.specs.declared.Answer.{Answer}
use Rattle.rules.specs.declared.Effects.{Effects}
use Rattle.rules.specs.declared.Handler.{Handler}
use Rattle.rules.specs.declared.Refusal.{Refusal}
use Rattle.rules.specs.declared.Register.{Register}

-- the state h that is left, with the answer and the effects that are given
abbrev pub left_with : Handler → Answer × Effects → Accessed
left_with h r = record { handler = h; answer = r.0; effects = r.1 }

-- a refused access that names q
abbrev pub refused_by : Refusal → Handler → Register → Accessed
refused_by m h q = record { handler = kept m h q; answer = Answer.Refused m; effects = record { clears = 0; raises = raised_by m; begins = false } }
