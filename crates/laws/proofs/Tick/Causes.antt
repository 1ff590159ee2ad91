-- The CAUSE of an alert after a tick.
-- Assumes nothing.
use Prim.Native.Nat.{ℕ, ◌≤◌, ◌<◌}
use mathlib.Core.Path.{◌≡◌, ap, ◌∙◌}
use mathlib.Core.Bool.{Bool, ◌&&◌}
use native.Mathlib.Omega.{arith}
use borrow.Author.Tests.{lt-ltb}
use lib.Dec.{ltb}
use Rattle.rules.specs.Access.{value, acted}
use Rattle.rules.specs.Samples.{marked, alert_enabled, alert_event}
use Rattle.rules.specs.State.{most, alert}
use Rattle.rules.specs.Tick.{stepped, hears, happens_in, after}
use Rattle.rules.specs.declared.Field.{Field}
use Rattle.rules.specs.declared.Handler.{Handler}
use Rattle.rules.specs.declared.Input.{Input}
use Rattle.rules.specs.declared.Register.TheVariants.{Alert}
use Rattle.laws.proofs.Access.RegisterFile.{acted_n}
use Rattle.laws.proofs.State.StateLaws.{alert_sampled}
use Rattle.laws.proofs.Tick.Frame.{after_value}

-- set by an event where step 1 leaves the alert enabled, else as step 1 leaves it
pub after_cause : (g : Handler) (x : Input) (i : ℕ) → g.n ≤ most → i < g.n
    → value (after g x) (Alert Field.Cause i)
    ≡ marked (happens_in g x i && alert_enabled (acted g x.access) i) (value (acted g x.access) (Alert Field.Cause i))
unfolding stepped value alert_event
after_cause g x i m l =
    after_value g x (Alert Field.Cause i) ∙ alert_sampled (acted g x.access) (hears g x) Field.Cause i (omega (arith, m, l))
    ∙ ap (λ (b : Bool). marked (b && (happens_in g x i && alert_enabled (acted g x.access) i)) (alert (acted g x.access) Field.Cause i))
    (ap (ltb i) (acted_n g x.access) ∙ lt-ltb i g.n l)
