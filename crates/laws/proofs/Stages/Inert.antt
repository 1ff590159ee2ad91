-- Request (v), "A staged value acts on nothing": steps 2 to 5 of a state do the same whatever its stages, and leave them.
-- Assumes nothing.
use Prim.Native.Nat.{ℕ}
use mathlib.Core.Path.{◌≡◌, refl}
use Rattle.rules.specs.Samples.{happened, answered, receiver_after, alert_broken, receiver_timed, line_wrong, raised, heard, alert_event, occurs, sampled, assigned}
use Rattle.rules.specs.State.{with_stages}
use Rattle.rules.specs.Tick.{event, interrupt_now, signals, stepped, interrupts, lines, driven, closed_now, lines_timed, links_after, ping_pairs, escalation_pairs, output_of}
use Rattle.rules.specs.declared.Effects.{Effects}
use Rattle.rules.specs.declared.Handler.{Handler}
use Rattle.rules.specs.declared.Heard.{Heard}
use Rattle.rules.specs.declared.Sample.{Sample}
use Rattle.rules.specs.declared.Stages.{Stages}

module _ (g : Handler) (s : Stages) where
  -- what is heard does not hang on them
  pub heard_inert : (x : Sample) (fx : Effects) → heard (with_stages s g) x fx ≡ heard g x fx
  unfolding heard happened answered receiver_after alert_broken raised receiver_timed line_wrong
  heard_inert x fx = refl

  pub stepped_inert : (v : Heard) (fx : Effects) → stepped (with_stages s g) v fx ≡ with_stages s (stepped g v fx)
  unfolding stepped sampled signals event interrupt_now assigned alert_event occurs
  stepped_inert v fx = refl

  -- nor what the links become
  pub links_inert : (v : Heard) (lit : ℕ) → links_after (with_stages s g) v lit ≡ links_after g v lit
  unfolding links_after lines_timed closed_now driven
  links_inert v lit = refl

  pub output_inert : (h : Handler) → output_of h (with_stages s g) ≡ output_of h g
  unfolding output_of interrupts lines ping_pairs escalation_pairs
  output_inert h = refl
