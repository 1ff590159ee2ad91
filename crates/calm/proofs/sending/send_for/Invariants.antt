use mathlib.Core.Path.{◌≡◌}
use Rattle.calm_laws.specs.Steady.{senders_for}
use Rattle.calm.proofs.sending.send_for.Given as goal

abbrev pub invariant-loop : goal.invariant-loop
invariant-loop l = l.now ≡ senders_for l.lines l.counter l.initial.now
