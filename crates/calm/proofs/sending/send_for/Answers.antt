-- `send_for` meets its contract.
-- Assumes nothing.
use Prim.Native.Nat.{ℕ}
use mathlib.Core.Path.{◌≡◌, refl, sym, ap, ◌∙◌}
use native.Mathlib.Numerals.{add-one}
use native.Mathlib.Omega.{arith}
use Rattle.calm_laws.proofs.Turning.{for_short}
use Rattle.calm_laws.specs.Steady.{steady, senders_for}
use Rattle.link_rules.specs.Senders.{sent_all}
use Rattle.link_rules.specs.declared.Senders.{Senders}
use Rattle.calm.proofs.sending.send_for.Goals as goal

pub loop-init : goal.loop-init
unfolding senders_for
loop-init c = refl

pub loop-preserved : goal.loop-preserved
unfolding senders_for
loop-preserved c =
    rw (add-one c.loop.counter) (c.send_lines-now.ensures ∙ ap (λ (z : Senders). sent_all z (steady c.args.lines)) c.loop.invariant)

pub returns : goal.returns
returns c =
    let a = c.args in
    let e : c.loop.counter ≡ c.short_of-end.result = omega (arith, c.loop-test.false, c.loop.auto.counter-end) in
    c.loop.invariant ∙ ap (λ (n : ℕ). senders_for a.lines n a.s) (e ∙ c.short_of-end.ensures.0) ∙ sym (for_short a.lines a.m a.s)
