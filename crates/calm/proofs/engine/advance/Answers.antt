-- `advance` meets its contract.
-- Assumes nothing.
use Prim.Native.Nat.{◌+◌, ◌-◌, min}
use mathlib.Core.Path.{ap, ◌∙◌}
use native.Mathlib.Omega.{arith}
use borrow.Author.Rules.{rules}
use lib.ListN.{length}
use Rattle.calm_laws.specs.Four.{met, changes_in}
use Rattle.calm_laws.proofs.Rounds.{start, now_fit, no_clear}
use Rattle.calm.proofs.Rounding.{in_time, entry, next, falls}
use Rattle.calm.proofs.engine.advance.Goals as goal

pub loop-done-init : goal.loop-done-init
loop-done-init g c =
    let a = c.args in
    let s = met a.signals.events a.signals.interrupts in
    (omega arith, start s (no_clear _ _) a.start.classes a.start.senders c.requires.0 a.from _ a.changes.now (omega arith))

pub go_round-round-requires : goal.go_round-round-requires
go_round-round-requires g c =
    let a = c.args in
    let l = c.loop-done in
    let s = met a.signals.events a.signals.interrupts in (
      now_fit s (no_clear _ _) a.start.classes a.start.senders c.requires.0 a.from (length a.changes.now + changes_in a.start.classes) a.changes.now l.done l.now.classes l.now.senders l.changes l.invariant.1,
      omega (arith, c.min-time.ensures, c.stands.ensures),
    )

pub note-requires : goal.note-requires
note-requires g c =
    let a = c.args in
    let l = c.loop-done in
    let s = met a.signals.events a.signals.interrupts in
    let within = in_time s (no_clear _ _) a.start.classes a.start.senders c.requires.0 a.from (length a.changes.now + changes_in a.start.classes) a.changes.now
    l.done l.now.classes l.now.senders l.changes l.invariant.1 a.n (omega (arith, c.requires.1)) c.loop-done-test.true c.min-time.result
    (c.min-time.ensures ∙ ap (min (a.n - l.done - 1)) c.stands.ensures) c.go_round-round.result c.go_round-round.ensures in (
      search rules,
      (
        omega (arith, within, c.requires.1),
        λ d. omega (
          arith,
          entry s (no_clear _ _) a.start.classes a.start.senders c.requires.0 a.from (length a.changes.now + changes_in a.start.classes) a.changes.now
              l.done l.now.classes l.now.senders l.changes l.invariant.1 a.n (omega (arith, c.requires.1)) c.loop-done-test.true c.min-time.result
              (c.min-time.ensures ∙ ap (min (a.n - l.done - 1)) c.stands.ensures) c.go_round-round.result c.go_round-round.ensures d,
          c.requires.2,
        ),
      ),
    )

pub loop-done-smaller : goal.loop-done-smaller
loop-done-smaller g c =
    let a = c.args in
    let l = c.loop-done in
    let s = met a.signals.events a.signals.interrupts in
    falls s (no_clear _ _) a.start.classes a.start.senders c.requires.0 a.from (length a.changes.now + changes_in a.start.classes) a.changes.now
    l.done l.now.classes l.now.senders l.changes l.invariant.1 a.n (omega (arith, c.requires.1)) c.loop-done-test.true c.min-time.result
    (c.min-time.ensures ∙ ap (min (a.n - l.done - 1)) c.stands.ensures) c.go_round-round.result c.go_round-round.ensures

pub loop-done-preserved : goal.loop-done-preserved
loop-done-preserved g c =
    let a = c.args in
    let l = c.loop-done in
    let s = met a.signals.events a.signals.interrupts in
    rw c.note.ensures (
      in_time s (no_clear _ _) a.start.classes a.start.senders c.requires.0 a.from (length a.changes.now + changes_in a.start.classes) a.changes.now
          l.done l.now.classes l.now.senders l.changes l.invariant.1 a.n (omega (arith, c.requires.1)) c.loop-done-test.true c.min-time.result
          (c.min-time.ensures ∙ ap (min (a.n - l.done - 1)) c.stands.ensures) c.go_round-round.result c.go_round-round.ensures,
      next s (no_clear _ _) a.start.classes a.start.senders c.requires.0 a.from (length a.changes.now + changes_in a.start.classes) a.changes.now
          l.done l.now.classes l.now.senders l.changes l.invariant.1 a.n (omega (arith, c.requires.1)) c.loop-done-test.true c.min-time.result
          (c.min-time.ensures ∙ ap (min (a.n - l.done - 1)) c.stands.ensures) c.go_round-round.result c.go_round-round.ensures,
    )
