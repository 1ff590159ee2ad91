-- `rest` meets its contract.
-- Assumes nothing.
use Prim.Native.Nat.{ℕ, ◌+◌}
use mathlib.Core.Path.{refl, subst, ◌∙◌}
use native.Mathlib.Omega.{arith}
use borrow.Author.Rules.{rules}
use lib.ListN.{length}
use Rattle.calm_laws.specs.Four.{met, changes_in, Running}
use Rattle.bits.specs.Bits.{bits_of}
use Rattle.calm_laws.specs.Settled.{calm_class_event, settle_ticks}
use Rattle.calm.proofs.Resting.{moved_valid, moved_lines, rest_state, rest_words}
use Rattle.calm.proofs.ticking.Ticking.rest.Goals as goal

pub advance-moved-requires : goal.advance-moved-requires
advance-moved-requires g c = (search rules, (c.requires.0, omega (arith, c.requires.1), c.args.self.now.room))

pub invariant_of-self : goal.invariant_of-self
invariant_of-self g c =
    let b = c.args.self.now in
    let r = c.advance-moved.ensures in
    record {
      good = moved_valid b.handler (met c.events.result b.handler.interrupts.state) c.args.n _ _ b.good r.classes;
      off = b.off;
      lit = c.from-self.ensures ∙ c.lines_on.ensures ∙ moved_lines _ _ b.handler;
      room = omega (arith, r.room, b.room);
    }

pub returns : goal.returns
returns g c =
    let b = c.args.self.now in
    let moved = c.advance-moved.result in
    let run : Running (met (bits_of 4 (calm_class_event b.handler b.wires)) b.handler.interrupts.state) b.handler.classes b.handler.links.senders settle_ticks (length b.changes + changes_in b.handler.classes) b.changes c.args.n moved.classes moved.senders c.advance-moved.new.changes =
    subst
    (λ (e : ℕ). Running (met e b.handler.interrupts.state) b.handler.classes b.handler.links.senders settle_ticks (length b.changes + changes_in b.handler.classes) b.changes c.args.n moved.classes moved.senders c.advance-moved.new.changes)
    c.events.ensures c.advance-moved.ensures in
    record {
      ds = moved.classes;
      ts = moved.senders;
      run = run;
      state = refl;
      wires = refl;
      handler = λ t. rest_state b.handler b.wires b.good b.off c.args.n t run;
      words = λ t. rest_words b.handler b.wires b.good b.off c.args.n t run;
    }
