-- The turns so far are as one turn, that read all bytes that came.
use Rattle.std.proofs.Common.{◌≡◌, take}
use Rattle.replay.specs.Rest.{Turned}
use Rattle.replay.proofs.session.Session.take_turns.Given as goal

abbrev pub invariant-loop : goal.invariant-loop
invariant-loop g l =
    let s = l.initial.self in
    (l.self.edition ≡ s.edition) × Turned s.edition s.handler (take s.rest s.buffer) l.self.handler l.self.rest l.self.buffer
