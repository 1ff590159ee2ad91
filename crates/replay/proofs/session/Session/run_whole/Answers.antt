-- `Session::run_whole` keeps the session's facts: what the ticks leave is admitted.
-- Assumes nothing.
use Rattle.replay.proofs.TurnLaws.{ran_admits}
use Rattle.replay.proofs.session.Session.run_whole.Goals as goal

pub invariant_of-self-clause-admitted : goal.invariant_of-self-clause-admitted
invariant_of-self-clause-admitted g c = ran_admits _ _ _ _ c.args.self.now.admitted c.replay-done.ensures.handler

pub returns-clause-ran : goal.returns-clause-ran
returns-clause-ran g c = record { state = c.replay-done.ensures.handler; kept = c.keep_rest-self.ensures }
