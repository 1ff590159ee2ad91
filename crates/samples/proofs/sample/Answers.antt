-- `sample` meets its contract: the facts that its calls ensure, put together.
-- Assumes nothing.
use Rattle.samples.proofs.SampleSteps.{sampled_by}
use Rattle.samples.proofs.sample.Goals as goal

pub returns : goal.returns
returns c = sampled_by c.args.g c.args.v _ _ c.gather-hits.ensures c.occur-occurred.ensures
