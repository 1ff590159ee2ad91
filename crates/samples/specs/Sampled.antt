-- What step 2 of a tick promises, once it is heard.
-- Assumes nothing.
use Rattle.std.specs.Prelude.{◌≡◌}
use Rattle.bits.specs.Bits.{bits_of}
use Rattle.rules.specs.Samples.{sampled, assigned}
use Rattle.rules.specs.declared.Handler.{Handler}
use Rattle.rules.specs.declared.Heard.{Heard}
use Rattle.samples.specs.declared.Sampled.{Sampled}

-- the state after step 2, and bit k: an enabled alert's event or an occurring local alert is assigned to class k
pub record SampledBy (g : Handler) (v : Heard) (r : Sampled) : Type 0 where
  pub handler : r.handler ≡ sampled g v
  pub assigns : r.assigned ≡ bits_of 4 (assigned g v)
