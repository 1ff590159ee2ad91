-- `new::reset_class` meets its contract, register by register.
-- Assumes nothing.
use mathlib.Core.Path.{refl}
use Rattle.state.proofs.new.reset_class.Goals as goal

pub returns : goal.returns
returns c = refl
