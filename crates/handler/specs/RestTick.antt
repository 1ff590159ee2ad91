-- A tick in which all rests, from the state after step 1: the access has no effects, the links rest, and each class stays as it is.
-- Assumes nothing.
use Rattle.std.specs.Prelude.{ℕ, Bool, List, get_or}
use Rattle.bits.specs.Bits.{bit}
use Rattle.bits.specs.Index.{all_to}
use Rattle.class.specs.Still.{still}
use Rattle.class_rules.specs.Class.{no_class}
use Rattle.class_rules.specs.declared.Class.{Class}
use Rattle.rules.specs.State.{class_count, with_links}
use Rattle.rules.specs.declared.Handler.{Handler}
use Rattle.samples.specs.Rest.{with_count}
use Rattle.handler.specs.declared.tick.Finished.{Finished}

-- each class stays as it is, by INTR_STATE
abbrev pub all_still : List Class → ℕ → Bool
all_still cs state = all_to (λ k. still (get_or cs k no_class) (bit state k)) class_count

-- such a tick of h: the turn has this count, and no line is on
abbrev pub rested : Handler → ℕ → ℕ → Finished
rested h count interrupts = record { handler = with_links (with_count count h.links) h; interrupts = interrupts; lines = 0 }
