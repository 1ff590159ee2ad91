-- Request (xii): what a round of the engine gives, m ticks by arithmetic and a plain one.
-- Assumes nothing.
use Rattle.std.specs.Prelude.{ℕ, ◌≡◌, List}
use Rattle.class_rules.specs.declared.Class.{Class}
use Rattle.class_rules.specs.declared.Signals.{Signals}
use Rattle.link_rules.specs.Senders.{sent_all}
use Rattle.link_rules.specs.declared.Senders.{Senders}
use Rattle.laws.specs.OutputMasks.{lines_on}
use Rattle.calm_laws.specs.Four.{four_jump, four_step}
use Rattle.calm_laws.specs.Steady.{steady, senders_for}
use Rattle.calm.specs.declared.round.Round.{Round}

-- from the classes ds and the senders ts
pub record RoundBy (s : ℕ → Signals) (ds : List Class) (ts : Senders) (m : ℕ) (r : Round) : Type 0 where
  pub classes : r.moved.classes ≡ four_step s (four_jump s m ds)
  pub before : r.before ≡ lines_on (four_jump s m ds)
  pub lines : r.lines ≡ lines_on (four_step s (four_jump s m ds))
  pub senders : r.moved.senders ≡ sent_all (senders_for (lines_on (four_jump s m ds)) m ts) (steady (lines_on (four_step s (four_jump s m ds))))
