-- "Numbers that come back": stored entries at N and above are no registers; a new handler has them at reset and no call changes them.
-- Assumes nothing.
use Rattle.std.specs.Prelude.{ℕ, ◌*◌, ◌≤◌, ◌<◌, ◌≡◌}
use Rattle.link_rules.specs.Receiver.{new_receiver}
use Rattle.rules.specs.Stages.{stage}
use Rattle.rules.specs.State.{most, words, alert, receiver}
use Rattle.rules.specs.declared.Field.{Field}
use Rattle.rules.specs.declared.Handler.{Handler}
use Rattle.rules.specs.declared.Register.TheVariants.{Alert}

-- g has N of h, and every register, receiver and stage of the alerts at N and above as in h
pub record SameAbove (h g : Handler) : Type 0 where
  pub n : g.n ≡ h.n
  pub alerts : (f : Field) (i : ℕ) → h.n ≤ i → i < most → alert g f i ≡ alert h f i
  pub receivers : (i : ℕ) → h.n ≤ i → i < 64 * words → receiver g i ≡ receiver h i
  pub stages : (f : Field) (i : ℕ) → h.n ≤ i → i < most → stage g (Alert f i) ≡ stage h (Alert f i)

-- the reset value of an alert's register
abbrev pub at_reset : Field → ℕ
at_reset Field.Regwen = 1
at_reset Field.En = 0
at_reset Field.Class = 0
at_reset Field.Cause = 0

-- every stored entry and receiver at reset with no stage, those at N and above too
pub record EntriesNew (h : Handler) : Type 0 where
  pub alerts : (f : Field) (i : ℕ) → i < most → alert h f i ≡ at_reset f
  pub receivers : (i : ℕ) → i < 64 * words → receiver h i ≡ new_receiver
  pub stages : (f : Field) (i : ℕ) → i < most → stage h (Alert f i) ≡ 0
