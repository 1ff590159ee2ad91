-- What a tick hears, as a caller in C asks for it, in sentences: raw bits, and no definition of the rules. The quotes are of the comments in the handler's `account`.
-- Assumes nothing.
use Rattle.std.specs.Prelude.{ℕ, ◌≤◌, ◌<◌, ◌≡◌, ◌↔◌, true, List, [], ◌∷◌}
use Rattle.bits.specs.Bits.{bit}
use Rattle.handler.specs.declared.account.Account.{Account}
use Rattle.rules.specs.declared.Access.{Access}
use Rattle.rules.specs.declared.Accessed.{Accessed}
use Rattle.rules.specs.declared.Effects.{Effects}
use Rattle.rules.specs.declared.Handler.{Handler}
use Rattle.rules.specs.declared.Input.{Input}
use Rattle.rules.specs.declared.Sample.{Sample}
use Rattle.sentences.specs.Pairs.{FourWords}
use Rattle.sentences.specs.Raw.{bit_of_alert}
use Rattle.sentences.specs.Receivers.{Answers, Event}
use Rattle.sentences.specs.Samples.{Occurs}
use Rattle.sentences.specs.Valid.{Valid}

-- what comes back beside the tick's answer
pub record Told : Type 0 where
  pub events : List ℕ
  pub answers : List ℕ
  pub locals : ℕ

abbrev pub told_of : Account → Told
told_of a = record { events = a.events; answers = a.answers; locals = a.locals }

-- of a tick that runs: g is the state that step 1 leaves, f what it hands on, s the tick's sample
pub record Tells (g : Handler) (s : Sample) (f : Effects) (t : Told) : Type 0 where
  -- "The alerts with an event, enabled or not", alert i at bit 63 - i % 64 of word i / 64; at N and above there is none
  pub event : (i : ℕ) → i < 256 → (bit_of_alert t.events i ≡ true) ↔ Event g s f i
  pub event_words : FourWords t.events
  -- "and those whose open ping is answered"
  pub answer : (i : ℕ) → i < 256 → (bit_of_alert t.answers i ≡ true) ↔ Answers g s f i
  pub answer_words : FourWords t.answers
  -- "the local alerts that occur, local 0 at the lowest bit", and no bit above local 6
  pub local : (j : ℕ) → j < 7 → (bit t.locals j ≡ true) ↔ Occurs g s f j
  pub seven : t.locals ≤ 127

-- "Refusal 7 comes first: nothing is heard"
pub record TellsNothing (t : Told) : Type 0 where
  pub events : t.events ≡ 0 ∷ 0 ∷ 0 ∷ 0 ∷ []
  pub answers : t.answers ≡ 0 ∷ 0 ∷ 0 ∷ 0 ∷ []
  pub locals : t.locals ≡ 0

-- of the tick of any state h and input x, whose step 1 is given
pub record Hears (step1 : Handler → Access → Accessed) (h : Handler) (x : Input) (t : Told) : Type 0 where
  pub refused : ¬ Valid h → TellsNothing t
  pub runs : Valid h → Tells (step1 h x.access).handler x.sample (step1 h x.access).effects t
