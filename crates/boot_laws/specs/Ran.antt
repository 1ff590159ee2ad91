-- Request (vi), "Boot policy": which ticks ran, and where it stopped.
-- Assumes nothing.
use Rattle.std.specs.Prelude.{ℕ, ◌<◌, ◌≡◌, Bool, true, false, List, [], ◌∷◌, map, get_or, length, take}
use Rattle.rules.specs.Answer.{number}
use Rattle.rules.specs.Run.{run}
use Rattle.rules.specs.Tick.{ticked}
use Rattle.rules.specs.declared.Access.{Access}
use Rattle.rules.specs.declared.Handler.{Handler}
use Rattle.rules.specs.declared.Input.{Input}
use Rattle.policy.specs.Install.{Ask, Entry, rest, is, stopped}
use Rattle.policy.specs.Progress.{Progress}

abbrev pub input_of : Ask → Input
input_of a = rest a.access

-- the ticks of a list of accesses
abbrev pub inputs : List Ask → List Input
inputs xs = map input_of xs

-- in the state h the access gets the answer that is wanted, and the state that its tick reaches
abbrev pub wants : Handler → Ask → Bool
wants h a = is (number (ticked h (input_of a)).answer) a.wanted

abbrev pub reach : Handler → Ask → Handler
reach h a = (ticked h (input_of a)).handler

-- what stands past the end of a list, and is never read
abbrev pub no_ask : Ask
no_ask = record { register = 0; access = Access.Nothing; wanted = 0 }

-- it stopped at the first answer that is not wanted, with that answer and the state after its tick
pub record StoppedAt (h : Handler) (xs : List Ask) (s : Progress) : Type 0 where
  pub place : ℕ
  pub inside : place < length xs
  pub earlier : (i : ℕ) → i < place → wants (run h (take i (inputs xs))) (get_or xs i no_ask) ≡ true
  pub there : wants (run h (take place (inputs xs))) (get_or xs place no_ask) ≡ false
  pub result : s ≡ stopped (get_or xs place no_ask).register (ticked (run h (take place (inputs xs))) (input_of (get_or xs place no_ask)))

-- e is one of them; each of them has P
pub data Among (e : Entry) : List Entry → Type 0 where
  here : {es : List Entry} → Among e (e ∷ es)
  there : {f : Entry} {es : List Entry} → Among e es → Among e (f ∷ es)

pub data All (P : Ask → Type 0) : List Ask → Type 0 where
  none : All P []
  more : {a : Ask} {xs : List Ask} → P a → All P xs → All P (a ∷ xs)
