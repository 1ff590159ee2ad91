-- "Numbers that come back": refusals, their numbers and their order.
-- Assumes nothing.
use Rattle.std.specs.Prelude.{ℕ, Bool, cond, List, [], ◌∷◌, ℤ, pos, neg_ℤ, Result, Ok, Err}
use Rattle.rules.specs.declared.Answer.{Answer}
use Rattle.rules.specs.declared.Refusal.{Refusal}
use Rattle.rules.specs.declared.Refusal.TheVariants.{NoRegister, WrongWay, Locked, TooWide, BadRecord, BadCount, BadState, BadLength, ShortList, NoRecord, ShortBuffer, Differs, SillyThreshold}

-- the table's first column; 10 and 11 are request (ii)'s, 12 is request (v)'s, 14 is request (vii)'s
abbrev pub refusal_number : Refusal → ℕ
refusal_number NoRegister = 1
refusal_number WrongWay = 2
refusal_number TooWide = 4
refusal_number Locked = 3
refusal_number BadRecord = 5
refusal_number BadCount = 6
refusal_number BadState = 7
refusal_number BadLength = 8
refusal_number ShortList = 9
refusal_number NoRecord = 10
refusal_number ShortBuffer = 11
refusal_number Differs = 12
refusal_number SillyThreshold = 14

-- a read gives 0 to 4,294,967,295, anything else accepted gives 0, and a refusal gives the negated refusal number
unfoldable pub number : Answer → ℤ
number (Answer.Value v) = pos v
number Answer.Done = pos 0
number (Answer.Refused m) = neg_ℤ (pos (refusal_number m))

-- what is said of an access or a call: it is accepted, or refused
abbrev pub Verdict : Type 0
Verdict = Result (Unit {0}) Refusal

-- a refusal and whether its case holds
pub record Case : Type 0 where
  pub refusal : Refusal
  pub holds : Bool

-- the first in the list whose case holds is given
unfoldable pub first_of : List Case → Verdict
first_of [] = Ok tt
first_of (c ∷ cs) = cond c.holds (Err c.refusal) (first_of cs)
