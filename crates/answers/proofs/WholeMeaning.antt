-- What the number of an answer means once more, taken from the meaning for every answer, refusal, value and number: a meaning that says less, or asks for
-- more, does not give it.
-- Assumes nothing.
use Prim.Native.Nat.{ℕ, ◌≤◌}
use mathlib.Core.Path.{◌≡◌, sym, ap, ◌∙◌}
use mathlib.Core.Bool.{true, false}
use mathlib.Core.Logic.{◌⊎◌}
use lib.IntN.{pos, negsuc}
use Rattle.rules.specs.Answer.{number}
use Rattle.rules.specs.declared.Answer.{Answer}
use Rattle.rules.specs.declared.Refusal.{Refusal}
use Rattle.rules.specs.declared.Refusal.TheVariants.{NoRegister, WrongWay, Locked, TooWide, BadRecord, BadCount, BadState, BadLength, ShortList, NoRecord, ShortBuffer, Differs, SillyThreshold}
use Rattle.answers.specs.Meaning.{is_negative, is_refused, Meaning}
use Rattle.answers.proofs.Meaning.{meaning}

-- of any answer, by its number alone
module _ (a : Answer) (range : (v : ℕ) → a ≡ Answer.Value v → v ≤ 4294967295) where
  m : Meaning a
  m = meaning a range

  -- below zero it is a refusal, and at zero and above it is none
  below_zero : (n : ℕ) → number a ≡ negsuc n → is_refused a ≡ true
  below_zero n e = sym m.negative ∙ ap is_negative e

  not_below : (v : ℕ) → number a ≡ pos v → is_refused a ≡ false
  not_below v e = sym m.negative ∙ ap is_negative e

  -- the number of each refusal, negated, is given for it and for nothing else
  abbrev Given : Refusal → ℕ → Type 0
  Given r n = (a ≡ Answer.Refused r → number a ≡ negsuc n) × (number a ≡ negsuc n → a ≡ Answer.Refused r)

  each_refusal : Given NoRegister 0
      × Given WrongWay 1
      × Given Locked 2
      × Given TooWide 3
      × Given BadRecord 4
      × Given BadCount 5
      × Given BadState 6
      × Given BadLength 7
      × Given ShortList 8
      × Given NoRecord 9
      × Given ShortBuffer 10
      × Given Differs 11
      × Given SillyThreshold 13
  each_refusal = (
    (m.of_refusal NoRegister, m.is_refusal NoRegister),
    (m.of_refusal WrongWay, m.is_refusal WrongWay),
    (m.of_refusal Locked, m.is_refusal Locked),
    (m.of_refusal TooWide, m.is_refusal TooWide),
    (m.of_refusal BadRecord, m.is_refusal BadRecord),
    (m.of_refusal BadCount, m.is_refusal BadCount),
    (m.of_refusal BadState, m.is_refusal BadState),
    (m.of_refusal BadLength, m.is_refusal BadLength),
    (m.of_refusal ShortList, m.is_refusal ShortList),
    (m.of_refusal NoRecord, m.is_refusal NoRecord),
    (m.of_refusal ShortBuffer, m.is_refusal ShortBuffer),
    (m.of_refusal Differs, m.is_refusal Differs),
    (m.of_refusal SillyThreshold, m.is_refusal SillyThreshold),
  )

  -- at the lower end -14; there is nothing below
  lowest : (n : ℕ) → number a ≡ negsuc n → n ≤ 13
  lowest = m.lowest

  -- 0 is given where nothing is read, and then or for a 0 that is read alone
  done : a ≡ Answer.Done → number a ≡ pos 0
  done e = m.of_done e

  zero_is : number a ≡ pos 0 → (a ≡ Answer.Done) ⊎ (a ≡ Answer.Value 0)
  zero_is e = m.is_zero e

  -- the upper end: a value is read as it is, and there is nothing above 4294967295
  value_is : (v : ℕ) → a ≡ Answer.Value v → number a ≡ pos v
  value_is = m.of_value

  highest : (v : ℕ) → number a ≡ pos v → v ≤ 4294967295
  highest = m.highest
