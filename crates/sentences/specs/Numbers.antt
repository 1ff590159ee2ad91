-- "Numbers that come back", in sentences: the signed number of each answer. 13 is an answer of the boot alone (policy, Plan.bar_number).
-- Assumes nothing.
use Rattle.std.specs.Prelude.{ℕ, ◌≡◌, ℤ, pos, neg_ℤ}
use Rattle.rules.specs.declared.Answer.{Answer}
use Rattle.rules.specs.declared.Refusal.TheVariants.{NoRegister, WrongWay, Locked, TooWide, BadRecord, BadCount, BadState, BadLength, ShortList, NoRecord, ShortBuffer, Differs, SillyThreshold}

pub record Numbers (number : Answer → ℤ) : Type 0 where
  -- "a read gives 0 to 4,294,967,295"
  pub read : (v : ℕ) → number (Answer.Value v) ≡ pos v
  -- "anything else accepted gives 0"
  pub accepted : number Answer.Done ≡ pos 0
  -- "and a refusal gives the negated refusal number": "1 no such register"
  pub refusal_1 : number (Answer.Refused NoRegister) ≡ neg_ℤ (pos 1)
  -- "2 read of a write-only or write of a read-only register"
  pub refusal_2 : number (Answer.Refused WrongWay) ≡ neg_ℤ (pos 2)
  -- "3 register locked"
  pub refusal_3 : number (Answer.Refused Locked) ≡ neg_ℤ (pos 3)
  -- "4 written value has a bit outside the field"
  pub refusal_4 : number (Answer.Refused TooWide) ≡ neg_ℤ (pos 4)
  -- "5 trace record malformed"
  pub refusal_5 : number (Answer.Refused BadRecord) ≡ neg_ℤ (pos 5)
  -- "6 N is 0 or over 64"; request (iii): 248
  pub refusal_6 : number (Answer.Refused BadCount) ≡ neg_ℤ (pos 6)
  -- "7 state that breaks the rule below"
  pub refusal_7 : number (Answer.Refused BadState) ≡ neg_ℤ (pos 7)
  -- "8 batch length not a multiple of 24"; request (iii): 70
  pub refusal_8 : number (Answer.Refused BadLength) ≡ neg_ℤ (pos 8)
  -- "9 output list shorter than the records"
  pub refusal_9 : number (Answer.Refused ShortList) ≡ neg_ℤ (pos 9)
  -- request (ii): "an access that no well-formed record holds is refused with 10"
  pub refusal_10 : number (Answer.Refused NoRecord) ≡ neg_ℤ (pos 10)
  -- request (ii): "as it does when too short, refused with 11"
  pub refusal_11 : number (Answer.Refused ShortBuffer) ≡ neg_ℤ (pos 11)
  -- request (v): "A differing second write .. answers -12"
  pub refusal_12 : number (Answer.Refused Differs) ≡ neg_ℤ (pos 12)
  -- request (vii): "Writing 0 to a class REGWEN is refused with 14"
  pub refusal_14 : number (Answer.Refused SillyThreshold) ≡ neg_ℤ (pos 14)
