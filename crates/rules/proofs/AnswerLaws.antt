-- The numbers of refusals: 1 to 14, so that what a refusal answers is below zero.
-- Assumes nothing.
use Prim.Native.Nat.{ℕ, suc, ◌-◌, ◌≤◌}
use mathlib.Core.Path.{◌≡◌, ap}
use native.Mathlib.Omega.{arith}
use lib.IntN.{pos, negsuc, neg_ℤ}
use Rattle.rules.specs.Answer.{refusal_number, number}
use Rattle.rules.specs.declared.Answer.{Answer}
use Rattle.rules.specs.declared.Refusal.{Refusal}
use Rattle.rules.specs.declared.Refusal.TheVariants.{NoRegister, WrongWay, Locked, TooWide, BadRecord, BadCount, BadState, BadLength, ShortList, NoRecord, ShortBuffer, Differs, SillyThreshold}

pub number_range : (m : Refusal) → (1 ≤ refusal_number m) × (refusal_number m ≤ 14)
number_range NoRegister = (omega arith, omega arith)
number_range WrongWay = (omega arith, omega arith)
number_range Locked = (omega arith, omega arith)
number_range TooWide = (omega arith, omega arith)
number_range BadRecord = (omega arith, omega arith)
number_range BadCount = (omega arith, omega arith)
number_range BadState = (omega arith, omega arith)
number_range BadLength = (omega arith, omega arith)
number_range ShortList = (omega arith, omega arith)
number_range NoRecord = (omega arith, omega arith)
number_range ShortBuffer = (omega arith, omega arith)
number_range Differs = (omega arith, omega arith)
number_range SillyThreshold = (omega arith, omega arith)

-- the number of a refusal is below zero, by 1 to 14
pub refused_number : (m : Refusal) → (k : ℕ) × (k ≤ 13) × (number (Answer.Refused m) ≡ negsuc k)
unfolding number
refused_number m =
    let r = number_range m in
    let k : ℕ = refusal_number m - 1 in
    let e : refusal_number m ≡ suc k = omega arith in
    (k, omega arith, ap (λ (n : ℕ). neg_ℤ (pos n)) e)
