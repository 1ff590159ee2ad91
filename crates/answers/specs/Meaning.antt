-- "Numbers that come back": what the one signed number means, at zero and at both ends.
-- Assumes nothing.
use Rattle.std.specs.Prelude.{ℕ, ◌≤◌, ◌≡◌, Bool, true, false, ◌⊎◌, ℤ, pos, negsuc, neg_ℤ}
use Rattle.rules.specs.Answer.{refusal_number, number}
use Rattle.rules.specs.declared.Answer.{Answer}
use Rattle.rules.specs.declared.Refusal.{Refusal}

abbrev pub is_negative : ℤ → Bool
is_negative (pos n) = false
is_negative (negsuc n) = true

abbrev pub is_refused : Answer → Bool
is_refused Answer.Done = false
is_refused (Answer.Value v) = false
is_refused (Answer.Refused m) = true

-- what a read gives is a 32-bit value
abbrev pub InRange : Answer → Type 0
InRange a = (v : ℕ) → a ≡ Answer.Value v → v ≤ 4294967295

pub record Meaning (a : Answer) : Type 0 where
  -- negative exactly when refused
  pub negative : is_negative (number a) ≡ is_refused a
  -- minus m exactly for the refusal numbered m
  pub of_refusal : (m : Refusal) → a ≡ Answer.Refused m → number a ≡ neg_ℤ (pos (refusal_number m))
  pub is_refusal : (m : Refusal) → number a ≡ neg_ℤ (pos (refusal_number m)) → a ≡ Answer.Refused m
  -- the lower end: a refusal's number is 1 to 14
  pub lowest : (n : ℕ) → number a ≡ negsuc n → n ≤ 13
  -- zero exactly where nothing is read, or a 0
  pub of_done : a ≡ Answer.Done → number a ≡ pos 0
  pub is_zero : number a ≡ pos 0 → (a ≡ Answer.Done) ⊎ (a ≡ Answer.Value 0)
  -- a read's value, up to the upper end
  pub of_value : (v : ℕ) → a ≡ Answer.Value v → number a ≡ pos v
  pub highest : (v : ℕ) → number a ≡ pos v → v ≤ 4294967295
