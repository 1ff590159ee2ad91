-- "Each is given exactly in its case", in the order of an access, as facts.
-- Assumes nothing.
use Rattle.std.specs.Prelude.{ℕ, ◌≤◌, ◌<◌, ◌≡◌, ◌⊎◌, true, false, List, ℤ, pos, neg_ℤ, get_or, length, Ok, Err}
use Rattle.rules.specs.Access.{malformed, no_register, wrong_way, too_wide, silly_threshold, barred, differs}
use Rattle.rules.specs.Answer.{Case, Verdict}
use Rattle.rules.specs.declared.Access.{Access}
use Rattle.rules.specs.declared.Answer.{Answer}
use Rattle.rules.specs.declared.Handler.{Handler}
use Rattle.rules.specs.declared.Refusal.{Refusal}

-- m is the refusal of the first case in the list that holds
pub record First (cs : List Case) (d : Case) (m : Refusal) : Type 0 where
  pub place : ℕ
  pub inside : place < length cs
  pub names : (get_or cs place d).refusal ≡ m
  pub occurs : (get_or cs place d).holds ≡ true
  pub alone : (j : ℕ) → j < place → (get_or cs j d).holds ≡ false

-- no case refuses the access
pub record Unrefused (h : Handler) (x : Access) : Type 0 where
  pub formed : malformed x ≡ false
  pub exists : no_register h x ≡ false
  pub way : wrong_way h x ≡ false
  pub width : too_wide h x ≡ false
  pub threshold : silly_threshold h x ≡ false
  pub free : barred h x ≡ false
  pub same : differs h x ≡ false

-- the refusals of an access: 1 to 5, 12 and 14
abbrev pub AccessRefusal : ℕ → Type 0
AccessRefusal m = ((1 ≤ m) × (m ≤ 5)) ⊎ ((m ≡ 12) ⊎ (m ≡ 14))

-- what an access may answer: a value of 32 bits, or the negated number of a refusal
abbrev pub AccessNumber : ℤ → Type 0
AccessNumber z = ((v : ℕ) × (v ≤ 4294967295) × (z ≡ pos v)) ⊎ ((m : ℕ) × AccessRefusal m × (z ≡ neg_ℤ (pos m)))

-- what a verdict answers: a where the access is accepted
abbrev pub answer_by : Verdict → Answer → Answer
answer_by (Ok tt) a = a
answer_by (Err m) a = Answer.Refused m
