-- Step 1 of "One tick", the access on the state before any event of the tick, in sentences: what it answers, what it leaves and what it hands to the
-- later steps. Raw fields and plain comparisons, and no definition of the rules.
-- Assumes nothing.
use Rattle.std.specs.Prelude.{ℕ, ◌≤◌, ◌<◌, ◌≡◌, ◌↔◌, ◌≢◌, Bool, true, ℤ, pos, neg_ℤ, Ok, Err}
use Rattle.bits.specs.Bits.{bit}
use Rattle.rules.specs.declared.Access.{Access}
use Rattle.rules.specs.declared.Access.TheVariants.{Read}
use Rattle.rules.specs.declared.Effects.{Effects}
use Rattle.rules.specs.declared.Handler.{Handler}
use Rattle.rules.specs.declared.Refusal.{Refusal}
use Rattle.rules.specs.declared.Register.{Register}
use Rattle.rules.specs.declared.Register.TheVariants.{Only, Block}
use Rattle.rules.specs.declared.Setting.TheVariants.{Clr}
use Rattle.rules.specs.declared.Single.TheVariants.{PingEnable}
use Rattle.rules.specs.Answer.{Verdict}
use Rattle.sentences.specs.AccessArrays.{Sized}
use Rattle.sentences.specs.AccessRefusals.{Reads, Writes, Given5, Given1, Given2, Given4, Given14, Given3, Given12, Accepted}
use Rattle.sentences.specs.AccessWrites.{Written}
use Rattle.sentences.specs.Raw.{held}
use Rattle.sentences.specs.StageWrites.{Staged}

-- ── the answer z to the access x ──

-- "a refusal gives the negated refusal number"; "Each is given exactly in its case."
pub record Answered (h : Handler) (x : Access) (z : ℤ) : Type 0 where
  -- 5, "trace record malformed"
  pub five : (z ≡ neg_ℤ (pos 5)) ↔ Given5 h x
  -- 1, "no such register"
  pub one : (z ≡ neg_ℤ (pos 1)) ↔ Given1 h x
  -- 2, "read of a write-only or write of a read-only register"
  pub two : (z ≡ neg_ℤ (pos 2)) ↔ Given2 h x
  -- 4, "written value has a bit outside the field"
  pub four : (z ≡ neg_ℤ (pos 4)) ↔ Given4 h x
  -- request (vii): "is refused with 14"
  pub fourteen : (z ≡ neg_ℤ (pos 14)) ↔ Given14 h x
  -- 3, "register locked"
  pub three : (z ≡ neg_ℤ (pos 3)) ↔ Given3 h x
  -- request (v): "answers -12"
  pub twelve : (z ≡ neg_ℤ (pos 12)) ↔ Given12 h x
  -- "a read gives 0 to 4,294,967,295": what the register holds
  pub read : (q : Register) → Accepted h x → Reads h x q → z ≡ pos (held h q)
  -- "anything else accepted gives 0"
  pub done : Accepted h x → ((r : ℕ) → x ≢ Read r) → z ≡ pos 0

-- ── what it hands to the later steps: a bit for each class and each local alert, the first lowest ──

pub record Handed (h : Handler) (x : Access) (fx : Effects) : Type 0 where
  -- "A write of 1 to CLR is an accepted clear; a 0 does nothing."
  pub clears : (k : ℕ) → k < 4 → (bit fx.clears k ≡ true) ↔ (Accepted h x × Writes h x (Block Clr k) 1)
  -- "class k is 0 to 3"
  pub classes : fx.clears < 16
  -- request (v): a differing second write "makes local 5 occur in that tick if enabled"; step 2 reads its EN
  pub raises : (j : ℕ) → j < 7 → (bit fx.raises j ≡ true) ↔ ((j ≡ 5) × Given12 h x)
  -- "local alert j is 0 to 6"
  pub locals : fx.raises < 128
  -- request (ix): "When 6 becomes 1": an accepted write of 1 while it is 0
  pub begins : (fx.begins ≡ true) ↔ (Accepted h x × Writes h x (Only PingEnable) 1 × (h.timer.enable ≡ 0))

-- ── step 1: the state h with the access x leaves g, answers z and hands on fx ──

pub record Accessed (h : Handler) (x : Access) (g : Handler) (z : ℤ) (fx : Effects) : Type 0 where
  pub answered : Answered h x z
  pub written : Written h x g
  pub staged : Staged h x g
  pub arrays : Sized g
  pub handed : Handed h x fx

-- of every state of at most 248 alerts whose arrays have their lengths, so of every one that a call can have and refusal 7 does not meet, and of
-- every access
abbrev pub AccessStep : (Handler → Access → Handler) → (Handler → Access → ℤ) → (Handler → Access → Effects) → Type 0
AccessStep state answer effects = (h : Handler) (x : Access) → h.n ≤ 248 → Sized h → Accessed h x (state h x) (answer h x) (effects h x)

-- ── two parts of it by themselves ──

-- the verdict t: each refusal exactly in its case, and accepted exactly in none
pub record Judged (h : Handler) (x : Access) (t : Verdict) : Type 0 where
  pub five : (t ≡ Err Refusal.BadRecord) ↔ Given5 h x
  pub one : (t ≡ Err Refusal.NoRegister) ↔ Given1 h x
  pub two : (t ≡ Err Refusal.WrongWay) ↔ Given2 h x
  pub four : (t ≡ Err Refusal.TooWide) ↔ Given4 h x
  pub fourteen : (t ≡ Err Refusal.SillyThreshold) ↔ Given14 h x
  pub three : (t ≡ Err Refusal.Locked) ↔ Given3 h x
  pub twelve : (t ≡ Err Refusal.Differs) ↔ Given12 h x
  pub accepted : (t ≡ (Ok tt)) ↔ Accepted h x

abbrev pub AccessVerdict : (Handler → Access → Verdict) → Type 0
AccessVerdict verdict = (h : Handler) (x : Access) → h.n ≤ 248 → Judged h x (verdict h x)

-- whether class k has an accepted clear: "A write of 1 to CLR is an accepted clear; a 0 does nothing."
abbrev pub AcceptedClear : (Handler → Access → ℕ → Bool) → Type 0
AcceptedClear clears =
    (h : Handler) (x : Access) (k : ℕ) → h.n ≤ 248 → (clears h x k ≡ true) ↔ (Accepted h x × Writes h x (Block Clr k) 1)
