-- Requests (ix) and (xi) through a boot: its plan writes no register of the ping timer and no local alert's, so where no failing ping is an event, none becomes
-- one, and local 3 stays enabled or disabled.
-- Assumes nothing.
use Prim.Native.Nat.{ℕ, ◌<◌}
use mathlib.Core.Path.{◌≡◌, refl, ap, ◌∙◌}
use mathlib.Core.Logic.{◌⊎◌, inl, inr}
use mathlib.Core.Bool.{true, false}
use native.Mathlib.Omega.{arith}
use borrow.Author.Tests.{lt-ltb}
use lib.Dec.{eqb}
use Rattle.laws.proofs.Access.RegisterFile.{acted_other}
use Rattle.laws.proofs.Valid.ValidLaws.{facts}
use Rattle.laws.specs.InMap.{in_map}
use Rattle.laws.specs.RegisterFile.{commits, plain}
use Rattle.policy.proofs.PlanLaws.{plan_planned}
use Rattle.policy.specs.Install.{Ask, Entry, write, read}
use Rattle.policy.specs.Plan.{plan_of}
use Rattle.policy.specs.declared.Lifecycle.{Lifecycle}
use Rattle.rules.specs.Access.{value, acted}
use Rattle.rules.specs.Map.{number_of}
use Rattle.rules.specs.State.{local_count, local, is_on}
use Rattle.rules.specs.Valid.{valid}
use Rattle.rules.specs.declared.Access.{Access}
use Rattle.rules.specs.declared.Field.{Field}
use Rattle.rules.specs.declared.Handler.{Handler}
use Rattle.rules.specs.declared.Register.{Register}
use Rattle.rules.specs.declared.Register.TheVariants.{Only, Local}
use Rattle.rules.specs.declared.Single.TheVariants.{PingEnable}
use Rattle.boot_laws.specs.Ran.{reach, Among}
use Rattle.boot_laws.specs.Stands.{NoPingEvent, Unasked}
use Rattle.boot_laws.proofs.EntryLaws.{spares, reach_value}
use Rattle.boot_laws.proofs.InstallLaws.{unnamed_at}
use Rattle.boot_laws.proofs.Unnamed.{unplanned, local_out}

-- a register that is neither register 6 nor the EN of a local alert
pub record Clear (q : Register) : Type 0 where
  pub enable : number_of q ≡ number_of (Only PingEnable) → ⊥
  pub locals : (j : ℕ) → j < local_count → number_of q ≡ number_of (Local Field.En j) → ⊥

pub plan_clear : (l : Lifecycle) (e : Entry) → Among e (plan_of l) → Clear e.register
unfolding number_of
plan_clear l e m =
    record {
      enable = unnamed_at (Only PingEnable) (plan_of l) (unplanned (plan_of l) (Only PingEnable) (plan_planned l) refl) e m;
      locals = λ j b.
          unnamed_at (Local Field.En j) (plan_of l) (unplanned (plan_of l) (Local Field.En j) (plan_planned l) (local_out Field.En j b)) e m;
    }

-- in the tick of state f and access x: the timer is off before it, or local 0 and local 1 are disabled after its step 1
abbrev pub Harmless : Handler → Access → Type 0
Harmless f x = (is_on f ≡ false) ⊎ ((eqb (local (acted f x) Field.En 0) 1 ≡ false) × (eqb (local (acted f x) Field.En 1) 1 ≡ false))

-- in the tick from state f: local 3 is disabled, or no sender waits for a 1
abbrev pub Unwrong : Handler → Type 0
Unwrong f = (value f (Local Field.En 3) ≡ 0) ⊎ Unasked f

-- .. local 3 being looked at after step 1 of the access x
abbrev pub HarmlessPairs : Handler → Access → Type 0
HarmlessPairs f x = (eqb (local (acted f x) Field.En 3) 1 ≡ false) ⊎ Unasked f

-- an access that changes none of these registers
module _ (f : Handler) (t : valid f ≡ true) (x : Ask) (c : commits f x.access (Only PingEnable) ≡ false)
    (d : (j : ℕ) → j < local_count → commits f x.access (Local Field.En j) ≡ false) where
  same_local : (j : ℕ) → j < local_count → value (reach f x) (Local Field.En j) ≡ value f (Local Field.En j)
  same_local j b = reach_value f t (Local Field.En j) (lt-ltb j local_count b) x refl (d j b)

  local_kept : (j : ℕ) → j < local_count → value f (Local Field.En j) ≡ 0 → value (reach f x) (Local Field.En j) ≡ 0
  local_kept j b z = same_local j b ∙ z

  keeps : NoPingEvent f → NoPingEvent (reach f x)
  keeps (inl z) = inl (reach_value f t (Only PingEnable) refl x refl c ∙ z)
  keeps (inr z) = inr (local_kept 0 (omega arith) z.0, local_kept 1 (omega arith) z.1)

  disabled : (j : ℕ) → j < local_count → value f (Local Field.En j) ≡ 0 → eqb (local (acted f x.access) Field.En j) 1 ≡ false
  unfolding value
  disabled j b z =
      ap (λ (n : ℕ). eqb n 1) (acted_other f x.access (Local Field.En j) (facts f t).n (lt-ltb j local_count b) (d j b) ∙ z)

  harmless : NoPingEvent f → Harmless f x.access
  unfolding value
  harmless (inl z) = inl (ap (λ (n : ℕ). eqb n 1) z)
  harmless (inr z) = inr (disabled 0 (omega arith) z.0, disabled 1 (omega arith) z.1)

  harmless_pairs : Unwrong f → HarmlessPairs f x.access
  harmless_pairs (inl z) = inl (disabled 3 (omega arith) z)
  harmless_pairs (inr u) = inr u

-- a write and a read of a register of the plan
module _ (f : Handler) (t : valid f ≡ true) (q : Register) (v : ℕ) (b : in_map f.n q ≡ true) (p : plain q ≡ true) (c : Clear q) where
  pub write_keeps : NoPingEvent f → NoPingEvent (reach f (write (number_of q) v))
  write_keeps u =
      keeps f t (write (number_of q) v) (spares f t q v b p (Only PingEnable) c.enable) (λ j l. spares f t q v b p (Local Field.En j) (c.locals j l)) u

  pub read_keeps : NoPingEvent f → NoPingEvent (reach f (read (number_of q) v))
  read_keeps u = keeps f t (read (number_of q) v) refl (λ j l. refl) u

  pub write_harmless : NoPingEvent f → Harmless f (write (number_of q) v).access
  write_harmless u =
      harmless f t (write (number_of q) v) (spares f t q v b p (Only PingEnable) c.enable) (λ j l. spares f t q v b p (Local Field.En j) (c.locals j l)) u

  pub read_harmless : NoPingEvent f → Harmless f (read (number_of q) v).access
  read_harmless u = harmless f t (read (number_of q) v) refl (λ j l. refl) u

  pub write_harmless_pairs : Unwrong f → HarmlessPairs f (write (number_of q) v).access
  write_harmless_pairs =
      harmless_pairs f t (write (number_of q) v) (spares f t q v b p (Only PingEnable) c.enable) (λ j l. spares f t q v b p (Local Field.En j) (c.locals j l))

  pub read_harmless_pairs : Unwrong f → HarmlessPairs f (read (number_of q) v).access
  read_harmless_pairs = harmless_pairs f t (read (number_of q) v) refl (λ j l. refl)

  -- the EN of a local alert is as before
  pub write_local : (j : ℕ) → j < local_count → value (reach f (write (number_of q) v)) (Local Field.En j) ≡ value f (Local Field.En j)
  write_local =
      same_local f t (write (number_of q) v) (spares f t q v b p (Only PingEnable) c.enable) (λ j l. spares f t q v b p (Local Field.En j) (c.locals j l))

  pub read_local : (j : ℕ) → j < local_count → value (reach f (read (number_of q) v)) (Local Field.En j) ≡ value f (Local Field.En j)
  read_local = same_local f t (read (number_of q) v) refl (λ j l. refl)
