-- Class A after the boot, in numbers: what it reads in the tick of its start, so demand 3's phases and lines are those of source document 002.
-- Assumes nothing.
use Prim.Native.Nat.{ℕ, zero, suc, ◌+◌, ◌-◌, ◌<◌, max}
use mathlib.Core.Path.{◌≡◌, refl, ap, ap₂, ◌∙◌}
use mathlib.Core.Bool.{true}
use mathlib.Core.List.{List}
use native.Mathlib.Omega.{arith}
use borrow.Author.Tests.{lt-ltb}
use lib.ListN.{take}
use Rattle.bits.proofs.IndexLaws.{true_and}
use Rattle.bits.specs.Bits.{bit, field}
use Rattle.class_rules.specs.Class.{line_enable, line_map, phase_cyc}
use Rattle.class_rules.specs.declared.Class.{Class}
use Rattle.escalation.specs.Escalation.{phase_start}
use Rattle.escalation.specs.List.{before, input_at, class_read}
use Rattle.rules.specs.Access.{value, locked}
use Rattle.rules.specs.Map.{guard}
use Rattle.rules.specs.Run.{run}
use Rattle.rules.specs.Valid.{valid}
use Rattle.rules.specs.declared.Handler.{Handler}
use Rattle.rules.specs.declared.Input.{Input}
use Rattle.rules.specs.declared.Register.TheVariants.{Block}
use Rattle.rules.specs.declared.Setting.TheVariants.{TimeoutCyc, PhaseCyc}
use Rattle.policy.specs.Plan.{locks, length_of, boot}
use Rattle.boot_laws.specs.Stands.{Stands, Success}
use Rattle.policy.specs.declared.Lifecycle.{Lifecycle}
use Rattle.boot_laws.proofs.AnyBoot.{boot_valid}
use Rattle.boot_laws.proofs.Boot.{went}
use Rattle.boot_laws.proofs.After.{boot_stands}
use Rattle.boot_laws.proofs.FromBoot.{still, class_locked, ctrl_is}

-- ── a state that stands so, any list from it, and step 1 of the next tick ──

module _ (l : Lifecycle) (c : locks l ≡ true) (h : Handler) (t : valid h ≡ true) (s : Stands l h) (ys : List Input) (x : Input) where
  abbrev read : Class
  read = class_read (run h ys) x 0

  -- the lengths of document 002
  length_is : (p : ℕ) → p < 4 → phase_cyc read p ≡ length_of 0 p
  unfolding value locked guard
  length_is p b = still h ys x.access (Block (PhaseCyc p) 0) t (true_and refl (lt-ltb p 4 b)) (class_locked l h c s) ∙ s.lengths 0 p (omega arith) b

  -- and no timeout
  pub timeout_is : read.timeout ≡ 0
  unfolding value locked guard
  timeout_is = still h ys x.access (Block TimeoutCyc 0) t refl (class_locked l h c s) ∙ s.timeout 0 (omega arith)

  has_ctrl : read.ctrl ≡ 0x393F
  has_ctrl = ctrl_is l h ys x.access c t s

  -- how many ticks after the start Phases 0 to 3 and Terminal start
  pub starts_at : (phase_start read 0 ≡ 0)
      × (phase_start read 1 ≡ 1)
      × (phase_start read 2 ≡ 11)
      × (phase_start read 3 ≡ 21)
      × (phase_start read 4 ≡ 4294967316)
  starts_at =
      let a : phase_start read 1 ≡ 1 = ap (λ (x : ℕ). 0 + max x 1) (length_is 0 (omega arith)) in
      let b : phase_start read 2 ≡ 11 = ap₂ (λ (x y : ℕ). x + max y 1) a (length_is 1 (omega arith)) in
      let d : phase_start read 3 ≡ 21 = ap₂ (λ (x y : ℕ). x + max y 1) b (length_is 2 (omega arith)) in
      let e : phase_start read 4 ≡ 4294967316 = ap₂ (λ (x y : ℕ). x + max y 1) d (length_is 3 (omega arith)) in (refl, a, b, d, e)

  -- every line is enabled, line e in phase e
  pub line_is : (e : ℕ) → e < 4 → (line_enable read e ≡ true) × (line_map read e ≡ e)
  unfolding bit
  line_is zero b = (ap (λ (x : ℕ). bit x 2) has_ctrl, ap (λ (x : ℕ). field 6 2 x) has_ctrl)
  line_is (suc zero) b = (ap (λ (x : ℕ). bit x 3) has_ctrl, ap (λ (x : ℕ). field 8 2 x) has_ctrl)
  line_is (suc (suc zero)) b = (ap (λ (x : ℕ). bit x 4) has_ctrl, ap (λ (x : ℕ). field 10 2 x) has_ctrl)
  line_is (suc (suc (suc zero))) b = (ap (λ (x : ℕ). bit x 5) has_ctrl, ap (λ (x : ℕ). field 12 2 x) has_ctrl)
  line_is (suc (suc (suc (suc e)))) b = absurd (omega arith)

-- ── after a boot in PROD or PROD_END that succeeded, in any tick of any list that follows ──

module _ (l : Lifecycle) (c : locks l ≡ true) (h : Handler) (s : Success l h) (xs : List Input) (first u : ℕ) where
  abbrev g : Handler
  g = (boot l h).handler

  good : valid g ≡ true
  good = boot_valid l h (went l h s).good

  pub boot_phases : (phase_start (class_read (before first g xs u) (input_at first xs u) 0) 0 ≡ 0)
      × (phase_start (class_read (before first g xs u) (input_at first xs u) 0) 1 ≡ 1)
      × (phase_start (class_read (before first g xs u) (input_at first xs u) 0) 2 ≡ 11)
      × (phase_start (class_read (before first g xs u) (input_at first xs u) 0) 3 ≡ 21)
      × (phase_start (class_read (before first g xs u) (input_at first xs u) 0) 4 ≡ 4294967316)
  boot_phases = starts_at l c g good (boot_stands l h s) (take (u - first) xs) (input_at first xs u)

  pub boot_lines : (e : ℕ) → e < 4
      → (line_enable (class_read (before first g xs u) (input_at first xs u) 0) e ≡ true) × (line_map (class_read (before first g xs u) (input_at first xs u) 0) e ≡ e)
  boot_lines = line_is l c g good (boot_stands l h s) (take (u - first) xs) (input_at first xs u)
