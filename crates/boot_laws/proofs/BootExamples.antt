-- What the theorems about a boot say, in numbers: each part of them is used at its first and last index.
-- Assumes nothing.
use Prim.Native.Nat.{ℕ, ◌≤◌, ◌<◌}
use mathlib.Core.Path.{◌≡◌, refl, sym, ap, subst}
use mathlib.Core.Bool.{true}
use native.Mathlib.Omega.{arith}
use Rattle.class_rules.specs.Class.{en, lock}
use Rattle.rules.specs.Access.{value}
use Rattle.rules.specs.Map.{number_of}
use Rattle.rules.specs.Stages.{stage}
use Rattle.rules.specs.State.{new_handler, class_at}
use Rattle.rules.specs.declared.Field.{Field}
use Rattle.rules.specs.declared.Handler.{Handler}
use Rattle.rules.specs.declared.Register.TheVariants.{Only, Local, Alert, Block}
use Rattle.rules.specs.declared.Setting.{Setting}
use Rattle.rules.specs.declared.Setting.TheVariants.{Ctrl, AccumCnt, AccumThresh, TimeoutCyc, PhaseCyc}
use Rattle.rules.specs.declared.Single.TheVariants.{IntrState, IntrEnable}
use Rattle.policy.specs.Plan.{alert_entries, class_entries, lock_entries, class_lock, parts_to, plan_of, boot}
use Rattle.policy.specs.Sound.{unnamed}
use Rattle.boot_laws.specs.Stands.{Success, NoPingEvent, NoWrongEvent}
use Rattle.policy.specs.Table.{mark_at}
use Rattle.policy.specs.declared.Installed.{Installed}
use Rattle.policy.specs.declared.Lifecycle.{Lifecycle}
use Rattle.boot_laws.proofs.Boot.{new_succeeds}
use Rattle.boot_laws.proofs.After.{boot_stands, boot_untouched, boot_eventless}

-- "On a new handler so large it always succeeds": of 58 to 248 alerts, in every lifecycle, with register 0 and answer 0
succeeds : (l : Lifecycle) (n : ℕ) → 58 ≤ n → n ≤ 248 → Success l (new_handler n)
succeeds l n a b =
    record { register = ap (λ (r : Installed). r.register) (new_succeeds l n a b); answer = ap (λ (r : Installed). r.answer) (new_succeeds l n a b) }

-- ── after a success from any state ──

module _ (h : Handler) where
  module _ (s : Success Lifecycle.Prod h) where
    abbrev g : Handler
    g = (boot Lifecycle.Prod h).handler

    -- the first and the last alert, marked C and D, alerts 14 and 56, marked A, and alert 31, marked B
    in_prod : (value g (Alert Field.Class 0) ≡ 2)
        × (value g (Alert Field.En 0) ≡ 1)
        × (value g (Alert Field.Class 57) ≡ 3)
        × (value g (Alert Field.En 57) ≡ 1)
        × (value g (Alert Field.Class 14) ≡ 0)
        × (value g (Alert Field.En 14) ≡ 1)
        × (value g (Alert Field.Regwen 14) ≡ 0)
        × (value g (Alert Field.Regwen 56) ≡ 0)
        × (value g (Alert Field.Class 31) ≡ 1)
    unfolding mark_at
    in_prod =
        let t = boot_stands Lifecycle.Prod h s in (
          t.class 0 (omega arith),
          t.enable 0 (omega arith),
          t.class 57 (omega arith),
          t.enable 57 (omega arith),
          t.class 14 (omega arith),
          t.enable 14 (omega arith),
          t.alert_locks 14 (omega arith) refl refl,
          t.alert_locks 56 (omega arith) refl refl,
          t.class 31 (omega arith),
        )

    classes_in_prod : (value g (Block AccumThresh 0) ≡ 0)
        × (value g (Block AccumThresh 3) ≡ 0)
        × (value g (Block TimeoutCyc 0) ≡ 0)
        × (value g (Block TimeoutCyc 3) ≡ 0)
        × (value g (Block (PhaseCyc 0) 0) ≡ 0)
        × (value g (Block (PhaseCyc 1) 0) ≡ 10)
        × (value g (Block (PhaseCyc 2) 1) ≡ 10)
        × (value g (Block (PhaseCyc 3) 1) ≡ 0xFFFFFFFF)
        × (value g (Block (PhaseCyc 3) 3) ≡ 0)
        × (value g (Block Ctrl 0) ≡ 0x393F)
        × (value g (Block Ctrl 1) ≡ 0x393D)
        × (value g (Block Ctrl 3) ≡ 0x393C)
        × (value g (Block Setting.Regwen 0) ≡ 0)
        × (en (class_at g 0) ≡ true)
        × (lock (class_at g 0) ≡ true)
    classes_in_prod =
        let t = boot_stands Lifecycle.Prod h s in (
          t.thresh 0 (omega arith),
          t.thresh 3 (omega arith),
          t.timeout 0 (omega arith),
          t.timeout 3 (omega arith),
          t.lengths 0 0 (omega arith) (omega arith),
          t.lengths 0 1 (omega arith) (omega arith),
          t.lengths 1 2 (omega arith) (omega arith),
          t.lengths 1 3 (omega arith) (omega arith),
          t.lengths 3 3 (omega arith) (omega arith),
          t.ctrl 0 (omega arith),
          t.ctrl 1 (omega arith),
          t.ctrl 3 (omega arith),
          (t.class_locks refl).0,
          (t.class_locks refl).1,
          (t.class_locks refl).2,
        )

  -- PROD_END locks too; in DEV class D has alert 57, alert 0 is marked X, and class A has EN alone; in RAW/TEST, RMA and SCRAP all are marked X
  last_lock : (s : Success Lifecycle.ProdEnd h) → value (boot Lifecycle.ProdEnd h).handler (Alert Field.Regwen 56) ≡ 0
  unfolding mark_at
  last_lock s = (boot_stands Lifecycle.ProdEnd h s).alert_locks 56 (omega arith) refl refl

  in_dev : (s : Success Lifecycle.Dev h)
      → (value (boot Lifecycle.Dev h).handler (Alert Field.Class 57) ≡ 3)
      × (value (boot Lifecycle.Dev h).handler (Alert Field.Class 0) ≡ 0)
      × (value (boot Lifecycle.Dev h).handler (Alert Field.En 0) ≡ 0)
      × (value (boot Lifecycle.Dev h).handler (Block Ctrl 0) ≡ 0x393D)
  unfolding mark_at
  in_dev s =
      let t = boot_stands Lifecycle.Dev h s in (t.class 57 (omega arith), t.class 0 (omega arith), t.enable 0 (omega arith), t.ctrl 0 (omega arith))

  in_scrap : (s : Success Lifecycle.Scrap h)
      → (value (boot Lifecycle.Scrap h).handler (Alert Field.Class 14) ≡ 0)
      × (value (boot Lifecycle.Scrap h).handler (Alert Field.En 14) ≡ 0)
      × (value (boot Lifecycle.Scrap h).handler (Block Ctrl 1) ≡ 0x393C)
  unfolding mark_at
  in_scrap s = let t = boot_stands Lifecycle.Scrap h s in (t.class 14 (omega arith), t.enable 14 (omega arith), t.ctrl 1 (omega arith))

  -- ── what is as before ──

  module _ (l : Lifecycle) (s : Success l h) where
    abbrev after : Handler
    after = (boot l h).handler

    untouched : NoPingEvent h → NoWrongEvent l h
        → (after.n ≡ h.n)
        × (value after (Only IntrState) ≡ value h (Only IntrState))
        × (value after (Only IntrEnable) ≡ value h (Only IntrEnable))
        × (value after (Local Field.En 6) ≡ value h (Local Field.En 6))
        × (stage after (Local Field.Class 0) ≡ stage h (Local Field.Class 0))
        × (value after (Block AccumCnt 3) ≡ value h (Block AccumCnt 3))
    untouched p z =
        let t = boot_untouched l h in
        let e = boot_eventless l h s p z in
        (t.n, e.interrupts, t.enables, t.locals Field.En 6 (omega arith) refl, t.local_stages_law Field.Class 0 (omega arith), e.counts 3 (omega arith))

    -- and by the general words, in PROD
    by_name : (l ≡ Lifecycle.Prod)
        → (stage after (Local Field.En 6) ≡ stage h (Local Field.En 6)) × (value after (Block Setting.Regwen 1) ≡ value h (Block Setting.Regwen 1))
    unfolding unnamed plan_of parts_to alert_entries class_entries lock_entries class_lock mark_at number_of
    by_name e =
        let t = boot_untouched l h in (
          t.stages (Local Field.En 6) refl (subst (λ (x : Lifecycle). unnamed (Local Field.En 6) (plan_of x) ≡ true) (sym e) refl),
          t.values (Block Setting.Regwen 1) refl (subst (λ (x : Lifecycle). unnamed (Block Setting.Regwen 1) (plan_of x) ≡ true) (sym e) refl) refl,
        )

    -- alert 57's CAUSE, and alert 58, which is not written
    of_alerts : 58 < h.n
        → (value after (Alert Field.Cause 57) ≡ value h (Alert Field.Cause 57))
        × (value after (Alert Field.Class 58) ≡ value h (Alert Field.Class 58))
        × (stage after (Alert Field.En 58) ≡ stage h (Alert Field.En 58))
    of_alerts b =
        let t = boot_untouched l h in
        (t.causes 57 (omega arith), t.others Field.Class 58 (omega arith) b refl, t.other_stages Field.En 58 (omega arith) b)
