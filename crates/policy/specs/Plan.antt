-- Request (vi), "Boot policy": what is written, in order, and the boot.
-- Assumes nothing.
use Rattle.std.specs.Prelude.{ℕ, zero, suc, Bool, true, false, cond, ◌&&◌, List, [], ◌∷◌, ◌++◌, eqb, ltb, pos, neg_ℤ, replicate}
use Rattle.rules.specs.State.{class_count}
use Rattle.rules.specs.Valid.{valid}
use Rattle.rules.specs.declared.Field.{Field}
use Rattle.rules.specs.declared.Handler.{Handler}
use Rattle.rules.specs.declared.Register.{Register}
use Rattle.rules.specs.declared.Register.TheVariants.{Alert, Block}
use Rattle.rules.specs.declared.Setting.{Setting}
use Rattle.rules.specs.declared.Setting.TheVariants.{Ctrl, AccumThresh, TimeoutCyc, PhaseCyc}
use Rattle.policy.specs.Install.{Entry, under, install, asks}
use Rattle.policy.specs.Table.{alert_count, mark_at}
use Rattle.policy.specs.declared.Bar.{Bar}
use Rattle.policy.specs.declared.Bar.TheVariants.{BadState, FewAlerts}
use Rattle.policy.specs.declared.Installed.{Installed}
use Rattle.policy.specs.declared.Lifecycle.{Lifecycle}
use Rattle.policy.specs.declared.Mark.{Mark}
use Rattle.policy.specs.declared.Mark.TheVariants.{A, B, C, D, X}

-- ── alerts ──

-- X means EN 0 and CLASS 0
abbrev pub class_of : Mark → ℕ
class_of A = 0
class_of B = 1
class_of C = 2
class_of D = 3
class_of X = 0

abbrev pub en_of : Mark → ℕ
en_of A = 1
en_of B = 1
en_of C = 1
en_of D = 1
en_of X = 0

abbrev pub is_a : Mark → Bool
is_a A = true
is_a B = false
is_a C = false
is_a D = false
is_a X = false

-- ── classes ──

-- classes A and B get EN in PROD, PROD_END and DEV, C and D never
abbrev pub enables : Lifecycle → Bool
enables Lifecycle.Raw = false
enables Lifecycle.Prod = true
enables Lifecycle.ProdEnd = true
enables Lifecycle.Dev = true
enables Lifecycle.Rma = false
enables Lifecycle.Scrap = false

-- class A gets LOCK, and its REGWEN and those of alerts marked A are locked, only in PROD and PROD_END
abbrev pub locks : Lifecycle → Bool
locks Lifecycle.Raw = false
locks Lifecycle.Prod = true
locks Lifecycle.ProdEnd = true
locks Lifecycle.Dev = false
locks Lifecycle.Rma = false
locks Lifecycle.Scrap = false

-- CTRL of class k is 0x393C with these bits: 1 is EN, 2 is LOCK
abbrev pub ctrl_of : Lifecycle → ℕ → ℕ
ctrl_of l k = cond (eqb k 0 && locks l) 0x393F (cond (ltb k 2 && enables l) 0x393D 0x393C)

-- document 002, "Alert Escalation Phase Configuration": threshold and timeout are 0; the length of phase p of classes A and B, those of C and D are 0
abbrev pub phase_length : ℕ → ℕ
phase_length zero = 0
phase_length (suc zero) = 10
phase_length (suc (suc zero)) = 10
phase_length (suc (suc (suc p))) = 0xFFFFFFFF

abbrev pub length_of : ℕ → ℕ → ℕ
length_of k p = cond (ltb k 2) (phase_length p) 0

-- ── the plan ──

abbrev pub entry : Register → ℕ → Entry
entry q v = record { register = q; value = v }

-- each alert's CLASS then EN
unfoldable pub alert_entries : Lifecycle → ℕ → List Entry
alert_entries l i = entry (Alert Field.Class i) (class_of (mark_at l i)) ∷ entry (Alert Field.En i) (en_of (mark_at l i)) ∷ []

-- each class's threshold, timeout, lengths and CTRL
unfoldable pub class_entries : Lifecycle → ℕ → List Entry
class_entries l k =
    entry (Block AccumThresh k) 0
    ∷ entry (Block TimeoutCyc k) 0
    ∷ entry (Block (PhaseCyc 0) k) (length_of k 0)
    ∷ entry (Block (PhaseCyc 1) k) (length_of k 1)
    ∷ entry (Block (PhaseCyc 2) k) (length_of k 2)
    ∷ entry (Block (PhaseCyc 3) k) (length_of k 3)
    ∷ entry (Block Ctrl k) (ctrl_of l k)
    ∷ []

-- the alert locks: REGWEN of alert i, if it is marked A
unfoldable pub lock_entries : Lifecycle → ℕ → List Entry
lock_entries l i = cond (locks l && is_a (mark_at l i)) (entry (Alert Field.Regwen i) 0 ∷ []) []

-- and the class lock, of class A
unfoldable pub class_lock : Lifecycle → List Entry
class_lock l = cond (locks l) (entry (Block Setting.Regwen 0) 0 ∷ []) []

-- numbers rising: f 0, f 1, .. up to n, one after another
unfoldable pub parts_to : (ℕ → List Entry) → ℕ → List Entry
parts_to f zero = []
parts_to f (suc i) = parts_to f i ++ f i

-- local alerts and alerts from 58 up are not written
unfoldable pub plan_of : Lifecycle → List Entry
plan_of l =
    parts_to (alert_entries l) alert_count ++ (parts_to (class_entries l) class_count ++ (parts_to (lock_entries l) alert_count ++ class_lock l))

-- ── the boot ──

-- a boot that does not begin: 7, or 13 where N is under 58
abbrev pub bar_number : Bar → ℕ
bar_number BadState = 7
bar_number FewAlerts = 13

-- it gives register 0 and an unchanged state
abbrev pub barred : Handler → Bar → Installed
barred h b = record { handler = h; answer = neg_ℤ (pos (bar_number b)); register = 0; spare = replicate 6 0 }

-- 7 comes before 13
unfoldable pub boot : Lifecycle → Handler → Installed
boot l h = cond (valid h) (cond (ltb h.n alert_count) (barred h FewAlerts) (install (under h) (asks (plan_of l))).reached) (barred h BadState)

-- ── lifecycles by number ──

-- RAW/TEST 0, PROD 1, PROD_END 2, DEV 3, RMA 4, SCRAP 5; any other number is read as the strictest, PROD_END
unfoldable pub lifecycle_of : ℕ → Lifecycle
lifecycle_of n =
    cond (eqb n 0) Lifecycle.Raw
    (cond (eqb n 1) Lifecycle.Prod
    (cond (eqb n 2) Lifecycle.ProdEnd (cond (eqb n 3) Lifecycle.Dev (cond (eqb n 4) Lifecycle.Rma (cond (eqb n 5) Lifecycle.Scrap Lifecycle.ProdEnd)))))
