-- From the boot of a new handler in PROD or PROD_END to the last tick of any list: class A waits Idle, the first event of an alert marked A starts
-- it, and demand 3 holds of it.
-- Assumes nothing.
use Prim.Native.Nat.{ℕ, ◌+◌, ◌-◌, ◌≤◌, ◌<◌}
use mathlib.Core.Path.{◌≡◌, refl, sym, ap, ◌∙◌, subst}
use mathlib.Core.Bool.{Bool, true, false, cond, ◌&&◌}
use mathlib.Core.Logic.{inl}
use mathlib.Core.List.{List, [], ◌∷◌}
use native.Mathlib.Omega.{arith}
use borrow.Author.Tests.{lt-ltb, eq-eqb}
use lib.Dec.{eqb, ltb}
use lib.ListN.{take}
use Rattle.bits.proofs.BitLaws.{bit_none}
use Rattle.bits.specs.Bits.{bit}
use Rattle.bits.specs.Index.{any_to}
use Rattle.class_rules.specs.Class.{en, lock, enabled, state_of}
use Rattle.class_rules.specs.declared.ClassState.TheVariants.{Idle}
use Rattle.escalation.proofs.Demand3.{demand3}
use Rattle.escalation.specs.Escalation.{Starts, Demand3}
use Rattle.escalation.specs.List.{IsTick, before, input_at}
use Rattle.laws.proofs.Tick.AlertStarts.{alert_starts}
use Rattle.laws.proofs.Tick.Frame.{after_n}
use Rattle.laws.proofs.Valid.KeepsValid.{ticked_valid, run_valid}
use Rattle.laws.proofs.Access.Locks.{acted_locked, after_locked}
use Rattle.laws.proofs.Valid.Refusal7.{ticked_handler}
use Rattle.laws.proofs.Valid.ValidLaws.{facts}
use Rattle.laws.specs.InMap.{in_map}
use Rattle.rules.specs.Access.{value, locked, acted}
use Rattle.rules.specs.Map.{number_of, guard}
use Rattle.rules.specs.Run.{run}
use Rattle.rules.specs.Stages.{stage_in}
use Rattle.rules.specs.State.{most, alert, class_at, new_handler}
use Rattle.rules.specs.Tick.{ticked}
use Rattle.rules.specs.Valid.{valid}
use Rattle.rules.specs.declared.Access.{Access}
use Rattle.rules.specs.declared.Field.{Field}
use Rattle.rules.specs.declared.Handler.{Handler}
use Rattle.rules.specs.declared.Input.{Input}
use Rattle.rules.specs.declared.Register.{Register}
use Rattle.rules.specs.declared.Register.TheVariants.{Only, Local, Alert, Block}
use Rattle.rules.specs.declared.Setting.{Setting}
use Rattle.rules.specs.declared.Setting.TheVariants.{Ctrl, AccumThresh}
use Rattle.rules.specs.declared.Single.TheVariants.{IntrState, PingEnable}
use Rattle.policy.specs.Install.{under, install, write, read, asks}
use Rattle.policy.specs.Plan.{is_a, en_of, class_of, locks, ctrl_of, plan_of, boot}
use Rattle.boot_laws.specs.FromBoot.{FirstEvent, FromBoot}
use Rattle.boot_laws.specs.Ran.{wants, reach}
use Rattle.boot_laws.specs.Stands.{Stands, Success, NoPingEvent}
use Rattle.policy.specs.Table.{alert_count, mark_at}
use Rattle.policy.specs.declared.Installed.{Installed}
use Rattle.policy.specs.declared.Lifecycle.{Lifecycle}
use Rattle.policy.specs.declared.Mark.{Mark}
use Rattle.policy.specs.declared.Mark.TheVariants.{A, B, C, D, X}
use Rattle.boot_laws.proofs.AskLaws.{install_goes, Kept, reach_kept}
use Rattle.boot_laws.proofs.After.{boot_stands}
use Rattle.boot_laws.proofs.Boot.{Went, went, begins, plan_fits, new_succeeds, not_zero}
use Rattle.boot_laws.proofs.EntryLaws.{Fit}
use Rattle.boot_laws.proofs.InstallLaws.{sound_fit, all_asks, Same}
use Rattle.boot_laws.proofs.NoPings.{Clear, plan_clear}
use Rattle.boot_laws.proofs.QuietLaws.{quiet_write, quiet_read, idle_write, idle_read, pings_write, pings_read, three_write, three_read}

-- ── a locked register along a list ──

pub run_locked : (h : Handler) (xs : List Input) (q : Register) → valid h ≡ true → in_map h.n q ≡ true → locked h q ≡ true
    → ((run h xs).n ≡ h.n) × (locked (run h xs) q ≡ true) × (value (run h xs) q ≡ value h q)
unfolding run
run_locked h [] q t a l = (refl, l, refl)
run_locked h (x ∷ xs) q t a l =
    let e = ticked_handler h x t in
    let n : (ticked h x).handler.n ≡ h.n = ap (λ (g : Handler). g.n) e ∙ after_n h x in
    let s = after_locked h x q (facts h t).n a l in
    let r = run_locked (ticked h x).handler xs q (ticked_valid h x t) (ap (λ (m : ℕ). in_map m q) n ∙ a) (ap (λ (g : Handler). locked g q) e ∙ s.0) in
    (r.0 ∙ n, r.1, r.2 ∙ ap (λ (g : Handler). value g q) e ∙ s.1)

-- what is locked in h holds the same after the list and step 1 of the next tick
pub still : (h : Handler) (ys : List Input) (x : Access) (q : Register) → valid h ≡ true → in_map h.n q ≡ true → locked h q ≡ true
    → value (acted (run h ys) x) q ≡ value h q
still h ys x q t i b =
    let r = run_locked h ys q t i b in
    (acted_locked (run h ys) x q (facts (run h ys) (run_valid h ys t)).n (ap (λ (n : ℕ). in_map n q) r.0 ∙ i) r.1).1 ∙ r.2

-- ── after the boot class A waits ──

-- valid, as many alerts, INTR_STATE 0, class A Idle, no failing ping an event, and local 3 disabled
pub record Waits (h g : Handler) : Type 0 where
  pub kept : Kept h g
  pub calm : value g (Only IntrState) ≡ 0
  pub idle : state_of (class_at g 0).state ≡ Idle
  pub unpinged : NoPingEvent g
  pub disabled : value g (Local Field.En 3) ≡ 0

module _ (l : Lifecycle) (h : Handler) (w : Went l h) (z : value h (Only IntrState) ≡ 0) (i : state_of (class_at h 0).state ≡ Idle)
    (p : NoPingEvent h) (x : value h (Local Field.En 3) ≡ 0) where
  calm_bit : (f : Handler) → value f (Only IntrState) ≡ 0 → bit f.interrupts.state 0 ≡ false
  unfolding value
  calm_bit f e = ap (λ (x : ℕ). bit x 0) e ∙ bit_none 0

  zero_same : (f : Handler) → Waits h f → Same (Only IntrState) h f
  unfolding stage_in
  zero_same f s = record { kept = s.kept; holds = s.calm ∙ sym z; staged = refl }

  pub waits : Waits h (install (under h) (asks (plan_of l))).reached.handler
  unfolding number_of
  waits =
      install_goes (Waits h) (asks (plan_of l))
      (all_asks (λ x. (f : Handler) → Waits h f → wants f x ≡ true → Waits h (reach f x)) (plan_of l) (λ e m.
      let k = sound_fit h.n (plan_of l) (plan_fits l h.n w.large) e m in
      let d = not_zero h.n e.register e.value (facts h w.good).n k in
      (by_write e.register e.value k d (plan_clear l e m), by_read e.register e.value k d (plan_clear l e m))))
      h (record { kept = record { good = w.good; n = refl }; calm = z; idle = i; unpinged = p; disabled = x }) w.going
    where
      by_write : (q : Register) (v : ℕ) → Fit h.n q v → (number_of q ≡ number_of (Only IntrState) → ⊥) → Clear q → (f : Handler) → Waits h f
          → wants f (write (number_of q) v) ≡ true → Waits h (reach f (write (number_of q) v))
      by_write q v k d c f s g =
          record {
            kept = reach_kept h f (write (number_of q) v) s.kept;
            calm = (quiet_write h f s.kept q v k c s.unpinged (inl s.disabled) (Only IntrState) refl refl d (zero_same f s) g).holds ∙ z;
            idle = idle_write h f s.kept q v k c s.unpinged (inl s.disabled) 0 (omega arith) g d (calm_bit f s.calm) s.idle;
            unpinged = pings_write h f s.kept q v k c s.unpinged (inl s.disabled);
            disabled = three_write h f s.kept q v k c s.unpinged (inl s.disabled) ∙ s.disabled;
          }

      by_read : (q : Register) (v : ℕ) → Fit h.n q v → (number_of q ≡ number_of (Only IntrState) → ⊥) → Clear q → (f : Handler) → Waits h f
          → wants f (read (number_of q) v) ≡ true → Waits h (reach f (read (number_of q) v))
      by_read q v k d c f s g =
          record {
            kept = reach_kept h f (read (number_of q) v) s.kept;
            calm = (quiet_read h f s.kept q v k c s.unpinged (inl s.disabled) (Only IntrState) refl refl d (zero_same f s) g).holds ∙ z;
            idle = idle_read h f s.kept q v k c s.unpinged (inl s.disabled) 0 (omega arith) g (calm_bit f s.calm) s.idle;
            unpinged = pings_read h f s.kept q v k c s.unpinged (inl s.disabled);
            disabled = three_read h f s.kept q v k c s.unpinged (inl s.disabled) ∙ s.disabled;
          }

-- ── marks ──

a_enables : (m : Mark) → is_a m ≡ true → en_of m ≡ 1
a_enables A e = refl
a_enables B e = refl
a_enables C e = refl
a_enables D e = refl
a_enables X e = sym (ap (λ (b : Bool). cond b 0 1) e)

a_class : (m : Mark) → is_a m ≡ true → class_of m ≡ 0
a_class A e = refl
a_class B e = ap (λ (b : Bool). cond b 0 1) e
a_class C e = ap (λ (b : Bool). cond b 0 2) e
a_class D e = ap (λ (b : Bool). cond b 0 3) e
a_class X e = refl

-- ── a state that stands so, and any list from it ──

-- class A is locked
pub class_locked : (l : Lifecycle) (h : Handler) → locks l ≡ true → Stands l h → eqb (value h (Block Setting.Regwen 0)) 0 ≡ true
class_locked l h c s = eq-eqb (value h (Block Setting.Regwen 0)) 0 (s.class_locks c).0

-- and keeps its CTRL
pub ctrl_is : (l : Lifecycle) (h : Handler) (ys : List Input) (x : Access) → locks l ≡ true → valid h ≡ true → Stands l h
    → (class_at (acted (run h ys) x) 0).ctrl ≡ 0x393F
unfolding value locked guard
ctrl_is l h ys x c t s =
    let d : ctrl_of l 0 ≡ 0x393F = rw c in still h ys x (Block Ctrl 0) t refl (class_locked l h c s) ∙ s.ctrl 0 (omega arith) ∙ d

module _ (l : Lifecycle) (c : locks l ≡ true) (h : Handler) (t : valid h ≡ true) (a : alert_count ≤ h.n) (s : Stands l h) (ys : List Input) (x : Access) where
  abbrev g : Handler
  g = acted (run h ys) x

  alert_locked : (i : ℕ) → i < alert_count → is_a (mark_at l i) ≡ true → eqb (value h (Alert Field.Regwen i)) 0 ≡ true
  alert_locked i b m = eq-eqb (value h (Alert Field.Regwen i)) 0 (s.alert_locks i b c m)

  has_alert : (i : ℕ) → i < alert_count → ltb i h.n ≡ true
  has_alert i b = lt-ltb i h.n (omega arith)

  -- an alert marked A is enabled in class A
  alert_en : (i : ℕ) → i < alert_count → is_a (mark_at l i) ≡ true → alert g Field.En i ≡ 1
  unfolding value locked guard
  alert_en i b m = still h ys x (Alert Field.En i) t (has_alert i b) (alert_locked i b m) ∙ s.enable i b ∙ a_enables (mark_at l i) m

  alert_class : (i : ℕ) → i < alert_count → is_a (mark_at l i) ≡ true → alert g Field.Class i ≡ 0
  unfolding value locked guard
  alert_class i b m = still h ys x (Alert Field.Class i) t (has_alert i b) (alert_locked i b m) ∙ s.class i b ∙ a_class (mark_at l i) m

  -- class A, with its settings
  regwen_is : (class_at g 0).regwen ≡ 0
  unfolding value locked guard
  regwen_is = still h ys x (Block Setting.Regwen 0) t refl (class_locked l h c s) ∙ (s.class_locks c).0

  thresh_is : (class_at g 0).thresh ≡ 0
  unfolding value locked guard
  thresh_is = still h ys x (Block AccumThresh 0) t refl (class_locked l h c s) ∙ s.thresh 0 (omega arith)

  is_enabled : enabled (class_at g 0) ≡ true
  unfolding bit any_to
  is_enabled = ap (λ (y : ℕ). bit y 0 && any_to (λ e. bit y (2 + e)) 4) (ctrl_is l h ys x c t s)

  has_bits : (en (class_at g 0) ≡ true) × (lock (class_at g 0) ≡ true)
  unfolding bit
  has_bits = let e = ctrl_is l h ys x c t s in (ap (λ (y : ℕ). bit y 0) e, ap (λ (y : ℕ). bit y 1) e)

module _ (l : Lifecycle) (c : locks l ≡ true) (h : Handler) (t : valid h ≡ true) (a : alert_count ≤ h.n) (s : Stands l h) (ys : List Input) (x : Input) (i : ℕ) where
  first_starts : (run h ys).n ≡ h.n → FirstEvent l (run h ys) x i → Starts (run h ys) x 0
  first_starts n e =
      let b : i < alert_count = e.is_alert in
      let d = has_bits l c h t a s ys x.access in
      record {
        is_class = omega arith;
        is_start = alert_starts (run h ys) x i 0 (omega arith) (subst (λ (m : ℕ). i < m) (sym n) (omega arith)) e.idle e.occurs e.unclear
            (alert_en l c h t a s ys x.access i b e.marked) (alert_class l c h t a s ys x.access i b e.marked)
            (is_enabled l c h t a s ys x.access) (thresh_is l c h t a s ys x.access);
        is_locked = regwen_is l c h t a s ys x.access;
        has_en = d.0;
        has_lock = d.1;
      }

-- ── the corollary ──

new_waits : (n : ℕ)
    → (value (new_handler n) (Only IntrState) ≡ 0)
    × (state_of (class_at (new_handler n) 0).state ≡ Idle)
    × (value (new_handler n) (Only PingEnable) ≡ 0)
    × (value (new_handler n) (Local Field.En 3) ≡ 0)
unfolding value new_handler state_of
new_waits n = (refl, refl, refl, refl)

run_n : (h : Handler) (ys : List Input) → valid h ≡ true → (run h ys).n ≡ h.n
unfolding run
run_n h [] t = refl
run_n h (x ∷ ys) t = run_n (ticked h x).handler ys (ticked_valid h x t) ∙ ap (λ (g : Handler). g.n) (ticked_handler h x t) ∙ after_n h x

-- in PROD and PROD_END, from a new handler of 58 to 248 alerts, and for any list of ticks after the boot
pub from_boot : (l : Lifecycle) (n : ℕ) (xs : List Input) → locks l ≡ true → alert_count ≤ n → n ≤ most → FromBoot l (boot l (new_handler n)).handler xs
unfolding new_handler
from_boot l n xs c a b =
    record {
      idle = w.idle;
      start = start;
      escalation = λ first s i k e t m j. d.escalation first 0 s k (start first s i k e) t m j;
      demand3 = d;
    }
  where
    ok : Success l (new_handler n)
    ok = record { register = ap (λ (r : Installed). r.register) (new_succeeds l n a b); answer = ap (λ (r : Installed). r.answer) (new_succeeds l n a b) }

    h : Handler
    h = (boot l (new_handler n)).handler

    w : Waits (new_handler n) h
    w =
        subst (λ (r : Installed). Waits (new_handler n) r.handler) (sym (begins l (new_handler n) (went l (new_handler n) ok).good a))
        (waits l (new_handler n) (went l (new_handler n) ok) (new_waits n).0 (new_waits n).1 (inl (new_waits n).2) (new_waits n).3)

    d : Demand3 h xs
    d = demand3 h xs w.kept.good

    start : (first s i : ℕ) → IsTick first xs s → FirstEvent l (before first h xs s) (input_at first xs s) i → Starts (before first h xs s) (input_at first xs s) 0
    start first s i k e =
        first_starts l c h w.kept.good (subst (λ (m : ℕ). alert_count ≤ m) (sym w.kept.n) a) (boot_stands l (new_handler n) ok) (take (s - first) xs)
        (input_at first xs s) i (run_n h (take (s - first) xs) w.kept.good) e
