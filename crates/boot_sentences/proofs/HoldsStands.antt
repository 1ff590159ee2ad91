-- What the policy's boot leaves satisfies the sentences of it.
-- Assumes nothing.
use Prim.Native.Nat.{ℕ, ◌≤◌, ◌<◌}
use mathlib.Core.Path.{◌≡◌, refl, sym, ap, ap₂, ◌∙◌}
use mathlib.Core.Logic.{inl, inr}
use mathlib.Core.Bool.{Bool, true, false, cond, not, ◌||◌}
use native.Mathlib.Omega.{arith}
use native.Mathlib.Decide.{dec_lt}
use borrow.Author.Tests.{eqb-true, lt-ltb, le-ltb}
use lib.Dec.{eqb, ltb}
use Rattle.bits.proofs.IndexLaws.{all_at}
use Rattle.bits.specs.Index.{all_to}
use Rattle.boot_laws.specs.Stands.{Success}
use Rattle.boot_laws.proofs.Boots.{boots}
use Rattle.policy.specs.Plan.{class_of, en_of, is_a, locks, ctrl_of, boot, lifecycle_of}
use Rattle.policy.specs.Table.{mark_at}
use Rattle.policy.specs.declared.Lifecycle.{Lifecycle}
use Rattle.rules.specs.Access.{value}
use Rattle.rules.specs.declared.Field.{Field}
use Rattle.rules.specs.declared.Handler.{Handler}
use Rattle.boot_sentences.specs.Classification.{Letter, letter}
use Rattle.boot_sentences.specs.Classification.Letter.{A, B, C, D, X}
use Rattle.boot_sentences.specs.Order.{class, enable, Locks}
use Rattle.boot_sentences.specs.Stands.{Stands, Unwritten}
use Rattle.boot_sentences.proofs.HoldsOrder.{by_column, ctrl_a, ctrl_b, locks_is, dev_not, enables_is, enables_not}

-- names what is computed
unfoldable tables : ℕ → ℕ
unfolding mark_at letter lifecycle_of all_to
tables n = n

-- ── the policy's marks are the letters ──

abbrev Classes : ℕ → Type 0
Classes c = all_to (λ i. eqb (class_of (mark_at (lifecycle_of c) i)) (class (letter c i))) 58 ≡ true

class_same : (c : ℕ) → c ≤ 5 → (i : ℕ) → i < 58 → class_of (mark_at (lifecycle_of c) i) ≡ class (letter c i)
unfolding tables
class_same c l i m =
    eqb-true _ _ (all_at (λ i. eqb (class_of (mark_at (lifecycle_of c) i)) (class (letter c i))) 58 (by_column Classes refl refl refl refl refl refl c l) i m)

abbrev Enabled : ℕ → Type 0
Enabled c = all_to (λ i. eqb (en_of (mark_at (lifecycle_of c) i)) (enable (letter c i))) 58 ≡ true

en_same : (c : ℕ) → c ≤ 5 → (i : ℕ) → i < 58 → en_of (mark_at (lifecycle_of c) i) ≡ enable (letter c i)
unfolding tables
en_same c l i m =
    eqb-true _ _ (all_at (λ i. eqb (en_of (mark_at (lifecycle_of c) i)) (enable (letter c i))) 58 (by_column Enabled refl refl refl refl refl refl c l) i m)

-- marked A where the letter is A
abbrev is_a_law : Letter → Bool
is_a_law A = true
is_a_law B = false
is_a_law C = false
is_a_law D = false
is_a_law X = false

abbrev MarkedA : ℕ → Type 0
MarkedA c = all_to (λ i. not (is_a_law (letter c i)) || is_a (mark_at (lifecycle_of c) i)) 58 ≡ true

a_same : (c : ℕ) → c ≤ 5 → (i : ℕ) → i < 58 → letter c i ≡ A → is_a (mark_at (lifecycle_of c) i) ≡ true
unfolding tables
a_same c l i m e =
    sym (ap (λ (x : Letter). not (is_a_law x) || is_a (mark_at (lifecycle_of c) i)) e)
    ∙ all_at (λ i. not (is_a_law (letter c i)) || is_a (mark_at (lifecycle_of c) i)) 58 (by_column MarkedA refl refl refl refl refl refl c l) i m

locks_same : (c : ℕ) → Locks c → locks (lifecycle_of c) ≡ true
unfolding lifecycle_of
locks_same c (inl e) = ap (λ (x : ℕ). locks (lifecycle_of x)) e
locks_same c (inr e) = ap (λ (x : ℕ). locks (lifecycle_of x)) e

ctrl_same : (c : ℕ) → c ≤ 5 → (ctrl_of (lifecycle_of c) 0 ≡ ctrl_a c) × (ctrl_of (lifecycle_of c) 1 ≡ ctrl_b c)
unfolding lifecycle_of
ctrl_same c l =
    by_column (λ c. (ctrl_of (lifecycle_of c) 0 ≡ ctrl_a c) × (ctrl_of (lifecycle_of c) 1 ≡ ctrl_b c)) (refl, refl) (refl, refl) (refl, refl) (refl, refl) (refl, refl) (refl, refl)
    c l

-- ── after a success ──

length_ab : (k : ℕ) → k < 2 → k < 4
length_ab k l = omega arith

pub holds_stands : (c : ℕ) (h : Handler) → c ≤ 5 → Success (lifecycle_of c) h → Stands c (boot (lifecycle_of c) h).handler
unfolding value
holds_stands c h l s =
    let t = (boots (lifecycle_of c) h).stands s in
    let e = ctrl_same c l in
    record {
      alert_class = λ i m. t.class i m ∙ class_same c l i m;
      alert_en = λ i m. t.enable i m ∙ en_same c l i m;
      alert_lock = λ i m k a. t.alert_locks i m (locks_same c k) (a_same c l i m a);
      class_lock_law = λ k. (t.class_locks (locks_same c k)).0;
      threshold = t.thresh;
      timeout = t.timeout;
      phase_0 = λ k m. t.lengths k 0 (length_ab k m) (omega arith) ∙ short k m 0;
      phase_1 = λ k m. t.lengths k 1 (length_ab k m) (omega arith) ∙ short k m 10;
      phase_2 = λ k m. t.lengths k 2 (length_ab k m) (omega arith) ∙ short k m 10;
      phase_3 = λ k m. t.lengths k 3 (length_ab k m) (omega arith) ∙ short k m 0xFFFFFFFF;
      no_response = λ k p a b m. t.lengths k p b m ∙ long k a _;
      ctrl_a_lock = λ k. t.ctrl 0 (omega arith) ∙ e.0 ∙ ap (λ (b : Bool). cond b 0x393F (cond (eqb c 3) 0x393D 0x393C)) (locks_is c k);
      ctrl_a_dev = λ k. let d = dev_not c k in t.ctrl 0 (omega arith) ∙ e.0 ∙ ap₂ (λ (a b : Bool). cond a 0x393F (cond b 0x393D 0x393C)) d.0 d.1;
      ctrl_a_off = λ k. let d = enables_not c k in t.ctrl 0 (omega arith) ∙ e.0 ∙ ap₂ (λ (a b : Bool). cond a 0x393F (cond b 0x393D 0x393C)) d.0 d.1;
      ctrl_b_law = λ k. t.ctrl 1 (omega arith) ∙ e.1 ∙ ap (λ (b : Bool). cond b 0x393D 0x393C) (enables_is c k);
      ctrl_b_off = λ k. let d = enables_not c k in t.ctrl 1 (omega arith) ∙ e.1 ∙ ap₂ (λ (a b : Bool). cond (a || b) 0x393D 0x393C) d.0 d.1;
      ctrl_c = t.ctrl 2 (omega arith);
      ctrl_d = t.ctrl 3 (omega arith);
    }
  where
    short : (k : ℕ) → k < 2 → (v : ℕ) → cond (ltb k 2) v 0 ≡ v
    short k m v = rw (lt-ltb k 2 m)

    long : (k : ℕ) → 2 ≤ k → (v : ℕ) → cond (ltb k 2) v 0 ≡ 0
    long k m v = rw (le-ltb k 2 m)

-- ── after any boot ──

pub holds_unwritten : (l : Lifecycle) (h : Handler) → Unwritten h (boot l h).handler
unfolding value
holds_unwritten l h =
    let b = boots l h in
    let u = b.untouched in
    record {
      local_regwen = λ j m. u.locals Field.Regwen j m refl;
      local_en = λ j m. u.locals Field.En j m refl;
      local_class = λ j m. u.locals Field.Class j m refl;
      alert_regwen = λ i a m. by i (dec_lt i h.n) (λ k. u.others Field.Regwen i a k refl) (λ k. b.keeps_above.alerts Field.Regwen i k m);
      alert_en = λ i a m. by i (dec_lt i h.n) (λ k. u.others Field.En i a k refl) (λ k. b.keeps_above.alerts Field.En i k m);
      alert_class = λ i a m. by i (dec_lt i h.n) (λ k. u.others Field.Class i a k refl) (λ k. b.keeps_above.alerts Field.Class i k m);
    }
  where
    by : {P : Type 0} (i : ℕ) → Dec (i < h.n) → (i < h.n → P) → (h.n ≤ i → P) → P
    by i (yes k) f g = f k
    by i (no k) f g = g (omega arith)
