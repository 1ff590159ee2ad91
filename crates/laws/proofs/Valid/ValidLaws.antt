-- The test of refusal 7 and the facts that it stands for.
-- Assumes nothing.
use Prim.Native.Nat.{ℕ, zero, suc, ◌^◌, ◌<◌}
use mathlib.Core.Path.{◌≡◌, refl}
use mathlib.Core.Bool.{Bool, true, false, ◌&&◌, false≢true}
use mathlib.Core.List.{List}
use native.Mathlib.Omega.{arith}
use borrow.Author.Tests.{lt-ltb, ltb-true, leb-true, le-leb}
use lib.Dec.{ltb}
use lib.ListN.{get_or}
use Rattle.bits.specs.Bits.{fits}
use Rattle.bits.proofs.IndexLaws.{and-true, true_and, all_at, all_of}
use Rattle.class_rules.specs.Class.{phase_cyc, lengths_fit, class_fits}
use Rattle.class_rules.specs.declared.Class.{Class}
use Rattle.rules.specs.Access.{value, single_value, setting_value}
use Rattle.rules.specs.Map.{bits, single_bits, field_bits, setting_bits}
use Rattle.rules.specs.State.{local_count, class_count, local_column, alert_column, class_at}
use Rattle.rules.specs.Valid.{valid, column_fits, columns_fit}
use Rattle.rules.specs.declared.Field.{Field}
use Rattle.rules.specs.declared.Handler.{Handler}
use Rattle.rules.specs.declared.Register.{Register}
use Rattle.rules.specs.declared.Setting.{Setting}
use Rattle.rules.specs.declared.Single.{Single}
use Rattle.laws.specs.InMap.{in_map, setting_exists}
use Rattle.laws.specs.Facts.{ClassValid, Valid}
use Rattle.laws.proofs.Map.Cases.{by_kind, by_single, by_setting}
use Rattle.laws.proofs.Valid.PingFits.{timer_at, timer_of, pings_at, pings_of}
use Rattle.laws.proofs.Valid.StageFits.{stages_at, stages_of}

four_true : (a b c d : Bool) → (a && (b && (c && d))) ≡ true → (a ≡ true) × (b ≡ true) × (c ≡ true) × (d ≡ true)
four_true true true c d e = (refl, refl, (and-true c d e).0, (and-true c d e).1)
four_true true false c d e = absurd (false≢true e)
four_true false b c d e = absurd (false≢true e)

-- ── one class ──

-- each of the four lengths
lengths_at : (ls : List ℕ) → lengths_fit ls ≡ true → (p : ℕ) → p < 4 → get_or ls p 0 < 2 ^ 32
lengths_at ls e = at (four_true (fits 32 (get_or ls 0 0)) (fits 32 (get_or ls 1 0)) (fits 32 (get_or ls 2 0)) (fits 32 (get_or ls 3 0)) e)
  where
    at : (fits 32 (get_or ls 0 0) ≡ true) × (fits 32 (get_or ls 1 0) ≡ true) × (fits 32 (get_or ls 2 0) ≡ true) × (fits 32 (get_or ls 3 0) ≡ true) → (p : ℕ) → p < 4 → get_or ls p 0 < 2 ^ 32
    at a zero h = ltb-true _ _ a.0
    at a (suc zero) h = ltb-true _ _ a.1
    at a (suc (suc zero)) h = ltb-true _ _ a.2
    at a (suc (suc (suc zero))) h = ltb-true _ _ a.3
    at a (suc (suc (suc (suc p)))) h = absurd (omega arith)

-- the test of one class says these facts, and they say it
class_facts : (c : Class) → class_fits c ≡ true → ClassValid c
unfolding class_fits
class_facts c e =
    let a = and-true _ _ e in
    let b = and-true _ _ a.1 in
    let d = and-true _ _ b.1 in
    let f = and-true _ _ d.1 in
    let g = and-true _ _ f.1 in
    let i = and-true _ _ g.1 in
    let j = and-true _ _ i.1 in
    let k = and-true _ _ j.1 in
    let l = and-true _ _ k.1 in
    record {
      regwen = ltb-true _ _ a.0;
      ctrl = ltb-true _ _ b.0;
      clrwen = ltb-true _ _ d.0;
      accum = ltb-true _ _ f.0;
      thresh = ltb-true _ _ g.0;
      timeout = ltb-true _ _ i.0;
      lengths = lengths_at c.lengths j.0;
      count = ltb-true _ _ k.0;
      state = l.0;
      suits = l.1;
    }

class_fits_law : (c : Class) → ClassValid c → class_fits c ≡ true
unfolding class_fits
class_fits_law c v =
    let length_fits : (p : ℕ) → p < 4 → fits 32 (phase_cyc c p) ≡ true = λ p h. lt-ltb _ _ (v.lengths p h) in
    let lengths : lengths_fit c.lengths ≡ true =
    true_and (length_fits 0 (omega arith))
    (true_and (length_fits 1 (omega arith)) (true_and (length_fits 2 (omega arith)) (length_fits 3 (omega arith)))) in
    true_and (lt-ltb _ _ v.regwen)
    (true_and (lt-ltb _ _ v.ctrl)
    (true_and (lt-ltb _ _ v.clrwen)
    (true_and (lt-ltb _ _ v.accum)
    (true_and (lt-ltb _ _ v.thresh)
    (true_and (lt-ltb _ _ v.timeout) (true_and lengths (true_and (lt-ltb _ _ v.count) (true_and v.state v.suits))))))))

-- ── the columns of the alerts and of the local alerts ──

-- each register of a column that fits, and back
column_at : (b : ℕ) (xs : List ℕ) (n : ℕ) → column_fits b xs n ≡ true → (i : ℕ) → i < n → get_or xs i 0 < 2 ^ b
column_at b xs n e i h = ltb-true _ _ (all_at (λ j. fits b (get_or xs j 0)) n e i h)

column_of : (b : ℕ) (xs : List ℕ) (n : ℕ) → ((i : ℕ) → i < n → get_or xs i 0 < 2 ^ b) → column_fits b xs n ≡ true
column_of b xs n g = all_of (λ j. fits b (get_or xs j 0)) n (λ i h. lt-ltb _ _ (g i h))

-- what holds of all four fields holds of each
fields_at : (t : Field → Bool) → (t Field.Regwen && (t Field.En && (t Field.Class && t Field.Cause))) ≡ true → (f : Field) → t f ≡ true
fields_at t e f = at (four_true (t Field.Regwen) (t Field.En) (t Field.Class) (t Field.Cause) e) f
  where
    at : (t Field.Regwen ≡ true) × (t Field.En ≡ true) × (t Field.Class ≡ true) × (t Field.Cause ≡ true) → (f : Field) → t f ≡ true
    at a Field.Regwen = a.0
    at a Field.En = a.1
    at a Field.Class = a.2
    at a Field.Cause = a.3

module _ (column : Field → List ℕ) (n : ℕ) where
  columns_at : columns_fit column n ≡ true → (f : Field) (i : ℕ) → i < n → get_or (column f) i 0 < 2 ^ field_bits f
  columns_at e f = column_at (field_bits f) (column f) n (fields_at (λ g. column_fits (field_bits g) (column g) n) e f)

  columns_of : ((f : Field) (i : ℕ) → i < n → get_or (column f) i 0 < 2 ^ field_bits f) → columns_fit column n ≡ true
  columns_of g =
      let fit : (f : Field) → column_fits (field_bits f) (column f) n ≡ true = λ f. column_of (field_bits f) (column f) n (g f) in
      true_and (fit Field.Regwen) (true_and (fit Field.En) (true_and (fit Field.Class) (fit Field.Cause)))

-- ── the handler ──

-- a state that refusal 7 does not meet has the facts
pub facts : (h : Handler) → valid h ≡ true → Valid h
unfolding valid
facts h e =
    let a = and-true _ _ e in
    let b = and-true _ _ a.1 in
    let c = and-true _ _ b.1 in
    let d = and-true _ _ c.1 in
    let f = and-true _ _ d.1 in
    let g = and-true _ _ f.1 in
    let i = and-true _ _ g.1 in
    let j = and-true _ _ i.1 in
    record {
      n = leb-true _ _ a.0;
      state = ltb-true _ _ b.0;
      enable = ltb-true _ _ c.0;
      locals = columns_at (λ g. local_column g h.locals) local_count d.0;
      alerts = columns_at (λ g. alert_column g h.alerts) h.n f.0;
      classes = λ k l. class_facts (class_at h k) (all_at (λ x. class_fits (class_at h x)) class_count g.0 k l);
      timer = timer_at h.timer i.0;
      pings = pings_at h j.0;
      stages = stages_at h.n h.stages j.1;
    }

-- and a state with the facts is one that it does not meet
pub is_valid_law : (h : Handler) → Valid h → valid h ≡ true
unfolding valid
is_valid_law h v =
    true_and (le-leb _ _ v.n)
    (true_and (lt-ltb _ _ v.state)
    (true_and (lt-ltb _ _ v.enable)
    (true_and (columns_of (λ g. local_column g h.locals) local_count v.locals)
    (true_and (columns_of (λ g. alert_column g h.alerts) h.n v.alerts)
    (true_and (all_of (λ x. class_fits (class_at h x)) class_count (λ k l. class_fits_law (class_at h k) (v.classes k l)))
    (true_and (timer_of h.timer v.timer) (true_and (pings_of h v.pings) (stages_of h.n h.stages v.stages))))))))

-- ── every register ──

-- a register that there is one of
single_bounded : (h : Handler) → Valid h → (o : Single) → single_value o h < 2 ^ single_bits o
single_bounded h v =
    by_single (λ o. single_value o h < 2 ^ single_bits o) v.state v.enable (omega arith) v.timer.regwen v.timer.timeout v.timer.enable

-- a register of a class's block
setting_bounded : (c : Class) → ClassValid c → (s : Setting) → setting_exists s ≡ true → setting_value s c < 2 ^ setting_bits s
setting_bounded c v =
    by_setting (λ s. setting_exists s ≡ true → setting_value s c < 2 ^ setting_bits s) (λ e. v.regwen) (λ e. v.ctrl) (λ e. v.clrwen) (λ e. omega arith)
    (λ e. v.accum) (λ e. v.thresh) (λ e. v.timeout) (λ p e. v.lengths p (ltb-true _ _ e)) (λ e. v.count)
    (λ e. ltb-true _ _ (and-true _ _ v.state).0)

register_bounded : (h : Handler) → Valid h → (q : Register) → in_map h.n q ≡ true → value h q < 2 ^ bits q
unfolding value bits
register_bounded h v =
    by_kind (λ q. in_map h.n q ≡ true → value h q < 2 ^ bits q)
    (λ o a. single_bounded h v o)
    (λ f j a. v.locals f j (ltb-true _ _ a)) (λ f i a. v.alerts f i (ltb-true _ _ a))
    (λ s k a. let b = and-true (ltb k class_count) (setting_exists s) a in setting_bounded (class_at h k) (v.classes k (ltb-true _ _ b.0)) s b.1)
    (λ a. absurd (false≢true a))

-- in a valid state no in_map register holds more than its field's bits
pub bounded : (h : Handler) (q : Register) → valid h ≡ true → in_map h.n q ≡ true → value h q < 2 ^ bits q
bounded h q e a = register_bounded h (facts h e) q a
