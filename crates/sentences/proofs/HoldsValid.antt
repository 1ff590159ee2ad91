-- The test of refusal 7 satisfies its sentences.
-- Assumes nothing.
use Prim.Native.Nat.{ℕ, zero, suc, ◌≤◌, ◌<◌}
use mathlib.Core.Path.{◌≡◌, refl}
use mathlib.Core.Logic.Iff
use mathlib.Core.Logic.{◌↔◌}
use mathlib.Core.Bool.{Bool, true, false, false≢true, not, ◌||◌}
use mathlib.Core.List.{List}
use native.Mathlib.Omega.{arith}
use borrow.Author.Tests.{leb-true, le-leb}
use lib.Dec.{leb}
use lib.ListN.{get_or}
use Rattle.bits.specs.Index.{all_to}
use Rattle.bits.proofs.IndexLaws.{all_at, all_of}
use Rattle.rules.specs.State.{local_column, alert_column, class_at}
use Rattle.rules.specs.Stages.{local_stages, alert_stages, class_stages}
use Rattle.rules.specs.Valid.{column_fits, columns_fit, codes_fit, field_stages_fit, class_stages_fit, stages_fit, timer_fits, pings_fit, valid}
use Rattle.rules.specs.declared.ClassStages.{ClassStages}
use Rattle.rules.specs.declared.Field.{Field}
use Rattle.rules.specs.declared.Handler.{Handler}
use Rattle.sentences.specs.Fits.{Fits}
use Rattle.sentences.specs.Raw.{pending, line_pending}
use Rattle.sentences.specs.Turns.{AlertsTurn, LinesTurn, turn_line}
use Rattle.sentences.specs.Valid.{StagedUpTo, ValidIs}
use Rattle.sentences.proofs.SentenceCases.{eq_is, le_is, most, and_is, same_test}
use Rattle.sentences.proofs.HoldsFits.{holds_fits}
use Rattle.sentences.proofs.HoldsTurns.{line_is, alerts_is}

-- every i below n
all_is : (P : ℕ → Type 0) (f : ℕ → Bool) (n : ℕ) → ((i : ℕ) → (f i ≡ true) ↔ P i) → (all_to f n ≡ true) ↔ ((i : ℕ) → i < n → P i)
all_is P f n g = (λ t i h. (g i).0 (all_at f n t i h), λ p. all_of f n (λ i h. (g i).1 (p i h)))

-- a stage's number
staged_is : (m s : ℕ) → (leb s (suc m) ≡ true) ↔ StagedUpTo m s
staged_is m s = (λ t v e. omega (arith, leb-true s (suc m) t), λ f. le-leb s (suc m) (go s f))
  where
    go : (s : ℕ) → StagedUpTo m s → s ≤ suc m
    go zero f = omega arith
    go (suc v) f = let l : v ≤ m = f v (omega arith) in omega arith

-- ── columns: at most 1 in a field of one bit, 3 in one of two ──

abbrev UpTo : ℕ → List ℕ → ℕ → Type 0
UpTo m xs n = (i : ℕ) → i < n → get_or xs i 0 ≤ m

abbrev StagedIn : ℕ → List ℕ → ℕ → Type 0
StagedIn m xs n = (i : ℕ) → i < n → StagedUpTo m (get_or xs i 0)

module _ (xs : List ℕ) (n : ℕ) where
  ones : (column_fits 1 xs n ≡ true) ↔ UpTo 1 xs n
  ones = all_is _ _ n (λ i. most 1 (get_or xs i 0))

  threes : (column_fits 2 xs n ≡ true) ↔ UpTo 3 xs n
  threes = all_is _ _ n (λ i. most 3 (get_or xs i 0))

  staged_ones : (codes_fit 1 xs n ≡ true) ↔ StagedIn 1 xs n
  staged_ones = all_is _ _ n (λ i. staged_is 1 (get_or xs i 0))

  staged_threes : (codes_fit 2 xs n ≡ true) ↔ StagedIn 3 xs n
  staged_threes = all_is _ _ n (λ i. staged_is 3 (get_or xs i 0))

  staged_words : (codes_fit 32 xs n ≡ true) ↔ StagedIn 4294967295 xs n
  staged_words = all_is _ _ n (λ i. staged_is 4294967295 (get_or xs i 0))

-- REGWEN, EN, CLASS and CAUSE
columns_is : (column : Field → List ℕ) (n : ℕ) → (columns_fit column n ≡ true) ↔ (UpTo 1 (column Field.Regwen) n × (UpTo 1 (column Field.En) n × (UpTo 3 (column Field.Class) n × UpTo 1 (column Field.Cause) n)))
columns_is column n =
    and_is _ _ (ones (column Field.Regwen) n)
    (and_is _ _ (ones (column Field.En) n) (and_is _ _ (threes (column Field.Class) n) (ones (column Field.Cause) n)))

-- staged EN and CLASS
fields_is : (column : Field → List ℕ) (n : ℕ) → (field_stages_fit column n ≡ true) ↔ (StagedIn 1 (column Field.En) n × StagedIn 3 (column Field.Class) n)
fields_is column n = and_is _ _ (staged_ones (column Field.En) n) (staged_threes (column Field.Class) n)

-- ── classes ──

abbrev BlockStaged : ClassStages → Type 0
BlockStaged c =
    StagedUpTo 0x3FFF c.ctrl
    × (StagedUpTo 65535 c.thresh × (StagedUpTo 4294967295 c.timeout × StagedIn 4294967295 c.lengths 4))

block_is : (c : ClassStages) → (class_stages_fit c ≡ true) ↔ BlockStaged c
unfolding class_stages_fit
block_is c =
    and_is _ _ (staged_is 0x3FFF c.ctrl)
    (and_is _ _ (staged_is 65535 c.thresh) (and_is _ _ (staged_is 4294967295 c.timeout) (staged_words c.lengths 4)))

module _ (h : Handler) where
  abbrev Staged : Type 0
  Staged =
      (StagedIn 1 h.stages.locals.en 7 × StagedIn 3 h.stages.locals.class 7)
      × ((StagedIn 1 h.stages.alerts.en h.n × StagedIn 3 h.stages.alerts.class h.n)
      × (((k : ℕ) → k < 4 → BlockStaged (class_stages h.stages k)) × StagedUpTo 65535 h.stages.timeout))

  stages_is : (stages_fit h.n h.stages ≡ true) ↔ Staged
  unfolding stages_fit
  stages_is =
      and_is _ _ (fields_is (λ f. local_stages f h.stages.locals) 7)
      (and_is _ _ (fields_is (λ f. alert_stages f h.stages.alerts) h.n)
      (and_is _ _ (all_is _ _ 4 (λ k. block_is (class_stages h.stages k))) (staged_is 65535 h.stages.timeout)))

-- ── the ping timer ──

-- what an open ping must be
then_is : {P Q : Type 0} (a b : Bool) → (a ≡ true) ↔ P → (b ≡ true) ↔ Q → ((not a || b) ≡ true) ↔ (P → Q)
then_is true b f g = (λ t p. g.0 t, λ k. g.1 (k (f.0 refl)))
then_is false b f g = (λ t p. absurd (false≢true (f.1 p)), λ k. refl)

module _ (h : Handler) where
  abbrev Registers : Type 0
  Registers = (h.timer.regwen ≤ 1) × ((h.timer.timeout ≤ 65535) × (h.timer.enable ≤ 1))

  timer_is : (timer_fits h.timer ≡ true) ↔ Registers
  timer_is = and_is _ _ (most 1 h.timer.regwen) (and_is _ _ (most 65535 h.timer.timeout) (most 1 h.timer.enable))

  abbrev OwnPings : Type 0
  OwnPings =
      ((i : ℕ) → i < h.n → pending h i ≡ true → (h.timer.enable ≡ 1) × (AlertsTurn h × (i ≡ h.links.turn.alert)))
      × ((e : ℕ) → e < 4 → line_pending h e ≡ true → (h.timer.enable ≡ 1) × (LinesTurn h × (e ≡ turn_line h)))

  pings_is : (pings_fit h ≡ true) ↔ OwnPings
  unfolding pings_fit
  pings_is =
      and_is _ _
      (all_is (λ i. pending h i ≡ true → (h.timer.enable ≡ 1) × (AlertsTurn h × (i ≡ h.links.turn.alert))) _ h.n
      (λ i. then_is (pending h i) _ Iff.rfl (and_is _ _ (eq_is h.timer.enable 1) (and_is _ _ (alerts_is h) (eq_is i h.links.turn.alert)))))
      (all_is (λ e. line_pending h e ≡ true → (h.timer.enable ≡ 1) × (LinesTurn h × (e ≡ turn_line h))) _ 4
      (λ e. then_is (line_pending h e) _ Iff.rfl (and_is _ _ (eq_is h.timer.enable 1) (and_is _ _ (line_is h) (eq_is e (turn_line h))))))

-- ── the state ──

pub holds_valid : ValidIs valid
unfolding valid
holds_valid h =
    let i =
    and_is _ _ (le_is h.n 248)
    (and_is _ _ (most 15 h.interrupts.state)
    (and_is _ _ (most 15 h.interrupts.enable)
    (and_is _ _ (columns_is (λ f. local_column f h.locals) 7)
    (and_is _ _ (columns_is (λ f. alert_column f h.alerts) h.n)
    (and_is _ _ (all_is (λ k. Fits (class_at h k)) _ 4 (λ k. holds_fits (class_at h k)))
    (and_is _ _ (timer_is h) (and_is _ _ (pings_is h) (stages_is h)))))))) in (
      λ t.
          let e = i.0 t in
          let l = e.1.1.1.0 in
          let a = e.1.1.1.1.0 in
          let r = e.1.1.1.1.1.1.0 in
          let o = e.1.1.1.1.1.1.1.0 in
          let s = e.1.1.1.1.1.1.1.1 in
          record {
            n = e.0;
            intr_state = e.1.0;
            intr_enable = e.1.1.0;
            local_regwen = l.0;
            local_en = l.1.0;
            local_class = l.1.1.0;
            local_cause = l.1.1.1;
            alert_regwen = a.0;
            alert_en = a.1.0;
            alert_class = a.1.1.0;
            alert_cause = a.1.1.1;
            classes = e.1.1.1.1.1.0;
            ping_regwen = r.0;
            ping_timeout = r.1.0;
            ping_enable = r.1.1;
            alert_ping = o.0;
            line_ping = o.1;
            staged_local_en = s.0.0;
            staged_local_class = s.0.1;
            staged_alert_en = s.1.0.0;
            staged_alert_class = s.1.0.1;
            staged_ctrl = λ k m. (s.1.1.0 k m).0;
            staged_thresh = λ k m. (s.1.1.0 k m).1.0;
            staged_timeout = λ k m. (s.1.1.0 k m).1.1.0;
            staged_ping_timeout = s.1.1.1;
            staged_length = λ k p m. (s.1.1.0 k m).1.1.1 p;
          },
      λ v.
          i.1 (
            v.n,
            (
              v.intr_state,
              (
                v.intr_enable,
                (
                  (v.local_regwen, (v.local_en, (v.local_class, v.local_cause))),
                  (
                    (v.alert_regwen, (v.alert_en, (v.alert_class, v.alert_cause))),
                    (
                      v.classes,
                      (
                        (v.ping_regwen, (v.ping_timeout, v.ping_enable)),
                        (
                          (v.alert_ping, v.line_ping),
                          (
                            (v.staged_local_en, v.staged_local_class),
                            (
                              (v.staged_alert_en, v.staged_alert_class),
                              (
                                λ k m. (v.staged_ctrl k m, (v.staged_thresh k m, (v.staged_timeout k m, λ p. v.staged_length k p m))),
                                v.staged_ping_timeout,
                              ),
                            ),
                          ),
                        ),
                      ),
                    ),
                  ),
                ),
              ),
            ),
          ),
    )

pub only_valid : (f g : Handler → Bool) → ValidIs f → ValidIs g → (h : Handler) → f h ≡ g h
only_valid f g x y h = same_test (f h) (g h) (x h) (y h)
