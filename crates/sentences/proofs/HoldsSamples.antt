-- The rules of step 2 satisfy the sentences.
-- Assumes nothing.
use Prim.Native.Nat.{ℕ, zero, suc, ◌≤◌, ◌<◌}
use mathlib.Core.Path.{◌≡◌, refl, sym, ap, ◌∙◌, subst}
use mathlib.Core.Logic.{◌↔◌, ◌⊎◌, ⊎_elim}
use mathlib.Core.Bool.{Bool, true, false≢true, not, ◌&&◌}
use native.Mathlib.Decide.{dec_lt}
use native.Mathlib.Omega.{arith}
use lib.Dec.{eqb, ltb}
use Rattle.bits.specs.Bits.{bit}
use Rattle.bits.specs.Index.{any_to, place_in}
use Rattle.bits.proofs.BitLaws.{bit_none}
use Rattle.bits.proofs.IndexLaws.{and-true, length_each}
use Rattle.link_rules.specs.Pair.{equal}
use Rattle.link_rules.specs.Timer.{is_line, fails, fails_alert, fails_line}
use Rattle.rules.specs.Samples.{alert_broken, line_wrong, timed, raised, heard, alert_event, occurs, sampled, assigned}
use Rattle.rules.specs.State.{local, alert}
use Rattle.rules.specs.declared.Effects.{Effects}
use Rattle.rules.specs.declared.Field.{Field}
use Rattle.rules.specs.declared.Handler.{Handler}
use Rattle.rules.specs.declared.Sample.{Sample}
use Rattle.laws.proofs.State.StateLaws.{alert_sampled, local_sampled}
use Rattle.laws.proofs.Samples.Heard.{heard_event_law, heard_answer_law, heard_raise}
use Rattle.sentences.specs.Pairs.{Equal}
use Rattle.sentences.specs.Raw.{positive, negative}
use Rattle.sentences.specs.Receivers.{Answers, Event, Fails}
use Rattle.sentences.specs.Samples.{AlertEnabled, EqualWires, WrongPairs, DifferingWrite, RaisesFiveOrNone, Occurs, Sampled, SampleStep, EventIs, AnswersIs, AlertEventIs, OccursIs, AssignedIs}
use Rattle.sentences.specs.Turns.{AlertsTurn, LinesTurn}
use Rattle.sentences.specs.Valid.{Valid}
use Rattle.sentences.proofs.HoldsReceivers.{event_is, answers_is, fails_is}
use Rattle.sentences.proofs.HoldsSenders.{equal_is, wrong_is}
use Rattle.sentences.proofs.HoldsTurns.{line_is, alerts_is}
use Rattle.sentences.proofs.SentenceCases.{off, eq_is, lt_is, and_is, or_is, any_is, then}

-- the state after step 2
abbrev pub after2 : Handler → Sample → Effects → Handler
after2 g s f = sampled g (heard g s f)

-- ── equal wires ──

module _ (g : Handler) (s : Sample) where
  broken_is : (i : ℕ) → (alert_broken g s.alerts i ≡ true) ↔ ((i < g.n) × (AlertEnabled g i × Equal s.alerts i))
  unfolding alert_broken
  broken_is i =
      let p = positive s.alerts i in
      let m = negative s.alerts i in
      let e = and_is (ltb i g.n) (equal p m && eqb (alert g Field.En i) 1) (lt_is i g.n)
      (and_is (equal p m) (eqb (alert g Field.En i) 1) (equal_is p m) (eq_is (alert g Field.En i) 1)) in
      (λ t. let d = e.0 t in (d.0, (d.1.1, d.1.0)), λ d. e.1 (d.0, (d.1.1, d.1.0)))

  equal_wires_is : (any_to (alert_broken g s.alerts) g.n ≡ true) ↔ EqualWires g s
  equal_wires_is =
      let e = any_is _ (alert_broken g s.alerts) g.n (λ i l. broken_is i) in
      (λ t. let d = e.0 t in (d.0, d.1, d.2.1.0, d.2.1.1), λ d. e.1 (d.0, d.1, (d.1, (d.2, d.3))))

  -- ── receive pairs ──

  wrong_pairs_is : (any_to (line_wrong g s) 4 ≡ true) ↔ WrongPairs g s
  unfolding line_wrong
  wrong_pairs_is = any_is _ (line_wrong g s) 4 (λ e l. wrong_is g s.receive e)

-- ── one alert: below N its bit of what is heard ──

abbrev pub heard_event : Handler → Sample → Effects → ℕ → Bool
heard_event g s f i = ltb i g.n && place_in (heard g s f).events i

abbrev pub heard_answer : Handler → Sample → Effects → ℕ → Bool
heard_answer g s f i = ltb i g.n && place_in (heard g s f).answers i

-- a test of every alert that is looked at below N
below : {P : Type 0} (g : Handler) (i : ℕ) (t : Bool) → (i < g.n → (t ≡ true) ↔ P) → (P → i < g.n) → ((ltb i g.n && t) ≡ true) ↔ P
below {P} g i t f n = go (dec_lt i g.n)
  where
    go : Dec (i < g.n) → ((ltb i g.n && t) ≡ true) ↔ P
    go (yes l) = let e = and_is (ltb i g.n) t (lt_is i g.n) (f l) in (λ x. (e.0 x).1, λ p. e.1 (l, p))
    go (no l) = (λ x. absurd (l ((lt_is i g.n).0 (and-true (ltb i g.n) t x).0)), λ p. absurd (l (n p)))

event_bit : (g : Handler) (s : Sample) (f : Effects) (i : ℕ) → i < 256 → (place_in (heard g s f).events i ≡ true) ↔ Event g s f i
event_bit g s f i l = subst (λ (t : Bool). (t ≡ true) ↔ Event g s f i) (sym (heard_event_law g s f i l)) (event_is g s f i l)

answer_bit : (g : Handler) (s : Sample) (f : Effects) (i : ℕ) → i < 256 → (place_in (heard g s f).answers i ≡ true) ↔ Answers g s f i
answer_bit g s f i l = subst (λ (t : Bool). (t ≡ true) ↔ Answers g s f i) (sym (heard_answer_law g s f i l)) (answers_is g s f i l)

pub holds_event_bits : EventIs heard_event
holds_event_bits g s f i m = below g i (place_in (heard g s f).events i) (λ l. event_bit g s f i (omega (arith, m))) (λ d. d.0.0)

pub holds_answer_bits : AnswersIs heard_answer
holds_answer_bits g s f i m = below g i (place_in (heard g s f).answers i) (λ l. answer_bit g s f i (omega (arith, m))) (λ d. d.0.0)

pub holds_alert_event : AlertEventIs (λ g s f i. alert_event g (heard g s f) i)
unfolding alert_event
holds_alert_event g s f i m =
    below g i (place_in (heard g s f).events i && eqb (alert g Field.En i) 1)
    (λ l. and_is (place_in (heard g s f).events i) (eqb (alert g Field.En i) 1) (event_bit g s f i (omega (arith, m))) (eq_is (alert g Field.En i) 1)) (λ d. d.0.0.0)

-- ── local alerts ──

-- of seven bits 32 has the fifth alone
five : (j : ℕ) → j < 7 → bit 32 j ≡ true → j ≡ 5
unfolding bit
five zero h t = absurd (false≢true t)
five (suc zero) h t = absurd (false≢true t)
five (suc (suc zero)) h t = absurd (false≢true t)
five (suc (suc (suc zero))) h t = absurd (false≢true t)
five (suc (suc (suc (suc zero)))) h t = absurd (false≢true t)
five (suc (suc (suc (suc (suc zero))))) h t = refl
five (suc (suc (suc (suc (suc (suc zero)))))) h t = absurd (false≢true t)
five (suc (suc (suc (suc (suc (suc (suc j))))))) h t = absurd (omega arith)

raised_by : (f : Effects) (j : ℕ) → RaisesFiveOrNone f → j < 7 → (bit f.raises j ≡ true) ↔ ((j ≡ 5) × DifferingWrite f)
raised_by f j r h = (λ t. let e : j ≡ 5 = is_five t in (e, ap (bit f.raises) (sym e) ∙ t), λ d. ap (bit f.raises) d.0 ∙ d.1)
  where
    is_five : bit f.raises j ≡ true → j ≡ 5
    is_five t =
        ⊎_elim (λ (e : f.raises ≡ 0). absurd (false≢true (sym (ap (λ (x : ℕ). bit x j) e ∙ bit_none j) ∙ t)))
        (λ (e : f.raises ≡ 32). five j h (sym (ap (λ (x : ℕ). bit x j) e) ∙ t)) r

-- what raises local alert j
abbrev Raised : Handler → Sample → Effects → ℕ → Type 0
Raised g s f j =
    ((j ≡ 0) × (Fails g s f × AlertsTurn g))
    ⊎ (((j ≡ 1) × (Fails g s f × LinesTurn g)) ⊎ (((j ≡ 2) × EqualWires g s) ⊎ (((j ≡ 3) × WrongPairs g s) ⊎ ((j ≡ 5) × DifferingWrite f))))

raised_is : (g : Handler) (s : Sample) (f : Effects) (j : ℕ) → g.n ≤ 248 → g.timer.timeout ≤ 65535 → RaisesFiveOrNone f → j < 7 → (raised g s f j ≡ true) ↔ Raised g s f j
unfolding raised
raised_is g s f j n fits r h =
    let t = g.links.turn in
    let m = timed g s f in
    let e = fails_is g s f n fits in
    or_is (eqb j 0 && fails_alert m t) _
    (and_is (eqb j 0) (fails_alert m t) (eq_is j 0) (and_is (fails m t) (not (is_line t)) e (alerts_is g)))
    (or_is (eqb j 1 && fails_line m t) _
    (and_is (eqb j 1) (fails_line m t) (eq_is j 1) (and_is (fails m t) (is_line t) e (line_is g)))
    (or_is (eqb j 2 && any_to (alert_broken g s.alerts) g.n) _
    (and_is (eqb j 2) (any_to (alert_broken g s.alerts) g.n) (eq_is j 2) (equal_wires_is g s))
    (or_is (eqb j 3 && any_to (line_wrong g s) 4) (bit f.raises j)
    (and_is (eqb j 3) (any_to (line_wrong g s) 4) (eq_is j 3) (wrong_pairs_is g s)) (raised_by f j r h))))

pub holds_occurs : OccursIs (λ g s f. occurs g (heard g s f))
unfolding occurs
holds_occurs g s f j n fits r h =
    let e = and_is (bit (heard g s f).raises j) (eqb (local g Field.En j) 1)
    (subst (λ (t : Bool). (t ≡ true) ↔ Raised g s f j) (sym (heard_raise g s f j h)) (raised_is g s f j n fits r h)) (eq_is (local g Field.En j) 1) in
    (λ t. let d = e.0 t in (d.1, d.0), λ d. e.1 (d.1, d.0))

-- ── what is assigned to a class ──

pub holds_assigned : AssignedIs (λ g s f. assigned g (heard g s f))
unfolding assigned
holds_assigned g s f k n fits r =
    let a = any_is _ (λ i. alert_event g (heard g s f) i && eqb (alert g Field.Class i) k) g.n
    (λ i l. and_is (alert_event g (heard g s f) i) (eqb (alert g Field.Class i) k) (holds_alert_event g s f i n) (eq_is (alert g Field.Class i) k)) in
    let b = any_is _ (λ j. occurs g (heard g s f) j && eqb (local g Field.Class j) k) 7
    (λ j l. and_is (occurs g (heard g s f) j) (eqb (local g Field.Class j) k) (holds_occurs g s f j n fits r l) (eq_is (local g Field.Class j) k)) in
    or_is (any_to (λ i. alert_event g (heard g s f) i && eqb (alert g Field.Class i) k) g.n) (any_to (λ j. occurs g (heard g s f) j && eqb (local g Field.Class j) k) 7)
    (then a (λ d. (d.0, d.2.0.0, d.2.0.1, d.2.1), λ d. (d.0, d.1.0.0, ((d.1, d.2), d.3))))
    (then b (λ d. (d.0, d.1, d.2.0, d.2.1), λ d. (d.0, d.1, (d.2, d.3))))

-- ── the state after step 2 ──

module _ (g : Handler) (s : Sample) (f : Effects) (v : Valid g) (r : RaisesFiveOrNone f) where
  samples_hold : Sampled g s f (after2 g s f)
  unfolding sampled
  samples_hold =
      let on_event : (i : ℕ) → Event g s f i → AlertEnabled g i → alert_event g (heard g s f) i ≡ true = λ i e n. (holds_alert_event g s f i v.n).1 (e, n) in
      let on_local : (j : ℕ) → j < 7 → Occurs g s f j → occurs g (heard g s f) j ≡ true = λ j l o. (holds_occurs g s f j v.n v.ping_timeout r l).1 o in
      record {
        cause_sets = λ i e n. let b : i < 248 = omega (arith, v.n, e.0.0) in alert_sampled g (heard g s f) Field.Cause i b ∙ simp (on_event i e n);
        cause_stays = λ i b n. alert_sampled g (heard g s f) Field.Cause i b ∙ simp (off (alert_event g (heard g s f) i) (holds_alert_event g s f i v.n) n);
        cause_entries = length_each 248 _;
        local_sets = λ j l o. local_sampled g (heard g s f) Field.Cause j l ∙ simp (on_local j l o);
        local_stays = λ j l n. local_sampled g (heard g s f) Field.Cause j l ∙ simp (off (occurs g (heard g s f) j) (holds_occurs g s f j v.n v.ping_timeout r l) n);
        local_entries = length_each 7 _;
        n = refl;
        links = refl;
        alert_regwen = refl;
        alert_en = refl;
        alert_class = refl;
        local_regwen = refl;
        local_en = refl;
        local_class = refl;
        classes = refl;
        interrupts = refl;
        timer = refl;
        stages = refl;
      }

pub holds_samples : SampleStep after2
holds_samples g s f v r = samples_hold g s f v r
