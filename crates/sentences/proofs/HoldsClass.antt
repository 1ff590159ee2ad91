-- The rules of one class satisfy the sentences: each is one `simp` with its own facts.
-- Assumes nothing.
use Prim.Native.Nat.{ℕ, zero, suc, ◌+◌, ◌<◌}
use mathlib.Core.Path.{◌≡◌, refl, sym, ◌∙◌}
use mathlib.Core.Logic.Iff
use mathlib.Core.Logic.{◌↔◌, inl, inr, ⊎_elim}
use mathlib.Core.Bool.{Bool, true, false, false≢true, cond, ◌&&◌, ◌||◌}
use native.Mathlib.Omega.{arith}
use borrow.Author.Tests.{le-leb, lt-leb, lt-ltb}
use lib.Dec.{leb}
use Rattle.bits.proofs.IndexLaws.{true_and, or_right}
use Rattle.class_rules.specs.Class.{lock, phase_cyc, phase, state_of, state_number}
use Rattle.class_rules.specs.Step.{trigger, due, counted, at, starts, starts_from, after_phase, in_phase, moved_from, moved, class_step}
use Rattle.class_rules.specs.declared.Class.{Class}
use Rattle.class_rules.specs.declared.ClassState.TheVariants.{Idle, Timeout, Phase0}
use Rattle.class_rules.specs.declared.Signals.{Signals}
use Rattle.sentences.specs.Fits.{Fits}
use Rattle.sentences.specs.ClassStep.{Trigger, Due, Enters, Stepped, ClassStep}
use Rattle.sentences.proofs.SentenceCases.{by_state, by_phase, off, and_is}
use Rattle.sentences.proofs.SentenceWords.{trigger_is, due_is}

-- the number of phase p, and what follows it
phase_number : (p : ℕ) → p < 4 → state_number (phase p) ≡ 4 + p
phase_number = by_phase (λ p. state_number (phase p) ≡ 4 + p) refl refl refl refl

after_phase_law : (p : ℕ) → p < 3 → after_phase p ≡ at (phase (p + 1)) 1
after_phase_law zero h = refl
after_phase_law (suc zero) h = refl
after_phase_law (suc (suc zero)) h = refl
after_phase_law (suc (suc (suc p))) h = absurd (omega arith)

module _ (s : Signals) (c : Class) where
  in_phase_law : (p : ℕ) → p < 4 → c.state ≡ 4 + p → moved s c ≡ in_phase p s c
  unfolding state_of moved_from
  in_phase_law =
      by_phase (λ p. c.state ≡ 4 + p → moved s c ≡ in_phase p s c) (λ i. simp i) (λ i. simp i) (λ i. simp i) (λ i. simp i)

  -- ── LOCK: the test of a start, and entering Phase 0 ──

  pub unstarted_phase : (p : ℕ) → p < 4 → c.state ≡ 4 + p → starts s c ≡ false
  unfolding state_of starts_from
  unstarted_phase = by_phase (λ p. c.state ≡ 4 + p → starts s c ≡ false) (λ i. simp i) (λ i. simp i) (λ i. simp i) (λ i. simp i)

  -- Phase 0 is reached by the first arm only
  by_first : (t u : Bool) (n o : ℕ) → state_number (cond t (at Phase0 1) (cond u (at Timeout n) (at Idle o))).state ≡ 4 → t ≡ true
  by_first true u n o e = refl
  by_first false true n o e = absurd (omega arith)
  by_first false false n o e = absurd (omega arith)

  pub starts_is : Fits c → (starts s c ≡ true) ↔ Enters c (class_step s c)
  unfolding class_step state_of moved_from starts_from
  starts_is f = (
    by_state (λ m. c.state ≡ m → starts s c ≡ true → Enters c (class_step s c))
        (λ i t. (inl i, simp (i, (simp i at t)))) (λ i t. (inr i, simp (i, (simp i at t))))
        (λ i t. absurd (false≢true (simp i at t))) (λ p h i t. absurd (false≢true (sym (unstarted_phase p h i) ∙ t))) c.state f.state
        f.is_state refl,
    λ h.
        ⊎_elim (λ (i : c.state ≡ 0). simp i (by_first (trigger s c) (due s c) 1 c.count (simp i at h.1)))
        (λ (i : c.state ≡ 1).
        simp i (by_first (trigger s c || (due s c && leb c.timeout c.count)) (due s c) (c.count + 1) 0 (simp i at h.1))) h.0,
  )

  -- ── the sentences ──

  pub stepped : Fits c → Stepped s c (class_step s c)
  unfolding class_step counted state_of moved_from starts_from
  stepped f =
      let yes_trigger : Trigger s c → trigger s c ≡ true = (trigger_is s c).1 in
      let no_trigger : ¬ Trigger s c → trigger s c ≡ false = off (trigger s c) (trigger_is s c) in
      let yes_due : Due s c → due s c ≡ true = (due_is s c).1 in
      let no_due : ¬ Due s c → due s c ≡ false = off (due s c) (due_is s c) in
      record {
        accum_clear = λ x. simp x;
        accum_adds = λ x y l. simp (x, y, lt-ltb c.accum 65535 l);
        accum_full = λ x y e. simp (x, y, e);
        accum_stays = λ x y. simp (x, y);
        idle_starts = λ i t. simp (i, yes_trigger t) (refl, refl);
        idle_due = λ i t u. simp (i, no_trigger t, yes_due u) (refl, refl);
        idle_stays = λ i t u. simp (i, no_trigger t, no_due u) (refl, refl);
        timeout_starts = λ i t. simp (i, yes_trigger t) (refl, refl);
        timeout_ends = λ i u l.
            simp (i, or_right (trigger s c) (true_and (yes_due u) (le-leb c.timeout c.count l))) (refl, refl);
        timeout_adds = λ i t u l. simp (i, no_trigger t, yes_due u, lt-leb c.timeout c.count l) (refl, refl);
        timeout_stops = λ i t u. simp (i, no_trigger t, no_due u) (refl, refl);
        phase_clear = λ p h i x. let q : p < 4 = omega arith in simp (in_phase_law p q i, x) (refl, refl);
        phase_ends = λ p h i x l.
            let q : p < 4 = omega arith in
            simp (in_phase_law p q i, x, le-leb (phase_cyc c p) c.count l, after_phase_law p h) (phase_number (p + 1) (omega arith), refl);
        phase_last = λ i x l. simp (i, x, le-leb (phase_cyc c 3) c.count l) (refl, refl);
        phase_adds = λ p h i x l. simp (in_phase_law p h i, x, lt-leb (phase_cyc c p) c.count l) (phase_number p h, refl);
        terminal_clear = λ i x. simp (i, x) (refl, refl);
        terminal_stays = λ i x. simp (i, x) (refl, refl);
        locks = λ h l. simp (true_and ((starts_is f).1 h) l);
        clrwen_stays = λ n. simp (off (starts s c && lock c) (and_is (starts s c) (lock c) (starts_is f) Iff.rfl) n);
        lengths = refl;
        timeout = refl;
        ctrl = refl;
        thresh = refl;
        regwen = refl;
      }

pub holds_class : ClassStep class_step
holds_class s c f = stepped s c f
