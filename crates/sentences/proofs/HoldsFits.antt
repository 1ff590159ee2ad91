-- The test of refusal 7 of one class satisfies its sentences.
-- Assumes nothing.
use Prim.Native.Nat.{ℕ, ◌+◌, ◌≤◌, ◌<◌}
use mathlib.Core.Path.{◌≡◌, refl, ap}
use mathlib.Core.Logic.{◌↔◌, ◌≢◌}
use mathlib.Core.Bool.{true, not}
use mathlib.Core.List.{List}
use native.Mathlib.Omega.{arith}
use borrow.Author.Tests.{eqb-false, ne_eqb, not-true}
use lib.Dec.{eqb}
use lib.ListN.{get_or}
use Rattle.class_rules.specs.Class.{state_of, count_fits, state_fits, lengths_fit, class_fits}
use Rattle.sentences.specs.Fits.{CountFits, ClassFits}
use Rattle.sentences.proofs.SentenceCases.{by_state, by_phase, eq_is, most, and_then, and_is}

differs : (n m : ℕ) → (not (eqb n m) ≡ true) ↔ (n ≢ m)
differs n m = (λ t. eqb-false n m (not-true (eqb n m) t), λ e. ap not (ne_eqb n m e))

some : (n : ℕ) → (not (eqb n 0) ≡ true) ↔ (1 ≤ n)
some n = (λ t. let z : n ≢ 0 = (differs n 0).0 t in omega arith, λ l. (differs n 0).1 (λ e. omega arith))

-- ── the count ──

module _ (n : ℕ) where
  phase_suits : (p : ℕ) → p < 4 → (count_fits (state_of (4 + p)) n ≡ true) ↔ (1 ≤ n)
  unfolding state_of
  phase_suits = by_phase (λ p. (count_fits (state_of (4 + p)) n ≡ true) ↔ (1 ≤ n)) (some n) (some n) (some n) (some n)

  -- of each state, one of the four sentences speaks
  idle : n ≡ 0 → CountFits 0 n
  idle e = record { in_idle = λ _. e; in_terminal = λ i. absurd (omega arith); in_timeout = λ i. absurd (omega arith); in_phase_law = λ p h i. absurd (omega arith) }

  timeout : 1 ≤ n → CountFits 1 n
  timeout l = record { in_idle = λ i. absurd (omega arith); in_terminal = λ i. absurd (omega arith); in_timeout = λ _. l; in_phase_law = λ p h i. absurd (omega arith) }

  terminal : n ≡ 0 → CountFits 3 n
  terminal e = record { in_idle = λ i. absurd (omega arith); in_terminal = λ _. e; in_timeout = λ i. absurd (omega arith); in_phase_law = λ p h i. absurd (omega arith) }

  in_phase_law : (p : ℕ) → 1 ≤ n → CountFits (4 + p) n
  in_phase_law p l = record { in_idle = λ i. absurd (omega arith); in_terminal = λ i. absurd (omega arith); in_timeout = λ i. absurd (omega arith); in_phase_law = λ _ _ _. l }

  count_fits_law : (m : ℕ) → m ≤ 7 → m ≢ 2 → (count_fits (state_of m) n ≡ true) ↔ CountFits m n
  unfolding state_of
  count_fits_law =
      by_state (λ m. (count_fits (state_of m) n ≡ true) ↔ CountFits m n) (λ t. idle ((eq_is n 0).0 t), λ v. (eq_is n 0).1 (v.in_idle refl))
      (λ t. timeout ((some n).0 t), λ v. (some n).1 (v.in_timeout refl)) (λ t. terminal ((eq_is n 0).0 t), λ v. (eq_is n 0).1 (v.in_terminal refl))
      (λ p h. (λ t. in_phase_law p ((phase_suits p h).0 t), λ v. (phase_suits p h).1 (v.in_phase_law p h refl)))

-- ── the registers ──

state_fits_law : (m : ℕ) → (state_fits m ≡ true) ↔ ((m ≤ 7) × (m ≢ 2))
state_fits_law m = and_is _ _ (most 7 m) (differs m 2)

-- each of the four lengths
lengths_fit_law : (ls : List ℕ) → (lengths_fit ls ≡ true) ↔ ((p : ℕ) → p < 4 → get_or ls p 0 ≤ 4294967295)
lengths_fit_law ls =
    let at : (p : ℕ) → _ = λ p. most 4294967295 (get_or ls p 0) in
    let i = and_is _ _ (at 0) (and_is _ _ (at 1) (and_is _ _ (at 2) (at 3))) in (
      λ t. let e = i.0 t in by_phase (λ p. get_or ls p 0 ≤ 4294967295) e.0 e.1.0 e.1.1.0 e.1.1.1,
      λ g. i.1 (g 0 (omega arith), (g 1 (omega arith), (g 2 (omega arith), g 3 (omega arith)))),
    )

pub holds_fits : ClassFits class_fits
unfolding class_fits
holds_fits c =
    let i =
    and_is _ _ (most 1 c.regwen)
    (and_is _ _ (most 0x3FFF c.ctrl)
    (and_is _ _ (most 1 c.clrwen)
    (and_is _ _ (most 65535 c.accum)
    (and_is _ _ (most 65535 c.thresh)
    (and_is _ _ (most 4294967295 c.timeout)
    (and_is _ _ (lengths_fit_law c.lengths)
    (and_is _ _ (most 4294967295 c.count) (and_then _ _ (state_fits_law c.state) (λ s. count_fits_law c.count c.state s.0 s.1))))))))) in (
      λ t.
          let e = i.0 t in
          record {
            regwen = e.0;
            ctrl = e.1.0;
            clrwen = e.1.1.0;
            accum = e.1.1.1.0;
            thresh = e.1.1.1.1.0;
            timeout = e.1.1.1.1.1.0;
            lengths = e.1.1.1.1.1.1.0;
            count = e.1.1.1.1.1.1.1.0;
            state = e.1.1.1.1.1.1.1.1.0.0;
            is_state = e.1.1.1.1.1.1.1.1.0.1;
            suits = e.1.1.1.1.1.1.1.1.1;
          },
      λ v.
          i.1 (v.regwen, (v.ctrl, (v.clrwen, (v.accum, (v.thresh, (v.timeout, (v.lengths, (v.count, ((v.state, v.is_state), v.suits))))))))),
    )
