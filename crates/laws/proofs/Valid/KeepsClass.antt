-- A class that refusal 7 does not meet stays so: in steps 3 and 4 of a tick, and when a register of its block is written.
-- Assumes nothing.
use Prim.Native.Nat.{ℕ, zero, suc, ◌+◌, ◌^◌, ◌<◌}
use mathlib.Core.Path.{◌≡◌, refl, sym, ap, ◌∙◌, subst}
use mathlib.Core.Bool.{Bool, true, false, true≢false, cond, not, ◌&&◌, ◌||◌}
use native.Mathlib.Omega.{arith}
use borrow.Author.Tests.{ne_eqb, eqb-true, ltb-true, lt-ltb, leb-false}
use lib.Dec.{eqb, leb, ltb}
use Rattle.class_rules.proofs.ClassLaws.{state_number_law}
use Rattle.class_rules.specs.Class.{lock, phase, phase_cyc, state_of, count_fits}
use Rattle.class_rules.specs.Step.{at, trigger, due, counted, starts, starts_from, after_phase, in_phase, moved_from, moved, class_step}
use Rattle.class_rules.specs.declared.Class.{Class}
use Rattle.class_rules.specs.declared.ClassState.{ClassState}
use Rattle.class_rules.specs.declared.ClassState.TheVariants.{Idle, Timeout, Phase0, Phase1, Phase2, Phase3, Terminal}
use Rattle.class_rules.specs.declared.Place.{Place}
use Rattle.class_rules.specs.declared.Signals.{Signals}
use Rattle.rules.specs.Access.{with_setting}
use Rattle.rules.specs.Map.{offset, setting_bits}
use Rattle.rules.specs.declared.Setting.{Setting}
use Rattle.rules.specs.declared.Setting.TheVariants.{Ctrl, ClrRegwen, AccumThresh, TimeoutCyc, PhaseCyc}
use Rattle.laws.specs.InMap.{setting_exists}
use Rattle.laws.specs.Facts.{ClassValid}
use Rattle.laws.proofs.Map.Cases.{pick}
use Rattle.laws.proofs.State.ColumnLaws.{length_stored}
use Rattle.laws.proofs.Map.MapLaws.{offset_eq, offset_exists}
use Rattle.laws.proofs.State.StateNumber.{number_fits}

-- ── step 4: the state and count reached ──

-- a count that suits its state and fits ESC_CNT
abbrev PlaceFits : Place → Type 0
PlaceFits w = (count_fits w.state w.count ≡ true) × (w.count < 2 ^ 32)

-- a count of 1 more is not 0
more : (n : ℕ) → not (eqb (n + 1) 0) ≡ true
more n = ap not (ne_eqb (n + 1) 0 (λ e. omega arith))

-- a phase that goes on counts 1 more, and one that ends leads to a place that fits
phase_counts : (p n : ℕ) → count_fits (phase p) (n + 1) ≡ true
phase_counts zero n = more n
phase_counts (suc zero) n = more n
phase_counts (suc (suc zero)) n = more n
phase_counts (suc (suc (suc p))) n = more n

after_fits : (p : ℕ) → PlaceFits (after_phase p)
after_fits zero = (refl, omega arith)
after_fits (suc zero) = (refl, omega arith)
after_fits (suc (suc zero)) = (refl, omega arith)
after_fits (suc (suc (suc p))) = (refl, omega arith)

-- a tick in phase p: the count goes on only below PHASEp_CYC
phase_fits : (p : ℕ) (s : Signals) (c : Class) → p < 4 → ClassValid c → PlaceFits (in_phase p s c)
phase_fits p s c h v =
    pick PlaceFits s.clear _ _ (λ _. (refl, omega arith))
    (λ _. pick PlaceFits (leb (phase_cyc c p) c.count) (after_phase p) (at (phase p) (c.count + 1)) (λ _. after_fits p)
    (λ e. (phase_counts p c.count, omega (arith, leb-false (phase_cyc c p) c.count e, v.lengths p h))))

-- due and not started, Timeout is below TIMEOUT_CYC
not_late : (a b c : Bool) → (a || (b && c)) ≡ false → b ≡ true → c ≡ false
not_late true b c e t = absurd (true≢false e)
not_late false true c e t = e
not_late false false c e t = absurd (true≢false (sym t))

-- a tick in any state
moved_fits : (m : ClassState) (s : Signals) (c : Class) → ClassValid c → count_fits m c.count ≡ true → PlaceFits (moved_from m s c)
unfolding moved_from starts_from
moved_fits Idle s c v t =
    pick PlaceFits (trigger s c) _ _ (λ _. (refl, omega arith))
    (λ _. pick PlaceFits (due s c) (at Timeout 1) (at Idle c.count) (λ _. (refl, omega arith)) (λ _. (t, v.count)))
moved_fits Timeout s c v t =
    pick PlaceFits (trigger s c || (due s c && leb c.timeout c.count)) _ _ (λ _. (refl, omega arith))
    (λ e. pick PlaceFits (due s c) (at Timeout (c.count + 1)) (at Idle 0)
    (λ d. (more c.count, omega (arith, leb-false c.timeout c.count (not_late (trigger s c) (due s c) (leb c.timeout c.count) e d), v.timeout)))
    (λ _. (refl, omega arith)))
moved_fits Phase0 s c v t = phase_fits 0 s c (omega arith) v
moved_fits Phase1 s c v t = phase_fits 1 s c (omega arith) v
moved_fits Phase2 s c v t = phase_fits 2 s c (omega arith) v
moved_fits Phase3 s c v t = phase_fits 3 s c (omega arith) v
moved_fits Terminal s c v t = pick PlaceFits s.clear (at Idle c.count) (at Terminal c.count) (λ _. (t, v.count)) (λ _. (t, v.count))

-- ── step 3: ACCUM_CNT stays at 65,535 ──

counted_fits : (s : Signals) (c : Class) → ClassValid c → counted s c < 2 ^ 16
unfolding counted
counted_fits s c v =
    pick (λ n. n < 2 ^ 16) s.clear _ _ (λ _. omega arith)
    (λ _. pick (λ n. n < 2 ^ 16) s.event _ _
    (λ _. pick (λ n. n < 2 ^ 16) (ltb c.accum 65535) _ _ (λ e. omega (arith, ltb-true c.accum 65535 e)) (λ _. omega arith)) (λ _. v.accum))

-- ── steps 3 and 4 ──

-- a class that was valid is so after the tick
pub step_valid : (s : Signals) (c : Class) → ClassValid c → ClassValid (class_step s c)
unfolding class_step
step_valid s c v =
    let w : PlaceFits (moved s c) = moved_fits (state_of c.state) s c v v.suits in
    record {
      regwen = v.regwen;
      ctrl = v.ctrl;
      clrwen = pick (λ n. n < 2) (starts s c && lock c) 0 c.clrwen (λ _. omega arith) (λ _. v.clrwen);
      accum = counted_fits s c v;
      thresh = v.thresh;
      timeout = v.timeout;
      lengths = v.lengths;
      count = w.1;
      state = number_fits (moved s c).state;
      suits = ap (λ (m : ClassState). count_fits m (moved s c).count) (state_number_law (moved s c).state) ∙ w.0;
    }

-- ── a write to its block ──

-- a class that was valid is so after a write that fits
pub setting_valid : (s : Setting) (v : ℕ) (c : Class) → v < 2 ^ setting_bits s → ClassValid c → ClassValid (with_setting s v c)
setting_valid s v c l t =
    record {
      regwen = written Setting.Regwen c.regwen refl (omega arith) t.regwen;
      ctrl = written Ctrl c.ctrl refl (omega arith) t.ctrl;
      clrwen = written ClrRegwen c.clrwen refl (omega arith) t.clrwen;
      accum = t.accum;
      thresh = written AccumThresh c.thresh refl (omega arith) t.thresh;
      timeout = written TimeoutCyc c.timeout refl (omega arith) t.timeout;
      lengths = λ p h. rw (length_stored s v c p h) (written (PhaseCyc p) (phase_cyc c p) (lt-ltb p 4 h) (omega arith) (t.lengths p h));
      count = t.count;
      state = t.state;
      suits = t.suits;
    }
  where
    -- a register that holds v has the bits of the one that v was written to, since it is that one
    written : (q : Setting) (x : ℕ) → setting_exists q ≡ true → offset q < 11 → x < 2 ^ setting_bits q
        → cond (eqb (offset s) (offset q)) v x < 2 ^ setting_bits q
    written q x e h b =
        pick (λ n. n < 2 ^ setting_bits q) (eqb (offset s) (offset q)) v x
        (λ i.
        let d : offset s ≡ offset q = eqb-true (offset s) (offset q) i in
        subst (λ (r : Setting). v < 2 ^ setting_bits r) (offset_eq s q (offset_exists s (omega arith)) e d) l)
        (λ _. b)
