-- One class, d ticks after its start: the phase and the count that the lengths say, from tick to tick.
-- Assumes nothing.
use Prim.Native.Nat.{ℕ, zero, suc, ◌+◌, ◌-◌, ◌≤◌, ◌<◌}
use mathlib.Core.Path.{◌≡◌, refl, sym, ap, ◌∙◌, subst}
use mathlib.Core.Logic.{◌↔◌}
use mathlib.Core.Bool.{Bool, true, false, cond}
use native.Mathlib.Omega.{arith}
use native.Mathlib.Nat.{add-zero, add-suc, le_refl, le_trans}
use native.Mathlib.Decide.{dec_lt}
use borrow.Author.Tests.{leb-true, leb-false}
use lib.Dec.{leb}
use Rattle.class_rules.specs.Class.{phase_cyc, phase, state_of}
use Rattle.class_rules.specs.Step.{at, after_phase, in_phase, moved_from, moved}
use Rattle.class_rules.specs.declared.Class.{Class}
use Rattle.class_rules.specs.declared.ClassState.{ClassState}
use Rattle.class_rules.specs.declared.ClassState.TheVariants.{Idle, Timeout, Phase0, Phase1, Phase2, Phase3, Terminal}
use Rattle.class_rules.specs.declared.Place.{Place}
use Rattle.class_rules.specs.declared.Signals.{Signals}
use Rattle.escalation.specs.Escalation.{phase_start}

-- the state and count of a class
abbrev pub place_of : Class → Place
place_of b = at (state_of b.state) b.count

-- the first tick of phase p, and of Terminal for p = 4
abbrev entered : ℕ → Place
entered zero = at (phase 0) 1
entered (suc p) = after_phase p

-- d ticks after the start, by the lengths of c: in phase p, or in Terminal where p is 4
pub record At (c : Class) (d : ℕ) (w : Place) : Type 0 where
  pub p : ℕ
  pub most : p ≤ 4
  pub state : w.state ≡ (entered p).state
  pub from : phase_start c p ≤ d
  pub to : p < 4 → d < phase_start c (suc p)
  pub count : p < 4 → phase_start c p + w.count ≡ d + 1
  pub none : p ≡ 4 → w.count ≡ 0

-- ── one tick more ──

entered_is : (p : ℕ) → p < 4 → entered p ≡ at (phase p) 1
entered_is zero h = refl
entered_is (suc zero) h = refl
entered_is (suc (suc zero)) h = refl
entered_is (suc (suc (suc zero))) h = refl
entered_is (suc (suc (suc (suc p)))) h = absurd (omega arith)

phase_moves : (p : ℕ) → p < 4 → (q : Signals) (b : Class) → moved_from (phase p) q b ≡ in_phase p q b
unfolding moved_from
phase_moves zero h q b = refl
phase_moves (suc zero) h q b = refl
phase_moves (suc (suc zero)) h q b = refl
phase_moves (suc (suc (suc zero))) h q b = refl
phase_moves (suc (suc (suc (suc p)))) h q b = absurd (omega arith)

terminal_moves : (q : Signals) (b : Class) → q.clear ≡ false → moved_from Terminal q b ≡ at Terminal b.count
unfolding moved_from
terminal_moves q b e = rw e

entered_count : (p : ℕ) → p < 4 → (entered p).count ≡ 1
entered_count p h = ap (λ (w : Place). w.count) (entered_is p h)

entered_none : (p : ℕ) → p ≡ 4 → (entered p).count ≡ 0
entered_none p e = rw e

-- the order of the phases and Terminal
abbrev rank : ClassState → ℕ
rank Idle = 5
rank Timeout = 5
rank Phase0 = 0
rank Phase1 = 1
rank Phase2 = 2
rank Phase3 = 3
rank Terminal = 4

rank_entered : (p : ℕ) → p ≤ 4 → rank (entered p).state ≡ p
rank_entered zero h = refl
rank_entered (suc zero) h = refl
rank_entered (suc (suc zero)) h = refl
rank_entered (suc (suc (suc zero))) h = refl
rank_entered (suc (suc (suc (suc zero)))) h = refl
rank_entered (suc (suc (suc (suc (suc p))))) h = absurd (omega arith)

module _ (c : Class) where
  -- the first tick of a phase
  pub entered_at : (p d : ℕ) → p ≤ 4 → phase_start c p ≡ d → At c d (entered p)
  entered_at p d h e =
      record {
        p = p;
        most = h;
        state = refl;
        from = omega arith;
        to = λ l. omega arith;
        count = λ l. omega (arith, entered_count p l);
        none = entered_none p;
      }

  -- a tick of phase p, with n the count before it
  phase_next : (d n p : ℕ) → p < 4 → phase_start c p ≤ d → d < phase_start c (suc p) → phase_start c p + n ≡ d + 1
      → (t : Bool) → leb (phase_cyc c p) n ≡ t → At c (suc d) (cond t (after_phase p) (at (phase p) (n + 1)))
  phase_next d n p h f u e true l = entered_at (suc p) (suc d) h (omega (arith, leb-true (phase_cyc c p) n l))
  phase_next d n p h f u e false l =
      record {
        p = p;
        most = omega arith;
        state = sym (ap (λ (w : Place). w.state) (entered_is p h));
        from = omega arith;
        to = λ _. omega (arith, leb-false (phase_cyc c p) n l);
        count = λ _. omega arith;
        none = λ (z : p ≡ 4). absurd (omega arith);
      }

  -- b is the class as a tick without an accepted clear reads it
  pub next_at : (d : ℕ) (q : Signals) (b : Class) → q.clear ≡ false → ((p : ℕ) → p < 4 → phase_cyc b p ≡ phase_cyc c p)
      → At c d (place_of b) → At c (suc d) (moved q b)
  next_at d q b e same a = go (dec_lt a.p 4)
    where
      go : Dec (a.p < 4) → At c (suc d) (moved q b)
      go (yes l) =
          let s : state_of b.state ≡ phase a.p = a.state ∙ ap (λ (w : Place). w.state) (entered_is a.p l) in
          let m : moved q b ≡ cond (leb (phase_cyc c a.p) b.count) (after_phase a.p) (at (phase a.p) (b.count + 1)) =
          ap (λ (x : ClassState). moved_from x q b) s ∙ phase_moves a.p l q b ∙ rw (e, same a.p l) in
          subst (At c (suc d)) (sym m) (phase_next d b.count a.p l a.from (a.to l) (a.count l) (leb (phase_cyc c a.p) b.count) refl)
      go (no l) =
          let four : a.p ≡ 4 = omega (arith, a.most) in
          let s : state_of b.state ≡ Terminal = a.state ∙ ap (λ (p : ℕ). (entered p).state) four in
          subst (At c (suc d)) (sym (ap (λ (x : ClassState). moved_from x q b) s ∙ terminal_moves q b e))
          (record {
            p = 4;
            most = omega arith;
            state = refl;
            from = let f : phase_start c 4 ≤ d = rw four at a.from in omega arith;
            to = λ z. absurd (omega arith);
            count = λ z. absurd (omega arith);
            none = λ _. a.none four;
          })

  -- ── which phase it is ──

  later : (p n : ℕ) → phase_start c p ≤ phase_start c (p + n)
  later p zero = rw add-zero (le_refl _)
  later p (suc n) = rw add-suc (le_trans (later p n) (omega arith))

  -- no phase starts before an earlier one
  ordered : (p r : ℕ) → p ≤ r → phase_start c p ≤ phase_start c r
  ordered p r h = let e : p + (r - p) ≡ r = omega arith in rw e at (later p (r - p))

  -- it has entered phase r and not the next
  abbrev Within : ℕ → ℕ → Type 0
  Within r d = (phase_start c r ≤ d) × (r < 4 → d < phase_start c (suc r))

  only : (d p r : ℕ) → p ≤ 4 → r ≤ 4 → Within p d → Within r d → p ≡ r
  only d p r h l a b = go (dec_lt p r) (dec_lt r p)
    where
      go : Dec (p < r) → Dec (r < p) → p ≡ r
      go (yes m) _ = absurd (omega (arith, ordered (suc p) r m, a.1 (omega arith), b.0))
      go (no m) (yes n) = absurd (omega (arith, ordered (suc r) p n, b.1 (omega arith), a.0))
      go (no m) (no n) = omega arith

  stage : (d r : ℕ) (w : Place) → r ≤ 4 → At c d w → (w.state ≡ (entered r).state) ↔ Within r d
  stage d r w h a = (there, back)
    where
      there : w.state ≡ (entered r).state → Within r d
      there e =
          let i : a.p ≡ r = sym (rank_entered a.p a.most) ∙ ap rank (sym a.state ∙ e) ∙ rank_entered r h in
          subst (λ (p : ℕ). Within p d) i (a.from, a.to)

      back : Within r d → w.state ≡ (entered r).state
      back b = a.state ∙ ap (λ (p : ℕ). (entered p).state) (only d a.p r a.most h (a.from, a.to) b)

  -- in phase r exactly in its ticks
  pub in_phase_law : (d r : ℕ) (w : Place) → r < 4 → At c d w → (w.state ≡ phase r) ↔ ((phase_start c r ≤ d) × (d < phase_start c (suc r)))
  in_phase_law d r w h a =
      let e : (entered r).state ≡ phase r = ap (λ (x : Place). x.state) (entered_is r h) in
      let s = stage d r w (omega arith) a in
      (λ x. let b = s.0 (x ∙ sym e) in (b.0, b.1 h), λ b. s.1 (b.0, λ _. b.1) ∙ e)

  -- in Terminal exactly from its start on
  pub in_terminal : (d : ℕ) (w : Place) → At c d w → (w.state ≡ Terminal) ↔ (phase_start c 4 ≤ d)
  in_terminal d w a = let s = stage d 4 w (omega arith) a in (λ x. (s.0 x).0, λ b. s.1 (b, λ l. absurd (omega arith)))

  -- ESC_CNT in a phase, and in Terminal
  pub count_phase : (d r : ℕ) (w : Place) → r < 4 → At c d w → phase_start c r ≤ d → d < phase_start c (suc r) → phase_start c r + w.count ≡ d + 1
  count_phase d r w h a f t =
      let i : a.p ≡ r = only d a.p r a.most (omega arith) (a.from, a.to) (f, λ _. t) in
      subst (λ (p : ℕ). phase_start c p + w.count ≡ d + 1) i (a.count (omega arith))

  pub count_terminal : (d : ℕ) (w : Place) → At c d w → phase_start c 4 ≤ d → w.count ≡ 0
  count_terminal d w a f = a.none (only d a.p 4 a.most (omega arith) (a.from, a.to) (f, λ l. absurd (omega arith)))
