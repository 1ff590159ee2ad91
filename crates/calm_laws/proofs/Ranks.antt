-- Request (xii), one class: each tick that changes a line, or moves the class, leaves fewer of them to come.
-- Assumes nothing.
use Prim.Native.Nat.{ℕ, ◌+◌, ◌≤◌, ◌<◌}
use mathlib.Core.Path.{◌≡◌, refl, sym, ap, ◌∙◌}
use mathlib.Core.Bool.{Bool, true, false, cond, ◌&&◌}
use native.Mathlib.Omega.{arith}
use lib.Dec.{leb}
use Rattle.class_rules.proofs.ClassLaws.{state_number_law}
use Rattle.class_rules.specs.Class.{drives, is_phase, line_enable, line_map, phase, phase_cyc, state_of, state_number}
use Rattle.class_rules.specs.Step.{at, due, starts_from, in_phase, after_phase, moved_from, moved, class_step}
use Rattle.class_rules.specs.declared.Class.{Class}
use Rattle.class_rules.specs.declared.ClassState.{ClassState}
use Rattle.class_rules.specs.declared.ClassState.TheVariants.{Idle, Timeout, Phase0, Phase1, Phase2, Phase3, Terminal}
use Rattle.class_rules.specs.declared.Place.{Place}
use Rattle.class_rules.specs.declared.Signals.{Signals}
use Rattle.calm_laws.specs.Rank.{line_rank, move_rank, changes_left, moves_left}

-- from state m to state x: a change of lines, or of the state, costs at least 1
record Falls (d : Bool) (m x : ClassState) : Type 0 where
  lines_less : line_rank x ≤ line_rank m
  lines_same : line_rank x ≡ line_rank m → (p : ℕ) → is_phase x p ≡ is_phase m p
  moves_less : move_rank d x ≤ move_rank d m
  moves_same : move_rank d x ≡ move_rank d m → state_number x ≡ state_number m

stays : (d : Bool) (m : ClassState) → Falls d m m
stays d m = record { lines_less = omega arith; lines_same = λ e p. refl; moves_less = omega arith; moves_same = λ e. refl }

-- further on, with fewer of both
on : (d : Bool) (m x : ClassState) → line_rank x < line_rank m → move_rank d x < move_rank d m → Falls d m x
on d m x h l =
    record {
      lines_less = omega arith;
      lines_same = λ e. absurd (omega arith);
      moves_less = omega arith;
      moves_same = λ e. absurd (omega arith);
    }

-- a choice
either : (d : Bool) (m : ClassState) (b : Bool) (x y : Place) → Falls d m x.state → Falls d m y.state → Falls d m (cond b x y).state
either d m true x y f g = f
either d m false x y f g = g

module _ (s : Signals) (c : Class) (k : s.clear ≡ false) where
  falls_phase : (p : ℕ) (d : Bool) (x : Place) → in_phase p s c ≡ x → Falls d (phase p) x.state → Falls d (phase p) (in_phase p s c).state
  falls_phase p d x e f = rw e f

  in_phase_law : (p : ℕ) → in_phase p s c ≡ cond (leb (phase_cyc c p) c.count) (after_phase p) (at (phase p) (c.count + 1))
  in_phase_law p = rw k

  falls_idle : (t d : Bool) → Falls d Idle (cond t (at Phase0 1) (cond d (at Timeout 1) (at Idle c.count))).state
  falls_idle true true = on true Idle Phase0 (omega arith) (omega arith)
  falls_idle true false = on false Idle Phase0 (omega arith) (omega arith)
  falls_idle false true =
      record { lines_less = omega arith; lines_same = λ e p. refl; moves_less = omega arith; moves_same = λ e. absurd (omega arith) }
  falls_idle false false = stays false Idle

  falls_timeout : (t d : Bool) → Falls d Timeout (cond t (at Phase0 1) (cond d (at Timeout (c.count + 1)) (at Idle 0))).state
  falls_timeout true true = on true Timeout Phase0 (omega arith) (omega arith)
  falls_timeout true false = on false Timeout Phase0 (omega arith) (omega arith)
  falls_timeout false true = stays true Timeout
  falls_timeout false false =
      record { lines_less = omega arith; lines_same = λ e p. refl; moves_less = omega arith; moves_same = λ e. absurd (omega arith) }

  falls_from : (m : ClassState) → Falls (due s c) m (moved_from m s c).state
  unfolding moved_from starts_from
  falls_from Idle = falls_idle (starts_from Idle s c) (due s c)
  falls_from Timeout = falls_timeout (starts_from Timeout s c) (due s c)
  falls_from Phase0 =
      falls_phase 0 (due s c) _ (in_phase_law 0)
      (either (due s c) Phase0 (leb (phase_cyc c 0) c.count) (at Phase1 1) (at Phase0 (c.count + 1)) (on (due s c) Phase0 Phase1 (omega arith) (omega arith)) (stays (due s c) Phase0))
  falls_from Phase1 =
      falls_phase 1 (due s c) _ (in_phase_law 1)
      (either (due s c) Phase1 (leb (phase_cyc c 1) c.count) (at Phase2 1) (at Phase1 (c.count + 1)) (on (due s c) Phase1 Phase2 (omega arith) (omega arith)) (stays (due s c) Phase1))
  falls_from Phase2 =
      falls_phase 2 (due s c) _ (in_phase_law 2)
      (either (due s c) Phase2 (leb (phase_cyc c 2) c.count) (at Phase3 1) (at Phase2 (c.count + 1)) (on (due s c) Phase2 Phase3 (omega arith) (omega arith)) (stays (due s c) Phase2))
  falls_from Phase3 =
      falls_phase 3 (due s c) _ (in_phase_law 3)
      (either (due s c) Phase3 (leb (phase_cyc c 3) c.count) (at Terminal 0) (at Phase3 (c.count + 1)) (on (due s c) Phase3 Terminal (omega arith) (omega arith)) (stays (due s c) Phase3))
  falls_from Terminal = rw k (stays (due s c) Terminal)

  -- the state reached, read from its number
  reached : state_of (class_step s c).state ≡ (moved s c).state
  unfolding class_step
  reached = state_number_law (moved s c).state

  pub fewer_changes : changes_left (class_step s c) ≤ changes_left c
  fewer_changes = rw reached (falls_from (state_of c.state)).lines_less

  pub same_drives : changes_left (class_step s c) ≡ changes_left c → (e : ℕ) → drives (class_step s c) e ≡ drives c e
  unfolding drives class_step
  same_drives h e =
      ap (λ (m : ClassState). line_enable c e && is_phase m (line_map c e)) reached
      ∙ ap (λ (b : Bool). line_enable c e && b) ((falls_from (state_of c.state)).lines_same (sym (ap line_rank reached) ∙ h) (line_map c e))

  pub fewer_moves : moves_left s (class_step s c) ≤ moves_left s c
  unfolding class_step
  fewer_moves = rw reached (falls_from (state_of c.state)).moves_less

  pub same_state : state_number (state_of c.state) ≡ c.state → moves_left s (class_step s c) ≡ moves_left s c → (class_step s c).state ≡ c.state
  unfolding class_step
  same_state n h = (falls_from (state_of c.state)).moves_same (sym (ap (move_rank (due s c)) reached) ∙ h) ∙ n

-- at most five changes and six moves
pub changes_most : (c : Class) → changes_left c ≤ 5
changes_most c = go (state_of c.state)
  where
    go : (m : ClassState) → line_rank m ≤ 5
    go Idle = omega arith
    go Timeout = omega arith
    go Phase0 = omega arith
    go Phase1 = omega arith
    go Phase2 = omega arith
    go Phase3 = omega arith
    go Terminal = omega arith

pub moves_most : (s : Signals) (c : Class) → moves_left s c ≤ 6
moves_most s c = go (due s c) (state_of c.state)
  where
    go : (d : Bool) (m : ClassState) → move_rank d m ≤ 6
    go true Idle = omega arith
    go false Idle = omega arith
    go true Timeout = omega arith
    go false Timeout = omega arith
    go d Phase0 = omega arith
    go d Phase1 = omega arith
    go d Phase2 = omega arith
    go d Phase3 = omega arith
    go d Terminal = omega arith
