-- Request (ix), "lines 0 to 3 in turn": between two pings of one line seven other turns pass, and each takes a tick at least.
-- Assumes nothing.
use Prim.Native.Nat.{ℕ, zero, suc, ◌+◌, ◌/◌, ◌%◌, ◌≤◌, ◌<◌}
use mathlib.Core.Path.{◌≡◌, refl, sym, ap, ap₂, ◌∙◌, subst}
use mathlib.Core.Logic.{◌⊎◌, inl, inr}
use mathlib.Core.Bool.{Bool, true, false, cond, ◌&&◌, ◌||◌}
use mathlib.Core.List.{List}
use native.Mathlib.Omega.{arith}
use borrow.Author.Tests.{eqb-true}
use lib.ListN.{length}
use Rattle.bits.proofs.IndexLaws.{and-true}
use Rattle.link_rules.proofs.Owned
use Rattle.link_rules.specs.Timer.{opens, ends, turned}
use Rattle.link_rules.specs.declared.Meets.{Meets}
use Rattle.link_rules.specs.declared.Turn.{Turn}
use Rattle.rules.specs.Valid.{valid}
use Rattle.rules.specs.declared.Handler.{Handler}
use Rattle.rules.specs.declared.Input.{Input}
use Rattle.handshake.specs.LinePings.{line_open}
use Rattle.handshake.specs.Pings.{meets_at, turn_at, lines_turn, line_opens, sets}
use Rattle.handshake.proofs.LineTicks.{is_lines, stays, opens_open}
use Rattle.handshake.proofs.TimerTicks.{next, on_stays, is_running, on_at}
use Rattle.handshake.proofs.TurnSteps.{Runs, number_after}

-- the number of the turn after a tick of a timer that runs
number_by : (m : Meets) (t : Turn) → Runs m → (b : Bool) → (m.begins || (m.runs && ends m t)) ≡ b → (turned m t).number ≡ cond b ((t.number + 1) % 8) t.number
number_by m t r b e = number_after m t ∙ ap₂ (λ (c d : Bool). cond c 0 (cond d ((t.number + 1) % 8) t.number)) r.begins e

module _ (h : Handler) (xs : List Input) (v : valid h ≡ true) (e p : ℕ) (o : line_opens h xs e p ≡ true) where
  -- k ticks later: the ping is still open, so that none opens, or c turns have ended since, at most one a tick
  abbrev Since : ℕ → Type 0
  Since k =
      (line_open h xs e (p + k) ≡ true) × ((turn_at h xs (p + k)).number ≡ (turn_at h xs p).number) × (0 < k → line_opens h xs e (p + k) ≡ false)

  abbrev Later : ℕ → Type 0
  Later k = (c : ℕ) × (0 < c) × (c ≤ k) × ((turn_at h xs (p + k)).number ≡ ((turn_at h xs p).number + c) % 8)

  runs : (k : ℕ) → p + k ≤ length xs → Runs (meets_at h xs (p + k))
  runs k m =
      is_running h xs v (p + k)
      (on_stays h xs v p (p + k) (omega arith) m
      (on_at h xs v p (Owned.opens_runs (meets_at h xs p) (turn_at h xs p) (and-true (opens (meets_at h xs p) (turn_at h xs p)) (lines_turn h xs e p) o).0)))

  since : (k : ℕ) → p + k < length xs → Since k ⊎ Later k
  since zero m =
      let c : p ≡ p + 0 = omega arith in
      inl (subst (λ (t : ℕ). line_open h xs e t ≡ true) c (opens_open h xs v e p o), ap (λ (t : ℕ). (turn_at h xs t).number) (sym c), λ l. absurd (omega (arith, l)))
  since (suc k) m = step (since k (omega (arith, m)))
    where
      t : ℕ
      t = p + k

      inside : t < length xs
      inside = omega (arith, m)

      d : suc t ≡ p + suc k
      d = omega arith

      moved : (turn_at h xs (p + suc k)).number ≡ (turned (meets_at h xs t) (turn_at h xs t)).number
      moved = ap (λ (u : ℕ). (turn_at h xs u).number) (sym d) ∙ ap (λ (z : Turn). z.number) (next h xs v t inside)

      step : Since k ⊎ Later k → Since (suc k) ⊎ Later (suc k)
      step (inl s) = go (sets h xs t) refl
        where
          go : (b : Bool) → sets h xs t ≡ b → Since (suc k) ⊎ Later (suc k)
          go true n = inr (1, omega arith, omega arith, moved ∙ number_by (meets_at h xs t) (turn_at h xs t) (runs k (omega (arith, m))) true n ∙ ap (λ (x : ℕ). (x + 1) % 8) s.1)
          go false n = inl (
            subst (λ (u : ℕ). line_open h xs e u ≡ true) d (stays h xs v e t s.0 inside n).0,
            moved ∙ number_by (meets_at h xs t) (turn_at h xs t) (runs k (omega (arith, m))) false n ∙ s.1,
            λ l. subst (λ (u : ℕ). line_opens h xs e u ≡ false) d (stays h xs v e t s.0 inside n).1,
          )
      step (inr (c, a, b, s)) = go (sets h xs t) refl
        where
          go : (b : Bool) → sets h xs t ≡ b → Since (suc k) ⊎ Later (suc k)
          go true n =
              let q : (((turn_at h xs p).number + c) % 8 + 1) % 8 ≡ ((turn_at h xs p).number + suc c) % 8 = omega arith in
              inr (suc c, omega arith, omega (arith, b), moved ∙ number_by (meets_at h xs t) (turn_at h xs t) (runs k (omega (arith, m))) true n ∙ ap (λ (x : ℕ). (x + 1) % 8) s ∙ q)
          go false n = inr (c, a, omega (arith, b), moved ∙ number_by (meets_at h xs t) (turn_at h xs t) (runs k (omega (arith, m))) false n ∙ s)

  -- with fewer than eight turns ended since it is another's turn
  not_own : (k : ℕ) → k < 8 → Later k → line_opens h xs e (p + k) ≡ false
  not_own k b (c, a, d, s) = go (line_opens h xs e (p + k)) refl
    where
      go : (w : Bool) → line_opens h xs e (p + k) ≡ w → w ≡ false
      go false w = refl
      go true w =
          let x = is_lines h xs v e p (and-true (opens (meets_at h xs p) (turn_at h xs p)) (lines_turn h xs e p) o).1 in
          let y = is_lines h xs v e (p + k) (and-true (opens (meets_at h xs (p + k)) (turn_at h xs (p + k))) (lines_turn h xs e (p + k)) w).1 in
          let n : ℕ = (turn_at h xs p).number in
          let i : n % 2 ≡ 1 = eqb-true (n % 2) 1 x.0 in
          let q : n / 2 % 4 ≡ (n + c) % 8 / 2 % 4 = sym x.1 ∙ y.1 ∙ ap (λ (z : ℕ). z / 2 % 4) s in
          let r : (n + c) % 8 % 2 ≡ 1 = ap (λ (z : ℕ). z % 2) (sym s) ∙ eqb-true ((turn_at h xs (p + k)).number % 2) 1 y.0 in
          absurd (omega (arith, a, d, b, i, q, r))

  -- so the next ping of the line opens eight ticks later at the earliest
  pub none_soon : (k : ℕ) → 0 < k → k < 8 → p + k < length xs → line_opens h xs e (p + k) ≡ false
  none_soon k a b m = go (since k m)
    where
      go : Since k ⊎ Later k → line_opens h xs e (p + k) ≡ false
      go (inl s) = s.2 a
      go (inr s) = not_own k b s
