-- Request (ix): the timer of a handler along a list of ticks, and registers that are locked in it.
-- Assumes nothing.
use Prim.Native.Nat.{ℕ, zero, suc, ◌+◌, ◌-◌, ◌≤◌, ◌<◌}
use mathlib.Core.Path.{◌≡◌, refl, sym, ap, ◌∙◌, subst}
use mathlib.Core.Logic.{⊎_elim}
use mathlib.Core.Bool.{Bool, true, false, and-false, ◌&&◌, ◌||◌}
use mathlib.Core.List.{List}
use native.Mathlib.Nat.{le-suc_iff}
use native.Mathlib.Omega.{arith}
use borrow.Author.Tests.{eqb-true}
use lib.Dec.{eqb}
use lib.ListN.{length}
use Rattle.escalation.proofs.ListTicks.{at, input, at_valid, at_next}
use Rattle.laws.proofs.Access.Enabling.{begins_is}
use Rattle.laws.proofs.Access.Locks.{acted_locked, after_locked}
use Rattle.laws.proofs.Tick.Turns.{after_on, met_runs, met_pending, after_turn, after_pending}
use Rattle.laws.proofs.Valid.KeepsAccess.{acted_valid}
use Rattle.laws.proofs.Valid.ValidLaws.{facts}
use Rattle.laws.specs.InMap.{in_map}
use Rattle.laws.specs.Pinging.{enables}
use Rattle.link_rules.specs.Timer.{open_after, turned}
use Rattle.link_rules.specs.declared.Turn.{Turn}
use Rattle.rules.specs.Run.{run}
use Rattle.rules.specs.Access.{value, locked}
use Rattle.rules.specs.Samples.{turn_pending}
use Rattle.rules.specs.State.{most, is_on}
use Rattle.rules.specs.Valid.{valid}
use Rattle.rules.specs.declared.Handler.{Handler}
use Rattle.rules.specs.declared.Input.{Input}
use Rattle.rules.specs.declared.Register.{Register}
use Rattle.rules.specs.declared.Register.TheVariants.{Only}
use Rattle.rules.specs.declared.Single.TheVariants.{PingTimeout}
use Rattle.handshake.specs.Pings.{read_at, meets_at, turn_at}
use Rattle.handshake.proofs.TurnSteps.{Runs, count_fits}

module _ (h : Handler) (xs : List Input) (v : valid h ≡ true) where
  pub good : (t : ℕ) → valid (at h xs t) ≡ true
  good = at_valid h xs v

  pub few : (t : ℕ) → (at h xs t).n ≤ most
  few t = (facts (at h xs t) (good t)).n

  pub enable_fits : (t : ℕ) → (at h xs t).timer.enable < 2
  enable_fits t = (facts (at h xs t) (good t)).timer.enable

  -- ── from tick to tick ──

  pub next : (t : ℕ) → t < length xs → turn_at h xs (suc t) ≡ turned (meets_at h xs t) (turn_at h xs t)
  next t m = ap (λ (g : Handler). g.links.turn) (at_next h xs v t m) ∙ after_turn (at h xs t) (input xs t)

  pub left_open : (t : ℕ) → t < length xs → (meets_at h xs (suc t)).pending ≡ open_after (meets_at h xs t) (turn_at h xs t)
  left_open t m =
      met_pending (at h xs (suc t)) (input xs (suc t))
      ∙ subst (λ (g : Handler). turn_pending g ≡ open_after (meets_at h xs t) (turn_at h xs t)) (sym (at_next h xs v t m))
      (after_pending (at h xs t) (input xs t) (few t) (enable_fits t) (facts (at h xs t) (good t)).pings)

  pub on_next : (t : ℕ) → t < length xs → is_on (at h xs t) ≡ true → is_on (at h xs (suc t)) ≡ true
  on_next t m e =
      ap is_on (at_next h xs v t m) ∙ after_on (at h xs t) (input xs t)
      ∙ ap (λ (b : Bool). b || enables (at h xs t) (input xs t).access) e

  pub on_stays : (t u : ℕ) → t ≤ u → u ≤ length xs → is_on (at h xs t) ≡ true → is_on (at h xs u) ≡ true
  on_stays t zero l m e = let q : t ≡ 0 = omega (arith, l) in ap (λ (k : ℕ). is_on (at h xs k)) (sym q) ∙ e
  on_stays t (suc u) l m e =
      ⊎_elim (λ (a : t ≤ u). on_next u m (on_stays t u a (omega (arith, m)) e)) (λ (b : t ≡ suc u). ap (λ (k : ℕ). is_on (at h xs k)) (sym b) ∙ e)
      (le-suc_iff.0 l)

  -- a timer that is on runs
  pub is_running : (t : ℕ) → is_on (at h xs t) ≡ true → Runs (meets_at h xs t)
  is_running t e = record { runs = met_runs (at h xs t) (input xs t) (enable_fits t) ∙ e; begins = begins_is (at h xs t) (input xs t).access ∙ go }
    where
      go : (enables (at h xs t) (input xs t).access && eqb (at h xs t).timer.enable 0) ≡ false
      go =
          ap (λ (n : ℕ). enables (at h xs t) (input xs t).access && eqb n 0) (eqb-true (at h xs t).timer.enable 1 e)
          ∙ and-false (enables (at h xs t) (input xs t).access)

  -- what opens shows that it is on
  pub on_at : (t : ℕ) → (meets_at h xs t).runs ≡ true → is_on (at h xs t) ≡ true
  on_at t e = sym (met_runs (at h xs t) (input xs t) (enable_fits t)) ∙ e

  pub limit_fits : (t limit : ℕ) → value (read_at h xs t) (Only PingTimeout) ≡ limit → limit < 65536
  unfolding value
  limit_fits t limit e =
      let f : (read_at h xs t).timer.timeout < 65536 = (facts (read_at h xs t) (acted_valid (at h xs t) (input xs t).access (good t))).timer.timeout in
      omega (arith, f, e)

  pub limit_is : (t limit : ℕ) → value (read_at h xs t) (Only PingTimeout) ≡ limit → (meets_at h xs t).timeout ≡ limit
  unfolding value
  limit_is t limit e = e

  -- ── a locked register stays so ──

  module _ (q : Register) (i : (t : ℕ) → in_map (at h xs t).n q ≡ true) where
    pub locked_stays : (a k : ℕ) → a + k ≤ length xs → locked (at h xs a) q ≡ true
        → (locked (at h xs (a + k)) q ≡ true) × (value (at h xs (a + k)) q ≡ value (at h xs a) q)
    locked_stays a zero m e =
        let c : a ≡ a + 0 = omega arith in
        subst (λ (t : ℕ). (locked (at h xs t) q ≡ true) × (value (at h xs t) q ≡ value (at h xs a) q)) c (e, refl)
    locked_stays a (suc k) m e =
        let c : suc (a + k) ≡ a + suc k = omega arith in
        let d = locked_stays a k (omega (arith, m)) e in
        let f = after_locked (at h xs (a + k)) (input xs (a + k)) q (few (a + k)) (i (a + k)) d.0 in
        subst (λ (t : ℕ). (locked (at h xs t) q ≡ true) × (value (at h xs t) q ≡ value (at h xs a) q)) c
        (subst (λ (g : Handler). (locked g q ≡ true) × (value g q ≡ value (at h xs a) q)) (sym (at_next h xs v (a + k) (omega (arith, m)))) (f.0, f.1 ∙ d.1))

    -- and holds the same after step 1 of every later tick
    pub read_stays : (a t : ℕ) → a ≤ t → t < length xs → locked (at h xs a) q ≡ true → value (read_at h xs t) q ≡ value (at h xs a) q
    read_stays a t l m e =
        let c : a + (t - a) ≡ t = omega (arith, l) in
        let d = subst (λ (u : ℕ). (locked (at h xs u) q ≡ true) × (value (at h xs u) q ≡ value (at h xs a) q)) c (locked_stays a (t - a) (omega (arith, c, m)) e) in
        (acted_locked (at h xs t) (input xs t).access q (few t) (i t) d.0).1 ∙ d.1

  -- the turn's count
  pub counts_fit : h.links.turn.count < 65536 → (t : ℕ) → t ≤ length xs → (turn_at h xs t).count < 65536
  unfolding run
  counts_fit l zero b = l
  counts_fit l (suc t) b =
      subst (λ (x : Turn). x.count < 65536) (sym (next t b)) (count_fits (meets_at h xs t) (turn_at h xs t) (counts_fit l t (omega (arith, b))))
