-- Request (ix): when the ping of a turn is due in a list of ticks, and when the turn ends.
-- Assumes nothing.
use Prim.Native.Nat.{ℕ, suc, ◌+◌, ◌-◌, ◌/◌, ◌%◌, ◌≤◌, ◌<◌}
use mathlib.Core.Path.{◌≡◌, refl, sym, ap, ap₂, ◌∙◌}
use mathlib.Core.Logic.{◌⊎◌, inl, inr}
use mathlib.Core.Bool.{Bool, true, false, not, and-false, or-true, ◌&&◌, ◌||◌}
use mathlib.Core.List.{List}
use native.Mathlib.Omega.{arith}
use borrow.Author.Tests.{eq-eqb, ne_eqb, lt-ltb}
use native.Mathlib.Decide.{ℕ_discrete}
use lib.Dec.{eqb, ltb}
use lib.ListN.{length}
use Rattle.bits.proofs.IndexLaws
use Rattle.escalation.proofs.ListTicks.{at, input, at_next}
use Rattle.laws.proofs.Access.Enabling.{begins_is}
use Rattle.laws.proofs.Access.Locks.{acted_locked}
use Rattle.laws.proofs.Access.RegisterFile.{acted_n}
use Rattle.laws.proofs.Samples.Receivers.{acted_links}
use Rattle.laws.proofs.Tick.Frame.{after_still}
use Rattle.laws.proofs.Tick.Turns.{after_on}
use Rattle.laws.proofs.Valid.ValidLaws.{facts}
use Rattle.laws.specs.Pinging.{enables}
use Rattle.link_rules.proofs.Owned
use Rattle.link_rules.specs.Timer.{is_line, line_of, is_due, opens, ends}
use Rattle.link_rules.specs.declared.Turn.{Turn}
use Rattle.rules.specs.Access.{value, locked}
use Rattle.rules.specs.Map.{guard}
use Rattle.rules.specs.Samples.{pingable, alert_enabled}
use Rattle.rules.specs.State.{alert, is_on}
use Rattle.rules.specs.Valid.{valid}
use Rattle.rules.specs.declared.Field.{Field}
use Rattle.rules.specs.declared.Handler.{Handler}
use Rattle.rules.specs.declared.Input.{Input}
use Rattle.rules.specs.declared.Links.{Links}
use Rattle.rules.specs.declared.Register.{Register}
use Rattle.rules.specs.declared.Register.TheVariants.{Only, Alert}
use Rattle.rules.specs.declared.Single.TheVariants.{PingRegwen, PingTimeout}
use Rattle.handshake.specs.Handshake.{asks_in}
use Rattle.handshake.specs.Pings.{read_at, meets_at, turn_at, line_opens, sets}
use Rattle.handshake.proofs.Alone.{at_n}
use Rattle.handshake.proofs.TurnEnds.{at_most}
use Rattle.handshake.proofs.TurnSteps.{Runs, SetBy, set_by}
use Rattle.handshake.proofs.Turning.{waits}
use Rattle.handshake.proofs.TimerTicks.{good, few, next, left_open, on_next, on_stays, is_running, on_at, locked_stays, read_stays}

twice : (b : Bool) → ((b && true) && true) ≡ b
twice true = refl
twice false = refl

module _ (h : Handler) (xs : List Input) (v : valid h ≡ true) where
  -- its count is below 65,536, and then its ping fails at the latest
  pub turn_ends : (a limit : ℕ) → is_on (at h xs a) ≡ true → value (at h xs a) (Only PingRegwen) ≡ 0 → value (at h xs a) (Only PingTimeout) ≡ limit
      → 0 < limit → (turn_at h xs a).count < 65536 → a + (65536 + limit) ≤ length xs
      → (u : ℕ) × (a ≤ u) × (u < a + (65536 + limit)) × (sets h xs u ≡ true)
  unfolding locked guard value
  turn_ends a limit o r n above c inside =
      let k : locked (at h xs a) (Only PingTimeout) ≡ true = ap (λ (y : ℕ). eqb y 0) r in
      let f : limit < 65536 = omega (arith, n, (facts (at h xs a) (good h xs v a)).timer.timeout) in
      let on : (t : ℕ) → a ≤ t → t < a + suc (65535 + limit) → Runs (meets_at h xs t) =
      λ t x b. is_running h xs v t (on_stays h xs v a t x (omega (arith, b, inside)) o) in
      let x = at_most (length xs) limit (meets_at h xs) (turn_at h xs) (next h xs v) (left_open h xs v) above f a 65535 (omega (arith, c)) (omega (arith, inside)) on
      (λ t y b. read_stays h xs v (Only PingTimeout) (λ u. refl) a t y (omega (arith, b, inside)) k ∙ n) in (
        x.0,
        x.1,
        omega (arith, x.2),
        ap₂ ◌||◌ (on x.0 x.1 x.2).begins (ap₂ ◌&&◌ x.3 x.4),
      )

  -- ── a turn that tick s sets, and its ping ──

  module _ (s : ℕ) (m : s < length xs) (e : sets h xs s ≡ true) where
    on_after : is_on (at h xs (suc s)) ≡ true
    on_after = go (Owned.or-true (meets_at h xs s).begins ((meets_at h xs s).runs && ends (meets_at h xs s) (turn_at h xs s)) e)
      where
        go : ((meets_at h xs s).begins ≡ true) ⊎ (((meets_at h xs s).runs && ends (meets_at h xs s) (turn_at h xs s)) ≡ true) → is_on (at h xs (suc s)) ≡ true
        go (inl b) =
            let x = IndexLaws.and-true (enables (at h xs s) (input xs s).access) (eqb (at h xs s).timer.enable 0) (sym (begins_is (at h xs s) (input xs s).access) ∙ b) in
            ap is_on (at_next h xs v s m) ∙ after_on (at h xs s) (input xs s) ∙ ap (λ (c : Bool). is_on (at h xs s) || c) x.0 ∙ or-true (is_on (at h xs s))
        go (inr b) = on_next h xs v s m (on_at h xs v s (IndexLaws.and-true (meets_at h xs s).runs (ends (meets_at h xs s) (turn_at h xs s)) b).0)

    set : SetBy (meets_at h xs s) (turn_at h xs s)
    set = set_by (meets_at h xs s) (turn_at h xs s) (λ b. ap (λ (c : Bool). is_on (read_at h xs s) && not c) b ∙ and-false (is_on (read_at h xs s))) e

    pub count_is : (turn_at h xs (suc s)).count ≡ (input xs s).sample.word % 65536
    count_is = ap (λ (x : Turn). x.count) (next h xs v s m) ∙ set.count

    alert_is : (turn_at h xs (suc s)).alert ≡ (input xs s).sample.word / 65536 % 256
    alert_is = ap (λ (x : Turn). x.alert) (next h xs v s m) ∙ set.alert

    shut : (meets_at h xs (suc s)).pending ≡ false
    shut = left_open h xs v s m ∙ set.closed

    -- in the k-th tick after the next one it is due exactly if k is its count
    due_at : (k : ℕ) → k ≤ (turn_at h xs (suc s)).count → suc s + k < length xs
        → (is_due (meets_at h xs (suc s + k)) (turn_at h xs (suc s + k)) ≡ eqb k (turn_at h xs (suc s)).count)
        × (turn_at h xs (suc s + k) ≡ record { number = (turn_at h xs (suc s)).number; alert = (turn_at h xs (suc s)).alert; count = (turn_at h xs (suc s)).count - k })
    due_at k l inside =
        let on : (t : ℕ) → suc s ≤ t → t ≤ suc s + k → Runs (meets_at h xs t) = λ t x y. is_running h xs v t (on_stays h xs v (suc s) t x (omega (arith, y, inside)) on_after) in
        let w = waits (length xs) (meets_at h xs) (turn_at h xs) (next h xs v) (left_open h xs v) (suc s) shut k l (omega (arith, inside)) on k (omega arith) in
        let d : eqb ((turn_at h xs (suc s)).count - k) 0 ≡ eqb k (turn_at h xs (suc s)).count = same_zero (turn_at h xs (suc s)).count k l in (
          ap₂ (λ (x y : Bool). x && y) (on (suc s + k) (omega arith) (omega arith)).runs
              (ap₂ (λ (x : Bool) (y : Turn). not x && eqb y.count 0) w.0 w.1) ∙ d,
          w.1,
        )
      where
        same_zero : (c k : ℕ) → k ≤ c → eqb (c - k) 0 ≡ eqb k c
        same_zero c k l = go (ℕ_discrete k c)
          where
            go : Dec (k ≡ c) → eqb (c - k) 0 ≡ eqb k c
            go (yes e) = eq-eqb (c - k) 0 (omega (arith, e)) ∙ sym (eq-eqb k c e)
            go (no n) = ne_eqb (c - k) 0 (λ (e : c - k ≡ 0). n (omega (arith, e, l))) ∙ sym (ne_eqb k c n)

    pub line_pinged : is_line (turn_at h xs (suc s)) ≡ true → (k : ℕ) → k ≤ (turn_at h xs (suc s)).count → suc s + k < length xs
        → line_opens h xs (line_of (turn_at h xs (suc s))) (suc s + k) ≡ eqb k (turn_at h xs (suc s)).count
    unfolding opens
    line_pinged line k l inside =
        let d = due_at k l inside in
        let f : is_line (turn_at h xs (suc s + k)) ≡ true = ap (λ (x : Turn). is_line x) d.1 ∙ line in
        let g : eqb (line_of (turn_at h xs (suc s))) (line_of (turn_at h xs (suc s + k))) ≡ true =
        eq-eqb (line_of (turn_at h xs (suc s))) (line_of (turn_at h xs (suc s + k))) (sym (ap (λ (x : Turn). line_of x) d.1)) in
        ap₂ (λ (x y : Bool). x && y)
        (ap₂ (λ (x y : Bool). x && y) d.0 (ap (λ (x : Bool). x || (meets_at h xs (suc s + k)).pingable) f))
        (ap₂ (λ (x y : Bool). x && y) f g) ∙ twice (eqb k (turn_at h xs (suc s)).count)

    module _ (i : ℕ) (l : i < h.n) where
      -- where alert i is locked and enabled it stays so
      abbrev q : Register
      q = Alert Field.En i

      abbrev Stays : ℕ → Type 0
      Stays t = (locked (at h xs t) q ≡ true) × (value (at h xs t) q ≡ 1)

      below : (t : ℕ) → ltb i (at h xs t).n ≡ true
      below t = lt-ltb i (at h xs t).n (omega (arith, l, at_n h xs v t))

      stays : (k : ℕ) → suc s + k ≤ length xs → Stays (suc s) → Stays (suc s + k)
      stays k n w = let d = locked_stays h xs v q below (suc s) k n w.0 in (d.0, d.1 ∙ w.1)

      first : value (read_at h xs s) (Alert Field.Regwen i) ≡ 0 → value (read_at h xs s) q ≡ 1 → Stays (suc s)
      unfolding locked guard
      first r n =
          let c = at_next h xs v s m in (
            ap (λ (g : Handler). eqb (value g (Alert Field.Regwen i)) 0) c
                ∙ ap (λ (y : ℕ). eqb y 0) (after_still (at h xs s) (input xs s) (Alert Field.Regwen i) (below s) refl ∙ r),
            ap (λ (g : Handler). value g q) c ∙ after_still (at h xs s) (input xs s) q (below s) refl ∙ n,
          )

      -- and can be pinged in its turn
      can : (t : ℕ) → Stays t → (turn_at h xs t).alert ≡ i → pingable (read_at h xs t) ≡ true
      unfolding locked guard value
      can t w a =
          let c : (read_at h xs t).links.turn.alert ≡ i = ap (λ (z : Links). z.turn.alert) (acted_links (at h xs t) (input xs t).access) ∙ a in
          let d = acted_locked (at h xs t) (input xs t).access q (few h xs v t) (below t) w.0 in
          ap (λ (j : ℕ). ltb j (read_at h xs t).n && (eqb (alert (read_at h xs t) Field.Regwen j) 0 && alert_enabled (read_at h xs t) j)) c
          ∙ ap₂ ◌&&◌ (ap (ltb i) (acted_n (at h xs t) (input xs t).access) ∙ below t) (ap₂ ◌&&◌ d.0 (ap (λ (y : ℕ). eqb y 1) (d.1 ∙ w.1)))

      pub pinged : is_line (turn_at h xs (suc s)) ≡ false → (input xs s).sample.word / 65536 % 256 ≡ i → value (read_at h xs s) (Alert Field.Regwen i) ≡ 0
          → value (read_at h xs s) q ≡ 1 → (k : ℕ) → k ≤ (turn_at h xs (suc s)).count → suc s + k < length xs
          → asks_in h xs i (suc s + k) ≡ eqb k (turn_at h xs (suc s)).count
      unfolding opens
      pinged line a r n k b inside =
          let u : ℕ = suc s + k in
          let d = due_at k b inside in
          let c : (turn_at h xs u).alert ≡ i = ap (λ (x : Turn). x.alert) d.1 ∙ alert_is ∙ a in
          let f : is_line (turn_at h xs u) ≡ false = ap (λ (x : Turn). is_line x) d.1 ∙ line in
          let p = can u (stays k (omega (arith, inside)) (first r n)) c in
          ap₂ (λ (x y : Bool). x && y) (ap₂ (λ (x y : Bool). x && y) d.0 (ap₂ (λ (x y : Bool). x || y) f p))
          (ap₂ (λ (x y : Bool). not x && y) f (eq-eqb i (turn_at h xs u).alert (sym c)))
          ∙ twice (eqb k (turn_at h xs (suc s)).count)
