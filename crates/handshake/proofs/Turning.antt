-- Request (ix): the timer over any number of ticks. It meets ms 0, ms 1, .., and ts t is its turn before tick t.
-- Assumes nothing.
use Prim.Native.Nat.{ℕ, zero, suc, ◌+◌, ◌-◌, ◌≤◌, ◌<◌}
use mathlib.Core.Path.{◌≡◌, refl, sym, ap, ◌∙◌, subst}
use mathlib.Core.Bool.{true, false}
use native.Mathlib.Omega.{arith}
use native.Mathlib.Decide.{dec_lt}
use borrow.Author.Tests.{eq-eqb, ne_eqb}
use lib.Dec.{eqb}
use Rattle.link_rules.specs.Timer.{opens, open_after, fails, turned}
use Rattle.link_rules.specs.declared.Meets.{Meets}
use Rattle.link_rules.specs.declared.Turn.{Turn}
use Rattle.handshake.proofs.TurnSteps.{at, Runs, Goes, waiting, fresh, young, opening, aging, failing}

module _ (len : ℕ) (ms : ℕ → Meets) (ts : ℕ → Turn) (next : (t : ℕ) → t < len → ts (suc t) ≡ turned (ms t) (ts t))
    (left_open : (t : ℕ) → t < len → (ms (suc t)).pending ≡ open_after (ms t) (ts t)) where
  -- ── a ping that opens in tick p, gets no answer and is not closed by an escalation, up to the last of some ticks ──

  module _ (p limit last : ℕ) (o : opens (ms p) (ts p) ≡ true) (above : 0 < limit) (small : limit < 65536) (few : last ≤ limit) (inside : p + last < len)
      (on : (t : ℕ) → p ≤ t → t ≤ p + last → Runs (ms t)) (limits : (t : ℕ) → p ≤ t → t ≤ p + last → (ms t).timeout ≡ limit)
      (silent : (t : ℕ) → p ≤ t → t ≤ p + last → ((ts t).number ≡ (ts p).number) → ((ts t).alert ≡ (ts p).alert) → (ms t).answered ≡ false)
      (calm : (t : ℕ) → p ≤ t → t < p + last → ((ts t).number ≡ (ts p).number) → ((ts t).alert ≡ (ts p).alert) → (ms t).closed ≡ false) where
    -- in tick t, k ticks after the next one
    record Open (t k : ℕ) : Type 0 where
      pending : (ms t).pending ≡ true
      turn : ts t ≡ at (ts p) k

    first : 0 < last → Goes (ms p) (ts p) true 0
    first l =
        opening (ms p) (ts p) (on p (omega arith) (omega arith)) o (silent p (omega arith) (omega arith) refl refl)
        (calm p (omega arith) (omega (arith, l)) refl refl)
        (subst (λ (n : ℕ). 0 < n) (sym (limits p (omega arith) (omega arith))) above)

    module _ (t k : ℕ) (a : p ≤ t) (b : t ≤ p + last) (s : Open t k) where
      unanswered : (ms t).answered ≡ false
      unanswered = silent t a b (ap (λ (x : Turn). x.number) s.turn) (ap (λ (x : Turn). x.alert) s.turn)

      count_is : (ts t).count ≡ k
      count_is = ap (λ (x : Turn). x.count) s.turn

      unclosed : t < p + last → (ms t).closed ≡ false
      unclosed d = calm t a d (ap (λ (x : Turn). x.number) s.turn) (ap (λ (x : Turn). x.alert) s.turn)

      unfailed : suc k < limit → fails (ms t) (ts t) ≡ false
      unfailed l = young (ms t) (ts t) (on t a b) s.pending (omega (arith, count_is, l, small)) (omega (arith, count_is, l, limits t a b))

      older : t < p + last → suc k < limit → Goes (ms t) (ts t) true (suc k)
      older d l =
          subst (λ (c : ℕ). Goes (ms t) (ts t) true (suc c)) count_is
          (aging (ms t) (ts t) (on t a b) s.pending unanswered (unclosed d) (omega (arith, count_is, l, small)) (omega (arith, count_is, l, limits t a b)))

      ends_there : suc k ≡ limit → fails (ms t) (ts t) ≡ true
      ends_there e =
          failing (ms t) (ts t) (on t a b) s.pending unanswered (omega (arith, count_is, e, small)) (omega (arith, count_is, e, limits t a b))

      goes_on : t < p + last → suc k < limit → t < len → Open (suc t) (suc k)
      goes_on d l m =
          let g = older d l in
          record {
            pending = left_open t m ∙ g.left;
            turn = next t m ∙ g.turn ∙ ap (λ (x : Turn). at x (suc k)) s.turn;
          }

    opened : (k : ℕ) → k < last → Open (suc (p + k)) k
    opened zero l =
        let e : p ≡ p + 0 = omega arith in
        subst (λ (t : ℕ). Open (suc t) 0) e
        (record { pending = left_open p (omega (arith, inside)) ∙ (first l).left; turn = next p (omega (arith, inside)) ∙ (first l).turn })
    opened (suc k) l =
        let e : suc (p + k) ≡ p + suc k = omega arith in
        subst (λ (t : ℕ). Open (suc t) (suc k)) e
        (goes_on (suc (p + k)) k (omega arith) (omega (arith, l)) (opened k (omega (arith, l))) (omega (arith, l)) (omega (arith, l, few)) (omega (arith, l, inside)))

    -- it fails as many ticks later as the timeout says, and not before; up to then the turn is its own
    pub fails_then : (k : ℕ) → k ≤ last → (fails (ms (p + k)) (ts (p + k)) ≡ eqb k limit) × ((ts (p + k)).number ≡ (ts p).number) × ((ts (p + k)).alert ≡ (ts p).alert)
    fails_then zero l =
        let e : p ≡ p + 0 = omega arith in
        subst (λ (t : ℕ). (fails (ms t) (ts t) ≡ eqb 0 limit) × ((ts t).number ≡ (ts p).number) × ((ts t).alert ≡ (ts p).alert)) e
        (fresh (ms p) (ts p) (on p (omega arith) (omega arith)) o (subst (λ (n : ℕ). 0 < n) (sym (limits p (omega arith) (omega arith))) above) ∙ sym (ne_eqb 0 limit (λ (q : 0 ≡ limit). omega (arith, q, above))), refl, refl)
    fails_then (suc k) l =
        let e : suc (p + k) ≡ p + suc k = omega arith in
        let s = opened k (omega (arith, l)) in
        subst (λ (t : ℕ). (fails (ms t) (ts t) ≡ eqb (suc k) limit) × ((ts t).number ≡ (ts p).number) × ((ts t).alert ≡ (ts p).alert)) e
        (go (dec_lt (suc k) limit) s, ap (λ (x : Turn). x.number) s.turn, ap (λ (x : Turn). x.alert) s.turn)
      where
        go : Dec (suc k < limit) → Open (suc (p + k)) k → fails (ms (suc (p + k))) (ts (suc (p + k))) ≡ eqb (suc k) limit
        go (yes m) s =
            unfailed (suc (p + k)) k (omega arith) (omega (arith, l)) s m ∙ sym (ne_eqb (suc k) limit (λ (q : suc k ≡ limit). omega (arith, q, m)))
        go (no m) s =
            let q : suc k ≡ limit = omega (arith, l, m, few) in
            ends_there (suc (p + k)) k (omega arith) (omega (arith, l)) s q ∙ sym (eq-eqb (suc k) limit q)

  -- ── a turn that is set before tick s: its ping is due when its count is over ──

  module _ (s : ℕ) (shut : (ms s).pending ≡ false) (n : ℕ) (few : n ≤ (ts s).count) (inside : s + n ≤ len)
      (on : (t : ℕ) → s ≤ t → t ≤ s + n → Runs (ms t)) where
    pub waits : (k : ℕ) → k ≤ n → ((ms (s + k)).pending ≡ false) × (ts (s + k) ≡ at (ts s) ((ts s).count - k))
    waits zero l =
        let e : s ≡ s + 0 = omega arith in
        subst (λ (t : ℕ). ((ms t).pending ≡ false) × (ts t ≡ at (ts s) ((ts s).count - 0))) e (shut, ap (at (ts s)) (omega arith))
    waits (suc k) l =
        let e : suc (s + k) ≡ s + suc k = omega arith in
        let w = waits k (omega (arith, l)) in
        let c : (ts (s + k)).count ≡ (ts s).count - k = ap (λ (x : Turn). x.count) w.1 in
        let g = waiting (ms (s + k)) (ts (s + k)) (on (s + k) (omega arith) (omega (arith, l))) w.0 (omega (arith, c, l, few)) in
        let m : s + k < len = omega (arith, l, inside) in
        let d : (ts (s + k)).count - 1 ≡ (ts s).count - suc k = omega (arith, c) in
        subst (λ (t : ℕ). ((ms t).pending ≡ false) × (ts t ≡ at (ts s) ((ts s).count - suc k))) e
        (left_open (s + k) m ∙ g.left, next (s + k) m ∙ g.turn ∙ ap (λ (x : Turn). at x ((ts (s + k)).count - 1)) w.1 ∙ ap (at (ts s)) d)
