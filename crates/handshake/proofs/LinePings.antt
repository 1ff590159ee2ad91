-- The claim of specs/LinePings.antt: a line's ping along a list of ticks.
-- Assumes nothing.
use Prim.Native.Nat.{ℕ, zero, suc, ◌+◌, ◌-◌, ◌≤◌, ◌<◌}
use mathlib.Core.Path.{◌≡◌, refl, sym, ap, ap₂, ◌∙◌, subst}
use mathlib.Core.Bool.{Bool, true, false, false≢true, cond, not, ◌&&◌, ◌||◌}
use mathlib.Core.List.{List}
use native.Mathlib.Omega.{arith}
use native.Mathlib.Decide.{dec_lt}
use borrow.Author.Tests.{eqb-true, ne_eqb, lt-ltb, le-ltb}
use lib.Dec.{eqb, ltb}
use lib.ListN.{length}
use Rattle.bits.proofs.IndexLaws.{and-true}
use Rattle.bits.specs.Index.{all_to}
use Rattle.escalation.proofs.ListTicks.{at, input}
use Rattle.link_rules.specs.Sender.{still_right, is_answered}
use Rattle.link_rules.specs.Timer.{opens, open_now, age}
use Rattle.rules.specs.Samples.{was_right}
use Rattle.rules.specs.Valid.{valid}
use Rattle.rules.specs.declared.Handler.{Handler}
use Rattle.rules.specs.declared.Input.{Input}
use Rattle.handshake.specs.LinePings.{checked_at, wrong_at, line_open, all_right, LinePings}
use Rattle.handshake.specs.Pings.{meets_at, turn_at, lines_turn, line_opens, line_answered, sets}
use Rattle.handshake.proofs.Apart.{none_soon}
use Rattle.handshake.proofs.LineSteps.{answer_wires}
use Rattle.handshake.proofs.LineTicks.{alone, is_lines, occurs_3, said, closes, parts, ends_are, stays, older, right_next, opens_open}
use Rattle.handshake.proofs.Pattern.{pattern}
use Rattle.handshake.proofs.TurnSteps.{was_shut}

-- ── the age of an open ping, in the tick k ticks after it opened ──

unfoldable aged : ℕ → ℕ
aged zero = 0
aged (suc k) = cond (ltb (aged k) 65535) (aged k + 1) 65535

-- it grows by one, or stays at 65,535
aged_over : (n k : ℕ) → n < 65535 → n ≤ aged k → suc n ≤ aged (suc k)
unfolding aged
aged_over n k b l = go (dec_lt (aged k) 65535)
  where
    go : Dec (aged k < 65535) → suc n ≤ cond (ltb (aged k) 65535) (aged k + 1) 65535
    go (yes m) = subst (λ (c : Bool). suc n ≤ cond c (aged k + 1) 65535) (sym (lt-ltb (aged k) 65535 m)) (omega (arith, l))
    go (no m) = subst (λ (c : Bool). suc n ≤ cond c (aged k + 1) 65535) (sym (le-ltb (aged k) 65535 (omega (arith, m)))) (omega (arith, b))

aged_five : (k : ℕ) → 5 ≤ aged (suc (suc (suc (suc (suc k)))))
unfolding aged
aged_five zero = omega arith
aged_five (suc k) = let l = aged_five k in let m = aged_over 4 (suc (suc (suc (suc (suc k))))) (omega arith) (omega (arith, l)) in m

-- it is 4 in the fourth tick alone
aged_four : (k : ℕ) → eqb (aged k) 4 ≡ eqb k 4
unfolding aged
aged_four zero = refl
aged_four (suc zero) = refl
aged_four (suc (suc zero)) = refl
aged_four (suc (suc (suc zero))) = refl
aged_four (suc (suc (suc (suc zero)))) = refl
aged_four (suc (suc (suc (suc (suc k))))) =
    let l = aged_five k in
    ne_eqb (aged (suc (suc (suc (suc (suc k)))))) 4 (λ (e : aged (suc (suc (suc (suc (suc k))))) ≡ 4). omega (arith, l, e))
    ∙ sym (ne_eqb (suc (suc (suc (suc (suc k))))) 4 (λ (e : suc (suc (suc (suc (suc k)))) ≡ 4). omega (arith, e)))

-- and not 0 after the first
aged_some : (k : ℕ) → eqb (aged (suc k)) 0 ≡ false
aged_some k =
    let l = aged_over 0 k (omega arith) (omega arith) in
    ne_eqb (aged (suc k)) 0 (λ (e : aged (suc k) ≡ 0). omega (arith, l, e))

-- the number before
abbrev last : ℕ → ℕ
last zero = zero
last (suc k) = k

module _ (h : Handler) (xs : List Input) (v : valid h ≡ true) where
  -- ── a ping of line e that opens in tick p, while its turn lasts ──

  -- in the tick j ticks later
  record Lasts (e p j : ℕ) : Type 0 where
    is_open : line_open h xs e (p + j) ≡ true
    age_is : age (meets_at h xs (p + j)) (turn_at h xs (p + j)) ≡ aged j
    right : (opens (meets_at h xs (p + j)) (turn_at h xs (p + j)) || was_right (at h xs (p + j))) ≡ all_right h xs e p (last j)

  still : (e p j : ℕ) → still_right (aged j) (all_right h xs e p (last j)) (wrong_at h xs e (p + j)) ≡ all_right h xs e p j
  unfolding aged all_to
  still e p zero = refl
  still e p (suc i) = ap (λ (b : Bool). all_right h xs e p i && (b || not (wrong_at h xs e (p + suc i)))) (aged_some i)

  module _ (e p : ℕ) (o : line_opens h xs e p ≡ true) where
    opened : (opens (meets_at h xs p) (turn_at h xs p) ≡ true) × (lines_turn h xs e p ≡ true)
    opened = and-true (opens (meets_at h xs p) (turn_at h xs p)) (lines_turn h xs e p) o

    lasts_from : Lasts e p 0
    unfolding open_now aged all_to
    lasts_from =
        let c : p ≡ p + 0 = omega arith in
        let s = was_shut (meets_at h xs p) (turn_at h xs p) opened.0 in
        record {
          is_open = subst (λ (t : ℕ). line_open h xs e t ≡ true) c
              (opens_open h xs v e p o);
          age_is = subst (λ (t : ℕ). age (meets_at h xs t) (turn_at h xs t) ≡ 0) c
              (ap (λ (b : Bool). cond b (cond (ltb (turn_at h xs p).count 65535) ((turn_at h xs p).count + 1) 65535) 0) s);
          right = subst (λ (t : ℕ). (opens (meets_at h xs t) (turn_at h xs t) || was_right (at h xs t)) ≡ true) c
              (ap (λ (b : Bool). b || was_right (at h xs p)) opened.0);
        }

    lasts_next : (j : ℕ) → p + suc j < length xs → checked_at xs (p + j) ≡ true → sets h xs (p + j) ≡ false → Lasts e p j → Lasts e p (suc j)
    unfolding aged
    lasts_next j m c n s =
        let d : suc (p + j) ≡ p + suc j = omega arith in
        let l : p + j < length xs = omega (arith, m) in
        record {
          is_open = subst (λ (t : ℕ). line_open h xs e t ≡ true) d (stays h xs v e (p + j) s.is_open l n).0;
          age_is = subst (λ (t : ℕ). age (meets_at h xs t) (turn_at h xs t) ≡ aged (suc j)) d
              (older h xs v e (p + j) s.is_open l n ∙ ap (λ (a : ℕ). cond (ltb a 65535) (a + 1) 65535) s.age_is);
          right = subst (λ (t : ℕ). (opens (meets_at h xs t) (turn_at h xs t) || was_right (at h xs t)) ≡ all_right h xs e p j) d
              (right_next h xs v e (p + j) s.is_open l n c
              ∙ ap₂ (λ (a : ℕ) (r : Bool). still_right a r (wrong_at h xs e (p + j))) s.age_is s.right ∙ still e p j);
        }

    lasting : (j : ℕ) → p + j < length xs → ((t : ℕ) → p ≤ t → t < p + j → checked_at xs t ≡ true) → ((t : ℕ) → p ≤ t → t < p + j → sets h xs t ≡ false)
        → Lasts e p j
    lasting zero m c n = lasts_from
    lasting (suc j) m c n =
        lasts_next j m (c (p + j) (omega arith) (omega arith)) (n (p + j) (omega arith) (omega arith))
        (lasting j (omega (arith, m)) (λ t a b. c t a (omega (arith, b))) (λ t a b. n t a (omega (arith, b))))

    -- answered in the fourth tick, where all four answers were right
    fourth : (j : ℕ) → is_answered (aged j) (all_right h xs e p (last j)) (wrong_at h xs e (p + j)) ≡ (eqb j 4 && all_right h xs e p 4)
    fourth j = ap₂ ◌&&◌ (aged_four j) (still e p j) ∙ go (eqb j 4) refl
      where
        go : (b : Bool) → eqb j 4 ≡ b → (b && all_right h xs e p j) ≡ (b && all_right h xs e p 4)
        go true c = ap (all_right h xs e p) (eqb-true j 4 c)
        go false c = refl

    answered : (k : ℕ) → p + k < length xs → ((t : ℕ) → p ≤ t → t ≤ p + k → checked_at xs t ≡ true)
        → ((t : ℕ) → p ≤ t → t < p + k → sets h xs t ≡ false) → line_answered h xs e (p + k) ≡ (eqb k 4 && all_right h xs e p 4)
    answered k m c n =
        let s = lasting k m (λ t a b. c t a (omega (arith, b))) n in
        let q = parts h xs v e (p + k) s.is_open in
        let l = is_lines h xs v e (p + k) q.1 in
        let r : Bool = opens (meets_at h xs (p + k)) (turn_at h xs (p + k)) || was_right (at h xs (p + k)) in
        alone (meets_at h xs (p + k)).answered (lines_turn h xs e (p + k)) q.1
        ∙ answer_wires (at h xs (p + k)) (input xs (p + k)) l.0 (c (p + k) (omega arith) (omega arith))
        ∙ ap₂ (λ (b : Bool) (i : ℕ). b && is_answered (age (meets_at h xs (p + k)) (turn_at h xs (p + k))) r (wrong_at h xs i (p + k))) q.0 (sym l.1)
        ∙ ap₂ (λ (a : ℕ) (b : Bool). is_answered a b (wrong_at h xs e (p + k))) s.age_is s.right
        ∙ fourth k

-- pings of one line
apart : (h : Handler) (xs : List Input) → valid h ≡ true → (e p q : ℕ) → q < length xs → line_opens h xs e p ≡ true → line_opens h xs e q ≡ true → p < q → p + 8 ≤ q
apart h xs v e p q m a b l = go (dec_lt (q - p) 8)
  where
    go : Dec (q - p < 8) → p + 8 ≤ q
    go (no n) = omega (arith, l, n)
    go (yes n) =
        let d : p + (q - p) ≡ q = omega (arith, l) in
        absurd (false≢true (sym (subst (λ (t : ℕ). line_opens h xs e t ≡ false) d (none_soon h xs v e p a (q - p) (omega (arith, l)) n (omega (arith, d, m)))) ∙ b))

-- request (xi), of every list of ticks from every accepted state
pub line_pings : (h : Handler) (xs : List Input) → valid h ≡ true → LinePings h xs
line_pings h xs v =
    record {
      apart = apart h xs v;
      pattern = λ e p l m n w. pattern h xs v e l n p m w;
      local_3 = λ t m. occurs_3 h xs v t;
      answered = λ e p k m o. answered h xs v e p o k m;
      said = λ e t m. said h xs v e t;
      closes = closes h xs v;
      ends = λ e t m. ends_are h xs v e t;
    }
