-- What the timer says is open is what the state holds, after every tick.
-- Assumes nothing.
use Prim.Native.Nat.{ℕ, ◌<◌, ◌/◌, ◌%◌}
use mathlib.Core.Path.{◌≡◌, refl, ap, ap₂, sym, ◌∙◌}
use mathlib.Core.Logic.{◌⊎◌, inl, inr}
use mathlib.Core.Bool.{Bool, true, false, false≢true, cond, not, ◌&&◌, ◌||◌}
use native.Mathlib.Omega.{arith}
use borrow.Author.Tests.{eq-eqb, lt-ltb, ltb-true}
use lib.Dec.{eqb, ltb}
use Rattle.link_rules.proofs.Owned.{and-true, or-true, not-true, is_false, Mine, mine_was, mine_asked, now_runs, not_begins, goes_on, stays}
use Rattle.link_rules.specs.Pings.{pending, asks, alert_after, line_after, Owned, Handed, KeepsPending}
use Rattle.link_rules.specs.Timer.{is_line, line_of, is_due, opens, open_now, open_after, fails, fails_alert, ends, turned}
use Rattle.link_rules.specs.declared.Meets.{Meets}
use Rattle.link_rules.specs.declared.Turn.{Turn}

-- where nothing is open, no turn's ping is
none_open : (n : ℕ) (t : Turn) (alerts lines : ℕ → Bool) → ((i : ℕ) → i < n → alerts i ≡ false) → ((e : ℕ) → e < 4 → lines e ≡ false)
    → pending n t alerts lines ≡ false
none_open n t alerts lines a l = go (is_line t) (ltb t.alert n) refl
  where
    go : (b c : Bool) → ltb t.alert n ≡ c → cond b (lines (line_of t)) (c && alerts t.alert) ≡ false
    go true c e = l (line_of t) (omega arith)
    go false true e = a t.alert (ltb-true t.alert n e)
    go false false e = refl

right_true : (a b : Bool) → b ≡ true → a || b ≡ true
right_true true b e = refl
right_true false b e = e

joined : (a b : Bool) → a || b ≡ true → ((a || (b && true)) && true) && true ≡ true
joined true b e = refl
joined false true e = refl
joined false false e = e

or-false : (a b : Bool) → a || b ≡ false → (a ≡ false) × (b ≡ false)
or-false true b e = absurd (false≢true (sym e))
or-false false b e = (refl, e)

now_open : (m : Meets) (t : Turn) → open_now m t ≡ true → (m.pending ≡ true) ⊎ (opens m t ≡ true)
unfolding open_now
now_open m t e = or-true m.pending (opens m t) (and-true m.runs (m.pending || opens m t) e).1

opens_alert : (m : Meets) (t : Turn) → is_line t ≡ false → opens m t ≡ true → m.pingable ≡ true
unfolding opens
opens_alert m t l e = ap (λ b. b || m.pingable) (sym l) ∙ (and-true (is_due m t) (is_line t || m.pingable) e).1

ends_not : (m : Meets) (t : Turn) → open_now m t ≡ true → ends m t ≡ false → (m.answered ≡ false) × (fails m t ≡ false)
unfolding ends
ends_not m t e x =
    let a : open_now m t && (m.answered || (fails m t || m.closed)) ≡ false = (or-false (is_due m t && not (opens m t)) _ x).1 in
    let b = or-false m.answered (fails m t || m.closed) (ap (λ k. k && (m.answered || (fails m t || m.closed))) (sym e) ∙ a) in
    (b.0, (or-false (fails m t) m.closed b.1).0)

module _ (n : ℕ) (m : Meets) (t : Turn) (alerts lines taken : ℕ → Bool) (o : Owned n m.runs t alerts lines) (g : Handed n m t alerts lines taken) where
  abbrev alerts' : ℕ → Bool
  alerts' i = alert_after m t (alerts i) (taken i) i

  abbrev lines' : ℕ → Bool
  lines' e = line_after m t (lines e) e

  -- an alert's ping that is open after the tick is the turn's, and the turn goes on
  after_mine : (i : ℕ) → i < n → alerts' i ≡ true → Mine m t i × (ends m t ≡ false)
  after_mine i l a =
      (h, goes_on n m t alerts lines taken g i h (not-true (taken i) a2.1) (not-true (fails_alert m t && eqb i t.alert) a1.1))
    where
      a1 : ((alerts i || asks m t i) && not (taken i) ≡ true) × (not (fails_alert m t && eqb i t.alert) ≡ true)
      a1 = and-true ((alerts i || asks m t i) && not (taken i)) (not (fails_alert m t && eqb i t.alert)) a

      a2 : (alerts i || asks m t i ≡ true) × (not (taken i) ≡ true)
      a2 = and-true (alerts i || asks m t i) (not (taken i)) a1.0

      pick : (alerts i ≡ true) ⊎ (asks m t i ≡ true) → Mine m t i
      pick (inl w) = mine_was n m t alerts lines taken g i l w (o.alert i l w)
      pick (inr w) = mine_asked m t i w

      h : Mine m t i
      h = pick (or-true (alerts i) (asks m t i) a2.0)

  -- a line's that is open after the tick is the turn's, and the turn goes on
  after_line : (e : ℕ) → e < 4 → lines' e ≡ true → open_after m t ≡ true
  after_line e l a = go (is_line t && eqb e (line_of t)) refl
    where
      go : (b : Bool) → is_line t && eqb e (line_of t) ≡ b → open_after m t ≡ true
      go true q = sym (ap (λ b. cond b (open_after m t) (lines e)) q) ∙ a
      go false q =
          let w = and-true m.runs (is_line t && eqb e (line_of t)) (o.line e l (sym (ap (λ b. cond b (open_after m t) (lines e)) q) ∙ a)) in
          absurd (false≢true (sym q ∙ w.1))

  -- where the tick leaves the turn's ping closed, it leaves no ping open
  all_closed : open_after m t ≡ false → (t' : Turn) → pending n t' alerts' lines' ≡ false
  all_closed c t' =
      none_open n t' alerts' lines'
      (λ i l. is_false (alerts' i) (λ a. let x = after_mine i l a in sym c ∙ ap₂ (λ p q. p && not q) x.0.opened x.1))
      (λ e l. is_false (lines' e) (λ a. sym c ∙ after_line e l a))

  -- an alert's turn whose ping is open and does not end: the alert is one, its ping is open or asked for, no rise is taken, it does not fail
  open_alert : is_line t ≡ false → open_now m t ≡ true → ends m t ≡ false
      → (ltb t.alert n ≡ true) × (alerts t.alert || opens m t ≡ true) × (taken t.alert ≡ false) × (fails m t ≡ false)
  open_alert l e x = (is.0, is.1, taken_not, failed)
    where
      y : (m.answered ≡ false) × (fails m t ≡ false)
      y = ends_not m t e x

      failed : fails m t ≡ false
      failed = y.1

      taken_not : taken t.alert ≡ false
      taken_not = is_false (taken t.alert) (λ k. sym y.0 ∙ g.is_answer l ∙ ap₂ ◌&&◌ k e)

      pick : (m.pending ≡ true) ⊎ (opens m t ≡ true) → (ltb t.alert n ≡ true) × (alerts t.alert || opens m t ≡ true)
      pick (inl p) =
          let q : ltb t.alert n && alerts t.alert ≡ true = ap (λ b. cond b (lines (line_of t)) (ltb t.alert n && alerts t.alert)) (sym l) ∙ sym g.is_pending ∙ p in
          let z = and-true (ltb t.alert n) (alerts t.alert) q in
          (z.0, ap (λ b. b || opens m t) z.1)
      pick (inr p) = (lt-ltb t.alert n (g.is_alert (opens_alert m t l p)), right_true (alerts t.alert) (opens m t) p)

      is : (ltb t.alert n ≡ true) × (alerts t.alert || opens m t ≡ true)
      is = pick (now_open m t e)

  -- where it leaves it open, the turn goes on
  still_open : open_after m t ≡ true → pending n (turned m t) alerts' lines' ≡ true
  still_open c = ap (λ (k : ℕ). pend k (turned m t).alert) same.0 ∙ ap (λ (k : ℕ). pend t.number k) same.1 ∙ go (is_line t) refl
    where
      w : (open_now m t ≡ true) × (not (ends m t) ≡ true)
      w = and-true (open_now m t) (not (ends m t)) c

      r : m.runs ≡ true
      r = now_runs m t w.0

      same : ((turned m t).number ≡ t.number) × ((turned m t).alert ≡ t.alert)
      same = stays m t r (not_begins n m t alerts lines taken g r) (not-true (ends m t) w.1)

      pend : ℕ → ℕ → Bool
      pend number alert = cond (eqb (number % 2) 1) (lines' (number / 2 % 4)) (ltb alert n && alerts' alert)

      go : (b : Bool) → is_line t ≡ b → pend t.number t.alert ≡ true
      go true l = simp (l, eq-eqb (line_of t) (line_of t) refl) c
      go false l = let x = open_alert l w.0 (not-true (ends m t) w.1) in
          simp (l, x.0, x.2, x.3, eq-eqb t.alert t.alert refl) (joined (alerts t.alert) (opens m t) x.1)

  both : (b : Bool) → open_after m t ≡ b → pending n (turned m t) alerts' lines' ≡ open_after m t
  both true c = still_open c ∙ sym c
  both false c = all_closed c (turned m t) ∙ sym c

pub keeps_pending : (n : ℕ) (m : Meets) (t : Turn) (alerts lines taken : ℕ → Bool) → KeepsPending n m t alerts lines taken
keeps_pending n m t alerts lines taken = record { keeps = λ o g. both n m t alerts lines taken o g (open_after m t) refl }
