-- Refusal 7's rule of open pings is kept by every tick.
-- Assumes nothing.
use Prim.Native.Nat.{ℕ, ◌<◌}
use mathlib.Core.Path.{◌≡◌, refl, ap, sym, ◌∙◌}
use mathlib.Core.Logic.{◌⊎◌, inl, inr}
use mathlib.Core.Bool.{Bool, true, false, false≢true, cond, not, ◌&&◌, ◌||◌}
use borrow.Author.Tests.{eqb-true, lt-ltb}
use lib.Dec.{eqb}
use Rattle.link_rules.specs.Pings.{asks, alert_after, line_after, Owned, Handed, KeepsOwned}
use Rattle.link_rules.specs.Timer.{is_line, line_of, is_due, opens, open_now, open_after, fails, fails_alert, ends, turned, owns_alert, owns_line}
use Rattle.link_rules.specs.declared.Meets.{Meets}
use Rattle.link_rules.specs.declared.Turn.{Turn}

pub and-true : (a b : Bool) → a && b ≡ true → (a ≡ true) × (b ≡ true)
and-true true b e = (refl, e)
and-true false b e = absurd (false≢true e)

pub or-true : (a b : Bool) → a || b ≡ true → (a ≡ true) ⊎ (b ≡ true)
or-true true b e = inl refl
or-true false b e = inr e

pub not-true : (a : Bool) → not a ≡ true → a ≡ false
not-true true e = absurd (false≢true e)
not-true false e = refl

pub is_false : (a : Bool) → (a ≡ true → false ≡ true) → a ≡ false
is_false true f = absurd (false≢true (f refl))
is_false false f = refl

-- a turn that neither begins nor ends stays
pub stays : (m : Meets) (t : Turn) → m.runs ≡ true → m.begins ≡ false → ends m t ≡ false
    → ((turned m t).number ≡ t.number) × ((turned m t).alert ≡ t.alert)
unfolding turned
stays m t r b x = (simp (r, b, x), simp (r, b, x))

keeps_alert : (m : Meets) (t : Turn) (i : ℕ) → m.runs ≡ true → m.begins ≡ false → ends m t ≡ false → is_line t ≡ false → eqb i t.alert ≡ true
    → owns_alert (m.runs || m.begins) (turned m t) i ≡ true
keeps_alert m t i r b x l q = let s = stays m t r b x in simp (r, b, s.0, s.1, l, q)

keeps_line : (m : Meets) (t : Turn) (e : ℕ) → m.runs ≡ true → m.begins ≡ false → ends m t ≡ false → is_line t ≡ true → eqb e (line_of t) ≡ true
    → owns_line (m.runs || m.begins) (turned m t) e ≡ true
keeps_line m t e r b x l q = let s = stays m t r b x in simp (r, b, s.0, l, q)

-- the turn runs, it is an alert's, and this alert's
pub record Mine (m : Meets) (t : Turn) (i : ℕ) : Type 0 where
  pub running : m.runs ≡ true
  pub alerting : is_line t ≡ false
  pub drawn : eqb i t.alert ≡ true
  pub opened : open_now m t ≡ true
  pub early : is_due m t && not (opens m t) ≡ false

pub mine_was : (n : ℕ) (m : Meets) (t : Turn) (alerts lines taken : ℕ → Bool) → Handed n m t alerts lines taken → (i : ℕ) → i < n → alerts i ≡ true
    → owns_alert m.runs t i ≡ true → Mine m t i
unfolding open_now
mine_was n m t alerts lines taken g i l a o =
    record {
      running = r;
      alerting = k;
      drawn = q;
      opened = simp (r, p);
      early = simp (r, p);
    }
  where
    o1 : (m.runs ≡ true) × (not (is_line t) && eqb i t.alert ≡ true)
    o1 = and-true m.runs (not (is_line t) && eqb i t.alert) o

    r : m.runs ≡ true
    r = o1.0

    o2 : (not (is_line t) ≡ true) × (eqb i t.alert ≡ true)
    o2 = and-true (not (is_line t)) (eqb i t.alert) o1.1

    k : is_line t ≡ false
    k = not-true (is_line t) o2.0

    q : eqb i t.alert ≡ true
    q = o2.1

    same : i ≡ t.alert
    same = eqb-true i t.alert q

    p : m.pending ≡ true
    p = g.is_pending ∙ simp (k, ← same, lt-ltb i n l, a)

pub opens_runs : (m : Meets) (t : Turn) → opens m t ≡ true → m.runs ≡ true
unfolding opens
opens_runs m t e =
    (and-true m.runs (not m.pending && eqb t.count 0) (and-true (is_due m t) (is_line t || m.pingable) e).0).0

pub mine_asked : (m : Meets) (t : Turn) (i : ℕ) → asks m t i ≡ true → Mine m t i
unfolding open_now
mine_asked m t i e =
    record {
      running = r;
      alerting = not-true (is_line t) e2.0;
      drawn = e2.1;
      opened = go m.runs m.pending (opens m t) r e1.0;
      early = simp e1.0 (none (is_due m t));
    }
  where
    e1 : (opens m t ≡ true) × (not (is_line t) && eqb i t.alert ≡ true)
    e1 = and-true (opens m t) (not (is_line t) && eqb i t.alert) e

    e2 : (not (is_line t) ≡ true) × (eqb i t.alert ≡ true)
    e2 = and-true (not (is_line t)) (eqb i t.alert) e1.1

    r : m.runs ≡ true
    r = opens_runs m t e1.0

    go : (a b c : Bool) → a ≡ true → c ≡ true → a && (b || c) ≡ true
    go true true c x y = refl
    go true false c x y = y
    go false b c x y = absurd (false≢true x)

    none : (a : Bool) → a && false ≡ false
    none true = refl
    none false = refl

pub now_runs : (m : Meets) (t : Turn) → open_now m t ≡ true → m.runs ≡ true
unfolding open_now
now_runs m t e = (and-true m.runs (m.pending || opens m t) e).0

-- a turn that runs does not begin
pub not_begins : (n : ℕ) (m : Meets) (t : Turn) (alerts lines taken : ℕ → Bool) → Handed n m t alerts lines taken → m.runs ≡ true → m.begins ≡ false
not_begins n m t alerts lines taken g r = is_false m.begins (λ b. sym (g.is_start b) ∙ r)

-- an alert's ping that stays open does not end its turn
pub goes_on : (n : ℕ) (m : Meets) (t : Turn) (alerts lines taken : ℕ → Bool) → Handed n m t alerts lines taken → (i : ℕ) → Mine m t i → taken i ≡ false
    → fails_alert m t && eqb i t.alert ≡ false → ends m t ≡ false
unfolding ends
goes_on n m t alerts lines taken g i h k f =
    simp (h.early, h.opened, answered, failed, closed)
  where
    answered : m.answered ≡ false
    answered = g.is_answer h.alerting ∙ simp (← eqb-true i t.alert h.drawn, k)

    failed : fails m t ≡ false
    failed = go (fails m t) (is_line t) (eqb i t.alert) h.alerting h.drawn f
      where
        go : (a b c : Bool) → b ≡ false → c ≡ true → (a && not b) && c ≡ false → a ≡ false
        go false b c x y z = refl
        go true false true x y z = z
        go true true c x y z = absurd (false≢true (sym x))
        go true false false x y z = absurd (false≢true y)

    closed : m.closed ≡ false
    closed = is_false m.closed (λ c. sym h.alerting ∙ g.is_closed c)

pub keeps_owned : (n : ℕ) (m : Meets) (t : Turn) (alerts lines taken : ℕ → Bool) → KeepsOwned n m t alerts lines taken
keeps_owned n m t alerts lines taken = record { keeps = λ o g. record { alert = alert o g; line = line o g } }
  where
    alert : Owned n m.runs t alerts lines → Handed n m t alerts lines taken → (i : ℕ) → i < n → alert_after m t (alerts i) (taken i) i ≡ true
        → owns_alert (m.runs || m.begins) (turned m t) i ≡ true
    alert o g i l a =
        keeps_alert m t i h.running (not_begins n m t alerts lines taken g h.running)
        (goes_on n m t alerts lines taken g i h (not-true (taken i) a2.1) (not-true (fails_alert m t && eqb i t.alert) a1.1))
        h.alerting h.drawn
      where
        a1 : ((alerts i || asks m t i) && not (taken i) ≡ true) × (not (fails_alert m t && eqb i t.alert) ≡ true)
        a1 = and-true ((alerts i || asks m t i) && not (taken i)) (not (fails_alert m t && eqb i t.alert)) a

        a2 : (alerts i || asks m t i ≡ true) × (not (taken i) ≡ true)
        a2 = and-true (alerts i || asks m t i) (not (taken i)) a1.0

        pick : (alerts i ≡ true) ⊎ (asks m t i ≡ true) → Mine m t i
        pick (inl w) = mine_was n m t alerts lines taken g i l w (o.alert i l w)
        pick (inr w) = mine_asked m t i w

        h : Mine m t i
        h = pick (or-true (alerts i) (asks m t i) a2.0)

    line : Owned n m.runs t alerts lines → Handed n m t alerts lines taken → (e : ℕ) → e < 4 → line_after m t (lines e) e ≡ true
        → owns_line (m.runs || m.begins) (turned m t) e ≡ true
    line o g e l a = go (is_line t && eqb e (line_of t)) refl
      where
        go : (b : Bool) → is_line t && eqb e (line_of t) ≡ b → owns_line (m.runs || m.begins) (turned m t) e ≡ true
        go true q =
            let w = and-true (open_now m t) (not (ends m t)) (sym (ap (λ b. cond b (open_after m t) (lines e)) q) ∙ a) in
            let r = now_runs m t w.0 in
            let p = and-true (is_line t) (eqb e (line_of t)) q in
            keeps_line m t e r (not_begins n m t alerts lines taken g r) (not-true (ends m t) w.1) p.0 p.1
        go false q =
            let w = and-true m.runs (is_line t && eqb e (line_of t)) (o.line e l (sym (ap (λ b. cond b (open_after m t) (lines e)) q) ∙ a)) in
            absurd (false≢true (sym q ∙ w.1))
