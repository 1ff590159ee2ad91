-- Request (ix): how long a turn of a timer that runs lasts at most, whatever comes.
-- Assumes nothing.
use Prim.Native.Nat.{ℕ, zero, suc, ◌+◌, ◌-◌, ◌≤◌, ◌<◌}
use mathlib.Core.Path.{◌≡◌, refl, sym, ap, ◌∙◌, subst}
use mathlib.Core.Logic.{◌⊎◌, inl, inr}
use mathlib.Core.Bool.{Bool, true, false, not, ◌&&◌, ◌||◌}
use native.Mathlib.Omega.{arith}
use native.Mathlib.Decide.{dec_lt}
use borrow.Author.Tests.{eq-eqb, lt-ltb, le-ltb, le-leb}
use lib.Dec.{eqb, ltb, leb}
use Rattle.link_rules.specs.Timer.{is_due, opens, open_now, open_after, fails, ends, turned}
use Rattle.link_rules.specs.declared.Meets.{Meets}
use Rattle.link_rules.specs.declared.Turn.{Turn}
use Rattle.handshake.proofs.TurnSteps.{Runs, Goes, waiting, opening, aging}

-- the ticks that a turn can still last at this timeout, its ping open or not, at the count c
unfoldable pub remaining : ℕ → Bool → ℕ → ℕ
remaining limit true c = suc (limit - suc c)
remaining limit false c = suc (c + limit)

-- ── one tick ──

module _ (m : Meets) (t : Turn) (r : Runs m) (above : 0 < m.timeout) (small : m.timeout < 65536) where
  -- it ends, or one tick less remains
  abbrev Onward : Type 0
  Onward =
      (ends m t ≡ true)
      ⊎ ((p : Bool) × (c : ℕ) × Goes m t p c × (remaining m.timeout p c < remaining m.timeout m.pending t.count))

  -- an open ping that is answered
  answered_ends : open_now m t ≡ true → m.answered ≡ true → ends m t ≡ true
  unfolding ends
  answered_ends o a = simp (o, a) (either (is_due m t && not (opens m t)))
    where
      either : (b : Bool) → (b || true) ≡ true
      either true = refl
      either false = refl

  -- one that an escalation closes
  closed_ends : open_now m t ≡ true → m.closed ≡ true → ends m t ≡ true
  unfolding ends
  closed_ends o x =
      simp (o, x) (either (is_due m t && not (opens m t)) m.answered (fails m t))
    where
      either : (b c d : Bool) → (b || (c || (d || true))) ≡ true
      either true c d = refl
      either false true d = refl
      either false false true = refl
      either false false false = refl

  -- one that is as old as the timeout
  late_ends : m.pending ≡ true → m.answered ≡ false → m.timeout ≤ suc t.count → ends m t ≡ true
  unfolding ends fails open_now
  late_ends p a l = go (dec_lt t.count 65535)
    where
      g : ltb 0 m.timeout ≡ true
      g = lt-ltb 0 m.timeout above

      go : Dec (t.count < 65535) → ends m t ≡ true
      go (yes b) =
          let e : ltb t.count 65535 ≡ true = lt-ltb t.count 65535 b in
          let f : leb m.timeout (t.count + 1) ≡ true = le-leb m.timeout (t.count + 1) (omega (arith, l)) in
          simp (r.runs, p, a, e, f, g)
      go (no b) =
          let e : ltb t.count 65535 ≡ false = le-ltb t.count 65535 (omega (arith, b)) in
          let f : leb m.timeout 65535 ≡ true = le-leb m.timeout 65535 (omega (arith, small)) in
          simp (r.runs, p, a, e, f, g)

  -- one that is due and does not open
  unopened_ends : m.pending ≡ false → t.count ≡ 0 → opens m t ≡ false → ends m t ≡ true
  unfolding ends
  unopened_ends p z o = let e : eqb t.count 0 ≡ true = eq-eqb t.count 0 z in simp (r.runs, p, e, o)

  while_open : m.pending ≡ true → (b c : Bool) → m.answered ≡ b → m.closed ≡ c → Onward
  unfolding open_now remaining
  while_open p true c a x = inl (answered_ends (simp (r.runs, p)) a)
  while_open p false true a x = inl (closed_ends (simp (r.runs, p)) x)
  while_open p false false a x = go (dec_lt (suc t.count) m.timeout)
    where
      go : Dec (suc t.count < m.timeout) → Onward
      go (yes l) =
          inr (
            true,
            suc t.count,
            aging m t r p a x (omega (arith, l, small)) l,
            subst (λ (b : Bool). remaining m.timeout true (suc t.count) < remaining m.timeout b t.count) (sym p) (omega (arith, l)),
          )
      go (no l) = inl (late_ends p a (omega (arith, l)))

  while_shut : m.pending ≡ false → Onward
  unfolding open_now remaining
  while_shut p = go (dec_lt 0 t.count)
    where
      due : t.count ≡ 0 → (o b c : Bool) → opens m t ≡ o → m.answered ≡ b → m.closed ≡ c → Onward
      due z false b c o a x = inl (unopened_ends p z o)
      due z true true c o a x = inl (answered_ends (simp (r.runs, p, o)) a)
      due z true false true o a x = inl (closed_ends (simp (r.runs, p, o)) x)
      due z true false false o a x =
          inr (
            true,
            0,
            opening m t r o a x above,
            subst (λ (b : Bool). remaining m.timeout true 0 < remaining m.timeout b t.count) (sym p) (omega (arith, above, z)),
          )

      go : Dec (0 < t.count) → Onward
      go (yes l) =
          inr (
            false,
            t.count - 1,
            waiting m t r p l,
            subst (λ (b : Bool). remaining m.timeout false (t.count - 1) < remaining m.timeout b t.count) (sym p) (omega (arith, l)),
          )
      go (no l) = due (omega (arith, l)) (opens m t) m.answered m.closed refl refl refl

  pub onward : Onward
  onward = go m.pending refl
    where
      go : (b : Bool) → m.pending ≡ b → Onward
      go true p = while_open p m.answered m.closed refl refl
      go false p = while_shut p

-- ── any number of them ──

module _ (len limit : ℕ) (ms : ℕ → Meets) (ts : ℕ → Turn) (next : (t : ℕ) → t < len → ts (suc t) ≡ turned (ms t) (ts t))
    (left_open : (t : ℕ) → t < len → (ms (suc t)).pending ≡ open_after (ms t) (ts t)) (above : 0 < limit) (small : limit < 65536) where
  -- it ends in one of the next k ticks
  abbrev Ends : ℕ → ℕ → Type 0
  Ends t k = (u : ℕ) × (t ≤ u) × (u < t + k) × ((ms u).runs ≡ true) × (ends (ms u) (ts u) ≡ true)

  abbrev Soon : ℕ → Type 0
  Soon k =
      (t : ℕ) → remaining limit (ms t).pending (ts t).count ≤ k → t + k ≤ len → ((u : ℕ) → t ≤ u → u < t + k → Runs (ms u))
      → ((u : ℕ) → t ≤ u → u < t + k → (ms u).timeout ≡ limit) → Ends t k

  -- some tick always remains
  never : (p : Bool) (c : ℕ) → remaining limit p c ≤ 0 → ⊥
  unfolding remaining
  never true c l = omega (arith, l)
  never false c l = omega (arith, l)

  later : (k : ℕ) → Soon k → Soon (suc k)
  later k rest t l b on limits =
      let q = limits t (omega arith) (omega arith) in
      go (onward (ms t) (ts t) (on t (omega arith) (omega arith)) (omega (arith, q, above)) (omega (arith, q, small)))
    where
      go : (ends (ms t) (ts t) ≡ true)
          ⊎ ((p : Bool) × (c : ℕ) × Goes (ms t) (ts t) p c × (remaining (ms t).timeout p c < remaining (ms t).timeout (ms t).pending (ts t).count))
          → Ends t (suc k)
      go (inl e) = (t, omega arith, omega arith, (on t (omega arith) (omega arith)).runs, e)
      go (inr (p, c, g, d)) =
          let m : t < len = omega (arith, b) in
          let w : remaining limit p c < remaining limit (ms t).pending (ts t).count =
          subst (λ (n : ℕ). remaining n p c < remaining n (ms t).pending (ts t).count) (limits t (omega arith) (omega arith)) d in
          let x : (ms (suc t)).pending ≡ p = left_open t m ∙ g.left in
          let y : (ts (suc t)).count ≡ c = ap (λ (z : Turn). z.count) (next t m ∙ g.turn) in
          let f : remaining limit (ms (suc t)).pending (ts (suc t)).count ≤ k =
          subst (λ (z : Bool). remaining limit z (ts (suc t)).count ≤ k) (sym x) (subst (λ (z : ℕ). remaining limit p z ≤ k) (sym y) (omega (arith, w, l))) in
          let s = rest (suc t) f (omega (arith, b)) (λ u h i. on u (omega (arith, h)) (omega (arith, i))) (λ u h i. limits u (omega (arith, h)) (omega (arith, i))) in
          (s.0, omega (arith, s.1), omega (arith, s.2), s.3, s.4)

  soon : (k : ℕ) → Soon k
  soon zero = λ t l b on limits. absurd (never (ms t).pending (ts t).count l)
  soon (suc k) = later k (soon k)

  -- a turn, its ping open or not, lasts no more ticks than its count, the tick that opens it and the timeout
  pub at_most : (t c : ℕ) → (ts t).count ≤ c → t + suc (c + limit) ≤ len → ((u : ℕ) → t ≤ u → u < t + suc (c + limit) → Runs (ms u))
      → ((u : ℕ) → t ≤ u → u < t + suc (c + limit) → (ms u).timeout ≡ limit) → Ends t (suc (c + limit))
  unfolding remaining
  at_most t c l = soon (suc (c + limit)) t (bound (ms t).pending)
    where
      bound : (p : Bool) → remaining limit p (ts t).count ≤ suc (c + limit)
      bound true = omega arith
      bound false = omega (arith, l)
