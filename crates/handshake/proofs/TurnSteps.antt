-- Request (ix): one tick of a timer that runs, by what it meets: it waits, its ping opens, is open, fails.
-- Assumes nothing.
use Prim.Native.Nat.{ℕ, suc, ◌+◌, ◌-◌, ◌/◌, ◌%◌, ◌<◌}
use mathlib.Core.Path.{◌≡◌, refl, ap}
use mathlib.Core.Bool.{Bool, true, false, false≢true, and-false, cond, not, ◌&&◌, ◌||◌}
use native.Mathlib.Omega.{arith}
use borrow.Author.Tests.{ne_eqb, lt-ltb, ltb-true, le-leb, lt-leb, not-true}
use lib.Dec.{eqb, ltb, leb}
use Rattle.bits.proofs.IndexLaws.{and-true}
use Rattle.laws.proofs.Map.Cases.{pick}
use Rattle.link_rules.specs.Timer.{first_turn, next_turn, is_line, is_due, opens, open_now, age, open_after, fails, ends, goes_on, turned}
use Rattle.link_rules.specs.declared.Meets.{Meets}
use Rattle.link_rules.specs.declared.Turn.{Turn}

-- the turn with another count
abbrev pub at : Turn → ℕ → Turn
at t k = record { number = t.number; alert = t.alert; count = k }

-- a tick of a timer that is on
pub record Runs (m : Meets) : Type 0 where
  pub runs : m.runs ≡ true
  pub begins : m.begins ≡ false

-- the turn goes on, its ping open or not, at the count c
pub record Goes (m : Meets) (t : Turn) (pending : Bool) (c : ℕ) : Type 0 where
  pub unfailed : fails m t ≡ false
  pub left : open_after m t ≡ pending
  pub turn : turned m t ≡ at t c

-- what opens was not open
pub was_shut : (m : Meets) (t : Turn) → opens m t ≡ true → m.pending ≡ false
unfolding opens
was_shut m t e =
    let d = and-true (is_due m t) (is_line t || m.pingable) e in
    let q = and-true m.runs (not m.pending && eqb t.count 0) d.0 in
    not-true m.pending (and-true (not m.pending) (eqb t.count 0) q.1).0

module _ (m : Meets) (t : Turn) (r : Runs m) where
  -- it is not due yet: a tick nearer
  pub waiting : m.pending ≡ false → 0 < t.count → Goes m t false (t.count - 1)
  unfolding turned ends open_now opens fails
  waiting p l =
      let z : eqb t.count 0 ≡ false = ne_eqb t.count 0 (λ (q : t.count ≡ 0). omega (arith, l, q)) in
      record {
        unfailed = simp (r.runs, p, z);
        left = simp (r.runs, p, z);
        turn = simp (r.runs, r.begins, p, z);
      }

  -- it opens, or is younger than the timeout: it does not fail
  pub fresh : opens m t ≡ true → 0 < m.timeout → fails m t ≡ false
  unfolding open_now fails
  fresh o l =
      let p = was_shut m t o in
      let f : leb m.timeout 0 ≡ false = lt-leb m.timeout 0 l in
      let g : (ltb 0 m.timeout && false) ≡ false = and-false (ltb 0 m.timeout) in
      simp (r.runs, o, p, f, g, and-false (not m.answered))

  pub young : m.pending ≡ true → t.count < 65535 → suc t.count < m.timeout → fails m t ≡ false
  unfolding open_now fails
  young p l k =
      let e : ltb t.count 65535 ≡ true = lt-ltb t.count 65535 l in
      let f : leb m.timeout (t.count + 1) ≡ false = lt-leb m.timeout (t.count + 1) (omega (arith, k)) in
      let g : (ltb 0 m.timeout && false) ≡ false = and-false (ltb 0 m.timeout) in
      simp (r.runs, p, e, f, g, and-false (not m.answered))

  -- it opens, and is not answered or closed at once
  pub opening : opens m t ≡ true → m.answered ≡ false → m.closed ≡ false → 0 < m.timeout → Goes m t true 0
  unfolding turned ends open_now
  opening o a x l =
      let p = was_shut m t o in
      let f = fresh o l in
      let d : (eqb t.count 0 && false) ≡ false = and-false (eqb t.count 0) in
      record {
        unfailed = f;
        left = simp (r.runs, o, p, a, x, f, d);
        turn = simp (r.runs, r.begins, o, p, a, x, f, d);
      }

  -- it is open, not answered or closed, and younger than the timeout: a tick older
  pub aging : m.pending ≡ true → m.answered ≡ false → m.closed ≡ false → t.count < 65535 → suc t.count < m.timeout → Goes m t true (suc t.count)
  unfolding turned ends open_now opens
  aging p a x l k =
      let e : ltb t.count 65535 ≡ true = lt-ltb t.count 65535 l in
      let f = young p l k in
      let c : t.count + 1 ≡ suc t.count = omega arith in
      record {
        unfailed = f;
        left = simp (r.runs, p, a, x, f);
        turn = simp (r.runs, r.begins, p, a, x, e, f) (ap (at t) c);
      }

  -- it is as old as the timeout: it fails
  pub failing : m.pending ≡ true → m.answered ≡ false → t.count < 65535 → suc t.count ≡ m.timeout → fails m t ≡ true
  unfolding open_now fails
  failing p a l k =
      let e : ltb t.count 65535 ≡ true = lt-ltb t.count 65535 l in
      let f : leb m.timeout (t.count + 1) ≡ true = le-leb m.timeout (t.count + 1) (omega (arith, k)) in
      let g : ltb 0 m.timeout ≡ true = lt-ltb 0 m.timeout (omega (arith, k)) in
      simp (r.runs, p, a, e, f, g)

-- an open ping in a tick that does not end the turn: it is a tick older
pub kept : (m : Meets) (t : Turn) → Runs m → open_now m t ≡ true → ends m t ≡ false → (turned m t ≡ at t (age m t)) × (open_after m t ≡ true)
unfolding turned
kept m t r o e = (simp (r.runs, r.begins, o, e), simp (o, e))

-- what ends an open ping
pub ends_open : (m : Meets) (t : Turn) → open_now m t ≡ true → ends m t ≡ (m.answered || (fails m t || m.closed))
unfolding ends open_now opens
ends_open m t o = go m.runs m.pending (eqb t.count 0) (is_line t || m.pingable) (m.answered || (fails m t || m.closed)) o
  where
    go : (r p d l b : Bool) → (r && (p || ((r && (not p && d)) && l))) ≡ true
        → (((r && (not p && d)) && not ((r && (not p && d)) && l)) || ((r && (p || ((r && (not p && d)) && l))) && b)) ≡ b
    go true true d l b e = refl
    go true false true true b e = refl
    go true false true false b e = absurd (false≢true e)
    go true false false l b e = absurd (false≢true e)
    go false p d l b e = absurd (false≢true e)

-- ── the tick sets the next turn ──

pub record SetBy (m : Meets) (t : Turn) : Type 0 where
  pub alert : (turned m t).alert ≡ m.word / 65536 % 256
  pub count : (turned m t).count ≡ m.word % 65536
  pub closed : open_after m t ≡ false

pub set_by : (m : Meets) (t : Turn) → (m.begins ≡ true → m.runs ≡ false) → (m.begins || (m.runs && ends m t)) ≡ true → SetBy m t
unfolding turned open_now
set_by m t b e = go m.begins refl e
  where
    go : (c : Bool) → m.begins ≡ c → (c || (m.runs && ends m t)) ≡ true → SetBy m t
    go true c d = let r = b c in record { alert = simp c; count = simp c; closed = simp r }
    go false c d =
        let p = and-true m.runs (ends m t) d in
        record {
          alert = simp (c, p.0, p.1);
          count = simp (c, p.0, p.1);
          closed = simp (p.0, p.1, and-false (m.pending || opens m t));
        }

-- ── any tick: the turn's number and count ──

pub number_after : (m : Meets) (t : Turn)
    → (turned m t).number ≡ cond m.begins 0 (cond (m.begins || (m.runs && ends m t)) ((t.number + 1) % 8) t.number)
unfolding turned
number_after m t = go m.begins m.runs (ends m t)
  where
    go : (b r e : Bool)
        → (cond b (first_turn m.word) (cond (not r) t (cond e (next_turn t m.word) (goes_on m t)))).number
        ≡ cond b 0 (cond (b || (r && e)) ((t.number + 1) % 8) t.number)
    go true r e = refl
    go false true true = refl
    go false true false = refl
    go false false e = refl

pub count_fits : (m : Meets) (t : Turn) → t.count < 65536 → (turned m t).count < 65536
unfolding turned
count_fits m t l =
    pick (λ (x : Turn). x.count < 65536) m.begins _ _ (λ _. omega arith) (λ _.
    pick (λ (x : Turn). x.count < 65536) (not m.runs) _ _ (λ _. l) (λ _.
    pick (λ (x : Turn). x.count < 65536) (ends m t) _ _ (λ _. omega arith) (λ _.
    pick (λ (n : ℕ). n < 65536) (open_now m t) _ _ (λ _.
    pick (λ (n : ℕ). n < 65536) m.pending _ _ (λ _.
    pick (λ (n : ℕ). n < 65536) (ltb t.count 65535) _ _ (λ e. omega (arith, ltb-true t.count 65535 e)) (λ _. omega arith)) (λ _. omega arith))
    (λ _. omega (arith, l)))))
