-- When a ping is due and when it fails, proved for every word and every timeout.
-- Assumes nothing.
use Prim.Native.Nat.{ℕ, zero, suc, ◌+◌, ◌-◌, ◌≤◌, ◌<◌, ◌%◌}
use mathlib.Core.Path.{◌≡◌, refl, ap, sym, ◌∙◌}
use mathlib.Core.Bool.{Bool, true, false, cond, ◌&&◌, ◌||◌}
use native.Mathlib.Omega.{arith}
use native.Mathlib.Decide.{dec_lt}
use borrow.Author.Tests.{eq-eqb, ne_eqb, lt-ltb, le-leb, lt-leb}
use lib.Dec.{eqb, ltb, leb}
use Rattle.link_rules.specs.Times.{silent, turns, DueIn, FailsIn}
use Rattle.link_rules.specs.Timer.{drawn, next_turn, is_due, opens, open_now, fails, ends, turned}
use Rattle.link_rules.specs.declared.Turn.{Turn}

-- ── waiting ──

abbrev at : Turn → ℕ → Turn
at t k = record { number = t.number; alert = t.alert; count = k }

-- a tick that is not due takes one off
waited : (T : ℕ) (b : Bool) (t : Turn) → 0 < t.count → turned (silent T false b) t ≡ at t (t.count - 1)
unfolding turned ends open_now opens fails
waited T b t l = let e : eqb t.count 0 ≡ false = ne_eqb t.count 0 (λ (q : t.count ≡ 0). omega arith) in simp e

left : (T : ℕ) (b : Bool) (t : Turn) (j : ℕ) → j ≤ t.count → turns (silent T false b) j t ≡ at t (t.count - j)
unfolding turns
left T b t zero l = ap (at t) (omega arith)
left T b t (suc j) l =
    let h : turns (silent T false b) j t ≡ at t (t.count - j) = left T b t j (omega arith) in
    ap (λ (x : Turn). turned (silent T false b) x) h
    ∙ waited T b (at t (t.count - j)) (omega arith)
    ∙ ap (at t) (omega arith)

pub due_in : (number word T : ℕ) (b : Bool) → DueIn number word T b
due_in number word T b =
    record {
      due = λ j l. ap (λ (x : Turn). is_due (silent T false b) x) (left T b (drawn number word) j l) ∙ zeros (word % 65536) j l;
    }
  where
    zeros : (c j : ℕ) → j ≤ c → eqb (c - j) 0 ≡ eqb j c
    zeros c j l = go (dec_lt j c)
      where
        go : Dec (j < c) → eqb (c - j) 0 ≡ eqb j c
        go (yes m) = ne_eqb (c - j) 0 (λ (q : c - j ≡ 0). omega arith) ∙ sym (ne_eqb j c (λ (q : j ≡ c). omega arith))
        go (no m) = let e : j ≡ c = omega arith in eq-eqb (c - j) 0 (omega arith) ∙ sym (eq-eqb j c e)

-- ── open ──

-- at timeout 0 it waits
none : (b : Bool) (t : Turn) → fails (silent 0 true b) t ≡ false
unfolding fails open_now
none b t = refl

-- a tick that does not fail adds one
aged : (T : ℕ) (b : Bool) (t : Turn) → t.count < 65535 → suc t.count < T → turned (silent T true b) t ≡ at t (suc t.count)
unfolding turned ends open_now opens fails
aged T b t l m =
    let e : ltb t.count 65535 ≡ true = lt-ltb t.count 65535 l in
    let f : leb T (t.count + 1) ≡ false = lt-leb T (t.count + 1) (omega arith) in
    simp (e, f) (go (ltb 0 T))
  where
    go : (a : Bool) → cond (a && false || false) (next_turn t 0) (at t (t.count + 1)) ≡ at t (suc t.count)
    go true = ap (at t) (omega arith)
    go false = ap (at t) (omega arith)

grown : (T : ℕ) (b : Bool) (t : Turn) (k : ℕ) → t.count ≡ 0 → T < 65536 → k < T → turns (silent T true b) k t ≡ at t k
unfolding turns
grown T b t zero z u l = ap (at t) z
grown T b t (suc k) z u l =
    ap (λ (x : Turn). turned (silent T true b) x) (grown T b t k z u (omega arith)) ∙ aged T b (at t k) (omega arith) (omega arith)

failing : (T : ℕ) (b : Bool) (t : Turn) (k : ℕ) → T < 65536 → k < T → fails (silent T true b) (at t k) ≡ eqb (suc k) T
unfolding fails open_now
failing T b t k u l = go (dec_lt (suc k) T)
  where
    e : ltb k 65535 ≡ true
    e = lt-ltb k 65535 (omega arith)

    p : ltb 0 T ≡ true
    p = lt-ltb 0 T (omega arith)

    go : Dec (suc k < T) → fails (silent T true b) (at t k) ≡ eqb (suc k) T
    go (yes m) =
        let f : leb T (k + 1) ≡ false = lt-leb T (k + 1) (omega arith) in
        simp (e, p, f) (sym (ne_eqb (suc k) T (λ (q : suc k ≡ T). omega arith)))
    go (no m) =
        let f : leb T (k + 1) ≡ true = le-leb T (k + 1) (omega arith) in
        let q : suc k ≡ T = omega arith in
        simp (e, p, f) (sym (eq-eqb (suc k) T q))

pub fails_in : (t : Turn) (T : ℕ) (b : Bool) → FailsIn t T b
fails_in t T b =
    record {
      fails_in = λ z u k l. ap (λ (x : Turn). fails (silent T true b) x) (grown T b t k z u l) ∙ failing T b t k u l;
      waits = λ k. none b (turns (silent 0 true b) k t);
    }
