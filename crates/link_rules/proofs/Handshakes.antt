-- One receiver over any number of ticks.
-- Assumes nothing.
use Prim.Native.Nat.{ℕ, zero, suc, ◌+◌, ◌-◌, ◌≤◌, ◌<◌}
use mathlib.Core.Path.{◌≡◌, refl, ap, sym, ◌∙◌}
use mathlib.Core.Bool.{Bool, true, false, false≢true, true≢false, not, and-false, or-true, ◌&&◌, ◌||◌}
use mathlib.Core.Logic.{⊎_elim}
use native.Mathlib.Nat.{le_of_suc-le-suc, le-suc_iff}
use native.Mathlib.Omega.{arith}
use Rattle.link_rules.specs.Handshake.{receiver_at, received_at, taken_at, rises_at, falls_at, equal_at, pending_at, NoneTaken, NoneAsked, Handshakes}
use Rattle.link_rules.specs.Pair.{rises, falls, equal}
use Rattle.link_rules.specs.Receiver.{acknowledges, is_ready, takes, asked_for, stands_after, received}
use Rattle.link_rules.specs.declared.Given.{Given}
use Rattle.link_rules.specs.declared.Handshake.{Handshake}
use Rattle.link_rules.specs.declared.Handshake.TheVariants.{Ready, Acknowledged, FirstPause, SecondPause}
use Rattle.link_rules.specs.declared.Receiver.{Receiver}
use Rattle.link_rules.proofs.ReceiverLaws.{received_stands, received_taken}
use Rattle.link_rules.proofs.Resting.{left}

-- a tick takes off one of them at most
slower : (s : Handshake) (p m : Bool) → left s ≤ suc (left (stands_after s p m))
unfolding stands_after
slower Ready p m = omega arith
slower Acknowledged true true = omega arith
slower Acknowledged true false = omega arith
slower Acknowledged false true = omega arith
slower Acknowledged false false = omega arith
slower FirstPause true true = omega arith
slower FirstPause true false = omega arith
slower FirstPause false true = omega arith
slower FirstPause false false = omega arith
slower SecondPause true true = omega arith
slower SecondPause true false = omega arith
slower SecondPause false true = omega arith
slower SecondPause false false = omega arith

-- a rise that is taken
taken_ready : (s : Handshake) (p m : Bool) → takes s p m ≡ true → (left s ≡ 0) × (stands_after s p m ≡ Acknowledged)
unfolding stands_after
taken_ready Ready true false e = (refl, refl)
taken_ready Ready true true e = absurd (false≢true e)
taken_ready Ready false true e = absurd (false≢true e)
taken_ready Ready false false e = absurd (false≢true e)
taken_ready Acknowledged p m e = absurd (false≢true e)
taken_ready FirstPause p m e = absurd (false≢true e)
taken_ready SecondPause p m e = absurd (false≢true e)

-- in one tick: by where the receiver stands
taken_is : (x : Given) (r : Receiver) → ((received x r).event || (received x r).answer) ≡ true → (left r.stands ≡ 0) × ((received x r).receiver.stands ≡ Acknowledged)
taken_is x r e =
    let t = taken_ready r.stands x.pos x.neg (sym (received_taken x r) ∙ e) in
    (t.0, received_stands x r ∙ t.1)

slower_tick : (x : Given) (r : Receiver) → left r.stands ≤ suc (left (received x r).receiver.stands)
slower_tick x r =
    let e : left (received x r).receiver.stands ≡ left (stands_after r.stands x.pos x.neg) = ap left (received_stands x r) in
    omega (arith, e, slower r.stands x.pos x.neg)

-- a test, whichever way it goes
either_way : (b : Bool) (P : Type 0) → (b ≡ true → P) → (b ≡ false → P) → P
either_way true P t f = t refl
either_way false P t f = f refl

-- which of the two a rise that is taken is: t it is taken, o a ping is open
answers : (t o : Bool) → ((t && not o) || (t && o)) ≡ true → o ≡ true → ((t && o) ≡ true) × ((t && not o) ≡ false)
answers true true e f = (refl, refl)
answers true false e f = absurd (false≢true f)
answers false o e f = absurd (false≢true e)

is_event : (t o : Bool) → ((t && not o) || (t && o)) ≡ true → o ≡ false → ((t && not o) ≡ true) × ((t && o) ≡ false)
is_event true true e f = absurd (true≢false f)
is_event true false e f = (refl, refl)
is_event false o e f = absurd (false≢true e)

-- an open ping after a tick: b it is open in it, t a rise is taken
kept : (b t : Bool) → b ≡ true → t ≡ false → (b && not t) ≡ true
kept true false e f = refl
kept true true e f = absurd (true≢false f)
kept false t e f = absurd (false≢true e)

shut : (b t : Bool) → t ≡ true → (b && not t) ≡ false
shut true true e = refl
shut true false e = absurd (false≢true e)
shut false t e = refl

pending_after : (x : Given) (r : Receiver) → (received x r).receiver.pending ≡ ((x.asks || r.pending) && not ((received x r).event || (received x r).answer))
unfolding received asked_for
pending_after x r = ap (λ (t : Bool). (x.asks || r.pending) && not t) (sym (received_taken x r))

-- ready after (0,1) and (1,0) twice, unless one of those rises was taken: it takes the third
third : (s : Handshake) → takes (stands_after s false true) true false ≡ false
    → takes (stands_after (stands_after s false true) true false) true false ≡ false
    → takes (stands_after (stands_after (stands_after s false true) true false) true false) true false ≡ true
unfolding stands_after
third Ready e f = absurd (true≢false e)
third Acknowledged e f = refl
third FirstPause e f = absurd (true≢false f)
third SecondPause e f = absurd (true≢false e)

-- wires by the pair that they are
is_rise : (p m : Bool) (P : Bool → Bool → Type 0) → rises p m ≡ true → P true false → P p m
is_rise true false P e x = x
is_rise true true P e x = absurd (false≢true e)
is_rise false m P e x = absurd (false≢true e)

is_fall : (p m : Bool) (P : Bool → Bool → Type 0) → falls p m ≡ true → P false true → P p m
is_fall false true P e x = x
is_fall false false P e x = absurd (false≢true e)
is_fall true m P e x = absurd (false≢true e)

-- equal wires are no rise
no_rise : (s : Handshake) (p m : Bool) → equal p m ≡ true → takes s p m ≡ false
no_rise s true true e = and-false (is_ready s)
no_rise s false false e = and-false (is_ready s)
no_rise s true false e = absurd (false≢true e)
no_rise s false true e = absurd (false≢true e)

-- they move no receiver
still : (s : Handshake) (p m : Bool) → equal p m ≡ true → stands_after s p m ≡ s
unfolding stands_after
still s true true e = refl
still s false false e = refl
still s true false e = absurd (false≢true e)
still s false true e = absurd (false≢true e)

module _ (r : Receiver) (xs : ℕ → Given) where
  abbrev stood : ℕ → Handshake
  stood t = (receiver_at r xs t).stands

  stood_next : (t : ℕ) → stood (suc t) ≡ stands_after (stood t) (xs t).pos (xs t).neg
  unfolding receiver_at
  stood_next t = received_stands (xs t) (receiver_at r xs t)

  -- in so many ticks at most so many are gone
  gone : (t u : ℕ) → t ≤ u → left (stood t) ≤ (u - t) + left (stood u)
  gone t zero l = let e : t ≡ 0 = omega (arith, l) in let q : left (stood t) ≡ left (stood 0) = ap (λ (v : ℕ). left (stood v)) e in omega (arith, q)
  gone t (suc u) l =
      ⊎_elim
      (λ (a : t ≤ u).
      let h = gone t u a in
      let e : left (stood (suc u)) ≡ left (stands_after (stood u) (xs u).pos (xs u).neg) = ap left (stood_next u) in
      omega (arith, h, e, a, slower (stood u) (xs u).pos (xs u).neg))
      (λ (b : t ≡ suc u). let q : left (stood t) ≡ left (stood (suc u)) = ap (λ (v : ℕ). left (stood v)) b in omega (arith, q, b))
      (le-suc_iff.0 l)

  next : (t : ℕ) → taken_at r xs t ≡ true → (received_at r xs (suc t)).acknowledge ≡ true
  unfolding receiver_at received
  next t e = ap acknowledges (taken_is (xs t) (receiver_at r xs t) e).1

  apart : (t u : ℕ) → taken_at r xs t ≡ true → taken_at r xs u ≡ true → t < u → t + 4 ≤ u
  unfolding receiver_at
  apart t u e f l =
      let z : left (stood u) ≡ 0 = (taken_is (xs u) (receiver_at r xs u) f).0 in
      let q : left (stood (suc t)) ≡ 3 = ap left (taken_is (xs t) (receiver_at r xs t) e).1 in
      omega (arith, z, q, l, gone (suc t) u l)

  -- ── a rise that is held ──

  taken_by : (t : ℕ) (s : Handshake) (p m : Bool) → stood t ≡ s → (xs t).pos ≡ p → (xs t).neg ≡ m → taken_at r xs t ≡ takes s p m
  taken_by t s p m a b c = received_taken (xs t) (receiver_at r xs t) ∙ ap (λ (z : Handshake). takes z (xs t).pos (xs t).neg) a ∙ rw (b, c)

  stood_by : (t : ℕ) (s : Handshake) (p m : Bool) → stood t ≡ s → (xs t).pos ≡ p → (xs t).neg ≡ m → stood (suc t) ≡ stands_after s p m
  stood_by t s p m a b c = stood_next t ∙ ap (λ (z : Handshake). stands_after z (xs t).pos (xs t).neg) a ∙ rw (b, c)

  risen : (t : ℕ) → rises_at xs t ≡ true → ((xs t).pos ≡ true) × ((xs t).neg ≡ false)
  risen t e = is_rise (xs t).pos (xs t).neg (λ p m. (p ≡ true) × (m ≡ false)) e (refl, refl)

  soon : (t : ℕ) → falls_at xs t ≡ true → ((u : ℕ) → t < u → u ≤ t + 3 → NoneTaken r xs (suc t) u → rises_at xs u ≡ true)
      → (taken_at r xs (suc t) || (taken_at r xs (suc (suc t)) || taken_at r xs (suc (suc (suc t))))) ≡ true
  soon t f h = either_way (taken_at r xs (suc t)) _ (λ e. rw e) (λ a. either_way (taken_at r xs (suc (suc t))) _ (λ e. rw (a, e)) (λ b. rw (a, b) (last a b)))
    where
      down : ((xs t).pos ≡ false) × ((xs t).neg ≡ true)
      down = is_fall (xs t).pos (xs t).neg (λ p m. (p ≡ false) × (m ≡ true)) f (refl, refl)

      first : ((xs (suc t)).pos ≡ true) × ((xs (suc t)).neg ≡ false)
      first = risen (suc t) (h (suc t) (omega arith) (omega arith) (λ v a b. absurd (omega (arith, a, b))))

      second : taken_at r xs (suc t) ≡ false → ((xs (suc (suc t))).pos ≡ true) × ((xs (suc (suc t))).neg ≡ false)
      second a = risen (suc (suc t)) (h (suc (suc t)) (omega arith) (omega arith) (λ v l m. let e : suc t ≡ v = omega (arith, l, m) in ap (taken_at r xs) (sym e) ∙ a))

      last : taken_at r xs (suc t) ≡ false → taken_at r xs (suc (suc t)) ≡ false → taken_at r xs (suc (suc (suc t))) ≡ true
      last a b =
          let s1 = stood_by t (stood t) false true refl down.0 down.1 in
          let s2 = stood_by (suc t) (stands_after (stood t) false true) true false s1 first.0 first.1 in
          let s3 = stood_by (suc (suc t)) (stands_after (stands_after (stood t) false true) true false) true false s2 (second a).0 (second a).1 in
          let w = risen (suc (suc (suc t))) (h (suc (suc (suc t))) (omega arith) (omega arith) (λ v l m. between v l m a b)) in
          taken_by (suc (suc (suc t))) (stands_after (stands_after (stands_after (stood t) false true) true false) true false) true false s3 w.0 w.1
          ∙ third (stood t) (sym (taken_by (suc t) _ true false s1 first.0 first.1) ∙ a) (sym (taken_by (suc (suc t)) _ true false s2 (second a).0 (second a).1) ∙ b)
        where
          between : (v : ℕ) → suc t ≤ v → v < suc (suc (suc t)) → taken_at r xs (suc t) ≡ false → taken_at r xs (suc (suc t)) ≡ false → taken_at r xs v ≡ false
          between v l m a b =
              ⊎_elim (λ (q : v ≤ suc t). let e : v ≡ suc t = omega (arith, l, q) in ap (taken_at r xs) e ∙ a) (λ (e : v ≡ suc (suc t)). ap (taken_at r xs) e ∙ b)
              (le-suc_iff.0 (le_of_suc-le-suc m))

  -- ── equal wires ──

  holds : (t : ℕ) → equal_at xs t ≡ true → (taken_at r xs t ≡ false) × ((receiver_at r xs (suc t)).stands ≡ (receiver_at r xs t).stands)
  holds t e = (
    received_taken (xs t) (receiver_at r xs t) ∙ no_rise (stood t) (xs t).pos (xs t).neg e,
    stood_next t ∙ still (stood t) (xs t).pos (xs t).neg e,
  )

  -- ── pings ──

  by_ping : (t : ℕ) → taken_at r xs t ≡ true → pending_at r xs t ≡ true → ((received_at r xs t).answer ≡ true) × ((received_at r xs t).event ≡ false)
  unfolding received asked_for
  by_ping t e f = answers (takes (stood t) (xs t).pos (xs t).neg) (pending_at r xs t) e f

  by_event : (t : ℕ) → taken_at r xs t ≡ true → pending_at r xs t ≡ false → ((received_at r xs t).event ≡ true) × ((received_at r xs t).answer ≡ false)
  unfolding received asked_for
  by_event t e f = is_event (takes (stood t) (xs t).pos (xs t).neg) (pending_at r xs t) e f

  stays : (t u : ℕ) → pending_at r xs t ≡ true → t ≤ u → NoneTaken r xs t u → pending_at r xs u ≡ true
  unfolding receiver_at
  stays t zero e l f = let q : 0 ≡ t = omega (arith, l) in ap (pending_at r xs) q ∙ e
  stays t (suc u) e l f =
      ⊎_elim
      (λ (a : t ≤ u).
      let b = stays t u e a (λ v g m. f v g (omega (arith, m))) in
      ap (λ (o : Bool). (xs (suc u)).asks || o)
      (pending_after (xs u) (receiver_at r xs u) ∙ kept (pending_at r xs u) (taken_at r xs u) b (f u a (omega arith)))
      ∙ or-true (xs (suc u)).asks)
      (λ (b : t ≡ suc u). ap (pending_at r xs) (sym b) ∙ e)
      (le-suc_iff.0 l)

  -- none is open before tick u, where a rise was taken in tick t and none was asked for since
  shut_before : (t u : ℕ) → taken_at r xs t ≡ true → t < u → NoneAsked xs (suc t) u → (receiver_at r xs u).pending ≡ false
  unfolding receiver_at
  shut_before t zero e l f = absurd (omega (arith, l))
  shut_before t (suc u) e l f =
      ⊎_elim
      (λ (a : suc t ≤ u).
      let b = shut_before t u e a (λ v g m. f v g (omega (arith, m))) in
      pending_after (xs u) (receiver_at r xs u) ∙ rw (f u a (omega arith), b))
      (λ (b : suc t ≡ suc u).
      let q : t ≡ u = omega (arith, b) in
      pending_after (xs u) (receiver_at r xs u) ∙ shut (pending_at r xs u) (taken_at r xs u) (ap (taken_at r xs) (sym q) ∙ e))
      (le-suc_iff.0 l)

  closed : (t u : ℕ) → taken_at r xs t ≡ true → t < u → NoneAsked xs (suc t) (suc u) → pending_at r xs u ≡ false
  closed t u e l f = rw (f u l (omega arith), shut_before t u e l (λ v a b. f v a (omega (arith, b))))

pub handshakes : (r : Receiver) (xs : ℕ → Given) → Handshakes r xs
handshakes r xs = record {
  acknowledged = next r xs;
  apart = apart r xs;
  soon = soon r xs;
  holds = holds r xs;
  answer = by_ping r xs;
  event = by_event r xs;
  stays = stays r xs;
  closed = closed r xs;
}
