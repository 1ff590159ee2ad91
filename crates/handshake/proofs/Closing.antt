-- One receiver whose pings may fail: it stands where it would without that, and its ping is open until a rise is taken or it fails.
-- Assumes nothing.
use Prim.Native.Nat.{ℕ, zero, suc, ◌≤◌, ◌<◌}
use mathlib.Core.Path.{◌≡◌, refl, sym, ap, ◌∙◌}
use mathlib.Core.Bool.{Bool, true, false, false≢true, true≢false, not, or-true, ◌&&◌, ◌||◌}
use mathlib.Core.Logic.{⊎_elim}
use native.Mathlib.Nat.{le-suc_iff}
use native.Mathlib.Omega.{arith}
use Rattle.link_rules.proofs.ReceiverLaws.{received_stands, received_taken}
use Rattle.link_rules.specs.Handshake
use Rattle.link_rules.specs.Handshake.{taken_at}
use Rattle.link_rules.specs.Receiver.{acknowledges, takes, stands_after, received}
use Rattle.link_rules.specs.declared.Given.{Given}
use Rattle.link_rules.specs.declared.Handshake.{Handshake}
use Rattle.link_rules.specs.declared.Receiver.{Receiver}
use Rattle.handshake.specs.Alone.{receiver_at, received_at}

module _ (r : Receiver) (gs : ℕ → Given) (fs : ℕ → Bool) where
  -- where it stands goes by its wires alone
  pub same_stands : (t : ℕ) → (receiver_at r gs fs t).stands ≡ (Handshake.receiver_at r gs t).stands
  unfolding receiver_at Handshake.receiver_at
  same_stands zero = refl
  same_stands (suc t) =
      received_stands (gs t) (receiver_at r gs fs t) ∙ ap (λ (s : Handshake). stands_after s (gs t).pos (gs t).neg) (same_stands t)
      ∙ sym (received_stands (gs t) (Handshake.receiver_at r gs t))

  pub same_acknowledge : (t : ℕ) → (received_at r gs fs t).acknowledge ≡ (Handshake.received_at r gs t).acknowledge
  unfolding received
  same_acknowledge t = ap acknowledges (same_stands t)

  pub same_taken : (t : ℕ) → ((received_at r gs fs t).event || (received_at r gs fs t).answer) ≡ taken_at r gs t
  same_taken t =
      received_taken (gs t) (receiver_at r gs fs t) ∙ ap (λ (s : Handshake). takes s (gs t).pos (gs t).neg) (same_stands t)
      ∙ sym (received_taken (gs t) (Handshake.receiver_at r gs t))

-- ── an open ping, tick by tick: asks, before, taken and fails say what comes, len is the number of ticks ──

-- b it is open in the tick, t a rise is taken, f it fails
kept : (b t f : Bool) → b ≡ true → t ≡ false → f ≡ false → ((b && not t) && not f) ≡ true
kept true false false e g h = refl
kept true false true e g h = absurd (true≢false h)
kept true true f e g h = absurd (true≢false g)
kept false t f e g h = absurd (false≢true e)

shut : (b t f : Bool) → (t || f) ≡ true → ((b && not t) && not f) ≡ false
shut true true f e = refl
shut true false true e = refl
shut true false false e = absurd (false≢true e)
shut false t f e = refl

module _ (len : ℕ) (asks before taken fails : ℕ → Bool)
    (next : (t : ℕ) → t < len → before (suc t) ≡ (((asks t || before t) && not (taken t)) && not (fails t))) where
  abbrev None : (ℕ → Bool) → ℕ → ℕ → Type 0
  None f a b = (t : ℕ) → a ≤ t → t < b → f t ≡ false

  pub stays : (t u : ℕ) → u < len → (asks t || before t) ≡ true → t ≤ u → None taken t u → None fails t u → (asks u || before u) ≡ true
  stays t zero m e l f g = let q : 0 ≡ t = omega (arith, l) in ap (λ (v : ℕ). asks v || before v) q ∙ e
  stays t (suc u) m e l f g =
      ⊎_elim
      (λ (a : t ≤ u).
      let b = stays t u (omega (arith, m)) e a (λ v p q. f v p (omega (arith, q))) (λ v p q. g v p (omega (arith, q))) in
      ap (λ (o : Bool). asks (suc u) || o)
      (next u (omega (arith, m)) ∙ kept (asks u || before u) (taken u) (fails u) b (f u a (omega arith)) (g u a (omega arith)))
      ∙ or-true (asks (suc u)))
      (λ (b : t ≡ suc u). ap (λ (v : ℕ). asks v || before v) (sym b) ∙ e)
      (le-suc_iff.0 l)

  -- none is open before tick u, where one was answered or failed in tick t and none was asked for since
  shut_before : (t u : ℕ) → u ≤ len → (taken t || fails t) ≡ true → t < u → None asks (suc t) u → before u ≡ false
  shut_before t zero m e l f = absurd (omega (arith, l))
  shut_before t (suc u) m e l f =
      ⊎_elim
      (λ (a : suc t ≤ u).
      let b = shut_before t u (omega (arith, m)) e a (λ v p q. f v p (omega (arith, q))) in
      next u m ∙ rw (f u a (omega arith), b))
      (λ (b : suc t ≡ suc u).
      let q : t ≡ u = omega (arith, b) in
      next u m ∙ shut (asks u || before u) (taken u) (fails u) (ap (λ (v : ℕ). taken v || fails v) (sym q) ∙ e))
      (le-suc_iff.0 l)

  pub closed : (t u : ℕ) → u < len → (taken t || fails t) ≡ true → t < u → None asks (suc t) (suc u) → (asks u || before u) ≡ false
  closed t u m e l f = rw (f u l (omega arith), shut_before t u (omega (arith, m)) e l (λ v a b. f v a (omega (arith, b))))
