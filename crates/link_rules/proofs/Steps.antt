-- One receiver, from one tick to the next: its acknowledge pair, its ping pair, and what it takes.
-- Assumes nothing.
use Prim.Native.Nat.{ℕ, suc}
use mathlib.Core.Path.{◌≡◌, refl, sym, ap, ◌∙◌}
use mathlib.Core.Bool.{Bool, true, false, false≢true, true≢false, cond, not, ◌&&◌}
use Rattle.bits.proofs.IndexLaws.{and-true}
use Rattle.link_rules.proofs.ReceiverLaws.{received_stands, received_taken}
use Rattle.link_rules.specs.Handshake.{receiver_at, received_at, taken_at, rises_at, falls_at}
use Rattle.link_rules.specs.Pair.{rises, falls}
use Rattle.link_rules.specs.Receiver.{acknowledges, is_ready, takes, stands_after, asked_for, received}
use Rattle.link_rules.specs.declared.Given.{Given}
use Rattle.link_rules.specs.declared.Handshake.{Handshake}
use Rattle.link_rules.specs.declared.Handshake.TheVariants.{Ready, Acknowledged, FirstPause, SecondPause}
use Rattle.link_rules.specs.declared.Receiver.{Receiver}

-- ── the acknowledge pair by where it stands: p and m are the wires ──

still_high : (s : Handshake) (p m : Bool) → acknowledges s ≡ true → falls p m ≡ false → acknowledges (stands_after s p m) ≡ true
unfolding stands_after
still_high Ready p m e f = absurd (false≢true e)
still_high Acknowledged true true e f = refl
still_high Acknowledged true false e f = refl
still_high Acknowledged false true e f = absurd (true≢false f)
still_high Acknowledged false false e f = refl
still_high FirstPause p m e f = absurd (false≢true e)
still_high SecondPause p m e f = absurd (false≢true e)

goes_low : (s : Handshake) (p m : Bool) → acknowledges s ≡ true → falls p m ≡ true → acknowledges (stands_after s p m) ≡ false
unfolding stands_after
goes_low Ready p m e f = absurd (false≢true e)
goes_low Acknowledged true m e f = absurd (false≢true f)
goes_low Acknowledged false true e f = refl
goes_low Acknowledged false false e f = absurd (false≢true f)
goes_low FirstPause p m e f = absurd (false≢true e)
goes_low SecondPause p m e f = absurd (false≢true e)

still_low : (s : Handshake) (p m : Bool) → acknowledges s ≡ false → takes s p m ≡ false → acknowledges (stands_after s p m) ≡ false
unfolding stands_after
still_low Ready true true e f = refl
still_low Ready true false e f = absurd (true≢false f)
still_low Ready false true e f = refl
still_low Ready false false e f = refl
still_low Acknowledged p m e f = absurd (true≢false e)
still_low FirstPause true true e f = refl
still_low FirstPause true false e f = refl
still_low FirstPause false true e f = refl
still_low FirstPause false false e f = refl
still_low SecondPause true true e f = refl
still_low SecondPause true false e f = refl
still_low SecondPause false true e f = refl
still_low SecondPause false false e f = refl

-- ── along what it is given ──

module _ (r : Receiver) (xs : ℕ → Given) (t : ℕ) where
  abbrev stands : Handshake
  stands = (receiver_at r xs t).stands

  -- the next tick's acknowledge pair
  next_is : (received_at r xs (suc t)).acknowledge ≡ acknowledges (stands_after stands (xs t).pos (xs t).neg)
  unfolding receiver_at received
  next_is = ap acknowledges (received_stands (xs t) (receiver_at r xs t))

  -- this one's
  this_is : (received_at r xs t).acknowledge ≡ acknowledges stands
  unfolding received
  this_is = refl

  taken_is : taken_at r xs t ≡ takes stands (xs t).pos (xs t).neg
  taken_is = received_taken (xs t) (receiver_at r xs t)

  pub held : (received_at r xs t).acknowledge ≡ true → falls_at xs t ≡ false → (received_at r xs (suc t)).acknowledge ≡ true
  held e f = next_is ∙ still_high stands (xs t).pos (xs t).neg (sym this_is ∙ e) f

  pub dropped : (received_at r xs t).acknowledge ≡ true → falls_at xs t ≡ true → (received_at r xs (suc t)).acknowledge ≡ false
  dropped e f = next_is ∙ goes_low stands (xs t).pos (xs t).neg (sym this_is ∙ e) f

  pub unraised : (received_at r xs t).acknowledge ≡ false → taken_at r xs t ≡ false → (received_at r xs (suc t)).acknowledge ≡ false
  unraised e f = next_is ∙ still_low stands (xs t).pos (xs t).neg (sym this_is ∙ e) (sym taken_is ∙ f)

  -- what is taken is a rise
  pub rise : taken_at r xs t ≡ true → rises_at xs t ≡ true
  rise e = (and-true (is_ready stands) (rises (xs t).pos (xs t).neg) (sym taken_is ∙ e)).1

  -- the next tick's ping pair
  pub level : (received_at r xs (suc t)).ping
      ≡ cond ((xs (suc t)).asks && not (receiver_at r xs (suc t)).pending) (not (received_at r xs t).ping) (received_at r xs t).ping
  unfolding receiver_at received asked_for
  level = refl
