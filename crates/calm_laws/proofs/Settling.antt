-- Request (xii): three calm ticks settle any state. A rise that waited in the pause is taken in the third at the latest; after it a calm tick moves the
-- classes and the senders alone.
-- Assumes nothing.
use Prim.Native.Nat.{ℕ, ◌≤◌, ◌<◌}
use mathlib.Core.Path.{◌≡◌, refl, sym, ap, ap₂, ◌∙◌}
use mathlib.Core.Bool.{Bool, true, false, and-false, cond, not, ◌&&◌, ◌||◌}
use native.Mathlib.Omega.{arith}
use native.Mathlib.Decide.{dec_lt}
use borrow.Author.Tests.{lt-ltb, le-ltb}
use lib.Dec.{eqb, ltb}
use Rattle.bits.proofs.BitLaws.{bit_bits_of, bits_of_lt, is_bits_of}
use Rattle.bits.proofs.IndexLaws.{any_none, at_each, each_ext}
use Rattle.bits.proofs.TruthTables.{by4}
use Rattle.bits.specs.Bits.{bit, bits_of}
use Rattle.bits.specs.Index.{any_to}
use Rattle.class_rules.specs.Class.{enabled, no_class}
use Rattle.class_rules.specs.Step.{class_step}
use Rattle.link_rules.proofs.ReceiverLaws.{same_receiver}
use Rattle.link_rules.specs.Receiver.{is_ready, takes, stands_after, asked_for, received}
use Rattle.link_rules.specs.declared.Handshake.{Handshake}
use Rattle.link_rules.specs.declared.Handshake.TheVariants.{Ready, Acknowledged, FirstPause, SecondPause}
use Rattle.link_rules.specs.declared.Receiver.{Receiver}
use Rattle.rules.specs.Samples.{positive, negative, alert_enabled, alert_broken, marked}
use Rattle.rules.specs.State.{most, local_count, local, alert, class_at, receiver, receivers_by}
use Rattle.rules.specs.declared.Field.{Field}
use Rattle.rules.specs.declared.Handler.{Handler}
use Rattle.rules.specs.declared.Wires.{Wires}
use Rattle.laws.proofs.Samples.Heard.{receiver_by}
use Rattle.calm_laws.specs.Four.{class_of, four_step}
use Rattle.calm_laws.specs.Settled.{wires_alone, calm_received, calm_receiver, calm_event, calm_occurs, calm_interrupt, calm_signals, calm_alerts, calm_locals, calm_lines, calm_after, Settled}
use Rattle.calm_laws.proofs.PlainTick.{bits_ext, receivers_ext}

-- ── one receiver on a steady pair ──

-- where it stands after three ticks
abbrev thrice : Handshake → Bool → Bool → Handshake
thrice s p m = stands_after (stands_after (stands_after s p m) p m) p m

rests : (s : Handshake) (p m : Bool) → stands_after (thrice s p m) p m ≡ thrice s p m
unfolding stands_after
rests s true true = refl
rests s false false = refl
rests Ready true false = refl
rests Acknowledged true false = refl
rests FirstPause true false = refl
rests SecondPause true false = refl
rests Ready false true = refl
rests Acknowledged false true = refl
rests FirstPause false true = refl
rests SecondPause false true = refl

-- it takes no rise any more
no_rise : (s : Handshake) (p m : Bool) → takes (thrice s p m) p m ≡ false
unfolding stands_after
no_rise s true true = and-false (is_ready (thrice s true true))
no_rise s false false = and-false (is_ready (thrice s false false))
no_rise s false true = and-false (is_ready (thrice s false true))
no_rise Ready true false = refl
no_rise Acknowledged true false = refl
no_rise FirstPause true false = refl
no_rise SecondPause true false = refl

-- two ticks are too few: a rise that waited in the pause is taken in the third
third : takes (stands_after (stands_after FirstPause true false) true false) true false ≡ true
unfolding stands_after
third = refl

-- a receiver that has come to rest stays as it is, and has no event
kept : (b : Bool) → (b && true) ≡ b
kept true = refl
kept false = refl

still : (w : Wires) (i : ℕ) (r : Receiver) → takes r.stands (positive w i) (negative w i) ≡ false
    → stands_after r.stands (positive w i) (negative w i) ≡ r.stands → (received (wires_alone w i) r).receiver ≡ r
unfolding received asked_for
still w i r t e = same_receiver _ r e refl (ap (λ (b : Bool). r.pending && not b) t ∙ kept r.pending)

quiet : (w : Wires) (i : ℕ) (r : Receiver) → takes r.stands (positive w i) (negative w i) ≡ false → (received (wires_alone w i) r).event ≡ false
unfolding received asked_for
quiet w i r t = ap (λ (b : Bool). b && not r.pending) t

marked_again : (b : Bool) (x : ℕ) → marked b (marked b x) ≡ marked b x
marked_again true x = refl
marked_again false x = refl

-- an interrupt bit that an event has set is not set anew
absorb : (s x y e : Bool) → ((s || ((x || y) && e)) || ((false || y) && e)) ≡ (s || ((x || y) && e))
absorb = by4 (λ s x y e. (s || ((x || y) && e)) || ((false || y) && e)) (λ s x y e. s || ((x || y) && e)) tt

-- ── the alerts' receivers after three ticks: h, then f, then a, then g ──

module _ (h : Handler) (w : Wires) (few : h.n ≤ most) where
  abbrev f : Handler
  f = calm_after h w

  abbrev a : Handler
  a = calm_after f w

  abbrev g : Handler
  g = calm_after a w

  -- a calm tick's receiver, one by one
  after_receiver : (x : Handler) (i : ℕ) → i < 256 → receiver (calm_after x w) i ≡ calm_receiver x w i
  unfolding calm_after
  after_receiver x i l = receiver_by (calm_receiver x w) i l

  below : (x : Handler) (i : ℕ) → i < 256 → x.n ≡ h.n → i < h.n → (receiver (calm_after x w) i).stands ≡ stands_after (receiver x i).stands (positive w i) (negative w i)
  unfolding received asked_for
  below x i l e m =
      ap (λ (r : Receiver). r.stands) (after_receiver x i l)
      ∙ ap (λ (b : Bool). (cond b (calm_received x w i).receiver (receiver x i)).stands) (ap (ltb i) e ∙ lt-ltb i h.n m)

  same_n : (x : Handler) → (calm_after x w).n ≡ x.n
  unfolding calm_after
  same_n x = refl

  stands_so : (i : ℕ) → i < h.n → (receiver g i).stands ≡ thrice (receiver h i).stands (positive w i) (negative w i)
  stands_so i l =
      below a i (omega (arith, few)) (same_n f ∙ same_n h) l
      ∙ ap (λ (s : Handshake). stands_after s (positive w i) (negative w i))
      (below f i (omega (arith, few)) (same_n h) l
      ∙ ap (λ (s : Handshake). stands_after s (positive w i) (negative w i)) (below h i (omega (arith, few)) refl l))

  takes_none : (i : ℕ) → i < h.n → takes (receiver g i).stands (positive w i) (negative w i) ≡ false
  takes_none i l =
      ap (λ (s : Handshake). takes s (positive w i) (negative w i)) (stands_so i l) ∙ no_rise (receiver h i).stands (positive w i) (negative w i)

  stays : (i : ℕ) → i < h.n → stands_after (receiver g i).stands (positive w i) (negative w i) ≡ (receiver g i).stands
  stays i l =
      ap (λ (s : Handshake). stands_after s (positive w i) (negative w i)) (stands_so i l)
      ∙ rests (receiver h i).stands (positive w i) (negative w i)
      ∙ sym (stands_so i l)

  g_n : g.n ≡ h.n
  g_n = same_n a ∙ same_n f ∙ same_n h

  receiver_stays : (i : ℕ) → calm_receiver g w i ≡ receiver g i
  receiver_stays i = go (dec_lt i h.n)
    where
      go : Dec (i < h.n) → calm_receiver g w i ≡ receiver g i
      go (yes l) =
          ap (λ (b : Bool). cond b (calm_received g w i).receiver (receiver g i)) (ap (ltb i) g_n ∙ lt-ltb i h.n l)
          ∙ still w i (receiver g i) (takes_none i l) (stays i l)
      go (no l) = ap (λ (b : Bool). cond b (calm_received g w i).receiver (receiver g i)) (ap (ltb i) g_n ∙ le-ltb i h.n (omega arith))

  no_event : (i : ℕ) → calm_event g w i ≡ false
  no_event i = go (dec_lt i h.n)
    where
      go : Dec (i < h.n) → calm_event g w i ≡ false
      go (yes l) =
          ap (λ (b : Bool). ltb i g.n && (b && alert_enabled g i)) (quiet w i (receiver g i) (takes_none i l)) ∙ and-false (ltb i g.n)
      go (no l) = ap (λ (b : Bool). b && ((calm_received g w i).event && alert_enabled g i)) (ap (ltb i) g_n ∙ le-ltb i h.n (omega arith))

  -- ── each part of the state ──

  receivers_rest : receivers_by (calm_receiver g w) ≡ g.links.receivers
  unfolding calm_after
  receivers_rest = receivers_ext (calm_receiver g w) (calm_receiver a w) (λ i l. receiver_stays i ∙ after_receiver a i l)

  lines_rest : calm_lines g ≡ g.links.lines
  unfolding calm_after
  lines_rest =
      sym (is_bits_of 32 (calm_lines a) (bit (calm_lines a)) (bits_of_lt 32 (bit a.links.lines)) (λ k l. refl))

  right_rest : 0 ≡ g.links.right
  unfolding calm_after
  right_rest = refl

  alerts_rest : calm_alerts g w ≡ g.alerts
  unfolding calm_after
  alerts_rest =
      ap (λ xs. record { regwen = a.alerts.regwen; en = a.alerts.en; class = a.alerts.class; cause = xs })
      (each_ext most (λ i. marked (calm_event g w i) (alert g Field.Cause i)) (λ i. marked (calm_event a w i) (alert a Field.Cause i)) 0
      (λ i l. ap (λ (b : Bool). marked b (alert g Field.Cause i)) (no_event i)
      ∙ at_each most (λ j. marked (calm_event a w j) (alert a Field.Cause j)) i 0 l))

  occurs_same : (j : ℕ) → calm_occurs g w j ≡ calm_occurs a w j
  unfolding calm_after alert_broken
  occurs_same j = refl

  locals_rest : calm_locals g w ≡ g.locals
  unfolding calm_after
  locals_rest =
      ap (λ xs. record { regwen = a.locals.regwen; en = a.locals.en; class = a.locals.class; cause = xs })
      (each_ext local_count (λ j. marked (calm_occurs g w j) (local g Field.Cause j)) (λ j. marked (calm_occurs a w j) (local a Field.Cause j)) 0
      (λ j l. ap₂ marked (occurs_same j) (at_each local_count (λ k. marked (calm_occurs a w k) (local a Field.Cause k)) j 0 l)
      ∙ marked_again (calm_occurs a w j) (local a Field.Cause j)))

  ctrl_same : (k : ℕ) → k < 4 → enabled (class_at g k) ≡ enabled (class_at a k)
  unfolding calm_after four_step class_step
  ctrl_same k l = ap enabled (at_each 4 (λ j. class_step (calm_signals a w j) (class_of a.classes j)) k no_class l)

  bit_same : (k : ℕ) → k < 4 → calm_interrupt g w k ≡ calm_interrupt a w k
  unfolding calm_after alert_broken
  bit_same k l =
      ap₂ ◌||◌ (bit_bits_of 4 (calm_interrupt a w) k l)
      (ap₂ (λ (x y : Bool). (x || any_to (λ j. calm_occurs a w j && eqb (local a Field.Class j) k) local_count) && y)
      (any_none (λ i. calm_event g w i && eqb (alert g Field.Class i) k) g.n (λ i m. ap (λ (b : Bool). b && eqb (alert g Field.Class i) k) (no_event i)))
      (ctrl_same k l))
      ∙ absorb (bit a.interrupts.state k) (any_to (λ i. calm_event a w i && eqb (alert a Field.Class i) k) a.n)
      (any_to (λ j. calm_occurs a w j && eqb (local a Field.Class j) k) local_count) (enabled (class_at a k))

  state_is : g.interrupts.state ≡ bits_of 4 (calm_interrupt a w)
  unfolding calm_after
  state_is = refl

  bits_rest : bits_of 4 (calm_interrupt g w) ≡ g.interrupts.state
  bits_rest = bits_ext 4 (calm_interrupt g w) (calm_interrupt a w) bit_same ∙ sym state_is

  pub settles : Settled g w
  settles =
      record { receivers = receivers_rest; lines = lines_rest; right = right_rest; alerts = alerts_rest; locals = locals_rest; bits = bits_rest }
