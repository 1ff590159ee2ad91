-- Requests (viii) and (ix) once more, taken from the claim over every state, list, alert and tick, in raw bits and numbers: alert i has bit 63 - i % 64 of word i / 64.
-- A claim that says less, or asks for more, does not give it.
-- Assumes nothing.
use Prim.Native.Nat.{ℕ, suc, ◌+◌, ◌-◌, ◌/◌, ◌%◌, ◌^◌, ◌≤◌, ◌<◌}
use mathlib.Core.Path.{◌≡◌, refl, sym, ap, ap₂, ◌∙◌}
use mathlib.Core.Logic.{◌⊎◌, inl, inr}
use mathlib.Core.Bool.{Bool, true, false, false≢true, true≢false, not, and-false, or-true, ◌&&◌, ◌||◌}
use mathlib.Core.List.{List}
use borrow.Author.Tests.{eq-eqb, ne_eqb, not-true}
use lib.Dec.{eqb}
use lib.ListN.{get_or, length, take, replicate}
use Rattle.bits.proofs.IndexLaws.{and-true}
use Rattle.bits.specs.Bits.{bit}
use Rattle.escalation.specs.List.{no_tick}
use Rattle.laws.proofs.Samples.Heard.{stands_bits, receiver_bits}
use Rattle.laws.specs.Pinging.{asks_in, fails_in}
use Rattle.link_rules.specs.Codes.{handshake_of}
use Rattle.link_rules.specs.Receiver.{received}
use Rattle.link_rules.specs.declared.Given.{Given}
use Rattle.link_rules.specs.declared.Handshake.TheVariants.{Ready}
use Rattle.link_rules.specs.declared.Received.{Received}
use Rattle.link_rules.specs.declared.Receiver.{Receiver}
use Rattle.rules.specs.Access.{value, acted}
use Rattle.rules.specs.Run.{run, ticks}
use Rattle.rules.specs.State.{new_handler}
use Rattle.rules.specs.Tick.{hears}
use Rattle.rules.specs.Valid.{valid}
use Rattle.rules.specs.declared.Access.{Access}
use Rattle.rules.specs.declared.Handler.{Handler}
use Rattle.rules.specs.declared.Input.{Input}
use Rattle.rules.specs.declared.Output.{Output}
use Rattle.rules.specs.declared.Receive.TheVariants.{Pairs}
use Rattle.handshake.specs.Alone.{receiver_at, Alone, Above}
use Rattle.handshake.specs.Handshake.{OneAlert}
use Rattle.handshake.proofs.Alone.{new}
use Rattle.handshake.proofs.Handshake.{handshake}

-- ── bits ──

abbrev on : List ℕ → ℕ → Bool
on ws i = bit (get_or ws (i / 64) 0) (63 - i % 64)

-- alert i's receiver in its four bits
abbrev standing : Handler → ℕ → Receiver
standing g i =
    let r = g.links.receivers in
    record { stands = handshake_of (on r.pausing i) (on r.busy i); level = on r.level i; pending = on r.pending i }

no_fall : (p m : Bool) → (p ≡ false → m ≡ true → ⊥) → (not p && m) ≡ false
no_fall true m n = refl
no_fall false true n = absurd (n refl refl)
no_fall false false n = refl

pub one_of : (a b c : Bool) → (a || (b || c)) ≡ true → (a ≡ true) ⊎ ((b ≡ true) ⊎ (c ≡ true))
one_of true b c e = inl refl
one_of false true c e = inr (inl refl)
one_of false false c e = inr (inr e)

either_one : (a b : Bool) → (a ≡ true) ⊎ (b ≡ true) → (a || b) ≡ true
either_one a b (inl e) = ap (λ (c : Bool). c || b) e
either_one a b (inr e) = ap (λ (c : Bool). a || c) e ∙ or-true a

second_off : (a b : Bool) → (a || b) ≡ false → b ≡ false
second_off true b e = absurd (true≢false e)
second_off false b e = e

same_wires : (p m : Bool) → p ≡ m → ((p && m) || (not p && not m)) ≡ true
same_wires true true e = refl
same_wires true false e = absurd (true≢false e)
same_wires false true e = absurd (false≢true e)
same_wires false false e = refl

module _ (h : Handler) (xs : List Input) (v : valid h ≡ true) where
  -- before tick t, counted from 0; its input; what it puts out
  abbrev state : ℕ → Handler
  state t = run h (take t xs)

  abbrev rest : Input
  rest =
      record {
        access = Access.Nothing;
        sample = record { alerts = record { pos = replicate 4 0; neg = replicate 4 (2 ^ 64 - 1) }; word = 0; receive = Pairs 0 15 };
      }

  abbrev input : ℕ → Input
  input t = get_or xs t rest

  abbrev out : ℕ → Output
  out t = (get_or (ticks h xs) t no_tick).output

  -- of alert i: event, answer and rise taken; wires; its ping opens, and fails; the ping open before the tick; acknowledge and ping pair
  abbrev event : ℕ → ℕ → Bool
  event i t = on (hears (state t) (input t)).events i

  abbrev answer : ℕ → ℕ → Bool
  answer i t = on (hears (state t) (input t)).answers i

  abbrev taken : ℕ → ℕ → Bool
  taken i t = event i t || answer i t

  abbrev high : ℕ → ℕ → Type 0
  high i t = (on (input t).sample.alerts.pos i ≡ true) × (on (input t).sample.alerts.neg i ≡ false)

  abbrev low : ℕ → ℕ → Type 0
  low i t = (on (input t).sample.alerts.pos i ≡ false) × (on (input t).sample.alerts.neg i ≡ true)

  -- by the timer, of which the sentences speak by themselves
  abbrev ask : ℕ → ℕ → Bool
  ask i t = asks_in (state t) (input t) i

  abbrev fail : ℕ → ℕ → Bool
  fail i t = fails_in (state t) (input t) i

  abbrev pending : ℕ → ℕ → Bool
  pending i t = on (state t).links.receivers.pending i

  abbrev acknowledge : ℕ → ℕ → Bool
  acknowledge i t = on (out t).acknowledge.pos i

  abbrev ping : ℕ → ℕ → Bool
  ping i t = on (out t).ping.pos i

  abbrev Pair : ℕ → ℕ → Bool → Bool → Type 0
  Pair i t a p =
      (on (out t).acknowledge.pos i ≡ a) × (on (out t).acknowledge.neg i ≡ not a) × (on (out t).ping.pos i ≡ p) × (on (out t).ping.neg i ≡ not p)

  -- ── an alert below N ──

  module _ (i : ℕ) (l : i < h.n) where
    abbrev given : ℕ → Given
    given t = record { asks = ask i t; pos = on (input t).sample.alerts.pos i; neg = on (input t).sample.alerts.neg i }

    -- one receiver, tick by tick: a ping that fails closes
    abbrev closes_by : ℕ → Receiver → Receiver
    closes_by t r = record { stands = r.stands; level = r.level; pending = r.pending && not (fail i t) }

    abbrev by_itself : ℕ → Receiver
    by_itself t = receiver_at (standing h i) given (fail i) t

    step_by_step : (by_itself 0 ≡ standing h i) × ((t : ℕ) → by_itself (suc t) ≡ closes_by t (received (given t) (by_itself t)).receiver)
    unfolding receiver_at
    step_by_step = (refl, λ t. refl)

    abbrev gives : ℕ → Received
    gives t = received (given t) (by_itself t)

    it : Alone h xs i
    it = (handshake h xs v).alone i l

    says : OneAlert h xs i
    says = (handshake h xs v).alerts i l

    -- its receiver, its pairs, its event and its answer are those of one receiver by itself
    by_itself_law : (t : ℕ) → t ≤ length xs → standing (state t) i ≡ by_itself t
    by_itself_law = it.stood

    shows : (t : ℕ) → t < length xs → Pair i t (gives t).acknowledge (gives t).ping × (event i t ≡ (gives t).event) × (answer i t ≡ (gives t).answer)
    shows t m = (((it.acknowledge t m).0, (it.acknowledge t m).1, (it.ping t m).0, (it.ping t m).1), it.event t m, it.answer t m)

    differ : (t : ℕ) → t < length xs → (on (out t).acknowledge.neg i ≡ not (acknowledge i t)) × (on (out t).ping.neg i ≡ not (ping i t))
    differ = says.pairs

    is_rise : (t : ℕ) → t < length xs → taken i t ≡ true → high i t
    is_rise t m e =
        let p = on (input t).sample.alerts.pos i in
        let n = on (input t).sample.alerts.neg i in
        let b = and-true p (not n) (says.rise t m e) in (b.0, not-true n b.1)

    -- ── the acknowledge pair ──

    module _ (t : ℕ) (m : suc t < length xs) where
      in_the_next : taken i t ≡ true → acknowledge i (suc t) ≡ true
      in_the_next = says.acknowledged t m

      until_the_drop : acknowledge i t ≡ true → (low i t → ⊥) → acknowledge i (suc t) ≡ true
      until_the_drop e f = says.held t m e (no_fall _ _ (λ p n. f (p, n)))

      after_the_drop : acknowledge i t ≡ true → low i t → acknowledge i (suc t) ≡ false
      after_the_drop e f = says.dropped t m e (ap₂ (λ (p n : Bool). not p && n) f.0 f.1)

      low_without_rise : acknowledge i t ≡ false → event i t ≡ false → answer i t ≡ false → acknowledge i (suc t) ≡ false
      low_without_rise e f g = says.unraised t m e (ap₂ ◌||◌ f g)

    -- ── when a rise is taken ──

    four_apart : (t u : ℕ) → u < length xs → taken i t ≡ true → taken i u ≡ true → t < u → t + 4 ≤ u
    four_apart = says.apart

    within_three : (t : ℕ) → t + 3 < length xs → low i t
        → ((u : ℕ) → t < u → u ≤ t + 3 → ((w : ℕ) → suc t ≤ w → w < u → taken i w ≡ false) → high i u)
        → (taken i (suc t) ≡ true) ⊎ ((taken i (suc (suc t)) ≡ true) ⊎ (taken i (suc (suc (suc t))) ≡ true))
    within_three t m f g =
        one_of _ _ _
        (says.soon t m (ap₂ (λ (p n : Bool). not p && n) f.0 f.1)
        (λ u a b n. let w = g u a b n in ap₂ (λ (p m : Bool). p && not m) w.0 w.1))

    -- ── pings ──

    level_turns : (t : ℕ) → suc t < length xs → ask i (suc t) ≡ true → ping i (suc t) ≡ not (ping i t)
    level_turns t m a = says.level t m ∙ rw a

    level_stays : (t : ℕ) → suc t < length xs → ask i (suc t) ≡ false → ping i (suc t) ≡ ping i t
    level_stays t m a = says.level t m ∙ rw a

    opens_anew : (t : ℕ) → t < length xs → ask i t ≡ true → pending i t ≡ false
    opens_anew = says.opened

    locked_and_enabled : (t : ℕ) → t < length xs → ask i t ≡ true
        → (get_or (acted (state t) (input t).access).alerts.regwen i 0 ≡ 0) × (get_or (acted (state t) (input t).access).alerts.en i 0 ≡ 1)
    unfolding value
    locked_and_enabled = says.pingable

    answers : (t : ℕ) → t < length xs → taken i t ≡ true → (ask i t ≡ true) ⊎ (pending i t ≡ true) → (answer i t ≡ true) × (event i t ≡ false)
    answers t m e w = says.answer t m e (either_one (ask i t) (pending i t) w)

    events : (t : ℕ) → t < length xs → taken i t ≡ true → ask i t ≡ false → pending i t ≡ false → (event i t ≡ true) × (answer i t ≡ false)
    events t m e a o = says.event t m e (ap₂ ◌||◌ a o)

    fails_open : (t : ℕ) → t < length xs → fail i t ≡ true → ((ask i t || pending i t) ≡ true) × (taken i t ≡ false)
    fails_open = says.failed

    stays_open : (t u : ℕ) → u < length xs → (ask i t ≡ true) ⊎ (pending i t ≡ true) → t ≤ u → ((w : ℕ) → t ≤ w → w < u → taken i w ≡ false)
        → ((w : ℕ) → t ≤ w → w < u → fail i w ≡ false) → (ask i u || pending i u) ≡ true
    stays_open t u m w = says.stays t u m (either_one (ask i t) (pending i t) w)

    closes : (t u : ℕ) → u < length xs → (taken i t ≡ true) ⊎ (fail i t ≡ true) → t < u → ((w : ℕ) → suc t ≤ w → w < suc u → ask i w ≡ false)
        → pending i u ≡ false
    closes t u m e b n = second_off (ask i u) (pending i u) (says.closed t u m (either_one (taken i t) (fail i t) e) b n)

    -- ── equal wires ──

    equal_holds : (t : ℕ) → t < length xs → on (input t).sample.alerts.pos i ≡ on (input t).sample.alerts.neg i
        → (taken i t ≡ false)
        × (on (state (suc t)).links.receivers.pausing i ≡ on (state t).links.receivers.pausing i)
        × (on (state (suc t)).links.receivers.busy i ≡ on (state t).links.receivers.busy i)
    equal_holds t m e =
        let c = says.holds t m (same_wires (on (input t).sample.alerts.pos i) (on (input t).sample.alerts.neg i) e) in
        let b = stands_bits (state (suc t)).links.receivers (state t).links.receivers i c.1 in
        (c.0, b.0, b.1)

    -- ── CAUSE ──

    sets_cause : (t : ℕ) → t < length xs → event i t ≡ true → get_or (acted (state t) (input t).access).alerts.en i 0 ≡ 1
        → get_or (state (suc t)).alerts.cause i 0 ≡ 1
    unfolding value
    sets_cause t m e n = says.cause t m e (eq-eqb (get_or (acted (state t) (input t).access).alerts.en i 0) 1 n)

    leaves_cause : (t : ℕ) → t < length xs → event i t ≡ false
        → get_or (state (suc t)).alerts.cause i 0 ≡ get_or (acted (state t) (input t).access).alerts.cause i 0
    unfolding value
    leaves_cause t m e = says.no_cause t m (ap (λ (b : Bool). b && eqb (get_or (acted (state t) (input t).access).alerts.en i 0) 1) e)

    -- a disabled alert's event leaves it too
    disabled_leaves_cause : (t : ℕ) → t < length xs → (get_or (acted (state t) (input t).access).alerts.en i 0 ≡ 1 → ⊥)
        → get_or (state (suc t)).alerts.cause i 0 ≡ get_or (acted (state t) (input t).access).alerts.cause i 0
    unfolding value
    disabled_leaves_cause t m d =
        says.no_cause t m (ap (λ (b : Bool). event i t && b) (ne_eqb (get_or (acted (state t) (input t).access).alerts.en i 0) 1 d) ∙ and-false (event i t))

    -- an answer is no event, and leaves it
    no_event : (t : ℕ) → t < length xs → answer i t ≡ true → event i t ≡ false
    no_event t m e = go (ask i t || pending i t) refl
      where
        is_taken : taken i t ≡ true
        is_taken = either_one (event i t) (answer i t) (inr e)

        go : (b : Bool) → (ask i t || pending i t) ≡ b → event i t ≡ false
        go true o = (says.answer t m is_taken o).1
        go false o = absurd (false≢true (sym (says.event t m is_taken o).1 ∙ e))

    answer_leaves_cause : (t : ℕ) → t < length xs → answer i t ≡ true
        → get_or (state (suc t)).alerts.cause i 0 ≡ get_or (acted (state t) (input t).access).alerts.cause i 0
    answer_leaves_cause t m e = leaves_cause t m (no_event t m e)

  -- ── an alert at N and above, to 255 ──

  module _ (i : ℕ) (l : h.n ≤ i) (b : i < 256) where
    still : Above h xs i
    still = (handshake h xs v).above i l b

    bits_stay : (t : ℕ) → t ≤ length xs
        → (on (state t).links.receivers.pausing i ≡ on h.links.receivers.pausing i)
        × (on (state t).links.receivers.busy i ≡ on h.links.receivers.busy i)
        × (on (state t).links.receivers.level i ≡ on h.links.receivers.level i)
        × (on (state t).links.receivers.pending i ≡ on h.links.receivers.pending i)
    bits_stay t m =
        let e = still.stays t m in
        let c = receiver_bits (state t).links.receivers h.links.receivers i e in
        (c.0, c.1, ap (λ (r : Receiver). r.level) e, ap (λ (r : Receiver). r.pending) e)

    nothing : (t : ℕ) → t < length xs → Pair i t false false × (event i t ≡ false) × (answer i t ≡ false)
    nothing t m =
        (((still.acknowledge t m).0, (still.acknowledge t m).1, (still.ping t m).0, (still.ping t m).1), still.no_event t m, still.no_answer t m)

-- ── a new handler ──

at_reset : (n i : ℕ) → i < 256 → standing (new_handler n) i ≡ record { stands = Ready; level = false; pending = false }
at_reset n = (new n).receivers
