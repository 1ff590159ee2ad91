-- Wrong receivers of request (viii) that the sentences refuse, as theorems: what satisfies the sentences is the rules' definition (`only`, `holds`), and
-- these differ from it somewhere.
-- Assumes nothing.
use Prim.Native.Nat.{ℕ, ◌<◌}
use mathlib.Core.Path.{◌≡◌, refl, sym, ap, ap₂, ◌∙◌}
use mathlib.Core.Logic.{inl}
use mathlib.Core.Bool.{Bool, true, false, false≢true, and-true, and-false, cond, not, ◌&&◌, ◌||◌}
use mathlib.Core.List.{List}
use native.Mathlib.Omega.{arith}
use lib.Dec.{ltb}
use lib.ListN.{replicate}
use Rattle.bits.specs.Index.{place_in, words_by}
use Rattle.bits.proofs.WordLaws.{place_in_each}
use Rattle.link_rules.specs.Pair.{rises, equal}
use Rattle.link_rules.specs.Codes.{pausing_bit, busy_bit}
use Rattle.link_rules.specs.Receiver.{acknowledges, is_ready, onward, takes, asked_for, stands_after, received}
use Rattle.link_rules.specs.Pings.{asks}
use Rattle.link_rules.specs.Timer.{open_now, fails, fails_alert}
use Rattle.link_rules.proofs.ReceiverLaws.{same_receiver}
use Rattle.link_rules.specs.declared.Given.{Given}
use Rattle.link_rules.specs.declared.Handshake.{Handshake}
use Rattle.link_rules.specs.declared.Handshake.TheVariants.{Ready, Acknowledged, FirstPause, SecondPause}
use Rattle.link_rules.specs.declared.Receiver.{Receiver}
use Rattle.rules.specs.Samples.{at_rest, given_to, happened, receiver_after, before, asks_for, timed, receiver_timed, heard, alert_event, sampled}
use Rattle.rules.specs.State.{words, alert, receiver, new_handler, with_alerts, with_timer}
use Rattle.rules.specs.Tick.{links_after}
use Rattle.rules.specs.declared.Effects.{Effects}
use Rattle.rules.specs.declared.Field.{Field}
use Rattle.rules.specs.declared.Handler.{Handler}
use Rattle.rules.specs.declared.Heard.{Heard}
use Rattle.rules.specs.declared.Sample.{Sample}
use Rattle.rules.proofs.Scenes.{rules, settings, zeros, station}
use Rattle.laws.proofs.Samples.Heard.{receiver_by, heard_receiver, heard_event_law, heard_above}
use Rattle.laws.proofs.State.StateLaws.{alert_sampled}
use Rattle.sentences.specs.Links.{LinkStep}
use Rattle.sentences.specs.Samples.{SampleStep}
use Rattle.sentences.specs.Valid.{Valid}
use Rattle.sentences.proofs.HoldsLinks.{holds_links}
use Rattle.sentences.proofs.HoldsSamples.{after2, holds_samples}
use Rattle.sentences.proofs.HoldsSenders.{linked}
use Rattle.sentences.proofs.HoldsValid.{holds_valid}
use Rattle.sentences.proofs.LinkParts.{with_receivers, with_turn}
use Rattle.sentences.proofs.OnlyLinks.{only_links}
use Rattle.sentences.proofs.OnlySamples.{only_samples}

-- ── a handler of one alert, locked and enabled, whose ping timer is on, in that alert's turn, and a sample; the receivers and wires of all places are
-- alike ──

-- its timer has the count c
abbrev pub timing : ℕ → Receiver → Handler
timing c t =
    with_timer (record { timeout = 0; regwen = 1; enable = 1 })
    (with_receivers (λ i. t) (with_turn (record { number = 0; alert = 0; count = c })
    (with_alerts (record { regwen = replicate 248 0; en = replicate 248 1; class = replicate 248 0; cause = replicate 248 0 })
    (station 1 (replicate 248 1) (replicate 248 0) 0 (settings 5 0 0 zeros)))))

-- no ping is due
abbrev pub standing : Receiver → Handler
standing t = timing 5 t

-- the wires of x; what it asks is the timer's to say
abbrev sample_of : Given → Sample
sample_of x = record { alerts = record { pos = words_by words (λ i. x.pos); neg = words_by words (λ i. x.neg) }; word = 0; receive = at_rest.receive }

abbrev hands_on : Effects
hands_on = record { clears = 0; raises = 0; begins = false }

valid_timing : (c : ℕ) (t : Receiver) → Valid (timing c t)
unfolding rules
valid_timing c t = go t.stands t.level t.pending
  where
    go : (w : Handshake) (l o : Bool) → Valid (timing c (record { stands = w; level = l; pending = o }))
    go w l true = (holds_valid (timing c (record { stands = w; level = l; pending = true }))).0 refl
    go w l false = (holds_valid (timing c (record { stands = w; level = l; pending = false }))).0 refl

stood : (c : ℕ) (t : Receiver) (i : ℕ) → i < 256 → receiver (timing c t) i ≡ t
stood c t i l = receiver_by (λ j. t) i l

-- the timer asks alert i what x says
abbrev Asks : ℕ → Receiver → Given → ℕ → Type 0
Asks c t x i = asks (before (timing c t) (sample_of x) hands_on) (timing c t).links.turn i ≡ x.asks

abbrev asked : ℕ → Receiver → Given → List ℕ
asked c t x = asks_for (timing c t) (sample_of x) hands_on

given : (c : ℕ) (t : Receiver) (x : Given) (i : ℕ) → i < 256 → Asks c t x i → given_to (asked c t x) (sample_of x).alerts i ≡ x
given c t x i l a = λ j.
    record {
      asks = (place_in_each words (asks (before (timing c t) (sample_of x) hands_on) (timing c t).links.turn) i l ∙ a) j;
      pos = place_in_each words (λ j. x.pos) i l j;
      neg = place_in_each words (λ j. x.neg) i l j;
    }

-- at timeout 0 no ping fails
unfailed : (c : ℕ) (t : Receiver) (x : Given) → fails_alert (timed (timing c t) (sample_of x) hands_on) (timing c t).links.turn ≡ false
unfolding fails
unfailed c t x =
    let m = timed (timing c t) (sample_of x) hands_on in
    let o = open_now m (timing c t).links.turn in
    ap (λ (b : Bool). (o && b) && true) (and-false (not m.answered)) ∙ ap (λ (b : Bool). b && true) (and-false o)

-- ── receivers that stand, or whose pings are, elsewhere after a tick: r makes one of what it is given ──

abbrev moved_by : (Given → Receiver → Receiver) → Handler → Sample → Effects → ℕ → Handler → Handler
moved_by r g s f lit m =
    with_receivers (λ i. cond (ltb i g.n) (r (given_to (asks_for g s f) s.alerts i) (receiver g i)) (receiver g i)) (linked g s f lit m)

-- the links after a tick without a line
abbrev now : Handler → Sample → Handler
now g s = linked g s hands_on 0 g

-- what the rules make of it
ruled : (c : ℕ) (t : Receiver) (x : Given) → Asks c t x 0 → receiver (now (timing c t) (sample_of x)) 0 ≡ (received x t).receiver
unfolding links_after receiver_timed receiver_after new_handler
ruled c t x a =
    heard_receiver (timing c t) (sample_of x) hands_on 0 (omega arith)
    ∙ same_receiver _ (receiver_after (timing c t) (asked c t x) (sample_of x).alerts 0) refl refl
    (ap (λ (b : Bool). (receiver_after (timing c t) (asked c t x) (sample_of x).alerts 0).pending && not (b && true)) (unfailed c t x)
    ∙ and-true (receiver_after (timing c t) (asked c t x) (sample_of x).alerts 0).pending)
    ∙ ap₂ (λ (x : Given) (t : Receiver). (received x t).receiver) (given c t x 0 (omega arith) a) (stood c t 0 (omega arith))

-- if it makes another of some receiver than the rules do
other_receiver : (r : Given → Receiver → Receiver) (c : ℕ) (x : Given) (t : Receiver) (f : Receiver → Bool) → Asks c t x 0
    → f (r x t) ≡ false → f (received x t).receiver ≡ true → ¬ LinkStep (moved_by r)
unfolding new_handler
other_receiver r c x t f z p q w =
    let g = timing c t in
    let s = sample_of x in
    let e = only_links (moved_by r) linked w holds_links g s hands_on 0 g (valid_timing c t) in
    let a : receiver (moved_by r g s hands_on 0 g) 0 ≡ r x t =
    receiver_by (λ i. cond (ltb i 1) (r (given_to (asks_for g s hands_on) s.alerts i) (receiver g i)) (receiver g i)) 0 (omega arith)
    ∙ ap₂ r (given c t x 0 (omega arith) z) (stood c t 0 (omega arith)) in
    false≢true (sym p ∙ ap f (sym a ∙ ap (λ (h : Handler). receiver h 0) e ∙ ruled c t x z) ∙ q)

-- one that stands by its own rule
abbrev stands_by : (Handshake → Bool → Bool → Handshake) → Given → Receiver → Receiver
stands_by m x t = let r = (received x t).receiver in record { stands = m t.stands x.pos x.neg; level = r.level; pending = r.pending }

abbrev is_first : Handshake → Bool
is_first t = pausing_bit t && busy_bit t

abbrev is_second : Handshake → Bool
is_second t = pausing_bit t && not (busy_bit t)

-- it reads this pair and nobody asks; it stands there, no ping open
abbrev reads : Bool → Bool → Given
reads p m = record { asks = false; pos = p; neg = m }

abbrev pub at : Handshake → Receiver
at t = record { stands = t; level = false; pending = false }

-- one tick of pause
abbrev hurries : Handshake → Bool → Bool → Handshake
hurries t p m = cond (is_first t && not (equal p m)) Ready (stands_after t p m)

pub no_short_pause : ¬ LinkStep (moved_by (stands_by hurries))
unfolding rules received asked_for stands_after
no_short_pause = other_receiver (stands_by hurries) 5 (reads false true) (at FirstPause) (λ r. pausing_bit r.stands) refl refl refl

-- a rise taken in the first, or the second, tick of the pause
abbrev takes_in : (Handshake → Bool) → Handshake → Bool → Bool → Handshake
takes_in tick t p m = cond (tick t && rises p m) Acknowledged (stands_after t p m)

pub no_rise_in_first_pause : ¬ LinkStep (moved_by (stands_by (takes_in is_first)))
unfolding rules received asked_for stands_after
no_rise_in_first_pause = other_receiver (stands_by (takes_in is_first)) 5 (reads true false) (at FirstPause) (λ r. pausing_bit r.stands) refl refl refl

pub no_rise_in_second_pause : ¬ LinkStep (moved_by (stands_by (takes_in is_second)))
unfolding rules received asked_for stands_after
no_rise_in_second_pause = other_receiver (stands_by (takes_in is_second)) 5 (reads true false) (at SecondPause) (λ r. is_ready r.stands) refl refl refl

-- equal wires move one that is ready, or acknowledged, or in the first or the second tick of the pause
abbrev unheld_if : (Handshake → Bool) → Handshake → Bool → Bool → Handshake
unheld_if there t p m = cond (there t) (onward t p) (stands_after t p m)

pub no_moved_ready : ¬ LinkStep (moved_by (stands_by (unheld_if is_ready)))
unfolding rules received asked_for stands_after
no_moved_ready = other_receiver (stands_by (unheld_if is_ready)) 5 (reads true true) (at Ready) (λ r. is_ready r.stands) refl refl refl

pub no_moved_acknowledged : ¬ LinkStep (moved_by (stands_by (unheld_if acknowledges)))
unfolding rules received asked_for stands_after
no_moved_acknowledged = other_receiver (stands_by (unheld_if acknowledges)) 5 (reads false false) (at Acknowledged) (λ r. acknowledges r.stands) refl refl refl

pub no_moved_first_pause : ¬ LinkStep (moved_by (stands_by (unheld_if is_first)))
unfolding rules received asked_for stands_after
no_moved_first_pause = other_receiver (stands_by (unheld_if is_first)) 5 (reads false false) (at FirstPause) (λ r. busy_bit r.stands) refl refl refl

pub no_moved_second_pause : ¬ LinkStep (moved_by (stands_by (unheld_if is_second)))
unfolding rules received asked_for stands_after
no_moved_second_pause = other_receiver (stands_by (unheld_if is_second)) 5 (reads true true) (at SecondPause) (λ r. pausing_bit r.stands) refl refl refl

-- one whose level changes, or whose ping is open after the tick, by its own rule
abbrev pinged_by : (Given → Receiver → Bool) → (Given → Receiver → Bool) → Given → Receiver → Receiver
pinged_by level pending x t = record { stands = (received x t).receiver.stands; level = level x t; pending = pending x t }

abbrev its_level : Given → Receiver → Bool
its_level x t = (received x t).receiver.level

abbrev its_pending : Given → Receiver → Bool
its_pending x t = (received x t).receiver.pending

-- asked for in this tick, with the pair (1,0); and ready with a ping open
abbrev asks_high : Given
asks_high = record { asks = true; pos = true; neg = false }

abbrev pub waiting : Receiver
waiting = record { stands = Ready; level = true; pending = true }

-- an open ping changes the level again
abbrev flips : Given → Receiver → Receiver
flips = pinged_by (λ x t. cond (x.asks || t.pending) (not t.level) t.level) its_pending

pub no_asked_twice : ¬ LinkStep (moved_by flips)
unfolding rules received asked_for
no_asked_twice = other_receiver flips 5 (reads false true) waiting (λ r. r.level) refl refl refl

-- an answer leaves the ping open
abbrev keeps_open : Given → Receiver → Receiver
keeps_open = pinged_by its_level (λ x t. x.asks || t.pending)

pub no_answer_left_open : ¬ LinkStep (moved_by keeps_open)
unfolding rules received asked_for
no_answer_left_open = other_receiver keeps_open 5 (reads true false) waiting (λ r. not r.pending) refl refl refl

-- a rise in the tick of the asking does not answer
abbrev opens_late : Given → Receiver → Receiver
opens_late = pinged_by its_level (λ x t. x.asks || (t.pending && not (takes t.stands x.pos x.neg)))

pub no_answer_a_tick_late : ¬ LinkStep (moved_by opens_late)
unfolding rules received asked_for
no_answer_a_tick_late = other_receiver opens_late 0 asks_high (at Ready) (λ r. not r.pending) refl refl refl

-- ── events: v says whether a receiver that is given x has one ──

abbrev hearing : (Given → Receiver → Bool) → Handler → Sample → Effects → Heard
hearing v g s f =
    record {
      receivers = (heard g s f).receivers;
      events = words_by words (λ i. ltb i g.n && v (given_to (asks_for g s f) s.alerts i) (receiver g i));
      answers = (heard g s f).answers;
      raises = (heard g s f).raises;
      meets = (heard g s f).meets;
      checked = (heard g s f).checked;
      right = (heard g s f).right;
    }

abbrev counted_by : (Given → Receiver → Bool) → Handler → Sample → Effects → Handler
counted_by v g s f = sampled g (hearing v g s f)

-- if it hears an event of the enabled alert where the rules hear none
other_event : (v : Given → Receiver → Bool) (c : ℕ) (x : Given) (t : Receiver) → Asks c t x 0 → v x t ≡ true → (received x t).event ≡ false → ¬ SampleStep (counted_by v)
unfolding alert_event happened new_handler
other_event v c x t k p q w =
    let g = timing c t in
    let s = sample_of x in
    let e = only_samples (counted_by v) after2 w holds_samples g s hands_on (valid_timing c t) (inl refl) in
    let a : place_in (hearing v g s hands_on).events 0 ≡ true =
    place_in_each words (λ i. ltb i 1 && v (given_to (asks_for g s hands_on) s.alerts i) (receiver g i)) 0 (omega arith)
    ∙ ap₂ v (given c t x 0 (omega arith) k) (stood c t 0 (omega arith)) ∙ p in
    let b : place_in (heard g s hands_on).events 0 ≡ false =
    heard_event_law g s hands_on 0 (omega arith)
    ∙ ap₂ (λ (x : Given) (t : Receiver). (received x t).event) (given c t x 0 (omega arith) k) (stood c t 0 (omega arith)) ∙ q in
    let d : alert (counted_by v g s hands_on) Field.Cause 0 ≡ 1 = alert_sampled g (hearing v g s hands_on) Field.Cause 0 (omega arith) ∙ simp a in
    let o : alert (after2 g s hands_on) Field.Cause 0 ≡ 0 = alert_sampled g (heard g s hands_on) Field.Cause 0 (omega arith) ∙ simp b in
    let z = ap (λ (h : Handler). alert h Field.Cause 0) e in
    omega (arith, d, o, z)

-- an answer is an event
abbrev answers_too : Given → Receiver → Bool
answers_too x t = takes t.stands x.pos x.neg

pub no_answer_as_event : ¬ SampleStep (counted_by answers_too)
unfolding rules received asked_for
no_answer_as_event = other_event answers_too 5 (reads true false) waiting refl refl refl

-- the wires are read before the asking
abbrev wires_first : Given → Receiver → Bool
wires_first x t = takes t.stands x.pos x.neg && not t.pending

pub no_asking_after_wires : ¬ SampleStep (counted_by wires_first)
unfolding rules received asked_for
no_asking_after_wires = other_event wires_first 0 asks_high (at Ready) refl refl refl

-- a rise that is held is an event in each tick, and one that waits in the pause is
abbrev each_tick : Given → Receiver → Bool
each_tick x t = rises x.pos x.neg

pub no_event_each_tick : ¬ SampleStep (counted_by each_tick)
unfolding rules received asked_for
no_event_each_tick = other_event each_tick 5 (reads true false) (at Acknowledged) refl refl refl

abbrev in_pause : Given → Receiver → Bool
in_pause x t = pausing_bit t.stands && rises x.pos x.neg

pub no_event_in_pause : ¬ SampleStep (counted_by in_pause)
unfolding rules received asked_for
no_event_in_pause = other_event in_pause 5 (reads true false) (at SecondPause) refl refl refl

-- ── at N and above: r moves a receiver there, where N is 1; place 255 is the last ──

abbrev moved_above : (Given → Receiver → Receiver) → Handler → Sample → Effects → ℕ → Handler → Handler
moved_above r g s f lit m =
    with_receivers (λ i. cond (ltb i g.n) (receiver_timed g s f i) (r (given_to (asks_for g s f) s.alerts i) (receiver g i))) (linked g s f lit m)

other_above : (r : Given → Receiver → Receiver) (x : Given) (t : Receiver) (f : Receiver → Bool) → Asks 5 t x 255 → f (r x t) ≡ false → f t ≡ true
    → ¬ LinkStep (moved_above r)
unfolding links_after new_handler
other_above r x t f z p q w =
    let g = standing t in
    let s = sample_of x in
    let e = only_links (moved_above r) linked w holds_links g s hands_on 0 g (valid_timing 5 t) in
    let a : receiver (moved_above r g s hands_on 0 g) 255 ≡ r x t =
    receiver_by (λ i. cond (ltb i 1) (receiver_timed g s hands_on i) (r (given_to (asks_for g s hands_on) s.alerts i) (receiver g i))) 255 (omega arith)
    ∙ ap₂ r (given 5 t x 255 (omega arith) z) (stood 5 t 255 (omega arith)) in
    let b : receiver (now g s) 255 ≡ t = heard_above g s hands_on 255 (omega arith) (omega arith) ∙ stood 5 t 255 (omega arith) in
    false≢true (sym p ∙ ap f (sym a ∙ ap (λ (h : Handler). receiver h 255) e ∙ b) ∙ q)

-- by its wires
abbrev wires_move : Given → Receiver → Receiver
wires_move x t = record { stands = stands_after t.stands x.pos x.neg; level = t.level; pending = t.pending }

pub no_wires_above : ¬ LinkStep (moved_above wires_move)
unfolding rules stands_after
no_wires_above = other_above wires_move (reads true false) (at Ready) (λ r. is_ready r.stands) refl refl refl
