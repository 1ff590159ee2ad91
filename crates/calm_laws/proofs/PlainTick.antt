-- Request (xii): a calm tick of a state that refusal 7 does not meet, whose ping timer is off, leaves what `calm_after` says.
-- Assumes nothing.
use Prim.Native.Nat.{ℕ, ◌+◌, ◌*◌, ◌^◌, ◌≤◌, ◌<◌}
use mathlib.Core.Path.{◌≡◌, refl, ap, ap₂, ◌∙◌}
use mathlib.Core.Bool.{Bool, true, false, and-false, or-false, cond, not, ◌&&◌, ◌||◌}
use mathlib.Core.List.{List}
use native.Mathlib.Omega.{arith}
use lib.Dec.{eqb, ltb}
use Rattle.bits.proofs.BitLaws.{bit_none, bit_bits_of, bits_of_lt, is_bits_of, word_of_lt, is_word64, place_word64}
use Rattle.bits.proofs.IndexLaws.{any_ext, any_none, each_ext}
use Rattle.bits.specs.Bits.{bit, bits_of, num, word_of}
use Rattle.bits.specs.Index.{each, any_to, place_in, words_by}
use Rattle.class_rules.specs.Class.{no_class}
use Rattle.class_rules.specs.Step.{class_event, class_step}
use Rattle.class_rules.specs.declared.Class.{Class}
use Rattle.class_rules.specs.declared.Signals.{Signals}
use Rattle.link_rules.proofs.ReceiverLaws.{same_receiver}
use Rattle.link_rules.proofs.SenderLaws.{senders_ext}
use Rattle.link_rules.specs.Codes.{pausing_bit, busy_bit}
use Rattle.link_rules.specs.LinePing.{right_after}
use Rattle.link_rules.specs.Pair.{equal, differ}
use Rattle.link_rules.specs.Pings.{line_after}
use Rattle.link_rules.specs.Receiver.{received}
use Rattle.link_rules.specs.Sender.{sent}
use Rattle.link_rules.specs.Senders.{line_count, sent_all}
use Rattle.link_rules.specs.Timer.{is_line, line_of, turned}
use Rattle.link_rules.specs.declared.Received.{Received}
use Rattle.link_rules.specs.declared.Receiver.{Receiver}
use Rattle.link_rules.specs.declared.Turn.{Turn}
use Rattle.rules.specs.Access.{verdict, accessed, acted, effects}
use Rattle.rules.specs.Answer.{first_of}
use Rattle.rules.specs.Samples.{positive, negative, alert_enabled, happened, receiver_after, receiver_timed, received_by, alert_broken, line_wrong, before, asks_for, timed, raised, heard, alert_event, occurs, marked, assigned, sampled}
use Rattle.rules.specs.State.{most, words, local_count, class_count, local, alert, class_at, receiver, receivers_by, sender, is_on, with_links}
use Rattle.rules.specs.Tick.{event, interrupt_now, signals, stepped, lines, driven, met_by, lines_timed, links_after, hears, after}
use Rattle.rules.specs.Valid.{valid}
use Rattle.rules.specs.declared.Effects.{Effects}
use Rattle.rules.specs.declared.Field.{Field}
use Rattle.rules.specs.declared.Handler.{Handler}
use Rattle.rules.specs.declared.Heard.{Heard}
use Rattle.rules.specs.declared.Links.{Links}
use Rattle.rules.specs.declared.Sample.{Sample}
use Rattle.rules.specs.declared.Wires.{Wires}
use Rattle.laws.proofs.Samples.Heard.{asked_at, heard_event_law, heard_raise}
use Rattle.laws.proofs.Samples.Off.{off_opens, off_open, off_fails, off_asks, off_turned}
use Rattle.laws.proofs.Tick.TimerOff.{off_lines}
use Rattle.laws.proofs.Valid.ValidLaws.{facts}
use Rattle.calm_rules.specs.Ticks.{calm_input}
use Rattle.laws.specs.OutputMasks.{lines_on}
use Rattle.calm_laws.specs.Four.{four_step}
use Rattle.calm_laws.specs.Settled.{calm_received, calm_receiver, calm_event, calm_occurs, calm_assigned, calm_class_event, calm_interrupt, calm_signals, calm_lines, calm_after}
use Rattle.calm_laws.specs.Steady.{steady}

-- an access of nothing clears, raises and begins nothing
abbrev none : Effects
none = record { clears = 0; raises = 0; begins = false }

-- ── numbers and words by their bits ──

pub bits_ext : (w : ℕ) (f g : ℕ → Bool) → ((k : ℕ) → k < w → f k ≡ g k) → bits_of w f ≡ bits_of w g
bits_ext w f g e = is_bits_of w (bits_of w f) g (bits_of_lt w f) (λ k l. bit_bits_of w f k l ∙ e k l)

word_ext : (f g : ℕ → Bool) → ((b : ℕ) → b < 64 → f b ≡ g b) → word_of 64 f ≡ word_of 64 g
word_ext f g e = is_word64 (word_of 64 f) g (word_of_lt 64 f) (λ i l. place_word64 f i l ∙ e i l)

words_ext : (f g : ℕ → Bool) → ((i : ℕ) → i < 256 → f i ≡ g i) → words_by words f ≡ words_by words g
words_ext f g e = each_ext words _ _ 0 (λ v l. word_ext (λ b. f (v * 64 + b)) (λ b. g (v * 64 + b)) (λ b m. e (v * 64 + b) (omega arith)))

-- receivers that agree alert by alert
pub receivers_ext : (f g : ℕ → Receiver) → ((i : ℕ) → i < 256 → f i ≡ g i) → receivers_by f ≡ receivers_by g
receivers_ext f g e =
    let a = words_ext (λ i. pausing_bit (f i).stands) (λ i. pausing_bit (g i).stands) (λ i l. ap (λ (r : Receiver). pausing_bit r.stands) (e i l)) in
    let b = words_ext (λ i. busy_bit (f i).stands) (λ i. busy_bit (g i).stands) (λ i l. ap (λ (r : Receiver). busy_bit r.stands) (e i l)) in
    let c = words_ext (λ i. (f i).level) (λ i. (g i).level) (λ i l. ap (λ (r : Receiver). r.level) (e i l)) in
    let d = words_ext (λ i. (f i).pending) (λ i. (g i).pending) (λ i l. ap (λ (r : Receiver). r.pending) (e i l)) in
    λ i. record { pausing = a i; busy = b i; level = c i; pending = d i }

-- a right answer on sound wires is not wrong
not_wrong : (b : Bool) → (equal b (not b) || differ b b) ≡ false
not_wrong true = refl
not_wrong false = refl

-- ── what step 2 hears, of the state g whose timer is off ──

module _ (g : Handler) (w : Wires) (v : valid g ≡ true) (off : is_on g ≡ false) where
  abbrev s : Sample
  s = (calm_input w g).sample

  abbrev ear : Heard
  ear = heard g s none

  abbrev t : Turn
  t = g.links.turn

  count : g.n ≤ most
  count = (facts g v).n

  idle : (timed g s none).runs ≡ false
  idle = ap (λ (b : Bool). b && true) off

  -- no ping is asked for
  no_asks : (i : ℕ) → i < 256 → place_in (asks_for g s none) i ≡ false
  no_asks i l = asked_at g s none i l ∙ off_asks (timed g s none) t idle i

  by_wires : (i : ℕ) → i < 256 → received_by g (asks_for g s none) w i ≡ calm_received g w i
  by_wires i l = ap (λ (b : Bool). received (record { asks = b; pos = positive w i; neg = negative w i }) (receiver g i)) (no_asks i l)

  event_is : (i : ℕ) → i < most → alert_event g ear i ≡ calm_event g w i
  unfolding alert_event happened
  event_is i l =
      ap (λ (b : Bool). ltb i g.n && (b && alert_enabled g i))
      (heard_event_law g s none i (omega arith) ∙ ap (λ (r : Received). ltb i g.n && r.event) (by_wires i (omega arith)))
      ∙ twice (ltb i g.n) (calm_received g w i).event (alert_enabled g i)
    where
      twice : (a b c : Bool) → (a && ((a && b) && c)) ≡ (a && (b && c))
      twice true b c = refl
      twice false b c = refl

  -- no receive pair is wrong
  pub line_right : (e : ℕ) → e < line_count → line_wrong g s e ≡ false
  unfolding line_wrong
  line_right e l =
      ap₂ (λ (p m : Bool). equal p m || differ p (sender g e).sound.answer)
      (bit_bits_of line_count (λ k. (sender g k).sound.answer) e l) (bit_bits_of line_count (λ k. not (sender g k).sound.answer) e l)
      ∙ not_wrong (sender g e).sound.answer

  raised_is : (j : ℕ) → raised g s none j ≡ (eqb j 2 && any_to (alert_broken g w) g.n)
  unfolding raised
  raised_is j =
      simp (off_fails (timed g s none) t idle, any_none (line_wrong g s) line_count line_right, bit_none j, and-false (eqb j 0), and-false (eqb j 1), and-false (eqb j 3), or-false)

  occurs_is : (j : ℕ) → j < local_count → occurs g ear j ≡ calm_occurs g w j
  unfolding occurs
  occurs_is j l = ap (λ (b : Bool). b && eqb (local g Field.En j) 1) (heard_raise g s none j l ∙ raised_is j)

  -- ── steps 2 to 4 ──

  pub assigned_is : (k : ℕ) → assigned g ear k ≡ calm_assigned g w k
  unfolding assigned
  assigned_is k =
      ap₂ ◌||◌
      (any_ext (λ i. alert_event g ear i && eqb (alert g Field.Class i) k) (λ i. calm_event g w i && eqb (alert g Field.Class i) k) g.n
      (λ i l. ap (λ (b : Bool). b && eqb (alert g Field.Class i) k) (event_is i (omega (arith, count)))))
      (any_ext (λ j. occurs g ear j && eqb (local g Field.Class j) k) (λ j. calm_occurs g w j && eqb (local g Field.Class j) k) local_count
      (λ j l. ap (λ (b : Bool). b && eqb (local g Field.Class j) k) (occurs_is j l)))

  class_event_is : (k : ℕ) → event g ear k ≡ calm_class_event g w k
  unfolding event
  class_event_is k = ap (λ (b : Bool). class_event b (class_at g k)) (assigned_is k)

  interrupt_is : (k : ℕ) → interrupt_now g ear k ≡ calm_interrupt g w k
  unfolding interrupt_now
  interrupt_is k = ap (λ (b : Bool). bit g.interrupts.state k || b) (class_event_is k)

  signals_is : (k : ℕ) → signals g ear none k ≡ calm_signals g w k
  unfolding signals calm_signals
  signals_is k =
      let a = class_event_is k in
      let b = interrupt_is k in
      let c = bit_none k in
      λ i. record { event = a i; interrupt = b i; clear = c i }

  classes_are : each class_count (λ k. class_step (signals g ear none k) (class_at g k)) ≡ four_step (calm_signals g w) g.classes
  unfolding four_step
  classes_are = each_ext 4 _ _ no_class (λ k l. ap (λ (x : Signals). class_step x (class_at g k)) (signals_is k))

  state_is : bits_of 4 (interrupt_now g ear) ≡ bits_of 4 (calm_interrupt g w)
  state_is = bits_ext 4 (interrupt_now g ear) (calm_interrupt g w) (λ k l. interrupt_is k)

  alert_causes : each most (λ i. marked (alert_event g ear i) (alert g Field.Cause i)) ≡ each most (λ i. marked (calm_event g w i) (alert g Field.Cause i))
  alert_causes = each_ext most _ _ 0 (λ i l. ap (λ (b : Bool). marked b (alert g Field.Cause i)) (event_is i l))

  local_causes : each local_count (λ j. marked (occurs g ear j) (local g Field.Cause j)) ≡ each local_count (λ j. marked (calm_occurs g w j) (local g Field.Cause j))
  local_causes = each_ext local_count _ _ 0 (λ j l. ap (λ (b : Bool). marked b (local g Field.Cause j)) (occurs_is j l))

  -- the state with these parts after steps 2 to 4
  abbrev made : List Class → ℕ → List ℕ → List ℕ → Links → Handler
  made cs x a l z =
      record {
        n = g.n;
        links = z;
        classes = cs;
        alerts = record { regwen = g.alerts.regwen; en = g.alerts.en; class = g.alerts.class; cause = a };
        locals = record { regwen = g.locals.regwen; en = g.locals.en; class = g.locals.class; cause = l };
        interrupts = record { state = x; enable = g.interrupts.enable };
        timer = g.timer;
        stages = g.stages;
      }

  stepped_is : stepped g ear none
      ≡ made (four_step (calm_signals g w) g.classes) (bits_of 4 (calm_interrupt g w))
      (each most (λ i. marked (calm_event g w i) (alert g Field.Cause i))) (each local_count (λ j. marked (calm_occurs g w j) (local g Field.Cause j))) g.links
  unfolding stepped sampled
  stepped_is = λ i. made (classes_are i) (state_is i) (alert_causes i) (local_causes i) g.links

  lit : ℕ
  lit = lines (stepped g ear none)

  lines_are : lit ≡ lines_on (four_step (calm_signals g w) g.classes)
  unfolding lit lines lines_on
  lines_are = ap lines stepped_is

  -- ── the links ──

  receiver_is : (i : ℕ) → i < 256 → receiver_timed g s none i ≡ calm_receiver g w i
  unfolding receiver_timed receiver_after
  receiver_is i l =
      ap₂ (λ (r : Received) (f : Bool). closed (cond (ltb i g.n) r.receiver (receiver g i)) (ltb i g.n && ((f && not (is_line t)) && eqb i t.alert)))
      (by_wires i l) (off_fails (timed g s none) t idle)
      ∙ ap (closed (calm_receiver g w i)) (and-false (ltb i g.n))
      ∙ same_receiver _ (calm_receiver g w i) refl refl (kept (calm_receiver g w i).pending)
    where
      closed : Receiver → Bool → Receiver
      closed r f = record { stands = r.stands; level = r.level; pending = r.pending && not f }

      kept : (b : Bool) → (b && true) ≡ b
      kept true = refl
      kept false = refl

  receivers_are : ear.receivers ≡ receivers_by (calm_receiver g w)
  unfolding heard
  receivers_are = receivers_ext (receiver_timed g s none) (calm_receiver g w) receiver_is

  turn_is : turned (met_by g ear lit) t ≡ t
  unfolding heard
  turn_is = off_turned (met_by g ear lit) t idle

  -- no line's ping opens
  driven_is : (e : ℕ) → driven g ear lit e ≡ steady lit e
  unfolding driven heard
  driven_is e =
      ap (λ (b : Bool). record { line = bit lit e; ping = b && (is_line t && eqb e (line_of t)) }) (off_opens (timed g s none) t idle)

  senders_are : sent_all g.links.senders (driven g ear lit) ≡ sent_all g.links.senders (steady (lines_on (four_step (calm_signals g w) g.classes)))
  senders_are =
      senders_ext _ _ (λ e l. ap (sent (sender g e)) (driven_is e))
      ∙ ap (λ (x : ℕ). sent_all g.links.senders (steady x)) lines_are

  right_is : num ear.right ≡ 0
  unfolding heard right_after
  right_is = ap (λ (b : Bool). num b) (none_right (is_line t) _ _ (off_open (before g s none) t idle))
    where
      none_right : (a b c : Bool) → b ≡ false → (true && (a && (b && c))) ≡ false
      none_right true b c e = ap (λ (x : Bool). x && c) e
      none_right false b c e = refl

  -- the lines' pings, of which none is open
  pings_bound : lines_timed g ear lit < 2 ^ 32
  unfolding lines_timed
  pings_bound = bits_of_lt 32 (λ l. cond (ltb l line_count) (line_after (met_by g ear lit) t (bit g.links.lines l) l) (bit g.links.lines l))

  pings_at : (e : ℕ) → e < 32 → bit (lines_timed g ear lit) e ≡ bit g.links.lines e
  unfolding after hears acted effects accessed verdict first_of bits_of links_after lit
  pings_at e l = off_lines g (calm_input w g) v off e l

  pings_are : lines_timed g ear lit ≡ calm_lines g
  pings_are = is_bits_of 32 (lines_timed g ear lit) (bit g.links.lines) pings_bound pings_at

  links_are : links_after g ear lit
      ≡ record {
        receivers = receivers_by (calm_receiver g w);
        turn = t;
        lines = calm_lines g;
        senders = sent_all g.links.senders (steady (lines_on (four_step (calm_signals g w) g.classes)));
        right = 0;
      }
  unfolding links_after
  links_are = λ i. record { receivers = receivers_are i; turn = turn_is i; lines = pings_are i; senders = senders_are i; right = right_is i }

  -- ── the tick ──

  in_parts : after g (calm_input w g) ≡ with_links (links_after g ear lit) (stepped g ear none)
  unfolding after hears acted effects accessed verdict first_of bits_of lit
  in_parts = refl

  pub calm_after_law : after g (calm_input w g) ≡ calm_after g w
  unfolding calm_after
  calm_after_law = in_parts ∙ ap₂ with_links links_are stepped_is
