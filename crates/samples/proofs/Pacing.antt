-- What `pace` makes of the facts of its calls.
-- Assumes nothing.
use Prim.Native.Nat.{ℕ, ◌+◌, ◌*◌, ◌<◌}
use mathlib.Core.Path.{◌≡◌, ap, ap₂, subst, ◌∙◌}
use mathlib.Core.Bool.{Bool, false, cond, not, ◌&&◌, ◌||◌}
use mathlib.Core.List.{List}
use native.Mathlib.Omega.{arith}
use lib.Dec.{eqb}
use Rattle.bits.specs.Bits.{bit, bits_of, num}
use Rattle.bits.specs.Index.{any_to, place_in, words_by}
use Rattle.bits.proofs.BitLaws.{bit_bits_of}
use Rattle.bits.proofs.TruthTables.{by4}
use Rattle.bits.proofs.WordLaws.{place_in_each}
use Rattle.link_rules.specs.Pings.{pending}
use Rattle.link_rules.specs.LinePing.{right_after}
use Rattle.link_rules.specs.Senders.{line_count}
use Rattle.link_rules.specs.Timer.{is_line, line_of, opens, fails, fails_alert}
use Rattle.link_rules.specs.declared.Meets.{Meets}
use Rattle.link_rules.specs.declared.Turn.{Turn}
use Rattle.rules.specs.State.{words, receiver_in, receivers_by}
use Rattle.rules.specs.declared.Links.{Links}
use Rattle.rules.specs.Samples.{checks}
use Rattle.rules.specs.declared.Receivers.{Receivers}
use Rattle.rules.specs.declared.Sample.{Sample}
use Rattle.rules.specs.declared.Timer.{Timer}
use Rattle.samples.specs.Paced.{closed_by, met_by, line_answer, early_by, BegunBy, meets_by, asks_by, wrong_by, was_right_by, answered_by, timed_by, receiver_by, PacedBy}
use Rattle.samples.specs.Received.{receiver_at, answers_at, ReceivedAll}
use Rattle.samples.specs.declared.pace.Begun.{Begun}
use Rattle.samples.specs.declared.receive.Received.{Received}
use Rattle.samples.proofs.ClosedPings.{closed_receivers}

-- ── before the wires ──

module _ (n : ℕ) (k : Links) (c : Timer) (begins pingable : Bool) (word : ℕ) where
  pub begun_by : (pend : Bool) (m : Meets) (opening line : Bool) (asked : List ℕ)
      → pend ≡ pending n k.turn (λ i. (receiver_in k.receivers i).pending) (bit k.lines)
      → m ≡ met_by c begins pingable pend word false → opening ≡ opens m k.turn → line ≡ is_line k.turn
      → asked ≡ words_by words (λ j. opening && (not line && eqb j k.turn.alert))
      → BegunBy n k c begins pingable word (record { meets = m; asks = asked })
  begun_by pend m opening line asked p e o l a =
      let early : m ≡ early_by n k c begins pingable word false = e ∙ ap (λ (b : Bool). met_by c begins pingable b word false) p in
      let opened : opening ≡ opens (early_by n k c begins pingable word false) k.turn = o ∙ ap (λ (x : Meets). opens x k.turn) early in
      record {
        meets = early;
        asks = a ∙ ap₂ (λ (b d : Bool). words_by words (λ j. b && (not d && eqb j k.turn.alert))) opened l;
      }

-- ── step 2 ──

-- a mask of lines is not 0 exactly if some line is in it
pub mask_any : (f : ℕ → Bool) → not (eqb (bits_of line_count f) 0) ≡ any_to f line_count
unfolding bits_of any_to
mask_any f =
    by4 (λ a b c d. not (eqb (num a + 2 * (num b + 2 * (num c + 2 * (num d + 2 * 0)))) 0)) (λ a b c d. ((false || a) || b) || (c || d)) tt (f 0) (f 1) (f 2) (f 3)
    ∙ by4 (λ a b c d. ((false || a) || b) || (c || d)) (λ a b c d. (((false || a) || b) || c) || d) tt (f 0) (f 1) (f 2) (f 3)

module _ (n : ℕ) (k : Links) (c : Timer) (begins pingable : Bool) (s : Sample) where
  abbrev t : Turn
  t = k.turn

  -- what the calls of `pace` ensure
  pub record Calls (begun : Begun) (r : Received) (right : Bool) (wrongs : ℕ) (told answered : Bool) (late : Meets) (failing line checked : Bool)
      (e : ℕ) (off : Bool) (receivers : Receivers) (stays : Bool) : Type 0 where
    pub is_begun : BegunBy n k c begins pingable s.word begun
    pub received : ReceivedAll n k.receivers begun.asks s.alerts r
    pub is_right : right ≡ was_right_by n k c begins pingable s
    pub are_wrong : wrongs ≡ bits_of line_count (wrong_by n k c begins pingable s)
    pub is_told : told ≡ line_answer begun.meets t right (bit wrongs (line_of t)) s.receive
    pub is_answered : answered ≡ cond (is_line t) told (place_in r.answers t.alert)
    pub small : t.alert < 256
    pub meets : late ≡ record begun.meets { answered = answered }
    pub is_failing : failing ≡ fails late t
    pub is_line_law : line ≡ is_line t
    pub is_checked : checked ≡ checks s.receive
    pub is_number : e ≡ line_of t
    pub is_off : off ≡ bit wrongs e
    pub closes : receivers ≡ closed_by n r.receivers (failing && not line) t.alert
    pub is_stay : stays ≡ right_after checked begun.meets t right off

  module _ (begun : Begun) (r : Received) (right : Bool) (wrongs : ℕ) (told answered : Bool) (late : Meets) (failing line checked : Bool)
      (e : ℕ) (off : Bool) (receivers : Receivers) (stays : Bool)
      (x : Calls begun r right wrongs told answered late failing line checked e off receivers stays) where
    received_is : ReceivedAll n k.receivers (asks_by n k c begins pingable s) s.alerts r
    received_is = subst (λ (xs : List ℕ). ReceivedAll n k.receivers xs s.alerts r) x.is_begun.asks x.received

    -- the turn's line is one of the four
    wrong_is : bit wrongs (line_of t) ≡ wrong_by n k c begins pingable s (line_of t)
    wrong_is =
        ap (λ (w : ℕ). bit w (line_of t)) x.are_wrong ∙ bit_bits_of line_count (wrong_by n k c begins pingable s) (line_of t) (omega arith)

    told_is : told ≡ line_answer (meets_by n k c begins pingable s false) t (was_right_by n k c begins pingable s) (wrong_by n k c begins pingable s (line_of t)) s.receive
    told_is = x.is_told ∙ (λ u. line_answer (x.is_begun.meets u) t (x.is_right u) (wrong_is u) s.receive)

    answer_is : place_in r.answers t.alert ≡ answers_at n k.receivers (asks_by n k c begins pingable s) s.alerts t.alert
    answer_is =
        ap (λ (xs : List ℕ). place_in xs t.alert) received_is.answered
        ∙ place_in_each words (answers_at n k.receivers (asks_by n k c begins pingable s) s.alerts) t.alert x.small

    answered_is : answered ≡ answered_by n k c begins pingable s
    answered_is = x.is_answered ∙ ap₂ (λ (o a : Bool). cond (is_line t) o a) told_is answer_is

    late_is : late ≡ timed_by n k c begins pingable s
    late_is = x.meets ∙ (λ u. record (x.is_begun.meets u) { answered = answered_is u })

    failing_is : failing ≡ fails (timed_by n k c begins pingable s) t
    failing_is = x.is_failing ∙ ap (λ (m : Meets). fails m t) late_is

    alert_fails : (failing && not line) ≡ fails_alert (timed_by n k c begins pingable s) t
    alert_fails = ap₂ (λ (f l : Bool). f && not l) failing_is x.is_line_law

    receivers_are : receivers ≡ receivers_by (receiver_by n k c begins pingable s)
    receivers_are =
        x.closes
        ∙ (λ u. closed_by n (received_is.receivers u) (alert_fails u) t.alert)
        ∙ closed_receivers n (fails_alert (timed_by n k c begins pingable s) t) t.alert (receiver_at n k.receivers (asks_by n k c begins pingable s) s.alerts)

    off_is : off ≡ wrong_by n k c begins pingable s (line_of t)
    off_is = x.is_off ∙ ap (bit wrongs) x.is_number ∙ wrong_is

    pub paced_by : PacedBy n k c begins pingable s
        (record {
          met = record { receivers = receivers; meets = late; checked = checked; right = stays };
          events = r.events;
          answers = r.answers;
          equal = r.equal;
          wrong = not (eqb wrongs 0);
          fails_alert = failing && not line;
          fails_line = failing && line;
        })
    paced_by =
        record {
          receivers = receivers_are;
          meets = late_is;
          checked = x.is_checked;
          right = x.is_stay ∙ (λ u. right_after (x.is_checked u) (x.is_begun.meets u) t (x.is_right u) (off_is u));
          happened = received_is.happened;
          answered = received_is.answered;
          equals = received_is.equals;
          any_wrong = ap (λ (w : ℕ). not (eqb w 0)) x.are_wrong ∙ mask_any (wrong_by n k c begins pingable s);
          alert_fails = alert_fails;
          line_fails_law = ap₂ (λ (f l : Bool). f && l) failing_is x.is_line_law;
        }
