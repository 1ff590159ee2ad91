-- Requests (ix) and (xi), what the timer makes of the receivers and the lines in step 2, of the parts of the state that it reads: n alerts, the links k, the timer's registers c,
-- whether its enable becomes 1, whether the drawn alert can be pinged, and the sample s.
-- Assumes nothing.
use Rattle.std.specs.Prelude.{ℕ, ◌+◌, ◌*◌, ◌≡◌, Bool, false, cond, not, ◌&&◌, List, eqb, ltb}
use Rattle.bits.specs.Bits.{bit, word_of}
use Rattle.bits.specs.Index.{any_to, place_in, words_by}
use Rattle.link_rules.specs.LinePing.{answered_by_wires, right_after}
use Rattle.link_rules.specs.Pings.{pending, asks}
use Rattle.link_rules.specs.Sender.{wrong}
use Rattle.link_rules.specs.Senders.{line_count, sender_in}
use Rattle.link_rules.specs.Timer.{is_line, line_of, open_now, fails_alert, fails_line}
use Rattle.link_rules.specs.declared.Meets.{Meets}
use Rattle.link_rules.specs.declared.Receiver.{Receiver}
use Rattle.link_rules.specs.declared.Turn.{Turn}
use Rattle.rules.specs.Samples.{checks, receive_positive, receive_negative, says_answered}
use Rattle.rules.specs.State.{words, receiver_in, receivers_by}
use Rattle.rules.specs.declared.Links.{Links}
use Rattle.rules.specs.declared.Receivers.{Receivers}
use Rattle.rules.specs.declared.Receive.{Receive}
use Rattle.rules.specs.declared.Sample.{Sample}
use Rattle.rules.specs.declared.Timer.{Timer}
use Rattle.samples.specs.Received.{receiver_at, happens_at, answers_at, equal_at}
use Rattle.samples.specs.declared.pace.Begun.{Begun}
use Rattle.samples.specs.declared.pace.Paced.{Paced}

-- word v of the one alert i whose ping is asked for: the turn's ping opens, and it is no line's
abbrev pub ask_word : Bool → Bool → ℕ → ℕ → ℕ
ask_word opens line i v = word_of 64 (λ b. opens && (not line && eqb (v * 64 + b) i))

-- word v of the open pings of n alerts without that of alert i, if it fails; and the receivers so
abbrev pub closed_word : ℕ → List ℕ → Bool → ℕ → ℕ → ℕ
closed_word n pend fails i v = word_of 64 (λ b. place_in pend (v * 64 + b) && not (ltb (v * 64 + b) n && (fails && eqb (v * 64 + b) i)))

abbrev pub closed_by : ℕ → Receivers → Bool → ℕ → Receivers
closed_by n r fails i =
    record {
      pausing = r.pausing;
      busy = r.busy;
      level = r.level;
      pending = words_by words (λ j. place_in r.pending j && not (ltb j n && (fails && eqb j i)));
    }

-- what the timer meets, before step 5
abbrev pub met_by : Timer → Bool → Bool → Bool → ℕ → Bool → Meets
met_by c begins pingable pend word answered =
    record {
      runs = eqb c.enable 1 && not begins;
      begins = begins;
      timeout = c.timeout;
      word = word;
      pingable = pingable;
      pending = pend;
      answered = answered;
      closed = false;
    }

-- the ping of the turn's line is answered, its receive pair being wrong or not
abbrev pub line_answer : Meets → Turn → Bool → Bool → Receive → Bool
line_answer m t right is_wrong back = cond (checks back) (answered_by_wires m t right is_wrong) (open_now m t && says_answered back (line_of t))

-- ── before the wires ──

module _ (n : ℕ) (k : Links) (c : Timer) (begins pingable : Bool) (word : ℕ) where
  abbrev pub early_by : Bool → Meets
  early_by answer = met_by c begins pingable (pending n k.turn (λ i. (receiver_in k.receivers i).pending) (bit k.lines)) word answer

  abbrev pub asked_by : List ℕ
  asked_by = words_by words (asks (early_by false) k.turn)

  pub record BegunBy (r : Begun) : Type 0 where
    pub meets : r.meets ≡ early_by false
    pub asks : r.asks ≡ asked_by

-- ── step 2 ──

module _ (n : ℕ) (k : Links) (c : Timer) (begins pingable : Bool) (s : Sample) where
  abbrev pub meets_by : Bool → Meets
  meets_by answer = early_by n k c begins pingable s.word answer

  abbrev pub asks_by : List ℕ
  asks_by = asked_by n k c begins pingable s.word

  abbrev pub wrong_by : ℕ → Bool
  wrong_by e = checks s.receive && wrong (sender_in k.senders e) (receive_positive s.receive e) (receive_negative s.receive e)

  abbrev pub was_right_by : Bool
  was_right_by = bit k.right 0

  abbrev pub answered_by : Bool
  answered_by =
      cond (is_line k.turn) (line_answer (meets_by false) k.turn was_right_by (wrong_by (line_of k.turn)) s.receive)
      (answers_at n k.receivers asks_by s.alerts k.turn.alert)

  abbrev pub timed_by : Meets
  timed_by = meets_by answered_by

  abbrev pub receiver_by : ℕ → Receiver
  receiver_by i =
      let r = receiver_at n k.receivers asks_by s.alerts i in
      record {
        stands = r.stands;
        level = r.level;
        pending = r.pending && not (ltb i n && (fails_alert timed_by k.turn && eqb i k.turn.alert));
      }

  abbrev pub right_by : Bool
  right_by = right_after (checks s.receive) (meets_by false) k.turn was_right_by (wrong_by (line_of k.turn))

  pub record PacedBy (r : Paced) : Type 0 where
    pub receivers : r.met.receivers ≡ receivers_by receiver_by
    pub meets : r.met.meets ≡ timed_by
    pub checked : r.met.checked ≡ checks s.receive
    pub right : r.met.right ≡ right_by
    pub happened : r.events ≡ words_by words (happens_at n k.receivers asks_by s.alerts)
    pub answered : r.answers ≡ words_by words (answers_at n k.receivers asks_by s.alerts)
    pub equals : r.equal ≡ words_by words (equal_at n k.receivers asks_by s.alerts)
    pub any_wrong : r.wrong ≡ any_to wrong_by line_count
    pub alert_fails : r.fails_alert ≡ fails_alert timed_by k.turn
    pub line_fails_law : r.fails_line ≡ fails_line timed_by k.turn
