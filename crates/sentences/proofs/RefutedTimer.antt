-- Wrong ping timers of request (ix) that the sentences refuse, as theorems, as in RefutedReceivers.antt.
-- Assumes nothing.
use Prim.Native.Nat.{ℕ, ◌+◌, ◌-◌, ◌*◌, ◌/◌, ◌%◌, ◌^◌}
use mathlib.Core.Path.{◌≡◌, refl, sym, ap, ◌∙◌}
use mathlib.Core.Bool.{Bool, true, false, false≢true, cond, not, ◌&&◌}
use lib.Dec.{eqb, leb, ltb}
use lib.ListN.{replicate}
use Rattle.bits.specs.Bits.{bit}
use Rattle.link_rules.specs.Timer.{is_line, line_of, drawn, is_due, opens, open_now, age, next_turn, goes_on, turned}
use Rattle.link_rules.specs.declared.Meets.{Meets}
use Rattle.link_rules.specs.declared.Receiver.{Receiver}
use Rattle.link_rules.specs.declared.Turn.{Turn}
use Rattle.rules.specs.Samples.{at_rest, timed, heard}
use Rattle.rules.specs.State.{receiver, with_timer}
use Rattle.rules.specs.Tick.{met_by}
use Rattle.rules.specs.declared.Effects.{Effects}
use Rattle.rules.specs.declared.Handler.{Handler}
use Rattle.rules.specs.declared.Receive.{Receive}
use Rattle.rules.specs.declared.Receive.TheVariants.{Pairs, Answers}
use Rattle.rules.specs.declared.Sample.{Sample}
use Rattle.rules.proofs.Scenes.{rules, settings, zeros, station}
use Rattle.sentences.specs.Links.{LinkStep}
use Rattle.sentences.specs.Raw.{level}
use Rattle.sentences.specs.Valid.{Valid}
use Rattle.sentences.proofs.HoldsLinks.{holds_links}
use Rattle.sentences.proofs.HoldsSenders.{linked}
use Rattle.sentences.proofs.HoldsValid.{holds_valid}
use Rattle.sentences.proofs.LinkParts.{with_receivers, with_turn, with_lines}
use Rattle.sentences.proofs.OnlyLinks.{only_links}

-- ── a handler of one alert, which is not locked; its timer is on, with this timeout, turn and open lines ──

abbrev pub ticking : ℕ → Turn → ℕ → Handler
ticking timeout t lines =
    with_timer (record { timeout = timeout; regwen = 1; enable = 1 })
    (with_lines lines (with_turn t (station 1 (replicate 248 1) (replicate 248 0) 0 (settings 5 0 0 zeros))))

abbrev pub hands_on : Bool → Effects
hands_on b = record { clears = 0; raises = 0; begins = b }

-- wires at rest, and a word
abbrev drawing : ℕ → Sample
drawing word = record { alerts = at_rest.alerts; word = word; receive = at_rest.receive }

-- a timer whose turn after the tick is by its own rule
abbrev turned_by : (Meets → Turn → Turn) → Handler → Sample → Effects → ℕ → Handler → Handler
turned_by r g s f lit m = with_turn (r (met_by g (heard g s f) lit) g.links.turn) (linked g s f lit m)

-- if it makes another of some turn than the rules do, in a tick without a line
other_turn : (r : Meets → Turn → Turn) (g : Handler) (s : Sample) (b : Bool) (f : Turn → Bool) → Valid g
    → f (turned_by r g s (hands_on b) 0 g).links.turn ≡ false → f (linked g s (hands_on b) 0 g).links.turn ≡ true → ¬ LinkStep (turned_by r)
other_turn r g s b f v p q w =
    let e = only_links (turned_by r) linked w holds_links g s (hands_on b) 0 g v in
    false≢true (sym p ∙ ap (λ (h : Handler). f h.links.turn) e ∙ q)

-- alert 0's turn, due in this tick; line 0's, with its ping open for c ticks
abbrev due : Turn
due = record { number = 0; alert = 0; count = 0 }

abbrev pub line_open : ℕ → Turn
line_open c = record { number = 1; alert = 0; count = c }

-- line 1's, its ping just open; a sample with these answers
abbrev line_one : Turn
line_one = record { number = 3; alert = 0; count = 0 }

abbrev answering : ℕ → Sample
answering a = record { alerts = at_rest.alerts; word = 0; receive = Answers a }

-- an alert that is not locked does not end the turn
abbrev waits : Meets → Turn → Turn
waits m t = cond (is_due m t && not (opens m t)) t (turned m t)

pub no_wait_for_a_lock : ¬ LinkStep (turned_by waits)
unfolding rules
no_wait_for_a_lock = other_turn waits (ticking 0 due 0) (drawing 0) false is_line ((holds_valid (ticking 0 due 0)).0 refl) refl refl

-- a ping that fails a tick before its timeout, a tick after it, and one that fails at timeout 0
abbrev failing_if : (Meets → Turn → Bool) → Meets → Turn → Turn
failing_if late m t = cond (open_now m t && (not m.answered && late m t)) (next_turn t m.word) (goes_on m t)

abbrev early : Meets → Turn → Turn
early = failing_if (λ m t. ltb 0 m.timeout && leb m.timeout (age m t + 1))

pub no_early_failure : ¬ LinkStep (turned_by early)
unfolding rules
no_early_failure = other_turn early (ticking 3 (line_open 1) 1) (drawing 0) false is_line ((holds_valid (ticking 3 (line_open 1) 1)).0 refl) refl refl

abbrev tardy : Meets → Turn → Turn
tardy = failing_if (λ m t. ltb 0 m.timeout && ltb m.timeout (age m t))

pub no_late_failure : ¬ LinkStep (turned_by tardy)
unfolding rules
no_late_failure = other_turn tardy (ticking 3 (line_open 2) 1) (drawing 0) false (λ t. not (is_line t)) ((holds_valid (ticking 3 (line_open 2) 1)).0 refl) refl refl

abbrev impatient : Meets → Turn → Turn
impatient = failing_if (λ m t. leb m.timeout (age m t))

pub no_failure_at_timeout_0 : ¬ LinkStep (turned_by impatient)
unfolding rules
no_failure_at_timeout_0 = other_turn impatient (ticking 0 (line_open 2) 1) (drawing 0) false is_line ((holds_valid (ticking 0 (line_open 2) 1)).0 refl) refl refl

-- the first turn is a line's
abbrev line_first : Meets → Turn → Turn
line_first m t = cond m.begins (drawn 1 m.word) (turned m t)

pub no_line_first : ¬ LinkStep (turned_by line_first)
unfolding rules
no_line_first = other_turn line_first (ticking 0 due 0) (drawing 0) true (λ t. not (is_line t)) ((holds_valid (ticking 0 due 0)).0 refl) refl refl

-- the word's low 16 bits are the ticks to the ping, with none added: it is due a tick early
abbrev soon : Meets → Turn → Turn
soon m t = let d = turned m t in cond m.begins (record { number = d.number; alert = d.alert; count = d.count - 1 }) d

pub no_early_ping : ¬ LinkStep (turned_by soon)
unfolding rules
no_early_ping = other_turn soon (ticking 0 due 0) (drawing 7) true (λ t. eqb t.count 7) ((holds_valid (ticking 0 due 0)).0 refl) refl refl

-- the first turn keeps the number of the turn that stood
abbrev stale : Meets → Turn → Turn
stale m t = cond m.begins (drawn t.number m.word) (turned m t)

abbrev sixth : Turn
sixth = record { number = 6; alert = 0; count = 0 }

pub no_stale_first : ¬ LinkStep (turned_by stale)
unfolding rules
no_stale_first = other_turn stale (ticking 0 sixth 0) (drawing 0) true (λ t. eqb t.number 0) ((holds_valid (ticking 0 sixth 0)).0 refl) refl refl

-- the alert is drawn by other bits of the word: its top 8, or 7 of the next 8
abbrev drawn_by : (ℕ → ℕ) → Meets → Turn → Turn
drawn_by a m t = let d = turned m t in cond m.begins (record { number = d.number; alert = a m.word; count = d.count }) d

pub no_alert_of_top_bits : ¬ LinkStep (turned_by (drawn_by (λ u. u / 2 ^ 24 % 256)))
unfolding rules
no_alert_of_top_bits =
    other_turn (drawn_by (λ u. u / 2 ^ 24 % 256)) (ticking 0 due 0) (drawing (2 ^ 16)) true (λ t. eqb t.alert 1) ((holds_valid (ticking 0 due 0)).0 refl) refl refl

pub no_alert_of_seven_bits : ¬ LinkStep (turned_by (drawn_by (λ u. u / 2 ^ 16 % 128)))
unfolding rules
no_alert_of_seven_bits =
    other_turn (drawn_by (λ u. u / 2 ^ 16 % 128)) (ticking 0 due 0) (drawing (255 * 2 ^ 16)) true (λ t. eqb t.alert 255)
    ((holds_valid (ticking 0 due 0)).0 refl) refl refl

-- ── a line's answer that is read elsewhere: as if an older record had all answers or none ──

abbrev answers_in : Receive → ℕ
answers_in (Pairs p m) = 0
answers_in (Answers a) = a

abbrev answered_by : (ℕ → ℕ → Bool) → Handler → Sample → Effects → ℕ → Handler → Handler
answered_by a g s f lit m =
    let x : ℕ = cond (a (answers_in s.receive) (line_of g.links.turn)) 15 0 in
    linked g (record { alerts = s.alerts; word = s.word; receive = Answers x }) f lit m

-- line 1's ping is open, and these are answered
abbrev line_one_open : Handler
line_one_open = ticking 9 line_one 2

other_answer : (a : ℕ → ℕ → Bool) (answers : ℕ) (f : Turn → Bool)
    → f (answered_by a line_one_open (answering answers) (hands_on false) 0 line_one_open).links.turn ≡ false
    → f (linked line_one_open (answering answers) (hands_on false) 0 line_one_open).links.turn ≡ true → ¬ LinkStep (answered_by a)
unfolding rules
other_answer a answers f p q w =
    let e = only_links (answered_by a) linked w holds_links line_one_open (answering answers) (hands_on false) 0 line_one_open ((holds_valid line_one_open).0 refl) in
    false≢true (sym p ∙ ap (λ (h : Handler). f h.links.turn) e ∙ q)

-- line 0 is the highest bit
pub no_line_0_highest : ¬ LinkStep (answered_by (λ x e. bit x (3 - e)))
unfolding rules
no_line_0_highest = other_answer (λ x e. bit x (3 - e)) 2 (λ t. not (is_line t)) refl refl

-- any line's answer counts
pub no_answer_of_another : ¬ LinkStep (answered_by (λ x e. not (eqb x 0)))
unfolding rules
no_answer_of_another = other_answer (λ x e. not (eqb x 0)) 4 is_line refl refl

-- ── pings that open where none may: the level of an alert whose ping is due changes where a says so ──

abbrev levelled_by : (Handler → ℕ → Bool) → Handler → Sample → Effects → ℕ → Handler → Handler
levelled_by a g s f lit m =
    let h = linked g s f lit m in
    let now = is_due (timed g s f) g.links.turn in
    let levelled : ℕ → Receiver = λ i. record {
      stands = (receiver h i).stands;
      level = cond (now && (eqb i g.links.turn.alert && a g i)) (not (receiver g i).level) (receiver h i).level;
      pending = (receiver h i).pending;
    } in
    with_receivers levelled h

other_level : (a : Handler → ℕ → Bool) (g : Handler) (i : ℕ) → Valid g → level (levelled_by a g (drawing 0) (hands_on false) 0 g) i ≡ true
    → level (linked g (drawing 0) (hands_on false) 0 g) i ≡ false → ¬ LinkStep (levelled_by a)
other_level a g i v p q w =
    let e = only_links (levelled_by a) linked w holds_links g (drawing 0) (hands_on false) 0 g v in
    false≢true (sym q ∙ ap (λ (h : Handler). level h i) (sym e) ∙ p)

-- an alert that is enabled and not locked is pinged
pub no_ping_unlocked : ¬ LinkStep (levelled_by (λ g i. ltb i g.n))
unfolding rules
no_ping_unlocked = other_level (λ g i. ltb i g.n) (ticking 0 due 0) 0 ((holds_valid (ticking 0 due 0)).0 refl) refl refl

-- one at N is: N is 1
abbrev due_above : Turn
due_above = record { number = 0; alert = 1; count = 0 }

pub no_ping_above : ¬ LinkStep (levelled_by (λ g i. leb g.n i))
unfolding rules
no_ping_above = other_level (λ g i. leb g.n i) (ticking 0 due_above 0) 1 ((holds_valid (ticking 0 due_above 0)).0 refl) refl refl
