-- Wrong rules of request (xi) for what comes back and for a line's ping that the sentences refuse, as theorems, as in RefutedReceivers.antt.
-- Assumes nothing.
use Prim.Native.Nat.{ℕ}
use mathlib.Core.Path.{◌≡◌, refl, sym, ap, ◌∙◌}
use mathlib.Core.Logic.{inl}
use mathlib.Core.Bool.{Bool, true, false, false≢true, cond, not, ◌&&◌, ◌||◌}
use lib.Dec.{eqb}
use lib.ListN.{replicate}
use Rattle.bits.specs.Bits.{bit, bits_of}
use Rattle.bits.specs.Index.{any_to}
use Rattle.link_rules.specs.LinePing.{closing}
use Rattle.link_rules.specs.Pair.{equal, differ}
use Rattle.link_rules.specs.Sender.{new_sender, wrong}
use Rattle.link_rules.specs.Timer.{is_line, line_of, open_now, age, turned}
use Rattle.link_rules.specs.declared.Meets.{Meets}
use Rattle.link_rules.specs.declared.Response.TheVariants.{Quiet, Escalating}
use Rattle.link_rules.specs.declared.Sender.{Sender}
use Rattle.link_rules.specs.declared.Turn.{Turn}
use Rattle.rules.specs.Samples.{at_rest, checks, receive_positive, receive_negative, line_wrong, before, was_right, timed, heard, sampled}
use Rattle.rules.specs.State.{local, sender, with_locals}
use Rattle.rules.specs.Tick.{closed_now}
use Rattle.rules.specs.declared.Effects.{Effects}
use Rattle.rules.specs.declared.Field.{Field}
use Rattle.rules.specs.declared.Handler.{Handler}
use Rattle.rules.specs.declared.Heard.{Heard}
use Rattle.rules.specs.declared.Receive.{Receive}
use Rattle.rules.specs.declared.Receive.TheVariants.{Pairs, Answers}
use Rattle.rules.specs.declared.Sample.{Sample}
use Rattle.rules.proofs.Scenes.{rules}
use Rattle.sentences.specs.Links.{LinkStep}
use Rattle.sentences.specs.Samples.{SampleStep}
use Rattle.sentences.specs.Valid.{Valid}
use Rattle.sentences.proofs.HoldsLinks.{holds_links}
use Rattle.sentences.proofs.HoldsSamples.{after2, holds_samples}
use Rattle.sentences.proofs.HoldsSenders.{linked}
use Rattle.sentences.proofs.HoldsValid.{holds_valid}
use Rattle.sentences.proofs.LinkParts.{with_turn, with_senders, with_right}
use Rattle.sentences.proofs.OnlyLinks.{only_links}
use Rattle.sentences.proofs.OnlySamples.{only_samples}
use Rattle.sentences.proofs.RefutedSenders.{line_due, was}
use Rattle.sentences.proofs.RefutedTimer.{ticking, hands_on, line_open}

-- wires at rest, and what comes back from the lines
abbrev back : Receive → Sample
back r = record { alerts = at_rest.alerts; word = 0; receive = r }

-- ── local 3: every local alert is enabled, and the senders are like t ──

abbrev watching : Sender → Handler
watching t =
    with_locals (record { regwen = replicate 7 1; en = replicate 7 1; class = replicate 7 0; cause = replicate 7 0 })
    (with_senders (λ e. t) (ticking 0 (line_due 5) 0))

-- what is heard, with local 3 by w
abbrev hearing : (Handler → Sample → Bool) → Handler → Sample → Effects → Heard
hearing w g s f =
    let v = heard g s f in
    record {
      receivers = v.receivers;
      events = v.events;
      answers = v.answers;
      raises = bits_of 7 (λ j. cond (eqb j 3) (w g s) (bit v.raises j));
      meets = v.meets;
      checked = v.checked;
      right = v.right;
    }

abbrev raised_by : (Handler → Sample → Bool) → Handler → Sample → Effects → Handler
raised_by w g s f = sampled g (hearing w g s f)

-- local 3's cause
abbrev cause3 : Handler → Bool
cause3 h = eqb (local h Field.Cause 3) 1

other_fault : (w : Handler → Sample → Bool) (t : Sender) (r : Receive) (f : Handler → Bool) → Valid (watching t)
    → f (raised_by w (watching t) (back r) (hands_on false)) ≡ false → f (after2 (watching t) (back r) (hands_on false)) ≡ true → ¬ SampleStep (raised_by w)
other_fault w t r f v p q x =
    let e = only_samples (raised_by w) after2 x holds_samples (watching t) (back r) (hands_on false) v (inl refl) in
    false≢true (sym p ∙ ap f e ∙ q)

-- the pair of line e, and its right answer
abbrev positive : Sample → ℕ → Bool
positive s e = receive_positive s.receive e

abbrev negative : Sample → ℕ → Bool
negative s e = receive_negative s.receive e

abbrev expected : Handler → ℕ → Bool
expected g e = (sender g e).sound.answer

-- equal wires are right where the positive one is
abbrev equal_right : Handler → Sample → Bool
equal_right g s = any_to (λ e. checks s.receive && differ (positive s e) (expected g e)) 4

pub no_equal_wires_right : ¬ SampleStep (raised_by equal_right)
unfolding rules
no_equal_wires_right = other_fault equal_right new_sender (Pairs 0 14) cause3 ((holds_valid (watching new_sender)).0 refl) refl refl

-- a wrong answer is forgiven, or a missing one: 0 where 1 is right
abbrev forgives : Handler → Sample → Bool
forgives g s = any_to (λ e. checks s.receive && equal (positive s e) (negative s e)) 4

pub no_wrong_answer_forgiven : ¬ SampleStep (raised_by forgives)
unfolding rules
no_wrong_answer_forgiven = other_fault forgives new_sender (Pairs 1 14) cause3 ((holds_valid (watching new_sender)).0 refl) refl refl

abbrev forgives_missing : Handler → Sample → Bool
forgives_missing g s = any_to (λ e. line_wrong g s e && (equal (positive s e) (negative s e) || positive s e)) 4

abbrev asked : Sender
asked = was false false Quiet true

pub no_missing_answer_forgiven : ¬ SampleStep (raised_by forgives_missing)
unfolding rules
no_missing_answer_forgiven = other_fault forgives_missing asked (Pairs 0 15) cause3 ((holds_valid (watching asked)).0 refl) refl refl

-- line 3 is not looked at
abbrev three_lines : Handler → Sample → Bool
three_lines g s = any_to (line_wrong g s) 3

pub no_line_3_unseen : ¬ SampleStep (raised_by three_lines)
unfolding rules
no_line_3_unseen = other_fault three_lines new_sender (Pairs 8 7) cause3 ((holds_valid (watching new_sender)).0 refl) refl refl

-- a tick whose senders are unchecked raises it
abbrev unchecked : Handler → Sample → Bool
unchecked g s = any_to (λ e. wrong (sender g e) (positive s e) (negative s e)) 4

pub no_fault_unchecked : ¬ SampleStep (raised_by unchecked)
unfolding rules
no_fault_unchecked = other_fault unchecked new_sender (Answers 0) (λ h. not (cause3 h)) ((holds_valid (watching new_sender)).0 refl) refl refl

-- ── line 0's ping: open for c ticks before this one, with these senders and `right` ──

abbrev pinged : ℕ → ℕ → ℕ → Handler
pinged timeout c right = with_right right (with_senders (λ e. new_sender) (ticking timeout (line_open c) 1))

-- a timer that meets something else
abbrev meeting_by : (Handler → Sample → Effects → ℕ → Meets) → Handler → Sample → Effects → ℕ → Handler → Handler
meeting_by r g s f lit m = with_turn (turned (r g s f lit) g.links.turn) (linked g s f lit m)

other_end : (r : Handler → Sample → Effects → ℕ → Meets) (g : Handler) (s : Sample) (lit : ℕ) (f : Turn → Bool) → Valid g
    → f (meeting_by r g s (hands_on false) lit g).links.turn ≡ false → f (linked g s (hands_on false) lit g).links.turn ≡ true → ¬ LinkStep (meeting_by r)
other_end r g s lit f v p q w =
    let e = only_links (meeting_by r) linked w holds_links g s (hands_on false) lit g v in
    false≢true (sym p ∙ ap (λ (h : Handler). f h.links.turn) e ∙ q)

-- its turn is over, and an alert's follows
abbrev is_over : Turn → Bool
is_over t = not (is_line t)

-- what it met, with the ping answered by a
abbrev answering : (Handler → Sample → Effects → Bool) → Handler → Sample → Effects → ℕ → Meets
answering a g s f lit =
    let m = timed g s f in
    record {
      runs = m.runs;
      begins = m.begins;
      timeout = m.timeout;
      word = m.word;
      pingable = m.pingable;
      pending = m.pending;
      answered = a g s f;
      closed = closed_now g (heard g s f) lit;
    }

-- .. in its tick with this age, by the answers before and now
abbrev answered_at : ℕ → Bool → Handler → Sample → Effects → Bool
answered_at n right g s f =
    let t = g.links.turn in
    open_now (before g s f) t && (eqb (age (before g s f) t) n && ((right || was_right g) && not (line_wrong g s (line_of t))))

-- answered in three
pub no_answer_in_three : ¬ LinkStep (meeting_by (answering (answered_at 3 false)))
unfolding rules
no_answer_in_three =
    let g = pinged 0 2 1 in
    other_end (answering (answered_at 3 false)) g at_rest 0 is_line ((holds_valid g).0 refl) refl refl

-- answered though an answer before was wrong
pub no_answer_after_a_wrong_one : ¬ LinkStep (meeting_by (answering (answered_at 4 true)))
unfolding rules
no_answer_after_a_wrong_one =
    let g = pinged 0 3 0 in
    other_end (answering (answered_at 4 true)) g at_rest 0 is_line ((holds_valid g).0 refl) refl refl

-- ── escalation and ping: what closes by c ──

abbrev closing_by : (Handler → Sample → Effects → ℕ → Bool) → Handler → Sample → Effects → ℕ → Meets
closing_by c g s f lit = closing (c g s f lit) (timed g s f)

-- an escalation that does not close
abbrev never : Handler → Sample → Effects → ℕ → Bool
never g s f lit = false

pub no_escalation_left_open : ¬ LinkStep (meeting_by (closing_by never))
unfolding rules
no_escalation_left_open =
    let g = pinged 0 5 0 in
    other_end (closing_by never) g at_rest 1 is_over ((holds_valid g).0 refl) refl refl

-- a ping that is due right after an escalation on the wire waits: the pair was on, and is off now
abbrev due_after : Handler
due_after = with_senders (λ e. was true false Escalating true) (ticking 0 (line_due 0) 0)

abbrev line_alone : Handler → Sample → Effects → ℕ → Bool
line_alone g s f lit = closed_now g (heard g s f) lit && bit lit (line_of g.links.turn)

pub no_ping_left_unsent : ¬ LinkStep (meeting_by (closing_by line_alone))
unfolding rules
no_ping_left_unsent = other_end (closing_by line_alone) due_after at_rest 0 is_over ((holds_valid due_after).0 refl) refl refl

-- another line's escalation closes it
abbrev any_line : Handler → Sample → Effects → ℕ → Bool
any_line g s f lit = checks s.receive && (is_line g.links.turn && not (eqb lit 0))

pub no_other_line_closes : ¬ LinkStep (meeting_by (closing_by any_line))
unfolding rules
no_other_line_closes =
    let g = pinged 0 5 0 in
    other_end (closing_by any_line) g at_rest 2 is_line ((holds_valid g).0 refl) refl refl

-- an escalation closes it in an older record too
abbrev unchecked_closes : Handler → Sample → Effects → ℕ → Bool
unchecked_closes g s f lit = is_line g.links.turn && bit lit (line_of g.links.turn)

pub no_closing_unchecked : ¬ LinkStep (meeting_by (closing_by unchecked_closes))
unfolding rules
no_closing_unchecked =
    let g = pinged 0 5 0 in
    other_end (closing_by unchecked_closes) g (back (Answers 0)) 1 is_line ((holds_valid g).0 refl) refl refl
