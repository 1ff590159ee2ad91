-- Wrong senders of request (xi) that the sentences refuse, as theorems, as in RefutedReceivers.antt.
-- Assumes nothing.
use Prim.Native.Nat.{ℕ}
use mathlib.Core.Path.{◌≡◌, refl, sym, ap, ◌∙◌}
use mathlib.Core.Bool.{Bool, true, false, false≢true, cond, not, ◌&&◌, ◌||◌}
use Rattle.link_rules.specs.Codes.{last_bit, deep_bit}
use Rattle.link_rules.specs.EscalationReceiver.{sound_after}
use Rattle.link_rules.specs.Sender.{holds, pulses, pair, sent}
use Rattle.link_rules.specs.declared.Drive.{Drive}
use Rattle.link_rules.specs.declared.Response.{Response}
use Rattle.link_rules.specs.declared.Response.TheVariants.{Quiet, Checking, Escalating}
use Rattle.link_rules.specs.declared.Sender.{Sender}
use Rattle.link_rules.specs.declared.Turn.{Turn}
use Rattle.rules.specs.Samples.{at_rest, heard}
use Rattle.rules.specs.State.{sender}
use Rattle.rules.specs.Tick.{driven}
use Rattle.rules.specs.declared.Effects.{Effects}
use Rattle.rules.specs.declared.Handler.{Handler}
use Rattle.rules.specs.declared.Sample.{Sample}
use Rattle.rules.proofs.Scenes.{rules}
use Rattle.sentences.specs.Links.{LinkStep}
use Rattle.sentences.specs.Valid.{Valid}
use Rattle.sentences.proofs.HoldsLinks.{holds_links}
use Rattle.sentences.proofs.HoldsSenders.{linked}
use Rattle.sentences.proofs.HoldsValid.{holds_valid}
use Rattle.sentences.proofs.LinkParts.{with_senders}
use Rattle.sentences.proofs.OnlyLinks.{only_links}
use Rattle.sentences.proofs.RefutedTimer.{ticking, hands_on}

-- ── a handler with these senders, in line 0's turn, whose ping is due after c more ticks ──

abbrev pub line_due : ℕ → Turn
line_due c = record { number = 1; alert = 0; count = c }

abbrev sending : ℕ → Sender → Handler
sending c t = with_senders (λ e. t) (ticking 0 (line_due c) 0)

-- the line was on in the last tick or not, and off before it or not; its sound receiver stands there and answers so
abbrev pub was : Bool → Bool → Response → Bool → Sender
was on first stands answer = record { on = on; first = first; sound = record { stands = stands; answer = answer } }

-- ── senders by their own rule ──

abbrev sent_by : (Sender → Drive → Sender) → Handler → Sample → Effects → ℕ → Handler → Handler
sent_by r g s f lit m = with_senders (λ e. r (sender g e) (driven g (heard g s f) lit e)) (linked g s f lit m)

-- if it makes another of line 0's sender than the rules do
other_sender : (r : Sender → Drive → Sender) (g : Handler) (lit : ℕ) (f : Sender → Bool) → Valid g
    → f (sender (sent_by r g at_rest (hands_on false) lit g) 0) ≡ false → f (sender (linked g at_rest (hands_on false) lit g) 0) ≡ true → ¬ LinkStep (sent_by r)
other_sender r g lit f v p q w =
    let e = only_links (sent_by r) linked w holds_links g at_rest (hands_on false) lit g v in
    false≢true (sym p ∙ ap (λ (h : Handler). f (sender h 0)) e ∙ q)

-- one whose pair is by its own rule
abbrev paired_by : (Sender → Drive → Bool) → Sender → Drive → Sender
paired_by p t d = record { on = d.line; first = d.line && not t.on; sound = sound_after t.sound (p t d) }

abbrev pair_on : Sender → Bool
pair_on t = last_bit t.sound.stands

-- every line is a tick longer, as 004 draws it: this one was on for two ticks
abbrev longer : Sender → Drive → Bool
longer t d = (d.line || t.on) || pulses t d

pub no_every_line_longer : ¬ LinkStep (sent_by (paired_by longer))
unfolding rules
no_every_line_longer =
    let g = sending 5 (was true false Escalating true) in
    other_sender (paired_by longer) g 0 (λ t. not (pair_on t)) ((holds_valid g).0 refl) refl refl

-- a lone tick stays lone
abbrev lone : Sender → Drive → Bool
lone t d = d.line || pulses t d

pub no_lone_tick : ¬ LinkStep (sent_by (paired_by lone))
unfolding rules
no_lone_tick =
    let g = sending 5 (was true true Checking true) in
    other_sender (paired_by lone) g 0 pair_on ((holds_valid g).0 refl) refl refl

-- lone is said of the pair: a line of one tick right after a ping's pulse is not lengthened
abbrev lone_of_pair : Sender → Drive → Sender
lone_of_pair t d = let n = sent t d in record { on = n.on; first = n.first && not (pair_on t); sound = n.sound }

pub no_lone_of_the_pair : ¬ LinkStep (sent_by lone_of_pair)
unfolding rules
no_lone_of_the_pair =
    let g = sending 5 (was false false Checking true) in
    other_sender lone_of_pair g 1 (λ t. t.first) ((holds_valid g).0 refl) refl refl

-- a ping right after a line is sent: the line was on for two ticks and is off now
abbrev pulses_after : Sender → Drive → Bool
pulses_after t d = holds t d.line || d.ping

pub no_ping_right_after_a_line : ¬ LinkStep (sent_by (paired_by pulses_after))
unfolding rules
no_ping_right_after_a_line =
    let g = sending 0 (was true false Escalating true) in
    other_sender (paired_by pulses_after) g 0 (λ t. not (pair_on t)) ((holds_valid g).0 refl) refl refl

-- an open ping that holds the pair for two ticks
abbrev pulses_twice : Sender → Drive → Bool
pulses_twice t d = pair t d || (pair_on t && not (deep_bit t.sound.stands))

pub no_pulse_of_two_ticks : ¬ LinkStep (sent_by (paired_by pulses_twice))
unfolding rules
no_pulse_of_two_ticks =
    let g = sending 5 (was false false Checking true) in
    other_sender (paired_by pulses_twice) g 0 (λ t. not (pair_on t)) ((holds_valid g).0 refl) refl refl

-- ── right answers by their own rule ──

abbrev answered_by : (Sender → Drive → Bool) → Sender → Drive → Sender
answered_by a t d = let n = sent t d in record { on = n.on; first = n.first; sound = record { stands = n.sound.stands; answer = a t d } }

abbrev is_quiet : Response → Bool
is_quiet r = not (last_bit r) && not (deep_bit r)

-- toggling starts anew where the line comes on: in the third tick after a ping's pulse
abbrev anew : Sender → Drive → Bool
anew t d = cond (is_quiet t.sound.stands && pair t d) true (sent t d).sound.answer

pub no_toggling_anew : ¬ LinkStep (sent_by (answered_by anew))
unfolding rules
no_toggling_anew =
    let g = sending 5 (was false false Quiet true) in
    other_sender (answered_by anew) g 1 (λ t. not t.sound.answer) ((holds_valid g).0 refl) refl refl

-- a ping's answer of two ticks, "10": none is due after its second tick
abbrev half : Sender → Drive → Bool
half t d = (sent t d).sound.answer && (not (deep_bit t.sound.stands) || pair_on t)

pub no_answer_10 : ¬ LinkStep (sent_by (answered_by half))
unfolding rules
no_answer_10 =
    let g = sending 5 (was false false Response.Answering false) in
    other_sender (answered_by half) g 0 (λ t. t.sound.answer) ((holds_valid g).0 refl) refl refl
