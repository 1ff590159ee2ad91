-- Request (xi), the second statement: proved of every list of ticks.
-- Assumes nothing.
use Prim.Native.Nat.{ℕ, zero, suc, ◌<◌}
use mathlib.Core.Path.{◌≡◌, refl, ap, ap₂, sym, ◌∙◌}
use mathlib.Core.Logic.{◌⊎◌, inl, inr}
use mathlib.Core.Bool.{Bool, true, false, false≢true, not, ◌&&◌, ◌||◌}
use mathlib.Core.List.{List, [], ◌∷◌}
use lib.ListN.{get_or, length, take}
use native.Mathlib.Nat.{le_of_suc-le-suc, not-suc-le-zero}
use Rattle.link_rules.specs.Seen.{on, on_before, seen, SeesExactly, no_drive, line_at, line_before, first_before, pulse_at, Sends, Seen}
use Rattle.link_rules.specs.EscalationReceiver.{new_sound, new_escalation_receiver, sound_after, sees, sees_at, response_after, escalates, listened, listeneds, responds_positive, responds_negative}
use Rattle.link_rules.specs.Codes.{last_bit}
use Rattle.link_rules.specs.Sender.{new_sender, pair, pulses, sent, sents, pairs, wrong}
use Rattle.link_rules.specs.declared.Drive.{Drive}
use Rattle.link_rules.specs.declared.EscalationReceiver.{EscalationReceiver}
use Rattle.link_rules.specs.declared.SoundReceiver.{SoundReceiver}
use Rattle.link_rules.specs.declared.Response.{Response}
use Rattle.link_rules.specs.declared.Response.TheVariants.{Quiet, Checking, Answering, Escalating}
use Rattle.link_rules.specs.declared.Sender.{Sender}

-- ── a receiver on sound wires ──

-- it stands where its pair was on exactly if the pair was on
response_after_on : (x : Response) (p : Bool) → last_bit (response_after x p) ≡ p
response_after_on Quiet true = refl
response_after_on Quiet false = refl
response_after_on Checking true = refl
response_after_on Checking false = refl
response_after_on Answering true = refl
response_after_on Answering false = refl
response_after_on Escalating true = refl
response_after_on Escalating false = refl

sound_after_on : (h : SoundReceiver) (p : Bool) → last_bit (sound_after h p).stands ≡ p
unfolding sound_after
sound_after_on h p = response_after_on h.stands p

-- it sees an escalation exactly where the pair is on now and was on
sees_place : (x : Response) (p : Bool) → sees_at x p ≡ p && last_bit x
sees_place Quiet true = refl
sees_place Quiet false = refl
sees_place Checking true = refl
sees_place Checking false = refl
sees_place Answering true = refl
sees_place Answering false = refl
sees_place Escalating true = refl
sees_place Escalating false = refl

pub sees_on : (h : SoundReceiver) (p : Bool) → sees h p ≡ p && last_bit h.stands
unfolding sees
sees_on h p = sees_place h.stands p

-- ── a receiver on sound wires is never broken, and goes by what it sound_after ──

abbrev sound : SoundReceiver → EscalationReceiver
sound h = record { sound = h; broken = false }

heards : SoundReceiver → List Bool → SoundReceiver
heards h [] = h
heards h (p ∷ ps) = heards (sound_after h p) ps

pub escalates_sound : (h : SoundReceiver) (p : Bool) → escalates (sound h) p (not p) ≡ sees h p
unfolding escalates
escalates_sound h true = refl
escalates_sound h false = refl

pub listened_sound : (h : SoundReceiver) (p : Bool) → listened (sound h) p (not p) ≡ sound (sound_after h p)
unfolding listened
listened_sound h true = refl
listened_sound h false = refl

listeneds_sound : (h : SoundReceiver) (ps : List Bool) → listeneds (sound h) ps ≡ sound (heards h ps)
unfolding listeneds heards
listeneds_sound h [] = refl
listeneds_sound h (p ∷ ps) = ap (λ (r : EscalationReceiver). listeneds r ps) (listened_sound h p) ∙ listeneds_sound (sound_after h p) ps

-- the pair was on before tick i, b before the first
abbrev was_before : Bool → List Bool → ℕ → Bool
was_before b ps zero = b
was_before b ps (suc i) = on ps i

heards_on : (h : SoundReceiver) (ps : List Bool) (i : ℕ) → sees (heards h (take i ps)) (on ps i) ≡ on ps i && was_before (last_bit h.stands) ps i
unfolding heards
heards_on h [] zero = sees_on h false
heards_on h [] (suc i) = sees_on h false
heards_on h (p ∷ ps) zero = sees_on h p
heards_on h (p ∷ ps) (suc zero) = heards_on (sound_after h p) ps zero ∙ ap (λ b. on ps zero && b) (sound_after_on h p)
heards_on h (p ∷ ps) (suc (suc i)) = heards_on (sound_after h p) ps (suc i)

before_is : (ps : List Bool) (i : ℕ) → was_before false ps i ≡ on_before ps i
before_is ps zero = refl
before_is ps (suc i) = refl

pub seen_on : (ps : List Bool) (i : ℕ) → seen ps i ≡ on ps i && on_before ps i
seen_on ps i =
    ap (λ (r : EscalationReceiver). escalates r (on ps i) (not (on ps i))) (listeneds_sound new_sound (take i ps))
    ∙ escalates_sound (heards new_sound (take i ps)) (on ps i)
    ∙ heards_on new_sound ps i
    ∙ ap (λ b. on ps i && b) (before_is ps i)

and-true : (a b : Bool) → a && b ≡ true → (a ≡ true) × (b ≡ true)
and-true true b e = (refl, e)
and-true false b e = absurd (false≢true e)

pub sees_exactly : (ps : List Bool) → SeesExactly ps
sees_exactly ps =
    record {
      exactly = λ i. (λ e. and-true (on ps i) (on_before ps i) (sym (seen_on ps i) ∙ e), λ e. seen_on ps i ∙ ap₂ ◌&&◌ e.0 e.1);
    }

-- ── a ping ──

-- a pulse has the pair off before it
pulse_before : (ping line was : Bool) → ping && (not line && not was) ≡ true → was ≡ false
pulse_before true false false e = refl
pulse_before true false true e = absurd (false≢true e)
pulse_before true true was e = absurd (false≢true e)
pulse_before false line was e = absurd (false≢true e)

pub was_pair : (s : Sender) (d : Drive) → last_bit (sent s d).sound.stands ≡ pair s d
unfolding sent
was_pair s d = sound_after_on s.sound (pair s d)

pub sent_hearing : (s : Sender) (d : Drive) → (sent s d).sound ≡ sound_after s.sound (pair s d)
unfolding sent
sent_hearing s d = refl

pulse_lone : (s : Sender) (ds : List Drive) (i : ℕ) → pulses (sents s (take i ds)) (get_or ds i no_drive) ≡ true
    → was_before (last_bit s.sound.stands) (pairs s ds) i ≡ false
unfolding sents pairs
pulse_lone s [] zero e = absurd (false≢true e)
pulse_lone s [] (suc i) e = absurd (false≢true e)
pulse_lone s (d ∷ ds) zero e = pulse_before d.ping d.line (last_bit s.sound.stands) e
pulse_lone s (d ∷ ds) (suc zero) e = sym (was_pair s d) ∙ pulse_lone (sent s d) ds zero e
pulse_lone s (d ∷ ds) (suc (suc i)) e = pulse_lone (sent s d) ds (suc i) e

-- its own tick is on, and the next is on exactly if the line is
pulse_on : (ping line first was : Bool) → ping && (not line && not was) ≡ true → (line || first) || (ping && (not line && not was)) ≡ true
pulse_on true false true was e = refl
pulse_on true false false was e = e
pulse_on true true first was e = refl
pulse_on false line first was e = absurd (false≢true e)

after_pulse : (s : Sender) (d x : Drive) → pulses s d ≡ true → pair (sent s d) x ≡ x.line
unfolding sent
after_pulse s d x e =
    go d.ping d.line s.on (last_bit s.sound.stands) x.ping x.line (last_bit (sound_after s.sound (pair s d)).stands) e
    (sound_after_on s.sound (pair s d) ∙ pulse_on d.ping d.line s.first (last_bit s.sound.stands) e)
  where
    go : (ping line before was ping' line' on' : Bool) → ping && (not line && not was) ≡ true → on' ≡ true
        → (line' || (line && not before)) || (ping' && (not line' && not on')) ≡ line'
    go ping line before was ping' true on' e w = refl
    go true false before was true false true e w = refl
    go true false before was false false true e w = refl
    go true false before was ping' false false e w = absurd (false≢true w)
    go true true before was ping' false on' e w = absurd (false≢true e)
    go false line before was ping' false on' e w = absurd (false≢true e)

pulse_next : (s : Sender) (ds : List Drive) (i : ℕ) → pulses (sents s (take i ds)) (get_or ds i no_drive) ≡ true
    → (on (pairs s ds) i ≡ true) × (on (pairs s ds) (suc i) ≡ line_at ds (suc i))
unfolding sents pairs
pulse_next s [] zero e = absurd (false≢true e)
pulse_next s [] (suc i) e = absurd (false≢true e)
pulse_next s (d ∷ []) zero e = (pulse_on d.ping d.line s.first (last_bit s.sound.stands) e, refl)
pulse_next s (d ∷ x ∷ ds) zero e = (pulse_on d.ping d.line s.first (last_bit s.sound.stands) e, after_pulse s d x e)
pulse_next s (d ∷ ds) (suc i) e = pulse_next (sent s d) ds i e

-- ── escalations ──

or-true : (a b : Bool) → a || b ≡ true → (a ≡ true) ⊎ (b ≡ true)
or-true true b e = inl refl
or-true false b e = inr e

-- on now and before, it is no pulse: the line is on, or the last tick was the first of its being on
held : (ping line first was : Bool) → (line || first) || (ping && (not line && not was)) ≡ true → was ≡ true → (line ≡ true) ⊎ (first ≡ true)
held ping true first was e w = inl refl
held ping false true was e w = inr refl
held true false false true e w = absurd (false≢true e)
held true false false false e w = absurd (false≢true w)
held false false false was e w = absurd (false≢true e)

-- the line was on before tick i, b before the first
abbrev line_was : Bool → List Drive → ℕ → Bool
line_was b ds zero = b
line_was b ds (suc i) = line_at ds i

first_line : (s : Sender) (d : Drive) → (sent s d).first ≡ true → d.line ≡ true
unfolding sent
first_line s d e = (and-true d.line (not s.on) e).0

only_line : (s : Sender) (ds : List Drive) (i : ℕ) → on (pairs s ds) i ≡ true → was_before (last_bit s.sound.stands) (pairs s ds) i ≡ true
    → (line_at ds i ≡ true) ⊎ (line_was s.first ds i ≡ true)
unfolding pairs
only_line s [] zero e w = absurd (false≢true e)
only_line s [] (suc i) e w = absurd (false≢true e)
only_line s (d ∷ ds) zero e w = held d.ping d.line s.first (last_bit s.sound.stands) e w
only_line s (d ∷ ds) (suc zero) e w = go (only_line (sent s d) ds zero e (was_pair s d ∙ w))
  where
    go : (line_at ds zero ≡ true) ⊎ ((sent s d).first ≡ true) → (line_at ds zero ≡ true) ⊎ (d.line ≡ true)
    go (inl l) = inl l
    go (inr f) = inr (first_line s d f)
only_line s (d ∷ ds) (suc (suc i)) e w = only_line (sent s d) ds (suc i) e w

-- where the line was on, the pair was
Kept : Sender → Type 0
Kept s = s.on ≡ true → last_bit s.sound.stands ≡ true

line_on : (line first pulse : Bool) → line ≡ true → (line || first) || pulse ≡ true
line_on true first pulse e = refl
line_on false first pulse e = absurd (false≢true e)

first_on : (line first pulse : Bool) → first ≡ true → (line || first) || pulse ≡ true
first_on true first pulse e = refl
first_on false true pulse e = refl
first_on false false pulse e = absurd (false≢true e)

sent_kept : (s : Sender) (d : Drive) → Kept (sent s d)
unfolding Kept sent
sent_kept s d e = sound_after_on s.sound (pair s d) ∙ line_on d.line s.first (pulses s d) e

-- a tick with the line on, and the next tick
line_next : (s : Sender) (d x : Drive) → d.line ≡ true → s.on ≡ false → pair (sent s d) x ≡ true
unfolding sent
line_next s d x e o = first_on x.line (d.line && not s.on) _ (ap₂ ◌&&◌ e (ap not o))

Line : Sender → List Drive → ℕ → Type 0
Line s ds i =
    ((on (pairs s ds) i ≡ true) × (was_before (last_bit s.sound.stands) (pairs s ds) i ≡ true))
    ⊎ ((on (pairs s ds) (suc i) ≡ true) × (on (pairs s ds) i ≡ true))

line_first : (s : Sender) (d x : Drive) (ds : List Drive) → Kept s → d.line ≡ true → Line s (d ∷ x ∷ ds) zero
unfolding pairs Line Kept
line_first s d x ds k e = go s.on refl
  where
    here : pair s d ≡ true
    here = line_on d.line s.first (pulses s d) e

    go : (b : Bool) → s.on ≡ b → ((pair s d ≡ true) × (last_bit s.sound.stands ≡ true)) ⊎ ((pair (sent s d) x ≡ true) × (pair s d ≡ true))
    go true o = inl (here, k o)
    go false o = inr (line_next s d x e o, here)

later : (s : Sender) (d : Drive) (ds : List Drive) (i : ℕ) → Line (sent s d) ds i → Line s (d ∷ ds) (suc i)
unfolding pairs Line
later s d ds zero (inl e) = inl (e.0, sym (was_pair s d) ∙ e.1)
later s d ds zero (inr e) = inr e
later s d ds (suc i) (inl e) = inl e
later s d ds (suc i) (inr e) = inr e

every : (s : Sender) (ds : List Drive) (i : ℕ) → Kept s → suc i < length ds → line_at ds i ≡ true → Line s ds i
every s [] i k l e = absurd (not-suc-le-zero l)
every s (d ∷ []) i k l e = absurd (not-suc-le-zero (le_of_suc-le-suc l))
every s (d ∷ x ∷ ds) zero k l e = line_first s d x ds k e
every s (d ∷ x ∷ ds) (suc i) k l e = later s d (x ∷ ds) i (every (sent s d) (x ∷ ds) i (sent_kept s d) (le_of_suc-le-suc l) e)

-- ── answers ──

-- the sender expects what a sound receiver of its pairs answers
expects : (s : Sender) (ds : List Drive) (i : ℕ) → (sents s (take i ds)).sound ≡ heards s.sound (take i (pairs s ds))
unfolding sents pairs heards
expects s [] zero = refl
expects s [] (suc i) = refl
expects s (d ∷ ds) zero = refl
expects s (d ∷ ds) (suc i) = expects (sent s d) ds i ∙ ap (λ (h : SoundReceiver). heards h (take i (pairs (sent s d) ds))) (sent_hearing s d)

pub right : (s : Sender) (h : SoundReceiver) → s.sound ≡ h → wrong s h.answer (not h.answer) ≡ false
right s h e = go s.sound.answer h.answer (ap (λ (x : SoundReceiver). x.answer) e)
  where
    go : (a b : Bool) → a ≡ b → (b && not b) || (not b && not (not b)) || ((b && not a) || (not b && a)) ≡ false
    go true true e = refl
    go false false e = refl
    go true false e = absurd (false≢true (sym e))
    go false true e = absurd (false≢true e)

never : (ds : List Drive) (i : ℕ) (r : EscalationReceiver) → r ≡ sound (heards new_sound (take i (pairs new_sender ds)))
    → wrong (sents new_sender (take i ds)) (responds_positive r) (responds_negative r) ≡ false
never ds i r e =
    ap (λ (x : EscalationReceiver). wrong (sents new_sender (take i ds)) (responds_positive x) (responds_negative x)) e
    ∙ right (sents new_sender (take i ds)) (heards new_sound (take i (pairs new_sender ds))) (expects new_sender ds i)

-- ── the statement ──

new_kept : Kept new_sender
unfolding Kept
new_kept e = absurd (false≢true e)

seen_true : (ps : List Bool) (i : ℕ) → on ps i ≡ true → was_before false ps i ≡ true → seen ps i ≡ true
seen_true ps i e w = seen_on ps i ∙ ap₂ ◌&&◌ e (sym (before_is ps i) ∙ w)

seen_line : (ds : List Drive) (i : ℕ) → Line new_sender ds i → (seen (pairs new_sender ds) i ≡ true) ⊎ (seen (pairs new_sender ds) (suc i) ≡ true)
unfolding Line
seen_line ds i (inl e) = inl (seen_true (pairs new_sender ds) i e.0 e.1)
seen_line ds i (inr e) = inr (seen_true (pairs new_sender ds) (suc i) e.0 e.1)

and-false : (a : Bool) → a && false ≡ false
and-false true = refl
and-false false = refl

and_same : (a b c : Bool) → a ≡ c → b ≡ true → a && b ≡ c
and_same true b c e w = w ∙ e
and_same false b c e w = e

-- the last tick was the first of the line's being on
abbrev first_was : Sender → List Drive → ℕ → Bool
first_was s ds zero = s.first
first_was s ds (suc zero) = line_at ds zero && not s.on
first_was s ds (suc (suc i)) = line_at ds (suc i) && not (line_at ds i)

pair_was : (s : Sender) (ds : List Drive) (i : ℕ) → i < length ds
    → on (pairs s ds) i ≡ (line_at ds i || first_was s ds i) || pulses (sents s (take i ds)) (get_or ds i no_drive)
unfolding pairs sents sent
pair_was s [] i l = absurd (not-suc-le-zero l)
pair_was s (d ∷ ds) zero l = refl
pair_was s (d ∷ ds) (suc zero) l = pair_was (sent s d) ds zero (le_of_suc-le-suc l)
pair_was s (d ∷ ds) (suc (suc zero)) l = pair_was (sent s d) ds (suc zero) (le_of_suc-le-suc l)
pair_was s (d ∷ ds) (suc (suc (suc i))) l = pair_was (sent s d) ds (suc (suc i)) (le_of_suc-le-suc l)

and_not : (a : Bool) → a && true ≡ a
and_not true = refl
and_not false = refl

first_was_law : (ds : List Drive) (i : ℕ) → first_was new_sender ds i ≡ first_before ds i
first_was_law ds zero = refl
first_was_law ds (suc zero) = and_not (line_at ds zero)
first_was_law ds (suc (suc i)) = refl

-- "A line on holds the pair, a lone tick lengthened to two; a ping is a one-tick pulse"
pub sends : (ds : List Drive) → Sends ds
sends ds =
    record {
      pair_is = λ i l. pair_was new_sender ds i l ∙ ap (λ b. (line_at ds i || b) || pulse_at ds i) (first_was_law ds i);
      off_before = λ i e. sym (before_is (pairs new_sender ds) i) ∙ pulse_lone new_sender ds i e;
      off_after = λ i e. (pulse_next new_sender ds i e).1;
    }

-- "a new receiver on sound wires sees an escalation exactly where its pair is on in this tick and the one before, also while answering a ping, so
-- never in a lone ping"
pub theorem : (ds : List Drive) → Seen ds
theorem ds =
    record {
      exactly = sees_exactly ps;
      never_in_ping = λ i e. seen_on ps i ∙ ap (λ b. on ps i && b) (sym (before_is ps i) ∙ pulse_lone new_sender ds i e) ∙ and-false (on ps i);
      never_after_ping = λ i e. let n = pulse_next new_sender ds i e in seen_on ps (suc i) ∙ and_same (on ps (suc i)) (on ps i) (line_at ds (suc i)) n.1 n.0;
      only_lines = λ i e. only i (and-true (on ps i) (on_before ps i) (sym (seen_on ps i) ∙ e));
      every_line = λ i l e. seen_line ds i (every new_sender ds i new_kept l e);
      never_wrong = λ i. never ds i (listeneds new_escalation_receiver (take i ps)) (listeneds_sound new_sound (take i ps));
    }
  where
    ps : List Bool
    ps = pairs new_sender ds

    only : (i : ℕ) → (on ps i ≡ true) × (on_before ps i ≡ true) → (line_at ds i ≡ true) ⊎ (line_before ds i ≡ true)
    only zero e = only_line new_sender ds zero e.0 e.1
    only (suc i) e = only_line new_sender ds (suc i) e.0 e.1
