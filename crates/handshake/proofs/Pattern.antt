-- Request (xi), "answered from the next tick with the 1010 pattern": where a ping is sent on a line's pair the sender has nothing else to wait for.
-- Assumes nothing.
use Prim.Native.Nat.{ℕ, zero, suc, ◌+◌, ◌-◌, ◌≤◌, ◌<◌}
use mathlib.Core.Path.{◌≡◌, refl, sym, ap, ap₂, ◌∙◌, subst}
use mathlib.Core.Bool.{Bool, true, false, false≢true, true≢false, not, ◌&&◌, ◌||◌}
use mathlib.Core.List.{List}
use native.Mathlib.Omega.{arith}
use lib.Dec.{T}
use lib.ListN.{length}
use Rattle.bits.proofs.IndexLaws.{and-true}
use Rattle.bits.proofs.TruthTables.{every, every_at}
use Rattle.escalation.proofs.ListTicks.{at, input, at_next}
use Rattle.laws.proofs.Tick.Senders.{after_sender}
use Rattle.link_rules.proofs.CodeLaws.{response_back}
use Rattle.link_rules.specs.Codes.{response_of, last_bit, deep_bit}
use Rattle.link_rules.specs.EscalationReceiver.{new_sound, sound_after}
use Rattle.link_rules.specs.Sender.{new_sender, sent}
use Rattle.link_rules.specs.Senders.{line_count}
use Rattle.link_rules.specs.declared.Drive.{Drive}
use Rattle.link_rules.specs.declared.Response.{Response}
use Rattle.link_rules.specs.declared.Response.TheVariants.{Quiet, Checking, Answering, Escalating}
use Rattle.link_rules.specs.declared.Sender.{Sender}
use Rattle.link_rules.specs.declared.SoundReceiver.{SoundReceiver}
use Rattle.rules.specs.Run.{run}
use Rattle.rules.specs.State.{sender}
use Rattle.rules.specs.Valid.{valid}
use Rattle.rules.specs.declared.Handler.{Handler}
use Rattle.rules.specs.declared.Input.{Input}
use Rattle.handshake.specs.LinePings.{line_on, Pulse, Pattern}
use Rattle.handshake.specs.Pings.{line_opens}
use Rattle.handshake.proofs.Apart.{none_soon}
use Rattle.handshake.proofs.LineTicks.{on_is}

-- ── what a sender may still wait for: nothing it can't end, one, two, three ticks after the last pulse ──

abbrev last : Sender → Bool
last s = last_bit s.sound.stands

abbrev deep : Sender → Bool
deep s = deep_bit s.sound.stands

-- a line that was on held the pair
abbrev held : Sender → Bool
held s = (not s.on || last s) && (not s.first || last s)

-- a pair that came on came on with the line
abbrev calm1 : Sender → Bool
calm1 s = held s && (not (last s && not (deep s)) || s.first)

-- so it does not go off after one tick
abbrev calm2 : Sender → Bool
calm2 s = calm1 s && (last s || not (deep s))

-- and while it is off there is nothing to answer
abbrev calm3 : Sender → Bool
calm3 s = calm2 s && (last s || not s.sound.answer)

-- ── by truth tables ──

is_true : (b : Bool) → T b → b ≡ true
is_true true h = refl
is_true false h = absurd h

abbrev make : Bool → Bool → Bool → Bool → Bool → Sender
make a b c d f = record { on = a; first = b; sound = record { stands = response_of c d; answer = f } }

-- a sender by its five bits
made : (s : Sender) → make s.on s.first (last s) (deep s) s.sound.answer ≡ s
made s = ap (λ (r : Response). record { on = s.on; first = s.first; sound = record { stands = r; answer = s.sound.answer } }) (response_back s.sound.stands)

abbrev all6 : (Sender → Bool → Bool) → Bool
all6 f = every (λ a. every (λ b. every (λ c. every (λ d. every (λ g. every (λ l. f (make a b c d g) l))))))

-- what holds of all bits holds of every sender and line
by_bits : (f : Sender → Bool → Bool) → T (all6 f) → (s : Sender) (l : Bool) → f s l ≡ true
by_bits f t s l =
    let a = every_at (λ a. every (λ b. every (λ c. every (λ d. every (λ g. every (λ l. f (make a b c d g) l)))))) t s.on in
    let b = every_at (λ b. every (λ c. every (λ d. every (λ g. every (λ l. f (make s.on b c d g) l))))) a s.first in
    let c = every_at (λ c. every (λ d. every (λ g. every (λ l. f (make s.on s.first c d g) l)))) b (last s) in
    let d = every_at (λ d. every (λ g. every (λ l. f (make s.on s.first (last s) d g) l))) c (deep s) in
    let g = every_at (λ g. every (λ l. f (make s.on s.first (last s) (deep s) g) l)) d s.sound.answer in
    let w = every_at (λ l. f (make s.on s.first (last s) (deep s) s.sound.answer) l) g l in
    is_true (f s l) (subst (λ (z : Sender). T (f z l)) (made s) w)

gives : (a b : Bool) → (not a || b) ≡ true → a ≡ true → b ≡ true
gives true b e h = e
gives false b e h = absurd (false≢true h)

-- a tick without a ping
abbrev rests : Sender → Bool → Sender
rests s l = sent s (record { line = l; ping = false })

once : (s : Sender) (l : Bool) → held s ≡ true → calm1 (rests s l) ≡ true
unfolding sent sound_after
once s l = gives (held s) (calm1 (rests s l)) (by_bits (λ s l. not (held s) || calm1 (rests s l)) tt s l)

twice : (s : Sender) (l : Bool) → calm1 s ≡ true → calm2 (rests s l) ≡ true
unfolding sent sound_after
twice s l = gives (calm1 s) (calm2 (rests s l)) (by_bits (λ s l. not (calm1 s) || calm2 (rests s l)) tt s l)

thrice : (s : Sender) (l : Bool) → calm2 s ≡ true → calm3 (rests s l) ≡ true
unfolding sent sound_after
thrice s l = gives (calm2 s) (calm3 (rests s l)) (by_bits (λ s l. not (calm2 s) || calm3 (rests s l)) tt s l)

-- after any tick a line that was on has held the pair
always : (s : Sender) (d : Drive) → held (sent s d) ≡ true
unfolding sent sound_after
always s d = go d.ping refl
  where
    go : (p : Bool) → d.ping ≡ p → held (sent s d) ≡ true
    go p e =
        subst (λ (q : Bool). held (sent s (record { line = d.line; ping = q })) ≡ true) (sym e) (at_ping p)
      where
        at_ping : (p : Bool) → held (sent s (record { line = d.line; ping = p })) ≡ true
        at_ping true = by_bits (λ s l. held (sent s (record { line = l; ping = true }))) tt s d.line
        at_ping false = by_bits (λ s l. held (sent s (record { line = l; ping = false }))) tt s d.line

-- ── four ticks from a sender with nothing to wait for ──

-- a tick without line and ping; one with a ping that is sent
rest_step : (s : Sender) → s.first ≡ false → ((rests s false).first ≡ false) × ((rests s false).sound ≡ sound_after s.sound false)
unfolding sent
rest_step s f = (refl, ap (λ (b : Bool). sound_after s.sound (b || false)) f)

pulse_step : (s : Sender) → s.first ≡ false → last s ≡ false
    → ((sent s (record { line = false; ping = true })).first ≡ false) × ((sent s (record { line = false; ping = true })).sound ≡ sound_after s.sound true)
unfolding sent
pulse_step s f w = (refl, ap₂ (λ (b c : Bool). sound_after s.sound (b || not c)) f w)

after_pulse : (sound_after new_sound true ≡ record { stands = Checking; answer = true })
    × (sound_after (record { stands = Checking; answer = true }) false ≡ record { stands = Answering; answer = false })
    × (sound_after (record { stands = Answering; answer = false }) false ≡ record { stands = Quiet; answer = true })
    × (sound_after (record { stands = Quiet; answer = true }) false ≡ new_sound)
unfolding sound_after
after_pulse = (refl, refl, refl, refl)

-- nothing to wait for, and the pair off
at_rest : (s : Sender) → calm3 s ≡ true → last s ≡ false → (s.first ≡ false) × (s.sound ≡ new_sound)
at_rest s c w =
    let a = and-true (calm2 s) (last s || not s.sound.answer) c in
    let b = and-true (calm1 s) (last s || not (deep s)) a.0 in
    let d = and-true (held s) (not (last s && not (deep s)) || s.first) b.0 in
    let f = and-true (not s.on || last s) (not s.first || last s) d.0 in
    (off s.first (last s) f.1 w, sound s.sound.stands w (low (last s) (deep s) b.1 w) (low (last s) s.sound.answer a.1 w))
  where
    off : (b l : Bool) → (not b || l) ≡ true → l ≡ false → b ≡ false
    off true l e z = absurd (false≢true (sym z ∙ e))
    off false l e z = refl

    low : (l b : Bool) → (l || not b) ≡ true → l ≡ false → b ≡ false
    low true b e z = absurd (true≢false z)
    low false true e z = absurd (false≢true e)
    low false false e z = refl

    sound : (r : Response) → last_bit r ≡ false → deep_bit r ≡ false → s.sound.answer ≡ false → record { stands = r; answer = s.sound.answer } ≡ new_sound
    sound Quiet p q z = ap (λ (b : Bool). record { stands = Quiet; answer = b }) z
    sound Checking p q z = absurd (true≢false p)
    sound Answering p q z = absurd (true≢false q)
    sound Escalating p q z = absurd (true≢false p)

-- ── along a list, from a sender that is as new ──

module _ (h : Handler) (xs : List Input) (v : valid h ≡ true) (e : ℕ) (l : e < line_count) (new : sender h e ≡ new_sender) where
  abbrev sender_at : ℕ → Sender
  sender_at t = sender (at h xs t) e

  next_sender : (t : ℕ) → t < length xs → sender_at (suc t) ≡ sent (sender_at t) (record { line = line_on h xs e t; ping = line_opens h xs e t })
  next_sender t m =
      ap (λ (g : Handler). sender g e) (at_next h xs v t m) ∙ after_sender (at h xs t) (input xs t) e l
      ∙ ap (λ (b : Bool). sent (sender_at t) (record { line = b; ping = line_opens h xs e t })) (sym (on_is h xs v e t m))

  quiet_next : (t : ℕ) → t < length xs → line_opens h xs e t ≡ false → sender_at (suc t) ≡ rests (sender_at t) (line_on h xs e t)
  quiet_next t m n = next_sender t m ∙ ap (λ (b : Bool). sent (sender_at t) (record { line = line_on h xs e t; ping = b })) n

  held_at : (t : ℕ) → t ≤ length xs → held (sender_at t) ≡ true
  unfolding run
  held_at zero m = ap held new
  held_at (suc t) m = ap held (next_sender t m) ∙ always (sender_at t) (record { line = line_on h xs e t; ping = line_opens h xs e t })

  -- no ping in the three ticks before, or since the start
  early : (t : ℕ) → t ≤ length xs → ((u : ℕ) → u < t → line_opens h xs e u ≡ false) → calm3 (sender_at t) ≡ true
  unfolding run
  early zero m n = ap calm3 new
  early (suc t) m n =
      ap calm3 (quiet_next t m (n t (omega arith)))
      ∙ thrice (sender_at t) (line_on h xs e t)
      (and-true (calm2 (sender_at t)) (last (sender_at t) || not (sender_at t).sound.answer) (early t (omega (arith, m)) (λ u b. n u (omega (arith, b))))).0

  later : (t : ℕ) → suc (suc (suc t)) ≤ length xs → ((u : ℕ) → t ≤ u → u < suc (suc (suc t)) → line_opens h xs e u ≡ false)
      → calm3 (sender_at (suc (suc (suc t)))) ≡ true
  later t m n =
      ap calm3 (quiet_next (suc (suc t)) m (n (suc (suc t)) (omega arith) (omega arith)))
      ∙ thrice (sender_at (suc (suc t))) (line_on h xs e (suc (suc t)))
      (ap calm2 (quiet_next (suc t) (omega (arith, m)) (n (suc t) (omega arith) (omega arith)))
      ∙ twice (sender_at (suc t)) (line_on h xs e (suc t))
      (ap calm1 (quiet_next t (omega (arith, m)) (n t (omega arith) (omega arith)))
      ∙ once (sender_at t) (line_on h xs e t) (held_at t (omega (arith, m)))))

  calm : (p : ℕ) → p ≤ length xs → ((u : ℕ) → u < p → p < u + 8 → line_opens h xs e u ≡ false) → calm3 (sender_at p) ≡ true
  calm zero m n = early 0 m (λ u b. absurd (omega (arith, b)))
  calm (suc zero) m n = early 1 m (λ u b. n u b (omega (arith, b)))
  calm (suc (suc zero)) m n = early 2 m (λ u b. n u b (omega (arith, b)))
  calm (suc (suc (suc p))) m n = later p m (λ u a b. n u b (omega (arith, a)))

  module _ (p : ℕ) (m : p + 4 < length xs) (w : Pulse h xs e p) where
    none_before : (u : ℕ) → u < p → p < u + 8 → line_opens h xs e u ≡ false
    none_before u a b = go (line_opens h xs e u) refl
      where
        go : (c : Bool) → line_opens h xs e u ≡ c → c ≡ false
        go false c = refl
        go true c =
            let d : u + (p - u) ≡ p = omega (arith, a) in
            sym w.opens ∙ subst (λ (t : ℕ). line_opens h xs e t ≡ false) d (none_soon h xs v e u c (p - u) (omega (arith, a)) (omega (arith, a, b)) (omega (arith, d, m)))

    start : ((sender_at p).first ≡ false) × ((sender_at p).sound ≡ new_sound)
    start = at_rest (sender_at p) (calm p (omega (arith, m)) none_before) w.off_before

    -- no other ping of the line opens while it is answered
    none_after : (k : ℕ) → 0 < k → k < 4 → line_opens h xs e (p + k) ≡ false
    none_after k a b = none_soon h xs v e p w.opens k a (omega (arith, b)) (omega (arith, b, m))

    -- k ticks after it: the sender's receiver stands at r
    abbrev Stands : ℕ → SoundReceiver → Type 0
    Stands t r = ((sender_at t).first ≡ false) × ((sender_at t).sound ≡ r)

    first : Stands (suc p) (sound_after new_sound true)
    first =
        let c = next_sender p (omega (arith, m)) ∙ ap₂ (λ (a b : Bool). sent (sender_at p) (record { line = a; ping = b })) (w.off p (omega arith) (omega arith)) w.opens in
        let q = pulse_step (sender_at p) start.0 w.off_before in
        (ap (λ (s : Sender). s.first) c ∙ q.0, ap (λ (s : Sender). s.sound) c ∙ q.1 ∙ ap (λ (r : SoundReceiver). sound_after r true) start.1)

    onward : (k : ℕ) → 0 < k → k < 4 → (r : SoundReceiver) → Stands (p + k) r → Stands (suc (p + k)) (sound_after r false)
    onward k a b r s =
        let c = quiet_next (p + k) (omega (arith, b, m)) (none_after k a b)
        ∙ ap (rests (sender_at (p + k))) (w.off (p + k) (omega arith) (omega (arith, b))) in
        let q = rest_step (sender_at (p + k)) s.0 in
        (ap (λ (s : Sender). s.first) c ∙ q.0, ap (λ (s : Sender). s.sound) c ∙ q.1 ∙ ap (λ (r : SoundReceiver). sound_after r false) s.1)

    move : (t u : ℕ) (r q : SoundReceiver) → t ≡ u → r ≡ q → Stands t r → Stands u q
    move t u r q a b s = (ap (λ (k : ℕ). (sender_at k).first) (sym a) ∙ s.0, ap (λ (k : ℕ). (sender_at k).sound) (sym a) ∙ s.1 ∙ b)

    pub pattern : Pattern h xs e p
    pattern =
        let a = move (suc p) (p + 1) (sound_after new_sound true) (record { stands = Checking; answer = true }) (omega arith) after_pulse.0 first in
        let b = move (suc (p + 1)) (p + 2) _ (record { stands = Answering; answer = false }) (omega arith) after_pulse.1 (onward 1 (omega arith) (omega arith) _ a) in
        let c = move (suc (p + 2)) (p + 3) _ (record { stands = Quiet; answer = true }) (omega arith) after_pulse.2 (onward 2 (omega arith) (omega arith) _ b) in
        let d = move (suc (p + 3)) (p + 4) _ new_sound (omega arith) after_pulse.3 (onward 3 (omega arith) (omega arith) _ c) in
        record {
          one = ap (λ (r : SoundReceiver). r.answer) a.1;
          two = ap (λ (r : SoundReceiver). r.answer) b.1;
          three = ap (λ (r : SoundReceiver). r.answer) c.1;
          four = ap (λ (r : SoundReceiver). r.answer) d.1;
        }
