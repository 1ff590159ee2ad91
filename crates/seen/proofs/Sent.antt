-- The pairs of a run are what a sender sends that is given the run's lines and pings: from here on link_rules' Seen speaks of them.
-- Assumes nothing.
use Prim.Native.Nat.{ℕ, zero, suc, ◌≤◌, ◌<◌}
use mathlib.Core.Path.{◌≡◌, refl, sym, ap, ap₂, ◌∙◌, subst}
use mathlib.Core.Bool.{Bool, true, false, not, ◌&&◌}
use mathlib.Core.List.{List, [], ◌∷◌}
use native.Mathlib.Omega.{arith}
use lib.ListN.{get_or, length, take}
use Rattle.bits.specs.Bits.{bit}
use Rattle.escalation.proofs.ListTicks.{at, input, at_valid, at_next, given_handler, given_lines}
use Rattle.escalation.specs.List.{no_tick}
use Rattle.laws.proofs.Tick.Senders.{after_sender, escalation_at, after_escalation}
use Rattle.laws.proofs.Tick.Runs.{ticks_at}
use Rattle.laws.proofs.Valid.KeepsValid.{ticked_valid}
use Rattle.laws.proofs.Valid.Refusal7.{ticked_good, ticked_handler}
use Rattle.laws.specs.Sending.{drive_in}
use Rattle.link_rules.specs.Codes.{last_bit}
use Rattle.link_rules.specs.Seen
use Rattle.link_rules.specs.Seen.{on, no_drive, line_at, pulse_at}
use Rattle.link_rules.specs.Sender.{new_sender, pulses, pair, sent, sents, pairs}
use Rattle.link_rules.specs.Senders.{line_count}
use Rattle.link_rules.specs.declared.Drive.{Drive}
use Rattle.link_rules.specs.declared.Sender.{Sender}
use Rattle.rules.specs.Run.{run, ticks}
use Rattle.rules.specs.State.{sender}
use Rattle.rules.specs.Tick.{lines, escalation_pairs, output_of, after, tick, ticked}
use Rattle.rules.specs.Valid.{valid}
use Rattle.rules.specs.declared.Handler.{Handler}
use Rattle.rules.specs.declared.Input.{Input}
use Rattle.rules.specs.declared.LinePairs.{LinePairs}
use Rattle.rules.specs.declared.Ticked.{Ticked}
use Rattle.seen.specs.Wires.{sent_positive, sent_negative, line_on, sent_before, first_before, pulse_in}

-- what line e's sender is given in the ticks of a list
unfoldable pub drives_of : Handler → List Input → ℕ → List Drive
drives_of h [] e = []
drives_of h (x ∷ xs) e = drive_in h x e ∷ drives_of (ticked h x).handler xs e

pub length_drives : (h : Handler) (xs : List Input) (e : ℕ) → length (drives_of h xs e) ≡ length xs
unfolding drives_of
length_drives h [] e = refl
length_drives h (x ∷ xs) e = ap suc (length_drives (ticked h x).handler xs e)

pub length_pairs : (s : Sender) (ds : List Drive) → length (pairs s ds) ≡ length ds
unfolding pairs
length_pairs s [] = refl
length_pairs s (d ∷ ds) = ap suc (length_pairs (sent s d) ds)

drive_at : (h : Handler) (xs : List Input) (e i : ℕ) → i < length xs → get_or (drives_of h xs e) i no_drive ≡ drive_in (at h xs i) (input xs i) e
unfolding drives_of run
drive_at h [] e i l = absurd (omega (arith, l))
drive_at h (x ∷ xs) e zero l = refl
drive_at h (x ∷ xs) e (suc i) l = drive_at (ticked h x).handler xs e i (omega (arith, l))

-- ── the sender, tick by tick ──

next_sender : (h : Handler) (x : Input) (e : ℕ) → valid h ≡ true → e < line_count → sender (ticked h x).handler e ≡ sent (sender h e) (drive_in h x e)
next_sender h x e v l = ap (λ (g : Handler). sender g e) (ticked_handler h x v) ∙ after_sender h x e l

pub sender_at : (h : Handler) (xs : List Input) (e i : ℕ) → valid h ≡ true → e < line_count → i ≤ length xs
    → sender (at h xs i) e ≡ sents (sender h e) (take i (drives_of h xs e))
unfolding run drives_of sents
sender_at h xs e zero v l m = refl
sender_at h [] e (suc i) v l m = absurd (omega (arith, m))
sender_at h (x ∷ xs) e (suc i) v l m =
    sender_at (ticked h x).handler xs e i (ticked_valid h x v) l (omega (arith, m))
    ∙ ap (λ (s : Sender). sents s (take i (drives_of (ticked h x).handler xs e))) (next_sender h x e v l)

-- ── the pair that a tick puts out is what the sender sends in it ──

given_escalation : (h : Handler) (xs : List Input) (i : ℕ) → valid h ≡ true → i < length xs
    → (get_or (ticks h xs) i no_tick).output.escalation ≡ escalation_pairs (after (at h xs i) (input xs i))
unfolding tick output_of
given_escalation h xs i v l =
    ap (λ (t : Ticked). t.output.escalation) (ticks_at h xs i _ no_tick l ∙ ticked_good (at h xs i) (input xs i) (at_valid h xs v i))

module _ (h : Handler) (xs : List Input) (e : ℕ) (v : valid h ≡ true) (l : e < line_count) where
  abbrev ds : List Drive
  ds = drives_of h xs e

  pub sent_is : (i : ℕ) → i < length xs
      → (sent_positive h xs e i ≡ pair (sender (at h xs i) e) (drive_in (at h xs i) (input xs i) e))
      × (sent_negative h xs e i ≡ not (pair (sender (at h xs i) e) (drive_in (at h xs i) (input xs i) e)))
  sent_is i m =
      let c = given_escalation h xs i v m in
      let w = after_escalation (at h xs i) (input xs i) e l in
      (ap (λ (p : LinePairs). bit p.pos e) c ∙ w.0, ap (λ (p : LinePairs). bit p.neg e) c ∙ w.1)

  pair_at : (s : Sender) (cs : List Drive) (i : ℕ) → i < length cs → on (pairs s cs) i ≡ pair (sents s (take i cs)) (get_or cs i no_drive)
  unfolding pairs sents
  pair_at s [] i m = absurd (omega (arith, m))
  pair_at s (c ∷ cs) zero m = refl
  pair_at s (c ∷ cs) (suc i) m = pair_at (sent s c) cs i (omega (arith, m))

  -- so are all pairs of the list
  pub sent_at : (i : ℕ) → i < length xs → sent_positive h xs e i ≡ on (pairs (sender h e) ds) i
  sent_at i m =
      (sent_is i m).0
      ∙ sym (ap₂ pair (sym (sender_at h xs e i v l (omega (arith, m)))) (drive_at h xs e i m))
      ∙ sym (pair_at (sender h e) ds i (subst (λ (n : ℕ). i < n) (sym (length_drives h xs e)) m))

  pub line_at_law : (i : ℕ) → i < length xs → line_at ds i ≡ line_on h xs e i
  line_at_law i m =
      ap (λ (d : Drive). d.line) (drive_at h xs e i m)
      ∙ sym (ap (λ (n : ℕ). bit n e) (given_lines h xs v i m ∙ ap lines (given_handler h xs v i m ∙ at_next h xs v i m)))

  -- ── and what it looks back at ──

  pub first_at : (i : ℕ) → i < length xs → Seen.first_before ds i ≡ first_before h xs e i
  first_at zero m = refl
  first_at (suc zero) m = line_at_law zero (omega (arith, m)) ∙ go (line_on h xs e zero)
    where
      go : (b : Bool) → b ≡ (b && true)
      go true = refl
      go false = refl
  first_at (suc (suc i)) m = ap₂ (λ (a b : Bool). a && not b) (line_at_law (suc i) (omega (arith, m))) (line_at_law i (omega (arith, m)))

  -- the pair of the tick before is where the sender's receiver stands
  was_sent : sender h e ≡ new_sender → (i : ℕ) → i < length xs → last_bit (sender (at h xs i) e).sound.stands ≡ sent_before h xs e i
  unfolding run
  was_sent n zero m = ap (λ (s : Sender). last_bit s.sound.stands) n
  was_sent n (suc i) m =
      let b : i < length xs = omega (arith, m) in
      sym (escalation_at (at h xs (suc i)) e l).0 ∙ ap (λ (g : Handler). bit (escalation_pairs g).pos e) (at_next h xs v i b)
      ∙ sym (ap (λ (p : LinePairs). bit p.pos e) (given_escalation h xs i v b))

  pub pulse_at_law : sender h e ≡ new_sender → (i : ℕ) → i < length xs → pulse_at ds i ≡ pulse_in h xs e i
  pulse_at_law n i m =
      ap₂ pulses (ap (λ (s : Sender). sents s (take i ds)) (sym n) ∙ sym (sender_at h xs e i v l (omega (arith, m)))) (drive_at h xs e i m)
      ∙ ap₂ (λ (a b : Bool). (drive_in (at h xs i) (input xs i) e).ping && (not a && not b))
      (sym (ap (λ (d : Drive). d.line) (drive_at h xs e i m)) ∙ line_at_law i m) (was_sent n i m)
