-- The claim of specs/Seen.antt: what a new receiver on a sound pair sees of a run, joined with demand 3.
-- Assumes nothing.
use Prim.Native.Nat.{ℕ, zero, suc, ◌+◌, ◌-◌, ◌≤◌, ◌<◌}
use mathlib.Core.Path.{◌≡◌, refl, sym, ap, ap₂, ◌∙◌, subst}
use mathlib.Core.Logic.{◌⊎◌, inl, inr}
use mathlib.Core.Bool.{Bool, true, false, false≢true, not, and-false, ◌&&◌, ◌||◌}
use mathlib.Core.List.{List, [], ◌∷◌}
use native.Mathlib.Omega.{arith}
use native.Mathlib.Decide.{dec_lt}
use lib.Dec.{eqb}
use lib.ListN.{length, take}
use Rattle.bits.proofs.IndexLaws.{and-true, any_none}
use Rattle.class_rules.specs.Class.{line_enable, line_map}
use Rattle.class_rules.specs.declared.Class.{Class}
use Rattle.escalation.proofs.Demand3.{demand3}
use Rattle.escalation.proofs.ListTicks.{at, input, at_next}
use Rattle.escalation.specs.Escalation.{phase_start, OfPhase, Starts, DrivenByOther, Escalated}
use Rattle.escalation.specs.List.{IsTick, before, input_at, given_at, class_read}
use Rattle.laws.proofs.Access.Written.{new_valid}
use Rattle.laws.proofs.Map.Cases.{pick}
use Rattle.laws.proofs.Samples.Receivers.{acted_links}
use Rattle.laws.proofs.Tick.Senders.{after_sender}
use Rattle.laws.proofs.Tick.Turns.{local_3}
use Rattle.laws.proofs.Valid.KeepsValid.{made_valid}
use Rattle.laws.specs.Sending.{drive_in}
use Rattle.link_rules.proofs.Seen
use Rattle.link_rules.proofs.SenderLaws.{sender_by}
use Rattle.link_rules.specs.EscalationReceiver.{new_escalation_receiver, sound_after, escalates, listened, listeneds, responds_positive, responds_negative}
use Rattle.link_rules.specs.Pair.{equal, differ}
use Rattle.link_rules.specs.Seen.{on, on_before, seen}
use Rattle.link_rules.specs.Sender.{new_sender, pair, sent, pairs}
use Rattle.link_rules.specs.Senders.{line_count, sender_in}
use Rattle.link_rules.specs.declared.Drive.{Drive}
use Rattle.link_rules.specs.declared.EscalationReceiver.{EscalationReceiver}
use Rattle.link_rules.specs.declared.Sender.{Sender}
use Rattle.link_rules.specs.declared.SoundReceiver.{SoundReceiver}
use Rattle.rules.specs.Access.{acted}
use Rattle.rules.specs.Run.{run}
use Rattle.rules.specs.Samples.{checks, line_wrong, occurs}
use Rattle.rules.specs.State.{most, new_handler, bad_count, made, local, sender}
use Rattle.rules.specs.Tick.{hears}
use Rattle.rules.specs.Valid.{valid}
use Rattle.rules.specs.declared.Field.{Field}
use Rattle.rules.specs.declared.Handler.{Handler}
use Rattle.rules.specs.declared.Input.{Input}
use Rattle.rules.specs.declared.Links.{Links}
use Rattle.rules.specs.declared.Made.{Made}
use Rattle.seen.specs.Seen.{Sends, ComesBack, Sees, SeenSoon, Second, NewSenders}
use Rattle.seen.specs.Wires.{sent_positive, line_on, ping_opens, sent_before, line_before, first_before, lone_before, pulse_in, receiver_at, seen_in, Sound}
use Rattle.seen.proofs.Sent.{drives_of, length_drives, length_pairs, sent_is, sent_at, line_at_law, first_at, pulse_at_law}

-- ── one receiver ──

listeneds_next : (r : EscalationReceiver) (ps : List Bool) (i : ℕ) → i < length ps
    → listeneds r (take (suc i) ps) ≡ listened (listeneds r (take i ps)) (on ps i) (not (on ps i))
unfolding listeneds
listeneds_next r [] i l = absurd (omega (arith, l))
listeneds_next r (p ∷ ps) zero l = refl
listeneds_next r (p ∷ ps) (suc i) l = listeneds_next (listened r p (not p)) ps i (omega (arith, l))

-- on a sound pair it is never broken
listened_step : (s : SoundReceiver) (p : Bool) → listened (record { sound = s; broken = false }) p (not p) ≡ record { sound = sound_after s p; broken = false }
unfolding listened
listened_step s true = refl
listened_step s false = refl

either : (a b : Bool) → (a || b) ≡ true → (a ≡ true) ⊎ (b ≡ true)
either true b e = inl refl
either false b e = inr e

-- ── line e of a run from a state whose sender of it is as new ──

module _ (h : Handler) (xs : List Input) (n : NewSenders h) (e : ℕ) (l : e < line_count) where
  abbrev ds : List Drive
  ds = drives_of h xs e

  abbrev prs : List Bool
  prs = pairs new_sender ds

  in_drives : (i : ℕ) → i < length xs → i < length ds
  in_drives i m = subst (λ (k : ℕ). i < k) (sym (length_drives h xs e)) m

  in_pairs : (i : ℕ) → i < length xs → i < length prs
  in_pairs i m = subst (λ (k : ℕ). i < k) (sym (length_pairs new_sender ds ∙ length_drives h xs e)) m

  positive_is : (i : ℕ) → i < length xs → sent_positive h xs e i ≡ on prs i
  positive_is i m = sent_at h xs e n.accepted l i m ∙ ap (λ (s : Sender). on (pairs s ds) i) (n.senders e l)

  pub sends : Sends h xs e
  sends =
      record {
        differs = λ i m. let c = sent_is h xs e n.accepted l i m in c.1 ∙ ap not (sym c.0);
        pair = λ i m. positive_is i m ∙ (Seen.sends ds).pair_is i (in_drives i m)
            ∙ ap₂ ◌||◌ (ap₂ ◌||◌ (line_at_law h xs e n.accepted l i m) (first_at h xs e n.accepted l i m))
            (pulse_at_law h xs e n.accepted l (n.senders e l) i m);
      }

  before_is : (i : ℕ) → i < length xs → on_before prs i ≡ sent_before h xs e i
  before_is zero m = refl
  before_is (suc i) m = sym (positive_is i (omega (arith, m)))

  -- a line that is on holds the pair
  holds : (i : ℕ) → i < length xs → line_on h xs e i ≡ true → sent_positive h xs e i ≡ true
  holds i m o = sends.pair i m ∙ ap (λ (b : Bool). (b || first_before h xs e i) || pulse_in h xs e i) o

  held_before : (i : ℕ) → i < length xs → line_before h xs e i ≡ true → sent_before h xs e i ≡ true
  held_before zero m o = o
  held_before (suc i) m o = holds i (omega (arith, m)) o

  module _ (ps qs : ℕ → Bool) (w : Sound h xs e ps qs) where
    negative_is : (i : ℕ) → i < length xs → qs i ≡ not (on prs i)
    negative_is i m = w.negative i m ∙ sends.differs i m ∙ ap not (positive_is i m)

    receiver_is : (i : ℕ) → i ≤ length xs → receiver_at ps qs i ≡ listeneds new_escalation_receiver (take i prs)
    unfolding receiver_at listeneds
    receiver_is zero m = refl
    receiver_is (suc i) m =
        ap₂ (λ (r : EscalationReceiver) (p : Bool). listened r p (qs i)) (receiver_is i (omega (arith, m))) (w.positive i m ∙ positive_is i m)
        ∙ ap (listened (listeneds new_escalation_receiver (take i prs)) (on prs i)) (negative_is i m)
        ∙ sym (listeneds_next new_escalation_receiver prs i (in_pairs i m))

    seen_is : (i : ℕ) → i < length xs → seen_in ps qs i ≡ seen prs i
    seen_is i m =
        ap₂ (λ (r : EscalationReceiver) (p : Bool). escalates r p (qs i)) (receiver_is i (omega (arith, m))) (w.positive i m ∙ positive_is i m)
        ∙ ap (escalates (listeneds new_escalation_receiver (take i prs)) (on prs i)) (negative_is i m)

    exactly : (i : ℕ) → i < length xs → seen_in ps qs i ≡ (sent_positive h xs e i && sent_before h xs e i)
    exactly i m = seen_is i m ∙ Seen.seen_on prs i ∙ ap₂ ◌&&◌ (sym (positive_is i m)) (before_is i m)

    held : (i : ℕ) → i < length xs → line_on h xs e i ≡ true → line_before h xs e i ≡ true → seen_in ps qs i ≡ true
    held i m o b = exactly i m ∙ ap₂ ◌&&◌ (holds i m o) (held_before i m b)

    first : (i : ℕ) → suc i < length xs → line_on h xs e i ≡ true → (seen_in ps qs i ≡ true) ⊎ (seen_in ps qs (suc i) ≡ true)
    first i m o = go ((Seen.theorem ds).every_line i (in_drives (suc i) m) (line_at_law h xs e n.accepted l i (omega (arith, m)) ∙ o))
      where
        go : (seen prs i ≡ true) ⊎ (seen prs (suc i) ≡ true) → (seen_in ps qs i ≡ true) ⊎ (seen_in ps qs (suc i) ≡ true)
        go (inl s) = inl (seen_is i (omega (arith, m)) ∙ s)
        go (inr s) = inr (seen_is (suc i) m ∙ s)

    -- a pulse's pair was off in the tick before
    not_pulse : (i : ℕ) → sent_before h xs e i ≡ true → pulse_in h xs e i ≡ true → false ≡ true
    not_pulse i b p =
        let c = and-true (not (line_on h xs e i)) (not (sent_before h xs e i)) (and-true (ping_opens h xs e i) (not (line_on h xs e i) && not (sent_before h xs e i)) p).1 in
        ap not (sym b) ∙ c.1

    only : (i : ℕ) → i < length xs → seen_in ps qs i ≡ true → (line_on h xs e i ≡ true) ⊎ (lone_before h xs e i ≡ true)
    only i m s = go (line_on h xs e i) refl
      where
        both : (sent_positive h xs e i ≡ true) × (sent_before h xs e i ≡ true)
        both = and-true (sent_positive h xs e i) (sent_before h xs e i) (sym (exactly i m) ∙ s)

        go : (b : Bool) → line_on h xs e i ≡ b → (line_on h xs e i ≡ true) ⊎ (lone_before h xs e i ≡ true)
        go true o = inl o
        go false o =
            lone (either (first_before h xs e i) (pulse_in h xs e i)
            (ap (λ (b : Bool). (b || first_before h xs e i) || pulse_in h xs e i) (sym o) ∙ sym (sends.pair i m) ∙ both.0))
          where
            lone : (first_before h xs e i ≡ true) ⊎ (pulse_in h xs e i ≡ true) → (line_on h xs e i ≡ true) ⊎ (lone_before h xs e i ≡ true)
            lone (inl f) = inr (ap₂ (λ (a b : Bool). a && not b) f o)
            lone (inr p) = absurd (false≢true (not_pulse i both.1 p))

    never : (i : ℕ) → i < length xs → line_on h xs e i ≡ false → line_before h xs e i ≡ false → seen_in ps qs i ≡ false
    never i m o b = go (seen_in ps qs i) refl
      where
        no_first : (k : ℕ) → line_before h xs e k ≡ false → first_before h xs e k ≡ false
        no_first zero c = refl
        no_first (suc k) c = ap (λ (a : Bool). a && not (line_before h xs e k)) c

        go : (s : Bool) → seen_in ps qs i ≡ s → s ≡ false
        go false s = refl
        go true s = out (only i m s)
          where
            out : (line_on h xs e i ≡ true) ⊎ (lone_before h xs e i ≡ true) → true ≡ false
            out (inl c) = sym c ∙ o
            out (inr c) = sym c ∙ ap (λ (a : Bool). a && not (line_on h xs e i)) (no_first i b)

    -- ── the sender's own receiver ──

    in_step : (i : ℕ) → i ≤ length xs → receiver_at ps qs i ≡ record { sound = (sender (at h xs i) e).sound; broken = false }
    unfolding receiver_at run sent
    in_step zero m = ap (λ (s : Sender). record { sound = s.sound; broken = false }) (sym (n.senders e l))
    in_step (suc i) m =
        let c = sent_is h xs e n.accepted l i m in
        let s : Sender = sender (at h xs i) e in
        let d : Drive = drive_in (at h xs i) (input xs i) e in
        ap₂ (λ (r : EscalationReceiver) (p : Bool). listened r p (qs i)) (in_step i (omega (arith, m))) (w.positive i m ∙ c.0)
        ∙ ap (listened (record { sound = s.sound; broken = false }) (pair s d)) (w.negative i m ∙ c.1)
        ∙ listened_step s.sound (pair s d)
        ∙ sym (ap (λ (z : Sender). record { sound = z.sound; broken = false })
        (ap (λ (g : Handler). sender g e) (at_next h xs n.accepted i m) ∙ after_sender (at h xs i) (input xs i) e l))

    no_fault : (i : ℕ) → i < length xs → ComesBack (input xs i) e (receiver_at ps qs i)
        → line_wrong (acted (at h xs i) (input xs i).access) (input xs i).sample e ≡ false
    unfolding line_wrong
    no_fault i m b =
        let c = in_step i (omega (arith, m)) in
        let a : Bool = (sender (at h xs i) e).sound.answer in
        ap (λ (b : Bool). checks (input xs i).sample.receive && b)
        (ap₂ (λ (x y : Bool). equal x y || differ x (sender (acted (at h xs i) (input xs i).access) e).sound.answer)
        (b.positive ∙ ap responds_positive c) (b.negative ∙ ap responds_negative c)
        ∙ ap (λ (z : Links). equal a (not a) || differ a (sender_in z.senders e).sound.answer) (acted_links (at h xs i) (input xs i).access)
        ∙ right a)
        ∙ and-false (checks (input xs i).sample.receive)
      where
        right : (a : Bool) → (equal a (not a) || differ a a) ≡ false
        right true = refl
        right false = refl

    pub sees : Sees h xs e ps qs
    sees = record { exactly = exactly; held = held; first = first; only = only; never = never; in_step = in_step; no_fault = no_fault }

    -- ── joined with demand 3 ──

    module _ (begin k s : ℕ) (is_s : IsTick begin xs s) (start : Starts (before begin h xs s) (input_at begin xs s) k) where
      abbrev c : Class
      c = class_read (before begin h xs s) (input_at begin xs s) k

      escalated : (t : ℕ) → s ≤ t → IsTick begin xs t → Escalated c s t (given_at begin h xs t) k
      escalated t later is_t = (demand3 h xs n.accepted).escalation begin k s is_s start t later is_t

      -- where t is of the mapped phase the line is on
      line_on_law : line_enable c e ≡ true → (t : ℕ) → IsTick begin xs t → OfPhase c s (line_map c e) t → line_on h xs e (t - begin) ≡ true
      line_on_law en t is_t o = ((escalated t (omega (arith, o.from)) is_t).line e l).inside en o

      pub seen_soon : line_enable c e ≡ true → (t : ℕ) → IsTick begin xs t → OfPhase c s (line_map c e) t → SeenSoon begin xs c s e ps qs t
      seen_soon en t is_t o = go (dec_lt (s + phase_start c (line_map c e)) t)
        where
          i : ℕ
          i = t - begin

          inside : i < length xs
          inside = omega (arith, is_t.from, is_t.to)

          -- a later tick of the phase: the line was on in the tick before too
          later : s + phase_start c (line_map c e) < t → seen_in ps qs i ≡ true
          later m =
              let j : ℕ = t - 1 - begin in
              let b : suc j ≡ i = omega (arith, m, is_s.from) in
              let on_before_law = line_on_law en (t - 1) (record { from = omega (arith, m, is_s.from); to = omega (arith, is_t.to) })
              (record { from = omega (arith, m); to = omega (arith, o.to) }) in
              subst (λ (k : ℕ). seen_in ps qs k ≡ true) b
              (held (suc j) (omega (arith, b, inside)) (subst (λ (k : ℕ). line_on h xs e k ≡ true) (sym b) (line_on_law en t is_t o)) on_before_law)

          -- the first one
          soon : (b : Bool) → seen_in ps qs i ≡ b → t ≡ s + phase_start c (line_map c e) → SeenSoon begin xs c s e ps qs t
          soon true q r = inl q
          soon false q r = inr (r, next)
            where
              next : IsTick begin xs (suc t) → seen_in ps qs (suc t - begin) ≡ true
              next m =
                  let b : suc i ≡ suc t - begin = omega (arith, is_t.from) in
                  subst (λ (k : ℕ). seen_in ps qs k ≡ true) b (out (first i (omega (arith, b, m.to)) (line_on_law en t is_t o)))
                where
                  out : (seen_in ps qs i ≡ true) ⊎ (seen_in ps qs (suc i) ≡ true) → seen_in ps qs (suc i) ≡ true
                  out (inl x) = absurd (false≢true (sym q ∙ x))
                  out (inr x) = x

          go : Dec (s + phase_start c (line_map c e) < t) → SeenSoon begin xs c s e ps qs t
          go (yes m) = inl (later m)
          go (no m) = soon (seen_in ps qs i) refl (omega (arith, m, o.from))

      pub besides : (t : ℕ) → s ≤ t → IsTick begin xs t → ¬ ((line_enable c e ≡ true) × OfPhase c s (line_map c e) t) → seen_in ps qs (t - begin) ≡ true
          → DrivenByOther (given_at begin h xs t).handler k e ⊎ (lone_before h xs e (t - begin) ≡ true)
      besides t later is_t out q = go (only (t - begin) (omega (arith, is_t.from, is_t.to)) q)
        where
          go : (line_on h xs e (t - begin) ≡ true) ⊎ (lone_before h xs e (t - begin) ≡ true)
              → DrivenByOther (given_at begin h xs t).handler k e ⊎ (lone_before h xs e (t - begin) ≡ true)
          go (inl o) = inl ((((escalated t later is_t).line e l).outside out).0 o)
          go (inr o) = inr o

-- all four lines
none_wrong : (h : Handler) (xs : List Input) → NewSenders h → (ps qs : ℕ → ℕ → Bool) → ((e : ℕ) → e < line_count → Sound h xs e (ps e) (qs e))
    → (i : ℕ) → i < length xs → ((e : ℕ) → e < line_count → ComesBack (input xs i) e (receiver_at (ps e) (qs e) i))
    → occurs (acted (at h xs i) (input xs i).access) (hears (at h xs i) (input xs i)) 3 ≡ false
none_wrong h xs n ps qs w i m b =
    local_3 (at h xs i) (input xs i)
    ∙ ap (λ (c : Bool). c && eqb (local (acted (at h xs i) (input xs i).access) Field.En 3) 1)
    (any_none (line_wrong (acted (at h xs i) (input xs i).access) (input xs i).sample) line_count
    (λ e l. (sees h xs n e l (ps e) (qs e) (w e l)).no_fault i m (b e l)))

-- the second statement, of every list of ticks from every accepted state whose senders are as new
pub second : (h : Handler) (xs : List Input) → NewSenders h → Second h xs
second h xs n =
    record {
      sends = λ e l. sends h xs n e l;
      sees = λ e ps qs l w. sees h xs n e l ps qs w;
      escalation = λ begin k s e ps qs l w i b. seen_soon h xs n e l ps qs w begin k s i b;
      besides = λ begin k s e ps qs l w i b. besides h xs n e l ps qs w begin k s i b;
      no_local_3 = none_wrong h xs n;
    }

-- what is made is such a state, also the handler of no alerts that refusal 6 leaves
pub made_senders : (n : ℕ) → NewSenders (made n).handler
unfolding made new_handler
made_senders n =
    record {
      accepted = made_valid n;
      senders = pick (λ (m : Made). (e : ℕ) → e < line_count → sender m.handler e ≡ new_sender) (bad_count n) _ _ (λ _. sender_by (λ e. new_sender))
          (λ _. sender_by (λ e. new_sender));
    }

pub from_made : (n : ℕ) (xs : List Input) → Second (made n).handler xs
from_made n xs = second (made n).handler xs (made_senders n)

-- so is a new handler, of no alerts too
zero_accepted : valid (new_handler zero) ≡ true
unfolding made
zero_accepted = made_valid zero

pub new_senders : (n : ℕ) → n ≤ most → NewSenders (new_handler n)
unfolding new_handler
new_senders n b = record { accepted = new_accepted n b; senders = sender_by (λ e. new_sender) }
  where
    new_accepted : (n : ℕ) → n ≤ most → valid (new_handler n) ≡ true
    new_accepted zero b = zero_accepted
    new_accepted (suc n) b = new_valid (suc n) (omega arith) b

pub from_new : (n : ℕ) (xs : List Input) → n ≤ most → Second (new_handler n) xs
from_new n xs b = second (new_handler n) xs (new_senders n b)
