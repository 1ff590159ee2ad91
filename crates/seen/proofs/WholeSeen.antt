-- The second statement once more, taken from the theorem over every new handler, list, line, class and tick, in raw numbers and the rules' own words. A claim
-- that says less, or asks for more (sound wires on other lines, an escalation that is seen later, what is seen or sent left open), does not give it.
-- Assumes nothing.
use Prim.Native.Nat.{ℕ, zero, suc, ◌+◌, ◌-◌, ◌*◌, ◌≤◌, ◌<◌, max}
use mathlib.Core.Path.{◌≡◌, refl, sym, ap, ap₂, ◌∙◌, subst}
use mathlib.Core.Logic.{◌↔◌, ◌≢◌, ◌⊎◌, inl, inr}
use mathlib.Core.Bool.{Bool, true, false, false≢true, not, ◌&&◌, ◌||◌}
use mathlib.Core.List.{List}
use native.Mathlib.Omega.{arith}
use lib.Dec.{eqb}
use lib.ListN.{get_or, length, take}
use Rattle.bits.proofs.IndexLaws.{and-true}
use Rattle.bits.specs.Bits.{bit, field}
use Rattle.class_rules.specs.Class.{drives}
use Rattle.class_rules.specs.Step.{starts}
use Rattle.class_rules.specs.declared.Class.{Class}
use Rattle.escalation.specs.Escalation.{phase_start, OfPhase, Starts}
use Rattle.escalation.specs.List.{IsTick, no_input, no_tick}
use Rattle.laws.specs.Pinging.{meets_in}
use Rattle.link_rules.proofs.WholeSeen.{was_right}
use Rattle.link_rules.specs.Codes.{response_of}
use Rattle.link_rules.specs.EscalationReceiver.{escalates, listened, responds_positive, responds_negative}
use Rattle.link_rules.specs.Pair
use Rattle.link_rules.specs.Sender.{new_sender}
use Rattle.link_rules.specs.Senders.{sender_in}
use Rattle.link_rules.specs.Timer.{is_line, line_of, opens}
use Rattle.link_rules.specs.declared.EscalationReceiver.{EscalationReceiver}
use Rattle.link_rules.specs.declared.Response.TheVariants.{Quiet}
use Rattle.link_rules.specs.declared.Sender.{Sender}
use Rattle.rules.specs.Access.{acted}
use Rattle.rules.specs.Run.{run, ticks}
use Rattle.rules.specs.Samples.{at_rest, checks, receive_positive, receive_negative, line_wrong, occurs}
use Rattle.rules.specs.State.{new_handler, made, class_at}
use Rattle.rules.specs.Tick.{hears, signals_in}
use Rattle.rules.specs.Valid.{valid}
use Rattle.rules.specs.declared.Access.{Access}
use Rattle.rules.specs.declared.Handler.{Handler}
use Rattle.rules.specs.declared.Input.{Input}
use Rattle.rules.specs.declared.Receive.{Receive}
use Rattle.rules.specs.declared.Receive.TheVariants.{Pairs}
use Rattle.rules.specs.declared.Ticked.{Ticked}
use Rattle.seen.specs.Seen.{ComesBack, SeenSoon, Second}
use Rattle.seen.specs.Wires.{first_before, lone_before, receiver_at, Sound}
use Rattle.seen.proofs.Seen.{second, from_made, from_new}

-- how many ticks after the start Phase p starts, by the lengths alone
abbrev start_of : List ℕ → ℕ → ℕ
start_of ls zero = 0
start_of ls (suc p) = start_of ls p + max (get_or ls p 0) 1

same_start : (c : Class) (p : ℕ) → phase_start c p ≡ start_of c.lengths p
same_start c zero = refl
same_start c (suc p) = ap (λ (n : ℕ). n + max (get_or c.lengths p 0) 1) (same_start c p)

-- a receive pair that comes back as it was given
comes_back : (x : Input) (p m e : ℕ) (r : EscalationReceiver) → x.sample.receive ≡ Pairs p m → bit p e ≡ responds_positive r → bit m e ≡ responds_negative r
    → ComesBack x e r
comes_back x p m e r b y z =
    record { positive = ap (λ (c : Receive). receive_positive c e) b ∙ y; negative = ap (λ (c : Receive). receive_negative c e) b ∙ z }

-- a new handler of n alerts, 0 to 248, any list, and line e's receiver with positive wire ps and negative wire qs, which arrive as sent
module _ (n : ℕ) (small : n ≤ 248) (xs : List Input) (e : ℕ) (l : e < 4) (ps qs : ℕ → Bool)
    (positive : (i : ℕ) → i < length xs → ps i ≡ bit (get_or (ticks (new_handler n) xs) i no_tick).output.escalation.pos e)
    (negative : (i : ℕ) → i < length xs → qs i ≡ bit (get_or (ticks (new_handler n) xs) i no_tick).output.escalation.neg e) where
  abbrev h : Handler
  h = new_handler n

  -- the state after i ticks, the input of tick i and what it gives
  abbrev state : ℕ → Handler
  state i = run h (take i xs)

  abbrev input : ℕ → Input
  input i = get_or xs i (record { access = Access.Nothing; sample = at_rest })

  abbrev gives : ℕ → Ticked
  gives i = get_or (ticks h xs) i no_tick

  -- the line, and its pair
  abbrev line : ℕ → Bool
  line i = bit (gives i).output.lines e

  abbrev pair : ℕ → Bool
  pair i = bit (gives i).output.escalation.pos e

  -- the receiver before tick i: new before the first, quiet and answering 0; then tick by tick
  abbrev receiver : ℕ → EscalationReceiver
  receiver i = receiver_at ps qs i

  step_by_step : (receiver 0 ≡ record { sound = record { stands = Quiet; answer = false }; broken = false })
      × ((i : ℕ) → receiver (suc i) ≡ listened (receiver i) (ps i) (qs i))
  unfolding receiver_at
  step_by_step = (refl, λ i. refl)

  abbrev sees : ℕ → Bool
  sees i = escalates (receiver i) (ps i) (qs i)

  claim : Second h xs
  claim = from_new n xs small

  sound : Sound h xs e ps qs
  sound = record { positive = positive; negative = negative }

  -- ── every tick ──

  differ : (i : ℕ) → i < length xs → bit (gives i).output.escalation.neg e ≡ not (pair i)
  differ = (claim.sends e l).differs

  -- its ping opens: the timer runs, the turn is this line's and its ping is due
  abbrev ping : ℕ → Bool
  ping i =
      let t = (state i).links.turn in
      opens (meets_in (state i) (input i)) t && (is_line t && eqb e (line_of t))

  -- what is on the wire: a line that is on, the tick after the first of its being on, and a ping's pulse where line and pair are off; nothing else
  pair_first : 0 < length xs → pair 0 ≡ (line 0 || (ping 0 && not (line 0)))
  pair_first m = (claim.sends e l).pair 0 m ∙ table (line 0) (ping 0)
    where
      table : (a b : Bool) → ((a || false) || (b && (not a && true))) ≡ (a || (b && not a))
      table true b = refl
      table false true = refl
      table false false = refl

  pair_second : 1 < length xs → pair 1 ≡ ((line 1 || line 0) || (ping 1 && (not (line 1) && not (pair 0))))
  pair_second m = (claim.sends e l).pair 1 m ∙ ap (λ (b : Bool). (line 1 || b) || (ping 1 && (not (line 1) && not (pair 0)))) (whole (line 0))
    where
      whole : (a : Bool) → (a && true) ≡ a
      whole true = refl
      whole false = refl

  pair_later : (i : ℕ) → suc (suc i) < length xs
      → pair (suc (suc i))
      ≡ ((line (suc (suc i)) || (line (suc i) && not (line i))) || (ping (suc (suc i)) && (not (line (suc (suc i))) && not (pair (suc i)))))
  pair_later i = (claim.sends e l).pair (suc (suc i))

  -- where the pair is on in this tick and the one before
  exactly : (i : ℕ) → suc i < length xs → (sees (suc i) ≡ true) ↔ ((pair (suc i) ≡ true) × (pair i ≡ true))
  exactly i m =
      let c = (claim.sees e ps qs l sound).exactly (suc i) m in
      (λ s. and-true (pair (suc i)) (pair i) (sym c ∙ s), λ b. c ∙ ap₂ ◌&&◌ b.0 b.1)

  not_in_the_first : 0 < length xs → sees 0 ≡ false
  not_in_the_first m = (claim.sees e ps qs l sound).exactly 0 m ∙ none (pair 0)
    where
      none : (b : Bool) → (b && false) ≡ false
      none true = refl
      none false = refl

  -- a line that is on in two ticks is seen in the second, and any tick of it in that tick or the next
  in_the_second : (i : ℕ) → suc i < length xs → line i ≡ true → line (suc i) ≡ true → sees (suc i) ≡ true
  in_the_second i m a b = (claim.sees e ps qs l sound).held (suc i) m b a

  in_that_or_next : (i : ℕ) → suc i < length xs → line i ≡ true → (sees i ≡ true) ⊎ (sees (suc i) ≡ true)
  in_that_or_next = (claim.sees e ps qs l sound).first

  -- what is seen while the line is off is the tick after a lone tick
  nothing_else : (i : ℕ) → suc (suc i) < length xs → sees (suc (suc i)) ≡ true
      → (line (suc (suc i)) ≡ true) ⊎ ((line i ≡ false) × (line (suc i) ≡ true) × (line (suc (suc i)) ≡ false))
  nothing_else i m s = go ((claim.sees e ps qs l sound).only (suc (suc i)) m s)
    where
      not-true : (b : Bool) → not b ≡ true → b ≡ false
      not-true true q = sym q
      not-true false q = refl

      go : (line (suc (suc i)) ≡ true) ⊎ (((line (suc i) && not (line i)) && not (line (suc (suc i)))) ≡ true)
          → (line (suc (suc i)) ≡ true) ⊎ ((line i ≡ false) × (line (suc i) ≡ true) × (line (suc (suc i)) ≡ false))
      go (inl o) = inl o
      go (inr o) =
          let a = and-true (line (suc i) && not (line i)) (not (line (suc (suc i)))) o in
          let b = and-true (line (suc i)) (not (line i)) a.0 in
          inr (not-true (line i) b.1, b.0, not-true (line (suc (suc i))) a.1)

  nothing_else_in_the_first : 0 < length xs → sees 0 ≡ true → line 0 ≡ true
  nothing_else_in_the_first m s = go ((claim.sees e ps qs l sound).only 0 m s)
    where
      go : (line 0 ≡ true) ⊎ (false ≡ true) → line 0 ≡ true
      go (inl o) = o
      go (inr o) = absurd (false≢true o)

  nothing_else_in_the_second : 1 < length xs → sees 1 ≡ true → (line 1 ≡ true) ⊎ ((line 0 ≡ true) × (line 1 ≡ false))
  nothing_else_in_the_second m s = go ((claim.sees e ps qs l sound).only 1 m s)
    where
      table : (a b : Bool) → ((a && true) && not b) ≡ true → (a ≡ true) × (b ≡ false)
      table true true q = absurd (false≢true q)
      table true false q = (refl, refl)
      table false b q = absurd (false≢true q)

      go : (line 1 ≡ true) ⊎ (((line 0 && true) && not (line 1)) ≡ true) → (line 1 ≡ true) ⊎ ((line 0 ≡ true) × (line 1 ≡ false))
      go (inl o) = inl o
      go (inr o) = inr (table (line 0) (line 1) o)

  -- the receiver stands where the sender of the state has it, by that state's bits, and is never broken
  in_step : (i : ℕ) → i ≤ length xs
      → receiver i
      ≡ record {
        sound = record { stands = response_of (bit (state i).links.senders.last e) (bit (state i).links.senders.deep e); answer = bit (state i).links.senders.answer e };
        broken = false;
      }
  in_step = (claim.sees e ps qs l sound).in_step

  -- what it answers is what that sender waits for
  waits_for : (i : ℕ) → i ≤ length xs
      → (responds_positive (receiver i) ≡ bit (state i).links.senders.answer e) × (responds_negative (receiver i) ≡ not (bit (state i).links.senders.answer e))
  waits_for i m = let c = (claim.sees e ps qs l sound).in_step i m in (ap responds_positive c, ap responds_negative c)

  -- where it comes back as it was given the sender finds it right: wires that differ, and no other answer
  no_fault : (i p m : ℕ) → i < length xs → (input i).sample.receive ≡ Pairs p m → bit p e ≡ responds_positive (receiver i)
      → bit m e ≡ responds_negative (receiver i)
      → (bit p e ≡ not (bit m e)) × (bit p e ≡ bit (acted (state i) (input i).access).links.senders.answer e)
  unfolding line_wrong
  no_fault i p m a b x y =
      was_right (bit p e) (bit m e) answer
      (sym (ap (λ (r : Receive). checks r && (Pair.equal (receive_positive r e) (receive_negative r e) || Pair.differ (receive_positive r e) answer)) b)
      ∙ (claim.sees e ps qs l sound).no_fault i a (comes_back (input i) p m e (receiver i) b x y))
    where
      answer : Bool
      answer = bit (acted (state i) (input i).access).links.senders.answer e

  -- so no ping is ever seen
  no_ping : (i : ℕ) → suc i < length xs → line i ≡ false → line (suc i) ≡ false → sees (suc i) ≡ false
  no_ping i m a b = (claim.sees e ps qs l sound).never (suc i) m b a

  no_ping_in_the_first : 0 < length xs → line 0 ≡ false → sees 0 ≡ false
  no_ping_in_the_first m a = (claim.sees e ps qs l sound).never 0 m a refl

  -- ── from the start of a locked class with EN and LOCK in tick s on: tick t; ticks are numbered from any first number ──

  module _ (first k s t : ℕ) (is_class : k < 4) (from : first ≤ s) (later : s ≤ t) (to : t < first + length xs)
      (start : starts (signals_in (state (s - first)) (input (s - first)) k) (class_at (acted (state (s - first)) (input (s - first)).access) k) ≡ true)
      (shut : (class_at (acted (state (s - first)) (input (s - first)).access) k).regwen ≡ 0)
      (has_en : bit (class_at (acted (state (s - first)) (input (s - first)).access) k).ctrl 0 ≡ true)
      (has_lock : bit (class_at (acted (state (s - first)) (input (s - first)).access) k).ctrl 1 ≡ true) where
    abbrev class : Class
    class = class_at (acted (state (s - first)) (input (s - first)).access) k

    -- the phase that the line is mapped to, and its ticks
    abbrev mapped : ℕ
    mapped = field (6 + 2 * e) 2 class.ctrl

    abbrev In : Type 0
    In = (s + start_of class.lengths mapped ≤ t) × (t < s + start_of class.lengths (suc mapped))

    is_s : IsTick first xs s
    is_s = record { from = from; to = omega arith }

    is_t : IsTick first xs t
    is_t = record { from = omega arith; to = to }

    begins : Starts (state (s - first)) (input (s - first)) k
    begins = record { is_class = is_class; is_start = start; is_locked = shut; has_en = has_en; has_lock = has_lock }

    inside : In → OfPhase class s mapped t
    inside i =
        record {
          from = subst (λ (n : ℕ). s + n ≤ t) (sym (same_start class mapped)) i.0;
          to = subst (λ (n : ℕ). t < s + n) (sym (same_start class (suc mapped))) i.1;
        }

    within : OfPhase class s mapped t → In
    within o = (
      subst (λ (n : ℕ). s + n ≤ t) (same_start class mapped) o.from,
      subst (λ (n : ℕ). t < s + n) (same_start class (suc mapped)) o.to,
    )

    -- an enabled line: every tick of its mapped phase is seen in it, but the first maybe in the next, if there is one
    is_seen : bit class.ctrl (2 + e) ≡ true → In
        → (sees (t - first) ≡ true)
        ⊎ ((t ≡ s + start_of class.lengths mapped) × (suc t < first + length xs → sees (suc t - first) ≡ true))
    is_seen en i = go (claim.escalation first k s e ps qs l sound is_s begins en t is_t (inside i))
      where
        go : SeenSoon first xs class s e ps qs t
            → (sees (t - first) ≡ true)
            ⊎ ((t ≡ s + start_of class.lengths mapped) × (suc t < first + length xs → sees (suc t - first) ≡ true))
        go (inl q) = inl q
        go (inr q) =
            inr (subst (λ (n : ℕ). t ≡ s + n) (same_start class mapped) q.0, λ m. q.1 (record { from = omega arith; to = m }))

    -- what is seen besides
    is_another : ¬ ((bit class.ctrl (2 + e) ≡ true) × In) → sees (t - first) ≡ true → line (t - first) ≡ true
        → (j : ℕ) × (j < 4) × (j ≢ k) × (drives (class_at (gives (t - first)).handler j) e ≡ true)
    is_another out q o = go (claim.besides first k s e ps qs l sound is_s begins t later is_t (λ r. out (r.0, within r.1)) q)
      where
        off : (f b : Bool) → b ≡ true → (f && not b) ≡ true → false ≡ true
        off true b x y = ap not (sym x) ∙ y
        off false b x y = y

        go : ((j : ℕ) × (j < 4) × (j ≢ k) × (drives (class_at (gives (t - first)).handler j) e ≡ true)) ⊎ (lone_before h xs e (t - first) ≡ true)
            → (j : ℕ) × (j < 4) × (j ≢ k) × (drives (class_at (gives (t - first)).handler j) e ≡ true)
        go (inl d) = d
        go (inr z) = absurd (false≢true (off (first_before h xs e (t - first)) (line (t - first)) o z))

-- ── the receivers of all four lines, ps e and qs e line e's wires, which arrive as sent, and what they answer comes back in tick i ──

no_local_3 : (n : ℕ) → n ≤ 248 → (xs : List Input) (ps qs : ℕ → ℕ → Bool)
    → ((e j : ℕ) → e < 4 → j < length xs → ps e j ≡ bit (get_or (ticks (new_handler n) xs) j no_tick).output.escalation.pos e)
    → ((e j : ℕ) → e < 4 → j < length xs → qs e j ≡ bit (get_or (ticks (new_handler n) xs) j no_tick).output.escalation.neg e) → (i p m : ℕ) → i < length xs
    → let x = get_or xs i (record { access = Access.Nothing; sample = at_rest }) in let g = run (new_handler n) (take i xs) in
    x.sample.receive ≡ Pairs p m → ((e : ℕ) → e < 4 → bit p e ≡ responds_positive (receiver_at (ps e) (qs e) i))
    → ((e : ℕ) → e < 4 → bit m e ≡ responds_negative (receiver_at (ps e) (qs e) i)) → occurs (acted g x.access) (hears g x) 3 ≡ false
no_local_3 n small xs ps qs a b i p m l c y z =
    (from_new n xs small).no_local_3 ps qs (λ e k. record { positive = λ j. a e j k; negative = λ j. b e j k }) i l
    (λ e k. comes_back (get_or xs i no_input) p m e (receiver_at (ps e) (qs e) i) c (y e k) (z e k))

-- ── from whatever is made, for any n: where it is 0 or over 248 the handler has no alerts ──

from_any_count : (n : ℕ) (xs : List Input) → Second (made n).handler xs
from_any_count = from_made

-- ── from any accepted state whose senders are as new, whatever else it holds: the timer on, classes in a phase, pings open ──

module _ (h : Handler) (xs : List Input) (v : valid h ≡ true)
    (fresh : (e : ℕ) → e < 4 → (bit h.links.senders.on e ≡ false) × (bit h.links.senders.first e ≡ false))
    (still : (e : ℕ) → e < 4 → (bit h.links.senders.last e ≡ false) × (bit h.links.senders.deep e ≡ false) × (bit h.links.senders.answer e ≡ false)) where
  make : Bool → Bool → Bool → Bool → Bool → Sender
  make a b c d f = record { on = a; first = b; sound = record { stands = response_of c d; answer = f } }

  is_new : (e : ℕ) → e < 4 → sender_in h.links.senders e ≡ new_sender
  unfolding make
  is_new e l =
      ap₂ (λ (x y : Bool). make x y (bit h.links.senders.last e) (bit h.links.senders.deep e) (bit h.links.senders.answer e)) (fresh e l).0 (fresh e l).1
      ∙ ap₂ (λ (x y : Bool). make false false x y (bit h.links.senders.answer e)) (still e l).0 (still e l).1
      ∙ ap (λ (x : Bool). make false false false false x) (still e l).2

  from_others : Second h xs
  from_others = second h xs (record { accepted = v; senders = is_new })
