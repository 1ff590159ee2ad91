-- The second statement across calls once more, taken from the theorem over every new handler, sequence of calls, line and tick, and said of what each call
-- is given and gives back by itself. A claim that says less, or asks for more (fewer calls, a first number, one more hypothesis), does not give it.
-- Assumes nothing.
use Prim.Native.Nat.{ℕ, suc, ◌+◌, ◌-◌, ◌≤◌, ◌<◌}
use mathlib.Core.Path.{◌≡◌, refl, sym, ap, ap₂, subst, ◌∙◌}
use mathlib.Core.Logic.{◌⊎◌}
use mathlib.Core.Bool.{Bool, true, false, not}
use mathlib.Core.List.{List, ◌∷◌, ◌++◌}
use native.Mathlib.Omega.{arith}
use lib.ListN.{get_or, length, take, length-append, get_or-append}
use lib.Seq.{take_at, take-append-add, take-append-le, get_or-append-add}
use Rattle.bits.specs.Bits.{bit}
use Rattle.calm_rules.specs.Call.{calmed}
use Rattle.class_rules.specs.Class.{line_enable, line_map}
use Rattle.escalation.specs.Escalation.{OfPhase, Starts, DrivenByOther}
use Rattle.escalation.specs.List.{IsTick, before, input_at, given_at, no_input, no_tick, class_read}
use Rattle.laws.proofs.Tick.Runs.{run_append}
use Rattle.link_rules.specs.Codes.{response_of}
use Rattle.link_rules.specs.EscalationReceiver.{responds_positive, responds_negative}
use Rattle.rules.specs.Run.{run, ticks}
use Rattle.rules.specs.State.{new_handler, made, is_on, sender}
use Rattle.rules.specs.Tick.{ticked}
use Rattle.rules.specs.declared.Handler.{Handler}
use Rattle.rules.specs.declared.Input.{Input}
use Rattle.rules.specs.declared.Wires.{Wires}
use Rattle.seen.proofs.Seen.{new_senders}
use Rattle.seen.specs.Seen.{SeenSoon, Second}
use Rattle.seen.specs.Wires.{lone_before, receiver_at, seen_in, Sound}
use Rattle.calls.specs.Calls.{Call, Tick, Calm, leaves, inputs, leaves_all, in_turn, inputs_all}
use Rattle.calls.specs.SeenCalls.{SeenAcrossCalls}
use Rattle.calls.proofs.Calls.{all_run, turn_append}
use Rattle.calls.proofs.SeenCalls.{seen_from_made, seen_from_new}
use Rattle.calls.proofs.WholeCalls.{every_good}
use Rattle.calls.proofs.WholeCalmCalls.{calm_runs}

-- ── a new handler of n alerts, 0 to 248; calls us, then the call c, then calls bs ──

module _ (n : ℕ) (small : n ≤ 248) (us : List Call) (c : Call) (bs : List Call) where
  abbrev h : Handler
  h = new_handler n

  abbrev xs : List Input
  xs = inputs_all h (us ++ c ∷ bs)

  -- the state on which c is called, and how many ticks ran before it
  abbrev g : Handler
  g = leaves_all h us

  abbrev m : ℕ
  m = length (inputs_all h us)

  claim : SeenAcrossCalls h (us ++ c ∷ bs)
  claim = seen_from_new n (us ++ c ∷ bs) small

  -- the ticks of c, and of the calls after it on the state that it leaves
  abbrev later : List Input
  later = inputs g c ++ inputs_all (leaves g c) bs

  xs_is : xs ≡ inputs_all h us ++ later
  unfolding in_turn
  xs_is = turn_append inputs h us (c ∷ bs)

  -- the second statement, of the ticks of all calls
  pub every_second : Second h (inputs_all h us ++ (inputs g c ++ inputs_all (leaves g c) bs))
  every_second = subst (Second h) xs_is claim.second

  -- ── line e's receiver, new with the handler, with positive wire ps and negative wire qs, which arrive as sent ──

  module _ (e : ℕ) (l : e < 4) (ps qs : ℕ → Bool)
      (positive : (i : ℕ) → i < length xs → ps i ≡ bit (get_or (ticks h xs) i no_tick).output.escalation.pos e)
      (negative : (i : ℕ) → i < length xs → qs i ≡ bit (get_or (ticks h xs) i no_tick).output.escalation.neg e) where
    sound : Sound h xs e ps qs
    sound = record { positive = positive; negative = negative }

    -- before c it stands where the sender of the state that c is called on has it, by that state's bits
    pub every_step : receiver_at ps qs m
        ≡ record {
          sound = record { stands = response_of (bit g.links.senders.last e) (bit g.links.senders.deep e); answer = bit g.links.senders.answer e };
          broken = false;
        }
    every_step =
        subst
        (λ (ds : List Call). receiver_at ps qs (length (inputs_all h ds)) ≡ record { sound = (sender (leaves_all h ds) e).sound; broken = false })
        (take_at us (c ∷ bs) (length us) refl) (claim.in_step (length us) e ps qs l sound)

    -- so it answers what that sender waits for
    pub every_answer : (responds_positive (receiver_at ps qs m) ≡ bit g.links.senders.answer e)
        × (responds_negative (receiver_at ps qs m) ≡ not (bit g.links.senders.answer e))
    every_answer = (ap responds_positive every_step, ap responds_negative every_step)

    -- ── a class starts in tick j of c, in the state f that c's ticks before it leave; ticks are numbered from any first number ──

    module _ (first j k : ℕ) (of_c : j < length (inputs g c)) where
      abbrev f : Handler
      f = run g (take j (inputs g c))

      abbrev x : Input
      x = get_or (inputs g c) j no_input

      abbrev s : ℕ
      s = first + (m + j)

      number_is : s - first ≡ m + j
      number_is = omega arith

      state_is : f ≡ before first h xs s
      state_is =
          ap (λ (ys : List Input). run g ys) (sym (take-append-le j (inputs g c) (inputs_all (leaves g c) bs) (omega arith)))
          ∙ ap (λ (z : Handler). run z (take j later)) (all_run h us)
          ∙ sym (run_append h (inputs_all h us) (take j later))
          ∙ ap (run h) (sym (take-append-add (inputs_all h us) later j))
          ∙ ap₂ (λ (i : ℕ) (ys : List Input). run h (take i ys)) (sym number_is) (sym xs_is)

      input_is : x ≡ input_at first xs s
      input_is =
          sym (get_or-append (inputs g c) (inputs_all (leaves g c) bs) no_input j of_c)
          ∙ sym (get_or-append-add (inputs_all h us) later j no_input)
          ∙ ap₂ (λ (i : ℕ) (ys : List Input). get_or ys i no_input) (sym number_is) (sym xs_is)

      of_list : IsTick first xs s
      of_list =
          let a : length xs ≡ m + length later = ap length xs_is ∙ length-append (inputs_all h us) later in
          let b = length-append (inputs g c) (inputs_all (leaves g c) bs) in
          record { from = omega arith; to = omega (arith, a, b) }

      -- in state z with input y: every tick of the mapped phase of an enabled line is seen, and what is seen besides is another class's or after a lone tick
      abbrev SeenFrom : Handler → Input → Type 0
      SeenFrom z y =
          Starts z y k → let d = class_read z y k in
          (line_enable d e ≡ true → (t : ℕ) → IsTick first xs t → OfPhase d s (line_map d e) t → SeenSoon first xs d s e ps qs t)
          × ((t : ℕ) → s ≤ t → IsTick first xs t → ¬ ((line_enable d e ≡ true) × OfPhase d s (line_map d e) t) → seen_in ps qs (t - first) ≡ true
          → DrivenByOther (given_at first h xs t).handler k e ⊎ (lone_before h xs e (t - first) ≡ true))

      -- whatever calls make the ticks
      pub every_start : SeenFrom f x
      every_start =
          subst (λ (z : Handler). SeenFrom z x) (sym state_is)
          (subst (SeenFrom (before first h xs s)) (sym input_is)
          (λ b. (claim.second.escalation first k s e ps qs l sound of_list b, claim.second.besides first k s e ps qs l sound of_list b)))

-- ── a tick call gives back the pairs that its tick sends ──

pub every_pairs : (n : ℕ) → n ≤ 248 → (us : List Call) (x : Input) (bs : List Call)
    → (ticked (leaves_all (new_handler n) us) x).output.escalation
    ≡ (get_or (ticks (new_handler n) (inputs_all (new_handler n) (us ++ Tick x ∷ bs))) (length (inputs_all (new_handler n) us)) no_tick).output.escalation
every_pairs n small us x bs = (seen_from_new n (us ++ Tick x ∷ bs) small).pairs us bs x refl

-- ── a calm call with the timer off and 20 entries gives back the pairs of the last of its m + 1 ticks ──

pub every_calm_pairs : (n : ℕ) → n ≤ 248 → (us : List Call) (w : Wires) (m : ℕ) (few : suc m ≤ 4294967295) (list : List ℕ) (bs : List Call)
    → is_on (leaves_all (new_handler n) us) ≡ false → 20 ≤ length list
    → (calmed (leaves_all (new_handler n) us) w (suc m) list).output.escalation
    ≡ (get_or (ticks (new_handler n) (inputs_all (new_handler n) (us ++ Calm w (suc m) few list ∷ bs))) (length (inputs_all (new_handler n) us) + m) no_tick).output.escalation
every_calm_pairs n small us w m few list bs off l =
    (seen_from_new n (us ++ Calm w (suc m) few list ∷ bs) small).calm_pairs us bs w m few list refl
    (calm_runs (leaves_all (new_handler n) us) list (every_good (new_handler n) (new_senders n small).accepted us (Calm w (suc m) few list) bs) off l)

-- ── whatever is made, for any n: where it is 0 or over 248 the handler has no alerts ──

pub every_count : (n : ℕ) (cs : List Call) → SeenAcrossCalls (made n).handler cs
every_count = seen_from_made
