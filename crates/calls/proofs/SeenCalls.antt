-- The second statement across calls, of every sequence of calls from a new handler, and from every accepted state whose senders are as new.
-- Assumes nothing.
use Prim.Native.Nat.{ℕ, suc, ◌+◌, ◌≤◌, ◌<◌, min}
use mathlib.Core.Path.{◌≡◌, sym, ap, ◌∙◌}
use mathlib.Core.Bool.{Bool, false}
use mathlib.Core.List.{List, ◌∷◌, ◌++◌}
use native.Mathlib.Nat.{add-zero}
use native.Mathlib.Omega.{arith}
use lib.ListN.{get_or, length, take, length-take, get_or-append}
use lib.Seq.{get_or-append-add}
use Rattle.std.specs.Prelude.{Result, Ok}
use Rattle.calm_laws.proofs.CalmRuns.{length_inputs}
use Rattle.calm_laws.proofs.CalmTicks.{calm_output_at}
use Rattle.calm_rules.specs.Call.{calm_verdict, inputs_by, calmed_by, calmed, call_inputs}
use Rattle.calm_rules.specs.Ticks.{calm_inputs}
use Rattle.calm_rules.specs.declared.Bar.{Bar}
use Rattle.escalation.specs.List.{no_input, no_tick}
use Rattle.laws.proofs.Tick.Runs.{ticks_append, length_ticks}
use Rattle.link_rules.specs.Senders.{line_count}
use Rattle.rules.specs.Run.{run, ticks}
use Rattle.rules.specs.State.{most, new_handler, made, sender}
use Rattle.rules.specs.Tick.{ticked}
use Rattle.rules.specs.declared.Handler.{Handler}
use Rattle.rules.specs.declared.Input.{Input}
use Rattle.rules.specs.declared.Output.{Output}
use Rattle.rules.specs.declared.Ticked.{Ticked}
use Rattle.rules.specs.declared.Wires.{Wires}
use Rattle.seen.proofs.Seen.{second, made_senders, new_senders}
use Rattle.seen.specs.Seen.{Second, NewSenders}
use Rattle.seen.specs.Wires.{receiver_at, Sound}
use Rattle.calls.specs.Calls.{Call, Tick, Calm, leaves, inputs, leaves_all, in_turn, inputs_all}
use Rattle.calls.specs.SeenCalls.{SeenAcrossCalls}
use Rattle.calls.proofs.Calls.{all_run, turn_append, inputs_first}

-- what tick j of the call c gives is what its tick gives in the list, c being called on the state that the calls us left
module _ (h : Handler) (us : List Call) (c : Call) (bs : List Call) where
  abbrev called : Handler
  called = leaves_all h us

  call_gives : (j : ℕ) → j < length (inputs called c)
      → get_or (ticks called (inputs called c)) j no_tick ≡ get_or (ticks h (inputs_all h (us ++ c ∷ bs))) (length (inputs_all h us) + j) no_tick
  unfolding in_turn
  call_gives j l =
      let ys : List Input = inputs_all h us in
      let zs : List Input = inputs_all (leaves called c) bs in
      sym (get_or-append (ticks called (inputs called c)) (ticks (run called (inputs called c)) zs) no_tick j (omega (arith, l, length_ticks called (inputs called c))))
      ∙ ap (λ (ts : List Ticked). get_or ts j no_tick) (sym (ticks_append called (inputs called c) zs))
      ∙ ap (λ (g : Handler). get_or (ticks g (inputs called c ++ zs)) j no_tick) (all_run h us)
      ∙ sym (get_or-append-add (ticks h ys) (ticks (run h ys) (inputs called c ++ zs)) j no_tick)
      ∙ ap (λ (n : ℕ). get_or (ticks h ys ++ ticks (run h ys) (inputs called c ++ zs)) (n + j) no_tick) (length_ticks h ys)
      ∙ ap (λ (ts : List Ticked). get_or ts (length ys + j) no_tick) (sym (ticks_append h ys (inputs called c ++ zs)))
      ∙ ap (λ (xs : List Input). get_or (ticks h xs) (length ys + j) no_tick) (sym (turn_append inputs h us (c ∷ bs)))

-- a tick call gives what its tick gives
tick_gives : (h : Handler) (us bs : List Call) (x : Input)
    → ticked (leaves_all h us) x ≡ get_or (ticks h (inputs_all h (us ++ Tick x ∷ bs))) (length (inputs_all h us)) no_tick
unfolding ticks
tick_gives h us bs x =
    call_gives h us (Tick x) bs 0 (omega arith)
    ∙ ap (λ (n : ℕ). get_or (ticks h (inputs_all h (us ++ Tick x ∷ bs))) n no_tick) (add-zero (length (inputs_all h us)))

-- a calm call gives the outputs of its last tick
calm_gives : (h : Handler) (us bs : List Call) (w : Wires) (n : ℕ) (small : suc n ≤ 4294967295) (list : List ℕ) → calm_verdict (leaves_all h us) list ≡ Ok tt
    → (calmed (leaves_all h us) w (suc n) list).output
    ≡ (get_or (ticks h (inputs_all h (us ++ Calm w (suc n) small list ∷ bs))) (length (inputs_all h us) + n) no_tick).output
unfolding calmed call_inputs
calm_gives h us bs w n small list e =
    let g : Handler = leaves_all h us in
    let run_inputs : call_inputs g w (suc n) list ≡ calm_inputs g w (suc n) = ap (λ (d : Result (Unit {0}) Bar). inputs_by d g w (suc n)) e in
    ap (λ (d : Result (Unit {0}) Bar). (calmed_by d g w (suc n)).output) e
    ∙ sym (calm_output_at g w (suc n) n no_input no_tick (omega arith))
    ∙ ap (λ (xs : List Input). (get_or (ticks g xs) n no_tick).output) (sym run_inputs)
    ∙ ap (λ (t : Ticked). t.output)
    (call_gives h us (Calm w (suc n) small list) bs n (omega (arith, ap length run_inputs, length_inputs g w (suc n))))

module _ (h : Handler) (cs : List Call) (n : NewSenders h) where
  abbrev xs : List Input
  xs = inputs_all h cs

  claim : Second h xs
  claim = second h xs n

  pairs : (us bs : List Call) (x : Input) → cs ≡ us ++ Tick x ∷ bs
      → (ticked (leaves_all h us) x).output.escalation ≡ (get_or (ticks h xs) (length (inputs_all h us)) no_tick).output.escalation
  pairs us bs x e =
      ap (λ (t : Ticked). t.output.escalation) (tick_gives h us bs x)
      ∙ ap (λ (ds : List Call). (get_or (ticks h (inputs_all h ds)) (length (inputs_all h us)) no_tick).output.escalation) (sym e)

  calm_pairs : (us bs : List Call) (w : Wires) (n : ℕ) (small : suc n ≤ 4294967295) (list : List ℕ) → cs ≡ us ++ Calm w (suc n) small list ∷ bs
      → calm_verdict (leaves_all h us) list ≡ Ok tt
      → (calmed (leaves_all h us) w (suc n) list).output.escalation ≡ (get_or (ticks h xs) (length (inputs_all h us) + n) no_tick).output.escalation
  calm_pairs us bs w n small list e r =
      ap (λ (o : Output). o.escalation) (calm_gives h us bs w n small list r)
      ∙ ap (λ (ds : List Call). (get_or (ticks h (inputs_all h ds)) (length (inputs_all h us) + n) no_tick).output.escalation) (sym e)

  -- the ticks of the first i calls are among those of all
  few : (i : ℕ) → length (inputs_all h (take i cs)) ≤ length xs
  few i =
      let j : ℕ = length (inputs_all h (take i cs)) in
      let a : j ≡ min j (length xs) = ap length (inputs_first h cs i) ∙ length-take j xs in
      omega (arith, a)

  in_step : (i e : ℕ) (ps qs : ℕ → Bool) → e < line_count → Sound h xs e ps qs
      → receiver_at ps qs (length (inputs_all h (take i cs))) ≡ record { sound = (sender (leaves_all h (take i cs)) e).sound; broken = false }
  in_step i e ps qs l w =
      (claim.sees e ps qs l w).in_step (length (inputs_all h (take i cs))) (few i)
      ∙ ap (λ (g : Handler). record { sound = (sender g e).sound; broken = false }) (sym (all_run h (take i cs) ∙ ap (run h) (inputs_first h cs i)))

  pub seen_across : SeenAcrossCalls h cs
  seen_across = record { second = claim; pairs = pairs; calm_pairs = calm_pairs; in_step = in_step }

-- what is made is such a state, also the handler of no alerts that refusal 6 leaves, and so is a new handler
pub seen_from_made : (n : ℕ) (cs : List Call) → SeenAcrossCalls (made n).handler cs
seen_from_made n cs = seen_across (made n).handler cs (made_senders n)

pub seen_from_new : (n : ℕ) (cs : List Call) → n ≤ most → SeenAcrossCalls (new_handler n) cs
seen_from_new n cs b = seen_across (new_handler n) cs (new_senders n b)
