-- Request (xii), a calm call said a second time, in its own numbers and over every state, wires, number of ticks and lent list.
-- proofs/CalmSays.antt proves it of every call.
-- Assumes nothing.
use Rattle.std.specs.Prelude.{ℕ, ◌+◌, ◌<◌, ◌≤◌, ◌≡◌, true, false, List, pos, neg_ℤ, get_or, length}
use Rattle.bits.specs.Index.{place_in}
use Rattle.calm_rules.specs.Call.{calmed, calmed_list, call_inputs, call_words}
use Rattle.escalation.specs.List.{no_tick}
use Rattle.link_rules.specs.Senders.{line_count}
use Rattle.rules.specs.Run.{run, ticks}
use Rattle.rules.specs.Samples.{line_wrong}
use Rattle.rules.specs.Tick.{interrupts, lines}
use Rattle.rules.specs.Valid.{valid}
use Rattle.rules.specs.declared.Access.{Access}
use Rattle.rules.specs.declared.Handler.{Handler}
use Rattle.rules.specs.declared.Input.{Input}
use Rattle.rules.specs.declared.Output.{Output}
use Rattle.rules.specs.declared.Wires.{Wires}

-- all pairs at (0,1)
pub record LowPairs (o : Output) : Type 0 where
  pub acknowledge : (i : ℕ) → i < 248 → (place_in o.acknowledge.pos i ≡ false) × (place_in o.acknowledge.neg i ≡ true)
  pub ping : (i : ℕ) → i < 248 → (place_in o.ping.pos i ≡ false) × (place_in o.ping.neg i ≡ true)
  pub escalation : (o.escalation.pos ≡ 0) × (o.escalation.neg ≡ 15)

-- refused with m: "each leaves state and list unchanged, outputs as on 7", interrupts and lines 0
pub record RefusedWith (m : ℕ) (h : Handler) (w : Wires) (n : ℕ) (list : List ℕ) : Type 0 where
  pub answer : (calmed h w n list).answer ≡ neg_ℤ (pos m)
  pub state : (calmed h w n list).handler ≡ h
  pub same_list : calmed_list h w n list ≡ list
  pub off : ((calmed h w n list).output.interrupts ≡ 0) × ((calmed h w n list).output.lines ≡ 0)
  pub pairs : LowPairs (calmed h w n list).output

-- what comes in in tick i of the call: "without access", the wires w and the entropy word 0; "Escalation receivers answer without fault"
pub record CalmTick (g : Handler) (w : Wires) (x : Input) : Type 0 where
  pub access : x.access ≡ Access.Nothing
  pub alerts : x.sample.alerts ≡ w
  pub word : x.sample.word ≡ 0
  pub sound : (e : ℕ) → e < line_count → line_wrong g x.sample e ≡ false

-- a call that runs
pub record Ran (h : Handler) (w : Wires) (n : ℕ) (list : List ℕ) : Type 0 where
  -- as many ticks as asked for, each a calm one of the state that those before it leave
  pub count : length (call_inputs h w n list) ≡ n
  pub inputs : (i : ℕ) (d : Input) → i < n → (g : Handler) → g ≡ (calmed h w i list).handler → CalmTick g w (get_or (call_inputs h w n list) i d)
  pub state : (calmed h w n list).handler ≡ run h (call_inputs h w n list)
  -- "It answers their number"
  pub answer : (calmed h w n list).answer ≡ pos (length (call_words h w n list))
  -- "the final outputs": those of the last tick
  pub last : (m : ℕ) → m + 1 ≡ n → (calmed h w n list).output ≡ (get_or (ticks h (call_inputs h w n list)) m no_tick).output
  -- "tick 0 is step 5 of the given state, pairs (0,1)"
  pub none : n ≡ 0 → ((calmed h w n list).output.interrupts ≡ interrupts h) × ((calmed h w n list).output.lines ≡ lines h)
  pub none_pairs : n ≡ 0 → LowPairs (calmed h w n list).output

-- "The order is 7, 15, 18"
pub record CalmSays (h : Handler) (w : Wires) (n : ℕ) (list : List ℕ) : Type 0 where
  pub seven : valid h ≡ false → RefusedWith 7 h w n list
  pub fifteen : valid h ≡ true → h.timer.enable ≡ 1 → RefusedWith 15 h w n list
  pub eighteen : valid h ≡ true → h.timer.enable ≡ 0 → length list < 20 → RefusedWith 18 h w n list
  pub runs : valid h ≡ true → h.timer.enable ≡ 0 → 20 ≤ length list → Ran h w n list
