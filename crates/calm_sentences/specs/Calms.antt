-- Request (xii), "Skip the calm": a calm call, in sentences: raw fields and literal numbers, and no definition of the rules.
-- Assumes nothing.
use Rattle.std.specs.Prelude.{ℕ, suc, ◌≤◌, ◌<◌, ◌≡◌, ◌≢◌, List, ℤ, pos, neg_ℤ, length}
use Rattle.calm_rules.specs.declared.Calmed.{Calmed}
use Rattle.rules.specs.declared.Answer.{Answer}
use Rattle.rules.specs.declared.Handler.{Handler}
use Rattle.rules.specs.declared.Input.{Input}
use Rattle.rules.specs.declared.Output.{Output}
use Rattle.rules.specs.declared.Ticked.{Ticked}
use Rattle.rules.specs.declared.Wires.{Wires}
use Rattle.sentences.specs.Valid.{Valid}
use Rattle.sentences.specs.Whole.{Whole}
use Rattle.calm_sentences.specs.CalmTicks.{CalmInput, Tick0, AsOn7}
use Rattle.calm_sentences.specs.Changes.{ChangeList}

-- ── h is the state given, w the wires, n the number of ticks and list the list lent; c is what the call gives, left the list after it ──

-- refused with m: "each leaves state and list unchanged, outputs as on 7"
pub record Refuses (m : ℕ) (h : Handler) (list : List ℕ) (c : Calmed) (left : List ℕ) : Type 0 where
  pub answer : c.answer ≡ neg_ℤ (pos m)
  pub state : c.handler ≡ h
  pub same_list : left ≡ list
  pub output : AsOn7 c.output

-- "prove it equal to that many plain ticks"
pub record Advances (tick : Handler → Input → Ticked) (h : Handler) (w : Wires) (n : ℕ) (list : List ℕ) (c : Calmed) (left : List ℕ) : Type 0 where
  -- the states on the way and what comes in: the first is the one given, each next is left by a plain tick, the last is left by the call
  pub states : ℕ → Handler
  pub inputs : ℕ → Input
  pub first : states 0 ≡ h
  pub calm : (t : ℕ) → t < n → CalmInput w (states t) (inputs t)
  pub next : (t : ℕ) → t < n → states (suc t) ≡ (tick (states t) (inputs t)).handler
  pub last : c.handler ≡ states n
  -- the outputs of each tick, "(tick 0 is step 5 of the given state, pairs (0,1))"; "with the final outputs"
  pub outputs : ℕ → Output
  pub given : Tick0 h (outputs 0)
  pub shown : (t : ℕ) → t < n → outputs (suc t) ≡ (tick (states t) (inputs t)).output
  pub final : c.output ≡ outputs n
  -- "and every tick at which a line changed, in order, as words"
  pub count : ℕ
  pub words : ChangeList n (λ t. (outputs t).lines) list left count
  -- "It answers their number"
  pub answer : c.answer ≡ pos count

-- "The order is 7, 15, 18"
pub record CalmIs (tick : Handler → Input → Ticked) (h : Handler) (w : Wires) (n : ℕ) (list : List ℕ) (c : Calmed) (left : List ℕ) : Type 0 where
  pub refused_7 : ¬ Valid h → Refuses 7 h list c left
  -- "It runs with the ping timer off, and otherwise is refused with 15": register 6 is 1
  pub refused_15 : Valid h → h.timer.enable ≡ 1 → Refuses 15 h list c left
  -- "the list of changes needs 20 entries, five for each class, else 18"
  pub refused_18 : Valid h → h.timer.enable ≢ 1 → length list < 20 → Refuses 18 h list c left
  pub advances : Valid h → h.timer.enable ≢ 1 → 20 ≤ length list → Advances tick h w n list c left

-- "a second engine that advances 0 to 4294967295 such ticks in one go"; what it gives and the list after it are given apart
pub record Calms (calm : Handler → Wires → ℕ → List ℕ → Calmed) (left : Handler → Wires → ℕ → List ℕ → List ℕ) : Type 0 where
  -- "plain ticks": the tick of document 01's sentences, and the number of each answer
  pub tick : Handler → Input → Ticked
  pub number : Answer → ℤ
  pub ticks : Whole tick number
  pub calls : (h : Handler) (w : Wires) (n : ℕ) (list : List ℕ) → n ≤ 4294967295 → CalmIs tick h w n list (calm h w n list) (left h w n list)
