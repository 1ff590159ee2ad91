-- Demand 3 across calls: tick, batch, boot and calm calls one after another, each on the state that the last one left, are one list of ticks, and
-- demand 3 is true of it. proofs/Calls.antt proves it of every sequence of calls. `ticked`, `batch`, `boot`, `calmed` and `calmed_list` are what the
-- contracts of the calls cite.
-- Assumes nothing.
use Rattle.std.specs.Prelude.{ℕ, suc, ◌-◌, ◌≤◌, ◌<◌, ◌≡◌, ◌≢◌, Bool, true, false, List, [], ◌∷◌, ◌++◌, map, ℤ, pos, negsuc, get_or, length, take, replicate}
use Rattle.bits.specs.Bits.{bit}
use Rattle.bits.specs.Index.{each}
use Rattle.calm_laws.specs.Tells.{lines_by}
use Rattle.calm_rules.specs.Call.{calmed, calmed_list, call_inputs}
use Rattle.escalation.specs.Escalation.{Demand3}
use Rattle.escalation.specs.List.{IsTick, given_at}
use Rattle.policy.specs.Plan.{boot}
use Rattle.policy.specs.declared.Lifecycle.{Lifecycle}
use Rattle.trace_rules.specs.Batch.{batch, batch_verdict, batch_inputs}
use Rattle.rules.specs.Run.{run}
use Rattle.rules.specs.Tick.{lines, ticked}
use Rattle.rules.specs.Valid.{valid}
use Rattle.rules.specs.declared.Answer.{Answer}
use Rattle.trace_rules.specs.declared.Edition.{Edition}
use Rattle.rules.specs.declared.Handler.{Handler}
use Rattle.rules.specs.declared.Input.{Input}
use Rattle.rules.specs.declared.Refusal.TheVariants.{BadState}
use Rattle.rules.specs.declared.Wires.{Wires}
use Rattle.calls.specs.BootTicks.{boot_inputs}

-- ── one call, on the state h ──

-- a tick with any input; a batch of any edition, with any bytes and any lent list; a boot of any lifecycle; a calm call on any wires of the alerts, of
-- "a number of ticks from 0 to 4294967295", with any lent list
pub data Call : Type 0 where
  Tick : Input → Call
  Batch : Edition → List ℕ → List ℕ → Call
  Boot : Lifecycle → Call
  Calm : Wires → (n : ℕ) → n ≤ 4294967295 → List ℕ → Call

-- the state that it leaves
abbrev pub leaves : Handler → Call → Handler
leaves h (Tick x) = (ticked h x).handler
leaves h (Batch v bytes out) = (batch v h bytes out).handler
leaves h (Boot l) = (boot l h).handler
leaves h (Calm w n small list) = (calmed h w n list).handler

-- the inputs of its ticks: "a batch is the list of its records' ticks, and a refused batch is the empty list"; a boot's are those up to where it stopped;
-- a calm call's are that many plain ones, none if it is refused
abbrev pub inputs : Handler → Call → List Input
inputs h (Tick x) = x ∷ []
inputs h (Batch v bytes out) = batch_inputs v (batch_verdict v h bytes out) bytes
inputs h (Boot l) = boot_inputs l h
inputs h (Calm w n small list) = call_inputs h w n list

-- whether its caller sees the lines of its ticks: a boot "returns that register number, the answer and the state reached", and no outputs
abbrev pub shows : Call → Bool
shows (Tick x) = true
shows (Batch v bytes out) = true
shows (Boot l) = false
shows (Calm w n small list) = true

-- line e in a word: "interrupts (4 bits, class 0 first), lines (4, line 0 first)"
abbrev pub line_in : ℕ → ℕ → Bool
line_in word e = bit word (59 - e)

-- of one tick: whether line e is on, or nothing
pub data Seen : Type 0 where
  Shown : (ℕ → Bool) → Seen
  Unseen : Seen

-- the words of changes that a calm call leaves: as many as it answers, of a refused one none
abbrev pub word_count : ℤ → ℕ
word_count (pos m) = m
word_count (negsuc m) = 0

abbrev pub change_words : Handler → Wires → ℕ → List ℕ → List ℕ
change_words h w n list = take (word_count (calmed h w n list).answer) (calmed_list h w n list)

-- what its caller sees of each of its ticks: the lines that a tick gives, the tick's word of the list that a batch leaves, nothing of a boot's, and of a
-- calm call's tick t, the first being 1, the lines of the last word whose tick is at most t, else those of the state that it is called on
abbrev pub seen : Handler → Call → List Seen
seen h (Tick x) = Shown (bit (ticked h x).output.lines) ∷ []
seen h (Batch v bytes out) = map (λ (w : ℕ). Shown (line_in w)) (take (length (inputs h (Batch v bytes out))) (batch v h bytes out).out)
seen h (Boot l) = replicate (length (boot_inputs l h)) Unseen
seen h (Calm w n small list) = each (length (call_inputs h w n list)) (λ i. Shown (bit (lines_by (lines h) (change_words h w n list) (suc i))))

-- ── calls one after another, each on the state that the last one left ──

unfoldable pub leaves_all : Handler → List Call → Handler
leaves_all h [] = h
leaves_all h (c ∷ cs) = leaves_all (leaves h c) cs

-- a list f of each call, joined
unfoldable pub in_turn : {A : Type 0} → (Handler → Call → List A) → Handler → List Call → List A
in_turn f h [] = []
in_turn f h (c ∷ cs) = f h c ++ in_turn f (leaves h c) cs

abbrev pub inputs_all : Handler → List Call → List Input
inputs_all = in_turn inputs

abbrev pub seen_all : Handler → List Call → List Seen
seen_all = in_turn seen

abbrev pub shows_all : Handler → List Call → List Bool
shows_all = in_turn (λ h c. replicate (length (inputs h c)) (shows c))

-- of tick t, the first tick being number first: what is seen of it, and whether it is of a call that shows its ticks
abbrev pub seen_at : ℕ → Handler → List Call → ℕ → Seen
seen_at first h cs t = get_or (seen_all h cs) (t - first) Unseen

abbrev pub shows_at : ℕ → Handler → List Call → ℕ → Bool
shows_at first h cs t = get_or (shows_all h cs) (t - first) false

-- ── the claim, of the calls cs from the state h ──

pub record AcrossCalls (h : Handler) (cs : List Call) : Type 0 where
  -- after i calls the state is that of the list after their ticks, and refusal 7 does not meet it
  pub states : (i : ℕ) → leaves_all h (take i cs) ≡ run h (take (length (inputs_all h (take i cs))) (inputs_all h cs))
  pub accepted : (i : ℕ) → valid (leaves_all h (take i cs)) ≡ true
  -- so no tick of the list is refused with 7
  pub runs : (first t : ℕ) → IsTick first (inputs_all h cs) t → (given_at first h (inputs_all h cs) t).answer ≢ Answer.Refused BadState
  -- each tick of the list, and no other, has its place in what the callers see
  pub each_tick : length (seen_all h cs) ≡ length (inputs_all h cs)
  -- a tick of a tick call, a batch or a calm call is shown, one of a boot is not
  pub shown : (first t : ℕ) → IsTick first (inputs_all h cs) t → shows_at first h cs t ≡ true → (f : ℕ → Bool) × (seen_at first h cs t ≡ Shown f)
  pub unseen : (first t : ℕ) → IsTick first (inputs_all h cs) t → shows_at first h cs t ≡ false → seen_at first h cs t ≡ Unseen
  -- and of each tick that is shown the caller sees its lines
  pub line :
      (first t e : ℕ) (f : ℕ → Bool) → IsTick first (inputs_all h cs) t → seen_at first h cs t ≡ Shown f → e < 4
      → f e ≡ bit (given_at first h (inputs_all h cs) t).output.lines e
  -- and demand 3 is true of the list: starts, escalations, locks and clears, across the calls, boots and calm calls among them
  pub demand3 : Demand3 h (inputs_all h cs)
