-- Request (xii), "Skip the calm": a call of n calm ticks, with its refusals and the lent list of changes.
-- Assumes nothing.
use Rattle.std.specs.Prelude.{ℕ, cond, not, List, [], ◌++◌, ltb, pos, neg_ℤ, length, drop, Result, Ok, Err}
use Rattle.rules.specs.State.{is_on}
use Rattle.rules.specs.Tick.{no_output}
use Rattle.rules.specs.Valid.{valid}
use Rattle.rules.specs.declared.Handler.{Handler}
use Rattle.rules.specs.declared.Input.{Input}
use Rattle.rules.specs.declared.Wires.{Wires}
use Rattle.calm_rules.specs.Ticks.{calm_run, calm_inputs, calm_output, calm_changes}
use Rattle.calm_rules.specs.declared.Bar.{Bar}
use Rattle.calm_rules.specs.declared.Bar.TheVariants.{BadState, TimerOn, ShortList}
use Rattle.calm_rules.specs.declared.Calmed.{Calmed}

-- the refusal number of each case
abbrev pub bar_number : Bar → ℕ
bar_number BadState = 7
bar_number TimerOn = 15
bar_number ShortList = 18

-- "five for each class"
abbrev pub entries : ℕ
entries = 20

-- "It runs with the ping timer off, and otherwise is refused with 15; the list of changes needs 20 entries, .. else 18. The order is 7, 15, 18"
unfoldable pub calm_verdict : Handler → List ℕ → Result (Unit {0}) Bar
calm_verdict h list =
    cond (not (valid h)) (Err BadState) (cond (is_on h) (Err TimerOn) (cond (ltb (length list) entries) (Err ShortList) (Ok tt)))

-- the inputs of the ticks that it runs: none if it is refused
abbrev pub inputs_by : Result (Unit {0}) Bar → Handler → Wires → ℕ → List Input
inputs_by (Ok _) h w n = calm_inputs h w n
inputs_by (Err b) h w n = []

-- the words of its changes: none if it is refused
abbrev pub words_by : Result (Unit {0}) Bar → Handler → Wires → ℕ → List ℕ
words_by (Ok _) h w n = calm_changes h w n
words_by (Err b) h w n = []

-- state, answer and outputs: "It answers their number"; a refusal "leaves state and list unchanged, outputs as on 7"
abbrev pub calmed_by : Result (Unit {0}) Bar → Handler → Wires → ℕ → Calmed
calmed_by (Ok _) h w n = record { handler = calm_run h w n; answer = pos (length (calm_changes h w n)); output = calm_output h w n }
calmed_by (Err b) h w n = record { handler = h; answer = neg_ℤ (pos (bar_number b)); output = no_output }

-- the lent list that it leaves: "later entries stay"
abbrev pub list_by : Result (Unit {0}) Bar → Handler → Wires → ℕ → List ℕ → List ℕ
list_by (Ok _) h w n list = calm_changes h w n ++ drop (length (calm_changes h w n)) list
list_by (Err b) h w n list = list

-- ── the call ──

unfoldable pub calmed : Handler → Wires → ℕ → List ℕ → Calmed
calmed h w n list = calmed_by (calm_verdict h list) h w n

unfoldable pub calmed_list : Handler → Wires → ℕ → List ℕ → List ℕ
calmed_list h w n list = list_by (calm_verdict h list) h w n list

unfoldable pub call_inputs : Handler → Wires → ℕ → List ℕ → List Input
call_inputs h w n list = inputs_by (calm_verdict h list) h w n

unfoldable pub call_words : Handler → Wires → ℕ → List ℕ → List ℕ
call_words h w n list = words_by (calm_verdict h list) h w n
