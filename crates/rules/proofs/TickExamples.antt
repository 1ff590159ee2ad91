-- Worked examples that pin steps 3 to 5 and the order of a tick's steps, by computation; rule_examples PhaseExamples has the phases.
-- Assumes nothing.
use Prim.Native.Nat.{ℕ, ◌*◌}
use mathlib.Core.Path.{◌≡◌, refl}
use mathlib.Core.List.{List, [], ◌∷◌, ◌++◌, map}
use lib.ListN.{replicate}
use Rattle.rules.specs.Access.{value}
use Rattle.rules.specs.Run.{run, ticks}
use Rattle.rules.specs.State.{new_handler, reset_class, with_interrupts, with_classes}
use Rattle.rules.specs.Tick.{ticked, interrupts}
use Rattle.rules.specs.declared.Access.{Access}
use Rattle.rules.specs.declared.Field.{Field}
use Rattle.rules.specs.declared.Handler.{Handler}
use Rattle.rules.specs.declared.Input.{Input}
use Rattle.rules.specs.declared.Register.{Register}
use Rattle.rules.specs.declared.Register.TheVariants.{Only, Alert, Block}
use Rattle.rules.specs.declared.Setting.{Setting}
use Rattle.rules.specs.declared.Setting.TheVariants.{Ctrl, ClrRegwen, Clr, AccumCnt, TimeoutCyc, EscCnt}
use Rattle.rules.specs.declared.Ticked.{Ticked}
use Rattle.rules.specs.Scenes.{rest, raise, pause, none, write, configure, gives, refused}
use Rattle.rules.specs.declared.Single.TheVariants.{IntrState, IntrEnable, IntrTest}
use Rattle.rules.proofs.Scenes.{rules, settings, zeros, station, pair, ready, lengths, started}

abbrev holds : Handler → List Input → Register → ℕ
holds h xs q = value (run h xs) q

abbrev state : Handler → List Input → ℕ
state h xs = holds h xs (Block Setting.State 0)

-- "It sets the interrupt bit, after any clearing in step 1": a bit cleared and set in one tick ends at 1, and so does a CAUSE
abbrev fired : Handler
fired = run (ready 9) (raise 0 none ∷ pause)

sets_after_clearing : (holds fired (raise 0 (write (Only IntrState) 1) ∷ []) (Only IntrState) ≡ 1)
    × (holds fired (rest (write (Only IntrState) 1) ∷ []) (Only IntrState) ≡ 0)
    × (holds fired (raise 0 (write (Alert Field.Cause 0) 1) ∷ []) (Alert Field.Cause 0) ≡ 1)
unfolding rules
sets_after_clearing = (refl, refl, refl)

-- "Threshold 2, ACCUM_CNT 0, Idle: the third event starts Phase 0, ACCUM_CNT then 3"; the second does not
abbrev events : ℕ → List Input
events n = lib.ListN.take (4 * n) ((raise 0 none ∷ pause) ++ (raise 0 none ∷ pause))

third : (state (ready 2) (events 2) ≡ 0)
    × (state (ready 2) (events 2 ++ (raise 0 none ∷ [])) ≡ 4)
    × (holds (ready 2) (events 2 ++ (raise 0 none ∷ [])) (Block AccumCnt 0) ≡ 3)
    × (holds (ready 2) (events 2 ++ (raise 0 none ∷ [])) (Block EscCnt 0) ≡ 1)
    × (holds (ready 2) (events 2 ++ (raise 0 none ∷ [])) (Block ClrRegwen 0) ≡ 0)
unfolding rules
third = (refl, refl, refl, refl, refl)

-- one line enable is enough: CTRL 0x21 has EN and line 3, mapped to Phase 0; LOCK is not set
abbrev lone : Handler
lone = station 1 (1 ∷ replicate 247 0) (replicate 248 0) 0 (settings 0x21 0 0 zeros)

one_line : (state lone (raise 0 none ∷ []) ≡ 4) × ((ticked lone (raise 0 none)).output.lines ≡ 8) × (holds lone (raise 0 none ∷ []) (Block ClrRegwen 0) ≡ 1)
unfolding rules
one_line = (refl, refl, refl)

-- request (i), all four line enables off: an alert's event sets its cause and nothing else, by way of alerts or of TIMEOUT_CYC
abbrev no_lines : ℕ
no_lines = 0x3903

abbrev lineless : Handler
lineless = station 2 (1 ∷ 1 ∷ replicate 246 0) (replicate 248 0) 0 (settings no_lines 0 1 zeros)

no_lines_law : (holds lineless (raise 0 none ∷ []) (Alert Field.Cause 0) ≡ 1)
    × (holds lineless (raise 0 none ∷ []) (Only IntrState) ≡ 0)
    × (holds lineless (raise 0 none ∷ []) (Block AccumCnt 0) ≡ 0)
    × (state lineless (raise 0 none ∷ rest none ∷ []) ≡ 0)
    × (holds lineless (raise 0 none ∷ []) (Block ClrRegwen 0) ≡ 1)
    × (holds lineless (rest (write (Only IntrTest) 1) ∷ []) (Only IntrState) ≡ 1)
    × (state lineless (rest (write (Only IntrTest) 1) ∷ rest none ∷ []) ≡ 0)
unfolding rules
no_lines_law = (refl, refl, refl, refl, refl, refl, refl)

-- "due" reads this tick's event and this tick's INTR_TEST, which is no event and counts nothing
abbrev timed : ℕ → Handler
timed cyc = pair 9 cyc zeros

due_now : (state (timed 1) (raise 0 none ∷ []) ≡ 1)
    × (state (timed 1) (raise 0 none ∷ rest none ∷ []) ≡ 4)
    × (state (timed 2) (raise 0 none ∷ rest none ∷ []) ≡ 1)
    × (holds (timed 2) (raise 0 none ∷ rest none ∷ []) (Block EscCnt 0) ≡ 2)
    × (state (timed 0) (raise 0 none ∷ rest none ∷ rest none ∷ []) ≡ 0)
    × (state (timed 2) (rest (write (Only IntrTest) 1) ∷ []) ≡ 1)
    × (holds (timed 2) (rest (write (Only IntrTest) 1) ∷ []) (Block AccumCnt 0) ≡ 0)
    × (state (timed 2) (raise 0 none ∷ rest (write (Only IntrState) 1) ∷ []) ≡ 0)
    × (state (timed 2) (rest (write (Block TimeoutCyc 0) 0) ∷ raise 0 none ∷ rest (write (Block TimeoutCyc 0) 0) ∷ []) ≡ 0)
    × (state (timed 2) (rest (write (Only IntrTest) 2) ∷ []) ≡ 0)
unfolding rules
due_now = (refl, refl, refl, refl, refl, refl, refl, refl, refl, refl)

-- request (i): a Timeout whose line enables are switched off falls back to Idle, the interrupt bit still 1; it is due again once one is back
abbrev waiting : List Input
waiting = rest (write (Block Ctrl 0) no_lines) ∷ raise 0 none ∷ rest (write (Block Ctrl 0) no_lines) ∷ []

falls_back : (state (timed 9) (raise 0 none ∷ []) ≡ 1)
    × (state (timed 9) waiting ≡ 0)
    × (holds (timed 9) waiting (Block EscCnt 0) ≡ 0)
    × (holds (timed 9) waiting (Only IntrState) ≡ 1)
    × (state (timed 9) (waiting ++ map rest (configure (Block Ctrl 0) 0x3907)) ≡ 1)
unfolding rules
falls_back = (refl, refl, refl, refl, refl)

-- "A trigger is an event with no accepted clear in this tick", "A clear makes ACCUM_CNT 0 and the event isn't counted"; a 0 does nothing
clearing : (state (ready 0) (raise 0 (write (Block Clr 0) 1) ∷ []) ≡ 0)
    × (holds (ready 0) (raise 0 (write (Block Clr 0) 1) ∷ []) (Block AccumCnt 0) ≡ 0)
    × (holds (ready 0) (raise 0 (write (Block Clr 0) 1) ∷ []) (Only IntrState) ≡ 1)
    × (state (ready 0) (raise 0 (write (Block Clr 0) 0) ∷ []) ≡ 4)
    × (state (ready 0) (raise 0 (write (Block Clr 1) 1) ∷ []) ≡ 4)
    × (holds fired (rest (write (Block Clr 0) 1) ∷ []) (Block AccumCnt 0) ≡ 0)
    × (holds fired (rest (write (Block Clr 0) 0) ∷ []) (Block AccumCnt 0) ≡ 1)
unfolding rules
clearing = (refl, refl, refl, refl, refl, refl, refl)

-- "Letting the clear of one tick undo a start of the tick before under LOCK" is a slip: it is refused, and the phase goes on
under_lock : (gives started (rest (write (Block Clr 0) 1)) ≡ refused 3)
    × (state started (rest (write (Block Clr 0) 1) ∷ []) ≡ 4)
    × (holds started (rest (write (Block Clr 0) 1) ∷ []) (Block EscCnt 0) ≡ 2)
unfolding rules
under_lock = (refl, refl, refl)

-- step 5: "interrupts are INTR_STATE and INTR_ENABLE, bit by bit"; "a line is on if any class drives it"
outputs : (interrupts (with_interrupts (record { state = 12; enable = 10 }) (new_handler 1)) ≡ 8)
    × (map (λ (t : Ticked). t.output.lines) (ticks (lengths 1 1 1 1) (raise 0 none ∷ replicate 4 (rest none))) ≡ 1 ∷ 2 ∷ 4 ∷ 8 ∷ 0 ∷ [])
    × (map (λ (t : Ticked). t.output.interrupts) (ticks (ready 9) (raise 0 (write (Only IntrEnable) 1) ∷ rest (write (Only IntrState) 1) ∷ [])) ≡ 1 ∷ 0 ∷ [])
unfolding rules
outputs = (refl, refl, refl)

-- two classes: each drives its own lines, and class 3 is hit by its own alert alone
abbrev both : Handler
both =
    with_classes (settings 0x393F 0 0 (9 ∷ 0 ∷ 0 ∷ 0 ∷ []) ∷ reset_class ∷ reset_class ∷ settings 0x25F 0 0 (9 ∷ 0 ∷ 0 ∷ 0 ∷ []) ∷ [])
    (station 2 (1 ∷ 1 ∷ replicate 246 0) (0 ∷ 3 ∷ replicate 246 0) 0 reset_class)

apart : ((ticked both (raise 1 none)).output.lines ≡ 4)
    × (holds both (raise 1 none ∷ []) (Only IntrState) ≡ 8)
    × (state both (raise 1 none ∷ []) ≡ 0)
    × (holds both (raise 1 none ∷ []) (Block Setting.State 3) ≡ 4)
    × ((ticked (run both (raise 1 none ∷ [])) (raise 0 none)).output.lines ≡ 5)
unfolding rules
apart = (refl, refl, refl, refl, refl)

-- "access does nothing, tick runs": a refused access and a malformed record still take their samples
refused_ticks : (holds (ready 9) (raise 0 Access.Malformed ∷ []) (Block AccumCnt 0) ≡ 1)
    × (holds (ready 9) (raise 0 Access.Malformed ∷ []) (Alert Field.Cause 0) ≡ 1)
    × (holds (ready 9) (raise 0 (Access.Write 1293 1) ∷ []) (Block AccumCnt 0) ≡ 1)
    × (gives (ready 9) (raise 0 Access.Malformed) ≡ refused 5)
unfolding rules
refused_ticks = (refl, refl, refl, refl)
