-- States that the examples share.
-- Assumes nothing.
use Prim.Native.Nat.{ℕ}
use mathlib.Core.List.{List, [], ◌∷◌}
use lib.IntN.{ℤ}
use lib.ListN.{set, replicate}
use Rattle.bits.specs.Bits.{bit, bits_of, word_of}
use Rattle.bits.specs.Index.{each_from, any_to, all_to}
use Rattle.bits.specs.Fields.{pack, unpack}
use Rattle.class_rules.specs.declared.Class.{Class}
use Rattle.class_rules.specs.Class.{state_of, drives, class_fits}
use Rattle.class_rules.specs.Step.{counted, starts_from, moved_from, class_step}
use Rattle.link_rules.specs.EscalationReceiver.{sound_after}
use Rattle.link_rules.specs.LinePing.{answered_by_wires, right_after, closed_by_line}
use Rattle.link_rules.specs.Receiver.{asked_for, stands_after, received}
use Rattle.link_rules.specs.Sender.{sent}
use Rattle.link_rules.specs.Timer.{opens, open_now, fails, ends, turned}
use Rattle.rules.specs.Answer.{number, first_of}
use Rattle.rules.specs.State.{put, new_handler, made, reset_class, with_locals, with_alerts, with_classes}
use Rattle.rules.specs.Map.{block_at, decode, number_of, bits, write_only, read_only, guard, is_lock, is_shadowed}
use Rattle.rules.specs.Stages.{stage_in, with_stage, dropped}
use Rattle.rules.specs.Scenes.{rest, raise, none}
use Rattle.rules.specs.Valid.{class_stages_fit, stages_fit, pings_fit, valid}
use Rattle.rules.specs.Access.{value, locked, verdict, store, written, acted, answer_to, effects, clears, accessed}
use Rattle.rules.specs.Samples.{happened, answered, receiver_after, receiver_timed, alert_broken, line_wrong, raised, heard, alert_event, occurs, sampled, assigned}
use Rattle.rules.specs.Tick.{event, interrupt_now, signals, stepped, interrupts, lines, driven, closed_now, lines_timed, links_after, acknowledge_pairs, ping_pairs, escalation_pairs, output_of, hears, after, tick, ticked}
use Rattle.rules.specs.Run.{run, ticks}
use Rattle.rules.specs.declared.Access.{Access}
use Rattle.rules.specs.declared.Handler.{Handler}

-- names every definition that an example computes with: `unfolding rules` opens them all
unfoldable pub rules : ℕ → ℕ
unfolding bit bits_of word_of each_from any_to all_to pack unpack state_of drives class_fits counted starts_from moved_from class_step number first_of put new_handler made block_at decode number_of bits write_only read_only guard is_lock is_shadowed stage_in with_stage dropped class_stages_fit stages_fit pings_fit valid value locked verdict store written acted answer_to effects clears accessed received asked_for stands_after opens open_now fails ends turned sound_after sent answered_by_wires right_after closed_by_line happened answered receiver_after receiver_timed alert_broken line_wrong raised heard alert_event occurs sampled assigned event interrupt_now signals stepped interrupts lines driven closed_now lines_timed links_after acknowledge_pairs ping_pairs escalation_pairs output_of hears after tick ticked run ticks
rules n = n

-- the state after these accesses, and the number that an access or a read answers
abbrev pub acts : Handler → List Access → Handler
acts h [] = h
acts h (x ∷ xs) = acts (acted h x) xs

abbrev pub answers : Handler → Access → ℤ
answers h x = number (answer_to h x)

abbrev pub reads : Handler → ℕ → ℤ
reads h r = answers h (Access.Read r)

-- the state after an access with all wires at (0,1)
abbrev pub then : Handler → Access → Handler
then h x = (ticked h (rest x)).handler

-- ── handlers ──

-- an Idle class with this CTRL, ACCUM_THRESH, TIMEOUT_CYC and lengths
abbrev pub settings : ℕ → ℕ → ℕ → List ℕ → Class
settings ctrl thresh timeout lengths =
    record { lengths = lengths; timeout = timeout; count = 0; ctrl = ctrl; accum = 0; thresh = thresh; regwen = 1; clrwen = 1; state = 0 }

abbrev pub zeros : List ℕ
zeros = replicate 4 0

-- a new handler of n alerts but for these EN and CLASS columns and class k
abbrev pub station : ℕ → List ℕ → List ℕ → ℕ → Class → Handler
station n ens classes k c =
    with_classes (set (replicate 4 reset_class) k c)
    (with_alerts (record { regwen = replicate 248 1; en = ens; class = classes; cause = replicate 248 0 }) (new_handler n))

-- two alerts, both enabled in class 0, which has EN, LOCK, all lines and these settings
abbrev pub pair : ℕ → ℕ → List ℕ → Handler
pair thresh timeout lengths = station 2 (1 ∷ 1 ∷ replicate 246 0) (replicate 248 0) 0 (settings 0x393F thresh timeout lengths)

abbrev pub ready : ℕ → Handler
ready thresh = pair thresh 0 zeros

-- local 5 is enabled or not, in class 1, which has EN and a line
abbrev pub watched : ℕ → Handler
watched on =
    with_locals (record { regwen = replicate 7 1; en = set (replicate 7 0) 5 on; class = set (replicate 7 0) 5 1; cause = replicate 7 0 })
    (station 1 (replicate 248 0) (replicate 248 0) 1 (settings 5 0 0 zeros))

-- threshold 0 and these phase lengths; and such a handler with its escalation started
abbrev pub lengths : ℕ → ℕ → ℕ → ℕ → Handler
lengths a b c d = pair 0 0 (a ∷ b ∷ c ∷ d ∷ [])

abbrev pub started : Handler
started = run (lengths 9 0 0 0) (raise 0 none ∷ [])
