-- Ticks in which the receivers of the four lines answer as sound ones do, request (xi), for examples that are about something else.
-- Assumes nothing.
use Prim.Native.Nat.{◌-◌}
use mathlib.Core.List.{List, [], ◌∷◌}
use Rattle.rules.specs.Tick.{ticked}
use Rattle.rules.specs.declared.Handler.{Handler}
use Rattle.rules.specs.declared.Input.{Input}
use Rattle.rules.specs.declared.Receive.TheVariants.{Pairs}

-- their answers are what the senders hold for right (link_rules, Seen.never_wrong)
abbrev pub answered : Handler → Input → Input
answered h x =
    let a = h.links.senders.answer in
    record { access = x.access; sample = record { alerts = x.sample.alerts; word = x.sample.word; receive = Pairs a (15 - a) } }

-- the state after these ticks
abbrev pub run_soundly : Handler → List Input → Handler
run_soundly h [] = h
run_soundly h (x ∷ xs) = run_soundly (ticked h (answered h x)).handler xs
