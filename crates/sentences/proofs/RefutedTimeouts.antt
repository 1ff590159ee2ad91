-- A tick of request (xi) in which an escalation closes a ping before the timeout of that tick is looked at: the sentences refuse it, as a theorem, as in
-- RefutedReceivers.antt.
-- Assumes nothing.
use mathlib.Core.Path.{◌≡◌, refl, sym, ap, ◌∙◌}
use mathlib.Core.Bool.{true, false, false≢true, cond}
use lib.Dec.{eqb}
use lib.ListN.{replicate}
use Rattle.bits.specs.Bits.{bit}
use Rattle.class_rules.specs.declared.Class.{Class}
use Rattle.link_rules.specs.Timer.{line_of}
use Rattle.rules.specs.Access.{accessed}
use Rattle.rules.specs.Scenes.{rest, none}
use Rattle.rules.specs.State.{local, with_classes, with_locals}
use Rattle.rules.specs.Tick.{ticked}
use Rattle.rules.specs.declared.Field.{Field}
use Rattle.rules.specs.declared.Handler.{Handler}
use Rattle.rules.specs.declared.Input.{Input}
use Rattle.rules.specs.declared.Ticked.{Ticked}
use Rattle.rules.proofs.Scenes.{rules}
use Rattle.sentences.specs.Tick.{Tick}
use Rattle.sentences.proofs.HoldsTick.{holds_step1, holds_tick}
use Rattle.sentences.proofs.OnlyTick.{only_tick}
use Rattle.sentences.proofs.RefutedTimer.{ticking, line_open}

-- ── line 0's ping has been open for two ticks and its timeout is 3; every class is in Phase 0, which drives line 0, and every local alert is enabled ──

abbrev driving : Class
driving =
    record { lengths = replicate 4 99; timeout = 0; count = 1; ctrl = 0x393D; accum = 0; thresh = 0; regwen = 1; clrwen = 1; state = 4 }

abbrev reached : Handler
reached =
    with_locals (record { regwen = replicate 7 1; en = replicate 7 1; class = replicate 7 1; cause = replicate 7 0 })
    (with_classes (replicate 4 driving) (ticking 3 (line_open 2) 1))

-- where the turn's line is on, no local alert occurs by the ping
abbrev closes_first : Handler → Input → Ticked
closes_first h x =
    let t = ticked h x in
    let locals = cond (bit t.output.lines (line_of h.links.turn)) h.locals t.handler.locals in
    record { handler = with_locals locals t.handler; answer = t.answer; output = t.output }

pub no_closing_before_the_timeout : ¬ Tick accessed closes_first
unfolding rules
no_closing_before_the_timeout w =
    let e = only_tick accessed accessed holds_step1 (λ h x v. refl) closes_first ticked w holds_tick reached (rest none) in
    let p : eqb (local (closes_first reached (rest none)).handler Field.Cause 1) 1 ≡ false = refl in
    let q : eqb (local (ticked reached (rest none)).handler Field.Cause 1) 1 ≡ true = refl in
    false≢true (sym p ∙ ap (λ (t : Ticked). eqb (local t.handler Field.Cause 1) 1) e ∙ q)
