-- The handler of the examples of request (xi), the escalation wires, and what is seen of its ticks.
-- Assumes nothing.
use Prim.Native.Nat.{ℕ, ◌-◌}
use mathlib.Core.Bool.{cond, not}
use mathlib.Core.List.{List, [], ◌∷◌, map, zip_with}
use lib.Dec.{eqb}
use lib.ListN.{get_or, replicate}
use Rattle.bits.specs.Bits.{num}
use Rattle.class_rules.specs.Class.{no_class}
use Rattle.class_rules.specs.declared.Class.{Class}
use Rattle.link_rules.specs.EscalationReceiver.{new_escalation_receiver, responds_positive, escalates, listened}
use Rattle.link_rules.specs.declared.EscalationReceiver.{EscalationReceiver}
use Rattle.rules.specs.Run.{ticks}
use Rattle.rules.specs.Scenes.{ones, sampling, wire, none}
use Rattle.rules.specs.State.{new_handler, with_alerts, with_classes, with_links, with_locals, with_timer}
use Rattle.rules.specs.declared.Handler.{Handler}
use Rattle.rules.specs.declared.Input.{Input}
use Rattle.rules.specs.declared.Receive.{Receive}
use Rattle.rules.specs.declared.Receive.TheVariants.{Pairs, Answers}
use Rattle.rules.specs.declared.Ticked.{Ticked}
use Rattle.rules.proofs.Scenes.{settings, zeros}

-- ── the handler: a rise of alert 0 starts class 0, whose Phase 0 drives line 0 for that many ticks; class 1 counts how often local 3 occurs, class 2 how often
-- local 1 does ──

abbrev pub counting : Class
counting = settings 9 99 0 zeros

abbrev pub wired : ℕ → Handler
wired length =
    with_classes (settings 5 0 0 (length ∷ 0 ∷ 0 ∷ 0 ∷ []) ∷ counting ∷ counting ∷ counting ∷ [])
    (with_locals (record { regwen = replicate 7 1; en = 0 ∷ 1 ∷ 0 ∷ 1 ∷ 0 ∷ 0 ∷ 0 ∷ []; class = 0 ∷ 2 ∷ 0 ∷ 1 ∷ 0 ∷ 0 ∷ 0 ∷ []; cause = replicate 7 0 })
    (with_alerts (record { regwen = replicate 248 1; en = 1 ∷ replicate 247 0; class = replicate 248 0; cause = replicate 248 0 }) (new_handler 1)))

-- the ping timer is on with this timeout, and line 0's ping is due after c more ticks
abbrev pub pinging : ℕ → ℕ → Handler → Handler
pinging timeout c h =
    with_timer (record { timeout = timeout; regwen = 1; enable = 1 })
    (with_links (record {
      receivers = h.links.receivers;
      turn = record { number = 1; alert = 0; count = c };
      lines = 0;
      senders = h.links.senders;
      right = 0;
    }) h)

-- ── a wave: in each tick alert 0's wires, 1 for a rise, and line 0's receive pair, 0 for (0,1), 1 for (1,0), 2 for (0,0), 3 for (1,1); 4 is an older record that
-- says nothing, 5 one that says that line 0's ping is answered; the words put the next turn's ping far away ──

abbrev pub receives : ℕ → Receive
receives r =
    cond (eqb r 0) (Pairs 0 15)
    (cond (eqb r 1) (Pairs 1 14) (cond (eqb r 2) (Pairs 0 14) (cond (eqb r 3) (Pairs 1 15) (cond (eqb r 4) (Answers 0) (Answers 1)))))

abbrev pub given : Receive → ℕ → Input
given r w = cond (eqb w 1) (sampling 65535 r (wire 0) (ones - wire 0) none) (sampling 65535 r 0 ones none)

abbrev pub wave : Handler → List ℕ → List ℕ → List Ticked
wave h rises pairs = ticks h (zip_with (λ w r. given (receives r) w) rises pairs)

-- ── what is seen of it, a row for each: the lines, their pairs, the lines whose ping is open after the tick, whose turn it is then (1 is line 0's), and
-- whether local 3 and local 1 occur ──

abbrev pub accum : ℕ → Ticked → ℕ
accum k t = (get_or t.handler.classes k no_class).accum

-- how much more each is than the one before
abbrev pub more : ℕ → List ℕ → List ℕ
more x [] = []
more x (y ∷ ys) = (y - x) ∷ more y ys

abbrev pub pair_row : List Ticked → List ℕ
pair_row ts = map (λ (t : Ticked). t.output.escalation.pos) ts

abbrev pub rows : List Ticked → List (List ℕ)
rows ts =
    map (λ (t : Ticked). t.output.lines) ts
    ∷ pair_row ts
    ∷ map (λ (t : Ticked). t.handler.links.lines) ts
    ∷ map (λ (t : Ticked). t.handler.links.turn.number) ts
    ∷ more 0 (map (accum 1) ts)
    ∷ more 0 (map (accum 2) ts)
    ∷ []

-- ── a new receiver on line 0's pair: its answers, and where it sees an escalation ──

abbrev pub answers_by : EscalationReceiver → List ℕ → List ℕ
answers_by r [] = []
answers_by r (x ∷ xs) = let p = eqb x 1 in num (responds_positive r) ∷ answers_by (listened r p (not p)) xs

abbrev pub seen_by : EscalationReceiver → List ℕ → List ℕ
seen_by r [] = []
seen_by r (x ∷ xs) = let p = eqb x 1 in num (escalates r p (not p)) ∷ seen_by (listened r p (not p)) xs

abbrev pub seen : List Ticked → List (List ℕ)
seen ts = answers_by new_escalation_receiver (pair_row ts) ∷ seen_by new_escalation_receiver (pair_row ts) ∷ []
