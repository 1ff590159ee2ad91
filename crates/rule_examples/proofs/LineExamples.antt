-- Worked examples that pin request (xi), each of the four lines at its own bit of the senders, the escalation pairs and the receive pairs, by computation.
-- Assumes nothing.
use Prim.Native.Nat.{ℕ, ◌+◌, ◌-◌, ◌*◌, ◌^◌}
use mathlib.Core.Path.{◌≡◌, refl}
use mathlib.Core.List.{List, [], ◌∷◌, map}
use lib.ListN.{replicate}
use Rattle.rules.specs.Access.{value}
use Rattle.rules.specs.Run.{run, ticks}
use Rattle.rules.specs.State.{new_handler, with_interrupts, with_classes, with_links}
use Rattle.rules.specs.Tick.{ticked}
use Rattle.rules.specs.declared.Handler.{Handler}
use Rattle.rules.specs.declared.Input.{Input}
use Rattle.rules.specs.declared.Receive.TheVariants.{Pairs}
use Rattle.rules.specs.declared.Register.TheVariants.{Block}
use Rattle.rules.specs.declared.Setting.TheVariants.{AccumCnt}
use Rattle.rules.specs.declared.Ticked.{Ticked}
use Rattle.rules.proofs.Scenes.{rules, settings}
use Rattle.rule_examples.proofs.WireScenes.{counting, wired, given}

-- ── each line at its own bit: Phase 0 of class 0 drives the lines of l, line 0 the lowest bit ──

abbrev driving : ℕ → Handler
driving l = with_classes (settings (1 + 4 * l) 0 0 (9 ∷ 0 ∷ 0 ∷ 0 ∷ []) ∷ counting ∷ counting ∷ counting ∷ []) (wired 9)

abbrev bits : List ℕ
bits = 1 ∷ 2 ∷ 4 ∷ 8 ∷ 15 ∷ []

-- a tick with these receive pairs
abbrev back : ℕ → ℕ → Input
back p m = given (Pairs p m) 0

-- the pairs of the first tick of an escalation; "(0,1)" on the other lines
places :
    map (λ l. map (λ (t : Ticked). t.output.escalation) (ticks (driving l) (given (Pairs 0 15) 1 ∷ []))) bits
    ≡ map (λ l. record { pos = l; neg = 15 - l } ∷ []) bits
unfolding rules
places = refl

-- how often local 3 occurs in these ticks after it
abbrev faults : ℕ → List Input → ℕ
faults l xs = value (run (driving l) (given (Pairs 0 15) 1 ∷ xs)) (Block AccumCnt 1)

-- each line's answer is its own: 1, 0, 1 is right on those that are on and 0 on the others
answers : (map (λ l. faults l (back l (15 - l) ∷ back 0 15 ∷ back l (15 - l) ∷ [])) bits ≡ replicate 5 0)
    × (map (λ l. faults l (back 0 15 ∷ [])) bits ≡ replicate 5 1)
    × (map (λ l. faults l (back l (15 - l) ∷ back l (15 - l) ∷ [])) bits ≡ replicate 5 1)
    × (map (λ l. faults l (back 15 0 ∷ [])) bits ≡ 1 ∷ 1 ∷ 1 ∷ 1 ∷ 0 ∷ [])
unfolding rules
answers = (refl, refl, refl, refl)

-- at rest: a wrong answer, or equal wires, of any line, and of all is one occurrence; the bits from 4 up are no line's
abbrev at_rest : ℕ → ℕ → ℕ
at_rest p m = value (run (wired 9) (back p m ∷ [])) (Block AccumCnt 1)

resting : (map (λ l. at_rest l (15 - l)) bits ≡ replicate 5 1)
    × (map (λ l. at_rest 0 (15 - l)) bits ≡ replicate 5 1)
    × (map (λ l. at_rest l 15) bits ≡ replicate 5 1)
    × (at_rest 0 15 ≡ 0)
    × (at_rest 240 255 ≡ 0)
    × (at_rest 240 15 ≡ 0)
unfolding rules
resting = (refl, refl, refl, refl, refl, refl)

-- "A disabled local alert never occurs"
disabled : ((run (wired 9) (back 0 0 ∷ [])).locals.cause ≡ 0 ∷ 0 ∷ 0 ∷ 1 ∷ 0 ∷ 0 ∷ 0 ∷ [])
    × ((run (new_handler 1) (back 0 0 ∷ [])).locals.cause ≡ replicate 7 0)
unfolding rules
disabled = (refl, refl)

-- ── every bit of the senders set, those from 4 up too ──

abbrev ones32 : ℕ
ones32 = 2 ^ 32 - 1

abbrev stuffed : Handler
stuffed =
    let h = wired 9 in
    with_links (record {
      receivers = h.links.receivers;
      turn = h.links.turn;
      lines = 0;
      senders = record { on = ones32; first = ones32; last = ones32; deep = ones32; answer = ones32 };
      right = ones32;
    }) h

-- a tick leaves four of each: a tick after the line's first holds the pair, then it is off
leaves : ((run stuffed (back 15 0 ∷ [])).links.senders ≡ record { on = 0; first = 0; last = 15; deep = 15; answer = 0 })
    × ((run stuffed (back 15 0 ∷ back 0 15 ∷ [])).links.senders ≡ record { on = 0; first = 0; last = 0; deep = 0; answer = 0 })
    × ((run stuffed (back 15 0 ∷ [])).links.right ≡ 0)
unfolding rules
leaves = (refl, refl, refl)

-- "7 sends it", (0,1), whatever the senders hold: INTR_STATE has four bits
sevens : (map (λ (t : Ticked). t.output.escalation) (ticks (with_interrupts (record { state = 16; enable = 0 }) stuffed) (back 15 0 ∷ back 15 0 ∷ [])) ≡ replicate 2 (record { pos = 0; neg = 15 }))
    × ((ticked stuffed (back 15 0)).output.escalation ≡ record { pos = 15; neg = 0 })
unfolding rules
sevens = (refl, refl)
