-- Demand 3's lines: on in their phases for every later list, and off or held on by another class outside them.
-- Assumes nothing.
use Prim.Native.Nat.{ℕ, zero, suc, ◌+◌, ◌≤◌, ◌<◌}
use mathlib.Core.Path.{◌≡◌, refl}
use mathlib.Core.Logic.{◌≢◌}
use mathlib.Core.Bool.{true, false≢true}
use mathlib.Core.List.{List, [], ◌∷◌, map}
use native.Mathlib.Omega.{arith}
use lib.ListN.{replicate, length}
use Rattle.bits.specs.Bits.{bit}
use Rattle.class_rules.specs.Class.{drives}
use Rattle.rules.specs.Scenes.{rest, raise, none}
use Rattle.rules.proofs.Scenes.{rules, settings, station}
use Rattle.rules.specs.Run.{ticks}
use Rattle.rules.specs.State.{class_count, class_at, reset_class, with_classes}
use Rattle.rules.specs.declared.Handler.{Handler}
use Rattle.rules.specs.declared.Input.{Input}
use Rattle.rules.specs.declared.Ticked.{Ticked}
use Rattle.escalation.specs.Escalation.{DrivenByOther, Line, Escalated}
use Rattle.escalation.specs.List.{given_at}
use Rattle.escalation.proofs.Demand3.{demand3}
use Rattle.escalation.proofs.P7Examples
use Rattle.escalation.proofs.StartExamples.{locked}

-- ── every later list: class 2 starts in tick 100 with lengths 0, 10, 10, 5; line 1 is enabled and mapped to Phase 1, ticks 101 to 110 ──

-- what tick t gives, whatever the inputs ys after tick 100
abbrev after100 : List Input → ℕ → Ticked
after100 ys t = given_at 100 (P7Examples.station 5) (raise 1 none ∷ ys) t

module _ (ys : List Input) (t : ℕ) (from : 101 ≤ t) (l : t ≤ 100 + length ys) where
  line_1 : Line (P7Examples.class 5) 100 t (after100 ys t) 2 1
  line_1 = (P7Examples.escalated 5 P7Examples.valid_5 ys t (omega arith) l).line 1 (omega arith)

  -- in these ticks it is on
  on : t < 111 → bit (after100 ys t).output.lines 1 ≡ true
  unfolding bit
  on to = line_1.inside refl (record { from = omega arith; to = omega arith })

  -- and class 2 itself drives it, whatever the other classes do: "exactly" of the class
  driven : t < 111 → drives (class_at (after100 ys t).handler 2) 1 ≡ true
  unfolding bit
  driven to = line_1.class.1 (refl, record { from = omega arith; to = omega arith })

  -- past them it is on if another class drives it: "exactly" of the others
  held : 111 ≤ t → (j : ℕ) → j < class_count → j ≢ 2 → drives (class_at (after100 ys t).handler j) 1 ≡ true
      → bit (after100 ys t).output.lines 1 ≡ true
  held past j small other d = (line_1.outside (λ r. omega (arith, r.1.to))).1 (j, small, other, d)

-- ── a list of eight ticks from tick 100: alert 0 starts class 3 in tick 100, for nine ticks of Phase 0; alert 1 class 2 in tick 101, with phases
-- of two ticks ──

abbrev two : Handler
two =
    with_classes (reset_class ∷ reset_class ∷ locked 0 0 (2 ∷ 2 ∷ 2 ∷ 2 ∷ []) ∷ settings 0x393F 0 0 (9 ∷ 0 ∷ 0 ∷ 0 ∷ []) ∷ [])
    (station 2 (1 ∷ 1 ∷ replicate 246 0) (3 ∷ 2 ∷ replicate 246 0) 0 reset_class)

abbrev inputs : List Input
inputs = raise 0 none ∷ raise 1 none ∷ replicate 6 (rest none)

-- the lines, computed: class 3 drives line 0 in all eight, class 2 line 0 in 101 and 102, and then lines 1, 2 and 3
computed : map (λ (o : Ticked). o.output.lines) (ticks two inputs) ≡ 1 ∷ 1 ∷ 1 ∷ 3 ∷ 3 ∷ 5 ∷ 5 ∷ 9 ∷ []
unfolding rules
computed = refl

-- what tick t gives
abbrev given : ℕ → Ticked
given t = given_at 100 two inputs t

-- the claim of class 2, which starts in tick 101
claimed : (t : ℕ) → 101 ≤ t → t < 108 → Escalated (locked 0 0 (2 ∷ 2 ∷ 2 ∷ 2 ∷ [])) 101 t (given t) 2
unfolding rules
claimed t from to =
    (demand3 two inputs refl).escalation 100 2 101 (record { from = omega arith; to = omega arith })
    (record { is_class = omega arith; is_start = refl; is_locked = refl; has_en = refl; has_lock = refl }) t from
    (record { from = omega arith; to = omega arith })

-- tick 101, the tick of the start: line 0 is on
at_start : bit (given 101).output.lines 0 ≡ true
unfolding bit
at_start = ((claimed 101 (omega arith) (omega arith)).line 0 (omega arith)).inside refl (record { from = omega arith; to = omega arith })

-- tick 103, past Phase 0 of class 2
past : (e : ℕ) → e < 4 → Line (locked 0 0 (2 ∷ 2 ∷ 2 ∷ 2 ∷ [])) 101 103 (given 103) 2 e
past e l = (claimed 103 (omega arith) (omega arith)).line e l

-- line 0 is on, since class 3 drives it
held_on : bit (given 103).output.lines 0 ≡ true
unfolding rules
held_on = ((past 0 (omega arith)).outside (λ r. omega (arith, r.1.to))).1 (3, omega arith, (λ (i : 3 ≡ 2). omega arith), refl)

-- line 2 is off: no other class drives it, and class 2 is not in Phase 2
no_other : ¬ DrivenByOther (given 103).handler 2 2
unfolding rules
no_other (zero, l, d, on) = false≢true on
no_other (suc zero, l, d, on) = false≢true on
no_other (suc (suc zero), l, d, on) = d refl
no_other (suc (suc (suc zero)), l, d, on) = false≢true on
no_other (suc (suc (suc (suc j))), l, d, on) = omega arith

off : bit (given 103).output.lines 2 ≢ true
off on = no_other (((past 2 (omega arith)).outside (λ r. omega (arith, r.1.from))).0 on)
