-- Request (x) is not vacuous: two stations with other N, other alerts, other accesses and another busy class B, and what the theorem says of class A.
-- Assumes nothing.
use Prim.Native.Nat.{ℕ, ◌<◌}
use mathlib.Core.Path.{◌≡◌, refl, sym, ◌∙◌}
use mathlib.Core.Bool.{Bool, true, false, xor}
use mathlib.Core.List.{List, [], ◌∷◌, map}
use native.Mathlib.Omega.{arith}
use lib.ListN.{set, replicate}
use Rattle.bits.specs.Bits.{bit}
use Rattle.class_rules.specs.Class.{drives}
use Rattle.class_rules.specs.declared.Class.{Class}
use Rattle.escalation.specs.List.{IsTick, given_at}
use Rattle.rules.proofs.Scenes.{rules, settings, station, zeros}
use Rattle.rules.specs.Access.{value}
use Rattle.rules.specs.Map.{number_of}
use Rattle.rules.specs.Run.{ticks}
use Rattle.rules.specs.Scenes.{rest, raise, both_high, none, write}
use Rattle.rules.specs.Stages.{class_stages, stage, with_stage}
use Rattle.rules.specs.State.{class_at, reset_class, no_stages, with_classes, with_interrupts, with_locals, with_stages}
use Rattle.rules.specs.declared.Access.{Access}
use Rattle.rules.specs.declared.Answer.{Answer}
use Rattle.rules.specs.declared.Field.{Field}
use Rattle.rules.specs.declared.Handler.{Handler}
use Rattle.rules.specs.declared.Input.{Input}
use Rattle.rules.specs.declared.Refusal.TheVariants.{Locked, BadRecord, Differs}
use Rattle.rules.specs.declared.Register.{Register}
use Rattle.rules.specs.declared.Register.TheVariants.{Only, Local, Alert, Block}
use Rattle.rules.specs.declared.Setting.{Setting}
use Rattle.rules.specs.declared.Setting.TheVariants.{Ctrl, Clr, AccumCnt, AccumThresh, TimeoutCyc, PhaseCyc, EscCnt}
use Rattle.rules.specs.declared.Single.TheVariants.{IntrState, IntrEnable}
use Rattle.rules.specs.declared.Ticked.{Ticked}
use Rattle.isolation.specs.Isolation.{Alike, AlikeEnable, SameClass, Isolation}
use Rattle.isolation.proofs.Isolated.{isolation}
use Rattle.isolation.proofs.Traces.{Got, along, gets, enables, alike_by, enable_by}

-- ── in both: class A has EN, LOCK, all lines, a threshold of 9, lengths 0, and a staged threshold of 0; class D is locked, in Phase 2 ──

abbrev owner : Class
owner = settings 0x393F 9 0 zeros

abbrev going : Class
going =
    record { lengths = 0 ∷ 0 ∷ 9 ∷ 2 ∷ []; timeout = 0; count = 5; ctrl = 0x393D; accum = 7; thresh = 3; regwen = 0; clrwen = 0; state = 6 }

-- 65 alerts, of which the last is enabled, in class A
abbrev one : Handler
one =
    with_stages (with_stage (Block AccumThresh 0) 1 no_stages)
    (with_classes (owner ∷ reset_class ∷ reset_class ∷ going ∷ [])
    (station 65 (set (replicate 248 0) 64 1) (replicate 248 0) 0 owner))

-- 3 alerts: 0 is enabled in class B, which starts at its first event and has a stage open, and 1 in class A; local 2 and local 5 are enabled in class B;
-- the interrupt bits of other classes are set
abbrev other : Handler
other =
    with_stages (with_stage (Block Ctrl 1) 9 (with_stage (Block AccumThresh 0) 1 no_stages))
    (with_interrupts (record { state = 6; enable = 8 })
    (with_locals (record { regwen = replicate 7 1; en = 0 ∷ 0 ∷ 1 ∷ 0 ∷ 0 ∷ 1 ∷ 0 ∷ []; class = replicate 7 1; cause = replicate 7 0 })
    (with_classes (owner ∷ settings 0x393D 0 0 zeros ∷ reset_class ∷ going ∷ [])
    (station 3 (1 ∷ 1 ∷ replicate 246 0) (1 ∷ 0 ∷ replicate 246 0) 0 owner))))

abbrev read : Register → Access
read q = Access.Read (number_of q)

-- the staged threshold is committed; the interrupt is enabled; an event starts class A; its STATE is read; its timeout is staged and written otherwise; its
-- interrupt is cleared; its CLR, now locked, is written; a length is staged; an alert and a local alert are written
abbrev xs : List Input
xs =
    rest (write (Block AccumThresh 0) 0)
    ∷ rest (write (Only IntrEnable) 1)
    ∷ raise 64 none
    ∷ rest (read (Block Setting.State 0))
    ∷ rest (write (Block TimeoutCyc 0) 7)
    ∷ rest (write (Block TimeoutCyc 0) 8)
    ∷ rest (write (Only IntrState) 1)
    ∷ rest (write (Block Clr 0) 1)
    ∷ rest (write (Block (PhaseCyc 2) 0) 5)
    ∷ rest (write (Alert Field.En 40) 1)
    ∷ rest (write (Local Field.En 3) 1)
    ∷ []

-- the same to class A, while class B starts, is cleared, starts again by local 2 and has events by local 5 and its alert
abbrev ys : List Input
ys =
    raise 0 (write (Block AccumThresh 0) 0)
    ∷ rest (write (Only IntrEnable) 3)
    ∷ raise 1 (write (Block Clr 1) 1)
    ∷ rest (read (Block Setting.State 0))
    ∷ both_high 0 (write (Block TimeoutCyc 0) 7)
    ∷ rest (write (Block TimeoutCyc 0) 8)
    ∷ rest (write (Only IntrState) 15)
    ∷ raise 0 (write (Block Clr 0) 1)
    ∷ rest (write (Block (PhaseCyc 2) 0) 5)
    ∷ rest (read (Block Ctrl 1))
    ∷ rest Access.Malformed
    ∷ []

-- ── class A is treated alike ──

-- what it gets in a tick: an event or none, the access to its block, a change of its interrupt bit by software or none
abbrev entry : Bool → Access → Bool → Got
entry e a c = record { has_event = e; access = a; change = c }

abbrev common : List Got
common =
    entry false (write (Block AccumThresh 0) 0) false
    ∷ entry false none false
    ∷ entry true none false
    ∷ entry false (read (Block Setting.State 0)) false
    ∷ entry false (write (Block TimeoutCyc 0) 7) false
    ∷ entry false (write (Block TimeoutCyc 0) 8) false
    ∷ entry false none true
    ∷ entry false (write (Block Clr 0) 1) false
    ∷ entry false (write (Block (PhaseCyc 2) 0) 5) false
    ∷ entry false none false
    ∷ entry false none false
    ∷ []

-- each run is computed by itself: `refl` between the two would compare the two states first
one_gets : gets 0 one xs ≡ common
unfolding rules xor along
one_gets = refl

other_gets : gets 0 other ys ≡ common
unfolding rules xor along
other_gets = refl

alike : (first : ℕ) → Alike 0 first one xs other ys
unfolding rules
alike first = alike_by 0 first one xs other ys (one_gets ∙ sym other_gets) refl refl refl

-- and so is its bit of INTR_ENABLE: 1 and 3 are written, which change bit 0 alike
abbrev once : List Bool
once = false ∷ true ∷ replicate 9 false

one_enables : enables 0 one xs ≡ once
unfolding rules xor along
one_enables = refl

other_enables : enables 0 other ys ≡ once
unfolding rules xor along
other_enables = refl

alike_enable : (first : ℕ) → AlikeEnable 0 first one xs other ys
unfolding rules
alike_enable first = enable_by 0 first one xs other ys (one_enables ∙ sym other_enables) refl

-- so the theorem speaks of each tick, whatever the first one's number
isolated : (first : ℕ) → Isolation 0 first one xs other ys
unfolding rules
isolated first = isolation 0 first one xs other ys (omega arith) refl refl refl

-- ── each part of it ──

module _ (t : ℕ) (m : IsTick 100 xs t) where
  abbrev o : Ticked
  o = given_at 100 one xs t

  abbrev p : Ticked
  p = given_at 100 other ys t

  class_same : SameClass 0 o p
  class_same = (isolated 100).class (alike 100) t m

  -- state, accumulator, count, and the other registers of the block
  registers : (value o.handler (Block Setting.State 0) ≡ value p.handler (Block Setting.State 0))
      × (value o.handler (Block AccumCnt 0) ≡ value p.handler (Block AccumCnt 0))
      × (value o.handler (Block EscCnt 0) ≡ value p.handler (Block EscCnt 0))
      × ((s : Setting) → value o.handler (Block s 0) ≡ value p.handler (Block s 0))
      × (class_at o.handler 0 ≡ class_at p.handler 0)
  registers =
      let s = class_same.registers in
      (s Setting.State, s AccumCnt, s EscCnt, s, class_same.content)

  stages_same : ((s : Setting) → stage o.handler (Block s 0) ≡ stage p.handler (Block s 0))
      × (class_stages o.handler.stages 0 ≡ class_stages p.handler.stages 0)
  stages_same = (class_same.staged, class_same.stages)

  lines_same : (e : ℕ) → drives (class_at o.handler 0) e ≡ drives (class_at p.handler 0) e
  lines_same = class_same.lines

  bits_same : (bit o.handler.interrupts.state 0 ≡ bit p.handler.interrupts.state 0)
      × (bit o.handler.interrupts.enable 0 ≡ bit p.handler.interrupts.enable 0)
      × (bit o.output.interrupts 0 ≡ bit p.output.interrupts 0)
  bits_same =
      let s = (isolated 100).interrupt (alike 100) (alike_enable 100) t m in
      (class_same.interrupt_bit, s.enable_bit, s.interrupt)

-- the answers: a read, a staged write, one that differs and one that is locked
answered : ((given_at 0 one xs 3).answer ≡ (given_at 0 other ys 3).answer)
    × ((given_at 0 one xs 4).answer ≡ (given_at 0 other ys 4).answer)
    × ((given_at 0 one xs 5).answer ≡ (given_at 0 other ys 5).answer)
    × ((given_at 0 one xs 7).answer ≡ (given_at 0 other ys 7).answer)
unfolding rules
answered =
    let a = (isolated 0).answer (alike 0) in
    (a 3 (at 3 (omega arith)) refl, a 4 (at 4 (omega arith)) refl, a 5 (at 5 (omega arith)) refl, a 7 (at 7 (omega arith)) refl)
  where
    at : (t : ℕ) → t < 11 → IsTick 0 xs t
    at t l = record { from = omega arith; to = l }

-- class D too, whose bit of INTR_ENABLE is not the same: it gets nothing in either run
abbrev nothing : List Got
nothing = replicate 11 (entry false none false)

one_leaves : gets 3 one xs ≡ nothing
unfolding rules xor along
one_leaves = refl

other_leaves : gets 3 other ys ≡ nothing
unfolding rules xor along
other_leaves = refl

isolated_3 : (t : ℕ) → IsTick 7 xs t → SameClass 3 (given_at 7 one xs t) (given_at 7 other ys t)
unfolding rules
isolated_3 = (isolation 3 7 one xs other ys (omega arith) refl refl refl).class (alike_by 3 7 one xs other ys (one_leaves ∙ sym other_leaves) refl refl refl)

-- ── computed beside it: the start in tick 2, the phases and Terminal, the stages, the interrupt and the answers; class B and the lines differ; class D ends its phases ──

-- after a tick: class A's STATE, the codes staged for its TIMEOUT_CYC and PHASE2_CYC, its interrupt; the answer; the STATES of B and D, the lines
record Row : Type 0 where
  pub state : ℕ
  pub timeout : ℕ
  pub length_2 : ℕ
  pub interrupt : Bool
  pub answer : Answer
  pub state_b : ℕ
  pub state_d : ℕ
  pub lines : ℕ

abbrev rows : Handler → List Input → List Row
rows h is =
    map (λ (o : Ticked). record {
      state = (class_at o.handler 0).state;
      timeout = stage o.handler (Block TimeoutCyc 0);
      length_2 = stage o.handler (Block (PhaseCyc 2) 0);
      interrupt = bit o.output.interrupts 0;
      answer = o.answer;
      state_b = (class_at o.handler 1).state;
      state_d = (class_at o.handler 3).state;
      lines = o.output.lines;
    }) (ticks h is)

abbrev row : ℕ → ℕ → ℕ → Bool → Answer → ℕ → ℕ → ℕ → Row
row s t p i a b d l = record { state = s; timeout = t; length_2 = p; interrupt = i; answer = a; state_b = b; state_d = d; lines = l }

computed : rows one xs
    ≡ row 0 0 0 false Answer.Done 0 6 4
    ∷ row 0 0 0 false Answer.Done 0 6 4
    ∷ row 4 0 0 true Answer.Done 0 6 5
    ∷ row 5 0 0 true (Answer.Value 4) 0 6 6
    ∷ row 6 8 0 true Answer.Done 0 7 12
    ∷ row 7 0 0 true (Answer.Refused Differs) 0 7 8
    ∷ row 3 0 0 false Answer.Done 0 3 0
    ∷ row 3 0 0 false (Answer.Refused Locked) 0 3 0
    ∷ row 3 0 6 false Answer.Done 0 3 0
    ∷ row 3 0 6 false Answer.Done 0 3 0
    ∷ row 3 0 6 false Answer.Done 0 3 0
    ∷ []
unfolding rules
computed = refl

computed_other : rows other ys
    ≡ row 0 0 0 false Answer.Done 4 6 5
    ∷ row 0 0 0 false Answer.Done 5 6 6
    ∷ row 4 0 0 true Answer.Done 0 6 5
    ∷ row 5 0 0 true (Answer.Value 4) 0 6 6
    ∷ row 6 8 0 true Answer.Done 4 7 13
    ∷ row 7 0 0 true (Answer.Refused Differs) 5 7 10
    ∷ row 3 0 0 false Answer.Done 6 3 4
    ∷ row 3 0 0 false (Answer.Refused Locked) 7 3 8
    ∷ row 3 0 6 false Answer.Done 3 3 0
    ∷ row 3 0 6 false (Answer.Value 0x393D) 3 3 0
    ∷ row 3 0 6 false (Answer.Refused BadRecord) 3 3 0
    ∷ []
unfolding rules
computed_other = refl
