-- P1 to P12 of document 01, "Ticks to reproduce", as one list. proofs/CaseList.antt has the checker compute them all.
-- Assumes nothing.
use Rattle.std.specs.Prelude.{ℕ, ◌≡◌, List, [], ◌∷◌, ◌++◌, pos, replicate}
use Rattle.cases.specs.CaseTicks.{rise, broken, old, configure, answers, holds, held_by, staged_by, changes}
use Rattle.class_rules.specs.declared.Class.{Class}
use Rattle.rules.specs.Run.{run}
use Rattle.rules.specs.Scenes.{rest, pause, none, write, gives, refused}
use Rattle.rules.specs.State.{new_handler, class_at, put, with_classes}
use Rattle.class_rules.specs.Class.{no_class}
use Rattle.rules.specs.declared.Access.{Access}
use Rattle.rules.specs.declared.Field.{Field}
use Rattle.rules.specs.declared.Handler.{Handler}
use Rattle.rules.specs.declared.Input.{Input}
use Rattle.rules.specs.declared.Register.{Register}
use Rattle.rules.specs.declared.Register.TheVariants.{Only, Local, Alert, Block}
use Rattle.rules.specs.declared.Setting.{Setting}
use Rattle.rules.specs.declared.Setting.TheVariants.{Ctrl, Clr, AccumCnt, AccumThresh, TimeoutCyc, PhaseCyc}
use Rattle.rules.specs.declared.Single.TheVariants.{IntrState}

-- ── the stations ──

abbrev pub new : Handler
new = new_handler 1

-- alert 0 enabled in class 0, which has EN, LOCK and all lines, and this threshold and timeout
abbrev pub on : ℕ → ℕ → Handler
on thresh timeout =
    run new
    (configure (Alert Field.En 0) 1
    ++ configure (Block AccumThresh 0) thresh
    ++ configure (Block TimeoutCyc 0) timeout
    ++ configure (Block Ctrl 0) 0x393F)

-- the same with threshold 0 and these lengths
abbrev pub long : ℕ → ℕ → ℕ → ℕ → Handler
long a b c d =
    run (on 0 0)
    (configure (Block (PhaseCyc 0) 0) a
    ++ configure (Block (PhaseCyc 1) 0) b
    ++ configure (Block (PhaseCyc 2) 0) c
    ++ configure (Block (PhaseCyc 3) 0) d)

-- the same with ACCUM_CNT at 65535
abbrev counted : Class → Class
counted c =
    record {
      lengths = c.lengths;
      timeout = c.timeout;
      count = c.count;
      ctrl = c.ctrl;
      accum = 65535;
      thresh = c.thresh;
      regwen = c.regwen;
      clrwen = c.clrwen;
      state = c.state;
    }

abbrev pub full : Handler
full = let h = on 65535 0 in with_classes (put 4 h.classes no_class 0 (counted (class_at h 0))) h

-- threshold and ACCUM_CNT 2, by two events; the interrupt bit is cleared, and the receiver is ready again
abbrev pub counted2 : Handler
counted2 = run (on 2 0) (rise none ∷ pause ++ (rise none ∷ pause ++ (rest (write (Only IntrState) 1) ∷ [])))

-- local 2 enabled in class 1, which has EN; alert 0 enabled
abbrev pub sealed : Handler
sealed =
    run new
    (configure (Alert Field.En 0) 1
    ++ configure (Local Field.En 2) 1
    ++ configure (Local Field.Class 2) 1
    ++ configure (Block Ctrl 1) 0x393D)

abbrev pub state : Register
state = Block Setting.State 0

abbrev pub accum : Register
accum = Block AccumCnt 0

-- request (viii): between two events of an alert it drops, and there are two ticks of pause
abbrev pub three_events : List Input
three_events = rise none ∷ pause ++ (rise none ∷ pause ++ (rise none ∷ []))

-- 65535 and 65536 written to 325 in turn
abbrev pub writes325 : List Input
writes325 =
    rest (old (Access.Write 325 65535))
    ∷ rest (old (Access.Write 325 65536))
    ∷ rest (old (Access.Write 325 65535))
    ∷ rest (old (Access.Write 325 65536))
    ∷ []

-- ── the list ──

pub record List12 : Type 0 where
  -- P1 New, N = 1: read 321 gives 0x393C
  pub P1 : gives new (rest (old (Access.Read 321))) ≡ pos 0x393C
  -- P2, written anew by request (v): 65535 to 325 is staged, 65536 gets -4 with the stage kept, 65535 again commits, 65536 gets -4 with the
  -- register unchanged
  pub P2 : answers new (writes325 ++ (rest (old (Access.Read 325)) ∷ [])) ≡ pos 0 ∷ refused 4 ∷ pos 0 ∷ refused 4 ∷ pos 65535 ∷ []
  pub P2_held : held_by new writes325 (Block AccumThresh 0) ≡ 0 ∷ 0 ∷ 65535 ∷ 65535 ∷ []
  pub P2_stage : staged_by new writes325 (Block AccumThresh 0) ≡ 65536 ∷ 65536 ∷ 0 ∷ 0 ∷ []
  -- P3 Write 0 to 320, then 321: -3. P4 Then 1 to 320: -3; 0 to 320: 0
  pub P3_P4 :
      answers new
      (rest (old (Access.Write 320 0))
      ∷ rest (old (Access.Write 321 1))
      ∷ rest (old (Access.Read 321))
      ∷ rest (old (Access.Write 320 1))
      ∷ rest (old (Access.Write 320 0))
      ∷ rest (old (Access.Read 320))
      ∷ [])
      ≡ pos 0 ∷ refused 3 ∷ pos 0x393C ∷ refused 3 ∷ pos 0 ∷ pos 0 ∷ []
  -- P5 Threshold 2, ACCUM_CNT 0, Idle: the third event starts Phase 0, ACCUM_CNT then 3; the second does not
  pub P5_state : held_by (on 2 0) three_events state ≡ 0 ∷ 0 ∷ 0 ∷ 0 ∷ 0 ∷ 0 ∷ 0 ∷ 0 ∷ 4 ∷ []
  pub P5_accum : held_by (on 2 0) three_events accum ≡ 1 ∷ 1 ∷ 1 ∷ 1 ∷ 2 ∷ 2 ∷ 2 ∷ 2 ∷ 3 ∷ []
  -- P6 Threshold and ACCUM_CNT 65535: next event starts it, ACCUM_CNT stays
  pub P6_before : (holds full [] state ≡ 0) × (holds full [] (Block AccumThresh 0) ≡ 65535) × (holds full [] accum ≡ 65535)
  pub P6 : (holds full (rise none ∷ []) state ≡ 4) × (holds full (rise none ∷ []) accum ≡ 65535)
  -- P7 Lengths 0, 10, 10, 5, start in tick 100, no clear: phases start at 100, 101, 111, 121; Terminal at 126: each change of STATE in ticks 100
  -- to 127, with its tick
  pub P7 :
      changes 100 0 (held_by (long 0 10 10 5) (rise none ∷ replicate 27 (rest none)) state)
      ≡ (100, 4) ∷ (101, 5) ∷ (111, 6) ∷ (121, 7) ∷ (126, 3) ∷ []
  -- P8 Timeout 1, first due in tick 7 and still due in 8: Phase 0 in 8. Timeout 0: stays Idle
  pub P8 :
      (changes 7 0 (held_by (on 9 1) (rise none ∷ rest none ∷ []) state) ≡ (7, 1) ∷ (8, 4) ∷ []) × (held_by (on 9 0) (rise none ∷ rest none ∷ []) state ≡ 0 ∷ 0 ∷ [])
  -- P9 Idle, accepted clear with an event at the threshold: ACCUM_CNT 0, no start, interrupt set
  pub P9_before : (holds counted2 [] state ≡ 0) × (holds counted2 [] (Block AccumThresh 0) ≡ 2) × (holds counted2 [] accum ≡ 2) × (holds counted2 [] (Only IntrState) ≡ 0)
  pub P9 :
      (gives counted2 (rise (write (Block Clr 0) 1)) ≡ pos 0)
      × (holds counted2 (rise (write (Block Clr 0) 1) ∷ []) accum ≡ 0)
      × (holds counted2 (rise (write (Block Clr 0) 1) ∷ []) state ≡ 0)
      × (holds counted2 (rise (write (Block Clr 0) 1) ∷ []) (Only IntrState) ≡ 1)
  -- without the clear the same event starts it
  pub P9_start : holds counted2 (rise none ∷ []) state ≡ 4
  -- P10 Clear one tick after a LOCK start: -3
  pub P10 :
      (answers (on 0 0) (rise none ∷ rest (write (Block Clr 0) 1) ∷ []) ≡ pos 0 ∷ refused 3 ∷ [])
      × (held_by (long 5 5 5 5) (rise none ∷ rest (write (Block Clr 0) 1) ∷ []) state ≡ 4 ∷ 4 ∷ [])
  -- P11 Wires (1,1) on enabled alert 0, local 2 enabled in enabled class 1: register 42 reads 1 next tick
  pub P11 : answers sealed (broken (old (Access.Read 42)) ∷ rest (old (Access.Read 42)) ∷ []) ≡ pos 0 ∷ pos 1 ∷ []
  -- P12 INTR_STATE clear with an event: bit is 1 after
  pub P12 :
      held_by (on 9 0) (rise none ∷ pause ++ (rise (write (Only IntrState) 1) ∷ rest (write (Only IntrState) 1) ∷ [])) (Only IntrState)
      ≡ 1 ∷ 1 ∷ 1 ∷ 1 ∷ 1 ∷ 0 ∷ []
