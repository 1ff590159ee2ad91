-- Worked examples that pin the definitions, by computation.
-- Assumes nothing.
use Prim.Native.Nat.{ℕ, ◌+◌}
use mathlib.Core.Path.{◌≡◌, refl}
use mathlib.Core.Bool.{Bool, true, false}
use mathlib.Core.List.{List, [], ◌∷◌}
use Rattle.bits.specs.Bits.{bit, bits_of}
use Rattle.bits.specs.Fields.{pack}
use Rattle.bits.specs.Index.{each_from, any_to}
use Rattle.class_rules.specs.Class.{state_of, drives}
use Rattle.class_rules.specs.Step.{counted, starts_from, moved_from, class_step}
use Rattle.class_rules.specs.declared.Class.{Class}
use Rattle.class_rules.specs.declared.Signals.{Signals}
use Rattle.calm_laws.specs.Stand.{class_after, stand_from, stands, jumped}
use Rattle.calm_rules.specs.Ticks.{change_word}
use Rattle.laws.specs.OutputMasks.{lines_on}
use Rattle.calm_laws.specs.Four.{met, four_step, after, changes, four_stands, four_jump, changes_in}

rules : ℕ → ℕ
unfolding bit bits_of pack each_from any_to state_of drives counted starts_from moved_from class_step class_after stand_from jumped met four_step after lines_on change_word changes four_stands four_jump changes_in
rules n = n

-- a class with EN, all lines, line e in phase e, at this STATE and count, with this ACCUM_CNT, ACCUM_THRESH and TIMEOUT_CYC
abbrev class : ℕ → ℕ → ℕ → ℕ → ℕ → Class
class state count accum thresh timeout =
    record {
      lengths = 0 ∷ 10 ∷ 10 ∷ 5 ∷ [];
      timeout = timeout;
      count = count;
      ctrl = 0x393D;
      accum = accum;
      thresh = thresh;
      regwen = 1;
      clrwen = 1;
      state = state;
    }

abbrev meets : Bool → Bool → Signals
meets e i = record { event = e; interrupt = i; clear = false }

-- Idle: by events at threshold 2; never without; at once if due; at once at the threshold
idle : (stands (meets true true) (class 0 0 0 2 0) ≡ 2)
    × (stands (meets false true) (class 0 0 0 2 0) ≡ 4294967296)
    × (stands (meets true true) (class 0 0 0 2 9) ≡ 0)
    × (stands (meets true true) (class 0 0 3 2 0) ≡ 0)
unfolding rules
idle = (refl, refl, refl, refl)

-- Timeout: by its count; by a trigger before; at once if not due
timeout : (stands (meets false true) (class 1 1 0 2 9) ≡ 8) × (stands (meets true true) (class 1 1 0 2 9) ≡ 2) × (stands (meets false false) (class 1 1 0 2 9) ≡ 0)
unfolding rules
timeout = (refl, refl, refl)

-- phases: length 0 as 1, length 10 from count 1, a count above its length; Terminal
phases : (stands (meets false false) (class 4 1 0 0 0) ≡ 0)
    × (stands (meets false false) (class 5 1 0 0 0) ≡ 9)
    × (stands (meets false false) (class 7 9 0 0 0) ≡ 0)
    × (stands (meets true true) (class 3 0 0 0 0) ≡ 4294967296)
unfolding rules
phases = (refl, refl, refl, refl)

-- ACCUM_CNT is full after 65535 events, and a season later
full : ((jumped (meets true true) 4294967295 (class 3 0 0 0 0)).accum ≡ 65535) × ((jumped (meets true true) 65534 (class 3 0 0 0 0)).accum ≡ 65534)
unfolding rules
full = (refl, refl)

-- class A at threshold 2 with an event each tick, "phases start at 100, 101, 111, 121; Terminal at 126" of P7 from tick 97 on; class B alike in Timeout
-- of 5 by its interrupt bit; C and D at rest. B's phases start 3 ticks later, and two classes that move in one tick give one word.
abbrev four : List Class
four = class 0 0 0 2 0 ∷ class 1 1 0 0 6 ∷ class 0 0 0 0 0 ∷ class 3 0 0 0 0 ∷ []

abbrev words : List ℕ
words =
    (0x8000000000000000 + 100)
    ∷ (0x4000000000000000 + 101)
    ∷ (0xC000000000000000 + 103)
    ∷ (0x4000000000000000 + 104)
    ∷ (0x6000000000000000 + 111)
    ∷ (0x2000000000000000 + 114)
    ∷ (0x3000000000000000 + 121)
    ∷ (0x1000000000000000 + 124)
    ∷ 129
    ∷ []

calm : (changes (met 1 3) 97 40 four ≡ words) × (four_stands (met 1 3) four ≡ 2) × (changes_in four ≡ 15)
unfolding rules
calm = (refl, refl, refl)

-- by arithmetic the same
jump : four_jump (met 1 3) 2 four ≡ after (met 1 3) 2 four
unfolding rules
jump = refl
