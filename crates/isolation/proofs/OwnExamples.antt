-- Worked examples of what counts as a class's event, an access to its own block and a change of its interrupt bits by software, by computation.
-- Assumes nothing.
use Prim.Native.Nat.{ℕ}
use mathlib.Core.Path.{◌≡◌, refl}
use mathlib.Core.Bool.{Bool, true, false, xor}
use mathlib.Core.List.{List, [], ◌∷◌, map}
use lib.ListN.{replicate}
use Rattle.class_rules.specs.declared.Class.{Class}
use Rattle.rules.proofs.Scenes.{rules, station, zeros}
use Rattle.rules.specs.Map.{number_of}
use Rattle.rules.specs.Scenes.{raise, both_high, none, write}
use Rattle.rules.specs.State.{with_interrupts}
use Rattle.rules.specs.Tick.{event_in}
use Rattle.rules.specs.declared.Access.{Access}
use Rattle.rules.specs.declared.Field.{Field}
use Rattle.rules.specs.declared.Handler.{Handler}
use Rattle.rules.specs.declared.Register.TheVariants.{Only, Local, Alert, Block}
use Rattle.rules.specs.declared.Setting.{Setting}
use Rattle.rules.specs.declared.Setting.TheVariants.{Ctrl, Clr, AccumThresh}
use Rattle.rules.specs.declared.Single.TheVariants.{IntrState, IntrEnable, IntrTest}
use Rattle.isolation.specs.OwnAccess.{own, changes_state, changes_enable}

-- a locked class 2 with EN and all lines; alert 0 is enabled in it, and alert 1 in class 1, which has EN 0; INTR_STATE and INTR_ENABLE are 5
abbrev class_2 : Class
class_2 =
    record { lengths = zeros; timeout = 0; count = 0; ctrl = 0x393D; accum = 0; thresh = 9; regwen = 0; clrwen = 0; state = 0 }

abbrev h : Handler
h = with_interrupts (record { state = 5; enable = 5 }) (station 2 (1 ∷ 1 ∷ replicate 246 0) (2 ∷ 1 ∷ replicate 246 0) 2 class_2)

-- ── an access to its own block: any that names a register of it ──

abbrev read : ℕ → Access
read r = Access.Read r

-- reads and writes, and those refused with 2 (a read of CLR, a write to STATE), 4 (CTRL has 14 bits) and 3 (it is locked)
abbrev owns : List Access
owns =
    read (number_of (Block Setting.State 2))
    ∷ write (Block Setting.Regwen 2) 0
    ∷ read (number_of (Block Clr 2))
    ∷ write (Block Setting.State 2) 0
    ∷ write (Block Ctrl 2) 0x4000
    ∷ write (Block AccumThresh 2) 1
    ∷ []

own_accesses : map (λ a. own h a 2) owns ≡ owns
unfolding rules
own_accesses = refl

-- to the other classes they count as none
others_none : map (λ k. own h (write (Block AccumThresh 2) 1) k) (0 ∷ 1 ∷ 3 ∷ []) ≡ replicate 3 none
unfolding rules
others_none = refl

-- so do all that name no register of the block: the last number of its sixteen too
all_others : map (λ a. own h a 2)
    (none ∷ Access.Malformed ∷ write (Only IntrState) 15 ∷ write (Local Field.Class 2) 2 ∷ write (Alert Field.Class 0) 2 ∷ read 1325 ∷ read 1311 ∷ read 1328 ∷ [])
    ≡ replicate 8 none
unfolding rules
all_others = refl

-- ── a change of its interrupt bits: what step 1 makes of them ──

abbrev changes : Access → List Bool
changes a = changes_state h a 2 ∷ changes_enable h a 2 ∷ []

-- a 1 clears bit 2 of INTR_STATE, INTR_ENABLE takes what is written
changed : map changes (write (Only IntrState) 4 ∷ write (Only IntrState) 15 ∷ write (Only IntrEnable) 1 ∷ write (Only IntrEnable) 0 ∷ [])
    ≡ (true ∷ false ∷ []) ∷ (true ∷ false ∷ []) ∷ (false ∷ true ∷ []) ∷ (false ∷ true ∷ []) ∷ []
unfolding rules xor
changed = refl

-- a write that leaves a bit as it is, is no change: a 0, a test of a bit that is set, an enable as it was, one that is refused with 4; nor is a read
unchanged : map changes (write (Only IntrState) 11 ∷ write (Only IntrTest) 15 ∷ write (Only IntrEnable) 4 ∷ write (Only IntrEnable) 16 ∷ read 0 ∷ none ∷ []) ≡ replicate 6 (false ∷ false ∷ [])
unfolding rules xor
unchanged = refl

-- INTR_TEST sets a bit that is 0, of another class
tested : map (λ k. changes_state h (write (Only IntrTest) 15) k) (0 ∷ 1 ∷ 2 ∷ 3 ∷ []) ≡ false ∷ true ∷ false ∷ true ∷ []
unfolding rules xor
tested = refl

-- ── a class event: the rules' own, of an enabled class ──

events : (map (λ k. event_in h (raise 0 none) k) (0 ∷ 1 ∷ 2 ∷ 3 ∷ []) ≡ false ∷ false ∷ true ∷ false ∷ [])
    × (map (λ k. event_in h (raise 1 none) k) (0 ∷ 1 ∷ 2 ∷ 3 ∷ []) ≡ replicate 4 false)
    × (map (λ k. event_in h (both_high 0 none) k) (0 ∷ 1 ∷ 2 ∷ 3 ∷ []) ≡ replicate 4 false)
unfolding rules
events = (refl, refl, refl)
