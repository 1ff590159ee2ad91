-- Worked examples that pin "Numbers that come back", by computation.
-- Assumes nothing.
use Prim.Native.Nat.{ℕ, ◌+◌, ◌*◌, ◌^◌}
use mathlib.Core.Path.{◌≡◌, refl}
use mathlib.Core.List.{List, [], ◌∷◌, ◌++◌, map}
use lib.IntN.{ℤ, pos, negsuc}
use lib.ListN.{replicate}
use Rattle.rules.specs.Answer.{number}
use Rattle.rules.specs.State.{new_handler, made, with_locals, with_alerts, with_classes}
use Rattle.rules.specs.declared.Access.{Access}
use Rattle.rules.specs.declared.Answer.{Answer}
use Rattle.rules.specs.declared.Handler.{Handler}
use Rattle.rules.specs.declared.Refusal.TheVariants.{NoRegister, WrongWay, Locked, TooWide, BadRecord, BadCount, BadState, BadLength, ShortList, NoRecord, ShortBuffer, Differs, SillyThreshold}
use Rattle.rules.specs.Scenes.{rest, gives, refused}
use Rattle.rules.proofs.Scenes.{rules, answers, then}

-- "a read gives 0 to 4,294,967,295, anything else accepted gives 0, and a refusal gives the negated refusal number"
numbers : (number (Answer.Value 4294967295) ≡ pos 4294967295)
    × (number (Answer.Value 0) ≡ pos 0)
    × (number Answer.Done ≡ pos 0)
    × (number (Answer.Refused NoRegister) ≡ negsuc 0)
    × (number (Answer.Refused WrongWay) ≡ negsuc 1)
    × (number (Answer.Refused Locked) ≡ negsuc 2)
    × (number (Answer.Refused TooWide) ≡ negsuc 3)
    × (number (Answer.Refused BadRecord) ≡ negsuc 4)
    × (number (Answer.Refused BadCount) ≡ negsuc 5)
    × (number (Answer.Refused BadState) ≡ negsuc 6)
    × (number (Answer.Refused BadLength) ≡ negsuc 7)
    × (number (Answer.Refused ShortList) ≡ negsuc 8)
    × (number (Answer.Refused NoRecord) ≡ negsuc 9)
    × (number (Answer.Refused ShortBuffer) ≡ negsuc 10)
    × (number (Answer.Refused Differs) ≡ negsuc 11)
    × (number (Answer.Refused SillyThreshold) ≡ negsuc 13)
unfolding rules
numbers = (refl, refl, refl, refl, refl, refl, refl, refl, refl, refl, refl, refl, refl, refl, refl, refl)

-- 6: "N is 0 or over 64", which leaves "a handler of no alerts, otherwise as new"; request (iii): 6 reads 248
makes : (made 0 ≡ record { handler = new_handler 0; answer = refused 6 })
    × (made 1 ≡ record { handler = new_handler 1; answer = pos 0 })
    × (made 65 ≡ record { handler = new_handler 65; answer = pos 0 })
    × (made 248 ≡ record { handler = new_handler 248; answer = pos 0 })
    × (made 249 ≡ record { handler = new_handler 0; answer = refused 6 })
    × (made 256 ≡ record { handler = new_handler 0; answer = refused 6 })
    × (made (2 ^ 32) ≡ record { handler = new_handler 0; answer = refused 6 })
unfolding rules
makes = (refl, refl, refl, refl, refl, refl, refl)

-- the handler that refusal 6 leaves takes its ticks
no_alerts : gives (new_handler 0) (rest (Access.Read 1281)) ≡ pos 0x393C
unfolding rules
no_alerts = refl

-- "All REGWEN and CLR_REGWEN start at 1, all CTRL at 0x393C, every other register at 0, classes Idle"; receivers ready, ping pairs at (0,1), senders at rest, no ping and no stage open
new : new_handler 1
    ≡ record {
      n = 1;
      links = record { receivers = record { pausing = replicate 4 0; busy = replicate 4 0; level = replicate 4 0; pending = replicate 4 0 }; turn = record { number = 0; alert = 0; count = 0 }; lines = 0; senders = record { on = 0; first = 0; last = 0; deep = 0; answer = 0 }; right = 0 };
      classes =
          replicate 4
          (record {
            lengths = 0 ∷ 0 ∷ 0 ∷ 0 ∷ [];
            timeout = 0;
            count = 0;
            ctrl = 14652;
            accum = 0;
            thresh = 0;
            regwen = 1;
            clrwen = 1;
            state = 0;
          });
      alerts = record { regwen = replicate 248 1; en = replicate 248 0; class = replicate 248 0; cause = replicate 248 0 };
      locals = record { regwen = replicate 7 1; en = replicate 7 0; class = replicate 7 0; cause = replicate 7 0 };
      interrupts = record { state = 0; enable = 0 };
      timer = record { timeout = 0; regwen = 1; enable = 0 };
      stages =
          record {
            classes = replicate 4 (record { lengths = replicate 4 0; timeout = 0; ctrl = 0; thresh = 0 });
            alerts = record { en = replicate 248 0; class = replicate 248 0 };
            locals = record { en = replicate 7 0; class = replicate 7 0 };
            timeout = 0;
          };
    }
unfolding rules
new = refl

-- "For an access the order is 7, 5, 1, 2, 4, 3"
abbrev locked0 : Handler
locked0 = then (new_handler 1) (Access.Write 1280 0)

abbrev bad : Handler
bad = with_classes [] (new_handler 249)

order : (gives locked0 (rest (Access.Write 1285 65536)) ≡ refused 4)
    × (gives locked0 (rest (Access.Write 1285 65535)) ≡ refused 3)
    × (gives locked0 (rest (Access.Write 1280 2)) ≡ refused 4)
    × (gives locked0 (rest (Access.Write 1280 1)) ≡ refused 3)
    × (gives locked0 (rest (Access.Write 1280 0)) ≡ pos 0)
    × (gives locked0 (rest (Access.Write 1284 1)) ≡ refused 2)
    × (gives locked0 (rest (Access.Write 1284 4294967295)) ≡ refused 2)
    × (gives locked0 (rest (Access.Write 1293 4294967295)) ≡ refused 1)
    × (gives locked0 (rest Access.Malformed) ≡ refused 5)
    × (gives bad (rest Access.Malformed) ≡ refused 7)
unfolding rules
order = (refl, refl, refl, refl, refl, refl, refl, refl, refl, refl)

-- 4 before 3 at every kind of register that can be locked, at both ends and in every class: one that does not fit, and the most that does
abbrev shut : Handler
shut =
    with_classes
    (replicate 4 (record { lengths = replicate 4 0; timeout = 0; count = 0; ctrl = 0; accum = 0; thresh = 0; regwen = 0; clrwen = 0; state = 0 }))
    (with_alerts (record { regwen = replicate 248 0; en = replicate 248 0; class = replicate 248 0; cause = replicate 248 0 })
    (with_locals (record { regwen = replicate 7 0; en = replicate 7 0; class = replicate 7 0; cause = replicate 7 0 }) (new_handler 248)))

abbrev all : ℕ → List ℕ → List ℤ
all v rs = map (λ (r : ℕ). answers shut (Access.Write r v)) rs

-- register +o of each class
abbrev each_class : ℕ → List ℕ
each_class o = map (λ (k : ℕ). 1280 + 16 * k + o) (0 ∷ 1 ∷ 2 ∷ 3 ∷ [])

-- REGWEN and EN of local alerts and alerts, class REGWEN, CLR_REGWEN and CLR; then CLASS, and the others of a class
abbrev of_1_bit : List ℕ
of_1_bit = 16 ∷ 22 ∷ 24 ∷ 30 ∷ 256 ∷ 503 ∷ 512 ∷ 759 ∷ each_class 0 ++ each_class 2 ++ each_class 3

four_first : (all 2 of_1_bit ≡ replicate 20 (refused 4))
    × (all 4 (32 ∷ 38 ∷ 768 ∷ 1015 ∷ []) ≡ replicate 4 (refused 4))
    × (all 0x4000 (each_class 1) ≡ replicate 4 (refused 4))
    × (all 65536 (each_class 5) ≡ replicate 4 (refused 4))
unfolding rules
four_first = (refl, refl, refl, refl)

then_three : (all 1 of_1_bit ≡ replicate 20 (refused 3))
    × (all 3 (32 ∷ 38 ∷ 768 ∷ 1015 ∷ []) ≡ replicate 4 (refused 3))
    × (all 0x3FFF (each_class 1) ≡ replicate 4 (refused 3))
    × (all 65535 (each_class 5) ≡ replicate 4 (refused 3))
    × (map (λ (o : ℕ). all 4294967295 (each_class o)) (6 ∷ 7 ∷ 8 ∷ 9 ∷ 10 ∷ []) ≡ replicate 5 (replicate 4 (refused 3)))
unfolding rules
then_three = (refl, refl, refl, refl, refl)

-- "Read 333: -1. Read 323, write 324: -2. Write 16 to 1: -4.", in the numbers of request (iii)
cases : (gives (new_handler 1) (rest (Access.Read 1293)) ≡ refused 1)
    × (gives (new_handler 1) (rest (Access.Read 1283)) ≡ refused 2)
    × (gives (new_handler 1) (rest (Access.Read 2)) ≡ refused 2)
    × (gives (new_handler 1) (rest (Access.Write 1284 0)) ≡ refused 2)
    × (gives (new_handler 1) (rest (Access.Write 1291 0)) ≡ refused 2)
    × (gives (new_handler 1) (rest (Access.Write 1292 0)) ≡ refused 2)
    × (gives (new_handler 1) (rest (Access.Write 1 16)) ≡ refused 4)
    × (gives (new_handler 1) (rest (Access.Write 1 15)) ≡ pos 0)
    × (gives (new_handler 1) (rest Access.Nothing) ≡ pos 0)
unfolding rules
cases = (refl, refl, refl, refl, refl, refl, refl, refl, refl)
