-- The plan's order, by example: no theorem about the end sees it.
-- Assumes nothing.
use Prim.Native.Nat.{ℕ}
use mathlib.Core.Path.{◌≡◌, refl}
use mathlib.Core.List.{List, [], ◌∷◌}
use lib.ListN.{get_or, length, take, drop}
use Rattle.rules.specs.Map.{number_of, is_shadowed}
use Rattle.rules.specs.declared.Access.{Access}
use Rattle.rules.specs.declared.Access.TheVariants.{Read, Write}
use Rattle.policy.specs.Install.{Ask, rest, read, asks_of, asks}
use Rattle.policy.specs.Plan.{alert_entries, class_entries, lock_entries, class_lock, parts_to, plan_of}
use Rattle.policy.specs.Table.{mark_at}
use Rattle.policy.specs.declared.Lifecycle.{Lifecycle}
use Rattle.policy.specs.declared.Lifecycle.TheVariants.{Raw, Prod, ProdEnd, Dev}

-- names every definition that an example computes with
unfoldable plan : ℕ → ℕ
unfolding number_of is_shadowed asks_of asks alert_entries class_entries lock_entries class_lock parts_to plan_of mark_at
plan n = n

-- the access of a boot's tick t, and the answer that is wanted
abbrev at : Lifecycle → ℕ → Ask
at l t = get_or (asks (plan_of l)) t (read 0 0)

abbrev accesses : List Ask → List Access
accesses [] = []
accesses (a ∷ xs) = a.access ∷ accesses xs

abbrev wanted : List Ask → List ℕ
wanted [] = []
wanted (a ∷ xs) = a.wanted ∷ wanted xs

abbrev some : Lifecycle → ℕ → ℕ → List Ask
some l t n = take n (drop t (asks (plan_of l)))

-- one access a tick with all wires at (0,1): 64 of them in each word
wires : (rest (Read 768)).sample.alerts
    ≡ record {
      pos = 0 ∷ 0 ∷ 0 ∷ 0 ∷ [];
      neg = 0xFFFFFFFFFFFFFFFF ∷ 0xFFFFFFFFFFFFFFFF ∷ 0xFFFFFFFFFFFFFFFF ∷ 0xFFFFFFFFFFFFFFFF ∷ [];
    }
wires = refl

-- two writes and a read for each of 116 alert registers and 28 class settings; a write and a read for each of 20 alert locks and the class lock
ticks_of : (length (asks (plan_of Prod)) ≡ 474) × (length (asks (plan_of ProdEnd)) ≡ 474) × (length (asks (plan_of Dev)) ≡ 432) × (length (asks (plan_of Raw)) ≡ 432)
unfolding plan
ticks_of = (refl, refl, refl, refl)

-- the first ticks: CLASS of alert 0, marked C, then its EN, then CLASS of alert 1; each register is read right after its second write
first_ticks : accesses (some Prod 0 7) ≡ Write 768 2 ∷ Write 768 2 ∷ Read 768 ∷ Write 512 1 ∷ Write 512 1 ∷ Read 512 ∷ Write 769 2 ∷ []
unfolding plan
first_ticks = refl

-- a write is to answer 0, a read the value that was written
first_answers : wanted (some Prod 0 6) ≡ 0 ∷ 0 ∷ 2 ∷ 0 ∷ 0 ∷ 1 ∷ []
unfolding plan
first_answers = refl

-- X: CLASS 0 and EN 0 are written too
marked_x : accesses (some Raw 0 6) ≡ Write 768 0 ∷ Write 768 0 ∷ Read 768 ∷ Write 512 0 ∷ Write 512 0 ∷ Read 512 ∷ []
unfolding plan
marked_x = refl

-- the last alert, 57, then the settings of class A: threshold, timeout, four lengths, CTRL with EN and LOCK, and then class B's
middle_ticks : accesses (some Prod 345 28)
    ≡ Write 569 1 ∷ Write 569 1 ∷ Read 569
    ∷ Write 1285 0 ∷ Write 1285 0 ∷ Read 1285 ∷ Write 1286 0 ∷ Write 1286 0 ∷ Read 1286
    ∷ Write 1287 0 ∷ Write 1287 0 ∷ Read 1287 ∷ Write 1288 10 ∷ Write 1288 10 ∷ Read 1288 ∷ Write 1289 10 ∷ Write 1289 10 ∷ Read 1289
    ∷ Write 1290 4294967295 ∷ Write 1290 4294967295 ∷ Read 1290 ∷ Write 1281 0x393F ∷ Write 1281 0x393F ∷ Read 1281
    ∷ Write 1301 0 ∷ Write 1301 0 ∷ Read 1301 ∷ Write 1302 0 ∷ []
unfolding plan
middle_ticks = refl

-- CTRL of classes B, C and D, in PROD and in DEV; C's third length is 0
ctrls : ((at Prod 387).access ≡ Write 1297 0x393D) × ((at Prod 408).access ≡ Write 1313 0x393C) × ((at Dev 366).access ≡ Write 1281 0x393D)
    × ((at Raw 366).access ≡ Write 1281 0x393C) × ((at Prod 402).access ≡ Write 1321 0)
unfolding plan
ctrls = (refl, refl, refl, refl, refl)

-- after CTRL of class D the locks: alert 14 is the first that is marked A, 56 the last, and class A's is the end
last_ticks : (accesses (some Prod 429 7) ≡ Write 1329 0x393C ∷ Write 1329 0x393C ∷ Read 1329 ∷ Write 270 0 ∷ Read 270 ∷ Write 271 0 ∷ Read 271 ∷ [])
    × (accesses (drop 470 (asks (plan_of Prod))) ≡ Write 312 0 ∷ Read 312 ∷ Write 1280 0 ∷ Read 1280 ∷ [])
unfolding plan
last_ticks = (refl, refl)

-- in DEV nothing is locked
dev_ends : accesses (drop 429 (asks (plan_of Dev))) ≡ Write 1329 0x393C ∷ Write 1329 0x393C ∷ Read 1329 ∷ []
unfolding plan
dev_ends = refl
