-- The plans in numbers, whole: no theorem about the end sees their order. Written out from source document 002 and request (vi).
-- Assumes nothing.
use Prim.Native.Nat.{ℕ, ◌<◌}
use mathlib.Core.Path.{◌≡◌, refl}
use mathlib.Core.Bool.{Bool, true, false, ◌&&◌}
use mathlib.Core.List.{List, [], ◌∷◌, ◌++◌, map}
use native.Mathlib.Omega.{arith}
use borrow.Author.Tests.{ne_eqb}
use lib.Dec.{eqb}
use lib.ListN.{length, replicate}
use Rattle.rules.specs.Map.{number_of, is_shadowed}
use Rattle.rules.specs.declared.Access.{Access}
use Rattle.rules.specs.declared.Access.TheVariants.{Read, Write}
use Rattle.rules.specs.declared.Field.{Field}
use Rattle.rules.specs.declared.Receive.TheVariants.{Pairs}
use Rattle.rules.specs.declared.Register.TheVariants.{Alert, Block}
use Rattle.rules.specs.declared.Setting.{Setting}
use Rattle.rules.specs.declared.Setting.TheVariants.{Ctrl, AccumThresh, TimeoutCyc, PhaseCyc}
use Rattle.policy.specs.Install.{Ask, Entry, rest, asks_of, asks}
use Rattle.policy.specs.Plan.{entry, alert_entries, class_entries, lock_entries, class_lock, parts_to, plan_of, lifecycle_of}
use Rattle.policy.specs.Table.{mark_at}
use Rattle.policy.specs.declared.Lifecycle.{Lifecycle}

-- names what the examples compute with
unfoldable plans : ℕ → ℕ
unfolding plan_of parts_to alert_entries class_entries lock_entries class_lock mark_at number_of is_shadowed asks_of asks lifecycle_of
plans n = n

-- the same numbers in the same order; a test, so that a plan that differs is seen at once
abbrev same : List ℕ → List ℕ → Bool
same [] [] = true
same [] (y ∷ ys) = false
same (x ∷ xs) [] = false
same (x ∷ xs) (y ∷ ys) = eqb x y && same xs ys

-- ── which registers, in which order ──

abbrev numbers : List Entry → List ℕ
numbers es = map (λ e. number_of e.register) es

-- "numbers rising, each alert's CLASS then EN, each class's threshold, timeout, lengths and CTRL"
abbrev settings : List ℕ
settings =
    768 ∷ 512 ∷ 769 ∷ 513 ∷ 770 ∷ 514 ∷ 771 ∷ 515 ∷ 772 ∷ 516 ∷ 773 ∷ 517 ∷ 774 ∷ 518 ∷ 775 ∷ 519 ∷ 776 ∷ 520 ∷ 777 ∷ 521 ∷ 778 ∷ 522 ∷ 779
    ∷ 523 ∷ 780 ∷ 524 ∷ 781 ∷ 525 ∷ 782 ∷ 526 ∷ 783 ∷ 527 ∷ 784 ∷ 528 ∷ 785 ∷ 529 ∷ 786 ∷ 530 ∷ 787 ∷ 531 ∷ 788 ∷ 532 ∷ 789 ∷ 533 ∷ 790
    ∷ 534 ∷ 791 ∷ 535 ∷ 792 ∷ 536 ∷ 793 ∷ 537 ∷ 794 ∷ 538 ∷ 795 ∷ 539 ∷ 796 ∷ 540 ∷ 797 ∷ 541 ∷ 798 ∷ 542 ∷ 799 ∷ 543 ∷ 800 ∷ 544 ∷ 801
    ∷ 545 ∷ 802 ∷ 546 ∷ 803 ∷ 547 ∷ 804 ∷ 548 ∷ 805 ∷ 549 ∷ 806 ∷ 550 ∷ 807 ∷ 551 ∷ 808 ∷ 552 ∷ 809 ∷ 553 ∷ 810 ∷ 554 ∷ 811 ∷ 555 ∷ 812
    ∷ 556 ∷ 813 ∷ 557 ∷ 814 ∷ 558 ∷ 815 ∷ 559 ∷ 816 ∷ 560 ∷ 817 ∷ 561 ∷ 818 ∷ 562 ∷ 819 ∷ 563 ∷ 820 ∷ 564 ∷ 821 ∷ 565 ∷ 822 ∷ 566 ∷ 823
    ∷ 567 ∷ 824 ∷ 568 ∷ 825 ∷ 569 ∷ 1285 ∷ 1286 ∷ 1287 ∷ 1288 ∷ 1289 ∷ 1290 ∷ 1281 ∷ 1301 ∷ 1302 ∷ 1303 ∷ 1304 ∷ 1305 ∷ 1306 ∷ 1297 ∷ 1317
    ∷ 1318 ∷ 1319 ∷ 1320 ∷ 1321 ∷ 1322 ∷ 1313 ∷ 1333 ∷ 1334 ∷ 1335 ∷ 1336 ∷ 1337 ∷ 1338 ∷ 1329 ∷ []

-- "then the alert and class locks": alerts marked A, and class A
abbrev lockings : List ℕ
lockings =
    270 ∷ 271 ∷ 272 ∷ 273 ∷ 274 ∷ 275 ∷ 289 ∷ 293 ∷ 294 ∷ 295 ∷ 296 ∷ 299 ∷ 301 ∷ 302 ∷ 304 ∷ 306 ∷ 307 ∷ 309 ∷ 310 ∷ 312 ∷ 1280 ∷ []

order : (same (numbers (plan_of Lifecycle.Prod)) (settings ++ lockings) ≡ true)
    × (same (numbers (plan_of Lifecycle.ProdEnd)) (settings ++ lockings) ≡ true)
    × (same (numbers (plan_of Lifecycle.Raw)) settings ≡ true)
    × (same (numbers (plan_of Lifecycle.Dev)) settings ≡ true)
    × (same (numbers (plan_of Lifecycle.Rma)) settings ≡ true)
    × (same (numbers (plan_of Lifecycle.Scrap)) settings ≡ true)
unfolding plans
order = (refl, refl, refl, refl, refl, refl)

-- ── with which values ──

abbrev values : List Entry → List ℕ
values es = map (λ e. e.value) es

-- CLASS and EN of alerts 0 to 57 in PROD and PROD_END, and in DEV
abbrev alerts_in_prod : List ℕ
alerts_in_prod =
    2 ∷ 1 ∷ 2 ∷ 1 ∷ 2 ∷ 1 ∷ 2 ∷ 1 ∷ 2 ∷ 1 ∷ 2 ∷ 1 ∷ 2 ∷ 1 ∷ 2 ∷ 1 ∷ 2 ∷ 1 ∷ 2 ∷ 1 ∷ 2 ∷ 1 ∷ 2 ∷ 1 ∷ 2 ∷ 1 ∷ 2 ∷ 1 ∷ 0 ∷ 1 ∷ 0 ∷ 1 ∷ 0 ∷ 1
    ∷ 0 ∷ 1 ∷ 0 ∷ 1 ∷ 0 ∷ 1 ∷ 2 ∷ 1 ∷ 2 ∷ 1 ∷ 2 ∷ 1 ∷ 2 ∷ 1 ∷ 2 ∷ 1 ∷ 2 ∷ 1 ∷ 2 ∷ 1 ∷ 2 ∷ 1 ∷ 2 ∷ 1 ∷ 2 ∷ 1 ∷ 2 ∷ 1 ∷ 1 ∷ 1 ∷ 3 ∷ 1 ∷ 0 ∷ 1
    ∷ 2 ∷ 1 ∷ 2 ∷ 1 ∷ 3 ∷ 1 ∷ 0 ∷ 1 ∷ 0 ∷ 1 ∷ 0 ∷ 1 ∷ 0 ∷ 1 ∷ 3 ∷ 1 ∷ 3 ∷ 1 ∷ 0 ∷ 1 ∷ 3 ∷ 1 ∷ 0 ∷ 1 ∷ 0 ∷ 1 ∷ 3 ∷ 1 ∷ 0 ∷ 1 ∷ 3 ∷ 1 ∷ 0 ∷ 1
    ∷ 0 ∷ 1 ∷ 3 ∷ 1 ∷ 0 ∷ 1 ∷ 0 ∷ 1 ∷ 3 ∷ 1 ∷ 0 ∷ 1 ∷ 3 ∷ 1 ∷ []

abbrev alerts_in_dev : List ℕ
alerts_in_dev =
    0 ∷ 0 ∷ 0 ∷ 0 ∷ 0 ∷ 0 ∷ 0 ∷ 0 ∷ 0 ∷ 0 ∷ 0 ∷ 0 ∷ 3 ∷ 1 ∷ 3 ∷ 1 ∷ 0 ∷ 0 ∷ 0 ∷ 0 ∷ 0 ∷ 0 ∷ 0 ∷ 0 ∷ 0 ∷ 0 ∷ 0 ∷ 0 ∷ 3 ∷ 1 ∷ 3 ∷ 1 ∷ 3 ∷ 1
    ∷ 3 ∷ 1 ∷ 3 ∷ 1 ∷ 3 ∷ 1 ∷ 0 ∷ 0 ∷ 0 ∷ 0 ∷ 0 ∷ 0 ∷ 0 ∷ 0 ∷ 0 ∷ 0 ∷ 0 ∷ 0 ∷ 0 ∷ 0 ∷ 0 ∷ 0 ∷ 0 ∷ 0 ∷ 0 ∷ 0 ∷ 0 ∷ 0 ∷ 3 ∷ 1 ∷ 3 ∷ 1 ∷ 3 ∷ 1
    ∷ 0 ∷ 0 ∷ 0 ∷ 0 ∷ 3 ∷ 1 ∷ 3 ∷ 1 ∷ 3 ∷ 1 ∷ 3 ∷ 1 ∷ 3 ∷ 1 ∷ 3 ∷ 1 ∷ 3 ∷ 1 ∷ 3 ∷ 1 ∷ 3 ∷ 1 ∷ 3 ∷ 1 ∷ 3 ∷ 1 ∷ 3 ∷ 1 ∷ 3 ∷ 1 ∷ 3 ∷ 1 ∷ 3 ∷ 1
    ∷ 3 ∷ 1 ∷ 3 ∷ 1 ∷ 3 ∷ 1 ∷ 3 ∷ 1 ∷ 3 ∷ 1 ∷ 3 ∷ 1 ∷ 3 ∷ 1 ∷ []

-- threshold, timeout, lengths and CTRL of class A or B, and of class C or D
abbrev armed_class : ℕ → List ℕ
armed_class ctrl = 0 ∷ 0 ∷ 0 ∷ 10 ∷ 10 ∷ 4294967295 ∷ ctrl ∷ []

abbrev calm_class : List ℕ
calm_class = 0 ∷ 0 ∷ 0 ∷ 0 ∷ 0 ∷ 0 ∷ 14652 ∷ []

abbrev classes : ℕ → ℕ → List ℕ
classes a b = armed_class a ++ armed_class b ++ calm_class ++ calm_class

-- CTRL is 0x393C, 14652: EN adds 1, LOCK 2
contents : (same (values (plan_of Lifecycle.Prod)) (alerts_in_prod ++ classes 14655 14653 ++ replicate 21 0) ≡ true)
    × (same (values (plan_of Lifecycle.ProdEnd)) (alerts_in_prod ++ classes 14655 14653 ++ replicate 21 0) ≡ true)
    × (same (values (plan_of Lifecycle.Dev)) (alerts_in_dev ++ classes 14653 14653) ≡ true)
    × (same (values (plan_of Lifecycle.Raw)) (replicate 116 0 ++ classes 14652 14652) ≡ true)
    × (same (values (plan_of Lifecycle.Rma)) (replicate 116 0 ++ classes 14652 14652) ≡ true)
    × (same (values (plan_of Lifecycle.Scrap)) (replicate 116 0 ++ classes 14652 14652) ≡ true)
unfolding plans
contents = (refl, refl, refl, refl, refl, refl)

-- ── by which accesses ──

abbrev with : ℕ → Access → ℕ → Ask
with r x v = record { register = r; access = x; wanted = v }

-- two equal writes, each to answer 0, and right after them the read, to answer the value
two_writes : (asks_of (entry (Alert Field.Class 57) 3) ≡ with 825 (Write 825 3) 0 ∷ with 825 (Write 825 3) 0 ∷ with 825 (Read 825) 3 ∷ [])
    × (asks_of (entry (Alert Field.En 0) 1) ≡ with 512 (Write 512 1) 0 ∷ with 512 (Write 512 1) 0 ∷ with 512 (Read 512) 1 ∷ [])
    × (asks_of (entry (Block AccumThresh 0) 0) ≡ with 1285 (Write 1285 0) 0 ∷ with 1285 (Write 1285 0) 0 ∷ with 1285 (Read 1285) 0 ∷ [])
    × (asks_of (entry (Block TimeoutCyc 3) 0) ≡ with 1334 (Write 1334 0) 0 ∷ with 1334 (Write 1334 0) 0 ∷ with 1334 (Read 1334) 0 ∷ [])
    × (asks_of (entry (Block (PhaseCyc 2) 1) 10) ≡ with 1305 (Write 1305 10) 0 ∷ with 1305 (Write 1305 10) 0 ∷ with 1305 (Read 1305) 10 ∷ [])
    × (asks_of (entry (Block Ctrl 2) 14652) ≡ with 1313 (Write 1313 14652) 0 ∷ with 1313 (Write 1313 14652) 0 ∷ with 1313 (Read 1313) 14652 ∷ [])
unfolding plans
two_writes = (refl, refl, refl, refl, refl, refl)

-- a lock is not shadowed: one write, and it is read back too
one_write : (asks_of (entry (Alert Field.Regwen 14) 0) ≡ with 270 (Write 270 0) 0 ∷ with 270 (Read 270) 0 ∷ [])
    × (asks_of (entry (Block Setting.Regwen 0) 0) ≡ with 1280 (Write 1280 0) 0 ∷ with 1280 (Read 1280) 0 ∷ [])
unfolding plans
one_write = (refl, refl)

-- one register after another: 144 of three accesses, and 21 locks of two
in_turn : asks (alert_entries Lifecycle.Prod 31)
    ≡ with 799 (Write 799 1) 0
    ∷ with 799 (Write 799 1) 0
    ∷ with 799 (Read 799) 1
    ∷ with 543 (Write 543 1) 0
    ∷ with 543 (Write 543 1) 0
    ∷ with 543 (Read 543) 1
    ∷ []
unfolding plans
in_turn = refl

ticks_of : (length (asks (plan_of Lifecycle.Prod)) ≡ 474) × (length (asks (plan_of Lifecycle.Dev)) ≡ 432)
unfolding plans
ticks_of = (refl, refl)

-- "with all wires at (0,1)", those of alerts at N and above too; request (ix): "the installer 0", and request (xi): "The installer hands in (0,1)"
wires : (x : Access)
    → ((rest x).access ≡ x)
    × ((rest x).sample.alerts.pos ≡ 0 ∷ 0 ∷ 0 ∷ 0 ∷ [])
    × ((rest x).sample.alerts.neg ≡ 18446744073709551615 ∷ 18446744073709551615 ∷ 18446744073709551615 ∷ 18446744073709551615 ∷ [])
    × ((rest x).sample.word ≡ 0)
    × ((rest x).sample.receive ≡ Pairs 0 15)
wires x = (refl, refl, refl, refl, refl)

-- ── lifecycles by number ──

lifecycles : (lifecycle_of 0 ≡ Lifecycle.Raw)
    × (lifecycle_of 1 ≡ Lifecycle.Prod)
    × (lifecycle_of 2 ≡ Lifecycle.ProdEnd)
    × (lifecycle_of 3 ≡ Lifecycle.Dev)
    × (lifecycle_of 4 ≡ Lifecycle.Rma)
    × (lifecycle_of 5 ≡ Lifecycle.Scrap)
    × (lifecycle_of 6 ≡ Lifecycle.ProdEnd)
    × (lifecycle_of 255 ≡ Lifecycle.ProdEnd)
unfolding plans
lifecycles = (refl, refl, refl, refl, refl, refl, refl, refl)

-- any number over 5
over_five : (n : ℕ) → 5 < n → lifecycle_of n ≡ Lifecycle.ProdEnd
unfolding lifecycle_of
over_five n l =
    simp
    (ne_eqb n 0 (λ e. omega arith), ne_eqb n 1 (λ e. omega arith), ne_eqb n 2 (λ e. omega arith), ne_eqb n 3 (λ e. omega arith), ne_eqb n 4 (λ e. omega arith), ne_eqb n 5 (λ e. omega arith))
