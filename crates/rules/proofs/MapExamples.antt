-- Worked examples that pin "Register map" in document 01's own numbers, by computation.
-- Assumes nothing.
use Prim.Native.Nat.{ℕ, ◌+◌, ◌*◌}
use mathlib.Core.Path.{◌≡◌, refl}
use mathlib.Core.Bool.{true, false}
use mathlib.Core.List.{List, [], ◌∷◌, map}
use lib.ListN.{replicate}
use Rattle.rules.specs.Map.{decode, number_of, row, bits, read_only, write_only, guard, is_lock, is_shadowed, is_register}
use Rattle.rules.specs.declared.Field.{Field}
use Rattle.rules.specs.declared.Register.{Register}
use Rattle.rules.specs.declared.Register.TheVariants.{Only, Local, Alert, Block, Unassigned}
use Rattle.rules.specs.declared.Setting.{Setting}
use Rattle.rules.specs.declared.Setting.TheVariants.{Ctrl, ClrRegwen, Clr, AccumCnt, AccumThresh, TimeoutCyc, PhaseCyc, EscCnt}
use Rattle.rules.specs.declared.Single.TheVariants.{IntrState, IntrEnable, IntrTest, PingRegwen, PingTimeout, PingEnable}
use Rattle.rules.specs.declared.Way.TheVariants.{Both, OneClears, OneSets, ReadOnly, WriteOnly}
use Rattle.rules.proofs.Scenes.{rules}

-- the table's first column, at the ends of each range
fixed : (map (decode 248) (0 ∷ 1 ∷ 2 ∷ []) ≡ Only IntrState ∷ Only IntrEnable ∷ Only IntrTest ∷ [])
    × (map (decode 0) (4 ∷ 5 ∷ 6 ∷ []) ≡ Only PingRegwen ∷ Only PingTimeout ∷ Only PingEnable ∷ [])
    × (map (decode 248) (16 ∷ 22 ∷ 24 ∷ 30 ∷ []) ≡ Local Field.Regwen 0 ∷ Local Field.Regwen 6 ∷ Local Field.En 0 ∷ Local Field.En 6 ∷ [])
    × (map (decode 248) (32 ∷ 38 ∷ 40 ∷ 46 ∷ []) ≡ Local Field.Class 0 ∷ Local Field.Class 6 ∷ Local Field.Cause 0 ∷ Local Field.Cause 6 ∷ [])
    × (map (decode 248) (256 ∷ 503 ∷ 512 ∷ 759 ∷ []) ≡ Alert Field.Regwen 0 ∷ Alert Field.Regwen 247 ∷ Alert Field.En 0 ∷ Alert Field.En 247 ∷ [])
    × (map (decode 248) (768 ∷ 1015 ∷ 1024 ∷ 1271 ∷ [])
    ≡ Alert Field.Class 0 ∷ Alert Field.Class 247 ∷ Alert Field.Cause 0 ∷ Alert Field.Cause 247 ∷ [])
unfolding rules
fixed = (refl, refl, refl, refl, refl, refl)

abbrev block : ℕ → List Register
block k = map (λ o. decode 1 (1280 + 16 * k + o)) (0 ∷ 1 ∷ 2 ∷ 3 ∷ 4 ∷ 5 ∷ 6 ∷ 7 ∷ 8 ∷ 9 ∷ 10 ∷ 11 ∷ 12 ∷ 13 ∷ 15 ∷ [])

abbrev block_of : ℕ → List Register
block_of k =
    Block Setting.Regwen k
    ∷ Block Ctrl k
    ∷ Block ClrRegwen k
    ∷ Block Clr k
    ∷ Block AccumCnt k
    ∷ Block AccumThresh k
    ∷ Block TimeoutCyc k
    ∷ Block (PhaseCyc 0) k
    ∷ Block (PhaseCyc 1) k
    ∷ Block (PhaseCyc 2) k
    ∷ Block (PhaseCyc 3) k
    ∷ Block EscCnt k
    ∷ Block Setting.State k
    ∷ Unassigned
    ∷ Unassigned
    ∷ []

-- the rows from class REGWEN at +0 to STATE at +12, of each class, from 1280 on by request (iii)
blocks : (block 0 ≡ block_of 0) × (block 1 ≡ block_of 1) × (block 2 ≡ block_of 2) × (block 3 ≡ block_of 3)
unfolding rules
blocks = (refl, refl, refl, refl)

-- "all other numbers are unassigned. Alert i exists for i below N"
unassigned : (map (λ r. is_register (decode 248 r)) (3 ∷ 7 ∷ 15 ∷ 23 ∷ 31 ∷ 39 ∷ 47 ∷ 63 ∷ 64 ∷ 255 ∷ 504 ∷ 760 ∷ 1016 ∷ 1272 ∷ 1344 ∷ 2047 ∷ [])
    ≡ replicate 16 false)
    × (map (λ r. is_register (decode 5 r)) (260 ∷ 261 ∷ 516 ∷ 517 ∷ 772 ∷ 773 ∷ 1028 ∷ 1029 ∷ [])
    ≡ true ∷ false ∷ true ∷ false ∷ true ∷ false ∷ true ∷ false ∷ [])
    × (map (λ r. is_register (decode 0 r)) (256 ∷ 512 ∷ 768 ∷ 1024 ∷ []) ≡ false ∷ false ∷ false ∷ false ∷ [])
    × (map (λ r. is_register (decode 1 r)) (256 ∷ 257 ∷ 512 ∷ 513 ∷ 768 ∷ 769 ∷ 1024 ∷ 1025 ∷ [])
    ≡ true ∷ false ∷ true ∷ false ∷ true ∷ false ∷ true ∷ false ∷ [])
    × (map (λ r. is_register (decode 247 r)) (502 ∷ 503 ∷ 758 ∷ 759 ∷ 1014 ∷ 1015 ∷ 1270 ∷ 1271 ∷ [])
    ≡ true ∷ false ∷ true ∷ false ∷ true ∷ false ∷ true ∷ false ∷ [])
unfolding rules
unassigned = (refl, refl, refl, refl, refl)

-- the single registers, request (ix)'s three last
abbrev singles : {A : Type 0} → (Register → A) → List A
singles f = map f (Only IntrState ∷ Only IntrEnable ∷ Only IntrTest ∷ Only PingRegwen ∷ Only PingTimeout ∷ Only PingEnable ∷ [])

-- a register's number in the table's own form
numbered : (singles number_of ≡ 0 ∷ 1 ∷ 2 ∷ 4 ∷ 5 ∷ 6 ∷ [])
    × (map (λ f. number_of (Local f 5)) (Field.Regwen ∷ Field.En ∷ Field.Class ∷ Field.Cause ∷ []) ≡ 21 ∷ 29 ∷ 37 ∷ 45 ∷ [])
    × (map (λ f. number_of (Alert f 5)) (Field.Regwen ∷ Field.En ∷ Field.Class ∷ Field.Cause ∷ []) ≡ 261 ∷ 517 ∷ 773 ∷ 1029 ∷ [])
    × (map number_of (block_of 2) ≡ 1312 ∷ 1313 ∷ 1314 ∷ 1315 ∷ 1316 ∷ 1317 ∷ 1318 ∷ 1319 ∷ 1320 ∷ 1321 ∷ 1322 ∷ 1323 ∷ 1324 ∷ 3 ∷ 3 ∷ [])
unfolding rules
numbered = (refl, refl, refl, refl)

-- ── the columns, of the single registers, at both ends of each range of local alerts and alerts, and in the block of every class ──

abbrev ends : {A : Type 0} → (Register → A) → List A
ends f =
    map (λ (r : ℕ). f (decode 248 r))
    (16 ∷ 22 ∷ 24 ∷ 30 ∷ 32 ∷ 38 ∷ 40 ∷ 46 ∷ 256 ∷ 503 ∷ 512 ∷ 759 ∷ 768 ∷ 1015 ∷ 1024 ∷ 1271 ∷ [])

-- REGWEN, EN, CLASS and CAUSE at both ends, of the local alerts and of the alerts
abbrev by_field : {A : Type 0} → A → A → A → A → List A
by_field a b c d = a ∷ a ∷ b ∷ b ∷ c ∷ c ∷ d ∷ d ∷ a ∷ a ∷ b ∷ b ∷ c ∷ c ∷ d ∷ d ∷ []

abbrev in_blocks : {A : Type 0} → (Register → A) → List (List A)
in_blocks f = map (λ (k : ℕ). map f (block_of k)) (0 ∷ 1 ∷ 2 ∷ 3 ∷ [])

-- the table's last column
widths : (singles bits ≡ 4 ∷ 4 ∷ 4 ∷ 1 ∷ 16 ∷ 1 ∷ [])
    × (ends bits ≡ by_field 1 1 2 1)
    × (in_blocks bits ≡ replicate 4 (1 ∷ 14 ∷ 1 ∷ 1 ∷ 16 ∷ 16 ∷ 32 ∷ 32 ∷ 32 ∷ 32 ∷ 32 ∷ 32 ∷ 3 ∷ 0 ∷ 0 ∷ []))
unfolding rules
widths = (refl, refl, refl)

-- "write only": INTR_TEST, CLR; "read only": ACCUM_CNT, ESC_CNT, STATE
ways : (singles write_only ≡ false ∷ false ∷ true ∷ false ∷ false ∷ false ∷ [])
    × (singles read_only ≡ replicate 6 false)
    × (ends write_only ≡ replicate 16 false)
    × (ends read_only ≡ replicate 16 false)
    × (in_blocks write_only
    ≡ replicate 4
    (false ∷ false ∷ false ∷ true ∷ false ∷ false ∷ false ∷ false ∷ false ∷ false ∷ false ∷ false ∷ false ∷ false ∷ false ∷ []))
    × (in_blocks read_only
    ≡ replicate 4
    (false ∷ false ∷ false ∷ false ∷ true ∷ false ∷ false ∷ false ∷ false ∷ false ∷ false ∷ true ∷ true ∷ false ∷ false ∷ []))
unfolding rules
ways = (refl, refl, refl, refl, refl, refl)

-- "a 1 clears": INTR_STATE, CAUSE; "a written 0 does nothing": the ping timer's enable
way_column : (singles (λ q. (row q).way) ≡ OneClears ∷ Both ∷ WriteOnly ∷ Both ∷ Both ∷ OneSets ∷ [])
    × (ends (λ q. (row q).way) ≡ by_field Both Both Both OneClears)
    × (in_blocks (λ q. (row q).way)
    ≡ replicate 4
    (Both ∷ Both ∷ Both ∷ WriteOnly ∷ ReadOnly ∷ Both ∷ Both ∷ Both ∷ Both ∷ Both ∷ Both ∷ ReadOnly ∷ ReadOnly ∷ Both ∷ Both ∷ []))
unfolding rules
way_column = (refl, refl, refl)

-- steps 2 to 4 set causes and interrupt bits, count, move states and lock CLR
moved : (singles (λ q. (row q).moves) ≡ true ∷ false ∷ false ∷ false ∷ false ∷ false ∷ [])
    × (ends (λ q. (row q).moves) ≡ by_field false false false true)
    × (in_blocks (λ q. (row q).moves)
    ≡ replicate 4
    (false ∷ false ∷ true ∷ false ∷ true ∷ false ∷ false ∷ false ∷ false ∷ false ∷ false ∷ true ∷ true ∷ false ∷ false ∷ []))
unfolding rules
moved = (refl, refl, refl)

-- "Alert and local REGWEN guard their EN and CLASS; class REGWEN guards CTRL, ACCUM_THRESH, TIMEOUT_CYC and the phase lengths; CLR_REGWEN
-- guards CLR", and request (ix)'s 4 locks 5 and 6, by number: 3 where nothing guards; a is the number of the class's REGWEN and b of its CLR_REGWEN
abbrev guards_by : ℕ → ℕ → List ℕ
guards_by a b = a ∷ a ∷ b ∷ b ∷ 3 ∷ a ∷ a ∷ a ∷ a ∷ a ∷ a ∷ 3 ∷ 3 ∷ 3 ∷ 3 ∷ []

guards : (singles (λ q. number_of (guard q)) ≡ 3 ∷ 3 ∷ 3 ∷ 4 ∷ 4 ∷ 4 ∷ [])
    × (ends (λ q. number_of (guard q)) ≡ 16 ∷ 22 ∷ 16 ∷ 22 ∷ 16 ∷ 22 ∷ 3 ∷ 3 ∷ 256 ∷ 503 ∷ 256 ∷ 503 ∷ 256 ∷ 503 ∷ 3 ∷ 3 ∷ [])
    × (in_blocks (λ q. number_of (guard q)) ≡ guards_by 1280 1282 ∷ guards_by 1296 1298 ∷ guards_by 1312 1314 ∷ guards_by 1328 1330 ∷ [])
unfolding rules
guards = (refl, refl, refl)

-- request (v): "EN and CLASS of alerts and local alerts, and CTRL, ACCUM_THRESH, TIMEOUT_CYC and the phase lengths"; request (ix): "5 is shadowed"
shadowed : (singles is_shadowed ≡ false ∷ false ∷ false ∷ false ∷ true ∷ false ∷ [])
    × (is_shadowed Unassigned ≡ false)
    × (ends is_shadowed ≡ by_field false true true false)
    × (in_blocks is_shadowed
    ≡ replicate 4
    (false ∷ true ∷ false ∷ false ∷ false ∷ true ∷ true ∷ true ∷ true ∷ true ∷ true ∷ false ∷ false ∷ false ∷ false ∷ []))
unfolding rules
shadowed = (refl, refl, refl, refl)

-- the REGWEN and CLR_REGWEN
lock_registers : (singles is_lock ≡ false ∷ false ∷ false ∷ true ∷ false ∷ false ∷ [])
    × (ends is_lock ≡ by_field true false false false)
    × (in_blocks is_lock
    ≡ replicate 4
    (true ∷ false ∷ true ∷ false ∷ false ∷ false ∷ false ∷ false ∷ false ∷ false ∷ false ∷ false ∷ false ∷ false ∷ false ∷ []))
unfolding rules
lock_registers = (refl, refl, refl)
