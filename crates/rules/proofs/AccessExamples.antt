-- Worked examples that pin step 1, the access, by computation.
-- Assumes nothing.
use Prim.Native.Nat.{ℕ}
use mathlib.Core.Path.{◌≡◌, refl}
use mathlib.Core.Bool.{true, false}
use mathlib.Core.List.{List, [], ◌∷◌, ◌++◌, map}
use lib.IntN.{ℤ, pos}
use Rattle.rules.specs.Access.{acted, clears, accessed}
use Rattle.rules.specs.Samples.{heard, sampled}
use Rattle.rules.specs.State.{new_handler, with_interrupts}
use Rattle.rules.specs.declared.Access.{Access}
use Rattle.rules.specs.declared.Field.{Field}
use Rattle.rules.specs.declared.Handler.{Handler}
use Rattle.rules.specs.declared.Register.TheVariants.{Only, Local, Alert, Block}
use Rattle.rules.specs.declared.Setting.{Setting}
use Rattle.rules.specs.declared.Setting.TheVariants.{Ctrl, ClrRegwen, AccumThresh, TimeoutCyc, PhaseCyc}
use Rattle.rules.specs.Scenes.{raise, write, configure, gives, refused}
use Rattle.rules.specs.declared.Single.TheVariants.{IntrEnable}
use Rattle.rules.proofs.Scenes.{rules, acts, answers, reads, ready}

-- a handler whose registers all differ where they can
abbrev full : Handler
full =
    acts (new_handler 248)
    (configure (Block TimeoutCyc 2) 4294967295
    ++ configure (Block (PhaseCyc 0) 2) 10
    ++ configure (Block (PhaseCyc 1) 2) 11
    ++ configure (Block (PhaseCyc 2) 2) 12
    ++ configure (Block (PhaseCyc 3) 2) 13
    ++ configure (Block AccumThresh 2) 65535
    ++ configure (Block Ctrl 2) 0x3FFF
    ++ configure (Alert Field.En 247) 1
    ++ configure (Alert Field.Class 247) 3
    ++ configure (Local Field.En 6) 1
    ++ configure (Local Field.Class 6) 2
    ++ write (Only IntrEnable) 9
    ∷ write (Alert Field.Regwen 246) 0
    ∷ write (Local Field.Regwen 5) 0
    ∷ write (Block ClrRegwen 3) 0
    ∷ write (Block Setting.Regwen 1) 0
    ∷ [])

-- what reads of these registers give, and what writes of v
abbrev all_read : List ℕ → List ℤ
all_read rs = let h = full in map (reads h) rs

abbrev all_written : ℕ → List ℕ → List ℤ
all_written v rs = let h = full in map (λ (r : ℕ). answers h (Access.Write r v)) rs

-- an accepted write reads back, by document 01's numbers, and the registers beside it are as they were
reads_back : (all_read (1312 ∷ 1313 ∷ 1314 ∷ 1316 ∷ 1317 ∷ 1318 ∷ []) ≡ pos 1 ∷ pos 0x3FFF ∷ pos 1 ∷ pos 0 ∷ pos 65535 ∷ pos 4294967295 ∷ [])
    × (all_read (1319 ∷ 1320 ∷ 1321 ∷ 1322 ∷ 1323 ∷ 1324 ∷ []) ≡ pos 10 ∷ pos 11 ∷ pos 12 ∷ pos 13 ∷ pos 0 ∷ pos 0 ∷ [])
    × (all_read (503 ∷ 502 ∷ 758 ∷ 759 ∷ 1014 ∷ 1015 ∷ 1270 ∷ 1271 ∷ []) ≡ pos 1 ∷ pos 0 ∷ pos 0 ∷ pos 1 ∷ pos 0 ∷ pos 3 ∷ pos 0 ∷ pos 0 ∷ [])
    × (all_read (21 ∷ 22 ∷ 29 ∷ 30 ∷ 37 ∷ 38 ∷ 45 ∷ 46 ∷ []) ≡ pos 0 ∷ pos 1 ∷ pos 0 ∷ pos 1 ∷ pos 0 ∷ pos 2 ∷ pos 0 ∷ pos 0 ∷ [])
    × (all_read (0 ∷ 1 ∷ 1296 ∷ 1297 ∷ 1298 ∷ 1328 ∷ 1329 ∷ 1330 ∷ 1345 ∷ [])
    ≡ pos 0 ∷ pos 9 ∷ pos 0 ∷ pos 0x393C ∷ pos 1 ∷ pos 1 ∷ pos 0x393C ∷ pos 0 ∷ refused 1 ∷ [])
unfolding rules
reads_back = (refl, refl, refl, refl, refl)

-- P2, as request (v) writes it anew, and P3: a refused write, too wide or locked, leaves the register
refused_writes : (reads (acts (new_handler 1) (Access.Write 1285 65535 ∷ Access.Write 1285 65536 ∷ Access.Write 1285 65535 ∷ Access.Write 1285 65536 ∷ [])) 1285
    ≡ pos 65535)
    × (reads (acts (new_handler 1) (Access.Write 1280 0 ∷ Access.Write 1281 7 ∷ [])) 1281 ≡ pos 0x393C)
    × (reads (acts (new_handler 1) (Access.Write 1280 0 ∷ Access.Write 1280 1 ∷ [])) 1280 ≡ pos 0)
    × (acted (new_handler 1) (Access.Write 1284 7) ≡ new_handler 1)
unfolding rules
refused_writes = (refl, refl, refl, refl)

-- "INTR_STATE, a 1 clears", "INTR_TEST .. a 1 sets INTR_STATE"
abbrev pending : ℕ → Handler
pending s = with_interrupts (record { state = s; enable = 0 }) (new_handler 1)

intr : ((acted (pending 13) (Access.Write 0 5)).interrupts.state ≡ 8)
    × ((acted (pending 13) (Access.Write 0 2)).interrupts.state ≡ 13)
    × ((acted (pending 4) (Access.Write 2 9)).interrupts.state ≡ 13)
    × ((acted (pending 4) (Access.Write 2 9)).interrupts.enable ≡ 0)
    × ((acted (pending 4) (Access.Write 1 9)).interrupts.state ≡ 4)
unfolding rules
intr = (refl, refl, refl, refl, refl)

-- "In CAUSE a written 1 clears": a 0 leaves it
abbrev caused : Handler
caused = sampled (ready 9) (heard (ready 9) (raise 0 Access.Nothing).sample (record { clears = 0; raises = 0; begins = false }))

cause : (reads caused 1024 ≡ pos 1) × (reads (acted caused (Access.Write 1024 0)) 1024 ≡ pos 1) × (reads (acted caused (Access.Write 1024 1)) 1024 ≡ pos 0)
unfolding rules
cause = (refl, refl, refl)

-- "a written 1 on a locked one is refused with 3, a 0 is accepted again"; "A register is locked while the REGWEN that guards it is 0"
locks : (all_written 0 (502 ∷ 758 ∷ 1014 ∷ 1270 ∷ []) ≡ pos 0 ∷ refused 3 ∷ refused 3 ∷ pos 0 ∷ [])
    × (all_written 0 (21 ∷ 29 ∷ 37 ∷ 45 ∷ []) ≡ pos 0 ∷ refused 3 ∷ refused 3 ∷ pos 0 ∷ [])
    × (all_written 1 (502 ∷ 21 ∷ 1296 ∷ 1330 ∷ []) ≡ refused 3 ∷ refused 3 ∷ refused 3 ∷ refused 3 ∷ [])
    × (all_written 0 (1297 ∷ 1301 ∷ 1302 ∷ 1303 ∷ 1304 ∷ 1305 ∷ 1306 ∷ [])
    ≡ refused 3 ∷ refused 3 ∷ refused 3 ∷ refused 3 ∷ refused 3 ∷ refused 3 ∷ refused 3 ∷ [])
    × (all_written 1 (503 ∷ 22 ∷ 1280 ∷ 1282 ∷ []) ≡ pos 0 ∷ pos 0 ∷ pos 0 ∷ pos 0 ∷ [])
unfolding rules
locks = (refl, refl, refl, refl, refl)

-- REGWEN 0 with CLR_REGWEN 1: a clear is accepted; REGWEN 1 with CLR_REGWEN 0: a length is writable and a clear, a 0 too, is refused
clr : (map (clears full (Access.Write 1299 1)) (0 ∷ 1 ∷ 2 ∷ 3 ∷ []) ≡ false ∷ true ∷ false ∷ false ∷ [])
    × (clears full (Access.Write 1299 0) 1 ≡ false)
    × (clears full (Access.Write 1331 1) 3 ≡ false)
    × (answers full (Access.Write 1331 1) ≡ refused 3)
    × (answers full (Access.Write 1331 0) ≡ refused 3)
    × (answers full (Access.Write 1335 7) ≡ pos 0)
    × ((accessed full (Access.Write 1299 1)).effects.clears ≡ 2)
    × ((accessed full (Access.Write 1331 1)).effects.clears ≡ 0)
unfolding rules
clr = (refl, refl, refl, refl, refl, refl, refl, refl)

-- each access answers on the state before any event of its tick
before_events : gives (ready 9) (raise 0 (Access.Read 1024)) ≡ pos 0
unfolding rules
before_events = refl
