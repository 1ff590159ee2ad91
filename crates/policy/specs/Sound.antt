-- The test of a list of registers: written one after another and read back, none undoes or hinders another.
-- Assumes nothing.
use Rattle.std.specs.Prelude.{ℕ, Bool, true, false, cond, not, ◌&&◌, ◌||◌, List, [], ◌∷◌, eqb}
use Rattle.bits.specs.Bits.{fits}
use Rattle.laws.specs.Frame.{moves_itself}
use Rattle.laws.specs.InMap.{in_map}
use Rattle.laws.specs.RegisterFile.{plain}
use Rattle.rules.specs.Access.{locked, unlike}
use Rattle.rules.specs.Map.{within, number_of, bits, read_only, guard}
use Rattle.rules.specs.declared.Handler.{Handler}
use Rattle.rules.specs.declared.Register.{Register}
use Rattle.rules.specs.declared.Register.TheVariants.{Block}
use Rattle.rules.specs.declared.Setting.{Setting}
use Rattle.rules.specs.declared.Setting.TheVariants.{AccumThresh}
use Rattle.policy.specs.Install.{Entry}

-- no entry names p; no entry is guarded by p
unfoldable pub unnamed : Register → List Entry → Bool
unnamed p [] = true
unnamed p (e ∷ es) = not (eqb (number_of e.register) (number_of p)) && unnamed p es

unfoldable pub unguarded : Register → List Entry → Bool
unguarded p [] = true
unguarded p (e ∷ es) = not (eqb (number_of (guard e.register)) (number_of p)) && unguarded p es

-- the register exists, can be written, reads as what is written, does not move by itself, and the value fits and is no silly threshold
abbrev pub installable : ℕ → Entry → Bool
installable n e =
    in_map n e.register
    && (not (read_only e.register)
    && (plain e.register && (not (moves_itself e.register) && (fits (bits e.register) e.value && not (eqb e.value 65535)))))

-- each entry is, and no later one names its register or is guarded by it
unfoldable pub sound : ℕ → List Entry → Bool
sound n [] = true
sound n (e ∷ es) = installable n e && (unnamed e.register es && (unguarded e.register es && sound n es))

-- the threshold of class k is written before its lock
unfoldable pub ahead : ℕ → List Entry → Bool
ahead k [] = true
ahead k (e ∷ es) =
    cond (eqb (number_of e.register) (number_of (Block AccumThresh k))) true
    (cond (eqb (number_of e.register) (number_of (Block Setting.Regwen k))) false (ahead k es))

-- in the state h no entry's register is locked or has a stage open with another value
unfoldable pub free : Handler → List Entry → Bool
free h [] = true
free h (e ∷ es) = not (locked h e.register) && (not (unlike h e.register e.value) && free h es)

-- an entry's number: REGWEN, EN or CLASS of an alert below 58, or a register of a class's block
abbrev pub planned : ℕ → Bool
planned r = within 256 58 r || (within 512 58 r || (within 768 58 r || within 1280 64 r))

unfoldable pub all_planned : List Entry → Bool
all_planned [] = true
all_planned (e ∷ es) = planned (number_of e.register) && all_planned es
