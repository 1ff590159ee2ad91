-- The words that demand 3 uses of a register, each by itself: which register a number names and its number, what it holds, its stage, and whether it
-- is locked. Raw fields and literal numbers, and no definition of the rules.
-- Assumes nothing.
use Rattle.std.specs.Prelude.{ℕ, ◌≤◌, ◌≡◌, ◌↔◌, Bool, true}
use Rattle.rules.specs.declared.Handler.{Handler}
use Rattle.rules.specs.declared.Register.{Register}
use Rattle.rules.specs.declared.Register.TheVariants.{Unassigned}
use Rattle.sentences.specs.AccessMap.{Names, Shut}
use Rattle.sentences.specs.Raw.{held, code}

-- "The register number selects one of these ranges; all other numbers are unassigned."
pub record Selects (n r : ℕ) (q : Register) : Type 0 where
  pub named : (p : Register) → Names n r p → q ≡ p
  pub unassigned : ((p : Register) → ¬ Names n r p) → q ≡ Unassigned

-- of a handler of n alerts, at most 248
abbrev pub Decoding : (ℕ → ℕ → Register) → Type 0
Decoding decode = (n r : ℕ) → n ≤ 248 → Selects n r (decode n r)

-- and back: the number of a register that the map has
abbrev pub Numbering : (Register → ℕ) → Type 0
Numbering number = (n r : ℕ) (q : Register) → Names n r q → number q ≡ r

-- what a register holds: "CLR holds no value"
abbrev pub Holding : (Handler → Register → ℕ) → Type 0
Holding value = (h : Handler) (q : Register) → value h q ≡ held h q

-- request (v): "the first is staged": 0 where none is open, the staged value plus 1 where one is
abbrev pub Staging : (Handler → Register → ℕ) → Type 0
Staging stage = (h : Handler) (q : Register) → stage h q ≡ code h q

-- "A register is locked while the REGWEN that guards it is 0."
abbrev pub Locking : (Handler → Register → Bool) → Type 0
Locking locked = (h : Handler) (q : Register) → (locked h q ≡ true) ↔ Shut h q
