-- Request (vi), "Boot policy": registers written and read back, one access a tick with all wires at (0,1).
-- Assumes nothing.
use Rattle.std.specs.Prelude.{ℕ, Bool, true, false, cond, List, [], ◌∷◌, ◌++◌, eqb, ℤ, pos, negsuc, replicate}
use Rattle.rules.specs.Answer.{number}
use Rattle.rules.specs.Map.{number_of, is_shadowed}
use Rattle.rules.specs.Samples.{at_rest}
use Rattle.rules.specs.Tick.{ticked}
use Rattle.rules.specs.declared.Access.{Access}
use Rattle.rules.specs.declared.Access.TheVariants.{Read, Write}
use Rattle.rules.specs.declared.Handler.{Handler}
use Rattle.rules.specs.declared.Input.{Input}
use Rattle.rules.specs.declared.Register.{Register}
use Rattle.rules.specs.declared.Ticked.{Ticked}
use Rattle.policy.specs.Progress.{Progress}

-- all wires at (0,1), entropy word 0 and no escalation ping answered (request (ix))
abbrev pub rest : Access → Input
rest x = record { access = x; sample = at_rest }

-- ── one access ──

-- an access to register number r, and the answer with which the boot goes on
pub record Ask : Type 0 where
  pub register : ℕ
  pub access : Access
  pub wanted : ℕ

-- the answer is the number v
abbrev pub is : ℤ → ℕ → Bool
is (pos u) v = eqb u v
is (negsuc m) v = false

-- under way, and stopped at register r by what a tick gave: its answer, and the state that it reached
abbrev pub under : Handler → Progress
under h = record { reached = record { handler = h; answer = pos 0; register = 0; spare = replicate 6 0 }; going = true }

abbrev pub stopped : ℕ → Ticked → Progress
stopped r t = record { reached = record { handler = t.handler; answer = number t.answer; register = r; spare = replicate 6 0 }; going = false }

-- one tick: it goes on with the answer that is wanted, and stops at any other
unfoldable pub asked : Handler → Ask → Progress
asked h a = let t = ticked h (rest a.access) in cond (is (number t.answer) a.wanted) (under t.handler) (stopped a.register t)

-- what has stopped does no more
unfoldable pub ask : Progress → Ask → Progress
ask s a = cond s.going (asked s.reached.handler a) s

-- one after another: it stops at the first refusal or difference
unfoldable pub install : Progress → List Ask → Progress
install s [] = s
install s (a ∷ xs) = install (ask s a) xs

-- ── one register ──

-- a register and what it is to hold
pub record Entry : Type 0 where
  pub register : Register
  pub value : ℕ

-- a write that is not refused answers 0; the register then reads as what was written
abbrev pub write : ℕ → ℕ → Ask
write r v = record { register = r; access = Write r v; wanted = 0 }

abbrev pub read : ℕ → ℕ → Ask
read r v = record { register = r; access = Read r; wanted = v }

abbrev pub once : ℕ → ℕ → List Ask
once r v = write r v ∷ read r v ∷ []

abbrev pub twice : ℕ → ℕ → List Ask
twice r v = write r v ∷ write r v ∷ read r v ∷ []

-- it is read back right after its write (the second, where shadowed)
unfoldable pub asks_of : Entry → List Ask
asks_of e = cond (is_shadowed e.register) (twice (number_of e.register) e.value) (once (number_of e.register) e.value)

-- of a list of registers
unfoldable pub asks : List Entry → List Ask
asks [] = []
asks (e ∷ es) = asks_of e ++ asks es
