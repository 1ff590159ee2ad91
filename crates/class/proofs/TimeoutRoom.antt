-- Why a count in Timeout has room for 1 more.
-- Assumes nothing.
use Prim.Native.Nat.{◌<◌}
use mathlib.Core.Path.{◌≡◌}
use mathlib.Core.Bool.{Bool, true, false, ◌&&◌, ◌||◌}
use lib.Dec.{leb}
use borrow.Author.Tests.{leb-false}
use Rattle.class_rules.specs.Step.{due, starts_from, trigger}
use Rattle.class_rules.specs.declared.Class.{Class}
use Rattle.class_rules.specs.declared.ClassState.TheVariants.{Timeout}
use Rattle.class_rules.specs.declared.Signals.{Signals}

-- where t, or d and l, is false and d is true, l is false
last : (t d l : Bool) → (t || (d && l)) ≡ false → d ≡ true → l ≡ false
last true d l n e = cc
last false true l n e = n
last false false l n e = cc

-- a class in Timeout that is due and does not start has its count below TIMEOUT_CYC
pub waiting : (s : Signals) (c : Class) → starts_from Timeout s c ≡ false → due s c ≡ true → c.count < c.timeout
unfolding starts_from
waiting s c n d = leb-false c.timeout c.count (last (trigger s c) (due s c) (leb c.timeout c.count) n d)
