-- "Numbers that come back": the cases of an access's refusals and their order, in raw fields and plain comparisons, and no definition of the rules.
-- Refusal 7 comes before all of them and is not spoken of here.
-- Assumes nothing.
use Rattle.std.specs.Prelude.{ℕ, ◌+◌, ◌^◌, ◌≤◌, ◌≡◌, ◌⊎◌, ◌≢◌, true}
use Rattle.bits.specs.Bits.{bit}
use Rattle.rules.specs.declared.Access.{Access}
use Rattle.rules.specs.declared.Access.TheVariants.{Read, Write}
use Rattle.rules.specs.declared.Handler.{Handler}
use Rattle.rules.specs.declared.Register.{Register}
use Rattle.rules.specs.declared.Register.TheVariants.{Block}
use Rattle.rules.specs.declared.Setting.{Setting}
use Rattle.sentences.specs.AccessMap.{Row, Names, WriteOnly, ReadOnly, Regwen, Shut}
use Rattle.sentences.specs.Raw.{class_of, code}

-- ── the access ──

-- it reads the register q
pub record Reads (h : Handler) (x : Access) (q : Register) : Type 0 where
  pub number : ℕ
  pub access : x ≡ Read number
  pub names : Names h.n number q

-- it writes v to the register q
pub record Writes (h : Handler) (x : Access) (q : Register) (v : ℕ) : Type 0 where
  pub number : ℕ
  pub access : x ≡ Write number v
  pub names : Names h.n number q

-- it reads the number r or writes to it
abbrev pub Gives : Access → ℕ → Type 0
Gives x r = (x ≡ Read r) ⊎ ((v : ℕ) × (x ≡ Write r v))

-- ── the cases ──

-- 5: "trace record malformed"
abbrev pub Malformed : Access → Type 0
Malformed x = x ≡ Access.Malformed

-- 1: "no such register"
abbrev pub NoRegister : Handler → Access → Type 0
NoRegister h x = (r : ℕ) × Gives x r × ((q : Register) → ¬ Names h.n r q)

-- 2: "read of a write-only or write of a read-only register"
abbrev pub WrongWay : Handler → Access → Type 0
WrongWay h x = (q : Register) × ((Reads h x q × WriteOnly q) ⊎ ((v : ℕ) × Writes h x q v × ReadOnly q))

-- 4: "written value has a bit outside the field"
abbrev pub TooWide : Handler → Access → Type 0
TooWide h x = (r v b : ℕ) × (q : Register) × (x ≡ Write r v) × Row h.n r q b × (2 ^ b ≤ v)

-- 14, request (vii): "Writing 0 to a class REGWEN .. while EN is 1, ACCUM_THRESH is 65535 and REGWEN is still 1". EN is bit 0 of CTRL: request (i)'s
-- other reading is of steps 3 and 4
abbrev pub SillyThreshold : Handler → Access → Type 0
SillyThreshold h x =
    (k : ℕ) × Writes h x (Block Setting.Regwen k) 0 × (bit (class_of h k).ctrl 0 ≡ true) × ((class_of h k).thresh ≡ 65535) × ((class_of h k).regwen ≡ 1)

-- 3: "register locked"; in REGWEN and CLR_REGWEN "a written 1 on a locked one is refused with 3, a 0 is accepted again"
abbrev pub Locked : Handler → Access → Type 0
Locked h x = (q : Register) × (v : ℕ) × Writes h x q v × Shut h q × ¬ (Regwen q × (v ≡ 0))

-- 12, request (v): "A differing second write": a stage is open, and its value is not the written one
abbrev pub Differs : Handler → Access → Type 0
Differs h x = (q : Register) × (v : ℕ) × Writes h x q v × (code h q ≢ 0) × (code h q ≢ v + 1)

-- ── "For an access the order is 7, 5, 1, 2, 4, 3"; "14 follows 4"; "12 comes last in the order": each in its case and in no earlier one's ──

abbrev pub Given5 : Handler → Access → Type 0
Given5 h x = Malformed x

abbrev pub Given1 : Handler → Access → Type 0
Given1 h x = (¬ Malformed x) × NoRegister h x

abbrev pub Given2 : Handler → Access → Type 0
Given2 h x = (¬ Malformed x) × ((¬ NoRegister h x) × WrongWay h x)

abbrev pub Given4 : Handler → Access → Type 0
Given4 h x = (¬ Malformed x) × ((¬ NoRegister h x) × ((¬ WrongWay h x) × TooWide h x))

abbrev pub Given14 : Handler → Access → Type 0
Given14 h x = (¬ Malformed x) × ((¬ NoRegister h x) × ((¬ WrongWay h x) × ((¬ TooWide h x) × SillyThreshold h x)))

abbrev pub Given3 : Handler → Access → Type 0
Given3 h x =
    (¬ Malformed x) × ((¬ NoRegister h x) × ((¬ WrongWay h x) × ((¬ TooWide h x) × ((¬ SillyThreshold h x) × Locked h x))))

abbrev pub Given12 : Handler → Access → Type 0
Given12 h x =
    (¬ Malformed x)
    × ((¬ NoRegister h x) × ((¬ WrongWay h x) × ((¬ TooWide h x) × ((¬ SillyThreshold h x) × ((¬ Locked h x) × Differs h x)))))

-- in no case
abbrev pub Accepted : Handler → Access → Type 0
Accepted h x =
    (¬ Malformed x)
    × ((¬ NoRegister h x) × ((¬ WrongWay h x) × ((¬ TooWide h x) × ((¬ SillyThreshold h x) × ((¬ Locked h x) × (¬ Differs h x))))))
