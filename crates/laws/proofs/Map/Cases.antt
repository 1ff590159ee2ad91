-- Cases of a choice, and of the kinds of registers.
-- Assumes nothing.
use Prim.Native.Nat.{ℕ}
use mathlib.Core.Path.{◌≡◌, refl}
use mathlib.Core.Bool.{Bool, true, false, false≢true, cond}
use Rattle.rules.specs.declared.Field.{Field}
use Rattle.rules.specs.declared.Register.{Register}
use Rattle.rules.specs.declared.Register.TheVariants.{Only, Local, Alert, Block, Unassigned}
use Rattle.rules.specs.declared.Setting.{Setting}
use Rattle.rules.specs.declared.Setting.TheVariants.{Ctrl, ClrRegwen, Clr, AccumCnt, AccumThresh, TimeoutCyc, PhaseCyc, EscCnt}
use Rattle.rules.specs.declared.Single.{Single}
use Rattle.rules.specs.declared.Single.TheVariants.{IntrState, IntrEnable, IntrTest, PingRegwen, PingTimeout, PingEnable}

-- what holds of either arm, each with its test, holds of the choice
pub pick {ℓ} : {A : Type ℓ} (P : A → Type 0) (b : Bool) (x y : A) → (b ≡ true → P x) → (b ≡ false → P y) → P (cond b x y)
pick P true x y s t = s refl
pick P false x y s t = t refl

-- what holds of each kind of register holds of a register
pub by_kind : (P : Register → Type 0) → ((o : Single) → P (Only o)) → ((f : Field) (j : ℕ) → P (Local f j))
    → ((f : Field) (i : ℕ) → P (Alert f i)) → ((s : Setting) (k : ℕ) → P (Block s k)) → P Unassigned → (q : Register) → P q
by_kind P a l r s u (Only o) = a o
by_kind P a l r s u (Local f j) = l f j
by_kind P a l r s u (Alert f i) = r f i
by_kind P a l r s u (Block t k) = s t k
by_kind P a l r s u Unassigned = u

-- of each register that there is one of
pub by_single : (P : Single → Type 0) → P IntrState → P IntrEnable → P IntrTest → P PingRegwen → P PingTimeout → P PingEnable → (o : Single) → P o
by_single P a b c d e f IntrState = a
by_single P a b c d e f IntrEnable = b
by_single P a b c d e f IntrTest = c
by_single P a b c d e f PingRegwen = d
by_single P a b c d e f PingTimeout = e
by_single P a b c d e f PingEnable = f

-- of each field of an alert
pub by_field : (P : Field → Type 0) → P Field.Regwen → P Field.En → P Field.Class → P Field.Cause → (f : Field) → P f
by_field P a b c d Field.Regwen = a
by_field P a b c d Field.En = b
by_field P a b c d Field.Class = c
by_field P a b c d Field.Cause = d

-- of each register of a block
pub by_setting : (P : Setting → Type 0) → P Setting.Regwen → P Ctrl → P ClrRegwen → P Clr → P AccumCnt → P AccumThresh → P TimeoutCyc
    → ((p : ℕ) → P (PhaseCyc p)) → P EscCnt → P Setting.State → (s : Setting) → P s
by_setting P a b c d e f g h i j Setting.Regwen = a
by_setting P a b c d e f g h i j Ctrl = b
by_setting P a b c d e f g h i j ClrRegwen = c
by_setting P a b c d e f g h i j Clr = d
by_setting P a b c d e f g h i j AccumCnt = e
by_setting P a b c d e f g h i j AccumThresh = f
by_setting P a b c d e f g h i j TimeoutCyc = g
by_setting P a b c d e f g h i j (PhaseCyc p) = h p
by_setting P a b c d e f g h i j EscCnt = i
by_setting P a b c d e f g h i j Setting.State = j

-- a test that is said to hold, and does not
pub never : {A : Type 0} → false ≡ true → A
never e = absurd (false≢true e)

pub cond_other : (a : Bool) (x y : ℕ) → (a ≡ true → ⊥) → cond a x y ≡ y
cond_other true x y e = absurd (e refl)
cond_other false x y e = refl

-- a test of which both ways are one
pub cond_same : {A : Type 0} (b : Bool) (x : A) → x ≡ cond b x x
cond_same true x = refl
cond_same false x = refl
