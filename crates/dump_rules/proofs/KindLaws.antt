-- Causes, locks and shadowed registers are registers.
-- Assumes nothing.
use mathlib.Core.Path.{◌≡◌, refl}
use mathlib.Core.Bool.{true}
use Rattle.laws.proofs.Map.Cases.{by_kind, by_single, by_field, by_setting, never}
use Rattle.rules.specs.Map.{bits, is_lock, is_shadowed, is_register}
use Rattle.rules.specs.declared.Register.{Register}
use Rattle.rules.specs.declared.Register.TheVariants.{Only, Local, Alert, Block}
use Rattle.dump_rules.specs.Shown.{is_cause}

-- a cause is a register of one bit
abbrev pub OneBit : Register → Type 0
OneBit q = is_cause q ≡ true → (is_register q ≡ true) × (bits q ≡ 1)

pub cause_bit : (q : Register) → OneBit q
unfolding bits
cause_bit =
    by_kind OneBit (λ o. never)
    (λ f j. by_field (λ f. OneBit (Local f j)) never never never (λ e. (refl, refl)) f)
    (λ f i. by_field (λ f. OneBit (Alert f i)) never never never (λ e. (refl, refl)) f)
    (λ s k. never) never

-- so is a lock
pub lock_bit : (q : Register) → is_lock q ≡ true → bits q ≡ 1
unfolding bits is_lock
lock_bit =
    by_kind (λ q. is_lock q ≡ true → bits q ≡ 1)
    (by_single (λ o. is_lock (Only o) ≡ true → bits (Only o) ≡ 1) never never never (λ e. refl) never never)
    (λ f j. by_field (λ f. is_lock (Local f j) ≡ true → bits (Local f j) ≡ 1) (λ e. refl) never never never f)
    (λ f i. by_field (λ f. is_lock (Alert f i) ≡ true → bits (Alert f i) ≡ 1) (λ e. refl) never never never f)
    (λ t k. by_setting (λ t. is_lock (Block t k) ≡ true → bits (Block t k) ≡ 1) (λ e. refl) never (λ e. refl) never never never never (λ p. never) never never t)
    never

-- each is a register
pub cause_register : (q : Register) → is_cause q ≡ true → is_register q ≡ true
cause_register q e = (cause_bit q e).0

pub lock_register : (q : Register) → is_lock q ≡ true → is_register q ≡ true
unfolding is_lock
lock_register =
    by_kind (λ q. is_lock q ≡ true → is_register q ≡ true) (λ o e. refl) (λ g j e. refl) (λ g i e. refl) (λ t k e. refl) never

pub shadowed_register : (q : Register) → is_shadowed q ≡ true → is_register q ≡ true
unfolding is_shadowed
shadowed_register =
    by_kind (λ q. is_shadowed q ≡ true → is_register q ≡ true) (λ o e. refl) (λ g j e. refl) (λ g i e. refl) (λ s k e. refl) never
