-- The owner's corollary, of the interrupt registers: what the tenant may write, by its bits alone. A 0 in class k's bit of INTR_STATE or INTR_TEST, or
-- in INTR_ENABLE the bit as it is, leaves class k's bits, in every accepted state.
-- Assumes nothing.
use Prim.Native.Nat.{ℕ, ◌≤◌, ◌<◌}
use mathlib.Core.Path.{◌≡◌, refl, sym, ap, ap₂, ◌∙◌}
use mathlib.Core.Bool.{Bool, true, false, cond, not, ◌&&◌, ◌||◌, and-false, and-true, or-false}
use Rattle.bits.specs.Bits.{bit}
use Rattle.bits.proofs.BitLaws.{bit_bits_of}
use Rattle.laws.proofs.Access.RegisterFile.{acted_other, acted_value}
use Rattle.laws.proofs.Valid.ValidLaws.{facts}
use Rattle.laws.specs.RegisterFile.{new_value, stores, commits}
use Rattle.rules.specs.Access.{value, acted}
use Rattle.rules.specs.Map.{decode, number_of}
use Rattle.rules.specs.State.{most}
use Rattle.rules.specs.Valid.{valid}
use Rattle.rules.specs.declared.Access.TheVariants.{Write}
use Rattle.rules.specs.declared.Handler.{Handler}
use Rattle.rules.specs.declared.Register.TheVariants.{Only}
use Rattle.rules.specs.declared.Single.TheVariants.{IntrState, IntrEnable}
use Rattle.isolation.specs.Owner.{by_tenant}
use Rattle.isolation.proofs.WholeOwner.{same_bit}

module _ (k : ℕ) (his : ℕ → Bool) (g : Handler) (l : k < 4) (valid_g : valid g ≡ true) (v : ℕ) where
  m : g.n ≤ most
  m = (facts g valid_g).n

  -- INTR_STATE after a write to the number r, where what is stored there has the same bit k
  state_kept : (r : ℕ) → bit (new_value (decode g.n r) g.interrupts.state v) k ≡ bit g.interrupts.state k
      → bit g.interrupts.state k ≡ bit (acted g (Write r v)).interrupts.state k
  unfolding value
  state_kept r e = sym (ap (λ (n : ℕ). bit n k) (acted_value g (Write r v) (Only IntrState) m refl) ∙ go (commits g (Write r v) (Only IntrState)))
    where
      go : (b : Bool) → bit (cond b (new_value (decode g.n r) g.interrupts.state v) g.interrupts.state) k ≡ bit g.interrupts.state k
      go true = e
      go false = refl

  -- INTR_ENABLE after a write elsewhere, and INTR_STATE after a write to INTR_ENABLE
  enable_kept_0 : bit g.interrupts.enable k ≡ bit (acted g (Write 0 v)).interrupts.enable k
  unfolding value decode number_of
  enable_kept_0 = sym (ap (λ (n : ℕ). bit n k) (acted_other g (Write 0 v) (Only IntrEnable) m refl (and-false (stores g 0 v))))

  enable_kept_2 : bit g.interrupts.enable k ≡ bit (acted g (Write 2 v)).interrupts.enable k
  unfolding value decode number_of
  enable_kept_2 = sym (ap (λ (n : ℕ). bit n k) (acted_other g (Write 2 v) (Only IntrEnable) m refl (and-false (stores g 2 v))))

  state_kept_1 : bit g.interrupts.state k ≡ bit (acted g (Write 1 v)).interrupts.state k
  unfolding value decode number_of
  state_kept_1 = sym (ap (λ (n : ℕ). bit n k) (acted_other g (Write 1 v) (Only IntrState) m refl (and-false (stores g 1 v))))

  -- INTR_STATE, number 0
  pub clears_his : bit v k ≡ false → by_tenant k his g (Write 0 v) ≡ true
  unfolding decode
  clears_his e =
      ap₂ ◌&&◌
      (same_bit _ _ (state_kept 0
      (bit_bits_of 4 (λ j. bit g.interrupts.state j && not (bit v j)) k l
      ∙ ap (λ (b : Bool). bit g.interrupts.state k && not b) e ∙ and-true (bit g.interrupts.state k))))
      (same_bit _ _ enable_kept_0)

  -- INTR_TEST, number 2
  pub tests_his : bit v k ≡ false → by_tenant k his g (Write 2 v) ≡ true
  unfolding decode
  tests_his e =
      ap₂ ◌&&◌
      (same_bit _ _ (state_kept 2
      (bit_bits_of 4 (λ j. bit g.interrupts.state j || bit v j) k l
      ∙ ap (λ (b : Bool). bit g.interrupts.state k || b) e ∙ or-false (bit g.interrupts.state k))))
      (same_bit _ _ enable_kept_2)

  -- INTR_ENABLE, number 1
  pub enables_his : bit v k ≡ bit g.interrupts.enable k → by_tenant k his g (Write 1 v) ≡ true
  unfolding decode value
  enables_his e =
      ap₂ ◌&&◌ (same_bit _ _ state_kept_1)
      (same_bit _ _ (sym (ap (λ (n : ℕ). bit n k) (acted_value g (Write 1 v) (Only IntrEnable) m refl) ∙ go (commits g (Write 1 v) (Only IntrEnable)))))
    where
      go : (b : Bool) → bit (cond b v g.interrupts.enable) k ≡ bit g.interrupts.enable k
      go true = e
      go false = refl
