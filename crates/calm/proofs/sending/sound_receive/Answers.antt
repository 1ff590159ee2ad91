-- `sound_receive` meets its contract.
-- Assumes nothing.
use Prim.Native.Nat.{ℕ, ◌-◌, ◌%◌, ◌^◌, ◌<◌}
use mathlib.Core.Path.{◌≡◌, refl, ap₂, ◌∙◌}
use mathlib.Core.Bool.{Bool, not}
use native.Mathlib.Nat.{mod-lt}
use native.Mathlib.Omega.{arith}
use borrow.Author.Rules.{rules}
use Rattle.bits.proofs.BitLaws.{bit_mod, bit_not, is_bits_of}
use Rattle.bits.specs.Bits.{bit, bits_of}
use Rattle.rules.specs.declared.Receive.TheVariants.{Pairs}
use Rattle.calm.proofs.sending.sound_receive.Goals as goal

-- the four lowest bits
low : (a : ℕ) (f : ℕ → Bool) → ((e : ℕ) → e < 4 → bit a e ≡ f e) → a % 16 ≡ bits_of 4 f
low a f h = is_bits_of 4 (a % 16) f (mod-lt a (omega arith)) (λ e l. bit_mod 4 a e l ∙ h e l)

pub returns : goal.returns
returns c =
    let s = c.args.s in
    let h : s.answer < 2 ^ 32 = search rules in
    ap₂ Pairs (low s.answer (bit s.answer) (λ e l. refl))
    (low (4294967295 - s.answer) (λ e. not (bit s.answer e)) (λ e l. bit_not 32 s.answer e h (omega (arith, l))))
