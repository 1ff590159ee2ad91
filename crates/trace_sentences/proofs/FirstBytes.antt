-- The rules' edition of a first byte satisfies the sentences, and no other does.
-- Assumes nothing.
use Prim.Native.Nat.{ℕ, ◌≤◌}
use mathlib.Core.Path.{◌≡◌, refl, sym, ap, ◌∙◌}
use mathlib.Core.Bool.{cond}
use native.Mathlib.Omega.{arith}
use native.Mathlib.Decide.{ℕ_discrete}
use borrow.Author.Tests.{ne_eqb}
use lib.Dec.{eqb}
use Rattle.trace_rules.specs.Edition.{edition_by}
use Rattle.trace_rules.specs.declared.Edition.{Edition}
use Rattle.trace_sentences.specs.FirstBytes.{FirstByte}
use Rattle.trace_sentences.specs.RecordBits.{form}

pub holds_first_byte : FirstByte edition_by
unfolding edition_by
holds_first_byte =
    record {
      at_255 = refl;
      at_254 = refl;
      at_253 = refl;
      others = λ b l. rw (ne_eqb b 255 (λ e. omega arith), ne_eqb b 254 (λ e. omega arith), ne_eqb b 253 (λ e. omega arith));
    }

pub only_first_byte : (f g : ℕ → Edition) → FirstByte f → FirstByte g → (first : ℕ) → first ≤ 255 → f first ≡ g first
only_first_byte f g x y b l = go (ℕ_discrete b 255) (ℕ_discrete b 254) (ℕ_discrete b 253)
  where
    go : Dec (b ≡ 255) → Dec (b ≡ 254) → Dec (b ≡ 253) → f b ≡ g b
    go (yes e) c d = ap f e ∙ x.at_255 ∙ sym y.at_255 ∙ ap g (sym e)
    go (no n) (yes e) d = ap f e ∙ x.at_254 ∙ sym y.at_254 ∙ ap g (sym e)
    go (no n) (no m) (yes e) = ap f e ∙ x.at_253 ∙ sym y.at_253 ∙ ap g (sym e)
    go (no n) (no m) (no o) = let k : b ≤ 252 = omega arith in x.others b k ∙ sym (y.others b k)

-- one for which 254 is an N as before
pub no_old_254 : ¬ FirstByte (λ b. cond (eqb b 255) Edition.Alerts248 Edition.Alerts64)
no_old_254 x = let d = ap (λ (e : Edition). (form e).bytes) x.at_254 in omega (arith, d)

-- one for which 253 is an N as before
pub no_old_253 : ¬ FirstByte (λ b. cond (eqb b 255) Edition.Alerts248 (cond (eqb b 254) Edition.Pings Edition.Alerts64))
no_old_253 x = let d = ap (λ (e : Edition). (form e).bytes) x.at_253 in omega (arith, d)
