-- A handler that is made for so many alerts as an edition speaks of is one that the edition admits.
-- Assumes nothing.
use Prim.Native.Nat.{ℕ, ◌≤◌}
use mathlib.Core.Path.{◌≡◌, refl, ap, ◌∙◌}
use mathlib.Core.Bool.{Bool, true, false, cond, not, or-true, ◌||◌}
use native.Mathlib.Omega.{arith}
use borrow.Author.Tests.{le-leb}
use Rattle.bits.proofs.IndexLaws.{true_and}
use Rattle.rules.specs.Answer.{number}
use Rattle.trace_rules.specs.Batch.{admits}
use Rattle.trace_rules.specs.Edition.{alerts, has_timer}
use Rattle.rules.specs.State.{is_on, new_handler, bad_count, made}
use Rattle.rules.specs.declared.Answer.{Answer}
use Rattle.trace_rules.specs.declared.Edition.{Edition}
use Rattle.rules.specs.declared.Made.{Made}
use Rattle.rules.specs.declared.Refusal.TheVariants.{BadCount}
use Rattle.laws.proofs.Valid.KeepsValid.{made_valid}

-- its timer is off, so that an older edition admits it too
made_off : (n : ℕ) → is_on (made n).handler ≡ false
unfolding made new_handler
made_off n = go (bad_count n)
  where
    either : Bool → Made
    either b = cond b (record { handler = new_handler 0; answer = number (Answer.Refused BadCount) }) (record { handler = new_handler n; answer = number Answer.Done })

    go : (b : Bool) → is_on (either b).handler ≡ false
    go true = refl
    go false = refl

pub admits_made : (e : Edition) (n : ℕ) → (made n).handler.n ≤ alerts e → admits e (made n).handler ≡ true
unfolding admits
admits_made e n h =
    true_and (made_valid n) (true_and (le-leb (made n).handler.n (alerts e) h) (ap (λ (b : Bool). has_timer e || not b) (made_off n) ∙ or-true (has_timer e)))

pub made_admits : (e : Edition) (n : ℕ) → n ≤ alerts e → admits e (made n).handler ≡ true
unfolding made new_handler
made_admits e n h = admits_made e n (go (bad_count n))
  where
    either : Bool → Made
    either b = cond b (record { handler = new_handler 0; answer = number (Answer.Refused BadCount) }) (record { handler = new_handler n; answer = number Answer.Done })

    go : (b : Bool) → (either b).handler.n ≤ alerts e
    go true = omega arith
    go false = h
