-- `signed` meets its contract, arm by arm; a refusal's number is negated without leaving 64 bits.
-- Assumes nothing.
use Prim.Native.Nat.{ℕ, ◌<◌}
use mathlib.Core.Path.{◌≡◌}
use native.Mathlib.Omega.{arith}
use mir.Facts.{to_z_pos, to_z-of_z}
use mir.Syntax.{w64}
use Rattle.rules.specs.Answer.{number}
use Rattle.answers.proofs.Meaning.{sub-zero, neg_fits, meaning}
use borrow.Author.Rules.{rules}
use Rattle.answers.proofs.signed.Goals as goal

pub overflow_sub-result : goal.overflow_sub-result
overflow_sub-result c =
    let l : c.refusal_number.result < 256 = search rules in
    rw (to_z_pos w64 {n = c.refusal_number.result} (omega arith), sub-zero) (neg_fits c.refusal_number.result l)

pub returns-in-Done : goal.returns-in-Done
unfolding number
returns-in-Done c =
    let e = c.in-Done.is in
    record { value = rw e; meaning = meaning c.args.a (λ v d. let z : ◌≡◌ {A = ℕ} 0 1 = cc in absurd (omega arith)) }

pub returns-in-Value : goal.returns-in-Value
unfolding number
returns-in-Value c =
    let w = c.in-Value.v in
    let e = c.in-Value.is in
    record { value = rw e (to_z_pos w64 (omega arith)); meaning = meaning c.args.a (λ v d. let s : w ≡ v = cc in omega arith) }

pub returns-in-Refused : goal.returns-in-Refused
unfolding number
returns-in-Refused c =
    let n = c.refusal_number.result in
    let l : n < 256 = search rules in
    let e = c.in-Refused.is in record { value = rw (to_z_pos w64 {n = n} (omega arith), sub-zero, to_z-of_z (neg_fits n l), e, c.refusal_number.ensures.0); meaning = meaning c.args.a (λ v d. let z : ◌≡◌ {A = ℕ} 0 1 = cc in absurd (omega arith)) }
