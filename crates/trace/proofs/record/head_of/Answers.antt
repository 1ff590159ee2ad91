-- `record::head_of` meets its contract: the first 64 bits of the layouts.
-- Assumes nothing.
use Prim.Native.Nat.{ℕ, ◌/◌, ◌%◌, ◌^◌, ◌<◌}
use mathlib.Core.Path.{◌≡◌, ap₂, ◌∙◌}
use mathlib.Core.Logic.{inl, inr}
use native.Mathlib.Omega.{arith}
use borrow.Author.Rules.{rules}
use Rattle.bits.specs.Fields.{unpack}
use Rattle.trace_rules.specs.declared.Edition.{Edition}
use Rattle.trace.specs.RecordParts.{head_at, head_of}
use Rattle.trace.specs.declared.record.Head.{Head}
use Rattle.trace.proofs.record.head_of.Goals as goal

-- the kind is all that stands above the register, and the value all that stands below the zero bits
fields_64 : (x : ℕ) → x < 2 ^ 64 → head_at 52 x ≡ head_of Edition.Alerts64 x
unfolding unpack
fields_64 x h = ap₂ {C = Head} (λ (k v : ℕ). record { kind = k; register = x / 2 ^ 52 % 2 ^ 10; zeros = x / 2 ^ 32 % 2 ^ 20; value = v }) (omega arith) (omega arith)

fields_248 : (x : ℕ) → x < 2 ^ 64 → head_at 51 x ≡ head_of Edition.Alerts248 x
unfolding unpack
fields_248 x h = ap₂ {C = Head} (λ (k v : ℕ). record { kind = k; register = x / 2 ^ 51 % 2 ^ 11; zeros = x / 2 ^ 32 % 2 ^ 19; value = v }) (omega arith) (omega arith)

pub returns-in-Alerts64 : goal.returns-in-Alerts64
returns-in-Alerts64 c = rw c.in-Alerts64.is (c.head_at.ensures ∙ fields_64 c.args.first (search rules))

pub returns-in-Alerts248 : goal.returns-in-Alerts248
returns-in-Alerts248 c =
    let h = c.head_at-in-Alerts248.ensures ∙ fields_248 c.args.first (search rules) in
    elim c.in-Alerts248.is [ inl e ↦ rw e h | inr r ↦ elim r [ inl e ↦ rw e h | inr e ↦ rw e h ] ]
