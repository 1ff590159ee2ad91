-- `pairs::escalation_pairs` meets its contract.
-- Assumes nothing.
use Prim.Native.Nat.{◌^◌, ◌<◌}
use mathlib.Core.Path.{sym, ap, ◌∙◌}
use mathlib.Core.Bool.{not}
use native.Mathlib.Omega.{arith}
use borrow.Author.Rules.{rules}
use Rattle.bits.specs.Bits.{bit}
use Rattle.bits.proofs.BitLaws.{bit_not}
use Rattle.link_rules.proofs.CodeLaws.{last_back}
use Rattle.senders.proofs.Lines.{low_bits}
use Rattle.handler.proofs.pairs.escalation_pairs.Goals as goal

pub returns : goal.returns
returns c =
    let s = c.args.s in
    let h : s.last < 2 ^ 32 = search rules in
    let a = low_bits s.last _ (λ e l. sym (last_back (bit s.last e) (bit s.deep e))) in
    let b = low_bits _ _ (λ e l. bit_not 32 s.last e h (omega (arith, l)) ∙ ap not (sym (last_back (bit s.last e) (bit s.deep e)))) in
    λ i. record { pos = a i; neg = b i }
