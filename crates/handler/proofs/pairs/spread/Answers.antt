-- `spread` has the opposite of each word on the negative wires.
-- Assumes nothing.
use Rattle.std.proofs.Common.{ℕ, ◌≡◌, ◌-◌, get_or, rules}
use Rattle.bits.specs.Index.{each}
use Rattle.bits.proofs.IndexLaws.{is_each}
use Rattle.masks.proofs.Made.{mapped}
use Rattle.rules.specs.State.{words}
use Rattle.handler.proofs.pairs.spread.Goals as goal

pub returns : goal.returns
returns c =
    let e : c.map.result ≡ each words (λ v. 18446744073709551615 - get_or c.args.on v 0) =
    is_each words c.map.result _ 0 c.map.ensures.items.long
    (λ v l. mapped _ _ (λ (w : ℕ). 18446744073709551615 - w) (λ x y q k. search rules) c.map.ensures.items 0 0 v l) in
    λ t. record { pos = c.args.on; neg = e t }
