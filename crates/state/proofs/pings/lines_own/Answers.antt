-- `pings::lines_own` meets its contract: line by line.
-- Assumes nothing.
use Rattle.std.proofs.Common.{refl, ◌∙◌, rules, ℕ, Bool, true, not, ◌&&◌, ◌||◌, eqb}
use Rattle.std.proofs.lemmas.Iterator.{YieldsList-from_range}
use Rattle.std.proofs.lemmas.Iterator.Search.{all_from_yields_List}
use Rattle.bits.specs.Bits.{bit}
use Rattle.bits.specs.Index.{all_to}
use Rattle.bits.proofs.TruthTables.{by4}
use Rattle.state.proofs.pings.lines_own.Goals as goal

pub returns : goal.returns
unfolding all_to
returns c =
    let a = c.args in
    let own : ℕ → Bool = λ l. not (bit a.lines l) || (a.own && eqb l a.e) in
    all_from_yields_List own _ _ _ c.all.ensures.ran (YieldsList-from_range 0 4 4 refl refl) (λ x b q k. search rules)
    ∙ by4 (λ a b c d. a && (b && (c && (d && true)))) (λ a b c d. (((true && a) && b) && c) && d) tt (own 0) (own 1) (own 2) (own 3)
