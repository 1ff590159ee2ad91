-- `pings::alerts_own` meets its contract: no word has a place set.
-- Assumes nothing.
use Rattle.std.proofs.Common.{refl, ◌∙◌, rules, ℕ, Bool, true, ◌&&◌, eqb}
use Rattle.std.proofs.lemmas.Iterator.{YieldsList-from_range}
use Rattle.std.proofs.lemmas.Iterator.Search.{all_from_yields_List}
use Rattle.bits.proofs.TruthTables.{by4}
use Rattle.state.specs.Strays.{stray_word}
use Rattle.state.proofs.Strays.{none_stray}
use Rattle.state.proofs.pings.alerts_own.Goals as goal

pub returns : goal.returns
returns c =
    let a = c.args in
    let none : ℕ → Bool = λ v. eqb (stray_word a.n a.pends a.own a.i v) 0 in
    all_from_yields_List none _ _ _ c.all.ensures.ran (YieldsList-from_range 0 4 4 refl refl) (λ x b q k. search rules)
    ∙ by4 (λ a b c d. a && (b && (c && (d && true)))) (λ a b c d. a && (b && (c && d))) tt (none 0) (none 1) (none 2) (none 3)
    ∙ none_stray a.n a.pends a.own a.i c.requires
