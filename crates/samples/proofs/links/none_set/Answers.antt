-- `links::none_set` meets its contract: word by word.
-- Assumes nothing.
use Rattle.std.proofs.Common.{◌≡◌, ◌∙◌, true, ◌&&◌, eqb, ℕ, List, [], ◌∷◌, length, rules, arith}
use Rattle.std.proofs.lemmas.Iterator.{YieldsList-from_slice}
use Rattle.std.proofs.lemmas.Iterator.Consumers.{fold_from_yields_List}
use Rattle.std.specs.List.{fold}
use Rattle.bits.proofs.TruthTables.{by4}
use Rattle.samples.specs.Quiet.{none_set}
use Rattle.samples.proofs.links.none_set.Goals as goal

-- of four words, one after another
four : (ws : List ℕ) → length ws ≡ 4 → fold (λ b w. b && eqb w 0) true ws ≡ none_set ws
four (a ∷ b ∷ c ∷ d ∷ []) e =
    by4 (λ a b c d. ((a && b) && c) && d) (λ a b c d. a && (b && (c && d))) tt (eqb a 0) (eqb b 0) (eqb c 0) (eqb d 0)
four [] e = absurd (omega arith)
four (a ∷ []) e = absurd (omega arith)
four (a ∷ b ∷ []) e = absurd (omega arith)
four (a ∷ b ∷ c ∷ []) e = absurd (omega arith)
four (a ∷ b ∷ c ∷ d ∷ x ∷ xs) e = absurd (omega arith)

pub returns : goal.returns
returns c =
    fold_from_yields_List _ (λ b w. b && eqb w 0) true _ c.fold.ensures.ran (YieldsList-from_slice c.args.w c.iter.ensures.rest) (λ a x b q k. search rules)
    ∙ four c.args.w (search rules)
