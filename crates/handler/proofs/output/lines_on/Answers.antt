-- `lines_on` has at bit e whether any class drives line e.
-- Assumes nothing.
use Rattle.std.proofs.Common.{refl, ℕ, Bool, ◌≡◌, ◌∙◌, ap, false, List, [], ◌∷◌, length, get_or, rules, arith}
use Rattle.std.proofs.lemmas.Iterator.{YieldsList-from_slice}
use Rattle.std.proofs.lemmas.Iterator.Consumers.{fold_from_yields_List}
use Rattle.std.specs.List.{fold}
use lib.Bits.{bit_or}
use Rattle.bits.specs.Bits.{bits_of}
use Rattle.bits.proofs.WordLaws.{or_bits_of}
use Rattle.class_rules.specs.Class.{drives, no_class}
use Rattle.class_rules.specs.declared.Class.{Class}
use Rattle.laws.specs.OutputMasks.{lines_on}
use Rattle.handler.proofs.ClassMasks.{or_four}
use Rattle.handler.proofs.output.lines_on.Goals as goal

zero_or : (f : ℕ → Bool) → bit_or 0 (bits_of 4 f) ≡ bits_of 4 f
unfolding bits_of
zero_or f = or_bits_of 4 (λ k. false) f

-- of four classes, one after another
four : (cs : List Class) → length cs ≡ 4 → fold (λ on k. bit_or on (bits_of 4 (drives k))) 0 cs ≡ lines_on cs
unfolding lines_on
four (a ∷ b ∷ c ∷ d ∷ []) e =
    ap (λ z. bit_or (bit_or (bit_or z (bits_of 4 (drives b))) (bits_of 4 (drives c))) (bits_of 4 (drives d))) (zero_or (drives a))
    ∙ or_four 4 (λ k. drives (get_or (a ∷ b ∷ c ∷ d ∷ []) k no_class)) _ _ _ _ refl refl refl refl
four [] e = absurd (omega arith)
four (a ∷ []) e = absurd (omega arith)
four (a ∷ b ∷ []) e = absurd (omega arith)
four (a ∷ b ∷ c ∷ []) e = absurd (omega arith)
four (a ∷ b ∷ c ∷ d ∷ x ∷ xs) e = absurd (omega arith)

pub returns : goal.returns
returns c =
    fold_from_yields_List _ (λ on k. bit_or on (bits_of 4 (drives k))) 0 _ c.fold.ensures.ran (YieldsList-from_slice c.args.classes c.iter.ensures.rest)
    (λ a x b q k. search rules)
    ∙ four c.args.classes (search rules)
