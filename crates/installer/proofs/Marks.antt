-- The table of the code and the table of the papers.
-- Assumes nothing.
use Prim.Native.Nat.{ℕ, ◌<◌}
use mathlib.Core.Path.{◌≡◌, ap, ◌∙◌}
use mathlib.Core.List.{List, [], ◌∷◌}
use lib.ListN.{get_or}
use Rattle.bits.proofs.IndexLaws.{at_each}
use Rattle.bits.specs.Index.{each}
use Rattle.policy.specs.Table.{mark_at}
use Rattle.policy.specs.declared.Lifecycle.{Lifecycle}
use Rattle.policy.specs.declared.Mark.{Mark}

-- row i of the table
abbrev pub row_at : ℕ → List Mark
row_at i =
    mark_at Lifecycle.Raw i ∷ mark_at Lifecycle.Prod i ∷ mark_at Lifecycle.ProdEnd i
    ∷ mark_at Lifecycle.Dev i ∷ mark_at Lifecycle.Rma i ∷ mark_at Lifecycle.Scrap i ∷ []

-- the entry of alert i in the column of a lifecycle, where these are numbered in their order
pub entry_is : (column : Lifecycle → ℕ) (d : Mark) → column Lifecycle.Raw ≡ 0 → column Lifecycle.Prod ≡ 1 → column Lifecycle.ProdEnd ≡ 2
    → column Lifecycle.Dev ≡ 3 → column Lifecycle.Rma ≡ 4 → column Lifecycle.Scrap ≡ 5
    → (l : Lifecycle) (i : ℕ) → i < 58 → get_or (get_or (each 58 row_at) i []) (column l) d ≡ mark_at l i
entry_is column d e0 e1 e2 e3 e4 e5 l i h = ap (λ (r : List Mark). get_or r (column l) d) (at_each 58 row_at i [] h) ∙ in_row l
  where
    in_row : (l : Lifecycle) → get_or (row_at i) (column l) d ≡ mark_at l i
    in_row Lifecycle.Raw = ap (λ (c : ℕ). get_or (row_at i) c d) e0
    in_row Lifecycle.Prod = ap (λ (c : ℕ). get_or (row_at i) c d) e1
    in_row Lifecycle.ProdEnd = ap (λ (c : ℕ). get_or (row_at i) c d) e2
    in_row Lifecycle.Dev = ap (λ (c : ℕ). get_or (row_at i) c d) e3
    in_row Lifecycle.Rma = ap (λ (c : ℕ). get_or (row_at i) c d) e4
    in_row Lifecycle.Scrap = ap (λ (c : ℕ). get_or (row_at i) c d) e5
