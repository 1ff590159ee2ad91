-- Three turns for each place: the accesses of what is put there.
-- Assumes nothing.
use Prim.Native.Nat.{ℕ, zero, suc, ◌+◌, ◌*◌, ◌<◌}
use mathlib.Core.Path.{◌≡◌, refl, ap, ◌∙◌}
use mathlib.Core.List.{List, [], ◌∷◌}
use native.Mathlib.Omega.{arith}
use native.Mathlib.Nat.{le_of_suc-le-suc, not-suc-le-zero}
use lib.ListN.{get_or, length}
use Rattle.boot_sentences.specs.Order.{Put}
use Rattle.boot_sentences.specs.Order.Put.{twice, once, none}
use Rattle.boot_sentences.specs.Turns.{Turn, Turns}
use Rattle.boot_sentences.specs.Turns.Turn.{writes, reads, nothing}
use Rattle.boot_sentences.proofs.HoldsCourse.{turn_at}

abbrev first : Put → Turn
first (twice r v) = writes r v
first (once r v) = writes r v
first none = nothing

abbrev second : Put → Turn
second (twice r v) = writes r v
second (once r v) = nothing
second none = nothing

abbrev third : Put → Turn
third (twice r v) = reads r v
third (once r v) = reads r v
third none = nothing

unfoldable pub turns_of : List Put → List Turn
turns_of [] = []
turns_of (p ∷ ps) = first p ∷ second p ∷ third p ∷ turns_of ps

abbrev pub put_at : List Put → ℕ → Put
put_at ps j = get_or ps j none

first_at : (ps : List Put) (j : ℕ) → j < length ps → turn_at (turns_of ps) (3 * j) ≡ first (put_at ps j)
unfolding turns_of
first_at [] j l = absurd (not-suc-le-zero l)
first_at (p ∷ ps) zero l = refl
first_at (p ∷ ps) (suc j) l =
    let e : 3 * suc j ≡ suc (suc (suc (3 * j))) = omega arith in
    ap (turn_at (turns_of (p ∷ ps))) e ∙ first_at ps j (le_of_suc-le-suc l)

second_at : (ps : List Put) (j : ℕ) → j < length ps → turn_at (turns_of ps) (3 * j + 1) ≡ second (put_at ps j)
unfolding turns_of
second_at [] j l = absurd (not-suc-le-zero l)
second_at (p ∷ ps) zero l = refl
second_at (p ∷ ps) (suc j) l =
    let e : 3 * suc j + 1 ≡ suc (suc (suc (3 * j + 1))) = omega arith in
    ap (turn_at (turns_of (p ∷ ps))) e ∙ second_at ps j (le_of_suc-le-suc l)

third_at : (ps : List Put) (j : ℕ) → j < length ps → turn_at (turns_of ps) (3 * j + 2) ≡ third (put_at ps j)
unfolding turns_of
third_at [] j l = absurd (not-suc-le-zero l)
third_at (p ∷ ps) zero l = refl
third_at (p ∷ ps) (suc j) l =
    let e : 3 * suc j + 2 ≡ suc (suc (suc (3 * j + 2))) = omega arith in
    ap (turn_at (turns_of (p ∷ ps))) e ∙ third_at ps j (le_of_suc-le-suc l)

pub holds_turns : (ps : List Put) → length ps ≡ 203 → Turns (put_at ps) (turn_at (turns_of ps))
holds_turns ps n =
    record {
      first_write = λ j r v l e. first_at ps j (within j l) ∙ ap first e;
      second_write = λ j r v l e. second_at ps j (within j l) ∙ ap second e;
      read_back = λ j r v l e. third_at ps j (within j l) ∙ ap third e;
      one_write = λ j r v l e. first_at ps j (within j l) ∙ ap first e;
      no_second = λ j r v l e. second_at ps j (within j l) ∙ ap second e;
      one_read = λ j r v l e. third_at ps j (within j l) ∙ ap third e;
      none_first = λ j l e. first_at ps j (within j l) ∙ ap first e;
      none_second = λ j l e. second_at ps j (within j l) ∙ ap second e;
      none_third = λ j l e. third_at ps j (within j l) ∙ ap third e;
    }
  where
    within : (j : ℕ) → j < 203 → j < length ps
    within j l = omega (arith, n)
