-- Lists and tests by index.
-- Assumes nothing.
use Rattle.std.specs.Prelude.{ℕ, zero, suc, ◌+◌, ◌*◌, ◌/◌, ◌%◌, Bool, true, false, ◌&&◌, ◌||◌, List, [], ◌∷◌, get_or}
use Rattle.bits.specs.Bits.{place, word_of}

-- the n entries f b, f (b + 1), ..
unfoldable pub each_from {ℓ} : {A : Type ℓ} → ℕ → ℕ → (ℕ → A) → List A
each_from b zero f = []
each_from b (suc n) f = f b ∷ each_from (suc b) n f

-- the list of n entries whose entry i is f i
abbrev pub each {ℓ} : {A : Type ℓ} → ℕ → (ℕ → A) → List A
each n f = each_from 0 n f

-- some i below n has f
unfoldable pub any_to : (ℕ → Bool) → ℕ → Bool
any_to f zero = false
any_to f (suc i) = any_to f i || f i

-- every i below n has f
unfoldable pub all_to : (ℕ → Bool) → ℕ → Bool
all_to f zero = true
all_to f (suc i) = all_to f i && f i

-- place i of a list of words of 64
abbrev pub place_in : List ℕ → ℕ → Bool
place_in ws i = place (get_or ws (i / 64) 0) (i % 64)

-- the n words of 64 whose place i is f i
abbrev pub words_by : ℕ → (ℕ → Bool) → List ℕ
words_by n f = each n (λ v. word_of 64 (λ b. f (v * 64 + b)))
