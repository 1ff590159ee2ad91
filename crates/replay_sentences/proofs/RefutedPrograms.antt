-- Wrong programs that the sentences refuse, as theorems: `only_program`, `holds_program` and one input for which they print another text.
-- Assumes nothing.
use Prim.Native.Nat.{ℕ, zero, suc, ◌-◌, ◌≤◌}
use mathlib.Core.Path.{◌≡◌, refl, ap}
use mathlib.Core.Bool.{Bool, true, cond, ◌&&◌}
use mathlib.Core.List.{List, [], ◌∷◌, ◌++◌, map}
use native.Mathlib.Omega.{arith}
use borrow.Author.Tests.{leb-true}
use lib.Dec.{eqb, leb}
use lib.ListN.{get_or, length, take}
use Rattle.bits.proofs.IndexLaws.{and-true}
use Rattle.rules.proofs.Scenes.{rules}
use Rattle.rules.specs.State.{new_handler}
use Rattle.trace_rules.proofs.TraceScenes.{traces}
use Rattle.trace_rules.specs.declared.Edition.{Edition}
use Rattle.replay_rules.proofs.PrintScenes.{texts, reads321, document, new_read}
use Rattle.replay_rules.specs.Prints.{words_text, behind_text, start_text, prints}
use Rattle.replay_sentences.specs.Texts.{refused_text}
use Rattle.replay_sentences.specs.Programs.{Program}
use Rattle.replay_sentences.proofs.OnlyPrograms.{is_the_program}

-- each number of a list is a byte's
unfoldable are_bytes : List ℕ → Bool
are_bytes [] = true
are_bytes (x ∷ xs) = leb x 255 && are_bytes xs

up_to_255 : (xs : List ℕ) → are_bytes xs ≡ true → (i : ℕ) → get_or xs i 0 ≤ 255
unfolding are_bytes
up_to_255 [] e i = omega arith
up_to_255 (x ∷ xs) e zero = leb-true x 255 (and-true (leb x 255) (are_bytes xs) e).0
up_to_255 (x ∷ xs) e (suc i) = up_to_255 xs (and-true (leb x 255) (are_bytes xs) e).1 i

-- what a program of the sentences prints for some bytes
says : (f : List ℕ → List ℕ) → Program f → (bytes : List ℕ) → are_bytes bytes ≡ true → f bytes ≡ prints bytes
says f p bytes e = is_the_program f p bytes (up_to_255 bytes e)

-- upper-case digits: `C` is 67, `c` 99
abbrev upper : ℕ → ℕ
upper b = cond (leb 97 b && leb b 102) (b - 32) b

pub no_upper_case : ¬ Program (λ bytes. map upper (prints bytes))
unfolding rules traces texts are_bytes
no_upper_case r = let d = ap (λ (t : List ℕ). get_or t 15 0) (says _ r document refl) in omega (arith, d)

-- the last word left out
abbrev last_left : List ℕ → List ℕ
last_left bytes = take (length (prints bytes) - 17) (prints bytes)

pub no_last_left : ¬ Program last_left
unfolding rules traces texts are_bytes
no_last_left r = let d = ap (λ (t : List ℕ). length t) (says _ r document refl) in omega (arith, d)

-- no `cut` where bytes remain
abbrev uncut : List ℕ → List ℕ
uncut [] = refused_text
uncut (n ∷ bytes) = words_text Edition.Alerts64 (new_handler n) bytes

pub no_uncut : ¬ Program uncut
unfolding rules traces texts are_bytes
no_uncut r = let d = ap (λ (t : List ℕ). length t) (says _ r (1 ∷ (reads321 ++ (84 ∷ []))) refl) in omega (arith, d)

-- the newest records read as those of the edition before: byte 2 is the refusal
abbrev older_words : List ℕ → List ℕ
older_words [] = refused_text
older_words (first ∷ bytes) = cond (eqb first 253) (behind_text Edition.Pings bytes) (prints (first ∷ bytes))

pub no_older_words : ¬ Program older_words
unfolding rules traces texts are_bytes
no_older_words r = let d = ap (λ (t : List ℕ). get_or t 2 0) (says _ r (253 ∷ 1 ∷ new_read 0x15) refl) in omega (arith, d)

-- an old input of 65 alerts that runs
abbrev new_n : List ℕ → List ℕ
new_n [] = refused_text
new_n (first ∷ bytes) = cond (leb first 252) (start_text Edition.Alerts248 first bytes) (prints (first ∷ bytes))

pub no_old_65 : ¬ Program new_n
unfolding rules traces texts are_bytes
no_old_65 r = let d = ap (λ (t : List ℕ). length t) (says _ r (65 ∷ []) refl) in omega (arith, d)

-- `refused`, and the words all the same
abbrev goes_on : List ℕ → List ℕ
goes_on [] = refused_text
goes_on (first ∷ bytes) = cond (eqb first 0) (refused_text ++ words_text Edition.Alerts64 (new_handler 0) bytes) (prints (first ∷ bytes))

pub no_words_of_refused : ¬ Program goes_on
unfolding rules traces texts are_bytes
no_words_of_refused r = let d = ap (λ (t : List ℕ). length t) (says _ r (0 ∷ reads321) refl) in omega (arith, d)
