-- Worked examples that pin what the program prints, by computation.
-- Assumes nothing.
use Prim.Native.Nat.{ℕ}
use mathlib.Core.Path.{◌≡◌, refl}
use mathlib.Core.List.{List, [], ◌∷◌, ◌++◌, map}
use lib.ListN.{take, drop, replicate}
use Rattle.rules.proofs.Scenes.{rules}
use Rattle.trace_rules.proofs.TraceScenes.{traces}
use Rattle.trace_rules.specs.declared.Edition.{Edition}
use Rattle.replay_rules.specs.Prints.{cut_text, refused_text, prints}
use Rattle.replay_rules.specs.Turns.{start_texts}
use Rattle.replay_rules.proofs.PrintScenes.{texts, reads321, writes1023, document, new_read, line393c, line_refused1, line_refused5}

-- "N = 1 with records .. prints exactly `000000000000393c` and `0010000000000000`"
of_document : prints document ≡ line393c ++ line_refused1
unfolding rules traces texts
of_document = refl

-- "Rest bytes at the end print `cut` and a newline": 23 bytes and 25; N alone prints nothing
rest_bytes : (prints (1 ∷ take 23 reads321) ≡ cut_text) × (prints (1 ∷ (reads321 ++ (84 ∷ []))) ≡ line393c ++ cut_text) × (prints (64 ∷ []) ≡ [])
unfolding rules traces texts
rest_bytes = (refl, refl, refl)

-- "a missing or refused N prints `refused` and a newline only", whatever comes behind it
refused_n : (map prints ([] ∷ (0 ∷ reads321) ∷ (65 ∷ reads321) ∷ (252 ∷ reads321) ∷ []) ≡ replicate 4 refused_text)
    × (map prints ((255 ∷ []) ∷ (254 ∷ []) ∷ (253 ∷ []) ∷ []) ≡ replicate 3 refused_text)
    × (map prints ((255 ∷ 0 ∷ reads321) ∷ (254 ∷ 249 ∷ reads321) ∷ (253 ∷ 255 ∷ reads321) ∷ []) ≡ replicate 3 refused_text)
    × (map prints ((255 ∷ 248 ∷ []) ∷ (254 ∷ 248 ∷ []) ∷ (253 ∷ 65 ∷ []) ∷ []) ≡ replicate 3 [])
unfolding rules traces texts
refused_n = (refl, refl, refl, refl)

-- the same 75 bytes by their first byte: a zero bit that is 1 is malformed in the edition of pings, and a pair in that of receive wires;
-- of 70 bytes they leave 5
by_first_byte : (prints (253 ∷ 1 ∷ new_read 0x15) ≡ line393c)
    × (prints (254 ∷ 1 ∷ new_read 0x15) ≡ line_refused5)
    × (prints (254 ∷ 1 ∷ new_read 0x05) ≡ line393c)
    × (prints (255 ∷ 1 ∷ new_read 0x15) ≡ line393c ++ cut_text)
unfolding rules traces texts
by_first_byte = (refl, refl, refl, refl)

-- the document's records in three reads that end inside records, and one byte too many: a text for each read, and one at the end
abbrev pieces : List (List ℕ)
pieces = take 10 reads321 ∷ (drop 10 reads321 ++ take 20 writes1023) ∷ (drop 20 writes1023 ++ (7 ∷ [])) ∷ []

in_pieces : start_texts Edition.Alerts64 1 pieces ≡ [] ∷ line393c ∷ line_refused1 ∷ cut_text ∷ []
unfolding rules traces texts
in_pieces = refl
