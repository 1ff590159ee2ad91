-- Lists of accesses, joined.
-- Assumes nothing.
use mathlib.Core.Path.{◌≡◌, refl, sym, ap, ◌∙◌}
use mathlib.Core.List.{List, [], ◌∷◌, ◌++◌}
use Rattle.std.proofs.lemmas.List.{append_assoc}
use Rattle.policy.specs.Install.{Ask, Entry, ask, install, asks_of, asks}
use Rattle.policy.specs.Progress.{Progress}

pub install_append : (s : Progress) (xs ys : List Ask) → install s (xs ++ ys) ≡ install (install s xs) ys
unfolding install
install_append s [] ys = refl
install_append s (a ∷ xs) ys = install_append (ask s a) xs ys

pub asks_append : (es fs : List Entry) → asks (es ++ fs) ≡ asks es ++ asks fs
unfolding asks
asks_append [] fs = refl
asks_append (e ∷ es) fs = ap (λ (l : List Ask). asks_of e ++ l) (asks_append es fs) ∙ sym (append_assoc (asks_of e) (asks es) (asks fs))
