-- The rules' words of a register satisfy their sentences, and nothing else does.
-- Assumes nothing.
use Prim.Native.Nat.{ℕ, ◌≤◌}
use mathlib.Core.Path.{◌≡◌, refl, sym, ap, ◌∙◌}
use mathlib.Core.Bool.{Bool, true, false, false≢true}
use Rattle.laws.proofs.Map.Cases.{by_kind}
use Rattle.rules.specs.Access.{value, locked}
use Rattle.rules.specs.Map.{decode, number_of, is_register, bits}
use Rattle.rules.specs.Stages.{stage}
use Rattle.rules.specs.declared.Handler.{Handler}
use Rattle.rules.specs.declared.Register.{Register}
use Rattle.rules.specs.declared.Register.TheVariants.{Unassigned}
use Rattle.sentences.specs.AccessMap.{Names}
use Rattle.sentences.specs.RegisterWords.{Decoding, Numbering, Holding, Staging, Locking}
use Rattle.sentences.proofs.AccessMap.{found, row_decodes, decode_row, row_is, held_is, code_is}
use Rattle.sentences.proofs.AccessWays.{shut_is}
use Rattle.sentences.proofs.SentenceCases.{same_test}

-- ── a number ──

none : (q : Register) → (is_register q ≡ true → ⊥) → q ≡ Unassigned
none =
    by_kind (λ q. (is_register q ≡ true → ⊥) → q ≡ Unassigned) (λ o f. absurd (f refl)) (λ g j f. absurd (f refl)) (λ g i f. absurd (f refl))
    (λ s k f. absurd (f refl)) (λ f. refl)

pub holds_decode : Decoding decode
holds_decode n r m =
    record {
      named = λ p t. row_decodes n r p t.0 m t.1;
      unassigned = λ f. none (decode n r) (λ e. f (decode n r) (bits (decode n r), decode_row n r e));
    }

-- the rules' decode decides whether a number names a register
pub only_decode : (f g : ℕ → ℕ → Register) → Decoding f → Decoding g → (n r : ℕ) → n ≤ 248 → f n r ≡ g n r
only_decode f g x y n r m = go (is_register (decode n r)) refl
  where
    go : (b : Bool) → is_register (decode n r) ≡ b → f n r ≡ g n r
    go true e =
        let t : Names n r (decode n r) = (bits (decode n r), decode_row n r e) in
        (x n r m).named (decode n r) t ∙ sym ((y n r m).named (decode n r) t)
    go false e =
        let u : (p : Register) → ¬ Names n r p = λ p t.
        false≢true (sym e ∙ ap is_register (row_decodes n r p t.0 m t.1) ∙ row_is n r p t.0 t.1) in
        (x n r m).unassigned u ∙ sym ((y n r m).unassigned u)

pub holds_number : Numbering number_of
holds_number n r q t = (found n r q t.0 t.1).number

pub only_number : (f g : Register → ℕ) → Numbering f → Numbering g → (n r : ℕ) (q : Register) → Names n r q → f q ≡ g q
only_number f g x y n r q t = x n r q t ∙ sym (y n r q t)

-- ── a register ──

pub holds_value : Holding value
holds_value = held_is

pub only_value : (f g : Handler → Register → ℕ) → Holding f → Holding g → (h : Handler) (q : Register) → f h q ≡ g h q
only_value f g x y h q = x h q ∙ sym (y h q)

pub holds_stage : Staging stage
holds_stage = code_is

pub only_stage : (f g : Handler → Register → ℕ) → Staging f → Staging g → (h : Handler) (q : Register) → f h q ≡ g h q
only_stage f g x y h q = x h q ∙ sym (y h q)

pub holds_locked : Locking locked
holds_locked = shut_is

pub only_locked : (f g : Handler → Register → Bool) → Locking f → Locking g → (h : Handler) (q : Register) → f h q ≡ g h q
only_locked f g x y h q = same_test (f h q) (g h q) (x h q) (y h q)
