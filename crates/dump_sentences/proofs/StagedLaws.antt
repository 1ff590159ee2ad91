-- Whether a register has an open stage is decided by the rules' map, and its value is one.
-- Assumes nothing.
use Prim.Native.Nat.{ℕ, zero, suc, ◌+◌, ◌≤◌}
use mathlib.Core.Path.{◌≡◌, refl, ap, ◌∙◌}
use mathlib.Core.Logic.{◌⊎◌, inl, inr}
use mathlib.Core.Bool.{true}
use native.Mathlib.Omega.{arith}
use Rattle.laws.proofs.Map.Cases.{by_kind}
use Rattle.rules.specs.Map.{decode, is_register, bits}
use Rattle.rules.specs.declared.Handler.{Handler}
use Rattle.rules.specs.declared.Register.{Register}
use Rattle.sentences.specs.AccessMap.{Names}
use Rattle.sentences.specs.Raw.{code}
use Rattle.sentences.proofs.AccessMap.{decode_row, row_decodes}
use Rattle.dump_sentences.specs.DumpBytes.{Staged}

-- what a number names is what it decodes to
pub decodes : (n r : ℕ) (q : Register) → n ≤ 248 → Names n r q → decode n r ≡ q
decodes n r q m t = row_decodes n r q t.0 m t.1

pub named : (n r : ℕ) → is_register (decode n r) ≡ true → Names n r (decode n r)
named n r e = (bits (decode n r), decode_row n r e)

-- what is no register has no stage
is_or_none : (h : Handler) (q : Register) → (is_register q ≡ true) ⊎ (code h q ≡ 0)
is_or_none h = by_kind (λ q. (is_register q ≡ true) ⊎ (code h q ≡ 0)) (λ o. inl refl) (λ f j. inl refl) (λ f i. inl refl) (λ s k. inl refl) (inr refl)

module _ (h : Handler) (m : h.n ≤ 248) (r : ℕ) where
  pub staged_code : (v : ℕ) → Staged h r v → code h (decode h.n r) ≡ suc v
  staged_code v s =
      let e : code h s.0 ≡ v + 1 = s.2 in
      ap (code h) (decodes h.n r s.0 m s.1) ∙ omega (arith, e)

  pub one_staged : (v u : ℕ) → Staged h r v → Staged h r u → v ≡ u
  one_staged v u s t = omega (arith, staged_code v s, staged_code u t)

  pub is_staged : (v : ℕ) → code h (decode h.n r) ≡ suc v → Staged h r v
  is_staged v e = go (is_or_none h (decode h.n r))
    where
      go : (is_register (decode h.n r) ≡ true) ⊎ (code h (decode h.n r) ≡ 0) → Staged h r v
      go (inl i) = (decode h.n r, named h.n r i, omega (arith, e))
      go (inr z) = absurd (omega (arith, e, z))

  pub is_unstaged : code h (decode h.n r) ≡ 0 → (v : ℕ) → ¬ Staged h r v
  is_unstaged e v s = omega (arith, e, staged_code v s)

  pub dec_staged : ((v : ℕ) × Staged h r v) ⊎ ((v : ℕ) → ¬ Staged h r v)
  dec_staged = go (code h (decode h.n r)) refl
    where
      go : (c : ℕ) → code h (decode h.n r) ≡ c → ((v : ℕ) × Staged h r v) ⊎ ((v : ℕ) → ¬ Staged h r v)
      go zero e = inr (is_unstaged e)
      go (suc v) e = inl (v, is_staged v e)
