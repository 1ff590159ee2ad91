-- Bits of bytes: the number that stands in some of them, and whether one of them is not zero.
-- Assumes nothing.
use Prim.Native.Nat.{ℕ, suc, ◌+◌, ◌-◌, ◌*◌, ◌/◌, ◌%◌, ◌^◌, ◌≤◌, ◌<◌}
use mathlib.Core.Path.{◌≡◌, refl, sym, ap, ◌∙◌, subst}
use mathlib.Core.Logic.{◌⊎◌, inl, inr, ⊎_elim}
use mathlib.Core.Bool.{Bool, true, false, false≢true}
use mathlib.Core.List.{List}
use native.Mathlib.Omega.{arith}
use native.Mathlib.Decide.{ℕ_discrete}
use native.Mathlib.Nat.{mod-lt}
use lib.ListN.{get_or, length, replicate}
use lib.Pow.{pow_pos}
use Rattle.bits.specs.Bits.{bit, field}
use Rattle.bits.specs.Fields.{total, unpack, of_bytes}
use Rattle.bits.specs.Index.{any_to}
use Rattle.bits.proofs.BitLaws.{bit_ext, bit_mod, bit_shr, bit_none}
use Rattle.bits.proofs.ByteLaws.{to_of_bytes}
use Rattle.bits.proofs.IndexLaws.{any_at, any_some}
use Rattle.bits.proofs.PackLaws.{total_bytes}
use Rattle.trace_laws.proofs.WireLaws.{place_part}
use Rattle.trace_sentences.specs.RecordBits.{bit_at, Stands, Some}

-- ── the bits of bytes are those of the number that they make ──

place_byte : (w n i : ℕ) → i < 8 * w → bit_at (unpack (replicate w 8) n) i ≡ bit n (8 * w - suc i)
place_byte w n i h =
    let k : total (replicate (w - suc (i / 8)) 8) + (7 - i % 8) ≡ 8 * w - suc i = omega (arith, total_bytes (w - suc (i / 8))) in
    place_part 8 w n (i / 8) (i % 8) (omega arith) (omega arith) ∙ ap (bit n) k

module _ (bytes : List ℕ) (b : (i : ℕ) → get_or bytes i 0 ≤ 255) where
  of_bytes_law : (n : ℕ) → n < 8 * length bytes → bit (of_bytes bytes) (8 * length bytes - suc n) ≡ bit_at bytes n
  of_bytes_law n l =
      sym (place_byte (length bytes) (of_bytes bytes) n l)
      ∙ ap (λ (xs : List ℕ). bit_at xs n) (to_of_bytes bytes (λ i. let h : get_or bytes i 0 ≤ 255 = b i in omega arith))

  -- the field that has t bits below it
  pub field_stands : (n w t : ℕ) → n + w + t ≡ 8 * length bytes → Stands bytes n w (field t w (of_bytes bytes))
  field_stands n w t e =
      record {
        size = mod-lt _ (pow_pos w);
        bits = λ i l.
            let k : t + (w - 1 - i) ≡ 8 * length bytes - suc (n + i) = omega arith in
            bit_mod w (of_bytes bytes / 2 ^ t) (w - 1 - i) (omega arith) ∙ bit_shr (of_bytes bytes) t (w - 1 - i) ∙ ap (bit (of_bytes bytes)) k
            ∙ of_bytes_law (n + i) (omega arith);
      }

-- ── one number stands in some bits ──

module _ (bytes : List ℕ) (n w : ℕ) where
  bit_of : (v : ℕ) → Stands bytes n w v → (k : ℕ) → k < w → bit v k ≡ bit_at bytes (n + (w - 1 - k))
  bit_of v s k l =
      let e : w - 1 - (w - 1 - k) ≡ k = omega arith in
      ap (bit v) (sym e) ∙ s.bits (w - 1 - k) (omega arith)

  pub one_stands : (v u : ℕ) → Stands bytes n w v → Stands bytes n w u → v ≡ u
  one_stands v u s t = bit_ext w v u s.size t.size (λ k l. bit_of v s k l ∙ sym (bit_of u t k l))

  -- ── whether one of them is not zero ──

  pub some_not_zero : (v : ℕ) → Stands bytes n w v → Some bytes n w → ¬ (v ≡ 0)
  some_not_zero v s (i, l, e) z = false≢true (sym (bit_none (w - 1 - i)) ∙ ap (λ (x : ℕ). bit x (w - 1 - i)) (sym z) ∙ s.bits i l ∙ e)

  clear : (b : Bool) → (b ≡ true → ⊥) → b ≡ false
  clear true f = absurd (f refl)
  clear false f = refl

  pub none_zero : (v : ℕ) → Stands bytes n w v → ¬ Some bytes n w → v ≡ 0
  none_zero v s f =
      bit_ext w v 0 s.size (pow_pos w)
      (λ k l. bit_of v s k l ∙ clear (bit_at bytes (n + (w - 1 - k))) (λ t. f (w - 1 - k, omega arith, t)) ∙ sym (bit_none k))

  pub dec_some : Dec (Some bytes n w)
  dec_some = go (any_to (λ i. bit_at bytes (n + i)) w) refl
    where
      go : (t : Bool) → any_to (λ i. bit_at bytes (n + i)) w ≡ t → Dec (Some bytes n w)
      go true e = let s = any_some (λ i. bit_at bytes (n + i)) w e in yes (s.0, s.1, s.2)
      go false e = no (λ s. false≢true (sym e ∙ any_at (λ i. bit_at bytes (n + i)) w s.0 s.1 s.2))

  pub dec_stands : (v u : ℕ) → Stands bytes n w v → Dec (Stands bytes n w u)
  dec_stands v u s = go (ℕ_discrete v u)
    where
      go : Dec (v ≡ u) → Dec (Stands bytes n w u)
      go (yes e) = yes (subst (Stands bytes n w) e s)
      go (no f) = no (λ t. f (one_stands v u s t))

pub dec_or : {A B : Type 0} → Dec A → Dec B → Dec (A ⊎ B)
dec_or (yes a) b = yes (inl a)
dec_or (no f) (yes b) = yes (inr b)
dec_or (no f) (no g) = no (⊎_elim f g)

pub dec_and : {A B : Type 0} → Dec A → Dec B → Dec (A × B)
dec_and (yes a) (yes b) = yes (a, b)
dec_and (yes a) (no g) = no (λ p. g p.1)
dec_and (no f) b = no (λ p. f p.0)

pub dec_not : {A : Type 0} → Dec A → Dec (¬ A)
dec_not (yes a) = no (λ f. f a)
dec_not (no f) = yes f
