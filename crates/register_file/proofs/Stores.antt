-- A store into a list, and into the interrupt bits, as the definitions state them.
-- Assumes nothing.
use Prim.Native.Nat.{ℕ, ◌+◌, ◌-◌, ◌^◌, ◌<◌, ◌%◌}
use mathlib.Core.Path.{◌≡◌, refl, sym, ap, ◌∙◌}
use mathlib.Core.Bool.{Bool, false, cond, not, ◌&&◌, ◌||◌}
use mathlib.Core.List.{List}
use native.Mathlib.Omega.{arith}
use native.Mathlib.Decide.{dec_lt, ℕ_discrete}
use native.Mathlib.Nat.{mod-lt}
use lib.Bits.{bit_and, bit_or, and_le_r, or_lt}
use lib.Dec.{eqb}
use lib.ListN.{get_or, length, set}
use lib.Seq.{set_out}
use borrow.Author.Tests.{eq-eqb, ne_eqb}
use Rattle.bits.specs.Bits.{bit, bits_of}
use Rattle.bits.proofs.BitLaws.{bit_and_law, bit_or_law, bit_not, bit_mod, is_bits_of}
use Rattle.bits.proofs.IndexLaws.{set_each, is_each, each_ext}
use Rattle.class_rules.specs.Class.{phase_cyc}
use Rattle.class_rules.specs.declared.Class.{Class}
use Rattle.rules.specs.Access.{with_setting}
use Rattle.rules.specs.Map.{offset}
use Rattle.rules.specs.State.{put}
use Rattle.rules.specs.declared.Setting.{Setting}
use Rattle.rules.specs.declared.Setting.TheVariants.{Ctrl, ClrRegwen, Clr, AccumCnt, AccumThresh, TimeoutCyc, PhaseCyc, EscCnt}

-- ── lists ──

-- a store is a list with v at i, also where there is no entry i
pub set_put {ℓ} : {A : Type ℓ} (n : ℕ) (xs : List A) (d : A) (i : ℕ) (v : A) → length xs ≡ n → set xs i v ≡ put n xs d i v
unfolding put
set_put {A = A} n xs d i v l = go (dec_lt i n)
  where
    go : Dec (i < n) → set xs i v ≡ put n xs d i v
    go (yes h) = set_each n xs i v d l h
    go (no h) =
        set_out xs i v (omega arith)
        ∙ is_each n xs _ d l (λ j s. sym (ap (λ (t : Bool). cond t v (get_or xs j d)) (ne_eqb j i (λ e. omega arith))))

-- ── the interrupt bits ──

-- a 1 clears
pub clear_bits : (a v : ℕ) → v < 2 ^ 4 → bit_and a (15 - v) ≡ bits_of 4 (λ k. bit a k && not (bit v k))
clear_bits a v h =
    is_bits_of 4 (bit_and a (15 - v)) (λ k. bit a k && not (bit v k)) (omega (arith, and_le_r a (15 - v)))
    (λ k l. bit_and_law a (15 - v) k ∙ ap (λ (t : Bool). bit a k && t) (bit_not 4 v k h l))

-- a 1 sets
pub raise_bits : (a v : ℕ) → v < 2 ^ 4 → bit_or (a % 16) v ≡ bits_of 4 (λ k. bit a k || bit v k)
raise_bits a v h =
    is_bits_of 4 (bit_or (a % 16) v) (λ k. bit a k || bit v k) (or_lt 4 (a % 16) v (mod-lt a (omega arith)) h)
    (λ k l. bit_or_law (a % 16) v k ∙ ap (λ (t : Bool). t || bit v k) (bit_mod 4 a k l))

-- ── a class's block ──

-- the class with other lengths
abbrev with_lengths : Class → List ℕ → Class
with_lengths c ls =
    record {
      lengths = ls;
      timeout = c.timeout;
      count = c.count;
      ctrl = c.ctrl;
      accum = c.accum;
      thresh = c.thresh;
      regwen = c.regwen;
      clrwen = c.clrwen;
      state = c.state;
    }

-- the offset of a length is no other register's, and moves with the phase
pub phase_other : (p m : ℕ) → m < 7 → eqb (7 + p) m ≡ false
phase_other p m h = ne_eqb (7 + p) m (λ e. omega arith)

pub phase_shifted : (p j : ℕ) → eqb j p ≡ eqb (7 + p) (7 + j)
phase_shifted p j = go (ℕ_discrete j p)
  where
    go : Dec (j ≡ p) → eqb j p ≡ eqb (7 + p) (7 + j)
    go (yes e) = eq-eqb j p e ∙ sym (eq-eqb (7 + p) (7 + j) (omega arith))
    go (no e) = ne_eqb j p e ∙ sym (ne_eqb (7 + p) (7 + j) (λ (d : 7 + p ≡ 7 + j). e (omega arith)))

module _ (v : ℕ) (c : Class) where
  -- a store at a register that is no length keeps the lengths
  pub set_register : (s : Setting) → length c.lengths ≡ 4 → ((p : ℕ) → p < 4 → offset s ≡ 7 + p → ⊥)
      → with_lengths (with_setting s v c) c.lengths ≡ with_setting s v c
  set_register s l d =
      ap (with_lengths (with_setting s v c))
      (is_each 4 c.lengths _ 0 l (λ p h. sym (ap (λ (t : Bool). cond t v (phase_cyc c p)) (ne_eqb (offset s) (7 + p) (d p h)))))

  -- a written phase length changes the lengths alone
  pub set_phase : (p : ℕ) → with_lengths c (put 4 c.lengths 0 p v) ≡ with_setting (PhaseCyc p) v c
  unfolding put
  set_phase p =
      simp (phase_other p 6 (omega arith), phase_other p 1 (omega arith), phase_other p 5 (omega arith), phase_other p 0 (omega arith), phase_other p 2 (omega arith))
      (ap (with_lengths c) (each_ext 4 _ _ 0 (λ j h. ap (λ (t : Bool). cond t v (phase_cyc c j)) (phase_shifted p j))))

  -- one at a register that only the handler writes, or at CLR, changes nothing
  pub set_none : (s : Setting) → length c.lengths ≡ 4 → (s ≡ Setting.Regwen → ⊥) → (s ≡ Ctrl → ⊥) → (s ≡ ClrRegwen → ⊥) → (s ≡ AccumThresh → ⊥) → (s ≡ TimeoutCyc → ⊥)
      → ((p : ℕ) → s ≡ PhaseCyc p → ⊥) → c ≡ with_setting s v c
  set_none Setting.Regwen l r t w a o p = absurd (r refl)
  set_none Ctrl l r t w a o p = absurd (t refl)
  set_none ClrRegwen l r t w a o p = absurd (w refl)
  set_none Clr l r t w a o p = set_register Clr l (λ p h e. omega arith)
  set_none AccumCnt l r t w a o p = set_register AccumCnt l (λ p h e. omega arith)
  set_none AccumThresh l r t w a o p = absurd (a refl)
  set_none TimeoutCyc l r t w a o p = absurd (o refl)
  set_none (PhaseCyc j) l r t w a o p = absurd (p j refl)
  set_none EscCnt l r t w a o p = set_register EscCnt l (λ p h e. omega arith)
  set_none Setting.State l r t w a o p = set_register Setting.State l (λ p h e. omega arith)
