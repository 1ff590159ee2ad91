-- Request (xii): what the word of a change says.
-- Assumes nothing.
use Prim.Native.Nat.{ℕ, zero, suc, ◌%◌, ◌^◌, ◌≤◌, ◌<◌}
use mathlib.Core.Path.{◌≡◌, refl, sym, ap, ◌∙◌}
use mathlib.Core.Bool.{Bool, true, false, cond}
use mathlib.Core.List.{List, [], ◌∷◌, ◌++◌}
use native.Mathlib.Nat.{div-one}
use native.Mathlib.Omega.{arith}
use borrow.Author.Tests.{le-leb, lt-leb, eqb-true}
use lib.Dec.{eqb, leb}
use lib.ListN.{get_or}
use lib.Pow.{pow_pos}
use Rattle.bits.proofs.BitLaws.{eqb_digit, num_lt, is_bits_of}
use Rattle.bits.proofs.FieldLaws.{unpack_pack}
use Rattle.bits.specs.Bits.{bit, num, field, place}
use Rattle.bits.specs.Fields.{unpack, Fit, none, one}
use Rattle.calm_rules.specs.Ticks.{change_layout, change_word, change}
use Rattle.calm_laws.specs.Tells.{lines_in, tick_in, lines_by}

-- ── the word of lines and a tick of 32 bits ──

module _ (on tick : ℕ) (small : tick < 2 ^ 32) where
  abbrev fields : List ℕ
  fields = num (bit on 0) ∷ num (bit on 1) ∷ num (bit on 2) ∷ num (bit on 3) ∷ 0 ∷ tick ∷ []

  fits : Fit change_layout fields
  fits = one (num_lt (bit on 0)) (one (num_lt (bit on 1)) (one (num_lt (bit on 2)) (one (num_lt (bit on 3)) (one (pow_pos 28) (one small none)))))

  field_at_law : (i : ℕ) → get_or (unpack change_layout (change_word on tick)) i 0 ≡ get_or fields i 0
  unfolding change_word
  field_at_law i = ap (λ (xs : List ℕ). get_or xs i 0) (unpack_pack fits)

  pub word_tick : tick_in (change_word on tick) ≡ tick
  unfolding unpack
  word_tick = ap (λ (x : ℕ). x % 2 ^ 32) (sym (div-one (change_word on tick))) ∙ field_at_law 5

  pub word_zeros : field 32 28 (change_word on tick) ≡ 0
  unfolding unpack
  word_zeros = field_at_law 4

  digit_at : (i : ℕ) → eqb (get_or (unpack change_layout (change_word on tick)) i 0) 1 ≡ eqb (get_or fields i 0) 1
  digit_at i = ap (λ (d : ℕ). eqb d 1) (field_at_law i)

  word_line : (e : ℕ) → e < 4 → bit on e ≡ place (change_word on tick) e
  unfolding bit unpack
  word_line zero l = sym (digit_at 0 ∙ eqb_digit (bit on 0))
  word_line (suc zero) l = sym (digit_at 1 ∙ eqb_digit (bit on 1))
  word_line (suc (suc zero)) l = sym (digit_at 2 ∙ eqb_digit (bit on 2))
  word_line (suc (suc (suc zero))) l = sym (digit_at 3 ∙ eqb_digit (bit on 3))
  word_line (suc (suc (suc (suc e)))) l = absurd (omega arith)

  pub word_lines : on < 2 ^ 4 → lines_in (change_word on tick) ≡ on
  word_lines m = sym (is_bits_of 4 on (place (change_word on tick)) m word_line)

-- ── the lines by words ──

pub by_append : (given : ℕ) (xs ys : List ℕ) (t : ℕ) → lines_by given (xs ++ ys) t ≡ lines_by (lines_by given xs t) ys t
unfolding lines_by
by_append given [] ys t = refl
by_append given (x ∷ xs) ys t = by_append (cond (leb (tick_in x) t) (lines_in x) given) xs ys t

module _ (old new tick : ℕ) (small : tick < 2 ^ 32) where
  -- before its tick the word of a change says nothing
  pub by_before : (given t : ℕ) → t < tick → lines_by given (change old new tick) t ≡ given
  unfolding lines_by
  by_before given t l = go (eqb new old)
    where
      later : leb (tick_in (change_word new tick)) t ≡ false
      later = ap (λ (x : ℕ). leb x t) (word_tick new tick small) ∙ lt-leb tick t l

      go : (b : Bool) → lines_by given (cond b [] (change_word new tick ∷ [])) t ≡ given
      go true = refl
      go false = ap (λ (b : Bool). cond b (lines_in (change_word new tick)) given) later

  -- from its tick on it says the lines
  pub by_after : new < 2 ^ 4 → (t : ℕ) → tick ≤ t → lines_by old (change old new tick) t ≡ new
  unfolding lines_by
  by_after m t l = go (eqb new old) refl
    where
      now : leb (tick_in (change_word new tick)) t ≡ true
      now = ap (λ (x : ℕ). leb x t) (word_tick new tick small) ∙ le-leb tick t l

      go : (b : Bool) → eqb new old ≡ b → lines_by old (cond b [] (change_word new tick ∷ [])) t ≡ new
      go true e = sym (eqb-true new old e)
      go false e = ap (λ (b : Bool). cond b (lines_in (change_word new tick)) old) now ∙ word_lines new tick small m
