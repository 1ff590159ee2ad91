-- Fields as code reads them, and the fields of a class.
-- Assumes nothing.
use Prim.Native.Nat.{ℕ, zero, suc, ◌+◌, ◌-◌, ◌*◌, ◌^◌, ◌≤◌, ◌<◌}
use mathlib.Core.Path.{◌≡◌, refl, sym, ap, ap₂, ◌∙◌, subst}
use mathlib.Core.Bool.{Bool, true, false, cond, not, ◌&&◌, ◌||◌}
use mathlib.Core.List.{List, []}
use native.Mathlib.Omega.{arith}
use borrow.Author.Tests.{leb-true, leb-false, le-leb, lt-ltb, le-ltb, eq-eqb, ne_eqb, eqb-true}
use lib.Dec.{eqb, leb, ltb}
use lib.ListN.{length, drop, length-drop}
use lib.Pow.{pow_pos, pow_mono}
use Rattle.std.specs.Prelude.{Result, Ok, Err}
use Rattle.bits.proofs.IndexLaws.{any_at}
use Rattle.class_rules.specs.Class.{state_of, state_fits, count_fits}
use Rattle.class_rules.specs.declared.ClassState.{ClassState}
use Rattle.class_rules.specs.declared.ClassState.TheVariants.{Idle, Timeout, Phase0, Phase1, Phase2, Phase3, Terminal}
use Rattle.formats.specs.BitList.{number_of, bits_of_bytes, filled}
use Rattle.formats.specs.Format.{Format, Lawful, Chain, field, pair, some_from, chain, joined, parted}
use Rattle.formats.proofs.BitListLaws.{length_bits_of_bytes, number_lt}
use Rattle.formats.proofs.BitAtLaws.{filled_lt}
use Rattle.dump_rules.specs.Reader.{any_number}
use Rattle.dump_reader.specs.Steps.{step_at, step_by}
use Rattle.dump_rules.specs.declared.Unread.{Unread}
use Rattle.dump_reader.proofs.StepLaws.{fine_of, field_step, field_on, step_on, down_fine, pair_on, pair_err, as_step, nothing_step}

module _ (bytes : List ℕ) (at : ℕ) where
  abbrev left : List Bool
  left = drop at (bits_of_bytes bytes)

  abbrev bits : ℕ
  bits = 8 * length bytes

  within : at ≤ bits → at ≤ length (bits_of_bytes bytes)
  within h = let e : length (bits_of_bytes bytes) ≡ bits = length_bits_of_bytes bytes in omega arith

  -- a field by the test of what is there of it
  pub field_code : (w : ℕ) (ok : ℕ → Bool) (fine : Bool) (r : Result ℕ Unread) → at ≤ bits → fine ≡ fine_of bytes at w ok → r ≡ step_by bits at w fine → r ≡ step_at (field w ok) bytes at
  field_code w ok fine r h f e =
      e ∙ ap₂ (λ (n : ℕ) (t : Bool). step_by n at w t) (sym (length_bits_of_bytes bytes)) f ∙ sym (field_step bytes at w ok (within h))

  pub on_then : {B : Type 0} (w : ℕ) (ok : ℕ → Bool) (g : ℕ → Format B) (b : ℕ) → at ≤ bits → step_at (field w ok) bytes at ≡ Ok b
      → step_at (pair (field w ok) g) bytes at ≡ step_at (g (filled w left)) bytes b
  on_then w ok g b h e = pair_on (field w ok) g bytes at (filled w left) b (field_on w ok bytes at b (within h) e).0

  -- ── any number ──

  pub any_fine : (w : ℕ) → at ≤ bits → true ≡ fine_of bytes at w any_number
  any_fine w h = down_fine bytes at w any_number (within h) (λ a b l e. refl)

  -- ── whole, or not ──

  left_length : length left ≡ length (bits_of_bytes bytes) - at
  left_length = length-drop at (bits_of_bytes bytes)

  bits_length : length (bits_of_bytes bytes) ≡ bits
  bits_length = length_bits_of_bytes bytes

  -- two rules in one: of a field that is whole, and of one that is cut
  pub by_length : (w : ℕ) (ok : ℕ → Bool) (fine : Bool → Bool) → at ≤ bits
      → (w ≤ length left → fine false ≡ ok (filled w left)) → (length left < w → fine true ≡ some_from ok w left)
      → fine (ltb (bits - at) w) ≡ fine_of bytes at w ok
  by_length w ok fine h yes_whole yes_short = go (leb w (length (bits_of_bytes bytes) - at)) refl
    where
      go : (t : Bool) → leb w (length (bits_of_bytes bytes) - at) ≡ t → fine (ltb (bits - at) w) ≡ cond t (ok (filled w left)) (some_from ok w left)
      go true e =
          let l : w ≤ length (bits_of_bytes bytes) - at = leb-true w (length (bits_of_bytes bytes) - at) e in
          ap fine (le-ltb (bits - at) w (omega (arith, bits_length))) ∙ yes_whole (omega (arith, left_length))
      go false e =
          let l : length (bits_of_bytes bytes) - at < w = leb-false w (length (bits_of_bytes bytes) - at) e in
          ap fine (lt-ltb (bits - at) w (omega (arith, bits_length))) ∙ yes_short (omega (arith, left_length))

  -- ── STATE: one that is cut can still be any but 2, with ones behind ──

  last_one : (w : ℕ) (ok : ℕ → Bool) → ok (number_of left * 2 ^ (w - length left) + (2 ^ (w - length left) - 1)) ≡ true → true ≡ some_from ok w left
  last_one w ok e =
      let m : ℕ = w - length left in
      let p : 0 < 2 ^ m = pow_pos m in
      sym (any_at (λ x. ok (number_of left * 2 ^ m + x)) (2 ^ m) (2 ^ m - 1) (omega arith) e)

  state_ones : (x : ℕ) → x < 8 → (x ≡ 2 → ⊥) → state_fits x ≡ true
  state_ones x l n = ap₂ ◌&&◌ (lt-ltb x (2 ^ 3) l) (ap not (ne_eqb x 2 n))

  state_short : length left < 3 → true ≡ some_from state_fits 3 left
  state_short h = last_one 3 state_fits (go (length left) refl h (number_lt left))
    where
      go : (k : ℕ) → length left ≡ k → k < 3 → number_of left < 2 ^ length left → state_fits (number_of left * 2 ^ (3 - length left) + (2 ^ (3 - length left) - 1)) ≡ true
      go zero e l n =
          let z : number_of left < 2 ^ 0 = subst (λ (k : ℕ). number_of left < 2 ^ k) e n in
          rw e (state_ones (number_of left * 2 ^ 3 + (2 ^ 3 - 1)) (omega arith) (omega arith))
      go (suc zero) e l n =
          let z : number_of left < 2 ^ 1 = subst (λ (k : ℕ). number_of left < 2 ^ k) e n in
          rw e (state_ones (number_of left * 2 ^ 2 + (2 ^ 2 - 1)) (omega arith) (omega arith))
      go (suc (suc zero)) e l n =
          let z : number_of left < 2 ^ 2 = subst (λ (k : ℕ). number_of left < 2 ^ k) e n in
          rw e (state_ones (number_of left * 2 ^ 1 + (2 ^ 1 - 1)) (omega arith) (omega arith))
      go (suc (suc (suc k))) e l n = absurd (omega arith)

  or-true : (b : Bool) → (b || true) ≡ true
  or-true true = refl
  or-true false = refl

  or-false : (b : Bool) → (b || false) ≡ b
  or-false true = refl
  or-false false = refl

  pub state_fine : at ≤ bits → (not (eqb (filled 3 left) 2) || ltb (bits - at) 3) ≡ fine_of bytes at 3 state_fits
  state_fine h =
      by_length 3 state_fits (λ t. not (eqb (filled 3 left) 2) || t) h
      (λ l. or-false (not (eqb (filled 3 left) 2)) ∙ sym (ap (λ (t : Bool). t && not (eqb (filled 3 left) 2)) (lt-ltb (filled 3 left) (2 ^ 3) (filled_lt 3 3 left (omega arith)))))
      (λ l. or-true (not (eqb (filled 3 left) 2)) ∙ state_short l)

  -- ── the count: 0, or any but 0; one that is cut can still be other than 0 ──

  count_short : (ok : ℕ → Bool) → ((x : ℕ) → ok x ≡ not (eqb x 0)) → length left < 32 → true ≡ some_from ok 32 left
  count_short ok rule h =
      last_one 32 ok
      (rule _ ∙ ap not (ne_eqb _ 0
      (let p : 2 ^ 1 ≤ 2 ^ (32 - length left) = pow_mono (let k : 1 ≤ 32 - length left = omega arith in k) in
      let q : 0 < 2 ^ (32 - length left) - 1 = omega arith in
      λ (z : number_of left * 2 ^ (32 - length left) + (2 ^ (32 - length left) - 1) ≡ 0). absurd (omega arith))))

  abbrev count_fine : ClassState → Type 0
  count_fine q = (count_fits q (filled 32 left) || (ltb (bits - at) 32 && count_fits q 1)) ≡ fine_of bytes at 32 (count_fits q)

  never_one : (b : Bool) → (b && false) ≡ false
  never_one true = refl
  never_one false = refl

  calm : at ≤ bits → (eqb (filled 32 left) 0 || (ltb (bits - at) 32 && false)) ≡ fine_of bytes at 32 (λ x. eqb x 0)
  calm h =
      ap (λ (t : Bool). eqb (filled 32 left) 0 || t) (never_one (ltb (bits - at) 32)) ∙ or-false (eqb (filled 32 left) 0)
      ∙ down_fine bytes at 32 (λ x. eqb x 0) (within h) (λ a b l e. let z : b ≡ 0 = eqb-true b 0 e in eq-eqb a 0 (omega arith))

  lively : at ≤ bits → (not (eqb (filled 32 left) 0) || (ltb (bits - at) 32 && true)) ≡ fine_of bytes at 32 (λ x. not (eqb x 0))
  lively h =
      by_length 32 (λ x. not (eqb x 0)) (λ t. not (eqb (filled 32 left) 0) || (t && true)) h
      (λ l. or-false (not (eqb (filled 32 left) 0)))
      (λ l. or-true (not (eqb (filled 32 left) 0)) ∙ count_short (λ x. not (eqb x 0)) (λ x. refl) l)

  pub count_fine_law : at ≤ bits → (q : ClassState) → count_fine q
  count_fine_law h Idle = calm h
  count_fine_law h Timeout = lively h
  count_fine_law h Phase0 = lively h
  count_fine_law h Phase1 = lively h
  count_fine_law h Phase2 = lively h
  count_fine_law h Phase3 = lively h
  count_fine_law h Terminal = calm h

  -- a number up to m
  pub most_fine : (w m v : ℕ) (ok : ℕ → Bool) → ((x : ℕ) → ok x ≡ leb x m) → v ≡ filled w left → at ≤ bits → leb v m ≡ fine_of bytes at w ok
  most_fine w m v ok e i h =
      ap (λ (x : ℕ). leb x m) i ∙ sym (e (filled w left))
      ∙ down_fine bytes at w ok (within h) (λ a b l t. let k : b ≤ m = leb-true b m (sym (e b) ∙ t) in e a ∙ le-leb a m (omega arith))

  pub state_at : (s l : ℕ) → s ≡ filled 3 left → l ≡ bits - at → at ≤ bits → (not (eqb s 2) || ltb l 3) ≡ fine_of bytes at 3 state_fits
  state_at s l e f h = ap₂ (λ (x y : ℕ). not (eqb x 2) || ltb y 3) e f ∙ state_fine h

  pub count_at : (s c l : ℕ) (f g : Bool) → c ≡ filled 32 left → l ≡ bits - at → f ≡ count_fits (state_of s) c → g ≡ count_fits (state_of s) 1 → at ≤ bits
      → (f || (ltb l 32 && g)) ≡ fine_of bytes at 32 (count_fits (state_of s))
  count_at s c l f g e i p q h =
      ap₂ (λ (x y : Bool). x || (ltb l 32 && y)) (p ∙ ap (count_fits (state_of s)) e) q
      ∙ ap (λ (y : ℕ). count_fits (state_of s) (filled 32 left) || (ltb y 32 && count_fits (state_of s) 1)) i
      ∙ count_fine_law h (state_of s)

  -- ── a list: its first, and what follows ──

  pub chain_on : {S A : Type 0} (c : Chain S A) (j : ℕ) (s : S) → Lawful (c.one s j) → (b : ℕ) → at ≤ bits → Ok b ≡ step_at (c.one s j) bytes at
      → (a : A) × (step_at (chain c (suc j) s) bytes at ≡ step_at (chain c j (c.next s a)) bytes b) × (b ≤ bits)
  chain_on c j s lf b h e =
      let x = step_on bytes at (c.one s j) lf (within h) b (sym e) in
      let g = λ (y : _). chain c j (c.next s y) in
      (x.0, as_step joined (parted c.default) (pair (c.one s j) g) bytes at ∙ pair_on (c.one s j) g bytes at x.0 b x.1, omega (arith, x.2, bits_length))

  pub chain_err : {S A : Type 0} (c : Chain S A) (j : ℕ) (s : S) (e : Unread) → Err e ≡ step_at (c.one s j) bytes at → Err e ≡ step_at (chain c (suc j) s) bytes at
  chain_err c j s e h =
      let g = λ (y : _). chain c j (c.next s y) in
      sym (as_step joined (parted c.default) (pair (c.one s j) g) bytes at ∙ pair_err (c.one s j) g bytes at e (sym h))

  -- the same in a loop: k of m are read, and x is what reading all gives
  module _ {S A : Type 0} (c : Chain S A) (m k : ℕ) (s : S) (x : Result ℕ Unread) (inv : x ≡ step_at (chain c (m - k) s) bytes at) where
    pub on_step : k < m → step_at (chain c (suc (m - (k + 1))) s) bytes at ≡ x
    on_step l = ap (λ (j : ℕ). step_at (chain c j s) bytes at) (let e : suc (m - (k + 1)) ≡ m - k = omega arith in e) ∙ sym inv

    pub loop_err : k < m → (e : Unread) → Err e ≡ step_at (c.one s (m - (k + 1))) bytes at → Err e ≡ x
    loop_err l e h = chain_err c (m - (k + 1)) s e h ∙ on_step l

    pub loop_on : Lawful (c.one s (m - (k + 1))) → k < m → at ≤ bits → (b : ℕ) → Ok b ≡ step_at (c.one s (m - (k + 1))) bytes at
        → (a : A) × (x ≡ step_at (chain c (m - (k + 1)) (c.next s a)) bytes b) × (b ≤ bits)
    loop_on lf l h b e = let y = chain_on c (m - (k + 1)) s lf b h e in (y.0, sym (on_step l) ∙ y.1, y.2)

    pub loop_end : m ≤ k → at ≤ bits → Ok at ≡ x
    loop_end l h =
        sym (nothing_step [] bytes at (within h)) ∙ ap (λ (j : ℕ). step_at (chain c j s) bytes at) (let e : 0 ≡ m - k = omega arith in e) ∙ sym inv
