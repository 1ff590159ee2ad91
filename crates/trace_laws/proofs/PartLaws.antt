-- Lists cut into parts of d entries: how many parts, and where part i stands.
-- Assumes nothing.
use Prim.Native.Nat.{ℕ, suc, ◌+◌, ◌*◌, ◌/◌, ◌%◌, ◌≤◌, ◌<◌}
use mathlib.Core.Path.{◌≡◌, sym, ap, ◌∙◌}
use native.Mathlib.Nat.{div-add-mod', div_self, mod_self, suc-mul, add-mul, le-div_iff_mul-le, mul-add-div_right, mul-add-mod_self_right, mul-div_cancel}
use native.Mathlib.Omega.{arith}
use Rattle.trace_rules.specs.Edition.{record_bytes}
use Rattle.trace_rules.specs.declared.Edition.{Edition}
use Rattle.trace_rules.specs.declared.Edition.TheVariants.{Alerts64, Alerts248, Pings, Wires}

-- a record has bytes
pub some_bytes : (e : Edition) → 0 < record_bytes e
some_bytes Alerts64 = omega arith
some_bytes Alerts248 = omega arith
some_bytes Pings = omega arith
some_bytes Wires = omega arith

module _ (d : ℕ) (p : 0 < d) where
  -- nothing is left over
  pub whole_parts : (n : ℕ) → n % d ≡ 0 → n / d * d ≡ n
  whole_parts n w = omega (arith, div-add-mod' n d)

  -- part i ends within n
  pub part_within : (n i : ℕ) → i < n / d → i * d + d ≤ n
  part_within n i l =
      let a : suc i * d ≤ n = (le-div_iff_mul-le p).0 l in
      omega (arith, suc-mul i d)

  -- i whole parts are within n
  pub parts_within : (n i : ℕ) → i ≤ n / d → i * d ≤ n
  parts_within n i l = (le-div_iff_mul-le p).0 l

  -- the parts of one list behind those of another
  pub count_add : (n m : ℕ) → n % d ≡ 0 → (n + m) / d ≡ n / d + m / d
  count_add n m w = ap (λ (k : ℕ). (k + m) / d) (sym (whole_parts n w)) ∙ mul-add-div_right p (n / d) m

  pub rest_add : (n m : ℕ) → n % d ≡ 0 → (n + m) % d ≡ m % d
  rest_add n m w = ap (λ (k : ℕ). (k + m) % d) (sym (whole_parts n w)) ∙ mul-add-mod_self_right (n / d) d m

  pub place_add : (n i : ℕ) → n % d ≡ 0 → (n / d + i) * d ≡ n + i * d
  place_add n i w = add-mul (n / d) i d ∙ ap (λ (k : ℕ). k + i * d) (whole_parts n w)

  -- one part, and many
  pub one_part : (n : ℕ) → n ≡ d → n / d ≡ 1
  one_part n z = ap (λ (k : ℕ). k / d) z ∙ div_self p

  pub one_whole : (n : ℕ) → n ≡ d → n % d ≡ 0
  one_whole n z = ap (λ (k : ℕ). k % d) z ∙ mod_self d

  pub many_parts : (n : ℕ) → n * d / d ≡ n
  many_parts n = mul-div_cancel n p
