-- Registers of a kind, as code counts and finds them.
-- Assumes nothing.
use Rattle.std.specs.Prelude.{ℕ, suc, leb, ltb, ◌&&◌, ◌≤◌, ◌<◌, ◌≡◌, Bool, true, false, Option, Some, None, length}
use Rattle.rules.specs.Map.{decode, is_lock, is_shadowed}
use Rattle.rules.specs.declared.Register.{Register}
use Rattle.dump_rules.specs.Reader.{shadowed_from}
use Rattle.dump_rules.specs.Shown.{is_cause, limit, picks}
use Rattle.dump_map.specs.declared.Kind.{Kind}

abbrev pub has_kind : Kind → Register → Bool
has_kind Kind.Cause q = is_cause q
has_kind Kind.Lock q = is_lock q
has_kind Kind.Shadowed q = is_shadowed q

-- r is the first number from a on of a shadowed register
pub record IsFirst (n a r : ℕ) : Type 0 where
  pub from : a ≤ r
  pub none_before : (x : ℕ) → a ≤ x → x < r → is_shadowed (decode n x) ≡ false
  pub in_limit : r < limit
  pub shadowed : is_shadowed (decode n r) ≡ true

-- that number, and none where there is none
abbrev pub First : ℕ → ℕ → Option ℕ → Type 0
First n a (Some r) = IsFirst n a r
First n a None = (x : ℕ) → a ≤ x → x < limit → is_shadowed (decode n x) ≡ false

-- of the shadowed registers, which are total in all, so many have numbers below a
pub record Counted (n a below total : ℕ) : Type 0 where
  pub is_below : below ≡ length (picks (λ r. is_shadowed (decode n r)) 0 a)
  pub is_total : total ≡ length (picks (λ r. is_shadowed (decode n r)) 0 limit)
  pub few : a ≤ 65536

-- whether register r is one of the numbers below `end` and has k shadowed ones above it
abbrev pub left_by : ℕ → ℕ → ℕ → Option ℕ → Bool
left_by n k end (Some r) = ltb r end && leb k (shadowed_from n (suc r))
left_by n k end None = false
