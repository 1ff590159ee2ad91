-- Request (xiv): what a dump shows of a state.
-- Assumes nothing.
use Rattle.std.specs.Prelude.{ℕ, zero, suc, ◌+◌, ◌-◌, ◌*◌, ◌^◌, ◌≤◌, ◌<◌, ◌≡◌, Bool, true, false, cond, ◌&&◌, List, [], ◌∷◌, map, eqb, length}
use Rattle.bits.specs.Bits.{fits}
use Rattle.bits.specs.Index.{each}
use Rattle.class_rules.specs.Class.{state_of, state_fits, count_fits}
use Rattle.formats.specs.Format.{All}
use Rattle.rules.specs.Access.{value}
use Rattle.rules.specs.Map.{class_base, decode, bits, is_lock, is_shadowed}
use Rattle.rules.specs.Stages.{stage, is_open}
use Rattle.rules.specs.State.{most, class_count, field_index, class_at}
use Rattle.rules.specs.declared.Field.{Field}
use Rattle.rules.specs.declared.Handler.{Handler}
use Rattle.rules.specs.declared.Register.{Register}
use Rattle.rules.specs.declared.Register.TheVariants.{Only, Local, Alert, Block, Unassigned}

-- ── the content ──

pub record ShownClass : Type 0 where
  pub state : ℕ
  pub count : ℕ
  pub accum : ℕ

pub record ShownStage : Type 0 where
  pub register : ℕ
  pub value : ℕ

pub record Shown : Type 0 where
  pub n : ℕ
  pub classes : List ShownClass
  pub causes : List ℕ
  pub locks : List ℕ
  pub stages : List ShownStage

-- ── registers, numbers rising ──

-- those of the m numbers from a on that have p
unfoldable pub picks : (ℕ → Bool) → ℕ → ℕ → List ℕ
picks p a zero = []
picks p a (suc m) = cond (p a) (a ∷ picks p (suc a) m) (picks p (suc a) m)

-- no register has this number or one above it
abbrev pub limit : ℕ
limit = class_base + 16 * class_count

abbrev pub is_cause : Register → Bool
is_cause (Only o) = false
is_cause (Local f j) = eqb (field_index f) (field_index Field.Cause)
is_cause (Alert f i) = eqb (field_index f) (field_index Field.Cause)
is_cause (Block s k) = false
is_cause Unassigned = false

-- the register numbers of a handler of n alerts that have p
abbrev pub numbers_with : (Register → Bool) → ℕ → List ℕ
numbers_with p n = picks (λ r. p (decode n r)) 0 limit

-- ── what a state holds of it: a lock's bit is 1 for locked ──

unfoldable pub shown : Handler → Shown
shown h =
    record {
      n = h.n;
      classes = each class_count (λ k. record { state = (class_at h k).state; count = (class_at h k).count; accum = (class_at h k).accum });
      causes = map (λ r. value h (decode h.n r)) (numbers_with is_cause h.n);
      locks = map (λ r. 1 - value h (decode h.n r)) (numbers_with is_lock h.n);
      stages = map (λ r. record { register = r; value = stage h (decode h.n r) - 1 }) (numbers_with (is_open h.stages) h.n);
    }

-- ── contents that a state which 7 accepts can hold ──

abbrev pub class_shows : ShownClass → Bool
class_shows c = state_fits c.state && (count_fits (state_of c.state) c.count && (fits 32 c.count && fits 16 c.accum))

-- stages of shadowed registers from a number on, numbers rising, each value in its field
abbrev pub RiseFrom : ℕ → ℕ → List ShownStage → Type 0
RiseFrom n from [] = Unit {0}
RiseFrom n from (s ∷ ss) =
    (from ≤ s.register)
    × (is_shadowed (decode n s.register) ≡ true)
    × (s.value < 2 ^ bits (decode n s.register))
    × RiseFrom n (suc s.register) ss

pub record WellShown (s : Shown) : Type 0 where
  pub alerts : s.n ≤ most
  pub four : length s.classes ≡ class_count
  pub each_class : All (λ c. class_shows c ≡ true) s.classes
  pub all_causes : length s.causes ≡ length (numbers_with is_cause s.n)
  pub cause_bits : All (λ b. b < 2) s.causes
  pub all_locks : length s.locks ≡ length (numbers_with is_lock s.n)
  pub lock_bits : All (λ b. b < 2) s.locks
  pub rising : RiseFrom s.n 0 s.stages
