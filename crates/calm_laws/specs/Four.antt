-- Request (xii): the four classes over calm ticks, the ticks at which a line changed, and the senders of the lines with them.
-- Assumes nothing.
use Rattle.std.specs.Prelude.{ℕ, zero, suc, ◌+◌, ◌≤◌, ◌<◌, ◌≡◌, false, List, [], ◌++◌, get_or, length}
use Rattle.bits.specs.Bits.{bit}
use Rattle.bits.specs.Index.{each}
use Rattle.class_rules.specs.Class.{no_class}
use Rattle.class_rules.specs.Step.{class_step}
use Rattle.class_rules.specs.declared.Class.{Class}
use Rattle.class_rules.specs.declared.Signals.{Signals}
use Rattle.laws.specs.OutputMasks.{lines_on}
use Rattle.link_rules.specs.Senders.{sent_all}
use Rattle.link_rules.specs.declared.Senders.{Senders}
use Rattle.calm_rules.specs.Ticks.{change}
use Rattle.calm_laws.specs.Stand.{least, stands, jumped, Fits}
use Rattle.calm_laws.specs.Rank.{changes_left, moves_left}
use Rattle.calm_laws.specs.Steady.{steady}

abbrev pub class_of : List Class → ℕ → Class
class_of cs k = get_or cs k no_class

-- what class k meets in each calm tick, by masks with a bit for each class: no access, so no clear
unfoldable pub met : ℕ → ℕ → ℕ → Signals
met events interrupts k = record { event = bit events k; interrupt = bit interrupts k; clear = false }

-- ── the plain ticks ──

-- steps 3 and 4
unfoldable pub four_step : (ℕ → Signals) → List Class → List Class
four_step s cs = each 4 (λ k. class_step (s k) (class_of cs k))

-- the classes after n ticks
unfoldable pub after : (ℕ → Signals) → ℕ → List Class → List Class
after s zero cs = cs
after s (suc n) cs = four_step s (after s n cs)

-- "every tick at which a line changed, in order", of n ticks that follow tick `from`
unfoldable pub changes : (ℕ → Signals) → ℕ → ℕ → List Class → List ℕ
changes s from zero cs = []
changes s from (suc n) cs = changes s from n cs ++ change (lines_on (after s n cs)) (lines_on (after s (suc n) cs)) (from + suc n)

-- the senders after n ticks: they go by the lines of each tick, and no ping opens
unfoldable pub senders_after : (ℕ → Signals) → ℕ → List Class → Senders → Senders
senders_after s zero cs ss = ss
senders_after s (suc n) cs ss = sent_all (senders_after s n cs ss) (steady (lines_on (after s (suc n) cs)))

-- ── by arithmetic ──

-- no class moves so long
unfoldable pub four_stands : (ℕ → Signals) → List Class → ℕ
four_stands s cs =
    least (stands (s 0) (class_of cs 0))
    (least (stands (s 1) (class_of cs 1)) (least (stands (s 2) (class_of cs 2)) (stands (s 3) (class_of cs 3))))

unfoldable pub four_jump : (ℕ → Signals) → ℕ → List Class → List Class
four_jump s n cs = each 4 (λ k. jumped (s k) n (class_of cs k))

-- ── how many words, and how many rounds ──

abbrev pub four_of : (ℕ → ℕ) → ℕ
four_of f = f 0 + (f 1 + (f 2 + f 3))

unfoldable pub changes_in : List Class → ℕ
changes_in cs = four_of (λ k. changes_left (class_of cs k))

unfoldable pub moves_in : (ℕ → Signals) → List Class → ℕ
moves_in s cs = four_of (λ k. moves_left (s k) (class_of cs k))

-- four classes, each as the opposite of refusal 7 has it
pub record FourFit (cs : List Class) : Type 0 where
  pub four : length cs ≡ 4
  pub all : (k : ℕ) → k < 4 → Fits (class_of cs k)

-- ── the engine on its way ──

-- n ticks after tick `from` have led from cs and ss to ds and ts; the words of their changes follow those before them, and with those that can
-- still come they are at most `most`
pub record Running (s : ℕ → Signals) (cs : List Class) (ss : Senders) (from most : ℕ) (old : List ℕ) (n : ℕ) (ds : List Class) (ts : Senders) (left : List ℕ) : Type 0 where
  pub classes : ds ≡ after s n cs
  pub senders : ts ≡ senders_after s n cs ss
  pub words : left ≡ old ++ changes s from n cs
  pub room : length left + changes_in ds ≤ most
