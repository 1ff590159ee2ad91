-- All wires at (0,1): no alert has an event, and none has equal wires.
-- Assumes nothing.
use Prim.Native.Nat.{ℕ, ◌<◌}
use mathlib.Core.Path.{◌≡◌, ap, ap₂, ◌∙◌}
use mathlib.Core.Bool.{Bool, false, and-false, not, ◌&&◌, ◌||◌}
use mathlib.Core.List.{List}
use lib.Dec.{ltb}
use Rattle.bits.specs.Index.{place_in}
use Rattle.link_rules.specs.Pair.{equal}
use Rattle.link_rules.specs.Receiver.{is_ready, takes, asked_for, received}
use Rattle.rules.specs.Samples.{positive, negative, alert_enabled, happened, alert_broken}
use Rattle.rules.specs.State.{most, receiver}
use Rattle.rules.specs.declared.Handler.{Handler}
use Rattle.rules.specs.declared.Wires.{Wires}
use Rattle.laws.specs.Quiet.{AtRest}

module _ (g : Handler) (asks : List ℕ) (w : Wires) (r : AtRest w) where
  -- the pair (0,1) is no rise
  none_taken : (i : ℕ) → i < most → takes (receiver g i).stands (positive w i) (negative w i) ≡ false
  none_taken i l =
      ap (λ (b : Bool). is_ready (receiver g i).stands && (b && not (negative w i))) (r.low i l) ∙ and-false (is_ready (receiver g i).stands)

  pub none_happened : (i : ℕ) → i < most → happened g asks w i ≡ false
  unfolding happened received asked_for
  none_happened i l =
      ap (λ (b : Bool). ltb i g.n && (b && not (place_in asks i || (receiver g i).pending))) (none_taken i l) ∙ and-false (ltb i g.n)

  pub none_broken : (i : ℕ) → i < most → alert_broken g w i ≡ false
  unfolding alert_broken
  none_broken i l =
      ap₂ (λ (b c : Bool). ltb i g.n && (equal b c && alert_enabled g i)) (r.low i l) (r.high i l) ∙ and-false (ltb i g.n)
