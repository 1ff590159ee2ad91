-- The rules of the links satisfy the sentences.
-- Assumes nothing.
use Prim.Native.Nat.{◌≤◌}
use mathlib.Core.Path.{◌≡◌, refl, ap}
use mathlib.Core.Logic.{◌↔◌}
use mathlib.Core.Bool.{Bool, true, false}
use native.Mathlib.Omega.{arith}
use Rattle.bits.specs.Bits.{num}
use Rattle.rules.specs.Samples.{heard}
use Rattle.rules.specs.Tick.{links_after}
use Rattle.sentences.specs.Links.{LinkStep}
use Rattle.sentences.proofs.HoldsLinePings.{right_is}
use Rattle.sentences.proofs.HoldsReceivers.{holds_receivers}
use Rattle.sentences.proofs.HoldsSenders.{linked, holds_senders}
use Rattle.sentences.proofs.HoldsTimer.{holds_timer}
use Rattle.sentences.proofs.SentenceCases.{then}

-- a bit as a number
num_is : (b : Bool) → (num b ≡ 1) ↔ (b ≡ true)
num_is true = (λ _. refl, λ _. refl)
num_is false = (λ e. absurd (omega (arith, e)), λ e. ap num e)

num_up_to_1 : (b : Bool) → num b ≤ 1
num_up_to_1 true = omega arith
num_up_to_1 false = omega arith

pub holds_links : LinkStep linked
unfolding links_after
holds_links g s f lit m v =
    record {
      receivers = holds_receivers g s f lit m v.n v.ping_timeout;
      timer_turn = holds_timer g s f lit m v.n v.ping_timeout;
      senders = holds_senders g s f lit m;
      right = then (num_is (heard g s f).right) (right_is g s f);
      right_bit = num_up_to_1 (heard g s f).right;
      n = refl;
      classes = refl;
      alerts = refl;
      locals = refl;
      interrupts = refl;
      timer = refl;
      stages = refl;
    }
