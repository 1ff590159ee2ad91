-- A tick in which all rests.
-- Assumes nothing.
use Prim.Native.Nat.{ℕ, ◌<◌}
use mathlib.Core.Path.{◌≡◌, sym, ap, ◌∙◌}
use mathlib.Core.Bool.{Bool, true, false, or-false, ◌&&◌, ◌||◌}
use mathlib.Core.List.{List}
use native.Mathlib.Omega.{arith}
use lib.ListN.{length, get_or}
use Rattle.bits.specs.Bits.{bit}
use Rattle.bits.specs.Index.{any_to}
use Rattle.bits.proofs.BitLaws.{bit_none, is_bits_of}
use Rattle.bits.proofs.IndexLaws.{all_at, any_none, is_each}
use Rattle.class.specs.Still.{only, still}
use Rattle.class.proofs.StillClasses.{still_step, still_lines}
use Rattle.class_rules.specs.Class.{enabled, drives, no_class}
use Rattle.class_rules.specs.Step.{class_step}
use Rattle.class_rules.specs.declared.Class.{Class}
use Rattle.class_rules.specs.declared.Signals.{Signals}
use Rattle.link_rules.specs.Senders.{sent_all}
use Rattle.link_rules.specs.declared.Senders.{Senders}
use Rattle.rules.specs.State.{class_count}
use Rattle.rules.specs.declared.Interrupts.{Interrupts}
use Rattle.rules.specs.declared.Timer.{Timer}
use Rattle.samples.specs.Rest.{waited, driven}
use Rattle.handler.specs.Classes.{interrupt_by, met_by, classes_by, interrupts_by}
use Rattle.laws.specs.OutputMasks.{interrupts_on, lines_on}
use Rattle.handler.specs.MovingTick.{moving_by}
use Rattle.handler.specs.declared.moving.Moving.TheVariants.{Moves}
use Rattle.handler.specs.RestTick.{all_still}

-- ── the classes: nothing is assigned, and none is cleared ──

module _ (cs : List Class) (state : ℕ) (all : all_still cs state ≡ true) (four : length cs ≡ class_count) where
  abbrev class : ℕ → Class
  class k = get_or cs k no_class

  no_event : (k : ℕ) → (bit 0 k && enabled (class k)) ≡ false
  no_event k = ap (λ (b : Bool). b && enabled (class k)) (bit_none k)

  met_is : (k : ℕ) → met_by (class k) k state 0 0 ≡ only (bit state k)
  unfolding met_by interrupt_by
  met_is k = λ t. record { event = no_event k t; interrupt = (ap (λ (b : Bool). bit state k || b) (no_event k) ∙ or-false (bit state k)) t; clear = bit_none k t }

  stays : (k : ℕ) → k < class_count → still (class k) (bit state k) ≡ true
  stays k l = all_at (λ k. still (class k) (bit state k)) class_count all k l

  pub classes_stay : classes_by cs state 0 0 ≡ cs
  unfolding classes_by
  classes_stay =
      sym (is_each class_count cs (λ k. class_step (met_by (class k) k state 0 0) (class k)) no_class four
      (λ k l. sym (ap (λ (s : Signals). class_step s (class k)) (met_is k) ∙ still_step (class k) (bit state k) (stays k l))))

  pub interrupts_stay : state < 16 → interrupts_by cs state 0 ≡ state
  unfolding interrupts_by interrupt_by
  interrupts_stay small =
      sym (is_bits_of 4 state (λ k. bit state k || (bit 0 k && enabled (class k))) (omega arith)
      (λ k l. sym (ap (λ (b : Bool). bit state k || b) (no_event k) ∙ or-false (bit state k))))

  pub no_lines : lines_on cs ≡ 0
  unfolding lines_on
  no_lines =
      sym (is_bits_of 4 0 (λ e. any_to (λ k. drives (class k) e) class_count) (omega arith)
      (λ e l. bit_none e ∙ sym (any_none (λ k. drives (class k) e) class_count (λ k h. still_lines (class k) (bit state k) (stays k h) e))))

-- ── the tick ──

-- senders and classes that stay, and no line on
pub staying : (c : Timer) (count : ℕ) (senders : Senders) (cs : List Class) (x : Interrupts) (t i : ℕ) → length cs ≡ class_count
    → all_still cs x.state ≡ true → x.state < 16 → sent_all senders (driven 0) ≡ senders → t ≡ waited c count → i ≡ interrupts_on x.state x.enable
    → moving_by c count senders cs x ≡ Moves t senders (record { classes = cs; state = x.state; interrupts = i; lines = 0 })
staying c count senders cs x t i four all z s et ei =
    (λ u. Moves (waited c count) ((ap (λ (o : ℕ). sent_all senders (driven o)) lines ∙ s) u)
    (record { classes = classes_stay cs x.state all four u; state = state u; interrupts = interrupts_on (state u) x.enable; lines = lines u }))
    ∙ sym (λ u. Moves (et u) senders (record { classes = cs; state = x.state; interrupts = ei u; lines = 0 }))
  where
    lines : lines_on (classes_by cs x.state 0 0) ≡ 0
    lines = ap lines_on (classes_stay cs x.state all four) ∙ no_lines cs x.state all four

    state : interrupts_by cs x.state 0 ≡ x.state
    state = interrupts_stay cs x.state all four z
