-- Request (x), of every two lists of ticks of one length, from every two states that refusal 7 does not meet.
-- Assumes nothing.
use Prim.Native.Nat.{ℕ, zero, suc, ◌+◌, ◌-◌, ◌≤◌, ◌<◌}
use mathlib.Core.Path.{◌≡◌, sym, ap, ap₂, ◌∙◌, subst}
use mathlib.Core.Bool.{true, ◌&&◌}
use mathlib.Core.List.{List}
use native.Mathlib.Omega.{arith}
use lib.ListN.{length, get_or}
use Rattle.bits.specs.Bits.{bit}
use Rattle.class_rules.specs.Class.{drives}
use Rattle.class_rules.specs.declared.Class.{Class}
use Rattle.escalation.proofs.ListTicks
use Rattle.escalation.proofs.ListTicks.{input, at_valid, at_next}
use Rattle.escalation.specs.List.{IsTick, before, input_at, given_at, no_input, no_tick}
use Rattle.laws.proofs.Tick.InterruptBits.{interrupt_is}
use Rattle.laws.proofs.Valid.Refusal7.{ticked_good}
use Rattle.laws.proofs.Tick.Runs.{ticks_at}
use Rattle.laws.proofs.Valid.ValidLaws.{facts}
use Rattle.laws.specs.Block.{names_block}
use Rattle.rules.specs.Access.{setting_value, value}
use Rattle.rules.specs.Run.{run, ticks}
use Rattle.rules.specs.Stages.{setting_stage, stage_in}
use Rattle.rules.specs.State.{most, class_count}
use Rattle.rules.specs.Tick.{output_of, after, tick}
use Rattle.rules.specs.Valid.{valid}
use Rattle.rules.specs.declared.Handler.{Handler}
use Rattle.rules.specs.declared.Input.{Input}
use Rattle.isolation.specs.Isolation.{SameTick, Alike, AlikeEnable, SameClass, SameInterrupt, Isolation}
use Rattle.isolation.specs.OwnAccess.{changes_enable}
use Rattle.isolation.proofs.TickEqual.{Equal, equal_after, equal_answer, enable_same}

-- ── tick i of one run ──

module _ (h : Handler) (xs : List Input) (v : valid h ≡ true) where
  pub at_n : (i : ℕ) → (ListTicks.at h xs i).n ≤ most
  at_n i = (facts (ListTicks.at h xs i) (at_valid h xs v i)).n

  given : (i : ℕ) → i < length xs → get_or (ticks h xs) i no_tick ≡ tick (ListTicks.at h xs i) (input xs i)
  given i l = ticks_at h xs i no_input no_tick l ∙ ticked_good (ListTicks.at h xs i) (input xs i) (at_valid h xs v i)

-- what holds of each numbered tick holds by its index
pub by_index : (first : ℕ) (xs : List Input) (P : ℕ → Type 0) → ((t : ℕ) → IsTick first xs t → P (t - first)) → (i : ℕ) → i < length xs → P i
by_index first xs P p i l =
    let e : first + i - first ≡ i = omega arith in
    subst P e (p (first + i) (record { from = omega arith; to = omega arith }))

-- ── what equal content gives ──

same_class : (k : ℕ) (g : Handler) (x : Input) (f : Handler) (y : Input) → Equal k (after g x) (after f y) → SameClass k (tick g x) (tick f y)
unfolding tick value stage_in
same_class k g x f y q =
    record {
      content = q.class;
      registers = λ s. ap (setting_value s) q.class;
      stages = q.stages;
      staged = λ s. ap (setting_stage s) q.stages;
      lines = λ e. ap (λ (c : Class). drives c e) q.class;
      interrupt_bit = q.bit_k;
    }

same_interrupt : (k : ℕ) (g : Handler) (x : Input) (f : Handler) (y : Input) → k < class_count → Equal k (after g x) (after f y)
    → bit (after g x).interrupts.enable k ≡ bit (after f y).interrupts.enable k → SameInterrupt k (tick g x) (tick f y)
unfolding tick output_of
same_interrupt k g x f y l q e =
    record {
      enable_bit = e;
      interrupt = interrupt_is (after g x) k l ∙ ap₂ ◌&&◌ q.bit_k e ∙ sym (interrupt_is (after f y) k l);
    }

-- ── both runs, tick by tick ──

module _ (k first : ℕ) (h : Handler) (xs : List Input) (f : Handler) (ys : List Input)
    (l : k < class_count) (v : valid h ≡ true) (w : valid f ≡ true) (n : length xs ≡ length ys) (a : Alike k first h xs f ys) where
  below : (i : ℕ) → i < length xs → i < length ys
  below i m = omega arith

  alike_at : (i : ℕ) → i < length xs → SameTick k (ListTicks.at h xs i) (input xs i) (ListTicks.at f ys i) (input ys i)
  alike_at = by_index first xs (λ i. SameTick k (ListTicks.at h xs i) (input xs i) (ListTicks.at f ys i) (input ys i)) a.same_tick

  -- the states after i ticks
  pub equal_at : (i : ℕ) → i ≤ length xs → Equal k (ListTicks.at h xs i) (ListTicks.at f ys i)
  unfolding run
  equal_at zero m = record { class = a.same_class; stages = a.same_stages; bit_k = a.same_bit }
  equal_at (suc i) m = rw (at_next h xs v i m, at_next f ys w i (below i m)) (step i m (equal_at i (omega arith)))
    where
      step : (i : ℕ) → i < length xs → Equal k (ListTicks.at h xs i) (ListTicks.at f ys i) → Equal k (after (ListTicks.at h xs i) (input xs i)) (after (ListTicks.at f ys i) (input ys i))
      step i m q = equal_after k (ListTicks.at h xs i) (input xs i) (ListTicks.at f ys i) (input ys i) l (at_n f ys w i) q (alike_at i m)

  -- after tick i
  equal_next : (i : ℕ) → i < length xs → Equal k (after (ListTicks.at h xs i) (input xs i)) (after (ListTicks.at f ys i) (input ys i))
  equal_next i m = rw (at_next h xs v i m, at_next f ys w i (below i m)) at (equal_at (suc i) m)

  class : (t : ℕ) → IsTick first xs t → SameClass k (given_at first h xs t) (given_at first f ys t)
  class t m =
      let i : ℕ = t - first in
      let j : i < length xs = omega (arith, m.from, m.to) in
      rw (given h xs v i j, given f ys w i (below i j))
      (same_class k (ListTicks.at h xs i) (input xs i) (ListTicks.at f ys i) (input ys i) (equal_next i j))

  answer : (t : ℕ) → IsTick first xs t → names_block (before first h xs t) (input_at first xs t).access k ≡ true
      → (given_at first h xs t).answer ≡ (given_at first f ys t).answer
  unfolding tick
  answer t m e =
      let i : ℕ = t - first in
      let j : i < length xs = omega (arith, m.from, m.to) in
      rw (given h xs v i j, given f ys w i (below i j))
      (equal_answer k (ListTicks.at h xs i) (input xs i) (ListTicks.at f ys i) (input ys i) l (at_n f ys w i) (equal_at i (omega arith)) (alike_at i j) e)

  module _ (b : AlikeEnable k first h xs f ys) where
    change_at : (i : ℕ) → i < length xs → changes_enable (ListTicks.at h xs i) (input xs i).access k ≡ changes_enable (ListTicks.at f ys i) (input ys i).access k
    change_at =
        by_index first xs (λ i. changes_enable (ListTicks.at h xs i) (input xs i).access k ≡ changes_enable (ListTicks.at f ys i) (input ys i).access k) b.same_change

    enable_at : (i : ℕ) → i ≤ length xs → bit (ListTicks.at h xs i).interrupts.enable k ≡ bit (ListTicks.at f ys i).interrupts.enable k
    unfolding run
    enable_at zero m = b.same_enable
    enable_at (suc i) m =
        rw (at_next h xs v i m, at_next f ys w i (below i m))
        (enable_same k (ListTicks.at h xs i) (input xs i) (ListTicks.at f ys i) (input ys i) (enable_at i (omega arith)) (change_at i m))

    interrupt : (t : ℕ) → IsTick first xs t → SameInterrupt k (given_at first h xs t) (given_at first f ys t)
    interrupt t m =
        let i : ℕ = t - first in
        let j : i < length xs = omega (arith, m.from, m.to) in
        rw (given h xs v i j, given f ys w i (below i j))
        (same_interrupt k (ListTicks.at h xs i) (input xs i) (ListTicks.at f ys i) (input ys i) l (equal_next i j)
        (rw (at_next h xs v i j, at_next f ys w i (below i j)) at (enable_at (suc i) j)))

pub isolation : (k first : ℕ) (h : Handler) (xs : List Input) (f : Handler) (ys : List Input)
    → k < class_count → valid h ≡ true → valid f ≡ true → length xs ≡ length ys → Isolation k first h xs f ys
isolation k first h xs f ys l v w n =
    record { class = class k first h xs f ys l v w n; answer = answer k first h xs f ys l v w n; interrupt = interrupt k first h xs f ys l v w n }
