-- One tick of each of two runs: a class that is equal before and treated alike is equal after.
-- It rests on what crate laws says of one class in a tick: Content, StageContent and BlockAnswers, with Frame and InterruptBits.
-- Assumes nothing.
use Prim.Native.Nat.{ℕ, ◌≤◌, ◌<◌}
use mathlib.Core.Path.{◌≡◌, refl, sym, ap, ap₂, ◌∙◌}
use mathlib.Core.Bool.{Bool, true, false, false≢true, ◌||◌, xor}
use Rattle.bits.specs.Bits.{bit}
use Rattle.class_rules.specs.Step.{class_step}
use Rattle.laws.proofs.Tick.Content.{after_class, after_bit}
use Rattle.laws.proofs.Tick.Frame.{after_stages}
use Rattle.laws.proofs.Tick.InterruptBits.{after_enable}
use Rattle.laws.specs.Block.{names_block}
use Rattle.rules.specs.Access.{acted, answer_to, clears}
use Rattle.rules.specs.Stages.{class_stages}
use Rattle.rules.specs.State.{most, class_count, class_at}
use Rattle.rules.specs.Tick.{interrupt_now, signals, after, signals_in, event_in}
use Rattle.rules.specs.declared.Handler.{Handler}
use Rattle.rules.specs.declared.Input.{Input}
use Rattle.rules.specs.declared.Stages.{Stages}
use Rattle.isolation.specs.Isolation.{SameTick}
use Rattle.isolation.specs.OwnAccess.{changes_enable}
use Rattle.isolation.proofs.Own.{Both, both, same_acted, same_staged, same_clears, same_answer}

-- bits that were equal and changed alike are equal
pub changed : (p q a b : Bool) → p ≡ q → xor p a ≡ xor q b → a ≡ b
unfolding xor
changed true true true true d e = refl
changed true true true false d e = sym e
changed true true false true d e = sym e
changed true true false false d e = refl
changed true false a b d e = absurd (false≢true (sym d))
changed false true a b d e = absurd (false≢true d)
changed false false true true d e = refl
changed false false true false d e = e
changed false false false true d e = e
changed false false false false d e = refl

-- class k, its stages and its bit of INTR_STATE are equal in both states
pub record Equal (k : ℕ) (g f : Handler) : Type 0 where
  pub class : class_at g k ≡ class_at f k
  pub stages : class_stages g.stages k ≡ class_stages f.stages k
  pub bit_k : bit g.interrupts.state k ≡ bit f.interrupts.state k

-- steps 2 to 5 leave the stages
block_stages : (g : Handler) (x : Input) (k : ℕ) → class_stages (after g x).stages k ≡ class_stages (acted g x.access).stages k
block_stages g x k = ap (λ (s : Stages). class_stages s k) (after_stages g x)

module _ (k : ℕ) (g : Handler) (x : Input) (f : Handler) (y : Input) (l : k < class_count) (m : f.n ≤ most)
    (q : Equal k g f) (t : SameTick k g x f y) where
  ways : Both g f k x.access y.access
  ways = both g f k m x.access y.access t.same_access

  -- after step 1
  pub equal_read : Equal k (acted g x.access) (acted f y.access)
  equal_read =
      record {
        class = same_acted g f k l q.class q.stages x.access y.access ways;
        stages = same_staged g f k l q.class q.stages x.access y.access ways;
        bit_k = changed _ _ _ _ q.bit_k t.same_change;
      }

  -- what the class meets in steps 3 and 4
  pub equal_met : signals_in g x k ≡ signals_in f y k
  unfolding signals interrupt_now clears
  equal_met =
      ap₂ (λ (b e : Bool). record { event = e; interrupt = b || e; clear = clears g x.access k }) equal_read.bit_k t.same_event
      ∙ ap (λ (c : Bool). record { event = event_in f y k; interrupt = bit (acted f y.access).interrupts.state k || event_in f y k; clear = c })
      (same_clears g f k l q.class q.stages x.access y.access ways)

  pub equal_after : Equal k (after g x) (after f y)
  equal_after =
      record {
        class = after_class g x k l ∙ ap₂ class_step equal_met equal_read.class ∙ sym (after_class f y k l);
        stages = block_stages g x k ∙ equal_read.stages ∙ sym (block_stages f y k);
        bit_k = after_bit g x k l ∙ ap₂ ◌||◌ equal_read.bit_k t.same_event ∙ sym (after_bit f y k l);
      }

  pub equal_answer : names_block g x.access k ≡ true → answer_to g x.access ≡ answer_to f y.access
  equal_answer n = same_answer g f k l q.class q.stages x.access y.access ways n

-- INTR_ENABLE: only software changes it
pub enable_same : (k : ℕ) (g : Handler) (x : Input) (f : Handler) (y : Input) → bit g.interrupts.enable k ≡ bit f.interrupts.enable k
    → changes_enable g x.access k ≡ changes_enable f y.access k → bit (after g x).interrupts.enable k ≡ bit (after f y).interrupts.enable k
enable_same k g x f y q e = rw (after_enable g x, after_enable f y) (changed _ _ _ _ q e)
