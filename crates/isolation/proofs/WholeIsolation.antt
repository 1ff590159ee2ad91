-- The whole of request (x) once more, taken from the theorem over every class, number, state and list, and said of lists that are computed of each run
-- by itself. A claim that says less, or asks for more (fewer classes, shorter lists, fewer alerts, the last tick left out), does not give it.
-- Assumes nothing.
use Prim.Native.Nat.{ℕ, suc, ◌+◌, ◌≤◌, ◌<◌}
use mathlib.Core.Path.{◌≡◌, refl, sym, ap, ap₂, ◌∙◌}
use mathlib.Core.Bool.{Bool, true, cond, xor}
use mathlib.Core.List.{List, [], ◌∷◌}
use native.Mathlib.Omega.{arith}
use lib.ListN.{get_or, length}
use Rattle.bits.specs.Bits.{bit}
use Rattle.class_rules.specs.Class.{drives}
use Rattle.class_rules.specs.declared.Class.{Class}
use Rattle.escalation.proofs.ListTicks
use Rattle.escalation.proofs.ListTicks.{input}
use Rattle.escalation.specs.List.{IsTick, before, input_at, given_at, no_input, no_tick}
use Rattle.laws.proofs.Tick.Runs.{ticks_at}
use Rattle.laws.specs.Block.{of_block}
use Rattle.rules.specs.Access.{value, named, acted}
use Rattle.rules.specs.Run.{run, ticks}
use Rattle.rules.specs.Stages.{class_stages, stage}
use Rattle.rules.specs.State.{class_at}
use Rattle.rules.specs.Tick.{ticked, event_in}
use Rattle.rules.specs.Valid.{valid}
use Rattle.rules.specs.declared.Access.{Access}
use Rattle.rules.specs.declared.ClassStages.{ClassStages}
use Rattle.rules.specs.declared.Handler.{Handler}
use Rattle.rules.specs.declared.Input.{Input}
use Rattle.rules.specs.declared.Register.TheVariants.{Block}
use Rattle.rules.specs.declared.Setting.{Setting}
use Rattle.rules.specs.declared.Ticked.{Ticked}
use Rattle.isolation.specs.Isolation.{Alike, SameClass}
use Rattle.isolation.proofs.Isolated.{isolation, by_index}
use Rattle.isolation.proofs.Traces.{Got, along, alike_by, enable_by}

-- ── what class k gets in a tick, in the rules' own words ──

abbrev pub gotten : ℕ → Handler → Input → Got
gotten k g x =
    record {
      has_event = event_in g x k;
      access = cond (of_block k (named g x.access)) x.access Access.Nothing;
      change = xor (bit g.interrupts.state k) (bit (acted g x.access).interrupts.state k);
    }

-- ── what it shows after a tick: all that it holds, its stages, the four lines and its interrupt bit ──

pub record Shown : Type 0 where
  pub class : Class
  pub stages : ClassStages
  pub lines : List Bool
  pub bit_k : Bool

abbrev pub shown : ℕ → Ticked → Shown
shown k o =
    let c = class_at o.handler k in
    record {
      class = c;
      stages = class_stages o.handler.stages k;
      lines = drives c 0 ∷ drives c 1 ∷ drives c 2 ∷ drives c 3 ∷ [];
      bit_k = bit o.handler.interrupts.state k;
    }

-- the same of both, from the claim's own parts
pub shown_same : (k : ℕ) (o p : Ticked) → SameClass k o p → shown k o ≡ shown k p
shown_same k o p s =
    ap (λ (ls : List Bool). record { class = class_at o.handler k; stages = class_stages o.handler.stages k; lines = ls; bit_k = bit o.handler.interrupts.state k })
    (ap₂ (λ (a b : Bool). a ∷ b ∷ drives (class_at o.handler k) 2 ∷ drives (class_at o.handler k) 3 ∷ []) (s.lines 0) (s.lines 1)
    ∙ ap₂ (λ (a b : Bool). drives (class_at p.handler k) 0 ∷ drives (class_at p.handler k) 1 ∷ a ∷ b ∷ []) (s.lines 2) (s.lines 3))
    ∙ ap (λ (c : Class). record { class = c; stages = class_stages o.handler.stages k; lines = driven p; bit_k = bit o.handler.interrupts.state k }) s.content
    ∙ ap₂ (λ (b : ClassStages) (i : Bool). record { class = class_at p.handler k; stages = b; lines = driven p; bit_k = i }) s.stages s.interrupt_bit
  where
    driven : Ticked → List Bool
    driven q = drives (class_at q.handler k) 0 ∷ drives (class_at q.handler k) 1 ∷ drives (class_at q.handler k) 2 ∷ drives (class_at q.handler k) 3 ∷ []

-- ── lists that are equal in each tick are equal ──

pub along_ext : {A : Type 0} (view : Handler → Input → A) (h : Handler) (xs : List Input) (f : Handler) (ys : List Input) → length xs ≡ length ys
    → ((i : ℕ) → i < length xs → view (ListTicks.at h xs i) (input xs i) ≡ view (ListTicks.at f ys i) (input ys i)) → along view h xs ≡ along view f ys
unfolding along run
along_ext view h [] f [] n e = refl
along_ext view h [] f (y ∷ ys) n e = absurd (omega (arith, n))
along_ext view h (x ∷ xs) f [] n e = absurd (omega (arith, n))
along_ext view h (x ∷ xs) f (y ∷ ys) n e =
    ap₂ ◌∷◌ (e 0 (omega arith)) (along_ext view (ticked h x).handler xs (ticked f y).handler ys (omega (arith, n)) (λ i l. e (suc i) (omega arith)))

-- ── request (x) ──

module _ (k first : ℕ) (h : Handler) (xs : List Input) (f : Handler) (ys : List Input) (l : k < 4) (v : valid h ≡ true) (w : valid f ≡ true)
    (n : length xs ≡ length ys) (got_same : along (gotten k) h xs ≡ along (gotten k) f ys)
    (class_same : class_at h k ≡ class_at f k) (stages_same : class_stages h.stages k ≡ class_stages f.stages k)
    (bit_same : bit h.interrupts.state k ≡ bit f.interrupts.state k) where
  alike : Alike k first h xs f ys
  alike = alike_by k first h xs f ys got_same class_same stages_same bit_same

  -- what is equal in each numbered tick is equal along both lists
  in_each : {A : Type 0} (view : Ticked → A) → ((t : ℕ) → IsTick first xs t → view (given_at first h xs t) ≡ view (given_at first f ys t))
      → along (λ g x. view (ticked g x)) h xs ≡ along (λ g x. view (ticked g x)) f ys
  in_each view e =
      along_ext (λ g x. view (ticked g x)) h xs f ys n
      (λ i m. ap view (sym (ticks_at h xs i no_input no_tick m))
      ∙ by_index first xs (λ i. view (get_or (ticks h xs) i no_tick) ≡ view (get_or (ticks f ys) i no_tick)) e i m
      ∙ ap view (ticks_at f ys i no_input no_tick (omega (arith, n))))

  -- "Its state, accumulator, count, own registers and the lines it drives itself are then equal in every tick", its stages and interrupt bit too
  pub every_tick : along (λ g x. shown k (ticked g x)) h xs ≡ along (λ g x. shown k (ticked g x)) f ys
  every_tick =
      in_each (shown k) (λ t m. shown_same k (given_at first h xs t) (given_at first f ys t) ((isolation k first h xs f ys l v w n).class alike t m))

  -- and of each tick: every register of its block, the stage of each, and every line
  pub every_register : (t : ℕ) → first ≤ t → t < first + length xs → (s : Setting)
      → (value (given_at first h xs t).handler (Block s k) ≡ value (given_at first f ys t).handler (Block s k))
      × (stage (given_at first h xs t).handler (Block s k) ≡ stage (given_at first f ys t).handler (Block s k))
  every_register t a b s = let c = (isolation k first h xs f ys l v w n).class alike t (record { from = a; to = b }) in (c.registers s, c.staged s)

  pub every_line : (t e : ℕ) → first ≤ t → t < first + length xs
      → drives (class_at (given_at first h xs t).handler k) e ≡ drives (class_at (given_at first f ys t).handler k) e
  every_line t e a b = ((isolation k first h xs f ys l v w n).class alike t (record { from = a; to = b })).lines e

  -- the answers to accesses of its own block
  pub every_answer : (t : ℕ) → first ≤ t → t < first + length xs → of_block k (named (before first h xs t) (input_at first xs t).access) ≡ true
      → (given_at first h xs t).answer ≡ (given_at first f ys t).answer
  every_answer t a b = (isolation k first h xs f ys l v w n).answer alike t (record { from = a; to = b })

  -- its interrupt, where its bit of INTR_ENABLE and the changes of that by software are the same
  module _ (changes_same : along (λ g x. xor (bit g.interrupts.enable k) (bit (acted g x.access).interrupts.enable k)) h xs
      ≡ along (λ g x. xor (bit g.interrupts.enable k) (bit (acted g x.access).interrupts.enable k)) f ys)
      (enable_same : bit h.interrupts.enable k ≡ bit f.interrupts.enable k) where
    pub every_interrupt : along (λ g x. bit (ticked g x).output.interrupts k) h xs ≡ along (λ g x. bit (ticked g x).output.interrupts k) f ys
    every_interrupt =
        in_each (λ o. bit o.output.interrupts k)
        (λ t m. ((isolation k first h xs f ys l v w n).interrupt alike (enable_by k first h xs f ys changes_same enable_same) t m).interrupt)

    pub every_enable : along (λ g x. bit (ticked g x).handler.interrupts.enable k) h xs ≡ along (λ g x. bit (ticked g x).handler.interrupts.enable k) f ys
    every_enable =
        in_each (λ o. bit o.handler.interrupts.enable k)
        (λ t m. ((isolation k first h xs f ys l v w n).interrupt alike (enable_by k first h xs f ys changes_same enable_same) t m).enable_bit)
