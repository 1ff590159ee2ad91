-- Steps 2 to 4 of a tick leave every register that does not move by itself.
-- Assumes nothing.
use Prim.Native.Nat.{ℕ, ◌≤◌, ◌<◌}
use mathlib.Core.Path.{◌≡◌, refl, ap, ◌∙◌}
use mathlib.Core.Logic.{◌⊎◌, inl, inr}
use mathlib.Core.Bool.{Bool, true, false, true≢false, cond, ◌&&◌}
use borrow.Author.Tests.{ltb-true}
use lib.Dec.{ltb}
use Rattle.bits.proofs.IndexLaws.{and-true, at_each}
use Rattle.class_rules.specs.Class.{lock, no_class}
use Rattle.class_rules.specs.Step.{starts, class_step}
use Rattle.class_rules.specs.declared.Class.{Class}
use Rattle.class_rules.specs.declared.Signals.{Signals}
use Rattle.rules.specs.Access.{setting_value, value, acted, effects}
use Rattle.rules.specs.Map.{setting_row}
use Rattle.rules.specs.Samples.{sampled}
use Rattle.rules.specs.Stages.{stage_in, stage}
use Rattle.rules.specs.State.{most, class_count, class_at, with_links}
use Rattle.rules.specs.Tick.{hears, signals, lines, links_after, reached, stepped, after}
use Rattle.rules.specs.declared.Effects.{Effects}
use Rattle.rules.specs.declared.Handler.{Handler}
use Rattle.rules.specs.declared.Heard.{Heard}
use Rattle.rules.specs.declared.Input.{Input}
use Rattle.rules.specs.declared.Links.{Links}
use Rattle.rules.specs.declared.Register.{Register}
use Rattle.rules.specs.declared.Register.TheVariants.{Only, Local, Alert, Block}
use Rattle.rules.specs.declared.Setting.{Setting}
use Rattle.rules.specs.declared.Setting.TheVariants.{ClrRegwen}
use Rattle.rules.specs.declared.Stages.{Stages}
use Rattle.laws.specs.InMap.{in_map, setting_exists}
use Rattle.laws.specs.Frame.{moves_itself}
use Rattle.laws.specs.RegisterFile.{commits}
use Rattle.laws.specs.StageFile.{names}
use Rattle.laws.proofs.Map.Cases.{by_kind, by_single, by_field, by_setting}
use Rattle.laws.proofs.Access.RegisterFile.{acted_other, acted_n}
use Rattle.laws.proofs.Stages.StageFile.{stage_other}
use Rattle.laws.proofs.State.StateLaws.{single_same}

-- it is said not to move, and does
moving : {A : Type 0} → true ≡ false → A
moving e = absurd (true≢false e)

-- a class's step leaves its settings
setting_frame : (s : Setting) (x : Signals) (c : Class) → (setting_row s).moves ≡ false → setting_value s (class_step x c) ≡ setting_value s c
unfolding class_step
setting_frame s x c =
    by_setting (λ s. (setting_row s).moves ≡ false → setting_value s (class_step x c) ≡ setting_value s c) (λ e. refl) (λ e. refl) moving (λ e. refl)
    moving (λ e. refl) (λ e. refl) (λ p e. refl) moving moving s

module _ (g : Handler) (v : Heard) (fx : Effects) where
  -- N stays
  pub stepped_n : (stepped g v fx).n ≡ g.n
  unfolding stepped sampled
  stepped_n = refl

  -- no stage is touched
  pub stepped_stages : (stepped g v fx).stages ≡ g.stages
  unfolding stepped sampled
  stepped_stages = refl

  -- class k after steps 2 to 4
  pub stepped_class : (k : ℕ) → k < class_count → class_at (stepped g v fx) k ≡ class_step (signals g v fx k) (class_at g k)
  unfolding stepped
  stepped_class k l = at_each class_count (λ k. class_step (signals g v fx k) (class_at g k)) k no_class l

  -- no link is touched
  pub stepped_links : (stepped g v fx).links ≡ g.links
  unfolding stepped sampled
  stepped_links = refl

  -- nor a register of the ping timer
  pub stepped_timer : (stepped g v fx).timer ≡ g.timer
  unfolding stepped sampled
  stepped_timer = refl

  -- what does not move by itself stays
  pub stepped_frame : (q : Register) → in_map g.n q ≡ true → moves_itself q ≡ false → value (stepped g v fx) q ≡ value g q
  unfolding stepped sampled value
  stepped_frame =
      by_kind P (by_single (λ o. P (Only o)) (λ a. moving) (λ a e. refl) (λ a e. refl) (λ a e. refl) (λ a e. refl) (λ a e. refl))
      (λ f j. by_field (λ f. P (Local f j)) (λ a e. refl) (λ a e. refl) (λ a e. refl) (λ a. moving) f)
      (λ f i. by_field (λ f. P (Alert f i)) (λ a e. refl) (λ a e. refl) (λ a e. refl) (λ a. moving) f) block (λ a e. refl)
    where
      P : Register → Type 0
      P q = in_map g.n q ≡ true → moves_itself q ≡ false → value (stepped g v fx) q ≡ value g q

      block : (s : Setting) (k : ℕ) → P (Block s k)
      block s k a e =
          let l : k < class_count = ltb-true k class_count (and-true (ltb k class_count) (setting_exists s) a).0 in
          ap (setting_value s) (stepped_class k l) ∙ setting_frame s (signals g v fx k) (class_at g k) e

  -- CLR_REGWEN becomes 0 where the class's escalation starts with LOCK set, and else stays
  pub stepped_clrwen : (k : ℕ) → k < class_count
      → value (stepped g v fx) (Block ClrRegwen k)
      ≡ cond (starts (signals g v fx k) (class_at g k) && lock (class_at g k)) 0 (value g (Block ClrRegwen k))
  unfolding value class_step
  stepped_clrwen k l = ap (λ (c : Class). c.clrwen) (stepped_class k l)

  -- so it stays or becomes 0
  pub clrwen_falls : (k : ℕ) → k < class_count
      → (value (stepped g v fx) (Block ClrRegwen k) ≡ value g (Block ClrRegwen k)) ⊎ (value (stepped g v fx) (Block ClrRegwen k) ≡ 0)
  clrwen_falls k l = go (starts (signals g v fx k) (class_at g k) && lock (class_at g k)) (stepped_clrwen k l)
    where
      go : (b : Bool) → value (stepped g v fx) (Block ClrRegwen k) ≡ cond b 0 (value g (Block ClrRegwen k))
          → (value (stepped g v fx) (Block ClrRegwen k) ≡ value g (Block ClrRegwen k)) ⊎ (value (stepped g v fx) (Block ClrRegwen k) ≡ 0)
      go true e = inr e
      go false e = inl e

-- ── the tick: the links are no register ──

linked_value : (l : Links) (g : Handler) (q : Register) → value (with_links l g) q ≡ value g q
unfolding value
linked_value l g = by_kind (λ q. value (with_links l g) q ≡ value g q) (λ o. single_same (with_links l g) g refl refl o) (λ f j. refl) (λ f i. refl) (λ s k. refl) refl

-- a register after a tick
pub after_value : (h : Handler) (x : Input) (q : Register)
    → value (after h x) q ≡ value (stepped (acted h x.access) (hears h x) (effects h x.access)) q
unfolding after
after_value h x =
    linked_value (links_after (acted h x.access) (hears h x) (lines (reached h x))) (reached h x)

-- one that does not move by itself is what the access left
pub after_still : (h : Handler) (x : Input) (q : Register) → in_map h.n q ≡ true → moves_itself q ≡ false
    → value (after h x) q ≡ value (acted h x.access) q
after_still h x q a e =
    after_value h x q
    ∙ stepped_frame (acted h x.access) (hears h x) (effects h x.access) q (ap (λ (n : ℕ). in_map n q) (acted_n h x.access) ∙ a) e

-- N stays in a tick
pub after_n : (h : Handler) (x : Input) → (after h x).n ≡ h.n
unfolding after
after_n h x = stepped_n (acted h x.access) (hears h x) (effects h x.access) ∙ acted_n h x.access

-- only step 1 changes the ping timer's registers
pub after_timer : (h : Handler) (x : Input) → (after h x).timer ≡ (acted h x.access).timer
unfolding after
after_timer h x = stepped_timer (acted h x.access) (hears h x) (effects h x.access)

-- the stages are what the access left, and so changed only by an access that names the register
pub after_stages : (h : Handler) (x : Input) → (after h x).stages ≡ (acted h x.access).stages
unfolding after
after_stages h x = stepped_stages (acted h x.access) (hears h x) (effects h x.access)

pub after_stage : (h : Handler) (x : Input) (q : Register) → stage (after h x) q ≡ stage (acted h x.access) q
after_stage h x q = ap (λ (s : Stages). stage_in s q) (after_stages h x)

pub after_stage_other : (h : Handler) (x : Input) (q : Register) → h.n ≤ most → in_map most q ≡ true → names h x.access q ≡ false
    → stage (after h x) q ≡ stage h q
after_stage_other h x q m a e = after_stage h x q ∙ stage_other h m q a x.access e

-- what the access does not write and does not move by itself is as before
pub after_frame : (h : Handler) (x : Input) (q : Register) → h.n ≤ most → in_map h.n q ≡ true → commits h x.access q ≡ false
    → moves_itself q ≡ false → value (after h x) q ≡ value h q
after_frame h x q m a c e = after_still h x q a e ∙ acted_other h x.access q m a c
