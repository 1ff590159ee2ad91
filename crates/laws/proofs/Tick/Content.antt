-- What a tick makes of one class, its interrupt bit and the lines: by the class, the access to its block and its signals alone.
-- Assumes nothing.
use Prim.Native.Nat.{ℕ, ◌<◌}
use mathlib.Core.Path.{◌≡◌, refl, sym, ap, ap₂, ◌∙◌, subst}
use mathlib.Core.Logic.{◌↔◌}
use mathlib.Core.Bool
use mathlib.Core.Bool.{Bool, true, false, cond, not, ◌&&◌, ◌||◌}
use borrow.Author.Tests.{eq-eqb}
use lib.Dec.{eqb}
use Rattle.bits.specs.Bits.{bit, fits}
use Rattle.bits.specs.Index.{any_to}
use Rattle.bits.proofs.BitLaws.{bit_bits_of}
use Rattle.bits.proofs.IndexLaws.{and-true, any_at, any_some}
use Rattle.class_rules.specs.Class.{enabled, drives}
use Rattle.class_rules.specs.Step.{class_step}
use Rattle.class_rules.specs.declared.Class.{Class}
use Rattle.rules.specs.Access.{value, locked, silly, bars, unlike, with_setting, store, accepted, is_first, acted, setting_is_clr, is_clr_of, effects, clears}
use Rattle.rules.specs.Map.{decode, is_register, setting_bits, setting_row, bits, only_read, read_only, guard, is_lock, is_shadowed}
use Rattle.rules.specs.Samples as samples
use Rattle.rules.specs.Stages.{class_stages, stage_in}
use Rattle.rules.specs.State.{class_count, class_at}
use Rattle.rules.specs.Tick.{event, interrupt_now, signals, stepped, lines, hears, event_in, signals_in, after}
use Rattle.rules.specs.declared.Access.{Access}
use Rattle.rules.specs.declared.Access.TheVariants.{Nothing, Read, Write, Malformed}
use Rattle.rules.specs.declared.Handler.{Handler}
use Rattle.rules.specs.declared.Input.{Input}
use Rattle.rules.specs.declared.Register.{Register}
use Rattle.rules.specs.declared.Register.TheVariants.{Block}
use Rattle.rules.specs.declared.Setting.{Setting}
use Rattle.laws.specs.Block.{class_stored, setting_locked, block_accepts, block_first, block_written, block_clears, of_block, writes_block, Unmoved}
use Rattle.laws.specs.RegisterFile.{stores}
use Rattle.laws.proofs.Access.Clears.{clears_by}
use Rattle.laws.proofs.Map.Cases.{by_kind, by_setting, cond_same}
use Rattle.laws.proofs.Tick.Frame.{stepped_class}
use Rattle.laws.proofs.Map.MapLaws.{block_lt}
use Rattle.laws.proofs.Access.RegisterFile.{class_stored_law}
use Rattle.laws.proofs.Access.Refusals.{accepted_write}
use Rattle.laws.proofs.Access.Step1.{acted_is, clears_if}

-- ── steps 2 to 4 ──

-- class k after the tick: its step, by its signals, from what the access left
pub after_class : (h : Handler) (x : Input) (k : ℕ) → k < class_count
    → class_at (after h x) k
    ≡ class_step (signals_in h x k) (class_at (acted h x.access) k)
unfolding after
after_class h x k l = stepped_class (acted h x.access) (hears h x) (effects h x.access) k l

-- an accepted clear of it, as step 1 found it
pub signal_clear : (h : Handler) (x : Input) (k : ℕ) → (signals_in h x k).clear ≡ clears h x.access k
unfolding signals clears
signal_clear h x k = refl

-- an event is of an enabled class
pub event_enabled : (h : Handler) (x : Input) (k : ℕ) → (signals_in h x k).event ≡ true → enabled (class_at (acted h x.access) k) ≡ true
unfolding signals event
event_enabled h x k e = (and-true (samples.assigned (acted h x.access) (hears h x) k) (enabled (class_at (acted h x.access) k)) e).1

-- its interrupt bit: as the access left it, or set by an event
pub after_bit : (h : Handler) (x : Input) (k : ℕ) → k < class_count
    → bit (after h x).interrupts.state k
    ≡ (bit (acted h x.access).interrupts.state k || event_in h x k)
unfolding after stepped interrupt_now
after_bit h x k l = bit_bits_of 4 (interrupt_now (acted h x.access) (hears h x)) k l

-- a line is on where a class drives it
pub line_is : (h : Handler) (e : ℕ) → e < 4 → (bit (lines h) e ≡ true) ↔ ((k : ℕ) × (k < class_count) × (drives (class_at h k) e ≡ true))
unfolding lines
line_is h e l = (λ b. any_some on class_count (sym is ∙ b), λ d. is ∙ any_at on class_count d.0 d.1 d.2)
  where
    on : ℕ → Bool
    on k = drives (class_at h k) e

    is : bit (lines h) e ≡ any_to on class_count
    is = bit_bits_of 4 (λ e. any_to (λ k. drives (class_at h k) e) class_count) e l

-- ── step 1 ──

module _ (h : Handler) (r v k : ℕ) where
  -- class k after a write: changed if the write commits
  acted_class : k < class_count
      → class_at (acted h (Write r v)) k ≡ cond (stores h r v) (class_stored (decode h.n r) v k (class_at h k)) (class_at h k)
  acted_class l = ap (λ (g : Handler). class_at g k) (acted_is h (Write r v)) ∙ go (stores h r v)
    where
      go : (b : Bool)
          → class_at (cond b (store h (decode h.n r) v) h) k ≡ cond b (class_stored (decode h.n r) v k (class_at h k)) (class_at h k)
      go true = class_stored_law h (decode h.n r) v k l
      go false = refl

  module _ (s : Setting) (e : decode h.n r ≡ Block s k) where
    -- a register of the block is locked by the block
    pub block_locked : locked h (Block s k) ≡ setting_locked s (class_at h k)
    unfolding locked guard value
    block_locked =
        by_setting (λ s. locked h (Block s k) ≡ setting_locked s (class_at h k)) refl refl refl refl refl refl refl (λ p. refl) refl refl s

    -- and a write to it is accepted by the block and its stages
    pub block_accepted : accepted h (Write r v) ≡ block_accepts s v (class_at h k) (class_stages h.stages k)
    unfolding block_accepts read_only bits is_lock stage_in
    block_accepted =
        accepted_write h r v
        ∙ ap (λ (q : Register). is_register q && (not (read_only q) && (fits (bits q) v && (not (silly h q v) && (not (bars h q v) && not (unlike h q v)))))) e
        ∙ ap (λ (b : Bool). not (only_read (setting_row s).way) && (fits (setting_bits s) v && (not (silly h (Block s k) v) && (not (b && not ((setting_row s).lock && eqb v 0)) && not (unlike h (Block s k) v))))) block_locked

    -- as a first write to it is one
    pub block_first_law : is_first h (decode h.n r) ≡ block_first s (class_stages h.stages k)
    unfolding is_shadowed stage_in
    block_first_law = ap (is_first h) e

    -- a write to class k's block, by the block and its stages alone (request (x) cites this law, those on clears and those on stages)
    pub acted_class_own : class_at (acted h (Write r v)) k ≡ block_written s v (class_at h k) (class_stages h.stages k)
    unfolding block_written
    acted_class_own =
        acted_class (block_lt h.n r s k e)
        ∙ ap₂ (λ (b : Bool) (q : Register). cond b (class_stored q v k (class_at h k)) (class_at h k)) (ap₂ (λ (a b : Bool). a && not b) block_accepted block_first_law) e
        ∙ ap (λ (t : Bool). cond (block_accepts s v (class_at h k) (class_stages h.stages k) && not (block_first s (class_stages h.stages k))) (cond t (with_setting s v (class_at h k)) (class_at h k)) (class_at h k))
        (eq-eqb k k refl)

    -- and whether it is an accepted clear (for request (x))
    pub clears_own : clears h (Write r v) k ≡ block_clears s v (class_at h k) (class_stages h.stages k)
    unfolding block_clears
    clears_own =
        clears_if h (Write r v) k (block_lt h.n r s k e)
        ∙ ap₂ ◌&&◌ block_accepted
        (ap (λ (q : Register). is_clr_of k q && eqb v 1) e
        ∙ ap (λ (t : Bool). setting_is_clr s && t && eqb v 1) (eq-eqb k k refl)
        ∙ ap (λ (t : Bool). t && eqb v 1) (mathlib.Core.Bool.and-true (setting_is_clr s)))

-- a store at no register of class k's block
stored_other : (q : Register) (v k : ℕ) (c : Class) → of_block k q ≡ false → class_stored q v k c ≡ c
stored_other q v k c =
    by_kind (λ q. of_block k q ≡ false → class_stored q v k c ≡ c) (λ o e. refl) (λ f j e. refl) (λ f i e. refl)
    (λ s j e. ap (λ (t : Bool). cond t (with_setting s v c) c) e) (λ e. refl) q

-- an access that does not write class k's block leaves it
pub acted_class_other : (h : Handler) (x : Access) (k : ℕ) → k < class_count → writes_block h x k ≡ false → class_at (acted h x) k ≡ class_at h k
acted_class_other h Nothing k l e = ap (λ (g : Handler). class_at g k) (acted_is h Nothing)
acted_class_other h (Read r) k l e = ap (λ (g : Handler). class_at g k) (acted_is h (Read r))
acted_class_other h (Write r v) k l e =
    acted_class h r v k l
    ∙ ap (λ (c : Class). cond (stores h r v) c (class_at h k)) (stored_other (decode h.n r) v k (class_at h k) e)
    ∙ sym (cond_same (stores h r v) (class_at h k))
acted_class_other h Malformed k l e = ap (λ (g : Handler). class_at g k) (acted_is h Malformed)

-- or clears it (for request (x))
pub clears_other : (h : Handler) (x : Access) (k : ℕ) → writes_block h x k ≡ false → clears h x k ≡ false
clears_other h x k e = go (clears h x k) refl
  where
    go : (b : Bool) → clears h x k ≡ b → b ≡ false
    go true d =
        let c = clears_by h x k d in
        sym (eq-eqb k k refl) ∙ sym (ap (of_block k) c.names) ∙ ap (λ (y : Access). writes_block h y k) (sym c.access) ∙ e
    go false d = refl

-- equal classes
same : {c d : Class} → d ≡ c → Unmoved c d
same e = (ap (λ (c : Class). c.state) e, ap (λ (c : Class). c.count) e, ap (λ (c : Class). c.accum) e)

-- a store does not move STATE, ESC_CNT and ACCUM_CNT
stored_place : (q : Register) (v k : ℕ) (c : Class) → Unmoved c (class_stored q v k c)
stored_place q v k c =
    by_kind (λ q. Unmoved c (class_stored q v k c)) (λ o. still) (λ f j. still) (λ f i. still) (λ s j. go s (eqb k j)) still q
  where
    still : Unmoved c c
    still = (refl, refl, refl)

    go : (s : Setting) (b : Bool) → Unmoved c (cond b (with_setting s v c) c)
    go s true = (refl, refl, refl)
    go s false = still

-- nor does an access
pub acted_place : (h : Handler) (x : Access) (k : ℕ) → k < class_count → Unmoved (class_at h k) (class_at (acted h x) k)
acted_place h Nothing k l = same (acted_class_other h Nothing k l refl)
acted_place h (Read r) k l = same (acted_class_other h (Read r) k l refl)
acted_place h (Write r v) k l = subst (Unmoved (class_at h k)) (sym (acted_class h r v k l)) (go (stores h r v))
  where
    go : (b : Bool) → Unmoved (class_at h k) (cond b (class_stored (decode h.n r) v k (class_at h k)) (class_at h k))
    go true = stored_place (decode h.n r) v k (class_at h k)
    go false = (refl, refl, refl)
acted_place h Malformed k l = same (acted_class_other h Malformed k l refl)
