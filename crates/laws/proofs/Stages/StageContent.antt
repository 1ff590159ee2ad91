-- What an access makes of the stages of one class's block: by the class, its stages and the access to its block alone.
-- Assumes nothing.
use Prim.Native.Nat.{ℕ, ◌+◌, ◌<◌}
use mathlib.Core.Path.{◌≡◌, refl, ap, ap₂, ◌∙◌}
use mathlib.Core.Bool.{Bool, true, false, cond, not, ◌&&◌}
use borrow.Author.Tests.{eq-eqb}
use lib.Dec.{eqb}
use Rattle.std.specs.Prelude.{Ok, Err}
use Rattle.bits.specs.Bits.{fits}
use Rattle.rules.specs.Access.{locks_silly, silly, verdict, accepts, accepted, is_first, written, named, drops, accessed_by, accessed, acted}
use Rattle.rules.specs.Answer.{first_of, Verdict}
use Rattle.rules.specs.Map.{decode, is_register, bits, setting_bits, setting_row, only_read, only_written, read_only, write_only}
use Rattle.rules.specs.Stages.{setting_stage, class_stages, stage_in, with_setting_stage, with_stage, staged, dropped}
use Rattle.rules.specs.State.{class_count, class_at}
use Rattle.rules.specs.declared.Access.{Access}
use Rattle.rules.specs.declared.Access.TheVariants.{Read, Write}
use Rattle.rules.specs.declared.ClassStages.{ClassStages}
use Rattle.rules.specs.declared.Handler.{Handler}
use Rattle.rules.specs.declared.Register.{Register}
use Rattle.rules.specs.declared.Register.TheVariants.{Block}
use Rattle.rules.specs.declared.Refusal.TheVariants.{NoRegister, WrongWay}
use Rattle.rules.specs.declared.Setting.{Setting}
use Rattle.rules.specs.declared.Setting.TheVariants.{Ctrl, ClrRegwen, AccumCnt, AccumThresh, TimeoutCyc, PhaseCyc, EscCnt}
use Rattle.rules.specs.declared.Stages.{Stages}
use Rattle.laws.specs.Block.{block_accepts, block_first, block_dropped, block_staged, of_block, names_block}
use Rattle.laws.proofs.Map.Cases.{pick, by_kind, by_setting}
use Rattle.laws.proofs.Tick.Content.{block_accepted, block_first_law}
use Rattle.laws.proofs.Map.MapLaws.{block_lt}
use Rattle.laws.proofs.Access.Refusals.{drops_write}
use Rattle.laws.proofs.Stages.StageFile.{stages_either}
use Rattle.laws.proofs.Stages.StageLaws.{class_put}
use Rattle.laws.proofs.Access.Step1.{drops_by}

-- ── a stage of the block itself ──

module _ (z : Stages) (s : Setting) (k : ℕ) (l : k < class_count) where
  own_put : (c : ℕ) → class_stages (with_stage (Block s k) c z) k ≡ with_setting_stage s c (class_stages z k)
  own_put c =
      class_put z c s k k l ∙ ap (λ (t : Bool). cond t (with_setting_stage s c (class_stages z k)) (class_stages z k)) (eq-eqb k k refl)

  own_dropped : class_stages (dropped (Block s k) z) k ≡ block_dropped s (class_stages z k)
  unfolding dropped stage_in block_dropped
  own_dropped = go (not (eqb (setting_stage s (class_stages z k)) 0))
    where
      go : (b : Bool) → class_stages (cond b (with_stage (Block s k) 0 z) z) k ≡ cond b (with_setting_stage s 0 (class_stages z k)) (class_stages z k)
      go true = own_put 0
      go false = refl

-- ── a write ──

-- by its verdict
write_stages : (h : Handler) (r v : ℕ)
    → (acted h (Write r v)).stages
    ≡ cond (accepted h (Write r v)) (cond (is_first h (decode h.n r)) (staged (decode h.n r) v h.stages) (dropped (decode h.n r) h.stages))
    (cond (drops_by (verdict h (Write r v))) (dropped (decode h.n r) h.stages) h.stages)
unfolding acted accessed written
write_stages h r v = go (verdict h (Write r v))
  where
    q : Register
    q = decode h.n r

    -- the stages of a choice
    chosen : (b : Bool) (g f : Handler) → (cond b g f).stages ≡ cond b g.stages f.stages
    chosen true g f = refl
    chosen false g f = refl

    go : (t : Verdict) → (accessed_by t h (Write r v)).handler.stages
        ≡ cond (accepts t) (cond (is_first h q) (staged q v h.stages) (dropped q h.stages)) (cond (drops_by t) (dropped q h.stages) h.stages)
    go (Ok tt) = chosen (is_first h q) _ _
    go (Err m) = chosen (drops m) _ _

-- not refused with 2, 4 or 14, a write is accepted or drops the stage: a, b, s and c say that it can be written, fits, locks no silly threshold and is not
-- barred, f that it is first
by_case : {A : Type 0} (a b s c f : Bool) (x y z : A)
    → cond (a && (b && (s && c))) (cond f x y) (cond (a && (b && (s && not (a && (b && (s && c)))))) y z)
    ≡ cond (a && (b && s)) (cond ((a && (b && (s && c))) && f) x y) z
by_case false b s c f x y z = refl
by_case true false s c f x y z = refl
by_case true true false c f x y z = refl
by_case true true true true true x y z = refl
by_case true true true true false x y z = refl
by_case true true true false f x y z = refl

-- ── a read ──

read_stages : (h : Handler) (r : ℕ)
    → (acted h (Read r)).stages ≡ cond (is_register (decode h.n r) && not (write_only (decode h.n r))) (dropped (decode h.n r) h.stages) h.stages
unfolding acted accessed verdict first_of
read_stages h r = go (is_register (decode h.n r)) (write_only (decode h.n r))
  where
    go : (a b : Bool)
        → (accessed_by (cond (not a) (Err NoRegister) (cond b (Err WrongWay) (Ok tt))) h (Read r)).handler.stages
        ≡ cond (a && not b) (dropped (decode h.n r) h.stages) h.stages
    go false b = refl
    go true true = refl
    go true false = refl

-- ── the block's own ──

-- the stages of class k in a choice
each_way : (k : ℕ) (a f d : Bool) (x y w : Stages)
    → class_stages (cond a (cond f x y) (cond d y w)) k ≡ cond a (cond f (class_stages x k) (class_stages y k)) (cond d (class_stages y k) (class_stages w k))
each_way k true true d x y w = refl
each_way k true false d x y w = refl
each_way k false f true x y w = refl
each_way k false f false x y w = refl

module _ (h : Handler) (r k : ℕ) (s : Setting) (e : decode h.n r ≡ Block s k) where
  abbrev here : ClassStages
  here = class_stages h.stages k

  is_class : k < class_count
  is_class = block_lt h.n r s k e

  -- the register's stage gone
  gone : class_stages (dropped (decode h.n r) h.stages) k ≡ block_dropped s here
  gone = ap (λ (q : Register). class_stages (dropped q h.stages) k) e ∙ own_dropped h.stages s k is_class

  -- a refused write drops it
  drops_own : (v : ℕ) → drops_by (verdict h (Write r v))
      ≡ (not (only_read (setting_row s).way) && (fits (setting_bits s) v && (not (locks_silly s v (class_at h k)) && not (block_accepts s v (class_at h k) here))))
  unfolding read_only bits
  drops_own v =
      drops_write h r v
      ∙ ap (λ (q : Register). is_register q && (not (read_only q) && (fits (bits q) v && (not (silly h q v) && not (accepted h (Write r v)))))) e
      ∙ ap (λ (a : Bool). not (only_read (setting_row s).way) && (fits (setting_bits s) v && (not (locks_silly s v (class_at h k)) && not a))) (block_accepted h r v k s e)

  -- a write to class k's block, by the block and its stages alone (for request (x))
  pub stages_written : (v : ℕ) → class_stages (acted h (Write r v)).stages k ≡ block_staged s v (class_at h k) (class_stages h.stages k)
  unfolding block_staged block_accepts
  stages_written v =
      let q : Register = decode h.n r in
      let b : Bool = block_accepts s v (class_at h k) here in
      let p : class_stages (staged q v h.stages) k ≡ with_setting_stage s (v + 1) here =
      ap (λ (q : Register). class_stages (with_stage q (v + 1) h.stages) k) e ∙ own_put h.stages s k is_class (v + 1) in
      ap (λ (t : Stages). class_stages t k) (write_stages h r v)
      ∙ each_way k (accepted h (Write r v)) (is_first h q) (drops_by (verdict h (Write r v))) (staged q v h.stages) (dropped q h.stages) h.stages
      ∙ ap (λ (a : Bool). cond a (cond (is_first h q) (class_stages (staged q v h.stages) k) (class_stages (dropped q h.stages) k))
      (cond (drops_by (verdict h (Write r v))) (class_stages (dropped q h.stages) k) here)) (block_accepted h r v k s e)
      ∙ ap₂ (λ (f d : Bool). cond b (cond f (class_stages (staged q v h.stages) k) (class_stages (dropped q h.stages) k))
      (cond d (class_stages (dropped q h.stages) k) here)) (block_first_law h r v k s e) (drops_own v)
      ∙ ap₂ (λ (x y : ClassStages). cond b (cond (block_first s here) x y)
      (cond (not (only_read (setting_row s).way) && (fits (setting_bits s) v && (not (locks_silly s v (class_at h k)) && not b))) y here)) p gone
      ∙ by_case (not (only_read (setting_row s).way)) (fits (setting_bits s) v) (not (locks_silly s v (class_at h k))) _ (block_first s here) (with_setting_stage s (v + 1) here) (block_dropped s here) here

  -- a read of it drops the stage of its register
  pub stages_read : class_stages (acted h (Read r)).stages k ≡ block_dropped s (class_stages h.stages k)
  unfolding write_only block_dropped
  stages_read =
      ap (λ (t : Stages). class_stages t k) (read_stages h r)
      ∙ ap (λ (q : Register). class_stages (cond (is_register q && not (write_only q)) (dropped q h.stages) h.stages) k) e
      ∙ by_setting (λ s. class_stages (cond (not (only_written (setting_row s).way)) (dropped (Block s k) h.stages) h.stages) k ≡ block_dropped s here)
      (own Setting.Regwen) (own Ctrl) (own ClrRegwen) refl (own AccumCnt) (own AccumThresh) (own TimeoutCyc) (λ p. own (PhaseCyc p)) (own EscCnt) (own Setting.State) s
    where
      own : (t : Setting) → class_stages (dropped (Block t k) h.stages) k ≡ block_dropped t here
      own t = own_dropped h.stages t k is_class

-- ── an access that names no register of the block ──

other_put : (q : Register) (c : ℕ) (z : Stages) (k : ℕ) → k < class_count → of_block k q ≡ false → class_stages (with_stage q c z) k ≡ class_stages z k
unfolding with_stage
other_put q c z k l =
    by_kind (λ q. of_block k q ≡ false → class_stages (with_stage q c z) k ≡ class_stages z k) (λ o e. refl) (λ f j e. refl)
    (λ f i e. refl)
    (λ s j e. class_put z c s j k l ∙ ap (λ (t : Bool). cond t (with_setting_stage s c (class_stages z k)) (class_stages z k)) e) (λ e. refl) q

other_dropped : (q : Register) (z : Stages) (k : ℕ) → k < class_count → of_block k q ≡ false → class_stages (dropped q z) k ≡ class_stages z k
unfolding dropped
other_dropped q z k l e =
    pick (λ (t : Stages). class_stages t k ≡ class_stages z k) (not (eqb (stage_in z q) 0)) _ _ (λ _. other_put q 0 z k l e) (λ _. refl)

-- it leaves the block's stages (for request (x))
pub stages_other : (h : Handler) (x : Access) (k : ℕ) → k < class_count → names_block h x k ≡ false
    → class_stages (acted h x).stages k ≡ class_stages h.stages k
stages_other h x k l e =
    stages_either h x (λ t. class_stages t k ≡ class_stages h.stages k) refl (other_dropped (named h x) h.stages k l e)
    (λ v. other_put (named h x) (v + 1) h.stages k l e)
