-- Step 1 of two runs, of one class: equal accesses to its block do the same to equal content and get the same answer, and other accesses do nothing to it.
-- Assumes nothing.
use Prim.Native.Nat.{ℕ, ◌≤◌, ◌<◌}
use mathlib.Core.Path.{◌≡◌, refl, sym, ap, ap₂, ◌∙◌, subst}
use mathlib.Core.Bool.{Bool, true, false, false≢true, cond}
use Rattle.class_rules.specs.declared.Class.{Class}
use Rattle.laws.proofs.Access.BlockAnswers.{block_of, block_any_n, read_verdict, write_verdict, read_own, write_own}
use Rattle.laws.proofs.Tick.Content.{acted_class_own, acted_class_other, clears_own, clears_other}
use Rattle.laws.proofs.Stages.StageContent.{stages_written, stages_read, stages_other}
use Rattle.laws.specs.Block.{block_written, block_dropped, block_staged, block_clears, writes_block, names_block}
use Rattle.laws.specs.Refusals.{answer_by}
use Rattle.rules.specs.Access.{setting_value, acted, answer_to, clears}
use Rattle.rules.specs.Map.{decode}
use Rattle.rules.specs.Stages.{class_stages}
use Rattle.rules.specs.State.{most, class_count, class_at}
use Rattle.rules.specs.declared.Access.{Access}
use Rattle.rules.specs.declared.Access.TheVariants.{Nothing, Read, Write, Malformed}
use Rattle.rules.specs.declared.Answer.{Answer}
use Rattle.rules.specs.declared.ClassStages.{ClassStages}
use Rattle.rules.specs.declared.Handler.{Handler}
use Rattle.rules.specs.declared.Register.TheVariants.{Block}
use Rattle.rules.specs.declared.Setting.{Setting}
use Rattle.isolation.specs.OwnAccess.{is_own, own}

-- ── what counts as an access to the block ──

-- one that does not count names no register of it
not_named : (g : Handler) (a : Access) (k : ℕ) → is_own g a k ≡ false → names_block g a k ≡ false
not_named g a k e = e

-- and one that counts names one
is_named : (g : Handler) (a : Access) (k : ℕ) → is_own g a k ≡ true → names_block g a k ≡ true
is_named g a k e = e

-- ── the accesses of two runs, where those to class k's block are the same ──

pub data Both (g f : Handler) (k : ℕ) : Access → Access → Type 0 where
  apart : {a b : Access} → names_block g a k ≡ false → names_block f b k ≡ false → Both g f k a b
  reads : (r : ℕ) (s : Setting) → decode g.n r ≡ Block s k → decode f.n r ≡ Block s k → Both g f k (Read r) (Read r)
  writes : (r v : ℕ) (s : Setting) → decode g.n r ≡ Block s k → decode f.n r ≡ Block s k → Both g f k (Write r v) (Write r v)

module _ (g f : Handler) (k : ℕ) (m : f.n ≤ most) where
  -- one access, which names the block in the first run
  one : (a : Access) → names_block g a k ≡ true → Both g f k a a
  one Nothing e = absurd (false≢true e)
  one (Read r) e = let d = block_of k (decode g.n r) e in reads r d.0 d.1 (block_any_n g.n f.n r k d.0 m d.1)
  one (Write r v) e = let d = block_of k (decode g.n r) e in writes r v d.0 d.1 (block_any_n g.n f.n r k d.0 m d.1)
  one Malformed e = absurd (false≢true e)

  -- none names no block
  pub both : (a b : Access) → own g a k ≡ own f b k → Both g f k a b
  both a b e = go (is_own g a k) (is_own f b k) refl refl e
    where
      go : (s t : Bool) → is_own g a k ≡ s → is_own f b k ≡ t → cond s a Nothing ≡ cond t b Nothing → Both g f k a b
      go true true d c e = subst (Both g f k a) e (one a (is_named g a k d))
      go true false d c e = absurd (false≢true (ap (λ (a : Access). is_own g a k) (sym e) ∙ d))
      go false true d c e = absurd (false≢true (ap (λ (b : Access). is_own f b k) e ∙ c))
      go false false d c e = apart (not_named g a k d) (not_named f b k c)

-- an access that names no register of the block does not write it
not_written : (g : Handler) (a : Access) (k : ℕ) → names_block g a k ≡ false → writes_block g a k ≡ false
not_written g Nothing k e = refl
not_written g (Read r) k e = refl
not_written g (Write r v) k e = e
not_written g Malformed k e = refl

module _ (g f : Handler) (k : ℕ) (l : k < class_count) (c : class_at g k ≡ class_at f k) (b : class_stages g.stages k ≡ class_stages f.stages k) where
  -- the class
  pub same_acted : (x y : Access) → Both g f k x y → class_at (acted g x) k ≡ class_at (acted f y) k
  same_acted x y (apart d e) = acted_class_other g x k l (not_written g x k d) ∙ c ∙ sym (acted_class_other f y k l (not_written f y k e))
  same_acted x y (reads r s d e) = acted_class_other g (Read r) k l refl ∙ c ∙ sym (acted_class_other f (Read r) k l refl)
  same_acted x y (writes r v s d e) = acted_class_own g r v k s d ∙ ap₂ (block_written s v) c b ∙ sym (acted_class_own f r v k s e)

  -- its stages
  pub same_staged : (x y : Access) → Both g f k x y → class_stages (acted g x).stages k ≡ class_stages (acted f y).stages k
  same_staged x y (apart d e) = stages_other g x k l d ∙ b ∙ sym (stages_other f y k l e)
  same_staged x y (reads r s d e) = stages_read g r k s d ∙ ap (block_dropped s) b ∙ sym (stages_read f r k s e)
  same_staged x y (writes r v s d e) = stages_written g r k s d v ∙ ap₂ (block_staged s v) c b ∙ sym (stages_written f r k s e v)

  -- its accepted clears
  pub same_clears : (x y : Access) → Both g f k x y → clears g x k ≡ clears f y k
  same_clears x y (apart d e) = clears_other g x k (not_written g x k d) ∙ sym (clears_other f y k (not_written f y k e))
  same_clears x y (reads r s d e) = clears_other g (Read r) k refl ∙ sym (clears_other f (Read r) k refl)
  same_clears x y (writes r v s d e) = clears_own g r v k s d ∙ ap₂ (block_clears s v) c b ∙ sym (clears_own f r v k s e)

  -- the answer
  pub same_answer : (x y : Access) → Both g f k x y → names_block g x k ≡ true → answer_to g x ≡ answer_to f y
  same_answer x y (apart d e) n = absurd (false≢true (sym d ∙ n))
  same_answer x y (reads r s d e) n =
      read_own g r k s d ∙ ap (λ (c : Class). answer_by (read_verdict s) (Answer.Value (setting_value s c))) c ∙ sym (read_own f r k s e)
  same_answer x y (writes r v s d e) n =
      write_own g r k s d v ∙ ap₂ (λ (c : Class) (b : ClassStages). answer_by (write_verdict s v c b) Answer.Done) c b ∙ sym (write_own f r k s e v)
