-- An access to a class's block: its number names the same register for every N, and its answer goes by the block and its stages alone.
-- Assumes nothing.
use Prim.Native.Nat.{ℕ, ◌+◌, ◌≤◌}
use mathlib.Core.Path.{◌≡◌, refl, sym, ap, ◌∙◌}
use mathlib.Core.Bool.{Bool, true, false, not, ◌&&◌}
use borrow.Author.Tests.{eqb-true}
use lib.Dec.{eqb}
use Rattle.std.specs.Prelude.{Ok, Err}
use Rattle.bits.specs.Bits.{fits}
use Rattle.class_rules.specs.declared.Class.{Class}
use Rattle.rules.specs.Access.{setting_value, value, locks_silly, silly, bars, unlike, in_order, verdict, accessed_by, accessed, answer_to}
use Rattle.rules.specs.Answer.{first_of, Verdict}
use Rattle.rules.specs.Map.{decode, number_of, is_register, setting_bits, setting_row, bits, only_written, only_read, write_only, read_only, is_lock}
use Rattle.rules.specs.Stages.{setting_stage, class_stages, stage_in}
use Rattle.rules.specs.State.{most, class_at}
use Rattle.rules.specs.declared.Access.TheVariants.{Read, Write}
use Rattle.rules.specs.declared.Answer.{Answer}
use Rattle.rules.specs.declared.ClassStages.{ClassStages}
use Rattle.rules.specs.declared.Handler.{Handler}
use Rattle.rules.specs.declared.Register.{Register}
use Rattle.rules.specs.declared.Register.TheVariants.{Block}
use Rattle.rules.specs.declared.Setting.{Setting}
use Rattle.laws.specs.Block.{setting_locked, of_block}
use Rattle.laws.specs.Refusals.{answer_by}
use Rattle.laws.specs.InMap.{in_map}
use Rattle.laws.proofs.Map.Cases.{by_kind, never}
use Rattle.laws.proofs.Tick.Content.{block_locked}
use Rattle.laws.proofs.Map.MapLaws.{decode_number, number_decode, decode_in_map}

-- ── the numbers of a block ──

-- what is of class k's block is one of its registers
pub block_of : (k : ℕ) (q : Register) → of_block k q ≡ true → (s : Setting) × (q ≡ Block s k)
block_of k q =
    by_kind (λ q. of_block k q ≡ true → (s : Setting) × (q ≡ Block s k)) (λ o. never) (λ f j. never) (λ f i. never)
    (λ s j e. (s, ap (Block s) (sym (eqb-true k j e)))) never q

-- a number that names it in a handler of n alerts names it in one of m
pub block_any_n : (n m r k : ℕ) (s : Setting) → m ≤ most → decode n r ≡ Block s k → decode m r ≡ Block s k
block_any_n n m r k s l e =
    let i : is_register (decode n r) ≡ true = ap is_register e in
    let a : in_map m (Block s k) ≡ true = ap (in_map n) (sym e) ∙ decode_in_map n r i in
    ap (decode m) (sym (number_decode n r i) ∙ ap number_of e) ∙ decode_number m (Block s k) l a

-- ── the answer ──

-- the verdict on a read of a register of the block, and on a write, by the block c and its stages b
abbrev pub read_verdict : Setting → Verdict
read_verdict s = first_of (in_order false false (only_written (setting_row s).way) false false false false)

abbrev pub write_verdict : Setting → ℕ → Class → ClassStages → Verdict
write_verdict s v c b =
    first_of (in_order false false (only_read (setting_row s).way) (not (fits (setting_bits s) v)) (locks_silly s v c)
    (setting_locked s c && not ((setting_row s).lock && eqb v 0)) (not (eqb (setting_stage s b) 0) && not (eqb (setting_stage s b) (v + 1))))

-- an access answers by its verdict
read_by : (h : Handler) (r : ℕ) → answer_to h (Read r) ≡ answer_by (verdict h (Read r)) (Answer.Value (value h (decode h.n r)))
unfolding answer_to accessed
read_by h r = go (verdict h (Read r))
  where
    go : (t : Verdict) → (accessed_by t h (Read r)).answer ≡ answer_by t (Answer.Value (value h (decode h.n r)))
    go (Ok tt) = refl
    go (Err m) = refl

write_by : (h : Handler) (r v : ℕ) → answer_to h (Write r v) ≡ answer_by (verdict h (Write r v)) Answer.Done
unfolding answer_to accessed
write_by h r v = go (verdict h (Write r v))
  where
    go : (t : Verdict) → (accessed_by t h (Write r v)).answer ≡ answer_by t Answer.Done
    go (Ok tt) = refl
    go (Err m) = refl

module _ (h : Handler) (r k : ℕ) (s : Setting) (e : decode h.n r ≡ Block s k) where
  -- a read of the block
  pub read_own : answer_to h (Read r) ≡ answer_by (read_verdict s) (Answer.Value (setting_value s (class_at h k)))
  unfolding verdict write_only value
  read_own =
      read_by h r
      ∙ ap (λ (q : Register). answer_by (first_of (in_order false (not (is_register q)) (write_only q) false false false false)) (Answer.Value (value h q))) e

  -- a write to it
  pub write_own : (v : ℕ) → answer_to h (Write r v) ≡ answer_by (write_verdict s v (class_at h k) (class_stages h.stages k)) Answer.Done
  unfolding verdict read_only bits is_lock stage_in
  write_own v =
      write_by h r v
      ∙ ap (λ (q : Register). answer_by (first_of (in_order false (not (is_register q)) (read_only q) (not (fits (bits q) v)) (silly h q v) (bars h q v) (unlike h q v))) Answer.Done) e
      ∙ ap (λ (b : Bool). answer_by (first_of (in_order false false (only_read (setting_row s).way) (not (fits (setting_bits s) v)) (locks_silly s v (class_at h k))
      (b && not ((setting_row s).lock && eqb v 0)) (unlike h (Block s k) v))) Answer.Done) (block_locked h r v k s e)
