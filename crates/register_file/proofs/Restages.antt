-- Request (v): a stage put and dropped, as the definitions state it.
-- Assumes nothing.
use Prim.Native.Nat.{ℕ, ◌+◌, ◌<◌}
use mathlib.Core.Path.{◌≡◌, refl, sym, ap}
use mathlib.Core.Bool.{Bool, cond}
use mathlib.Core.List.{List}
use native.Mathlib.Omega.{arith}
use lib.ListN.{get_or, length}
use borrow.Author.Tests.{ne_eqb}
use Rattle.bits.proofs.IndexLaws.{is_each, each_ext}
use Rattle.rules.specs.Map.{offset}
use Rattle.rules.specs.Stages.{with_setting_stage}
use Rattle.rules.specs.State.{put}
use Rattle.rules.specs.declared.ClassStages.{ClassStages}
use Rattle.rules.specs.declared.Setting.{Setting}
use Rattle.rules.specs.declared.Setting.TheVariants.{Ctrl, ClrRegwen, Clr, AccumCnt, AccumThresh, TimeoutCyc, PhaseCyc, EscCnt}
use Rattle.register_file.proofs.Stores.{phase_other, phase_shifted}

-- ── a class's block ──

-- the stages with those of other lengths
abbrev with_lengths : ClassStages → List ℕ → ClassStages
with_lengths c ls = record { lengths = ls; timeout = c.timeout; ctrl = c.ctrl; thresh = c.thresh }

module _ (v : ℕ) (c : ClassStages) where
  -- a code put at a register that is no length keeps the lengths'
  pub put_register : (s : Setting) → length c.lengths ≡ 4 → ((p : ℕ) → p < 4 → offset s ≡ 7 + p → ⊥)
      → with_lengths (with_setting_stage s v c) c.lengths ≡ with_setting_stage s v c
  put_register s l d =
      ap (with_lengths (with_setting_stage s v c))
      (is_each 4 c.lengths _ 0 l (λ p h. sym (ap (λ (t : Bool). cond t v (get_or c.lengths p 0)) (ne_eqb (offset s) (7 + p) (d p h)))))

  -- one put at a length changes the lengths' alone
  pub put_phase : (p : ℕ) → with_lengths c (put 4 c.lengths 0 p v) ≡ with_setting_stage (PhaseCyc p) v c
  unfolding put
  put_phase p =
      simp (phase_other p 6 (omega arith), phase_other p 1 (omega arith), phase_other p 5 (omega arith))
      (ap (with_lengths c) (each_ext 4 _ _ 0 (λ j h. ap (λ (t : Bool). cond t v (get_or c.lengths j 0)) (phase_shifted p j))))

  -- one put at a register that has no stage changes nothing
  pub put_none : (s : Setting) → length c.lengths ≡ 4 → (s ≡ Ctrl → ⊥) → (s ≡ AccumThresh → ⊥) → (s ≡ TimeoutCyc → ⊥) → ((p : ℕ) → s ≡ PhaseCyc p → ⊥)
      → c ≡ with_setting_stage s v c
  put_none Setting.Regwen l t a o p = put_register Setting.Regwen l (λ p h e. omega arith)
  put_none Ctrl l t a o p = absurd (t refl)
  put_none ClrRegwen l t a o p = put_register ClrRegwen l (λ p h e. omega arith)
  put_none Clr l t a o p = put_register Clr l (λ p h e. omega arith)
  put_none AccumCnt l t a o p = put_register AccumCnt l (λ p h e. omega arith)
  put_none AccumThresh l t a o p = absurd (a refl)
  put_none TimeoutCyc l t a o p = absurd (o refl)
  put_none (PhaseCyc j) l t a o p = absurd (p j refl)
  put_none EscCnt l t a o p = put_register EscCnt l (λ p h e. omega arith)
  put_none Setting.State l t a o p = put_register Setting.State l (λ p h e. omega arith)
