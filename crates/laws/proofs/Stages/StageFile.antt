-- The stages as one file: an access changes the stage of the register that it names, by its verdict, and no other.
-- Assumes nothing.
use Prim.Native.Nat.{ℕ, ◌+◌, ◌≤◌}
use mathlib.Core.Path.{◌≡◌, refl, ap, ◌∙◌}
use mathlib.Core.Bool.{Bool, true, false, cond, not}
use native.Mathlib.Omega.{arith}
use borrow.Author.Tests.{ltb-true, lt-ltb}
use lib.Dec.{eqb}
use Rattle.std.specs.Prelude.{Ok, Err}
use Rattle.bits.proofs.IndexLaws.{and-true}
use Rattle.rules.specs.Access.{store, verdict, accepts, is_first, written, named, drops, accessed_by, accessed, acted}
use Rattle.rules.specs.Map.{decode, number_of, is_register, is_shadowed}
use Rattle.rules.specs.Stages.{stage, stage_in, is_open, with_stage, staged, dropped}
use Rattle.rules.specs.State.{most, with_stages}
use Rattle.rules.specs.declared.Access.{Access}
use Rattle.rules.specs.declared.Access.TheVariants.{Nothing, Read, Write, Malformed}
use Rattle.rules.specs.declared.Handler.{Handler}
use Rattle.rules.specs.declared.Register.{Register}
use Rattle.rules.specs.declared.Stages.{Stages}
use Rattle.rules.specs.Answer.{Verdict}
use Rattle.laws.specs.InMap.{in_map}
use Rattle.laws.specs.StageFile.{names, stage_by}
use Rattle.laws.proofs.Map.Cases.{pick, by_kind, cond_same}
use Rattle.laws.proofs.Map.MapLaws.{decode_in_map}
use Rattle.laws.proofs.Access.RegisterFile.{accepted_in_map}
use Rattle.laws.proofs.Stages.StageLaws.{stage_put, stage_dropped}

-- a register of a handler is one of the largest
pub in_most : (n : ℕ) (q : Register) → n ≤ most → in_map n q ≡ true → in_map most q ≡ true
in_most n q m =
    by_kind (λ q. in_map n q ≡ true → in_map most q ≡ true) (λ o a. a) (λ f j a. a)
    (λ f i a. lt-ltb i most (omega (arith, ltb-true i n a))) (λ s k a. a) (λ a. a) q

module _ (h : Handler) (m : h.n ≤ most) (p : Register) (b : in_map most p ≡ true) where
  -- what an access names
  decoded : (r : ℕ) → is_register (decode h.n r) ≡ true → in_map most (decode h.n r) ≡ true
  decoded r e = in_most h.n (decode h.n r) m (decode_in_map h.n r e)

  named_in_map : (x : Access) → is_register (named h x) ≡ true → in_map most (named h x) ≡ true
  named_in_map Nothing = λ e. e
  named_in_map (Read r) = decoded r
  named_in_map (Write r v) = decoded r
  named_in_map Malformed = λ e. e

  -- a write that is accepted
  written_stage : (r v : ℕ) → in_map most (decode h.n r) ≡ true
      → stage (written h (decode h.n r) v) p
      ≡ cond (eqb (number_of (decode h.n r)) (number_of p)) (cond (is_first h (decode h.n r)) (v + 1) 0) (stage h p)
  unfolding written
  written_stage r v a = go (is_first h q) refl
    where
      q : Register
      q = decode h.n r

      go : (t : Bool) → is_first h q ≡ t
          → stage (cond t (with_stages (staged q v h.stages) h) (with_stages (dropped q h.stages) (store h q v))) p
          ≡ cond (eqb (number_of q) (number_of p)) (cond t (v + 1) 0) (stage h p)
      go true e =
          stage_put h.stages (v + 1) q p a b
          ∙ ap (λ (t : Bool). cond (eqb (number_of q) (number_of p)) (cond t (v + 1) (stage h p)) (stage h p))
          (and-true (is_shadowed q) (not (is_open h.stages q)) e).0
      go false e = stage_dropped h.stages q p (λ _. a) b

  -- an access makes of the stage of the register that it names what its verdict says, and leaves every other stage
  pub acted_stage : (x : Access) → stage (acted h x) p ≡ cond (names h x p) (stage_by (verdict h x) h x (stage h p)) (stage h p)
  unfolding acted accessed
  acted_stage x = go x (verdict h x) refl
    where
      go : (y : Access) (v : Verdict) → verdict h y ≡ v
          → stage_in (accessed_by v h y).handler.stages p ≡ cond (names h y p) (stage_by v h y (stage h p)) (stage h p)
      go Nothing (Ok tt) d = cond_same (names h Nothing p) (stage h p)
      go (Read r) (Ok tt) d = stage_dropped h.stages (decode h.n r) p (decoded r) b
      go (Write r v) (Ok tt) d =
          written_stage r v (in_most h.n (decode h.n r) m (accepted_in_map h r v (ap accepts d)))
      go Malformed (Ok tt) d = cond_same (names h Malformed p) (stage h p)
      go y (Err c) d =
          at (drops c)
        where
          at : (t : Bool)
              → stage_in (cond t (with_stages (dropped (named h y) h.stages) h) h).stages p ≡ cond (names h y p) (cond t 0 (stage h p)) (stage h p)
          at true = stage_dropped h.stages (named h y) p (named_in_map y) b
          at false = cond_same (names h y p) (stage h p)

  -- a stage is changed only by an access that names its register
  pub stage_other : (x : Access) → names h x p ≡ false → stage (acted h x) p ≡ stage h p
  stage_other x e = acted_stage x ∙ ap (λ (t : Bool). cond t (stage_by (verdict h x) h x (stage h p)) (stage h p)) e

-- the stages after an access: those before, or with the stage of the register that it names gone or staged
pub stages_either : (h : Handler) (x : Access) (P : Stages → Type 0) → P h.stages → P (dropped (named h x) h.stages)
    → ((v : ℕ) → P (with_stage (named h x) (v + 1) h.stages)) → P (acted h x).stages
unfolding acted accessed written
stages_either h x P a b c = go x (verdict h x) a b c
  where
    go : (y : Access) (t : Verdict) → P h.stages → P (dropped (named h y) h.stages) → ((v : ℕ) → P (with_stage (named h y) (v + 1) h.stages))
        → P (accessed_by t h y).handler.stages
    go Nothing (Ok tt) a b c = a
    go (Read r) (Ok tt) a b c = b
    go (Write r v) (Ok tt) a b c =
        pick (λ (g : Handler). P g.stages) (is_first h (decode h.n r)) _ _ (λ _. c v) (λ _. b)
    go Malformed (Ok tt) a b c = a
    go y (Err m) a b c = pick (λ (g : Handler). P g.stages) (drops m) _ _ (λ _. b) (λ _. a)
