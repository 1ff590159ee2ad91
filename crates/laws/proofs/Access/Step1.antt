-- Step 1 by its verdict: what an access leaves, and which classes have an accepted clear.
-- Assumes nothing.
use Prim.Native.Nat.{ℕ, ◌<◌}
use mathlib.Core.Path.{◌≡◌, refl, sym, ap, ◌∙◌, subst}
use mathlib.Core.Bool.{Bool, true, false, false≢true, cond, not, ◌&&◌}
use native.Mathlib.Omega.{arith}
use native.Mathlib.Decide.{dec_lt}
use Rattle.std.specs.Prelude.{Ok, Err}
use Rattle.bits.specs.Bits.{bit, bits_of}
use Rattle.bits.proofs.BitLaws.{bit_bits_of, bit_none, bit_above, bits_of_lt}
use Rattle.bits.proofs.IndexLaws.{and-true}
use Rattle.rules.specs.Access.{store, verdict, accepts, accepted, is_first, written, given, writes_clr, named, drops, kept, accessed_by, accessed, acted, answer_to, effects, clears}
use Rattle.rules.specs.Map.{decode}
use Rattle.rules.specs.Stages.{staged, dropped}
use Rattle.rules.specs.State.{class_count, with_stages}
use Rattle.rules.specs.declared.Access.{Access}
use Rattle.rules.specs.declared.Handler.{Handler}
use Rattle.rules.specs.declared.Refusal.{Refusal}
use Rattle.rules.specs.declared.Register.{Register}
use Rattle.rules.specs.declared.Stages.{Stages}
use Rattle.rules.specs.Answer.{Verdict}
use Rattle.laws.specs.RegisterFile.{stored_by}
use Rattle.laws.proofs.Map.Cases.{pick}

-- a stage is dropped by these verdicts: 3 and 12
abbrev pub drops_by : Verdict → Bool
drops_by (Ok tt) = false
drops_by (Err m) = drops m

module _ (h : Handler) (x : Access) where
  -- but for the stages, an access leaves what it stores
  pub acted_is : acted h x ≡ with_stages (acted h x).stages (stored_by h x)
  unfolding acted accessed written
  acted_is = go x (verdict h x) refl
    where
      by : (v : Verdict) (y : Access) → Type 0
      by v y = (accessed_by v h y).handler ≡ with_stages (accessed_by v h y).handler.stages (stored_by h y)

      -- a refused access stores nothing
      kept_is : (m : Refusal) (q : Register) → kept m h q ≡ with_stages (kept m h q).stages h
      kept_is m q = pick (λ (g : Handler). g ≡ with_stages g.stages h) (drops m) _ _ (λ _. refl) (λ _. refl)

      -- an accepted write, first or not
      written_is : (q : Register) (v : ℕ) → written h q v ≡ with_stages (written h q v).stages (cond (not (is_first h q)) (store h q v) h)
      written_is q v = at (is_first h q)
        where
          at : (b : Bool) → cond b (with_stages (staged q v h.stages) h) (with_stages (dropped q h.stages) (store h q v))
              ≡ with_stages (cond b (with_stages (staged q v h.stages) h) (with_stages (dropped q h.stages) (store h q v))).stages
              (cond (not b) (store h q v) h)
          at true = refl
          at false = refl

      go : (y : Access) (v : Verdict) → verdict h y ≡ v → by v y
      go Access.Nothing (Ok tt) d = refl
      go (Access.Read r) (Ok tt) d = refl
      go (Access.Write r v) (Ok tt) d =
          written_is (decode h.n r) v
          ∙ ap (λ (t : Verdict). with_stages (written h (decode h.n r) v).stages (cond (accepts t && not (is_first h (decode h.n r))) (store h (decode h.n r) v) h)) (sym d)
      go Access.Malformed (Ok tt) d = refl
      go Access.Nothing (Err m) d = kept_is m (named h Access.Nothing)
      go (Access.Read r) (Err m) d = kept_is m (decode h.n r)
      go (Access.Write r v) (Err m) d =
          kept_is m (decode h.n r)
          ∙ ap (λ (t : Verdict). with_stages (kept m h (decode h.n r)).stages (cond (accepts t && not (is_first h (decode h.n r))) (store h (decode h.n r) v) h)) (sym d)
      go Access.Malformed (Err m) d = kept_is m (named h Access.Malformed)

  -- so what holds of that whatever the stages holds of what the access leaves
  pub acted_but_stages : (P : Handler → Type 0) → ((s : Stages) → P (with_stages s (stored_by h x))) → P (acted h x)
  acted_but_stages P f = subst P (sym acted_is) (f (acted h x).stages)

  -- an accepted access answers what it gives
  pub answer_accepted : accepted h x ≡ true → answer_to h x ≡ given h x
  unfolding answer_to accessed
  answer_accepted e = go (verdict h x) e
    where
      go : (v : Verdict) → accepts v ≡ true → (accessed_by v h x).answer ≡ given h x
      go (Ok tt) e = refl
      go (Err m) e = absurd (false≢true e)

  -- class k has an accepted clear if the access is accepted and writes 1 to its CLR
  pub clears_if : (k : ℕ) → k < class_count → clears h x k ≡ (accepted h x && writes_clr h x k)
  unfolding clears effects accessed
  clears_if k l = go (verdict h x)
    where
      go : (v : Verdict) → bit (accessed_by v h x).effects.clears k ≡ (accepts v && writes_clr h x k)
      go (Ok tt) = bit_bits_of 4 (writes_clr h x) k l
      go (Err m) = bit_none k

  -- and only one of the four classes has
  pub cleared_lt : (k : ℕ) → clears h x k ≡ true → k < class_count
  unfolding clears effects accessed
  cleared_lt k = go (verdict h x) (dec_lt k class_count)
    where
      go : (v : Verdict) → Dec (k < class_count) → bit (accessed_by v h x).effects.clears k ≡ true → k < class_count
      go v (yes l) e = l
      go (Ok tt) (no l) e = absurd (false≢true (sym (bit_above 4 (bits_of 4 (writes_clr h x)) k (bits_of_lt 4 (writes_clr h x)) (omega arith)) ∙ e))
      go (Err m) (no l) e = absurd (false≢true (sym (bit_none k) ∙ e))

  pub clears_both : (k : ℕ) → clears h x k ≡ true → (accepted h x ≡ true) × (writes_clr h x k ≡ true)
  clears_both k e = and-true (accepted h x) (writes_clr h x k) (sym (clears_if k (cleared_lt k e)) ∙ e)
