-- "One tick", step 1: what an accepted access gives, and what a refused one leaves.
-- Assumes nothing.
use Prim.Native.Nat.{ℕ}
use mathlib.Core.Path.{◌≡◌, refl, sym, ap, ◌∙◌}
use mathlib.Core.Bool.{Bool, true, false, cond, ◌&&◌}
use lib.Dec.{eqb}
use Rattle.std.specs.Prelude.{Ok, Err}
use Rattle.bits.specs.Bits.{bits_of}
use Rattle.rules.specs.Answer.{first_of, Verdict}
use Rattle.rules.specs.Access.{is_clr_of, malformed, no_register, wrong_way, too_wide, verdict, store, is_first, written, accessed}
use Rattle.rules.specs.Stages.{staged, dropped}
use Rattle.rules.specs.State.{with_stages}
use Rattle.rules.specs.declared.Access.{Access}
use Rattle.rules.specs.declared.Access.TheVariants.{Nothing}
use Rattle.rules.specs.declared.Answer.{Answer}
use Rattle.rules.specs.declared.Handler.{Handler}
use Rattle.rules.specs.declared.Refusal.{Refusal}
use Rattle.rules.specs.declared.Register.{Register}
use Rattle.rules.specs.declared.Register.TheVariants.{Only, Local, Alert, Block, Unassigned}
use Rattle.rules.specs.declared.Setting.{Setting}
use Rattle.rules.specs.declared.Stages.{Stages}
use Rattle.registers.specs.Change.{left_with}

-- ── the classes with an accepted clear ──

pub no_bits : 0 ≡ bits_of 4 (λ k. false)
unfolding bits_of
no_bits = refl

-- only CLR clears
pub no_clears : (q : Register) (v : ℕ) → ((s : Setting) (k : ℕ) → q ≡ Block s k → ⊥) → 0 ≡ bits_of 4 (λ k. is_clr_of k q && eqb v 1)
no_clears (Only o) v n = no_bits
no_clears (Local f j) v n = no_bits
no_clears (Alert f i) v n = no_bits
no_clears (Block s k) v n = absurd (n s k refl)
no_clears Unassigned v n = no_bits

-- ── no access ──

pub nothing_done : (h : Handler) → left_with h (Answer.Done, record { clears = 0; raises = 0; begins = false }) ≡ accessed h Nothing
unfolding accessed verdict first_of
nothing_done h = ap (λ (c : ℕ). record { handler = h; answer = Answer.Done; effects = record { clears = c; raises = 0; begins = false } }) no_bits

-- ── an accepted write ──

-- a store touches no stage
pub stored_under : (h : Handler) (s : Stages) (q : Register) (v : ℕ) → store (with_stages s h) q v ≡ with_stages s (store h q v)
unfolding store
stored_under h s (Only o) v = refl
stored_under h s (Local f j) v = refl
stored_under h s (Alert f i) v = refl
stored_under h s (Block b k) v = refl
stored_under h s Unassigned v = refl

pub later_written : (h : Handler) (q : Register) (v : ℕ) → is_first h q ≡ false → store (with_stages (dropped q h.stages) h) q v ≡ written h q v
unfolding written
later_written h q v e =
    stored_under h (dropped q h.stages) q v
    ∙ ap (λ (t : Bool). cond t (with_stages (staged q v h.stages) h) (with_stages (dropped q h.stages) (store h q v))) (sym e)

-- ── by the verdict ──

module _ (h : Handler) (x : Access) where
  not_refused : (t : Bool) (m : Refusal) (v : Verdict) → cond t (Err m) v ≡ Ok tt → (t ≡ false) × (v ≡ (Ok tt))
  not_refused true m v e = (cc, cc)
  not_refused false m v e = (refl, e)

  -- an accepted value fits its register
  pub accepted_fits : verdict h x ≡ Ok tt → too_wide h x ≡ false
  unfolding verdict first_of
  accepted_fits e =
      let a = not_refused (malformed x) _ _ e in
      let b = not_refused (no_register h x) _ _ a.1 in
      let c = not_refused (wrong_way h x) _ _ b.1 in
      (not_refused (too_wide h x) _ _ c.1).0
