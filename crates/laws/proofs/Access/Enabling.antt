-- Request (ix), register 6 in step 1: an accepted write of 1 sets it, nothing clears it, and the timer begins where it becomes 1.
-- Assumes nothing.
use Prim.Native.Nat.{ℕ, zero, suc, ◌+◌, ◌*◌, ◌^◌, ◌<◌}
use mathlib.Core.Path.{◌≡◌, refl, sym, ap, ap₂, ◌∙◌, subst}
use mathlib.Core.Bool.{Bool, true, false, true≢false, or-true, or-false, cond, not, ◌&&◌, ◌||◌}
use native.Mathlib.Omega.{arith}
use borrow.Author.Tests.{eqb-true, ltb-true, ne_eqb, not-false}
use lib.Dec.{eqb}
use Rattle.std.specs.Prelude.{Ok, Err}
use Rattle.bits.proofs.IndexLaws.{and-true}
use Rattle.rules.specs.Access.{store, verdict, accepts, accepted, is_first, accessed_by, accessed, acted, effects}
use Rattle.rules.specs.Map.{stride, class_base, offset, decode, number_of, single_number, bits, is_register, is_shadowed}
use Rattle.rules.specs.Stages.{is_open}
use Rattle.rules.specs.State.{field_index, is_on}
use Rattle.rules.specs.declared.Access.{Access}
use Rattle.rules.specs.declared.Access.TheVariants.{Nothing, Read, Write, Malformed}
use Rattle.rules.specs.declared.Handler.{Handler}
use Rattle.rules.specs.declared.Register.{Register}
use Rattle.rules.specs.declared.Register.TheVariants.{Only}
use Rattle.rules.specs.declared.Single.TheVariants.{PingEnable}
use Rattle.rules.specs.Answer.{Verdict}
use Rattle.laws.specs.Pinging.{enables}
use Rattle.laws.specs.RegisterFile.{stored_by}
use Rattle.laws.proofs.Map.Cases.{pick, by_kind, by_single, never}
use Rattle.laws.proofs.Map.MapLaws.{number_decode}
use Rattle.laws.proofs.Access.Refusals.{unrefused}
use Rattle.laws.proofs.Access.Step1.{acted_but_stages}

-- ── a store ──

-- is it register 6?
abbrev is_enable : Register → Bool
is_enable q = eqb (number_of q) (single_number PingEnable)

-- the numbers of the others that there are more of are above it
above_six : (a : ℕ) → 6 < a → eqb a 6 ≡ false
above_six a l = ne_eqb a 6 (λ (e : a ≡ 6). omega arith)

module _ (h : Handler) (v : ℕ) where
  abbrev Stored : Register → Type 0
  Stored q = (store h q v).timer.enable ≡ cond (is_enable q) (cond (eqb v 0) h.timer.enable v) h.timer.enable

  -- every other register leaves it
  stored_enable : (q : Register) → Stored q
  unfolding store number_of
  stored_enable =
      by_kind Stored (by_single (λ o. Stored (Only o)) refl refl refl refl refl refl) (λ f j. apart (16 + 8 * field_index f + j) (omega arith))
      (λ f i. apart ((1 + field_index f) * stride + i) (omega arith)) (λ s k. apart (class_base + 16 * k + offset s) (omega arith)) refl
    where
      apart : (a : ℕ) → 6 < a → h.timer.enable ≡ cond (eqb a 6) (cond (eqb v 0) h.timer.enable v) h.timer.enable
      apart a l = ap (λ (b : Bool). cond b (cond (eqb v 0) h.timer.enable v) h.timer.enable) (sym (above_six a l))

  -- 1 of what fits it and is not 0
  one_of : (w : ℕ) → w < 2 → eqb w 0 ≡ false → eqb w 1 ≡ true
  one_of zero l z = absurd (true≢false z)
  one_of (suc zero) l z = refl
  one_of (suc (suc w)) l z = absurd (omega arith)

  abbrev StaysOn : Register → Type 0
  StaysOn q = v < 2 ^ bits q → is_on h ≡ true → is_on (store h q v) ≡ true

  -- once it is 1, no value that fits makes it another
  pub stored_on : (q : Register) → StaysOn q
  unfolding store bits
  stored_on =
      by_kind StaysOn
      (by_single (λ o. StaysOn (Only o)) (λ l e. e) (λ l e. e) (λ l e. e) (λ l e. e) (λ l e. e)
      (λ l e. pick (λ (n : ℕ). eqb n 1 ≡ true) (eqb v 0) h.timer.enable v (λ _. e) (one_of v l)))
      (λ f j l e. e) (λ f i l e. e) (λ s k l e. e) (λ l e. e)

-- ── the access ──

-- a register that is shadowed is another
shadowed_other : (q : Register) → is_shadowed q ≡ true → is_enable q ≡ false
unfolding is_shadowed number_of
shadowed_other =
    by_kind P (by_single (λ o. P (Only o)) (λ e. refl) (λ e. refl) (λ e. refl) (λ e. refl) (λ e. refl) never)
    (λ f j e. above_six (16 + 8 * field_index f + j) (omega arith)) (λ f i e. above_six ((1 + field_index f) * stride + i) (omega arith))
    (λ s k e. above_six (class_base + 16 * k + offset s) (omega arith)) (λ e. refl)
  where
    P : Register → Type 0
    P q = is_shadowed q ≡ true → is_enable q ≡ false

module _ (h : Handler) (r v : ℕ) (a : accepted h (Write r v) ≡ true) where
  abbrev q : Register
  q = decode h.n r

  by_number : is_enable q ≡ eqb r (single_number PingEnable)
  by_number =
      ap (λ (k : ℕ). eqb k (single_number PingEnable)) (number_decode h.n r (not-false (is_register q) (unrefused h (Write r v) a).exists))

  -- what is written to it is 0 or 1
  one_bit : eqb r (single_number PingEnable) ≡ true → v < 2
  unfolding decode bits
  one_bit e =
      let i : q ≡ Only PingEnable = ap (decode h.n) (eqb-true r (single_number PingEnable) e) in
      subst (λ (p : Register). v < 2 ^ bits p) i (ltb-true v (2 ^ bits q) (not-false _ (unrefused h (Write r v) a).width))

  chosen : (w : ℕ) → w < 2 → cond (eqb w 0) h.timer.enable w ≡ cond (eqb w 1) 1 h.timer.enable
  chosen zero l = refl
  chosen (suc zero) l = refl
  chosen (suc (suc w)) l = absurd (omega arith)

  wrote : (b : Bool) → is_first h q ≡ b
      → (cond (not b) (store h q v) h).timer.enable ≡ cond (eqb r (single_number PingEnable) && eqb v 1) 1 h.timer.enable
  wrote true f =
      ap (λ (b : Bool). cond (b && eqb v 1) 1 h.timer.enable)
      (sym (sym by_number ∙ shadowed_other q (and-true (is_shadowed q) (not (is_open h.stages q)) f).0))
  wrote false f = stored_enable h v q ∙ ap (λ (b : Bool). cond b (cond (eqb v 0) h.timer.enable v) h.timer.enable) by_number ∙ go (eqb r (single_number PingEnable)) refl
    where
      go : (b : Bool) → eqb r (single_number PingEnable) ≡ b
          → cond b (cond (eqb v 0) h.timer.enable v) h.timer.enable ≡ cond (b && eqb v 1) 1 h.timer.enable
      go true e = chosen v (one_bit e)
      go false e = refl

module _ (h : Handler) (x : Access) where
  -- register 6 after step 1
  pub acted_enable : (acted h x).timer.enable ≡ cond (enables h x) 1 h.timer.enable
  acted_enable = acted_but_stages h x (λ g. g.timer.enable ≡ cond (enables h x) 1 h.timer.enable) (λ _. go x)
    where
      by : (r v : ℕ) (b : Bool) → accepted h (Write r v) ≡ b
          → (cond (b && not (is_first h (decode h.n r))) (store h (decode h.n r) v) h).timer.enable
          ≡ cond (b && (eqb r (single_number PingEnable) && eqb v 1)) 1 h.timer.enable
      by r v true a = wrote h r v a (is_first h (decode h.n r)) refl
      by r v false a = refl

      go : (y : Access) → (stored_by h y).timer.enable ≡ cond (enables h y) 1 h.timer.enable
      go Nothing = refl
      go (Read r) = refl
      go (Write r v) = by r v (accepted h (Write r v)) refl
      go Malformed = refl

  -- the timer is on after step 1
  pub acted_on : is_on (acted h x) ≡ (is_on h || enables h x)
  acted_on = ap (λ (n : ℕ). eqb n 1) acted_enable ∙ go (enables h x)
    where
      go : (b : Bool) → eqb (cond b 1 h.timer.enable) 1 ≡ (is_on h || b)
      go true = sym (or-true (is_on h))
      go false = sym (or-false (is_on h))

  -- "Once 6 is 1 it stays 1", whatever the access
  pub on_stays : is_on h ≡ true → is_on (acted h x) ≡ true
  on_stays e = acted_on ∙ ap (λ (b : Bool). b || enables h x) e

  -- "When 6 becomes 1": the write of 1 is accepted, and it was 0
  pub begins_is : (effects h x).begins ≡ (enables h x && eqb h.timer.enable 0)
  unfolding effects accessed
  begins_is = go x (verdict h x) refl
    where
      both : (b c : Bool) → (b && (c && eqb h.timer.enable 0)) ≡ ((b && c) && eqb h.timer.enable 0)
      both true c = refl
      both false c = refl

      go : (y : Access) (t : Verdict) → verdict h y ≡ t → (accessed_by t h y).effects.begins ≡ (enables h y && eqb h.timer.enable 0)
      go Nothing (Ok tt) e = refl
      go (Read r) (Ok tt) e = refl
      go (Write r v) (Ok tt) e =
          both (eqb r (single_number PingEnable)) (eqb v 1)
          ∙ ap (λ (t : Verdict). (accepts t && (eqb r (single_number PingEnable) && eqb v 1)) && eqb h.timer.enable 0) (sym e)
      go Malformed (Ok tt) e = refl
      go Nothing (Err m) e = refl
      go (Read r) (Err m) e = refl
      go (Write r v) (Err m) e =
          ap (λ (t : Verdict). (accepts t && (eqb r (single_number PingEnable) && eqb v 1)) && eqb h.timer.enable 0) (sym e)
      go Malformed (Err m) e = refl

  -- where it can only be 0 or 1, it is 1 after step 1 if it was or becomes 1 ..
  pub on_is : h.timer.enable < 2 → is_on (acted h x) ≡ (is_on h || (effects h x).begins)
  on_is l = acted_on ∙ go h.timer.enable l (enables h x) ∙ ap (λ (b : Bool). is_on h || b) (sym begins_is)
    where
      go : (n : ℕ) → n < 2 → (b : Bool) → (eqb n 1 || b) ≡ (eqb n 1 || (b && eqb n 0))
      go zero l true = refl
      go zero l false = refl
      go (suc zero) l b = refl
      go (suc (suc n)) l b = absurd (omega arith)

  -- .. and the timer runs in the tick if it was on before it
  pub runs_is : h.timer.enable < 2 → (is_on (acted h x) && not (effects h x).begins) ≡ is_on h
  runs_is l = ap₂ (λ (a b : Bool). a && not b) acted_on begins_is ∙ go h.timer.enable l (enables h x)
    where
      go : (n : ℕ) → n < 2 → (b : Bool) → ((eqb n 1 || b) && not (b && eqb n 0)) ≡ eqb n 1
      go zero l true = refl
      go zero l false = refl
      go (suc zero) l true = refl
      go (suc zero) l false = refl
      go (suc (suc n)) l b = absurd (omega arith)
