-- What step 1 of the rules hands to the later steps satisfies the sentences.
-- Assumes nothing.
use Prim.Native.Nat.{ℕ, zero, suc, ◌^◌, ◌≤◌, ◌<◌}
use mathlib.Core.Path.{◌≡◌, refl, sym, ap, ◌∙◌, subst}
use mathlib.Core.Logic.{◌↔◌}
use mathlib.Core.Bool.{Bool, true, false, cond, ◌&&◌}
use native.Mathlib.Omega.{arith}
use borrow.Author.Tests.{eqb-true, eq-eqb, ltb-true}
use lib.Dec.{eqb, ltb}
use Rattle.std.specs.Prelude.{Ok, Err}
use Rattle.bits.proofs.BitLaws.{bit_none, bits_of_lt}
use Rattle.bits.proofs.IndexLaws.{and-true, true_and}
use Rattle.bits.specs.Bits.{bit}
use Rattle.laws.proofs.Map.Cases.{never}
use Rattle.laws.proofs.Access.Clears.{is_clr}
use Rattle.laws.proofs.Access.Step1.{clears_if, cleared_lt}
use Rattle.rules.specs.Access.{verdict, accepts, accepted, is_clr_of, writes_clr, writes_enable, accessed_by, accessed, effects, clears}
use Rattle.rules.specs.Answer.{refusal_number, Verdict}
use Rattle.rules.specs.Map.{decode, number_of, is_register, bits}
use Rattle.rules.specs.declared.Access.{Access}
use Rattle.rules.specs.declared.Access.TheVariants.{Nothing, Read, Write}
use Rattle.rules.specs.declared.Handler.{Handler}
use Rattle.rules.specs.declared.Register.{Register}
use Rattle.rules.specs.declared.Register.TheVariants.{Only, Block}
use Rattle.rules.specs.declared.Setting.TheVariants.{Clr}
use Rattle.rules.specs.declared.Single.TheVariants.{PingEnable}
use Rattle.sentences.specs.Access.{Handed}
use Rattle.sentences.specs.AccessMap.{Row}
use Rattle.sentences.specs.AccessRefusals.{Writes, Accepted}
use Rattle.sentences.proofs.AccessMap.{found, decode_row}
use Rattle.sentences.proofs.AccessRefusals.{written_is}
use Rattle.sentences.proofs.AccessVerdict.{refusal_of, is_12, accepted_is}
use Rattle.sentences.proofs.SentenceCases.{and_is}

-- ── accepted clears ──

module _ (h : Handler) (x : Access) (m : h.n ≤ 248) where
  writes_clr_law : (k : ℕ) → (writes_clr h x k ≡ true) ↔ Writes h x (Block Clr k) 1
  writes_clr_law k = (to x, from)
    where
      to : (y : Access) → writes_clr h y k ≡ true → Writes h y (Block Clr k) 1
      to Nothing = never
      to (Read r) = never
      to (Write r v) = λ e.
          let a = and-true (is_clr_of k (decode h.n r)) (eqb v 1) e in
          let d : decode h.n r ≡ Block Clr k = is_clr k (decode h.n r) a.0 in
          let t : Row h.n r (decode h.n r) (bits (decode h.n r)) = decode_row h.n r (ap is_register d) in
          record { number = r; access = ap (Write r) (eqb-true v 1 a.1); names = (bits (decode h.n r), subst (λ (q : Register). Row h.n r q (bits (decode h.n r))) d t) }
      to Access.Malformed = never

      from : Writes h x (Block Clr k) 1 → writes_clr h x k ≡ true
      from w =
          ap (λ (y : Access). writes_clr h y k) w.access ∙ ap (λ (q : Register). is_clr_of k q && true) (written_is h m x (Block Clr k) 1 w)
          ∙ true_and (eq-eqb k k refl) refl

  clears_is : (k : ℕ) → k < 4 → (bit (effects h x).clears k ≡ true) ↔ (Accepted h x × Writes h x (Block Clr k) 1)
  unfolding clears
  clears_is k l =
      let f = and_is (accepted h x) (writes_clr h x k) (accepted_is h x m) (writes_clr_law k) in
      (λ e. f.0 (sym (clears_if h x k l) ∙ e), λ p. clears_if h x k l ∙ f.1 p)

  pub clears_hold : (k : ℕ) → (clears h x k ≡ true) ↔ (Accepted h x × Writes h x (Block Clr k) 1)
  unfolding clears
  clears_hold k = (λ e. (clears_is k (cleared_lt h x k e)).0 e, λ p. (clears_is k (lt p.1)).1 p)
    where
      lt : Writes h x (Block Clr k) 1 → k < 4
      lt w = ltb-true k 4 (and-true (ltb k 4) true (found h.n w.number (Block Clr k) w.names.0 w.names.1).exists).0

  clears_width : (effects h x).clears < 16
  unfolding effects accessed
  clears_width = go (verdict h x)
    where
      go : (t : Verdict) → (accessed_by t h x).effects.clears < 16
      go (Ok tt) = bits_of_lt 4 (writes_clr h x)
      go (Err r) = omega arith

  -- ── register 6 becomes 1 ──

  writes_enable_law : (writes_enable h x ≡ true) ↔ (Writes h x (Only PingEnable) 1 × (h.timer.enable ≡ 0))
  unfolding number_of
  writes_enable_law = (to x, λ p. from p.0 p.1)
    where
      to : (y : Access) → writes_enable h y ≡ true → Writes h y (Only PingEnable) 1 × (h.timer.enable ≡ 0)
      to Nothing = never
      to (Read r) = never
      to (Write r v) = λ e.
          let a = and-true (eqb r 6) (eqb v 1 && eqb h.timer.enable 0) e in
          let b = and-true (eqb v 1) (eqb h.timer.enable 0) a.1 in
          let t : Row h.n r (Only PingEnable) 1 = subst (λ (s : ℕ). Row h.n s (Only PingEnable) 1) (sym (eqb-true r 6 a.0)) Row.ping_enable in
          (record { number = r; access = ap (Write r) (eqb-true v 1 b.0); names = (1, t) }, eqb-true h.timer.enable 0 b.1)
      to Access.Malformed = never

      from : Writes h x (Only PingEnable) 1 → h.timer.enable ≡ 0 → writes_enable h x ≡ true
      from w e =
          let r : 6 ≡ w.number = (found h.n w.number (Only PingEnable) w.names.0 w.names.1).number in
          ap (writes_enable h) w.access ∙ true_and (eq-eqb w.number 6 (sym r)) (true_and refl (eq-eqb h.timer.enable 0 e))

  begins_if : (effects h x).begins ≡ (accepted h x && writes_enable h x)
  unfolding effects accessed
  begins_if = go (verdict h x)
    where
      go : (t : Verdict) → (accessed_by t h x).effects.begins ≡ (accepts t && writes_enable h x)
      go (Ok tt) = refl
      go (Err r) = refl

  begins_is : ((effects h x).begins ≡ true) ↔ (Accepted h x × Writes h x (Only PingEnable) 1 × (h.timer.enable ≡ 0))
  begins_is =
      let f = and_is (accepted h x) (writes_enable h x) (accepted_is h x m) writes_enable_law in (
        λ e. let d = f.0 (sym begins_if ∙ e) in (d.0, d.1.0, d.1.1),
        λ p. begins_if ∙ f.1 (p.0, (p.1, p.2)),
      )

  -- ── the local alert that is raised ──

  bit_5 : (j : ℕ) → j < 7 → (bit (2 ^ 5) j ≡ true) ↔ (j ≡ 5)
  unfolding bit
  bit_5 zero l = (never, λ e. absurd (omega arith))
  bit_5 (suc zero) l = (never, λ e. absurd (omega arith))
  bit_5 (suc (suc zero)) l = (never, λ e. absurd (omega arith))
  bit_5 (suc (suc (suc zero))) l = (never, λ e. absurd (omega arith))
  bit_5 (suc (suc (suc (suc zero)))) l = (never, λ e. absurd (omega arith))
  bit_5 (suc (suc (suc (suc (suc zero))))) l = (λ e. refl, λ e. refl)
  bit_5 (suc (suc (suc (suc (suc (suc zero)))))) l = (never, λ e. absurd (omega arith))
  bit_5 (suc (suc (suc (suc (suc (suc (suc j))))))) l = absurd (omega arith)

  raised : (j : ℕ) → j < 7 → (bit (effects h x).raises j ≡ true) ↔ ((j ≡ 5) × (refusal_of (verdict h x) ≡ 12))
  unfolding effects accessed
  raised j l = go (verdict h x)
    where
      by : (b : Bool) (c : ℕ) → (b ≡ true) ↔ (c ≡ 12) → (bit (cond b (2 ^ 5) 0) j ≡ true) ↔ ((j ≡ 5) × (c ≡ 12))
      by true c f = (λ e. ((bit_5 j l).0 e, f.0 refl), λ s. (bit_5 j l).1 s.0)
      by false c f = (λ e. never (sym (bit_none j) ∙ e), λ s. never (f.1 s.1))

      go : (t : Verdict) → (bit (accessed_by t h x).effects.raises j ≡ true) ↔ ((j ≡ 5) × (refusal_of t ≡ 12))
      go (Ok tt) = (λ e. never (sym (bit_none j) ∙ e), λ s. absurd (omega (arith, s.1)))
      go (Err r) = by (eqb (refusal_number r) 12) (refusal_number r) (eqb-true (refusal_number r) 12, eq-eqb (refusal_number r) 12)

  raises_width : (effects h x).raises < 128
  unfolding effects accessed
  raises_width = go (verdict h x)
    where
      by : (b : Bool) → cond b (2 ^ 5) 0 < 128
      by true = omega arith
      by false = omega arith

      go : (t : Verdict) → (accessed_by t h x).effects.raises < 128
      go (Ok tt) = omega arith
      go (Err r) = by (eqb (refusal_number r) 12)

  pub holds_effects : Handed h x (effects h x)
  holds_effects =
      record {
        clears = clears_is;
        classes = clears_width;
        raises = λ j l. let f = raised j (omega arith) in
            (λ e. ((f.0 e).0, (is_12 h x m).0 (f.0 e).1), λ s. f.1 (s.0, (is_12 h x m).1 s.1));
        locals = raises_width;
        begins = begins_is;
      }
