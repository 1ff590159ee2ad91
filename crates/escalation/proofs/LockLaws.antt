-- Demand 3's locks: a register once locked keeps its value through a list of ticks, no stage reaches it, and a locked CLR takes no clear.
-- Assumes nothing.
use Prim.Native.Nat.{ℕ, zero, suc, ◌+◌, ◌-◌, ◌≤◌, ◌<◌}
use mathlib.Core.Path.{◌≡◌, refl, sym, ap, ◌∙◌, subst}
use mathlib.Core.Logic.{◌⊎◌, inl, inr, ⊎_elim}
use mathlib.Core.Bool.{true, false}
use mathlib.Core.List.{List}
use native.Mathlib.Omega.{arith}
use native.Mathlib.Nat.{add-zero, add-suc}
use borrow.Author.Tests.{lt-ltb}
use lib.ListN.{length}
use Rattle.bits.proofs.IndexLaws.{true_and}
use Rattle.laws.proofs.Access.Clears
use Rattle.laws.proofs.Map.Cases.{by_kind}
use Rattle.laws.proofs.Tick.Frame.{after_n}
use Rattle.laws.proofs.Access.Locks.{StageLeft, after_locked, after_left}
use Rattle.laws.proofs.Map.MapLaws.{decode_number, decode_in_map}
use Rattle.laws.proofs.Valid.ValidLaws.{facts}
use Rattle.laws.specs.InMap.{in_map}
use Rattle.rules.specs.Access.{value, locked, clears}
use Rattle.rules.specs.Map.{decode, number_of, is_register, guard}
use Rattle.rules.specs.Stages.{stage}
use Rattle.rules.specs.State.{most, class_count}
use Rattle.rules.specs.Tick.{after}
use Rattle.rules.specs.Valid.{valid}
use Rattle.rules.specs.declared.Handler.{Handler}
use Rattle.rules.specs.declared.Input.{Input}
use Rattle.rules.specs.declared.Register.{Register}
use Rattle.rules.specs.declared.Register.TheVariants.{Block}
use Rattle.rules.specs.declared.Setting.TheVariants.{Clr}
use Rattle.escalation.specs.Escalation.{Locked, value_of, stage_of}
use Rattle.escalation.proofs.ListTicks.{at, input, at_valid, at_next}

-- what is locked is a register
locked_register : (h : Handler) (q : Register) → locked h q ≡ true → is_register q ≡ true
unfolding locked guard
locked_register h q =
    by_kind (λ q. locked h q ≡ true → is_register q ≡ true) (λ o e. refl) (λ f j e. refl) (λ f i e. refl)
    (λ s k e. refl) (λ e. e) q

-- from the state f to the state g: as many alerts, q is still locked and holds the same, and its stage is the same or none
record Kept (f g : Handler) (q : Register) : Type 0 where
  pub n : g.n ≡ f.n
  pub still : locked g q ≡ true
  pub holds : value g q ≡ value f q
  pub left : StageLeft (stage f q) (stage g q)

-- one change of a stage after another
left_then : (a b c : ℕ) → StageLeft a b → StageLeft b c → StageLeft a c
left_then a b c f g = ⊎_elim (λ (e : c ≡ b). ⊎_elim (λ (d : b ≡ a). inl (e ∙ d)) (λ (d : b ≡ 0). inr (e ∙ d)) f) (λ (e : c ≡ 0). inr e) g

-- one tick more
kept_next : (f g : Handler) (x : Input) (q : Register) → f.n ≤ most → in_map f.n q ≡ true → Kept f g q → Kept f (after g x) q
kept_next f g x q m a k =
    let m : g.n ≤ most = omega (arith, k.n) in
    let b : in_map g.n q ≡ true = ap (λ (n : ℕ). in_map n q) k.n ∙ a in
    let l = after_locked g x q m b k.still in
    record {
      n = after_n g x ∙ k.n;
      still = l.0;
      holds = l.1 ∙ k.holds;
      left = left_then (stage f q) (stage g q) (stage (after g x) q) k.left (after_left g x q m b k.still);
    }

module _ (h : Handler) (xs : List Input) (v : valid h ≡ true) where
  -- d ticks more
  kept : (i d : ℕ) (q : Register) → i + d ≤ length xs → in_map (at h xs i).n q ≡ true → locked (at h xs i) q ≡ true
      → Kept (at h xs i) (at h xs (i + d)) q
  kept i zero q l a e = rw add-zero (record { n = refl; still = e; holds = refl; left = inl refl })
  kept i (suc d) q l a e =
      let k = kept i d q (omega arith) a e in
      rw (add-suc, at_next h xs v (i + d) (omega arith))
      (kept_next (at h xs i) (at h xs (i + d)) (input xs (i + d)) q (facts (at h xs i) (at_valid h xs v i)).n a k)

  -- register number r
  kept_at : (i j r : ℕ) → i ≤ j → j ≤ length xs → Locked (at h xs i) r → Kept (at h xs i) (at h xs j) (decode (at h xs i).n r)
  kept_at i j r l m e =
      let q : Register = decode (at h xs i).n r in
      let s : i + (j - i) ≡ j = omega arith in
      rw s at (kept i (j - i) q (omega arith) (decode_in_map (at h xs i).n r (locked_register (at h xs i) q e)) e)

  same_register : (i j r : ℕ) → Kept (at h xs i) (at h xs j) (decode (at h xs i).n r) → decode (at h xs j).n r ≡ decode (at h xs i).n r
  same_register i j r k = ap (λ (n : ℕ). decode n r) k.n

  pub locks : (i j r : ℕ) → i ≤ j → j ≤ length xs → Locked (at h xs i) r → Locked (at h xs j) r × (value_of (at h xs j) r ≡ value_of (at h xs i) r)
  locks i j r l m e =
      let k = kept_at i j r l m e in
      let d = same_register i j r k in
      (ap (locked (at h xs j)) d ∙ k.still, ap (value (at h xs j)) d ∙ k.holds)

  pub stages : (i j r : ℕ) → i ≤ j → j ≤ length xs → Locked (at h xs i) r
      → (stage_of (at h xs j) r ≡ stage_of (at h xs i) r) ⊎ (stage_of (at h xs j) r ≡ 0)
  stages i j r l m e =
      let k = kept_at i j r l m e in
      subst (λ (q : Register). StageLeft (stage_of (at h xs i) r) (stage (at h xs j) q)) (sym (same_register i j r k)) k.left

  pub no_clear : (i j k : ℕ) → k < class_count → i ≤ j → j < length xs → Locked (at h xs i) (number_of (Block Clr k))
      → clears (at h xs j) (input xs j).access k ≡ false
  no_clear i j k s l m e =
      let n : (at h xs j).n ≤ most = (facts (at h xs j) (at_valid h xs v j)).n in
      let d : decode (at h xs j).n (number_of (Block Clr k)) ≡ Block Clr k = decode_number (at h xs j).n (Block Clr k) n (true_and (lt-ltb k class_count s) refl) in
      Clears.no_clear (at h xs j) (input xs j).access k (ap (locked (at h xs j)) (sym d) ∙ (locks i j (number_of (Block Clr k)) l (omega arith) e).0)
