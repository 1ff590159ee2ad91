-- An accepted clear of a class is a write of 1 to its CLR while that is not locked.
-- Assumes nothing.
use Prim.Native.Nat.{ℕ, ◌+◌}
use mathlib.Core.Path.{◌≡◌, refl, sym, ap, ap₂, ◌∙◌, subst}
use mathlib.Core.Logic.{◌↔◌}
use mathlib.Core.Bool.{Bool, true, false, not}
use mathlib.Core.Bool
use native.Mathlib.Omega.{arith}
use borrow.Author.Tests.{eqb-true, eq-eqb}
use lib.Dec.{eqb}
use Rattle.bits.proofs.IndexLaws.{and-true, true_and}
use Rattle.bits.specs.Bits.{fits}
use Rattle.rules.specs.Access.{locked, silly, bars, unlike, setting_is_clr, is_clr_of, clears}
use Rattle.rules.specs.Map.{decode, is_register, bits, read_only, is_lock}
use Rattle.rules.specs.Stages.{stage_in}
use Rattle.rules.specs.declared.Access.{Access}
use Rattle.rules.specs.declared.Access.TheVariants.{Nothing, Read, Write, Malformed}
use Rattle.rules.specs.declared.Handler.{Handler}
use Rattle.rules.specs.declared.Register.{Register}
use Rattle.rules.specs.declared.Register.TheVariants.{Block}
use Rattle.rules.specs.declared.Setting.{Setting}
use Rattle.rules.specs.declared.Setting.TheVariants.{Clr}
use Rattle.laws.specs.ClearedBy.{ClearedBy}
use Rattle.laws.specs.Refusals.{Unrefused}
use Rattle.laws.proofs.Map.Cases.{by_kind, by_setting, never}
use Rattle.laws.proofs.Map.MapLaws.{block_lt}
use Rattle.laws.proofs.Access.Refusals.{unrefused, is_accepted}
use Rattle.laws.proofs.Access.Step1.{clears_if, clears_both}

-- only a class's CLR is one
setting_clr : (s : Setting) → setting_is_clr s ≡ true → s ≡ Clr
setting_clr s =
    by_setting (λ s. setting_is_clr s ≡ true → s ≡ Clr) never never never (λ e. refl) never never never
    (λ p e. let o : 7 + p ≡ 3 = eqb-true (7 + p) 3 e in absurd (omega arith)) never never s

-- and only one of them is that of class k
pub is_clr : (k : ℕ) (q : Register) → is_clr_of k q ≡ true → q ≡ Block Clr k
is_clr k q =
    by_kind (λ q. is_clr_of k q ≡ true → q ≡ Block Clr k) (λ o. never) (λ f j. never) (λ f i. never)
    (λ s j e. let b = and-true (setting_is_clr s) (eqb j k) e in ap₂ Block (setting_clr s b.0) (eqb-true j k b.1)) never q

-- a write to CLR is barred while it is locked
clr_bars : (h : Handler) (k v : ℕ) → bars h (Block Clr k) v ≡ locked h (Block Clr k)
unfolding is_lock
clr_bars h k v = mathlib.Core.Bool.and-true (locked h (Block Clr k))

-- an accepted clear is a write of 1 to an unlocked CLR
pub clears_by : (h : Handler) (x : Access) (k : ℕ) → clears h x k ≡ true → ClearedBy h x k
clears_by h Nothing k e = never (clears_both h Nothing k e).1
clears_by h (Read r) k e = never (clears_both h (Read r) k e).1
clears_by h (Write r v) k e =
    let a = clears_both h (Write r v) k e in
    let b = and-true (is_clr_of k (decode h.n r)) (eqb v 1) a.1 in
    let i : decode h.n r ≡ Block Clr k = is_clr k (decode h.n r) b.0 in
    record {
      number = r;
      access = ap (Write r) (eqb-true v 1 b.1);
      names = i;
      free = sym (clr_bars h k v) ∙ ap (λ (q : Register). bars h q v) (sym i) ∙ (unrefused h (Write r v) a.0).free;
    }
clears_by h Malformed k e = never (clears_both h Malformed k e).1

-- and such a write is one
pub clears_when : (h : Handler) (x : Access) (k : ℕ) → ClearedBy h x k → clears h x k ≡ true
unfolding read_only bits stage_in
clears_when h x k c =
    subst (λ (y : Access). clears h y k ≡ true) (sym c.access)
    (clears_if h (Write c.number 1) k (block_lt h.n c.number Clr k c.names)
    ∙ true_and (is_accepted h (Write c.number 1) unbarred)
    (true_and (ap (is_clr_of k) c.names ∙ eq-eqb k k refl) refl))
  where
    at : {A : Type 0} (f : Register → A) → f (decode h.n c.number) ≡ f (Block Clr k)
    at f = ap f c.names

    unbarred : Unrefused h (Write c.number 1)
    unbarred =
        record {
          formed = refl;
          exists = at (λ q. not (is_register q));
          way = at read_only;
          width = at (λ q. not (fits (bits q) 1));
          threshold = at (λ q. silly h q 1);
          free = at (λ q. bars h q 1) ∙ clr_bars h k 1 ∙ c.free;
          same = at (λ q. unlike h q 1);
        }

-- a write of 1 to an unlocked CLR is an accepted clear, and nothing else is
pub clears_is : (h : Handler) (x : Access) (k : ℕ) → clears h x k ≡ true ↔ ClearedBy h x k
clears_is h x k = (clears_by h x k, clears_when h x k)

-- no accepted clear while CLR is locked
pub no_clear : (h : Handler) (x : Access) (k : ℕ) → locked h (Block Clr k) ≡ true → clears h x k ≡ false
no_clear h x k e = go (clears h x k) refl
  where
    go : (b : Bool) → clears h x k ≡ b → b ≡ false
    go true c = never (sym (clears_by h x k c).free ∙ e)
    go false c = refl
