-- Request (xii): what a calm call gives in each case of its verdict.
-- Assumes nothing.
use Prim.Native.Nat.{ℕ, ◌≤◌}
use mathlib.Core.Path.{◌≡◌, refl, sym, ap, ◌∙◌}
use mathlib.Core.Bool.{Bool, true, false}
use mathlib.Core.List.{List, ◌++◌}
use borrow.Author.Tests.{ltb-false}
use lib.Dec.{ltb}
use lib.IntN.{ℤ, pos, neg_ℤ}
use lib.ListN.{length, drop}
use Rattle.std.specs.Prelude.{Result, Ok, Err}
use Rattle.calm_laws.proofs.TwoCalls.{judged}
use Rattle.calm_rules.specs.Call.{bar_number, calm_verdict, calmed_by, list_by, calmed, calmed_list}
use Rattle.calm_rules.specs.Ticks.{calm_run, calm_output, calm_changes}
use Rattle.calm_rules.specs.declared.Bar.{Bar}
use Rattle.calm_rules.specs.declared.Bar.TheVariants.{BadState, TimerOn, ShortList}
use Rattle.calm_rules.specs.declared.Calmed.{Calmed}
use Rattle.rules.specs.State.{is_on}
use Rattle.rules.specs.Tick.{no_output}
use Rattle.rules.specs.Valid.{valid}
use Rattle.rules.specs.declared.Handler.{Handler}
use Rattle.rules.specs.declared.Output.{Output}
use Rattle.rules.specs.declared.Wires.{Wires}
use Rattle.calm.specs.CalmedBy.{CalmedBy}

never : (b : Bar) → ◌≡◌ {A = Result (Unit {0}) Bar} (Err b) (Ok tt) → ⊥
never b e = cc

module _ (h : Handler) (list : List ℕ) where
  -- what the code finds of a call that runs
  pub record Runs : Type 0 where
    pub good : valid h ≡ true
    pub off : is_on h ≡ false
    pub room : 20 ≤ length list

  pub runs : calm_verdict h list ≡ Ok tt → Runs
  runs e = go (valid h) (is_on h) (ltb (length list) 20) refl refl refl
    where
      go : (a b c : Bool) → valid h ≡ a → is_on h ≡ b → ltb (length list) 20 ≡ c → Runs
      go true false false x y z = record { good = x; off = y; room = ltb-false _ _ z }
      go false b c x y z = absurd (never BadState (sym (judged h list false b c x y z) ∙ e))
      go true true c x y z = absurd (never TimerOn (sym (judged h list true true c x y z) ∙ e))
      go true false true x y z = absurd (never ShortList (sym (judged h list true false true x y z) ∙ e))

module _ (h : Handler) (w : Wires) (n : ℕ) (list : List ℕ) where
  -- by the verdict
  by_verdict : (v : Result (Unit {0}) Bar) → calm_verdict h list ≡ v → (r : Calmed) (left : List ℕ) → r ≡ calmed_by v h w n → left ≡ list_by v h w n list → CalmedBy h w n list r left
  unfolding calmed calmed_list
  by_verdict v e r left a b =
      record { gives = a ∙ ap (λ (x : Result (Unit {0}) Bar). calmed_by x h w n) (sym e); leaves = b ∙ ap (λ (x : Result (Unit {0}) Bar). list_by x h w n list) (sym e) }

  pub refused_by : (b : Bar) → calm_verdict h list ≡ Err b → (r : Calmed) → r ≡ record { handler = h; answer = neg_ℤ (pos (bar_number b)); output = no_output }
      → CalmedBy h w n list r list
  refused_by b v r e = by_verdict (Err b) v r list e refl

  pub ran_by : calm_verdict h list ≡ Ok tt → (g : Handler) (a : ℤ) (o : Output) (ws left : List ℕ)
      → g ≡ calm_run h w n → o ≡ calm_output h w n → ws ≡ calm_changes h w n → a ≡ pos (length ws) → left ≡ ws ++ drop (length ws) list
      → CalmedBy h w n list (record { handler = g; answer = a; output = o }) left
  ran_by v g a o ws left x y z b l =
      by_verdict (Ok tt) v _ left
      (λ i. record { handler = x i; answer = (b ∙ ap (λ (us : List ℕ). pos (length us)) z) i; output = y i })
      (l ∙ ap (λ (us : List ℕ). us ++ drop (length us) list) z)
