-- Request (ix): "an older batch answers 7 where the timer is on", and none turns it on: its records cannot name register 6.
-- Assumes nothing.
use Prim.Native.Nat.{ℕ, zero, suc}
use mathlib.Core.Path.{◌≡◌, refl, sym, ap, ◌∙◌}
use mathlib.Core.Bool.{Bool, true, false, and-false, ◌&&◌, ◌||◌}
use mathlib.Core.List.{List}
use borrow.Author.Tests.{eqb-true}
use lib.Dec.{eqb}
use Rattle.bits.specs.Index.{each_from}
use Rattle.rules.specs.Access.{accepted}
use Rattle.rules.specs.Map.{within}
use Rattle.rules.specs.Run.{run}
use Rattle.rules.specs.State.{is_on}
use Rattle.rules.specs.Tick.{tick, ticked}
use Rattle.rules.specs.Valid.{valid}
use Rattle.rules.specs.declared.Access.{Access}
use Rattle.rules.specs.declared.Access.TheVariants.{Nothing, Read, Write, Malformed}
use Rattle.rules.specs.declared.Handler.{Handler}
use Rattle.rules.specs.declared.Ticked.{Ticked}
use Rattle.trace_rules.specs.Edition.{has_timer, carry}
use Rattle.trace_rules.specs.Record.{carried, held_in, input_of, inputs_of, record_at, record_count}
use Rattle.trace_rules.specs.declared.Edition.{Edition}
use Rattle.laws.specs.Pinging.{enables}
use Rattle.laws.proofs.Map.Cases.{pick}
use Rattle.laws.proofs.Tick.Turns.{after_on}
use Rattle.trace_laws.proofs.CarryLaws.{older_apart}

module _ (e : Edition) (o : has_timer e ≡ false) where
  not_six : (r : ℕ) → eqb (carry e r) 6 ≡ false
  not_six r = go (eqb (carry e r) 6) refl
    where
      go : (b : Bool) → eqb (carry e r) 6 ≡ b → b ≡ false
      go true t = sym (ap (within 4 3) (eqb-true (carry e r) 6 t)) ∙ older_apart r e o
      go false t = refl

  -- no access of a record turns the timer on
  none_enables : (h : Handler) (a : Access) → enables h (carried e a) ≡ false
  none_enables h Nothing = refl
  none_enables h (Read r) = refl
  none_enables h (Write r v) = ap (λ (b : Bool). accepted h (Write (carry e r) v) && (b && eqb v 1)) (not_six r) ∙ and-false (accepted h (Write (carry e r) v))
  none_enables h Malformed = refl

  -- nor does a tick of one
  tick_off : (h : Handler) (bytes : List ℕ) → is_on h ≡ false → is_on (ticked h (input_of e bytes)).handler ≡ false
  unfolding ticked tick input_of
  tick_off h bytes f =
      pick (λ (t : Ticked). is_on t.handler ≡ false) (valid h) _ _
      (λ _. after_on h (input_of e bytes) ∙ ap (λ (b : Bool). b || enables h (input_of e bytes).access) f ∙ none_enables h (held_in e bytes).access) (λ _. f)

  ticks_off : (b n : ℕ) (f : ℕ → List ℕ) (h : Handler) → is_on h ≡ false → is_on (run h (each_from b n (λ i. input_of e (f i)))) ≡ false
  unfolding run each_from
  ticks_off b zero f h t = t
  ticks_off b (suc n) f h t = ticks_off (suc b) n f (ticked h (input_of e (f b))).handler (tick_off h (f b) t)

  -- a list of an older edition never turns the timer on
  pub older_off : (h : Handler) (bytes : List ℕ) → is_on h ≡ false → is_on (run h (inputs_of e bytes)) ≡ false
  unfolding inputs_of
  older_off h bytes t = ticks_off 0 (record_count e bytes) (record_at e bytes) h t
