-- The whole claim across calls once more, of calm calls: said of what one is given and gives back by itself, its answer and the list that it leaves.
-- Assumes nothing.
use Prim.Native.Nat.{ℕ, suc, ◌+◌, ◌≤◌, ◌<◌}
use mathlib.Core.Path.{◌≡◌, ap, ◌∙◌}
use mathlib.Core.Logic.{◌⊎◌, inl, inr}
use mathlib.Core.Bool.{Bool, true, false, false≢true, cond, not, ◌||◌}
use mathlib.Core.List.{List, [], ◌∷◌, ◌++◌}
use native.Mathlib.Omega.{arith}
use borrow.Author.Tests.{lt-ltb, le-ltb}
use lib.Dec.{ltb}
use lib.ListN.{get_or, length, take}
use Rattle.std.specs.Prelude.{Result, Ok, Err}
use Rattle.bits.proofs.IndexLaws.{or_right, at_each}
use Rattle.bits.specs.Bits.{bit}
use Rattle.calm_laws.proofs.CalmRuns.{length_inputs}
use Rattle.calm_laws.proofs.CalmTicks.{input_at}
use Rattle.calm_laws.specs.Tells.{lines_by}
use Rattle.calm_rules.specs.Call.{calm_verdict, inputs_by, calmed, calmed_list, call_inputs}
use Rattle.calm_rules.specs.Ticks.{calm_input, calm_run}
use Rattle.calm_rules.specs.declared.Bar.{Bar}
use Rattle.calm_rules.specs.declared.Bar.TheVariants.{BadState, TimerOn, ShortList}
use Rattle.escalation.specs.List.{given_at}
use Rattle.rules.specs.State.{is_on}
use Rattle.rules.specs.Tick.{lines}
use Rattle.rules.specs.Valid.{valid}
use Rattle.rules.specs.declared.Access.{Access}
use Rattle.rules.specs.declared.Handler.{Handler}
use Rattle.rules.specs.declared.Input.{Input}
use Rattle.rules.specs.declared.Wires.{Wires}
use Rattle.calls.specs.Calls.{Call, Calm, inputs, Shown, Unseen, word_count, change_words, leaves_all, inputs_all}
use Rattle.calls.proofs.WholeCalls.{every_good, every_line}

-- with the timer off and 20 entries it runs
pub calm_runs : (h : Handler) (list : List ℕ) → valid h ≡ true → is_on h ≡ false → 20 ≤ length list → calm_verdict h list ≡ Ok tt
unfolding calm_verdict
calm_runs h list v off l i =
    cond (not (v i)) (Err BadState) (cond (off i) (Err TimerOn) (cond (le-ltb (length list) 20 l i) (Err ShortList) (Ok tt)))

-- ── calls us, then a calm call, then calls bs ──

module _ (h : Handler) (v : valid h ≡ true) (us bs : List Call) (w : Wires) (n : ℕ) (small : n ≤ 4294967295) (list : List ℕ) where
  -- the state on which it is called
  abbrev met : Handler
  met = leaves_all h us

  abbrev calm : Call
  calm = Calm w n small list

  -- it has n ticks
  pub calm_many : is_on met ≡ false → 20 ≤ length list → length (inputs met calm) ≡ n
  unfolding call_inputs
  calm_many off l =
      ap (λ (d : Result (Unit {0}) Bar). length (inputs_by d met w n)) (calm_runs met list (every_good h v us calm bs) off l) ∙ length_inputs met w n

  -- what comes in in its tick j: no access, these wires and word 0
  pub calm_input_law : is_on met ≡ false → 20 ≤ length list → (j : ℕ) (d : Input) → j < n
      → ((get_or (inputs met calm) j d).access ≡ Access.Nothing)
      × (((get_or (inputs met calm) j d).sample.alerts ≡ w) × ((get_or (inputs met calm) j d).sample.word ≡ 0))
  unfolding call_inputs
  calm_input_law off l j d m =
      let x : get_or (inputs met calm) j d ≡ calm_input w (calm_run met w j) =
      ap (λ (u : Result (Unit {0}) Bar). get_or (inputs_by u met w n) j d) (calm_runs met list (every_good h v us calm bs) off l) ∙ input_at met w n j d m in
      (ap (λ (y : Input). y.access) x, (ap (λ (y : Input). y.sample.alerts) x, ap (λ (y : Input). y.sample.word) x))

  -- the lines of its tick j + 1: those of the last word whose tick is at most j + 1, else those of the state
  pub calm_line : is_on met ≡ false → 20 ≤ length list → (first e j : ℕ) → e < 4 → j < n
      → bit (lines_by (lines met) (take (word_count (calmed met w n list).answer) (calmed_list met w n list)) (suc j)) e
      ≡ bit (given_at first h (inputs_all h (us ++ calm ∷ bs)) (first + (length (inputs_all h us) + j))).output.lines e
  calm_line off l first e j b m =
      let k : j < length (inputs met calm) = omega (arith, m, calm_many off l) in
      every_line h v us calm bs first j k (bit (lines_by (lines met) (change_words met w n list) (suc j)))
      (at_each (length (inputs met calm)) (λ i. Shown (bit (lines_by (lines met) (change_words met w n list) (suc i)))) j Unseen k) e b

  -- with the timer on, or with fewer entries, it has no tick
  pub calm_none : (is_on met ≡ true) ⊎ (length list < 20) → inputs met calm ≡ []
  unfolding call_inputs calm_verdict
  calm_none why = go (is_on met) (ltb (length list) 20) (tests why) (every_good h v us calm bs)
    where
      tests : (is_on met ≡ true) ⊎ (length list < 20) → (is_on met || ltb (length list) 20) ≡ true
      tests (inl e) = ap (λ (b : Bool). b || ltb (length list) 20) e
      tests (inr m) = or_right (is_on met) (lt-ltb (length list) 20 m)

      go : (a b : Bool) → (a || b) ≡ true → valid met ≡ true
          → inputs_by (cond (not (valid met)) (Err BadState) (cond a (Err TimerOn) (cond b (Err ShortList) (Ok tt)))) met w n ≡ []
      go true b e g = ap (λ (c : Bool). inputs_by (cond (not c) (Err BadState) (Err TimerOn)) met w n) g
      go false true e g = ap (λ (c : Bool). inputs_by (cond (not c) (Err BadState) (Err ShortList)) met w n) g
      go false false e g = absurd (false≢true e)
