-- Request (xii): the ticks of a calm call one by one, as a list of ticks has them.
-- Assumes nothing.
use Prim.Native.Nat.{ℕ, zero, suc, ◌≤◌, ◌<◌}
use mathlib.Core.Path.{◌≡◌, sym, ap, ap₂, ◌∙◌}
use mathlib.Core.List.{List, [], ◌∷◌, ◌++◌}
use native.Mathlib.Decide.{dec_lt}
use native.Mathlib.Nat.{not-suc-le-zero, add-zero}
use native.Mathlib.Omega.{arith}
use lib.ListN.{get_or, length, take, get_or-append}
use lib.Seq.{take-append-le, get_or-append-add, take-length}
use Rattle.laws.proofs.Tick.Runs.{ticks_at}
use Rattle.rules.specs.Run.{run, ticks}
use Rattle.rules.specs.Tick.{ticked}
use Rattle.rules.specs.declared.Handler.{Handler}
use Rattle.rules.specs.declared.Input.{Input}
use Rattle.rules.specs.declared.Ticked.{Ticked}
use Rattle.rules.specs.declared.Wires.{Wires}
use Rattle.calm_rules.specs.Ticks.{calm_input, calm_run, calm_inputs, calm_output}
use Rattle.calm_laws.proofs.CalmRuns.{calm_is_run, length_inputs}

module _ (h : Handler) (w : Wires) where
  abbrev last : ℕ → List Input
  last n = calm_input w (calm_run h w n) ∷ []

  -- the first i of n inputs are those of i ticks
  first_inputs : (n i : ℕ) → i ≤ n → take i (calm_inputs h w n) ≡ calm_inputs h w i
  unfolding calm_inputs
  first_inputs zero i l = let e : i ≡ 0 = omega arith in ap (λ (j : ℕ). take j []) e ∙ ap (calm_inputs h w) (sym e)
  first_inputs (suc n) i l = go (dec_lt i (suc n)) (λ m. first_inputs n i (omega arith))
    where
      go : Dec (i < suc n) → (i < suc n → take i (calm_inputs h w n) ≡ calm_inputs h w i) → take i (calm_inputs h w n ++ last n) ≡ calm_inputs h w i
      go (yes m) fewer = take-append-le i (calm_inputs h w n) (last n) (omega (arith, length_inputs h w n)) ∙ fewer m
      go (no m) fewer =
          let e : i ≡ suc n = omega arith in
          let all : length (calm_inputs h w (suc n)) ≡ i = length_inputs h w (suc n) ∙ sym e in
          ap (λ (j : ℕ). take j (calm_inputs h w (suc n))) (sym all) ∙ take-length (calm_inputs h w (suc n)) ∙ ap (calm_inputs h w) (sym e)

  -- the input of tick i + 1
  pub input_at : (n i : ℕ) (d : Input) → i < n → get_or (calm_inputs h w n) i d ≡ calm_input w (calm_run h w i)
  unfolding calm_inputs
  input_at zero i d l = absurd (not-suc-le-zero l)
  input_at (suc n) i d l = go (dec_lt i n) (λ m. input_at n i d m)
    where
      go : Dec (i < n) → (i < n → get_or (calm_inputs h w n) i d ≡ calm_input w (calm_run h w i)) → get_or (calm_inputs h w n ++ last n) i d ≡ calm_input w (calm_run h w i)
      go (yes m) earlier = get_or-append (calm_inputs h w n) (last n) d i (omega (arith, length_inputs h w n)) ∙ earlier m
      go (no m) earlier =
          let e : i ≡ n = omega arith in
          ap (λ (j : ℕ). get_or (calm_inputs h w n ++ last n) j d) (e ∙ sym (add-zero (length (calm_inputs h w n)) ∙ length_inputs h w n))
          ∙ get_or-append-add (calm_inputs h w n) (last n) 0 d
          ∙ ap (λ (j : ℕ). calm_input w (calm_run h w j)) (sym e)

  -- what tick i + 1 gives
  pub calm_tick_at : (n i : ℕ) (d : Input) (e : Ticked) → i < n
      → get_or (ticks h (calm_inputs h w n)) i e ≡ ticked (calm_run h w i) (calm_input w (calm_run h w i))
  calm_tick_at n i d e l =
      ticks_at h (calm_inputs h w n) i d e (omega (arith, length_inputs h w n))
      ∙ ap₂ ticked (ap (run h) (first_inputs n i (omega arith)) ∙ sym (calm_is_run h w i)) (input_at n i d l)

  pub calm_output_at : (n i : ℕ) (d : Input) (e : Ticked) → i < n → (get_or (ticks h (calm_inputs h w n)) i e).output ≡ calm_output h w (suc i)
  unfolding calm_output
  calm_output_at n i d e l = ap (λ (t : Ticked). t.output) (calm_tick_at n i d e l)
