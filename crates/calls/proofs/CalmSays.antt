-- Request (xii): every calm call is as its sentences say.
-- Assumes nothing.
use Prim.Native.Nat.{ℕ, suc, ◌+◌, ◌≤◌, ◌<◌}
use mathlib.Core.Path.{◌≡◌, refl, sym, ap, ◌∙◌, subst}
use mathlib.Core.Bool.{Bool, true, false, cond, not}
use mathlib.Core.List.{List}
use native.Mathlib.Omega.{arith}
use borrow.Author.Tests.{lt-ltb}
use lib.Dec.{eqb, ltb}
use lib.IntN.{pos}
use lib.ListN.{get_or, length}
use Rattle.std.specs.Prelude.{Result, Ok, Err}
use Rattle.bits.specs.Bits.{bits_of}
use Rattle.bits.specs.Index.{place_in}
use Rattle.calm_laws.proofs.CallTicks.{call_is_run}
use Rattle.calm_laws.proofs.CalmRuns.{length_inputs, calm_valid, calm_off}
use Rattle.calm_laws.proofs.CalmTicks.{input_at, calm_output_at}
use Rattle.calm_laws.proofs.PlainTick.{line_right}
use Rattle.calm_rules.specs.Call.{bar_number, calm_verdict, inputs_by, words_by, calmed_by, list_by, calmed, calmed_list, call_inputs, call_words}
use Rattle.calm_rules.specs.Ticks.{calm_input, calm_run, calm_inputs, calm_output}
use Rattle.calm_rules.specs.declared.Bar.{Bar}
use Rattle.calm_rules.specs.declared.Bar.TheVariants.{BadState, TimerOn, ShortList}
use Rattle.calm_rules.specs.declared.Calmed.{Calmed}
use Rattle.escalation.specs.List.{no_tick}
use Rattle.laws.proofs.Tick.Pairs.{pairs_at}
use Rattle.rules.specs.Run.{ticks}
use Rattle.rules.specs.State.{is_on}
use Rattle.rules.specs.Tick.{no_output}
use Rattle.rules.specs.Valid.{valid}
use Rattle.rules.specs.declared.Handler.{Handler}
use Rattle.rules.specs.declared.Input.{Input}
use Rattle.rules.specs.declared.Output.{Output}
use Rattle.rules.specs.declared.Wires.{Wires}
use Rattle.calls.specs.CalmSays.{LowPairs, RefusedWith, CalmTick, Ran, CalmSays}
use Rattle.calls.proofs.WholeCalmCalls.{calm_runs}

-- the pairs of refusal 7 are low, and so are those of tick 0
low_escalation : (no_output.escalation.pos ≡ 0) × (no_output.escalation.neg ≡ 15)
unfolding bits_of
low_escalation = (refl, refl)

low : (o : Output) → o.acknowledge ≡ no_output.acknowledge → o.ping ≡ no_output.ping → o.escalation ≡ no_output.escalation → LowPairs o
low o a p e =
    record {
      acknowledge =
          λ i l. let x = pairs_at (λ j. false) i (omega arith) in (ap (λ z. place_in z.pos i) a ∙ x.0, ap (λ z. place_in z.neg i) a ∙ x.1);
      ping = λ i l. let x = pairs_at (λ j. false) i (omega arith) in (ap (λ z. place_in z.pos i) p ∙ x.0, ap (λ z. place_in z.neg i) p ∙ x.1);
      escalation = (ap (λ z. z.pos) e ∙ low_escalation.0, ap (λ z. z.neg) e ∙ low_escalation.1);
    }

module _ (h : Handler) (w : Wires) (n : ℕ) (list : List ℕ) where
  -- ── refused ──

  refused : (b : Bar) → calm_verdict h list ≡ Err b → RefusedWith (bar_number b) h w n list
  unfolding calmed calmed_list
  refused b e =
      let r : calmed h w n list ≡ calmed_by (Err b) h w n = ap (λ (v : Result (Unit {0}) Bar). calmed_by v h w n) e in
      record {
        answer = ap (λ (c : Calmed). c.answer) r;
        state = ap (λ (c : Calmed). c.handler) r;
        same_list = ap (λ (v : Result (Unit {0}) Bar). list_by v h w n list) e;
        off = (ap (λ (c : Calmed). c.output.interrupts) r, ap (λ (c : Calmed). c.output.lines) r);
        pairs =
            low (calmed h w n list).output (ap (λ (c : Calmed). c.output.acknowledge) r) (ap (λ (c : Calmed). c.output.ping) r)
            (ap (λ (c : Calmed). c.output.escalation) r);
      }

  judged : (a b c : Bool) → valid h ≡ a → is_on h ≡ b → ltb (length list) 20 ≡ c
      → calm_verdict h list ≡ cond (not a) (Err BadState) (cond b (Err TimerOn) (cond c (Err ShortList) (Ok tt)))
  unfolding calm_verdict
  judged a b c x y z = λ i. cond (not (x i)) (Err BadState) (cond (y i) (Err TimerOn) (cond (z i) (Err ShortList) (Ok tt)))

  -- ── runs ──

  module _ (v : valid h ≡ true) (off : is_on h ≡ false) (l : 20 ≤ length list) where
    runs : calm_verdict h list ≡ Ok tt
    runs = calm_runs h list v off l

    gives : (m : ℕ) → calmed h w m list ≡ calmed_by (Ok tt) h w m
    unfolding calmed
    gives m = ap (λ (x : Result (Unit {0}) Bar). calmed_by x h w m) runs

    inputs_are : call_inputs h w n list ≡ calm_inputs h w n
    unfolding call_inputs
    inputs_are = ap (λ (x : Result (Unit {0}) Bar). inputs_by x h w n) runs

    answer_is : (calmed h w n list).answer ≡ pos (length (call_words h w n list))
    unfolding call_words
    answer_is = ap (λ (c : Calmed). c.answer) (gives n) ∙ ap (λ (x : Result (Unit {0}) Bar). pos (length (words_by x h w n))) (sym runs)

    tick_in : (i : ℕ) (d : Input) → i < n → (g : Handler) → g ≡ (calmed h w i list).handler → CalmTick g w (get_or (call_inputs h w n list) i d)
    tick_in i d m g e =
        let q = calm_run h w i in
        let s : g ≡ q = e ∙ ap (λ (c : Calmed). c.handler) (gives i) in
        let x : get_or (call_inputs h w n list) i d ≡ calm_input w q = ap (λ xs. get_or xs i d) inputs_are ∙ input_at h w n i d m in
        subst (λ (f : Handler). CalmTick f w (get_or (call_inputs h w n list) i d)) (sym s)
        (subst (λ (y : Input). CalmTick q w y) (sym x)
        (record {
          access = refl;
          alerts = refl;
          word = refl;
          sound = line_right q w (calm_valid h w v i) (calm_off h w v off i);
        }))

    last_is : (m : ℕ) → m + 1 ≡ n → (calmed h w n list).output ≡ (get_or (ticks h (call_inputs h w n list)) m no_tick).output
    last_is m e =
        let k : suc m ≡ n = omega (arith, e) in
        ap (λ (c : Calmed). c.output) (gives n)
        ∙ ap (calm_output h w) (sym k)
        ∙ sym (calm_output_at h w n m (calm_input w h) no_tick (omega (arith, e)))
        ∙ ap (λ xs. (get_or (ticks h xs) m no_tick).output) (sym inputs_are)

    nothing : n ≡ 0 → (calmed h w n list).output ≡ calm_output h w 0
    nothing e = ap (λ (c : Calmed). c.output) (gives n) ∙ ap (calm_output h w) e

    ran : Ran h w n list
    unfolding calm_output
    ran =
        record {
          count = ap length inputs_are ∙ length_inputs h w n;
          inputs = tick_in;
          state = call_is_run h w n list;
          answer = answer_is;
          last = last_is;
          none = λ e. (ap (λ (o : Output). o.interrupts) (nothing e), ap (λ (o : Output). o.lines) (nothing e));
          none_pairs =
              λ e. low (calmed h w n list).output (ap (λ (o : Output). o.acknowledge) (nothing e)) (ap (λ (o : Output). o.ping) (nothing e))
              (ap (λ (o : Output). o.escalation) (nothing e));
        }

  -- ── the sentences ──

  is_on_law : h.timer.enable ≡ 1 → is_on h ≡ true
  is_on_law e = ap (λ (x : ℕ). eqb x 1) e

  is_off : h.timer.enable ≡ 0 → is_on h ≡ false
  is_off e = ap (λ (x : ℕ). eqb x 1) e

  pub calm_says : CalmSays h w n list
  calm_says =
      record {
        seven = λ v. refused BadState (judged false (is_on h) (ltb (length list) 20) v refl refl);
        fifteen = λ v e. refused TimerOn (judged true true (ltb (length list) 20) v (is_on_law e) refl);
        eighteen = λ v e l. refused ShortList (judged true false true v (is_off e) (lt-ltb (length list) 20 l));
        runs = λ v e l. ran v (is_off e) l;
      }
