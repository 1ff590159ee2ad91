-- What the contracts of the calm engine and of the boundary's calm call cite, `calmed` and `calmed_list`, satisfies the sentences; and since nothing else does, whatever
-- satisfies them is this.
-- Assumes nothing.
use Prim.Native.Nat.{ℕ, ◌≤◌}
use mathlib.Core.Path.{◌≡◌, refl, sym, ap, ◌∙◌, subst}
use mathlib.Core.Logic.{◌≢◌}
use mathlib.Core.Bool.{Bool, true, false, false≢true, not}
use mathlib.Core.List.{List}
use native.Mathlib.Omega.{arith}
use borrow.Author.Tests.{lt-ltb, eq-eqb, ne_eqb}
use lib.Dec.{ltb}
use lib.ListN.{length}
use Rattle.std.specs.Prelude.{Result, Ok, Err}
use Rattle.bits.specs.Bits.{bits_of}
use Rattle.bits.proofs.BitLaws.{bit_bits_of}
use Rattle.calm_laws.proofs.CalmRuns.{output_lines}
use Rattle.calm_laws.proofs.TwoCalls.{judged, runs_from, gives, leaves}
use Rattle.calm_rules.specs.Call.{bar_number, calm_verdict, calmed_by, list_by, calmed, calmed_list}
use Rattle.calm_rules.specs.Ticks.{calm_input, calm_run, calm_output, calm_changes}
use Rattle.calm_rules.specs.declared.Bar.{Bar}
use Rattle.calm_rules.specs.declared.Bar.TheVariants.{BadState, TimerOn, ShortList}
use Rattle.calm_rules.specs.declared.Calmed.{Calmed}
use Rattle.rules.specs.Answer.{number}
use Rattle.rules.specs.State.{is_on, sender}
use Rattle.rules.specs.Tick.{no_output, lines, output_of, ticked}
use Rattle.rules.specs.Valid.{valid}
use Rattle.rules.specs.declared.Handler.{Handler}
use Rattle.rules.specs.declared.Output.{Output}
use Rattle.rules.specs.declared.Wires.{Wires}
use Rattle.sentences.specs.AccessArrays.{Sized}
use Rattle.sentences.specs.Pairs.{AllLow}
use Rattle.sentences.specs.Raw.{right_answer}
use Rattle.sentences.proofs.HoldsOutputs.{holds_outputs, all_low}
use Rattle.sentences.proofs.HoldsValid.{holds_valid}
use Rattle.sentences.proofs.SentenceCases.{off, up_to_15}
use Rattle.sentences.proofs.Whole.{holds_whole}
use Rattle.calm_sentences.specs.CalmTicks.{WithoutFault, CalmInput, PairsLow, Tick0}
use Rattle.calm_sentences.specs.Calms.{Refuses, Advances, CalmIs, Calms}
use Rattle.calm_sentences.specs.Changes.{ChangeList}
use Rattle.calm_sentences.proofs.HoldsChanges.{holds_changes}
use Rattle.calm_sentences.proofs.OnlyCalms.{only_calms}

-- ── what comes in ──

not_same : (b : Bool) → not b ≢ b
not_same true e = false≢true e
not_same false e = false≢true (sym e)

without_fault : (g : Handler) → WithoutFault g (bits_of 4 (λ e. (sender g e).sound.answer)) (bits_of 4 (λ e. not (sender g e).sound.answer))
without_fault g =
    record {
      positive = λ e l. bit_bits_of 4 (λ e. (sender g e).sound.answer) e l;
      negative = λ e l z.
          not_same (right_answer g e)
          (sym (bit_bits_of 4 (λ e. not (sender g e).sound.answer) e l) ∙ z ∙ bit_bits_of 4 (λ e. (sender g e).sound.answer) e l);
      positives = up_to_15 (λ e. (sender g e).sound.answer);
      negatives = up_to_15 (λ e. not (sender g e).sound.answer);
    }

holds_input : (w : Wires) (g : Handler) → CalmInput w g (calm_input w g)
holds_input w g = record { access = refl; wires = refl; word = refl; receive = (_, _, refl, without_fault g) }

-- ── outputs ──

low_escalation : (no_output.escalation.pos ≡ 0) × (no_output.escalation.neg ≡ 15)
unfolding bits_of
low_escalation = (refl, refl)

low : (o : Output) → o.acknowledge ≡ no_output.acknowledge → o.ping ≡ no_output.ping → o.escalation ≡ no_output.escalation → PairsLow o
low o a p e =
    record {
      acknowledge = subst AllLow (sym a) all_low;
      ping = subst AllLow (sym p) all_low;
      escalation_positive = ap (λ z. z.pos) e ∙ low_escalation.0;
      escalation_negative = ap (λ z. z.neg) e ∙ low_escalation.1;
    }

holds_tick0 : (h : Handler) (w : Wires) → Tick0 h (calm_output h w 0)
unfolding calm_output output_of
holds_tick0 h w =
    let x = holds_outputs h h in
    record {
      interrupt = x.interrupt;
      line = x.line;
      interrupt_bits = x.interrupt_bits;
      line_bits = x.line_bits;
      pairs = low (calm_output h w 0) refl refl refl;
    }

-- ── the call ──

module _ (h : Handler) (w : Wires) (n : ℕ) (list : List ℕ) where
  refused : (b : Bar) → calm_verdict h list ≡ Err b → Refuses (bar_number b) h list (calmed h w n list) (calmed_list h w n list)
  unfolding calmed calmed_list
  refused b e =
      let r : calmed h w n list ≡ calmed_by (Err b) h w n = ap (λ (v : Result (Unit {0}) Bar). calmed_by v h w n) e in
      record {
        answer = ap (λ (c : Calmed). c.answer) r;
        state = ap (λ (c : Calmed). c.handler) r;
        same_list = ap (λ (v : Result (Unit {0}) Bar). list_by v h w n list) e;
        output = record {
          interrupts = ap (λ (c : Calmed). c.output.interrupts) r;
          lines = ap (λ (c : Calmed). c.output.lines) r;
          pairs =
              low (calmed h w n list).output (ap (λ (c : Calmed). c.output.acknowledge) r) (ap (λ (c : Calmed). c.output.ping) r)
              (ap (λ (c : Calmed). c.output.escalation) r);
        };
      }

  module _ (v : valid h ≡ true) (o : is_on h ≡ false) (room : 20 ≤ length list) (small : n ≤ 4294967295) where
    runs : calm_verdict h list ≡ Ok tt
    runs = runs_from h list v o room

    line_bits : (t : ℕ) → (calm_output h w t).lines ≤ 15
    unfolding lines
    line_bits t = subst (λ (x : ℕ). x ≤ 15) (sym (output_lines h w v t)) (up_to_15 _)

    changed : ChangeList n (λ t. (calm_output h w t).lines) list (calmed_list h w n list) (length (calm_changes h w n))
    changed =
        subst (λ (left : List ℕ). ChangeList n (λ t. (calm_output h w t).lines) list left (length (calm_changes h w n))) (sym (leaves h w n list runs))
        (holds_changes h w n list v o (omega arith) room line_bits)

    advances : Advances ticked h w n list (calmed h w n list) (calmed_list h w n list)
    unfolding calm_run calm_output
    advances =
        record {
          states = calm_run h w;
          inputs = λ t. calm_input w (calm_run h w t);
          first = refl;
          calm = λ t l. holds_input w (calm_run h w t);
          next = λ t l. refl;
          last = ap (λ (c : Calmed). c.handler) (gives h w n list runs);
          outputs = calm_output h w;
          given = holds_tick0 h w;
          shown = λ t l. refl;
          final = ap (λ (c : Calmed). c.output) (gives h w n list runs);
          count = length (calm_changes h w n);
          words = changed;
          answer = ap (λ (c : Calmed). c.answer) (gives h w n list runs);
        }

  holds_call : n ≤ 4294967295 → CalmIs ticked h w n list (calmed h w n list) (calmed_list h w n list)
  holds_call s =
      record {
        refused_7 = λ v. refused BadState (judged h list false (is_on h) (ltb (length list) 20) (off (valid h) (holds_valid h) v) refl refl);
        refused_15 = λ v e.
            refused TimerOn (judged h list true true (ltb (length list) 20) ((holds_valid h).1 v) (eq-eqb h.timer.enable 1 e) refl);
        refused_18 = λ v e l.
            refused ShortList (judged h list true false true ((holds_valid h).1 v) (ne_eqb h.timer.enable 1 e) (lt-ltb (length list) 20 l));
        advances = λ v e l. advances ((holds_valid h).1 v) (ne_eqb h.timer.enable 1 e) l s;
      }

-- ── the sentences ──

pub holds_calms : Calms calmed calmed_list
holds_calms = record { tick = ticked; number = number; ticks = holds_whole; calls = holds_call }

-- both joined
pub is_the_calm : (f : Handler → Wires → ℕ → List ℕ → Calmed) (left : Handler → Wires → ℕ → List ℕ → List ℕ) → Calms f left
    → (h : Handler) (w : Wires) (n : ℕ) (list : List ℕ) → Sized h → n ≤ 4294967295
    → (f h w n list ≡ calmed h w n list) × (left h w n list ≡ calmed_list h w n list)
is_the_calm f left p h w n list s l = let x = only_calms f calmed left calmed_list p holds_calms h w n list s l in (x.gives, x.leaves)
