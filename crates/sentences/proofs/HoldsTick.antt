-- The rule of the whole tick satisfies the sentences: each step on its state, and refusal 7.
-- Assumes nothing.
use Prim.Native.Nat.{ℕ}
use mathlib.Core.Path.{◌≡◌, refl, sym, ap, ap₂, ◌∙◌, subst}
use mathlib.Core.Logic.{◌⊎◌, inl, inr}
use mathlib.Core.Bool.{true, false, ◌&&◌}
use lib.Dec.{eqb, ltb}
use Rattle.std.specs.Prelude.{Ok, Err}
use Rattle.bits.specs.Bits.{bits_of}
use Rattle.link_rules.specs.Receiver.{acknowledges}
use Rattle.rules.specs.Access.{verdict, accessed_by, accessed, acted, answer_to, effects}
use Rattle.rules.specs.Answer.{refusal_number, number, Verdict}
use Rattle.rules.specs.State.{receiver_in}
use Rattle.rules.specs.Tick.{interrupts, lines, pairs, acknowledge_pairs, ping_pairs, escalation_pairs, output_of, hears, reached, after, tick, ticked}
use Rattle.rules.specs.Valid.{valid}
use Rattle.rules.specs.declared.Access.{Access}
use Rattle.rules.specs.declared.Handler.{Handler}
use Rattle.rules.specs.declared.Input.{Input}
use Rattle.rules.specs.declared.Links.{Links}
use Rattle.rules.specs.declared.Ticked.{Ticked}
use Rattle.laws.proofs.Access.RegisterFile.{acted_n}
use Rattle.laws.proofs.Map.Cases.{pick}
use Rattle.laws.proofs.Samples.Receivers.{acted_links}
use Rattle.laws.proofs.Valid.KeepsAccess.{acted_valid}
use Rattle.laws.proofs.Valid.KeepsValid.{ticked_valid}
use Rattle.laws.proofs.Valid.Refusal7.{ticked_good, ticked_bad}
use Rattle.sentences.specs.Links.{Linked}
use Rattle.sentences.specs.Numbers.{Numbers}
use Rattle.sentences.specs.Outputs.{OutputOf}
use Rattle.sentences.specs.Pairs.{AllLow}
use Rattle.sentences.specs.Samples.{RaisesFiveOrNone}
use Rattle.sentences.specs.Tick.{Runs, Refused7, Tick, Step1}
use Rattle.sentences.specs.Valid.{Valid}
use Rattle.sentences.proofs.SentenceCases.{off}
use Rattle.sentences.proofs.HoldsOutputs.{holds_outputs, all_low, after4, holds_classes}
use Rattle.sentences.proofs.HoldsLinks.{holds_links}
use Rattle.sentences.proofs.HoldsSamples.{after2, holds_samples}
use Rattle.sentences.proofs.HoldsValid.{holds_valid}

-- ── step 1 ──

raises_by : (v : Verdict) (h : Handler) (x : Access) → RaisesFiveOrNone (accessed_by v h x).effects
raises_by (Ok tt) h x = inl refl
raises_by (Err m) h x = pick (λ (n : ℕ). (n ≡ 0) ⊎ (n ≡ 32)) (eqb (refusal_number m) 12) 32 0 (λ _. inr refl) (λ _. inl refl)

pub holds_step1 : Step1 accessed
unfolding accessed acted
holds_step1 =
    record {
      valid = λ h x v. (holds_valid (accessed h x).handler).0 (acted_valid h x ((holds_valid h).1 v));
      raises = λ h x. raises_by (verdict h x) h x;
    }

-- ── the tick ──

-- refusal 7's escalation pairs
none_on : bits_of 4 (λ e. false) ≡ 0
unfolding bits_of
none_on = refl

all_off : bits_of 4 (λ e. true) ≡ 15
unfolding bits_of
all_off = refl

module _ (h : Handler) (x : Input) where
  -- step 1 leaves N and the receivers, and so the acknowledge pairs
  same_output : output_of h (after h x) ≡ output_of (acted h x.access) (after h x)
  unfolding output_of acknowledge_pairs
  same_output =
      ap₂ (λ (n : ℕ) (z : Links). record {
        interrupts = interrupts (after h x);
        lines = lines (after h x);
        acknowledge = pairs (λ i. ltb i n && acknowledges (receiver_in z.receivers i).stands);
        ping = ping_pairs (after h x);
        escalation = escalation_pairs (after h x);
      }) (sym (acted_n h x.access)) (sym (acted_links h x.access))

  -- the lines of step 5 read no link
  same_lines : lines (reached h x) ≡ (output_of h (after h x)).lines
  unfolding output_of lines after
  same_lines = refl

  runs_tick : Valid h → Runs (accessed h x.access) x.sample (tick h x)
  unfolding tick hears after acted effects answer_to
  runs_tick v =
      let a = accessed h x.access in
      let u = holds_step1.valid h x.access v in
      let r = holds_step1.raises h x.access in
      record {
        state2 = after2 a.handler x.sample a.effects;
        step2 = holds_samples a.handler x.sample a.effects u r;
        state4 = after4 a.handler x.sample a.effects;
        steps34 = holds_classes a.handler x.sample a.effects u r;
        links =
            subst (λ (lit : ℕ). Linked a.handler x.sample a.effects lit (reached h x) (after h x)) same_lines
            (holds_links a.handler x.sample a.effects (lines (reached h x)) (reached h x) u);
        step5 = subst (OutputOf a.handler (after h x)) (sym same_output) (holds_outputs a.handler (after h x));
        answer = refl;
      }

  refuses : valid h ≡ false → Refused7 h (ticked h x)
  refuses e =
      let t = ticked_bad h x e in
      record {
        state = ap (λ (t : Ticked). t.handler) t;
        interrupts = ap (λ (t : Ticked). t.output.interrupts) t;
        lines = ap (λ (t : Ticked). t.output.lines) t;
        acknowledge = subst (λ (t : Ticked). AllLow t.output.acknowledge) (sym t) all_low;
        ping = subst (λ (t : Ticked). AllLow t.output.ping) (sym t) all_low;
        escalation_positive = ap (λ (t : Ticked). t.output.escalation.pos) t ∙ none_on;
        escalation_negative = ap (λ (t : Ticked). t.output.escalation.neg) t ∙ all_off;
        answer = ap (λ (t : Ticked). t.answer) t;
      }

pub holds_tick : Tick accessed ticked
holds_tick h x =
    record {
      refused = λ n. refuses h x (off (valid h) (holds_valid h) n);
      runs = λ v.
          subst (Runs (accessed h x.access) x.sample) (sym (ticked_good h x ((holds_valid h).1 v))) (runs_tick h x v);
      stays_valid = λ v. (holds_valid (ticked h x).handler).0 (ticked_valid h x ((holds_valid h).1 v));
    }

-- ── the numbers that come back ──

pub holds_numbers : Numbers number
unfolding number
holds_numbers =
    record {
      read = λ v. refl;
      accepted = refl;
      refusal_1 = refl;
      refusal_2 = refl;
      refusal_3 = refl;
      refusal_4 = refl;
      refusal_5 = refl;
      refusal_6 = refl;
      refusal_7 = refl;
      refusal_8 = refl;
      refusal_9 = refl;
      refusal_10 = refl;
      refusal_11 = refl;
      refusal_12 = refl;
      refusal_14 = refl;
    }
