-- No sentence of a calm call is missing: two that satisfy them give, for every state, wires, number of ticks and list, the same state, answer, outputs and list.
-- Assumes nothing.
use Prim.Native.Nat.{ℕ, zero, suc, ◌≤◌, ◌<◌}
use mathlib.Core.Path.{◌≡◌, refl, sym, ap, ap₂, ◌∙◌, subst}
use mathlib.Core.Logic.{◌≢◌}
use mathlib.Core.Bool.{Bool, true, false}
use mathlib.Core.List.{List}
use native.Mathlib.Omega.{arith}
use native.Mathlib.Decide.{dec_lt, ℕ_discrete}
use lib.IntN.{pos}
use lib.ListN.{length}
use Rattle.bits.specs.Bits.{bit}
use Rattle.calm_rules.specs.declared.Calmed.{Calmed}
use Rattle.rules.specs.declared.Handler.{Handler}
use Rattle.rules.specs.declared.Input.{Input}
use Rattle.rules.specs.declared.Output.{Output}
use Rattle.rules.specs.declared.Receive.{Receive}
use Rattle.rules.specs.declared.Wires.{Wires}
use Rattle.sentences.specs.AccessArrays.{Sized}
use Rattle.sentences.specs.Valid.{Valid}
use Rattle.sentences.proofs.OnlyPairs.{same_low}
use Rattle.sentences.proofs.OnlySamples.{same_bits}
use Rattle.sentences.proofs.SentenceCases.{same_test}
use Rattle.sentences.proofs.Whole.{Same, only_whole}
use Rattle.trace_sentences.proofs.OnlyBatches.{dec_valid}
use Rattle.trace_sentences.proofs.Replays.{Good, sized_next}
use Rattle.calm_sentences.specs.CalmTicks.{WithoutFault, CalmInput, PairsLow, Tick0, AsOn7}
use Rattle.calm_sentences.specs.Calms.{Refuses, Advances, CalmIs, Calms}
use Rattle.calm_sentences.proofs.OnlyChanges.{same_count, same_left}

-- ── what comes in ──

differ_both : (a b c : Bool) → a ≢ c → b ≢ c → a ≡ b
differ_both true true c f g = refl
differ_both false false c f g = refl
differ_both true false true f g = absurd (f refl)
differ_both true false false f g = absurd (g refl)
differ_both false true true f g = absurd (g refl)
differ_both false true false f g = absurd (f refl)

module _ (g : Handler) (p q m n : ℕ) (x : WithoutFault g p m) (y : WithoutFault g q n) where
  same_positive : p ≡ q
  same_positive = same_bits p q x.positives y.positives (λ e l. x.positive e l ∙ sym (y.positive e l))

  same_negative : m ≡ n
  same_negative =
      same_bits m n x.negatives y.negatives
      (λ e l. differ_both (bit m e) (bit n e) (bit p e) (x.negative e l) (λ z. y.negative e l (z ∙ ap (λ (a : ℕ). bit a e) same_positive)))

same_input : (w : Wires) (g : Handler) (x y : Input) → CalmInput w g x → CalmInput w g y → x ≡ y
same_input w g x y a b = λ i.
    record {
      access = (a.access ∙ sym b.access) i;
      sample = record {
        alerts = (a.wires ∙ sym b.wires) i;
        word = (a.word ∙ sym b.word) i;
        receive =
            (a.receive.2
            ∙ ap₂ (λ (p m : ℕ). Receive.Pairs p m) (same_positive g _ _ _ _ a.receive.3 b.receive.3) (same_negative g _ _ _ _ a.receive.3 b.receive.3)
            ∙ sym b.receive.2) i;
      };
    }

-- ── outputs ──

same_shown : (o u : Output) → o.interrupts ≡ u.interrupts → o.lines ≡ u.lines → PairsLow o → PairsLow u → o ≡ u
same_shown o u e f a b = λ i.
    record {
      interrupts = e i;
      lines = f i;
      acknowledge = same_low o.acknowledge u.acknowledge a.acknowledge b.acknowledge i;
      ping = same_low o.ping u.ping a.ping b.ping i;
      escalation = record { pos = (a.escalation_positive ∙ sym b.escalation_positive) i; neg = (a.escalation_negative ∙ sym b.escalation_negative) i };
    }

same_seven : (o u : Output) → AsOn7 o → AsOn7 u → o ≡ u
same_seven o u a b = same_shown o u (a.interrupts ∙ sym b.interrupts) (a.lines ∙ sym b.lines) a.pairs b.pairs

same_tick0 : (h : Handler) (o u : Output) → Tick0 h o → Tick0 h u → o ≡ u
same_tick0 h o u a b =
    same_shown o u
    (same_bits o.interrupts u.interrupts a.interrupt_bits b.interrupt_bits
    (λ k l. same_test (bit o.interrupts k) (bit u.interrupts k) (a.interrupt k l) (b.interrupt k l)))
    (same_bits o.lines u.lines a.line_bits b.line_bits (λ e l. same_test (bit o.lines e) (bit u.lines e) (a.line e l) (b.line e l)))
    a.pairs b.pairs

-- ── one call ──

pub record SameCalm (c d : Calmed) (left kept : List ℕ) : Type 0 where
  pub gives : c ≡ d
  pub leaves : left ≡ kept

same_calmed : (c d : Calmed) → c.handler ≡ d.handler → c.answer ≡ d.answer → c.output ≡ d.output → c ≡ d
same_calmed c d s a o = λ i. record { handler = s i; answer = a i; output = o i }

same_refuses : (m : ℕ) (h : Handler) (list : List ℕ) (c d : Calmed) (left kept : List ℕ) → Refuses m h list c left → Refuses m h list d kept → SameCalm c d left kept
same_refuses m h list c d left kept x y =
    record {
      gives = same_calmed c d (x.state ∙ sym y.state) (x.answer ∙ sym y.answer) (same_seven c.output d.output x.output y.output);
      leaves = x.same_list ∙ sym y.same_list;
    }

module _ (f k : Handler → Wires → ℕ → List ℕ → Calmed) (left kept : Handler → Wires → ℕ → List ℕ → List ℕ) (p : Calms f left) (q : Calms k kept) where
  same : (h : Handler) (x : Input) → Sized h → Same p.number q.number (p.tick h x) (q.tick h x)
  same h x s = only_whole p.tick q.tick p.number q.number p.ticks q.ticks h x s

  module _ (h : Handler) (w : Wires) (n : ℕ) (list : List ℕ) (v : Valid h) (s : Sized h) (c d : Calmed) (us vs : List ℕ)
      (x : Advances p.tick h w n list c us) (y : Advances q.tick h w n list d vs) where
    on_the_way : (t : ℕ) → t ≤ n → Good (x.states t) × (x.states t ≡ y.states t)
    on_the_way zero l = (subst Good (sym x.first) (v, s), x.first ∙ sym y.first)
    on_the_way (suc t) l = let m : t < n = omega arith in go m (on_the_way t (omega arith))
      where
        go : t < n → Good (x.states t) × (x.states t ≡ y.states t) → Good (x.states (suc t)) × (x.states (suc t) ≡ y.states (suc t))
        go m r =
            let g = x.states t in
            let i = x.inputs t in
            let e : i ≡ y.inputs t = same_input w g i (y.inputs t) (x.calm t m) (subst (λ (b : Handler). CalmInput w b (y.inputs t)) (sym r.1) (y.calm t m)) in (
              subst Good (sym (x.next t m)) ((p.ticks.ticks g i).stays_valid r.0.0, sized_next p.tick p.number p.ticks g i r.0.0 r.0.1),
              x.next t m ∙ (same g i r.0.1).state ∙ ap₂ (λ (b : Handler) (z : Input). (q.tick b z).handler) r.1 e ∙ sym (y.next t m),
            )

    same_outputs : (t : ℕ) → t ≤ n → x.outputs t ≡ y.outputs t
    same_outputs zero l = same_tick0 h (x.outputs 0) (y.outputs 0) x.given y.given
    same_outputs (suc t) l =
        let m : t < n = omega arith in
        let r = on_the_way t (omega arith) in
        let g = x.states t in
        let i = x.inputs t in
        let e : i ≡ y.inputs t = same_input w g i (y.inputs t) (x.calm t m) (subst (λ (b : Handler). CalmInput w b (y.inputs t)) (sym r.1) (y.calm t m)) in
        x.shown t m ∙ (same g i r.0.1).output ∙ ap₂ (λ (b : Handler) (z : Input). (q.tick b z).output) r.1 e ∙ sym (y.shown t m)

    abbrev lit : ℕ → ℕ
    lit t = (x.outputs t).lines

    same_lines : (t : ℕ) → t ≤ n → lit t ≡ (y.outputs t).lines
    same_lines t l = ap (λ (o : Output). o.lines) (same_outputs t l)

    same_advances : SameCalm c d us vs
    same_advances =
        record {
          gives =
              same_calmed c d (x.last ∙ (on_the_way n (omega arith)).1 ∙ sym y.last)
              (x.answer ∙ ap (λ (j : ℕ). pos j) (same_count n lit (λ t. (y.outputs t).lines) same_lines list us vs x.count y.count x.words y.words) ∙ sym y.answer)
              (x.final ∙ same_outputs n (omega arith) ∙ sym y.final);
          leaves = same_left n lit (λ t. (y.outputs t).lines) same_lines list us vs x.count y.count x.words y.words;
        }

    -- the state that is left is one of those on the way
    good_after : Good c.handler
    good_after = subst Good (sym x.last) (on_the_way n (omega arith)).0

  -- on any state whose arrays have their lengths, any wires and any list
  pub only_calms : (h : Handler) (w : Wires) (n : ℕ) (list : List ℕ) → Sized h → n ≤ 4294967295
      → SameCalm (f h w n list) (k h w n list) (left h w n list) (kept h w n list)
  only_calms h w n list s l = go (dec_valid h) (ℕ_discrete h.timer.enable 1) (dec_lt (length list) 20)
    where
      a : CalmIs p.tick h w n list (f h w n list) (left h w n list)
      a = p.calls h w n list l

      b : CalmIs q.tick h w n list (k h w n list) (kept h w n list)
      b = q.calls h w n list l

      go : Dec (Valid h) → Dec (h.timer.enable ≡ 1) → Dec (length list < 20) → SameCalm (f h w n list) (k h w n list) (left h w n list) (kept h w n list)
      go (no v) e r = same_refuses 7 h list _ _ _ _ (a.refused_7 v) (b.refused_7 v)
      go (yes v) (yes e) r = same_refuses 15 h list _ _ _ _ (a.refused_15 v e) (b.refused_15 v e)
      go (yes v) (no e) (yes r) = same_refuses 18 h list _ _ _ _ (a.refused_18 v e r) (b.refused_18 v e r)
      go (yes v) (no e) (no r) =
          let m : 20 ≤ length list = omega arith in
          same_advances h w n list v s (f h w n list) (k h w n list) (left h w n list) (kept h w n list) (a.advances v e m) (b.advances v e m)

-- ── a call leaves the arrays their lengths, so that any call may follow it ──

module _ (f : Handler → Wires → ℕ → List ℕ → Calmed) (left : Handler → Wires → ℕ → List ℕ → List ℕ) (p : Calms f left) where
  pub sized_calmed : (h : Handler) (w : Wires) (n : ℕ) (list : List ℕ) → Sized h → n ≤ 4294967295 → Sized (f h w n list).handler
  sized_calmed h w n list s l = go (dec_valid h) (ℕ_discrete h.timer.enable 1) (dec_lt (length list) 20)
    where
      a : CalmIs p.tick h w n list (f h w n list) (left h w n list)
      a = p.calls h w n list l

      go : Dec (Valid h) → Dec (h.timer.enable ≡ 1) → Dec (length list < 20) → Sized (f h w n list).handler
      go (no v) e r = subst Sized (sym (a.refused_7 v).state) s
      go (yes v) (yes e) r = subst Sized (sym (a.refused_15 v e).state) s
      go (yes v) (no e) (yes r) = subst Sized (sym (a.refused_18 v e r).state) s
      go (yes v) (no e) (no r) =
          let x = a.advances v e (omega arith) in
          (good_after f f left left p p h w n list v s (f h w n list) (f h w n list) (left h w n list) (left h w n list) x x).1
