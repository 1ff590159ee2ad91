-- No sentence of steps 3 to 5, of the tick and of its answers' numbers is missing: whatever satisfies them gives one result. Nothing here knows
-- the rules' definitions, but for the test that tells whether refusal 7 meets a state.
-- Assumes nothing.
use Prim.Native.Nat.{ℕ, ◌<◌}
use mathlib.Core.Path.{◌≡◌, refl, sym, ap, ◌∙◌, subst}
use mathlib.Core.Logic.{◌↔◌}
use mathlib.Core.Bool.{Bool, true, false, false≢true}
use lib.IntN.{ℤ}
use lib.ListN.{get_or}
use Rattle.bits.specs.Bits.{bit}
use Rattle.class_rules.specs.declared.Signals.{Signals}
use Rattle.rules.specs.Valid.{valid}
use Rattle.rules.specs.declared.Access.{Access}
use Rattle.rules.specs.declared.Accessed.{Accessed}
use Rattle.rules.specs.declared.Answer.{Answer}
use Rattle.rules.specs.declared.Effects.{Effects}
use Rattle.rules.specs.declared.Handler.{Handler}
use Rattle.rules.specs.declared.Input.{Input}
use Rattle.rules.specs.declared.Output.{Output}
use Rattle.rules.specs.declared.Refusal.{Refusal}
use Rattle.rules.specs.declared.Refusal.TheVariants.{NoRegister, WrongWay, Locked, TooWide, BadRecord, BadCount, BadState, BadLength, ShortList, NoRecord, ShortBuffer, Differs, SillyThreshold}
use Rattle.rules.specs.declared.Sample.{Sample}
use Rattle.rules.specs.declared.Ticked.{Ticked}
use Rattle.sentences.specs.ClassStep.{Stepped}
use Rattle.sentences.specs.Fits.{Fits}
use Rattle.sentences.specs.Lines.{DrivesLine}
use Rattle.sentences.specs.Links.{Linked}
use Rattle.sentences.specs.Numbers.{Numbers}
use Rattle.sentences.specs.Outputs.{ClassesStepped, OutputOf, Outputs}
use Rattle.sentences.specs.Raw.{level, pair_last, no_class, class_of}
use Rattle.sentences.specs.Receivers.{Acknowledged}
use Rattle.sentences.specs.Tick.{Runs, Refused7, Tick, Step1}
use Rattle.sentences.specs.Valid.{Valid}
use Rattle.sentences.proofs.SentenceCases.{same_test}
use Rattle.sentences.proofs.HoldsValid.{holds_valid}
use Rattle.sentences.proofs.OnlyClass.{same_class}
use Rattle.sentences.proofs.OnlyLinks.{same_linked}
use Rattle.sentences.proofs.OnlyPairs.{same_pairs_by, same_low, same_line_pairs}
use Rattle.sentences.proofs.OnlySamples.{same_bits, same_list, same_sampled}

-- ── step 5 ──

same_output : (g h : Handler) (o p : Output) → OutputOf g h o → OutputOf g h p → o ≡ p
same_output g h o p a b = λ i.
    record {
      interrupts =
          same_bits o.interrupts p.interrupts a.interrupt_bits b.interrupt_bits
          (λ k l. same_test (bit o.interrupts k) (bit p.interrupts k) (a.interrupt k l) (b.interrupt k l)) i;
      lines =
          same_bits o.lines p.lines a.line_bits b.line_bits
          (λ e l. same_test (bit o.lines e) (bit p.lines e) (a.line e l) (b.line e l)) i;
      acknowledge = same_pairs_by g.n (Acknowledged g) o.acknowledge p.acknowledge a.acknowledge b.acknowledge i;
      ping = same_pairs_by h.n (λ i. level h i ≡ true) o.ping p.ping a.ping b.ping i;
      escalation = same_line_pairs (λ e. pair_last h e ≡ true) o.escalation p.escalation a.escalation b.escalation i;
    }

pub only_outputs : (f k : Handler → Handler → Output) → Outputs f → Outputs k → (g h : Handler) → f g h ≡ k g h
only_outputs f k x y g h = same_output g h (f g h) (k g h) (x g h) (y g h)

-- ── steps 3 and 4 ──

module _ (g : Handler) (s : Sample) (f : Effects) (m h k : Handler) (fit : (j : ℕ) → j < 4 → Fits (class_of m j)) (a : ClassesStepped g s f m h) (b : ClassesStepped g s f m k) where
  same_state : h.interrupts.state ≡ k.interrupts.state
  same_state =
      same_bits h.interrupts.state k.interrupts.state a.interrupt_bits b.interrupt_bits
      (λ j l. same_test (bit h.interrupts.state j) (bit k.interrupts.state j) (a.interrupt_bit j l) (b.interrupt_bit j l))

  same_signals : (j : ℕ) → j < 4 → a.signals j ≡ b.signals j
  same_signals j l = λ i.
      record {
        event = same_test (a.signals j).event (b.signals j).event (a.meets j l).event (b.meets j l).event i;
        interrupt =
            same_test (a.signals j).interrupt (b.signals j).interrupt (a.meets j l).interrupt
            (subst (λ (n : ℕ). ((b.signals j).interrupt ≡ true) ↔ (bit n j ≡ true)) (sym same_state) (b.meets j l).interrupt) i;
        clear = same_test (a.signals j).clear (b.signals j).clear (a.meets j l).clear (b.meets j l).clear i;
      }

  same_classes : (j : ℕ) → j < 4 → class_of h j ≡ class_of k j
  same_classes j l =
      same_class (a.signals j) (class_of m j) (class_of h j) (class_of k j) (fit j l) (a.steps j l)
      (subst (λ (s : Signals). Stepped s (class_of m j) (class_of k j)) (sym (same_signals j l)) (b.steps j l))

  same_stepped : h ≡ k
  same_stepped = λ i.
      record {
        n = (a.n ∙ sym b.n) i;
        links = (a.links ∙ sym b.links) i;
        classes = same_list 4 _ h.classes k.classes a.entries b.entries same_classes i;
        alerts = (a.alerts ∙ sym b.alerts) i;
        locals = (a.locals ∙ sym b.locals) i;
        interrupts = record { state = same_state i; enable = (a.enable ∙ sym b.enable) i };
        timer = (a.timer ∙ sym b.timer) i;
        stages = (a.stages ∙ sym b.stages) i;
      }

-- ── the tick ──

module _ (a : Accessed) (s : Sample) (t u : Ticked) (v : Valid a.handler) (x : Runs a s t) (y : Runs a s u) where
  same_state2 : x.state2 ≡ y.state2
  same_state2 = same_sampled a.handler s a.effects x.state2 y.state2 x.step2 y.step2

  -- step 2 leaves the classes as they were
  fit2 : (j : ℕ) → j < 4 → Fits (class_of x.state2 j)
  fit2 j l =
      subst (λ cs. Fits (get_or cs j no_class))
      (sym x.step2.classes) (v.classes j l)

  same_state4 : x.state4 ≡ y.state4
  same_state4 =
      same_stepped a.handler s a.effects x.state2 x.state4 y.state4 fit2 x.steps34
      (subst (λ (m : Handler). ClassesStepped a.handler s a.effects m y.state4) (sym same_state2) y.steps34)

  -- the lines go by the classes, which are those of step 4
  same_lines : u.output.lines ≡ t.output.lines
  same_lines =
      let c : u.handler.classes ≡ t.handler.classes = y.links.classes ∙ sym (ap (λ (m : Handler). m.classes) same_state4) ∙ sym x.links.classes in
      same_bits u.output.lines t.output.lines y.step5.line_bits x.step5.line_bits (λ e l.
      same_test (bit u.output.lines e) (bit t.output.lines e)
      (subst (λ cs. (bit u.output.lines e ≡ true) ↔ ((k : ℕ) × (k < 4) × DrivesLine (get_or cs k no_class) e)) c (y.step5.line e l)) (x.step5.line e l))

  same_handler : t.handler ≡ u.handler
  same_handler =
      same_linked a.handler s a.effects t.output.lines x.state4 t.handler u.handler x.links
      (subst (λ (m : Handler). Linked a.handler s a.effects t.output.lines m u.handler) (sym same_state4)
      (subst (λ (lit : ℕ). Linked a.handler s a.effects lit y.state4 u.handler) same_lines y.links))

  pub same_ticked : t ≡ u
  same_ticked = λ i.
      record {
        handler = same_handler i;
        answer = (x.answer ∙ sym y.answer) i;
        output =
            same_output a.handler t.handler t.output u.output x.step5
            (subst (λ (h : Handler). OutputOf a.handler h u.output) (sym same_handler) y.step5) i;
      }

-- refusal 7
pub same_refused : (h : Handler) (t u : Ticked) → Refused7 h t → Refused7 h u → t ≡ u
same_refused h t u x y = λ i.
    record {
      handler = (x.state ∙ sym y.state) i;
      answer = (x.answer ∙ sym y.answer) i;
      output = record {
        interrupts = (x.interrupts ∙ sym y.interrupts) i;
        lines = (x.lines ∙ sym y.lines) i;
        acknowledge = same_low t.output.acknowledge u.output.acknowledge x.acknowledge y.acknowledge i;
        ping = same_low t.output.ping u.output.ping x.ping y.ping i;
        escalation = record {
          pos = (x.escalation_positive ∙ sym y.escalation_positive) i;
          neg = (x.escalation_negative ∙ sym y.escalation_negative) i;
        };
      };
    }

-- two ticks are one, of every state and input, over steps 1 that give one result where refusal 7 does not meet the state
pub only_tick : (p q : Handler → Access → Accessed) → Step1 p → ((h : Handler) (x : Access) → Valid h → p h x ≡ q h x)
    → (f g : Handler → Input → Ticked) → Tick p f → Tick q g → (h : Handler) (x : Input) → f h x ≡ g h x
only_tick p q s e f g a b h x = go (valid h) (holds_valid h)
  where
    go : (t : Bool) → (t ≡ true) ↔ Valid h → f h x ≡ g h x
    go true v =
        let w = v.0 refl in
        same_ticked (p h x.access) x.sample (f h x) (g h x) (s.valid h x.access w) ((a h x).runs w)
        (subst (λ (d : Accessed). Runs d x.sample (g h x)) (sym (e h x.access w)) ((b h x).runs w))
    go false v =
        let n : ¬ Valid h = λ w. false≢true (v.1 w) in same_refused h (f h x) (g h x) ((a h x).refused n) ((b h x).refused n)

-- ── the numbers that come back ──

pub only_numbers : (f g : Answer → ℤ) → Numbers f → Numbers g → (a : Answer) → f a ≡ g a
only_numbers f g x y Answer.Done = x.accepted ∙ sym y.accepted
only_numbers f g x y (Answer.Value v) = x.read v ∙ sym (y.read v)
only_numbers f g x y (Answer.Refused m) = go m
  where
    go : (m : Refusal) → f (Answer.Refused m) ≡ g (Answer.Refused m)
    go NoRegister = x.refusal_1 ∙ sym y.refusal_1
    go WrongWay = x.refusal_2 ∙ sym y.refusal_2
    go Locked = x.refusal_3 ∙ sym y.refusal_3
    go TooWide = x.refusal_4 ∙ sym y.refusal_4
    go BadRecord = x.refusal_5 ∙ sym y.refusal_5
    go BadCount = x.refusal_6 ∙ sym y.refusal_6
    go BadState = x.refusal_7 ∙ sym y.refusal_7
    go BadLength = x.refusal_8 ∙ sym y.refusal_8
    go ShortList = x.refusal_9 ∙ sym y.refusal_9
    go NoRecord = x.refusal_10 ∙ sym y.refusal_10
    go ShortBuffer = x.refusal_11 ∙ sym y.refusal_11
    go Differs = x.refusal_12 ∙ sym y.refusal_12
    go SillyThreshold = x.refusal_14 ∙ sym y.refusal_14
