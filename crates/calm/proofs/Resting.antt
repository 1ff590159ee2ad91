-- Request (xii): plain ticks that settle a state, the engine's ticks after them, and one plain tick more, are that many plain ticks.
-- Assumes nothing.
use Prim.Native.Nat.{ℕ, zero, suc, ◌+◌, ◌<◌}
use mathlib.Core.Path.{◌≡◌, refl, sym, ap, ap₂, ◌∙◌, subst}
use mathlib.Core.Bool.{Bool, true, false}
use mathlib.Core.List.{List, ◌++◌, append_assoc}
use native.Mathlib.Omega.{arith}
use lib.ListN.{length}
use Rattle.bits.proofs.BitLaws.{bit_bits_of}
use Rattle.bits.proofs.IndexLaws.{at_each, each_ext, length_each}
use Rattle.bits.specs.Bits.{bit, bits_of}
use Rattle.calm_laws.proofs.CalmRuns.{calm_valid, calm_next, valid_four, run_add, settled_now, settled_run, calm_changes_law}
use Rattle.calm_laws.proofs.PlainTick.{bits_ext, assigned_is}
use Rattle.calm_laws.specs.Four as four
use Rattle.laws.specs.OutputMasks.{lines_on}
use Rattle.calm_laws.specs.Four.{class_of, met, four_step, changes, senders_after, changes_in, FourFit, Running}
use Rattle.calm_laws.specs.Settled.{calm_class_event, calm_interrupt, calm_signals, calm_after, moved, Settled, settle_before, settle_ticks}
use Rattle.calm_laws.specs.Steady.{steady}
use Rattle.calm_rules.specs.Ticks.{calm_input, calm_run, calm_output, change, calm_changes}
use Rattle.class_rules.specs.Class.{no_class}
use Rattle.class_rules.specs.Step.{class_event, class_step}
use Rattle.class_rules.specs.declared.Class.{Class}
use Rattle.class_rules.specs.declared.Signals.{Signals}
use Rattle.link_rules.specs.Senders.{sent_all}
use Rattle.link_rules.specs.declared.Senders.{Senders}
use Rattle.laws.proofs.Valid.KeepsClass.{step_valid}
use Rattle.laws.proofs.Valid.ValidLaws.{facts, is_valid_law}
use Rattle.laws.specs.Facts.{ClassValid}
use Rattle.rules.specs.Samples.{heard, assigned}
use Rattle.rules.specs.State.{is_on}
use Rattle.rules.specs.Tick.{lines}
use Rattle.rules.specs.Valid.{valid}
use Rattle.rules.specs.declared.Handler.{Handler}
use Rattle.rules.specs.declared.Output.{Output}
use Rattle.rules.specs.declared.Wires.{Wires}
use Rattle.calm.specs.Walk.{NextBy, Walk, RestBy}
use Rattle.calm.specs.declared.ticking.Ticking.{Ticking}
use Rattle.calm.proofs.Walking.{walk_next}

-- ── signals that agree for the four classes ──

module _ (s q : ℕ → Signals) (e : (k : ℕ) → k < 4 → s k ≡ q k) where
  step_ext : (cs : List Class) → four_step s cs ≡ four_step q cs
  unfolding four_step
  step_ext cs = each_ext 4 _ _ no_class (λ k l. ap (λ (x : Signals). class_step x (class_of cs k)) (e k l))

  after_ext : (n : ℕ) (cs : List Class) → four.after s n cs ≡ four.after q n cs
  unfolding four.after
  after_ext zero cs = refl
  after_ext (suc n) cs = ap (four_step s) (after_ext n cs) ∙ step_ext (four.after q n cs)

  senders_ext : (n : ℕ) (cs : List Class) (ss : Senders) → senders_after s n cs ss ≡ senders_after q n cs ss
  unfolding senders_after
  senders_ext zero cs ss = refl
  senders_ext (suc n) cs ss =
      ap₂ (λ (z : Senders) (x : List Class). sent_all z (steady (lines_on x))) (senders_ext n cs ss) (after_ext (suc n) cs)

  changes_ext : (from n : ℕ) (cs : List Class) → changes s from n cs ≡ changes q from n cs
  unfolding changes
  changes_ext from zero cs = refl
  changes_ext from (suc n) cs =
      ap₂ ◌++◌ (changes_ext from n cs)
      (ap₂ (λ (x y : ℕ). change x y (from + suc n)) (ap lines_on (after_ext n cs)) (ap lines_on (after_ext (suc n) cs)))

-- ── the classes with an event ──

-- from the mask of what is assigned
pub events_mask : (g : Handler) (w : Wires) → valid g ≡ true → is_on g ≡ false → (a : ℕ)
    → a ≡ bits_of 4 (assigned g (heard g (calm_input w g).sample (record { clears = 0; raises = 0; begins = false })))
    → bits_of 4 (λ k. class_event (bit a k) (class_of g.classes k)) ≡ bits_of 4 (calm_class_event g w)
events_mask g w v off a e =
    bits_ext 4 (λ k. class_event (bit a k) (class_of g.classes k)) (calm_class_event g w)
    (λ k l. ap (λ (b : Bool). class_event b (class_of g.classes k)) (ap (λ (x : ℕ). bit x k) e ∙ bit_bits_of 4 _ k l ∙ assigned_is g w v off k))

-- ── the engine's n ticks ──

-- they leave the classes valid
after_valid : (s : ℕ → Signals) (n : ℕ) (cs : List Class) → ((k : ℕ) → k < 4 → ClassValid (class_of cs k))
    → (k : ℕ) → k < 4 → ClassValid (class_of (four.after s n cs) k)
unfolding four.after four_step
after_valid s zero cs v k l = v k l
after_valid s (suc n) cs v k l =
    subst ClassValid (sym (at_each 4 (λ j. class_step (s j) (class_of (four.after s n cs) j)) k no_class l))
    (step_valid (s k) (class_of (four.after s n cs) k) (after_valid s n cs v k l))

-- and the state
pub moved_valid : (g : Handler) (s : ℕ → Signals) (n : ℕ) (ds : List Class) (ts : Senders) → valid g ≡ true → ds ≡ four.after s n g.classes
    → valid (moved ds ts g) ≡ true
moved_valid g s n ds ts v e =
    let f = facts g v in
    is_valid_law (moved ds ts g)
    (record {
      n = f.n;
      state = f.state;
      enable = f.enable;
      locals = f.locals;
      alerts = f.alerts;
      classes = λ k l. subst (λ (cs : List Class). ClassValid (class_of cs k)) (sym e) (after_valid s n g.classes f.classes k l);
      timer = f.timer;
      pings = f.pings;
      stages = f.stages;
    })

pub moved_lines : (ds : List Class) (ts : Senders) (g : Handler) → lines_on ds ≡ lines (moved ds ts g)
unfolding lines lines_on
moved_lines ds ts g = refl

-- of a settled state they are that many plain ticks
module _ (g : Handler) (w : Wires) (good : valid g ≡ true) (off : is_on g ≡ false) (n : ℕ) (t : Settled g w) where
  abbrev s : ℕ → Signals
  s = met (bits_of 4 (calm_class_event g w)) g.interrupts.state

  -- what the classes meet, by masks
  meets_met : (k : ℕ) → k < 4 → s k ≡ calm_signals g w k
  unfolding met calm_signals
  meets_met k l =
      ap₂ (λ (a b : Bool). record { event = a; interrupt = b; clear = false })
      (bit_bits_of 4 (calm_class_event g w) k l)
      (ap (λ (y : ℕ). bit y k) (sym t.bits) ∙ bit_bits_of 4 (calm_interrupt g w) k l)

  module _ {most : ℕ} {old left : List ℕ} {ds : List Class} {ts : Senders} (run : Running s g.classes g.links.senders settle_ticks most old n ds ts left) where
    pub rest_state : moved ds ts g ≡ calm_run g w n
    rest_state =
        ap₂ (λ (cs : List Class) (ss : Senders). moved cs ss g)
        (run.classes ∙ after_ext s (calm_signals g w) meets_met n g.classes)
        (run.senders ∙ senders_ext s (calm_signals g w) meets_met n g.classes g.links.senders)
        ∙ sym (settled_run g w t good off n)

    pub rest_words : left ≡ old ++ changes (calm_signals g w) settle_ticks n g.classes
    rest_words = run.words ∙ ap (λ (ws : List ℕ). old ++ ws) (changes_ext s (calm_signals g w) meets_met settle_ticks n g.classes)

    -- they leave the state valid, and its timer off
    pub rest_valid : valid (moved ds ts g) ≡ true
    rest_valid = moved_valid g s n ds ts good run.classes

    pub rest_off : is_on (moved ds ts g) ≡ false
    rest_off = off

-- ── plain ticks that settle a state, n ticks of the engine, and one plain tick more ──

pub settled_by : {most : ℕ} (c d : Ticking most) (o : Output) → Walk c settle_ticks d o → Settled d.handler d.wires
settled_by c d o r =
    subst (λ (w : Wires). Settled d.handler w) (sym r.wires)
    (subst (λ (g : Handler). Settled g c.wires) (sym r.handler) (settled_now c.handler c.wires c.good c.off))

four_by : (h : Handler) (w : Wires) → valid h ≡ true → is_on h ≡ false → length (calm_run h w settle_ticks).classes ≡ 4
unfolding calm_after four_step
four_by h w v off = ap (λ (g : Handler). length g.classes) (calm_next h w v off settle_before) ∙ length_each 4 _

pub fits_by : {most : ℕ} (c d : Ticking most) (o : Output) → Walk c settle_ticks d o → FourFit d.handler.classes
fits_by c d o r =
    subst (λ (g : Handler). FourFit g.classes) (sym r.handler)
    (valid_four (calm_run c.handler c.wires settle_ticks) (calm_valid c.handler c.wires c.good settle_ticks) (four_by c.handler c.wires c.good c.off))

-- the n ticks taken in any way that leaves what as many plain ticks leave
pub whole_of : {most : ℕ} (c d e f : Ticking most) (n t : ℕ) (o p : Output) → Walk c settle_ticks d o
    → e.handler ≡ calm_run d.handler d.wires n → e.wires ≡ d.wires
    → e.changes ≡ d.changes ++ changes (calm_signals d.handler d.wires) settle_ticks n d.handler.classes
    → settle_ticks + n + 1 ≡ t → NextBy e t f p → Walk c t f p
whole_of c d e f n t o p r handler wires words u x =
    let h = c.handler in
    let w = c.wires in
    let g = calm_run h w settle_ticks in
    let y : suc (settle_ticks + n) ≡ t = omega (arith, u) in
    let walked : Walk c (settle_ticks + n) e (calm_output h w (settle_ticks + n)) =
    record {
      handler = handler ∙ ap₂ (λ (a : Handler) (b : Wires). calm_run a b n) r.handler r.wires ∙ sym (run_add h w settle_ticks n);
      output = refl;
      wires = wires ∙ r.wires;
      words =
          words
          ∙ (λ i. r.words i ++ changes (calm_signals (r.handler i) (r.wires i)) settle_ticks n (r.handler i).classes)
          ∙ append_assoc c.changes (calm_changes h w settle_ticks) (changes (calm_signals g w) settle_ticks n g.classes)
          ∙ ap (λ (ws : List ℕ). c.changes ++ ws) (sym (calm_changes_law h w c.good c.off settle_ticks (settled_now h w c.good c.off) n));
    } in
    subst (λ (k : ℕ). Walk c k f p) y
    (walk_next c e f (settle_ticks + n) (calm_output h w (settle_ticks + n)) p walked (subst (λ (k : ℕ). NextBy e k f p) (sym y) x))

-- the n ticks taken by the engine
pub whole : {most : ℕ} (c d e f : Ticking most) (n t : ℕ) (o p : Output) → Walk c settle_ticks d o → RestBy d n e → settle_ticks + n + 1 ≡ t → NextBy e t f p → Walk c t f p
whole c d e f n t o p r q u x =
    let z : Settled d.handler d.wires = settled_by c d o r in
    whole_of c d e f n t o p r (q.handler z) q.wires (q.words z) u x
