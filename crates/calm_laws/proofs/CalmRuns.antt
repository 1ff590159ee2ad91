-- Request (xii): calm ticks of the whole handler. A calm call is a list of ticks; from a settled state on they move the classes and the senders alone, and
-- each class meets the same in every tick.
-- Assumes nothing.
use Prim.Native.Nat.{ℕ, zero, suc, ◌+◌, ◌≤◌, ◌<◌}
use mathlib.Core.Path.{◌≡◌, refl, sym, ap, ap₂, ◌∙◌, subst}
use mathlib.Core.Bool.{Bool, true, false, ◌&&◌, ◌||◌}
use mathlib.Core.List.{List, [], ◌∷◌, ◌++◌, append-nil, append_assoc}
use native.Mathlib.Nat.{add-zero, add-suc}
use native.Mathlib.Omega.{arith}
use lib.ListN.{length, length-append}
use Rattle.bits.proofs.IndexLaws.{at_each, each_ext}
use Rattle.bits.specs.Bits.{bit}
use Rattle.bits.specs.Index.{any_to}
use Rattle.class_rules.specs.Class.{no_class}
use Rattle.class_rules.specs.Step.{class_step}
use Rattle.class_rules.specs.declared.Class.{Class}
use Rattle.class_rules.specs.declared.Signals.{Signals}
use Rattle.link_rules.specs.Senders.{sent_all}
use Rattle.link_rules.specs.declared.Senders.{Senders}
use Rattle.rules.specs.Run.{run}
use Rattle.rules.specs.Samples.{alert_broken}
use Rattle.rules.specs.State.{is_on}
use Rattle.rules.specs.Tick.{lines, ticked}
use Rattle.rules.specs.Valid.{valid}
use Rattle.rules.specs.declared.Handler.{Handler}
use Rattle.rules.specs.declared.Wires.{Wires}
use Rattle.laws.proofs.State.StateNumber.{number_state}
use Rattle.laws.proofs.Tick.Runs.{run_append}
use Rattle.laws.proofs.Tick.Turns.{after_on}
use Rattle.laws.proofs.Valid.KeepsValid.{ticked_valid}
use Rattle.laws.proofs.Valid.Refusal7.{ticked_handler, ticked_lines}
use Rattle.laws.proofs.Valid.ValidLaws.{facts}
use Rattle.laws.specs.Facts.{ClassValid}
use Rattle.calm_rules.specs.Ticks.{calm_input, calm_run, calm_inputs, calm_output, change, calm_changes}
use Rattle.calm_laws.specs.Four as four
use Rattle.laws.specs.OutputMasks.{lines_on}
use Rattle.calm_laws.specs.Four.{class_of, four_step, changes, senders_after, changes_in, FourFit}
use Rattle.calm_laws.specs.Settled.{calm_assigned, calm_class_event, calm_interrupt, calm_signals, calm_after, moved, Settled, settle_ticks, SameCtrl}
use Rattle.calm_laws.specs.Stand.{Fits}
use Rattle.calm_laws.specs.Steady.{steady}
use Rattle.calm_laws.proofs.Classes.{step_changes_left, step_changes_fall}
use Rattle.calm_laws.proofs.Rounds.{changes_twenty, change_room}
use Rattle.calm_laws.proofs.PlainTick.{bits_ext, calm_after_law}
use Rattle.calm_laws.proofs.Settling.{settles}

-- ── a calm call is a list of ticks ──

pub calm_is_run : (h : Handler) (w : Wires) (n : ℕ) → calm_run h w n ≡ run h (calm_inputs h w n)
unfolding calm_run calm_inputs run
calm_is_run h w zero = refl
calm_is_run h w (suc n) =
    ap (λ (g : Handler). (ticked g (calm_input w (calm_run h w n))).handler) (calm_is_run h w n)
    ∙ sym (run_append h (calm_inputs h w n) (calm_input w (calm_run h w n) ∷ []))

pub length_inputs : (h : Handler) (w : Wires) (n : ℕ) → length (calm_inputs h w n) ≡ n
unfolding calm_inputs
length_inputs h w zero = refl
length_inputs h w (suc n) = let e = length-append (calm_inputs h w n) (calm_input w (calm_run h w n) ∷ []) in omega (arith, e, length_inputs h w n)

-- ticks after ticks
pub run_add : (h : Handler) (w : Wires) (m n : ℕ) → calm_run h w (m + n) ≡ calm_run (calm_run h w m) w n
unfolding calm_run
run_add h w m zero = ap (calm_run h w) (add-zero m)
run_add h w m (suc n) = ap (calm_run h w) (add-suc m n) ∙ ap (λ (g : Handler). (ticked g (calm_input w g)).handler) (run_add h w m n)

-- ── a state that refusal 7 does not meet ──

module _ (h : Handler) (w : Wires) (v : valid h ≡ true) where
  pub calm_valid : (n : ℕ) → valid (calm_run h w n) ≡ true
  unfolding calm_run
  calm_valid zero = v
  calm_valid (suc n) = ticked_valid (calm_run h w n) (calm_input w (calm_run h w n)) (calm_valid n)

  -- the lines of tick n are those of the state after it
  pub output_lines : (n : ℕ) → (calm_output h w n).lines ≡ lines (calm_run h w n)
  unfolding calm_output calm_run
  output_lines zero = refl
  output_lines (suc n) = ticked_lines (calm_run h w n) (calm_input w (calm_run h w n)) (calm_valid n)

  module _ (off : is_on h ≡ false) where
    pub calm_off : (n : ℕ) → is_on (calm_run h w n) ≡ false
    unfolding calm_run
    calm_off zero = off
    calm_off (suc n) =
        let g = calm_run h w n in
        ap is_on (ticked_handler g (calm_input w g) (calm_valid n)) ∙ after_on g (calm_input w g) ∙ ap (λ (b : Bool). b || false) (calm_off n)

    -- one tick more
    pub calm_next : (n : ℕ) → calm_run h w (suc n) ≡ calm_after (calm_run h w n) w
    unfolding calm_run
    calm_next n =
        let g = calm_run h w n in
        ticked_handler g (calm_input w g) (calm_valid n) ∙ calm_after_law g w (calm_valid n) (calm_off n)

    -- three settle it
    pub settled_now : Settled (calm_run h w settle_ticks) w
    unfolding calm_run
    settled_now =
        subst (λ (g : Handler). Settled g w)
        (sym (calm_next 2 ∙ ap (λ (g : Handler). calm_after g w) (calm_next 1 ∙ ap (λ (g : Handler). calm_after g w) (calm_next 0))))
        (settles h w (facts h v).n)

-- no access, so no clear
pub no_clear_in : (g : Handler) (w : Wires) (k : ℕ) → (calm_signals g w k).clear ≡ false
unfolding calm_signals
no_clear_in g w k = refl

-- ── the classes fit ──

class_fits_law : (c : Class) → ClassValid c → Fits c
class_fits_law c v =
    record { named = number_state c.state v.state; accum = v.accum; thresh = v.thresh; timeout = v.timeout; lengths = v.lengths }

pub valid_four : (h : Handler) → valid h ≡ true → length h.classes ≡ 4 → FourFit h.classes
valid_four h v l = record { four = l; all = λ k m. class_fits_law (class_of h.classes k) ((facts h v).classes k m) }

-- ── a tick of a settled state, whatever its classes and senders are by now ──

module _ (g : Handler) (w : Wires) (t : Settled g w) where
  event_same : (cs : List Class) (ss : Senders) → SameCtrl cs g.classes → (k : ℕ) → k < 4 → calm_class_event (moved cs ss g) w k ≡ calm_class_event g w k
  unfolding alert_broken
  event_same cs ss e k l = ap (λ (x : ℕ). calm_assigned g w k && (bit x 0 && any_to (λ i. bit x (2 + i)) 4)) (e.ctrl k l)

  bit_same : (cs : List Class) (ss : Senders) → SameCtrl cs g.classes → (k : ℕ) → k < 4 → calm_interrupt (moved cs ss g) w k ≡ calm_interrupt g w k
  bit_same cs ss e k l = ap (λ (b : Bool). bit g.interrupts.state k || b) (event_same cs ss e k l)

  signals_same : (cs : List Class) (ss : Senders) → SameCtrl cs g.classes → (k : ℕ) → k < 4 → calm_signals (moved cs ss g) w k ≡ calm_signals g w k
  unfolding calm_signals
  signals_same cs ss e k l =
      ap₂ (λ (a b : Bool). record { event = a; interrupt = b; clear = false }) (event_same cs ss e k l) (bit_same cs ss e k l)

  step_same : (cs : List Class) (ss : Senders) → SameCtrl cs g.classes → four_step (calm_signals (moved cs ss g) w) cs ≡ four_step (calm_signals g w) cs
  unfolding four_step
  step_same cs ss e = each_ext 4 _ _ no_class (λ k l. ap (λ (s : Signals). class_step s (class_of cs k)) (signals_same cs ss e k l))

  pub calm_tick : (cs : List Class) (ss : Senders) → SameCtrl cs g.classes
      → calm_after (moved cs ss g) w ≡ moved (four_step (calm_signals g w) cs) (sent_all ss (steady (lines_on (four_step (calm_signals g w) cs)))) g
  unfolding calm_after alert_broken
  calm_tick cs ss e =
      let c = step_same cs ss e in
      let b = bits_ext 4 (calm_interrupt (moved cs ss g) w) (calm_interrupt g w) (bit_same cs ss e) ∙ t.bits in
      λ i. record {
        n = g.n;
        links =
            record {
              receivers = t.receivers i;
              turn = g.links.turn;
              lines = t.lines i;
              senders = sent_all ss (steady (lines_on (c i)));
              right = t.right i;
            };
        classes = c i;
        alerts = t.alerts i;
        locals = t.locals i;
        interrupts = record { state = b i; enable = g.interrupts.enable };
        timer = g.timer;
        stages = g.stages;
      }

  step_ctrl : (cs : List Class) → SameCtrl cs g.classes → SameCtrl (four_step (calm_signals g w) cs) g.classes
  unfolding four_step class_step
  step_ctrl cs e =
      record { ctrl = λ k l. ap (λ (c : Class). c.ctrl) (at_each 4 (λ j. class_step (calm_signals g w j) (class_of cs j)) k no_class l) ∙ e.ctrl k l }

  after_ctrl : (n : ℕ) → SameCtrl (four.after (calm_signals g w) n g.classes) g.classes
  unfolding four.after
  after_ctrl zero = record { ctrl = λ k l. refl }
  after_ctrl (suc n) = step_ctrl (four.after (calm_signals g w) n g.classes) (after_ctrl n)

  -- n of them
  pub settled_run : valid g ≡ true → is_on g ≡ false → (n : ℕ)
      → calm_run g w n ≡ moved (four.after (calm_signals g w) n g.classes) (senders_after (calm_signals g w) n g.classes g.links.senders) g
  unfolding calm_run four.after senders_after
  settled_run v off zero = refl
  settled_run v off (suc n) =
      calm_next g w v off n
      ∙ ap (λ (x : Handler). calm_after x w) (settled_run v off n)
      ∙ calm_tick (four.after (calm_signals g w) n g.classes) (senders_after (calm_signals g w) n g.classes g.links.senders) (after_ctrl n)

-- ── the whole: j plain ticks that settle the state, and the rest by the classes and the senders alone ──

module _ (h : Handler) (w : Wires) (v : valid h ≡ true) (off : is_on h ≡ false) (j : ℕ) (t : Settled (calm_run h w j) w) where
  abbrev g : Handler
  g = calm_run h w j

  abbrev s : ℕ → Signals
  s = calm_signals g w

  pub calm_run_law : (n : ℕ) → calm_run h w (j + n) ≡ moved (four.after s n g.classes) (senders_after s n g.classes g.links.senders) g
  calm_run_law n = run_add h w j n ∙ settled_run g w t (calm_valid h w v j) (calm_off h w v off j) n

  lines_at : (n : ℕ) → (calm_output h w (j + n)).lines ≡ lines_on (four.after s n g.classes)
  unfolding lines lines_on
  lines_at n = output_lines h w v (j + n) ∙ ap lines (calm_run_law n)

  pub calm_changes_law : (n : ℕ) → calm_changes h w (j + n) ≡ calm_changes h w j ++ changes s j n g.classes
  unfolding calm_changes changes
  calm_changes_law zero = ap (calm_changes h w) (add-zero j) ∙ sym (append-nil (calm_changes h w j))
  calm_changes_law (suc n) =
      let o : suc (j + n) ≡ j + suc n = omega arith in
      ap (calm_changes h w) (sym o)
      ∙ ap₂ ◌++◌ (calm_changes_law n)
      (ap₂ (λ (x y : ℕ). change x y (suc (j + n))) (lines_at n) (ap (λ (x : ℕ). (calm_output h w x).lines) o ∙ lines_at (suc n))
      ∙ ap (change (lines_on (four.after s n g.classes)) (lines_on (four.after s (suc n) g.classes))) o)
      ∙ append_assoc (calm_changes h w j) (changes s j n g.classes) (change (lines_on (four.after s n g.classes)) (lines_on (four.after s (suc n) g.classes)) (j + suc n))

-- ── 20 entries are always enough: a change of a line leaves fewer that can come ──

module _ (h : Handler) (w : Wires) (v : valid h ≡ true) (off : is_on h ≡ false) where
  next_classes : (n : ℕ) → (calm_run h w (suc n)).classes ≡ four_step (calm_signals (calm_run h w n) w) (calm_run h w n).classes
  unfolding calm_after
  next_classes n = ap (λ (g : Handler). g.classes) (calm_next h w v off n)

  -- the lines of a state are its classes'
  lines_four : (g : Handler) → lines g ≡ lines_on g.classes
  unfolding lines lines_on
  lines_four g = refl

  room_next : (n : ℕ) → length (calm_changes h w n) + changes_in (calm_run h w n).classes ≤ 20
      → length (calm_changes h w (suc n)) + changes_in (calm_run h w (suc n)).classes ≤ 20
  unfolding calm_changes
  room_next n r =
      let cs = (calm_run h w n).classes in
      let s = calm_signals (calm_run h w n) w in
      let before : (calm_output h w n).lines ≡ lines_on cs = output_lines h w v n ∙ lines_four (calm_run h w n) in
      let now : (calm_output h w (suc n)).lines ≡ lines_on (four_step s cs) =
      output_lines h w v (suc n) ∙ lines_four (calm_run h w (suc n)) ∙ ap lines_on (next_classes n) in
      rw (ap changes_in (next_classes n))
      (change_room 20 (calm_changes h w n) _ _ (suc n) (changes_in cs) (changes_in (four_step s cs)) r
      (step_changes_left s (no_clear_in (calm_run h w n) w) cs)
      (λ d. step_changes_fall s (no_clear_in (calm_run h w n) w) cs (λ x. d (now ∙ x ∙ sym before))))

  pub room_left : (n : ℕ) → length (calm_changes h w n) + changes_in (calm_run h w n).classes ≤ 20
  unfolding calm_changes calm_run
  room_left zero = omega (arith, changes_twenty h.classes)
  room_left (suc n) = room_next n (room_left n)

  pub twenty_are_enough : (n : ℕ) → length (calm_changes h w n) ≤ 20
  twenty_are_enough n = omega (arith, room_left n)
