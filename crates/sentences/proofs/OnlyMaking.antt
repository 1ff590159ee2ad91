-- No sentence of making is missing: whatever satisfies them makes the same. Nothing here knows the rules' definitions.
-- Assumes nothing.
use Prim.Native.Nat.{ℕ, ◌≤◌, ◌<◌}
use mathlib.Core.Path.{◌≡◌, sym, ◌∙◌}
use mathlib.Core.List.{List}
use native.Mathlib.Omega.{arith}
use native.Mathlib.Decide.{dec_lt}
use Rattle.class_rules.specs.declared.Class.{Class}
use Rattle.rules.specs.declared.ClassStages.{ClassStages}
use Rattle.rules.specs.declared.Handler.{Handler}
use Rattle.rules.specs.declared.Made.{Made}
use Rattle.sentences.specs.Making.{Entries, NewClass, NoStages, New, Making}
use Rattle.sentences.specs.Raw.{class_of, stages_of}
use Rattle.sentences.proofs.OnlySamples.{same_list}

same_entries : (n v : ℕ) (xs ys : List ℕ) → Entries n v xs → Entries n v ys → xs ≡ ys
same_entries n v xs ys a b = same_list n 0 xs ys a.many b.many (λ i l. a.each_is i l ∙ sym (b.each_is i l))

same_new_class : (c d : Class) → NewClass c → NewClass d → c ≡ d
same_new_class c d a b = λ i.
    record {
      lengths = same_entries 4 0 c.lengths d.lengths a.lengths b.lengths i;
      timeout = (a.timeout ∙ sym b.timeout) i;
      count = (a.count ∙ sym b.count) i;
      ctrl = (a.ctrl ∙ sym b.ctrl) i;
      accum = (a.accum ∙ sym b.accum) i;
      thresh = (a.thresh ∙ sym b.thresh) i;
      regwen = (a.regwen ∙ sym b.regwen) i;
      clrwen = (a.clrwen ∙ sym b.clrwen) i;
      state = (a.state ∙ sym b.state) i;
    }

same_no_stages : (c d : ClassStages) → NoStages c → NoStages d → c ≡ d
same_no_stages c d a b = λ i.
    record {
      lengths = same_entries 4 0 c.lengths d.lengths a.lengths b.lengths i;
      timeout = (a.timeout ∙ sym b.timeout) i;
      ctrl = (a.ctrl ∙ sym b.ctrl) i;
      thresh = (a.thresh ∙ sym b.thresh) i;
    }

same_new : (n : ℕ) (h k : Handler) → New n h → New n k → h ≡ k
same_new n h k a b = λ i.
    record {
      n = (a.alerts ∙ sym b.alerts) i;
      links = record {
        receivers = record {
          pausing = same_entries 4 0 h.links.receivers.pausing k.links.receivers.pausing a.pausing b.pausing i;
          busy = same_entries 4 0 h.links.receivers.busy k.links.receivers.busy a.busy b.busy i;
          level = same_entries 4 0 h.links.receivers.level k.links.receivers.level a.level b.level i;
          pending = same_entries 4 0 h.links.receivers.pending k.links.receivers.pending a.pending b.pending i;
        };
        turn = record {
          number = (a.turn_number ∙ sym b.turn_number) i;
          alert = (a.turn_alert ∙ sym b.turn_alert) i;
          count = (a.turn_count ∙ sym b.turn_count) i;
        };
        lines = (a.line_pings ∙ sym b.line_pings) i;
        senders = record {
          on = (a.sender_on ∙ sym b.sender_on) i;
          first = (a.sender_first ∙ sym b.sender_first) i;
          last = (a.sender_last ∙ sym b.sender_last) i;
          deep = (a.sender_deep ∙ sym b.sender_deep) i;
          answer = (a.sender_answer ∙ sym b.sender_answer) i;
        };
        right = (a.ping_right ∙ sym b.ping_right) i;
      };
      timer = record {
        timeout = (a.ping_timeout ∙ sym b.ping_timeout) i;
        regwen = (a.ping_regwen ∙ sym b.ping_regwen) i;
        enable = (a.ping_enable ∙ sym b.ping_enable) i;
      };
      classes =
          same_list 4 _ h.classes k.classes a.class_entries b.class_entries
          (λ j l. same_new_class (class_of h j) (class_of k j) (a.classes j l) (b.classes j l)) i;
      alerts = record {
        regwen = same_entries 248 1 h.alerts.regwen k.alerts.regwen a.alert_regwen b.alert_regwen i;
        en = same_entries 248 0 h.alerts.en k.alerts.en a.alert_en b.alert_en i;
        class = same_entries 248 0 h.alerts.class k.alerts.class a.alert_class b.alert_class i;
        cause = same_entries 248 0 h.alerts.cause k.alerts.cause a.alert_cause b.alert_cause i;
      };
      locals = record {
        regwen = same_entries 7 1 h.locals.regwen k.locals.regwen a.local_regwen b.local_regwen i;
        en = same_entries 7 0 h.locals.en k.locals.en a.local_en b.local_en i;
        class = same_entries 7 0 h.locals.class k.locals.class a.local_class b.local_class i;
        cause = same_entries 7 0 h.locals.cause k.locals.cause a.local_cause b.local_cause i;
      };
      interrupts = record { state = (a.intr_state ∙ sym b.intr_state) i; enable = (a.intr_enable ∙ sym b.intr_enable) i };
      stages = record {
        classes =
            same_list 4 _ h.stages.classes k.stages.classes a.staged_entries b.staged_entries
            (λ j l. same_no_stages (stages_of h j) (stages_of k j) (a.staged_classes j l) (b.staged_classes j l)) i;
        alerts = record {
          en = same_entries 248 0 h.stages.alerts.en k.stages.alerts.en a.staged_alert_en b.staged_alert_en i;
          class = same_entries 248 0 h.stages.alerts.class k.stages.alerts.class a.staged_alert_class b.staged_alert_class i;
        };
        locals = record {
          en = same_entries 7 0 h.stages.locals.en k.stages.locals.en a.staged_local_en b.staged_local_en i;
          class = same_entries 7 0 h.stages.locals.class k.stages.locals.class a.staged_local_class b.staged_local_class i;
        };
        timeout = (a.staged_ping_timeout ∙ sym b.staged_ping_timeout) i;
      };
    }

pub only_making : (f g : ℕ → Made) → Making f → Making g → (n : ℕ) → f n ≡ g n
only_making f g x y n = go (dec_lt n 1) (dec_lt 248 n)
  where
    small : 1 ≤ n → n ≤ 248 → f n ≡ g n
    small a b = λ i.
        record {
          handler = same_new n (f n).handler (g n).handler ((x n).handler a b) ((y n).handler a b) i;
          answer = ((x n).accepted a b ∙ sym ((y n).accepted a b)) i;
        }

    other : ¬ ((1 ≤ n) × (n ≤ 248)) → f n ≡ g n
    other e = λ i.
        record {
          handler = same_new 0 (f n).handler (g n).handler ((x n).none e) ((y n).none e) i;
          answer = ((x n).refused e ∙ sym ((y n).refused e)) i;
        }

    go : Dec (n < 1) → Dec (248 < n) → f n ≡ g n
    go (yes l) m = other (λ e. omega (arith, e.0))
    go (no l) (yes m) = other (λ e. omega (arith, e.1))
    go (no l) (no m) = small (omega arith) (omega arith)
