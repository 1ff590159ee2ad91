-- Request (xii): plain calm ticks one by one.
-- Assumes nothing.
use Prim.Native.Nat.{ℕ, suc, ◌+◌, ◌≤◌, ◌<◌}
use mathlib.Core.Path.{◌≡◌, refl, sym, ap, ap₂, ◌∙◌}
use mathlib.Core.Bool.{true, false}
use mathlib.Core.List.{List, ◌++◌, append-nil, append_assoc}
use native.Mathlib.Omega.{arith}
use lib.ListN.{length}
use Rattle.calm_laws.proofs.CalmRuns.{calm_valid, calm_off, output_lines, no_clear_in}
use Rattle.calm_laws.proofs.Classes.{step_changes_left, step_changes_fall}
use Rattle.calm_laws.proofs.PlainTick.{calm_after_law}
use Rattle.calm_laws.proofs.Rounds.{change_room}
use Rattle.laws.specs.OutputMasks.{interrupts_on, lines_on}
use Rattle.calm_laws.specs.Four.{changes_in}
use Rattle.calm_laws.specs.Settled.{calm_signals, calm_after}
use Rattle.calm_rules.specs.Ticks.{calm_input, calm_run, given_output, calm_output, change, calm_changes}
use Rattle.laws.proofs.Valid.Refusal7.{ticked_handler, ticked_lines}
use Rattle.rules.specs.State.{is_on}
use Rattle.rules.specs.Tick.{interrupts, lines, no_output, ticked}
use Rattle.rules.specs.Valid.{valid}
use Rattle.rules.specs.declared.Handler.{Handler}
use Rattle.rules.specs.declared.Output.{Output}
use Rattle.rules.specs.declared.Ticked.{Ticked}
use Rattle.rules.specs.declared.Wires.{Wires}
use Rattle.calm.specs.Walk.{NextBy, Walk}
use Rattle.calm.specs.declared.ticking.Ticking.{Ticking}

-- ── one tick more ──

module _ (h : Handler) (w : Wires) (v : valid h ≡ true) (off : is_on h ≡ false) where
  abbrev t : Ticked
  t = ticked h (calm_input w h)

  state_is : t.handler ≡ calm_after h w
  state_is = ticked_handler h (calm_input w h) v ∙ calm_after_law h w v off

  pub next_valid : valid t.handler ≡ true
  unfolding calm_run
  next_valid = calm_valid h w v 1

  pub next_off : is_on t.handler ≡ false
  unfolding calm_run
  next_off = calm_off h w v off 1

  pub next_lines : t.output.lines ≡ lines t.handler
  next_lines = ticked_lines h (calm_input w h) v

  module _ (most : ℕ) (ws : List ℕ) (on : ℕ) (l : on ≡ lines h) (r : length ws + changes_in h.classes ≤ most) where
    -- a change of a line leaves fewer that can come
    fewer : (t.output.lines ≡ on → ⊥) → changes_in t.handler.classes < changes_in h.classes
    unfolding lines lines_on calm_after
    fewer d =
        rw state_is
        (step_changes_fall (calm_signals h w) (no_clear_in h w) h.classes (λ x. d (next_lines ∙ ap lines state_is ∙ x ∙ sym l)))

    pub next_entry : (t.output.lines ≡ on → ⊥) → length ws < most
    next_entry d = omega (arith, r, fewer d)

    pub next_room : (tick : ℕ) → length (ws ++ change on t.output.lines tick) + changes_in t.handler.classes ≤ most
    unfolding calm_after
    next_room tick =
        let left : changes_in t.handler.classes ≤ changes_in h.classes = rw state_is (step_changes_left (calm_signals h w) (no_clear_in h w) h.classes) in
        change_room most ws on t.output.lines tick (changes_in h.classes) (changes_in t.handler.classes) r left fewer

-- ── step 5 of a state, with all pairs at (0,1) ──

pub given_by : (h : Handler) (n : Output) (i l : ℕ) → n ≡ no_output → i ≡ interrupts_on h.interrupts.state h.interrupts.enable → l ≡ lines_on h.classes
    → record { interrupts = i; lines = l; acknowledge = n.acknowledge; ping = n.ping; escalation = n.escalation } ≡ given_output h
unfolding interrupts lines interrupts_on lines_on
given_by h n i l e x y =
    λ t. record { interrupts = x t; lines = y t; acknowledge = (e t).acknowledge; ping = (e t).ping; escalation = (e t).escalation }

-- ── n ticks ──

pub walk_none : {most : ℕ} (c : Ticking most) (o : Output) → o ≡ given_output c.handler → Walk c 0 c o
unfolding calm_run calm_output calm_changes
walk_none c o e = record { handler = refl; output = e; wires = refl; words = sym (append-nil c.changes) }

pub walk_next : {most : ℕ} (c d e : Ticking most) (n : ℕ) (o p : Output) → Walk c n d o → NextBy d (suc n) e p → Walk c (suc n) e p
unfolding calm_run calm_output calm_changes
walk_next c d e n o p r t =
    let h = c.handler in
    let w = c.wires in
    let s : p ≡ calm_output h w (suc n) =
    t.output ∙ ap₂ (λ (f : Handler) (v : Wires). (ticked f (calm_input v f)).output) r.handler r.wires in
    let l : d.on ≡ (calm_output h w n).lines = d.lit ∙ ap lines r.handler ∙ sym (output_lines h w c.good n) in
    record {
      handler = t.handler ∙ ap₂ (λ (f : Handler) (v : Wires). (ticked f (calm_input v f)).handler) r.handler r.wires;
      output = s;
      wires = t.wires ∙ r.wires;
      words =
          t.words
          ∙ (λ i. r.words i ++ change (l i) (s i).lines (suc n))
          ∙ append_assoc c.changes (calm_changes h w n) (change (calm_output h w n).lines (calm_output h w (suc n)).lines (suc n));
    }
