-- No sentence is missing: no sequence of calls tells two libraries apart of which all sentences hold. So the boundary is each of them.
-- Assumes nothing.
use Prim.Native.Nat.{ℕ}
use mathlib.Core.Path.{◌≡◌, refl, sym, ap, ap₂, ◌∙◌, subst}
use mathlib.Core.List.{List, [], ◌∷◌}
use Rattle.boot_sentences.proofs.OnlyBoots.{only_installer, sized_installed}
use Rattle.boundary.specs.declared.Wired.{Wired}
use Rattle.call_sentences.proofs.OnlyArguments.{only_tick_inputs, only_write_calls}
use Rattle.call_sentences.proofs.OnlyHearing.{only_hears}
use Rattle.call_sentences.proofs.OnlyReceiving.{only_receiving}
use Rattle.call_sentences.specs.Hearing.{told_of, Hears}
use Rattle.calm_sentences.proofs.OnlyCalms.{only_calms, sized_calmed}
use Rattle.dump_sentences.proofs.OnlyDumpers as dumpers
use Rattle.rules.specs.declared.Handler.{Handler}
use Rattle.rules.specs.declared.Input.{Input}
use Rattle.sentences.proofs.OnlyMaking.{only_making}
use Rattle.sentences.proofs.Whole.{Same, only_whole}
use Rattle.sentences.specs.AccessArrays.{Sized}
use Rattle.trace_sentences.proofs.Replays.{only_replays}
use Rattle.trace_sentences.proofs.Sizes.{sized_made, sized_tick, sized_batch}
use Rattle.trace_sentences.specs.Replays.{Replays}
use Rattle.everything.specs.Calling.{Call, take, do_new, do_tick, do_hear, do_batch, do_record, do_receive, do_install, do_calm, do_dump, do_read, Typed, any_state, any_new, any_tick, any_hear, any_batch, any_record, any_receive, any_install, any_calm, any_dump, any_read, AllTyped, none, one, Got, of_new, of_tick, of_hear, of_batch, of_record, of_receive, of_install, of_calm, of_dump, of_read, got, after, all}
use Rattle.everything.specs.Everything.{Library, Everything}
use Rattle.everything.proofs.HoldsEverything.{boundary, holds_everything}

-- its ticks, words, records and batches
abbrev replays_of : (l : Library) → Everything l → Replays (λ e h bytes out. (l.batch e h bytes out).handler) (λ e h bytes out. (l.batch e h bytes out).answer) l.batch_words
replays_of l s =
    record {
      tick = s.tick;
      number = s.number;
      ticks = s.ticks;
      word = s.word;
      words = s.words;
      read = s.read;
      reads = s.reads;
      batches = s.batches;
    }

-- ── a call leaves the arrays their lengths ──

module _ (l : Library) (s : Everything l) where
  sized_after : (h : Handler) (c : Call) → Sized h → Typed c → Sized (after h (got l h c))
  sized_after h (take g) z (any_state y) = y
  sized_after h (do_new n) z any_new = sized_made n (l.new n) (s.making n)
  sized_after h (do_tick k r v w) z any_tick = subst Sized (sym (s.tick_state h k r v w)) (sized_tick _ _ _ (replays_of l s) h (s.input k r v w) z)
  sized_after h (do_hear k r v w) z any_hear = z
  sized_after h (do_batch e bytes out) z (any_batch b) = sized_batch _ _ _ (replays_of l s) e h bytes out z
  sized_after h (do_record x buffer) z (any_record w) = z
  sized_after h (do_receive r p m) z any_receive = z
  sized_after h (do_install c) z any_install = sized_installed l.install s.installs c h z
  sized_after h (do_calm w n list) z (any_calm k) = sized_calmed l.calm l.calm_words s.calms h w n list z k
  sized_after h (do_dump buffer) z any_dump = z
  sized_after h (do_read bytes) z (any_read b) = z

-- ── two libraries, call by call ──

module _ (l m : Library) (s : Everything l) (t : Everything m) where
  same_ticked : (h : Handler) (x : Input) → Sized h → Same s.number t.number (s.tick h x) (t.tick h x)
  same_ticked h x z = only_whole s.tick t.tick s.number t.number s.ticks t.ticks h x z

  same_input : (k r v : ℕ) (w : Wired) → s.input k r v w ≡ t.input k r v w
  same_input = only_tick_inputs s.input t.input s.inputs t.inputs

  same_tick : (h : Handler) (k r v : ℕ) (w : Wired) → Sized h → l.tick h k r v w ≡ m.tick h k r v w
  same_tick h k r v w z =
      let x = s.input k r v w in
      let e = same_input k r v w in
      let g = same_ticked h x z in
      λ i.
      record {
        handler = (s.tick_state h k r v w ∙ g.state ∙ ap (λ (y : Input). (t.tick h y).handler) e ∙ sym (t.tick_state h k r v w)) i;
        answer = (s.tick_answer h k r v w ∙ g.answer ∙ ap (λ (y : Input). t.number (t.tick h y).answer) e ∙ sym (t.tick_answer h k r v w)) i;
        output = (s.tick_output h k r v w ∙ g.output ∙ ap (λ (y : Input). (t.tick h y).output) e ∙ sym (t.tick_output h k r v w)) i;
      }

  same_hear : (h : Handler) (k r v : ℕ) (w : Wired) → Sized h → l.hear h k r v w ≡ m.hear h k r v w
  same_hear h k r v w z =
      let x = s.input k r v w in
      let e = same_input k r v w in
      let u = subst (λ (y : Input). Hears t.ticks.step1 h y (told_of (m.hear h k r v w))) (sym e) (t.hears h k r v w) in
      let d = only_hears _ _ _ _ s.ticks t.ticks h x z (told_of (l.hear h k r v w)) (told_of (m.hear h k r v w)) (s.hears h k r v w) u in
      λ i.
      record {
        events = (d i).events;
        answers = (d i).answers;
        locals = (d i).locals;
        answer =
            (s.hear_answer h k r v w ∙ (same_ticked h x z).answer ∙ ap (λ (y : Input). t.number (t.tick h y).answer) e ∙ sym (t.hear_answer h k r v w)) i;
      }

  pub same_got : (h : Handler) (c : Call) → Sized h → Typed c → got l h c ≡ got m h c
  same_got h (take g) z (any_state y) = refl
  same_got h (do_new n) z any_new = ap of_new (only_making l.new m.new s.making t.making n)
  same_got h (do_tick k r v w) z any_tick = ap of_tick (same_tick h k r v w z)
  same_got h (do_hear k r v w) z any_hear = ap of_hear (same_hear h k r v w z)
  same_got h (do_batch e bytes out) z (any_batch b) =
      let x = only_replays _ _ _ _ _ _ (replays_of l s) (replays_of m t) e h bytes out z b in
      λ i. of_batch (record { handler = x.state i; answer = x.answer i }) (x.list i)
  same_got h (do_record x buffer) z (any_record w) =
      let y = only_write_calls l.write m.write l.write_bytes m.write_bytes s.writes t.writes x buffer w in
      ap₂ of_record y.answer y.buffer
  same_got h (do_receive r p n) z any_receive = ap of_receive (only_receiving l.receive m.receive s.receives t.receives r p n)
  same_got h (do_install c) z any_install = ap of_install (only_installer l.install m.install s.installs t.installs c h z)
  same_got h (do_calm w n list) z (any_calm k) =
      let x = only_calms l.calm m.calm l.calm_words m.calm_words s.calms t.calms h w n list z k in
      ap₂ of_calm x.gives x.leaves
  same_got h (do_dump buffer) z any_dump =
      let x = dumpers.only_writer l.dump m.dump l.dump_bytes m.dump_bytes s.dumps t.dumps h buffer in
      ap₂ of_dump x.answer x.buffer
  same_got h (do_read bytes) z (any_read b) = ap of_read (dumpers.only_reader l.read_dump_law m.read_dump_law s.dump_reads t.dump_reads bytes b)

  -- every sequence of calls, from any state whose arrays have their lengths
  pub only_everything : (h : Handler) (cs : List Call) → Sized h → AllTyped cs → all l h cs ≡ all m h cs
  unfolding all
  only_everything h [] z none = refl
  only_everything h (c ∷ cs) z (one k ks) =
      let e = same_got h c z k in
      ap₂ {C = List Got} ◌∷◌ e (only_everything (after h (got l h c)) cs (sized_after l s h c z k) ks ∙ ap (λ (g : Got). all m (after h g) cs) e)

-- both joined: whatever is as the documents say gives what the boundary gives
pub is_the_boundary : (l : Library) → Everything l → (h : Handler) (cs : List Call) → Sized h → AllTyped cs → all l h cs ≡ all boundary h cs
is_the_boundary l s h cs z ks = only_everything l boundary s holds_everything h cs z ks
