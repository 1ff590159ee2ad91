-- The boundary's calls are sound, by the definitions that its contracts cite, and no sequence of calls tells two sound libraries apart.
-- Assumes nothing.
use Prim.Native.Nat.{ℕ}
use mathlib.Core.Path.{◌≡◌, refl, sym, ap, ap₂, ◌∙◌, subst}
use mathlib.Core.List.{List, [], ◌∷◌}
use lib.IntN.{pos}
use Rattle.boundary.specs.Input.{input_by}
use Rattle.boundary.specs.declared.Wired.{Wired}
use Rattle.handler.proofs.Accounts.{account_answer}
use Rattle.handler.specs.Account.{account}
use Rattle.handler.specs.Answered.{answered}
use Rattle.link_rules.specs.declared.Listened.{Listened}
use Rattle.trace_rules.specs.Batch.{batch}
use Rattle.rules.specs.State.{made}
use Rattle.rules.specs.Tick.{ticked}
use Rattle.rules.specs.declared.Handler.{Handler}
use Rattle.rules.specs.declared.Input.{Input}
use Rattle.rules.specs.declared.Made.{Made}
use Rattle.writer.specs.Lent.{write_lent}
use Rattle.sentences.specs.AccessArrays.{Sized}
use Rattle.sentences.proofs.OnlyMaking.{only_making}
use Rattle.sentences.proofs.Whole.{holds_whole}
use Rattle.trace_sentences.specs.Library.{off, make as l_make, step as l_step, replay as l_replay, any_input as l_input, all_bytes as l_bytes, Got as LGot}
use Rattle.trace_sentences.proofs.Library.{rules, holds_library, same_got, same_leaves, sized_leaves}
use Rattle.trace_sentences.proofs.Replays.{holds_replays}
use Rattle.call_sentences.specs.Hearing.{Hears}
use Rattle.call_sentences.specs.Station.{Station, Sound, Call, make, step, hear, replay, write, listen, Typed, any_count, any_step, any_hear, all_bytes, all_words, any_listen, AllTyped, none, one, Got, untold, unlistened, got, all}
use Rattle.call_sentences.proofs.HoldsArguments.{lent_by, holds_tick_inputs, holds_write_calls}
use Rattle.call_sentences.proofs.HoldsHearing.{told_by, holds_hears}
use Rattle.call_sentences.proofs.HoldsReceiving.{receive_by, holds_receiving}
use Rattle.call_sentences.proofs.OnlyArguments.{only_tick_inputs, only_write_calls}
use Rattle.call_sentences.proofs.OnlyHearing.{only_hears}
use Rattle.call_sentences.proofs.OnlyReceiving.{only_receiving}

-- what the contracts of `tarravane_new`, `_tick`, `_hear`, the batches, the writer and `tarravane_receive` say that they give
abbrev pub boundary : Station
boundary =
    record {
      new = made;
      tick_state = λ h k r v w. (answered (ticked h (input_by k r v w))).handler;
      tick_answer = λ h k r v w. (answered (ticked h (input_by k r v w))).answer;
      tick_output = λ h k r v w. (answered (ticked h (input_by k r v w))).output;
      hear_told = λ h k r v w. told_by (account h (input_by k r v w));
      hear_answer = λ h k r v w. (account h (input_by k r v w)).answer;
      batch_state = λ e h bytes out. (batch e h bytes out).handler;
      batch_answer = λ e h bytes out. (batch e h bytes out).answer;
      batch_list = λ e h bytes out. (batch e h bytes out).out;
      write_answer = λ l buffer. (write_lent (lent_by l) buffer).answer;
      write_buffer = λ l buffer. (write_lent (lent_by l) buffer).buffer;
      receive = receive_by;
    }

pub sound_boundary : Sound boundary
unfolding answered holds_library holds_replays holds_whole
sound_boundary =
    record {
      behind = rules;
      sound = holds_library;
      new = λ n. refl;
      input = input_by;
      inputs = holds_tick_inputs;
      tick_state = λ h k r v w. refl;
      tick_answer = λ h k r v w. refl;
      tick_output = λ h k r v w. refl;
      hear_told = λ h k r v w. holds_hears h (input_by k r v w);
      hear_answer = λ h k r v w. account_answer h (input_by k r v w);
      batch_state = λ e h bytes out. refl;
      batch_answer = λ e h bytes out. refl;
      batch_list = λ e h bytes out. refl;
      writes = holds_write_calls;
      receives = holds_receiving;
    }

-- a call leaves the arrays their lengths
sized_call : (c : Station) → Sound c → (h : Handler) (x : Call) → Sized h → Sized (got c h x).state
sized_call c s h (make n) z = subst (λ (m : Made). Sized m.handler) (sym (s.new n)) (sized_leaves s.behind s.sound h (l_make n) z)
sized_call c s h (step k r v w) z = subst Sized (sym (s.tick_state h k r v w)) (sized_leaves s.behind s.sound h (l_step (s.input k r v w)) z)
sized_call c s h (hear k r v w) z = z
sized_call c s h (replay e bytes out) z = subst Sized (sym (s.batch_state e h bytes out)) (sized_leaves s.behind s.sound h (l_replay e bytes out) z)
sized_call c s h (write l buffer) z = z
sized_call c s h (listen r p m) z = z

module _ (c d : Station) (s : Sound c) (t : Sound d) where
  same_new : (n : ℕ) → c.new n ≡ d.new n
  same_new n = s.new n ∙ only_making s.behind.new t.behind.new s.sound.making t.sound.making n ∙ sym (t.new n)

  same_input : (k r v : ℕ) (w : Wired) → s.input k r v w ≡ t.input k r v w
  same_input = only_tick_inputs s.input t.input s.inputs t.inputs

  same_call : (h : Handler) (x : Call) → Sized h → Typed x → got c h x ≡ got d h x
  same_call h (make n) z any_count =
      ap (λ (m : Made). record { number = m.answer; output = off; told = untold; lent = []; listened = unlistened; state = m.handler }) (same_new n)
  same_call h (step k r v w) z any_step =
      let x = s.input k r v w in
      let g = same_got s.behind t.behind s.sound t.sound h (l_step x) z l_input in
      let l = same_leaves s.behind t.behind s.sound t.sound h (l_step x) z l_input in
      let e = same_input k r v w in
      λ i.
      record {
        number = (s.tick_answer h k r v w ∙ ap (λ (y : LGot). y.number) g ∙ ap (t.behind.answer h) e ∙ sym (t.tick_answer h k r v w)) i;
        output = (s.tick_output h k r v w ∙ ap (λ (y : LGot). y.output) g ∙ ap (t.behind.output h) e ∙ sym (t.tick_output h k r v w)) i;
        told = untold;
        lent = [];
        listened = unlistened;
        state = (s.tick_state h k r v w ∙ l ∙ ap (t.behind.tick h) e ∙ sym (t.tick_state h k r v w)) i;
      }
  same_call h (hear k r v w) z any_hear =
      let x = s.input k r v w in
      let e = same_input k r v w in
      let g = same_got s.behind t.behind s.sound t.sound h (l_step x) z l_input in
      let u = subst (λ (y : Input). Hears t.sound.replays.ticks.step1 h y (d.hear_told h k r v w)) (sym e) (t.hear_told h k r v w) in
      λ i.
      record {
        number = (s.hear_answer h k r v w ∙ ap (λ (y : LGot). y.number) g ∙ ap (t.behind.answer h) e ∙ sym (t.hear_answer h k r v w)) i;
        output = off;
        told = only_hears _ _ _ _ s.sound.replays.ticks t.sound.replays.ticks h x z (c.hear_told h k r v w) (d.hear_told h k r v w) (s.hear_told h k r v w) u i;
        lent = [];
        listened = unlistened;
        state = h;
      }
  same_call h (replay e bytes out) z (all_bytes b) =
      let g = same_got s.behind t.behind s.sound t.sound h (l_replay e bytes out) z (l_bytes b) in
      let l = same_leaves s.behind t.behind s.sound t.sound h (l_replay e bytes out) z (l_bytes b) in
      λ i.
      record {
        number = (s.batch_answer e h bytes out ∙ ap (λ (y : LGot). y.number) g ∙ sym (t.batch_answer e h bytes out)) i;
        output = off;
        told = untold;
        lent = (s.batch_list e h bytes out ∙ ap (λ (y : LGot). y.lent) g ∙ sym (t.batch_list e h bytes out)) i;
        listened = unlistened;
        state = (s.batch_state e h bytes out ∙ l ∙ sym (t.batch_state e h bytes out)) i;
      }
  same_call h (write l buffer) z (all_words p) =
      let w = only_write_calls c.write_answer d.write_answer c.write_buffer d.write_buffer s.writes t.writes l buffer p in
      λ i. record { number = w.answer i; output = off; told = untold; lent = w.buffer i; listened = unlistened; state = h }
  same_call h (listen r p m) z any_listen =
      ap (λ (x : Listened). record { number = pos 0; output = off; told = untold; lent = []; listened = x; state = h })
      (only_receiving c.receive d.receive s.receives t.receives r p m)

  -- every sequence of calls, from any state whose arrays have their lengths
  pub only_station : (h : Handler) (xs : List Call) → Sized h → AllTyped xs → all c h xs ≡ all d h xs
  unfolding all
  only_station h [] z none = refl
  only_station h (x ∷ xs) z (one k ks) =
      let e = same_call h x z k in
      ap₂ {C = List Got} ◌∷◌ e (only_station (got c h x).state xs (sized_call c s h x z) ks ∙ ap (λ (g : Got). all d g.state xs) e)
