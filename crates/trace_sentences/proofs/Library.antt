-- The rules are a library that satisfies all sentences, and no sequence of calls tells two such libraries apart, from any state whose arrays have their
-- lengths, with any arguments that the C types can hold.
-- Assumes nothing.
use Prim.Native.Nat.{ℕ, zero, suc, ◌%◌, ◌≤◌, ◌<◌}
use mathlib.Core.Path.{◌≡◌, refl, sym, ap, ap₂, ◌∙◌, subst}
use mathlib.Core.List.{List, [], ◌∷◌}
use native.Mathlib.Omega.{arith}
use native.Mathlib.Decide.{dec_lt, ℕ_discrete}
use lib.IntN.{ℤ}
use lib.ListN.{get_or, length}
use Rattle.rules.specs.Answer.{number}
use Rattle.trace_rules.specs.Batch.{batch}
use Rattle.trace_rules.specs.Edition.{newest}
use Rattle.rules.specs.State.{made}
use Rattle.rules.specs.Tick.{ticked}
use Rattle.trace_rules.specs.Writer.{write}
use Rattle.trace_rules.specs.declared.Edition.{Edition}
use Rattle.rules.specs.declared.Handler.{Handler}
use Rattle.rules.specs.declared.Input.{Input}
use Rattle.rules.specs.declared.Made.{Made}
use Rattle.laws.proofs.Map.Cases.{by_field}
use Rattle.sentences.specs.AccessArrays.{Sized}
use Rattle.sentences.specs.Raw.{alert_list, local_list}
use Rattle.sentences.specs.Making.{New, Makes}
use Rattle.sentences.specs.Valid.{Valid}
use Rattle.sentences.proofs.HoldsMaking.{holds_making}
use Rattle.sentences.proofs.OnlyMaking.{only_making}
use Rattle.sentences.proofs.Whole.{Same, only_whole}
use Rattle.trace_sentences.specs.BatchTicks.{Case7, Case8, Case9, count, record_of, Ran}
use Rattle.trace_sentences.specs.Library.{Library, Satisfies, off, Call, make, step, replay, record_all, Typed, any_count, any_input, all_bytes, all_arrays, AllTyped, none, one, Got, got, leaves, all, last}
use Rattle.trace_sentences.specs.RecordBits.{form}
use Rattle.trace_sentences.specs.Replays.{Replays}
use Rattle.trace_sentences.proofs.HoldsWriters.{holds_writer}
use Rattle.trace_sentences.proofs.OnlyBatches.{SameBatch, dec_valid, dec_7}
use Rattle.trace_sentences.proofs.OnlyWriters.{only_writer}
use Rattle.trace_sentences.proofs.BytePlaces.{dec_and, dec_not}
use Rattle.trace_sentences.proofs.Replays.{holds_replays, only_replays, sized_next}

-- ── the rules ──

abbrev pub rules : Library
rules =
    record {
      new = made;
      tick = λ h x. (ticked h x).handler;
      output = λ h x. (ticked h x).output;
      answer = λ h x. number (ticked h x).answer;
      batch_state = λ e h bytes out. (batch e h bytes out).handler;
      batch_answer = λ e h bytes out. (batch e h bytes out).answer;
      batch_list = λ e h bytes out. (batch e h bytes out).out;
      write_answer = λ xs buffer. (write newest xs buffer).answer;
      write_buffer = λ xs buffer. (write newest xs buffer).buffer;
    }

unfoldable pub holds_library : Satisfies rules
unfolding holds_replays
holds_library =
    record {
      making = holds_making;
      replays = holds_replays;
      tick = λ h x. refl;
      output = λ h x. refl;
      answer = λ h x. refl;
      writer = holds_writer;
    }

-- ── every call leaves the arrays their lengths ──

sized_new : (n : ℕ) (h : Handler) → New n h → Sized h
sized_new n h w =
    record {
      alerts = by_field (λ f. length (alert_list h f) ≡ 248) w.alert_regwen.many w.alert_en.many w.alert_class.many w.alert_cause.many;
      locals = by_field (λ f. length (local_list h f) ≡ 7) w.local_regwen.many w.local_en.many w.local_class.many w.local_cause.many;
      classes = w.class_entries;
      lengths = λ k l. (w.classes k l).lengths.many;
      alert_en = w.staged_alert_en.many;
      alert_class = w.staged_alert_class.many;
      local_en = w.staged_local_en.many;
      local_class = w.staged_local_class.many;
      stages = w.staged_entries;
      stage_lengths = λ k l. (w.staged_classes k l).lengths.many;
    }

sized_made : (n : ℕ) (m : Made) → Makes n m → Sized m.handler
sized_made n m w = go (dec_and (dec_lt 0 n) (dec_lt n 249))
  where
    go : Dec ((0 < n) × (n < 249)) → Sized m.handler
    go (yes l) = sized_new n m.handler (w.handler (omega (arith, l.0)) (omega (arith, l.1)))
    go (no f) = sized_new 0 m.handler (w.none (λ l. f (omega (arith, l.0), omega (arith, l.1))))

module _ (l : Library) (s : Satisfies l) where
  abbrev p : Replays l.batch_state l.batch_answer l.batch_list
  p = s.replays

  sized_tick : (h : Handler) (x : Input) → Sized h → Sized (p.tick h x).handler
  sized_tick h x z = go (dec_valid h)
    where
      go : Dec (Valid h) → Sized (p.tick h x).handler
      go (yes v) = sized_next p.tick p.number p.ticks h x v z
      go (no f) = subst Sized (sym ((p.ticks.ticks h x).refused f).state) z

  sized_batch : (e : Edition) (h : Handler) (bytes out : List ℕ) → Sized h → Sized (l.batch_state e h bytes out)
  sized_batch e h bytes out z =
      go (dec_7 e h) (dec_not (ℕ_discrete (length bytes % (form e).bytes) 0)) (dec_lt (length out) (count e bytes))
    where
      walk : (n : ℕ) (x : ℕ → Input) (g : Handler) (a : ℤ) (ws : List ℕ) (r : Ran p.tick p.word n x h out g a ws) (i : ℕ) → i ≤ n → Sized (r.states i)
      walk n x g a ws r zero k = subst Sized (sym r.first) z
      walk n x g a ws r (suc i) k =
          let m : i < n = omega arith in subst Sized (sym (r.next i m)) (sized_tick (r.states i) (x i) (walk n x g a ws r i (omega arith)))

      go : Dec (Case7 e h) → Dec (Case8 e bytes) → Dec (Case9 e bytes out) → Sized (l.batch_state e h bytes out)
      go (yes a) b c = subst Sized (sym ((p.batches e h bytes out).refused_7 a).state) z
      go (no a) (yes b) c = subst Sized (sym ((p.batches e h bytes out).refused_8 a b).state) z
      go (no a) (no b) (yes c) = subst Sized (sym ((p.batches e h bytes out).refused_9 a b c).state) z
      go (no a) (no b) (no c) =
          let r = (p.batches e h bytes out).runs a b c in
          subst Sized (sym r.last)
          (walk (count e bytes) (λ i. p.read e (record_of e bytes i)) (l.batch_state e h bytes out) (l.batch_answer e h bytes out) (l.batch_list e h bytes out) r (count e bytes) (omega arith))

  pub sized_leaves : (h : Handler) (c : Call) → Sized h → Sized (leaves l h c)
  sized_leaves h (make n) z = sized_made n (l.new n) (s.making n)
  sized_leaves h (step x) z = subst Sized (sym (s.tick h x)) (sized_tick h x z)
  sized_leaves h (replay e bytes out) z = sized_batch e h bytes out z
  sized_leaves h (record_all xs buffer) z = z

-- ── two libraries ──

module _ (l m : Library) (s : Satisfies l) (t : Satisfies m) where
  same_tick : (h : Handler) (x : Input) → Sized h → Same s.replays.number t.replays.number (s.replays.tick h x) (t.replays.tick h x)
  same_tick h x z =
      only_whole s.replays.tick t.replays.tick s.replays.number t.replays.number s.replays.ticks t.replays.ticks h x z

  same_batch : (e : Edition) (h : Handler) (bytes out : List ℕ) → Sized h → ((i : ℕ) → get_or bytes i 0 ≤ 255)
      → SameBatch (l.batch_state e h bytes out) (m.batch_state e h bytes out) (l.batch_answer e h bytes out) (m.batch_answer e h bytes out) (l.batch_list e h bytes out) (m.batch_list e h bytes out)
  same_batch e h bytes out z b =
      only_replays l.batch_state m.batch_state l.batch_answer m.batch_answer l.batch_list m.batch_list s.replays t.replays e h bytes out z b

  pub same_got : (h : Handler) (c : Call) → Sized h → Typed c → got l h c ≡ got m h c
  same_got h (make n) z any_count =
      ap (λ (d : Made). record { number = d.answer; output = off; lent = [] }) (only_making l.new m.new s.making t.making n)
  same_got h (step x) z any_input = λ i.
      record {
        number = (s.answer h x ∙ (same_tick h x z).answer ∙ sym (t.answer h x)) i;
        output = (s.output h x ∙ (same_tick h x z).output ∙ sym (t.output h x)) i;
        lent = [];
      }
  same_got h (replay e bytes out) z (all_bytes b) = λ i.
      record { number = (same_batch e h bytes out z b).answer i; output = off; lent = (same_batch e h bytes out z b).list i }
  same_got h (record_all xs buffer) z (all_arrays a) =
      let w = only_writer l.write_answer m.write_answer l.write_buffer m.write_buffer s.writer t.writer xs buffer a in
      λ i. record { number = w.answer i; output = off; lent = w.buffer i }

  pub same_leaves : (h : Handler) (c : Call) → Sized h → Typed c → leaves l h c ≡ leaves m h c
  same_leaves h (make n) z any_count = ap (λ (d : Made). d.handler) (only_making l.new m.new s.making t.making n)
  same_leaves h (step x) z any_input = s.tick h x ∙ (same_tick h x z).state ∙ sym (t.tick h x)
  same_leaves h (replay e bytes out) z (all_bytes b) = (same_batch e h bytes out z b).state
  same_leaves h (record_all xs buffer) z (all_arrays a) = refl

  pub only_library : (h : Handler) (cs : List Call) → Sized h → AllTyped cs → (all l h cs ≡ all m h cs) × (last l h cs ≡ last m h cs)
  unfolding all last
  only_library h [] z none = (refl, refl)
  only_library h (c ∷ cs) z (one k ks) =
      let r = only_library (leaves l h c) cs (sized_leaves l s h c z) ks in
      let e = same_leaves h c z k in (
        ap₂ {C = List Got} ◌∷◌ (same_got h c z k) (r.0 ∙ ap (λ (g : Handler). all m g cs) e),
        r.1 ∙ ap (λ (g : Handler). last m g cs) e,
      )
