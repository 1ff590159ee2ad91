-- The rules are such a library, and two of them give, for every edition, state, bytes and list, the same state, answer and list.
-- Assumes nothing.
use Prim.Native.Nat.{ℕ, ◌≤◌, ◌<◌}
use mathlib.Core.Path.{◌≡◌, sym, ap, ◌∙◌, subst}
use mathlib.Core.List.{List}
use native.Mathlib.Omega.{arith}
use lib.IntN.{ℤ}
use lib.ListN.{get_or, length}
use Rattle.class_rules.specs.declared.Class.{Class}
use Rattle.rules.specs.Answer.{number}
use Rattle.trace_rules.specs.Batch.{batch}
use Rattle.trace_laws.proofs.ReadValues.{read_fits}
use Rattle.trace_rules.specs.Record.{input_of}
use Rattle.rules.specs.Tick.{ticked}
use Rattle.trace_rules.specs.Word.{word_of}
use Rattle.rules.specs.declared.Alerts.{Alerts}
use Rattle.rules.specs.declared.Answer.{Answer}
use Rattle.trace_rules.specs.declared.Edition.{Edition}
use Rattle.trace_rules.specs.declared.Edition.TheVariants.{Alerts64, Alerts248, Pings, Wires}
use Rattle.rules.specs.declared.Field.{Field}
use Rattle.rules.specs.declared.Handler.{Handler}
use Rattle.rules.specs.declared.Input.{Input}
use Rattle.rules.specs.declared.Locals.{Locals}
use Rattle.rules.specs.declared.Stages.{Stages}
use Rattle.rules.specs.declared.Ticked.{Ticked}
use Rattle.laws.proofs.Map.Cases.{by_field}
use Rattle.sentences.specs.AccessArrays.{Sized}
use Rattle.sentences.specs.Raw.{no_class, no_stages, alert_list, local_list}
use Rattle.sentences.specs.Valid.{Valid}
use Rattle.sentences.specs.Whole.{Whole}
use Rattle.sentences.proofs.HoldsValid.{holds_valid}
use Rattle.sentences.proofs.Whole.{Same, holds_whole, only_whole}
use Rattle.trace_sentences.specs.RecordBits.{form}
use Rattle.trace_sentences.specs.Replays.{Replays}
use Rattle.trace_sentences.specs.Words.{InRange, Words}
use Rattle.trace_sentences.proofs.HoldsBatches.{holds_batches}
use Rattle.trace_sentences.proofs.HoldsRecords.{holds_reader}
use Rattle.trace_sentences.proofs.HoldsWords.{holds_words, in_range}
use Rattle.trace_sentences.proofs.OnlyBatches.{SameBatch, Agree, same_batch}
use Rattle.trace_sentences.proofs.OnlyRecords.{only_reader}
use Rattle.trace_sentences.proofs.OnlyWords.{only_words_of}

unfoldable pub holds_replays : Replays (λ e h bytes out. (batch e h bytes out).handler) (λ e h bytes out. (batch e h bytes out).answer) (λ e h bytes out. (batch e h bytes out).out)
holds_replays =
    record {
      tick = ticked;
      number = number;
      ticks = holds_whole;
      word = word_of;
      words = holds_words;
      read = input_of;
      reads = holds_reader;
      batches = holds_batches;
    }

-- ── a tick leaves the arrays their lengths: this is in the sentences ──

module _ (tick : Handler → Input → Ticked) (m : Answer → ℤ) (p : Whole tick m) (h : Handler) (x : Input) (v : Valid h) (s : Sized h) where
  abbrev g : Handler
  g = (p.step1 h x.access).handler

  abbrev t : Handler
  t = (tick h x).handler

  first : Sized g
  first = (p.accesses h x.access v.n s).arrays

  pub sized_next : Sized t
  sized_next =
      let r = (p.ticks h x).runs v in
      let two = r.step2 in
      let four = r.steps34 in
      let end = r.links in
      record {
        alerts = by_field (λ f. length (alert_list t f) ≡ 248) (ap (λ (a : Alerts). length a.regwen) (end.alerts ∙ four.alerts) ∙ ap length two.alert_regwen ∙ first.alerts Field.Regwen)
            (ap (λ (a : Alerts). length a.en) (end.alerts ∙ four.alerts) ∙ ap length two.alert_en ∙ first.alerts Field.En)
            (ap (λ (a : Alerts). length a.class) (end.alerts ∙ four.alerts) ∙ ap length two.alert_class ∙ first.alerts Field.Class)
            (ap (λ (a : Alerts). length a.cause) (end.alerts ∙ four.alerts) ∙ two.cause_entries);
        locals = by_field (λ f. length (local_list t f) ≡ 7) (ap (λ (a : Locals). length a.regwen) (end.locals ∙ four.locals) ∙ ap length two.local_regwen ∙ first.locals Field.Regwen)
            (ap (λ (a : Locals). length a.en) (end.locals ∙ four.locals) ∙ ap length two.local_en ∙ first.locals Field.En)
            (ap (λ (a : Locals). length a.class) (end.locals ∙ four.locals) ∙ ap length two.local_class ∙ first.locals Field.Class)
            (ap (λ (a : Locals). length a.cause) (end.locals ∙ four.locals) ∙ two.local_entries);
        classes = ap length end.classes ∙ four.entries;
        lengths = λ k l.
            ap (λ (cs : List Class). length (get_or cs k (no_class)).lengths) end.classes
            ∙ ap length (four.steps k l).lengths
            ∙ ap (λ (cs : List Class). length (get_or cs k (no_class)).lengths) two.classes
            ∙ first.lengths k l;
        alert_en = ap (λ (a : Stages). length a.alerts.en) (end.stages ∙ four.stages ∙ two.stages) ∙ first.alert_en;
        alert_class = ap (λ (a : Stages). length a.alerts.class) (end.stages ∙ four.stages ∙ two.stages) ∙ first.alert_class;
        local_en = ap (λ (a : Stages). length a.locals.en) (end.stages ∙ four.stages ∙ two.stages) ∙ first.local_en;
        local_class = ap (λ (a : Stages). length a.locals.class) (end.stages ∙ four.stages ∙ two.stages) ∙ first.local_class;
        stages = ap (λ (a : Stages). length a.classes) (end.stages ∙ four.stages ∙ two.stages) ∙ first.stages;
        stage_lengths = λ k l.
            ap (λ (a : Stages). length (get_or a.classes k (no_stages)).lengths) (end.stages ∙ four.stages ∙ two.stages)
            ∙ first.stage_lengths k l;
      }

  -- the answer is in range, since it is the rules' answer
  answer_range : InRange (m (tick h x).answer)
  answer_range =
      subst InRange (sym (only_whole tick ticked m number p holds_whole h x s).answer)
      (in_range (ticked h x).answer (read_fits h ((holds_valid h).1 v) x))

-- ── two libraries ──

abbrev pub Good : Handler → Type 0
Good h = Valid h × Sized h

pub some : (e : Edition) → 0 < (form e).bytes
some Alerts64 = omega arith
some Alerts248 = omega arith
some Pings = omega arith
some Wires = omega arith

-- two ticks of the sentences, with their words
module _ (tick tock : Handler → Input → Ticked) (m n : Answer → ℤ) (p : Whole tick m) (q : Whole tock n) (word term : Ticked → ℕ) (u : Words m word) (v : Words n term) where
  same : (h : Handler) (x : Input) → Sized h → Same m n (tick h x) (tock h x)
  same h x s = only_whole tick tock m n p q h x s

  pub agree : Agree Good tick tock word term
  agree =
      record {
        keeps = λ h x g. ((p.ticks h x).stays_valid g.0, sized_next tick m p h x g.0 g.1);
        state = λ h x g. (same h x g.1).state;
        one_word = λ h x g. only_words_of m n word term u v (tick h x) (tock h x) (same h x g.1) (answer_range tick m p h x g.0 g.1);
      }

module _ (state other : Edition → Handler → List ℕ → List ℕ → Handler) (answer reply : Edition → Handler → List ℕ → List ℕ → ℤ)
    (list words : Edition → Handler → List ℕ → List ℕ → List ℕ) (p : Replays state answer list) (q : Replays other reply words) where
  -- on any state whose arrays have their lengths, any bytes and any list
  pub only_replays : (e : Edition) (h : Handler) (bytes out : List ℕ) → Sized h → ((i : ℕ) → get_or bytes i 0 ≤ 255)
      → SameBatch (state e h bytes out) (other e h bytes out) (answer e h bytes out) (reply e h bytes out) (list e h bytes out) (words e h bytes out)
  only_replays e h bytes out s b =
      same_batch p.tick q.tick p.word q.word p.read q.read e h bytes out (state e h bytes out) (other e h bytes out) (answer e h bytes out) (reply e h bytes out)
      (list e h bytes out) (words e h bytes out) (p.batches e h bytes out) (q.batches e h bytes out) (some e) Good
      (agree p.tick q.tick p.number q.number p.ticks q.ticks p.word q.word p.words q.words) (λ v. (v, s))
      (λ bs l c. only_reader p.read q.read p.reads q.reads e bs l c) b
