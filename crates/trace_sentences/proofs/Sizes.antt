-- A making, a tick and a batch leave the state's arrays their lengths, so that any call may follow them: this is in the sentences.
-- Assumes nothing.
use Prim.Native.Nat.{ℕ, zero, suc, ◌%◌, ◌≤◌, ◌<◌}
use mathlib.Core.Path.{◌≡◌, sym, subst}
use mathlib.Core.List.{List}
use native.Mathlib.Omega.{arith}
use native.Mathlib.Decide.{dec_lt, ℕ_discrete}
use lib.IntN.{ℤ}
use lib.ListN.{length}
use Rattle.trace_rules.specs.declared.Edition.{Edition}
use Rattle.rules.specs.declared.Handler.{Handler}
use Rattle.rules.specs.declared.Input.{Input}
use Rattle.rules.specs.declared.Made.{Made}
use Rattle.laws.proofs.Map.Cases.{by_field}
use Rattle.sentences.specs.AccessArrays.{Sized}
use Rattle.sentences.specs.Raw.{alert_list, local_list}
use Rattle.sentences.specs.Making.{New, Makes}
use Rattle.sentences.specs.Valid.{Valid}
use Rattle.trace_sentences.specs.BatchTicks.{Case7, Case8, Case9, count, record_of, Ran}
use Rattle.trace_sentences.specs.RecordBits.{form}
use Rattle.trace_sentences.specs.Replays.{Replays}
use Rattle.trace_sentences.proofs.OnlyBatches.{dec_valid, dec_7}
use Rattle.trace_sentences.proofs.BytePlaces.{dec_and, dec_not}
use Rattle.trace_sentences.proofs.Replays.{sized_next}

sized_new : (n : ℕ) (h : Handler) → New n h → Sized h
sized_new n h w =
    record {
      alerts = by_field (λ f. length (alert_list h f) ≡ 248) w.alert_regwen.many w.alert_en.many w.alert_class.many w.alert_cause.many;
      locals = by_field (λ f. length (local_list h f) ≡ 7) w.local_regwen.many w.local_en.many w.local_class.many w.local_cause.many;
      classes = w.class_entries;
      lengths = λ k l. (w.classes k l).lengths.many;
      alert_en = w.staged_alert_en.many;
      alert_class = w.staged_alert_class.many;
      local_en = w.staged_local_en.many;
      local_class = w.staged_local_class.many;
      stages = w.staged_entries;
      stage_lengths = λ k l. (w.staged_classes k l).lengths.many;
    }

pub sized_made : (n : ℕ) (m : Made) → Makes n m → Sized m.handler
sized_made n m w = go (dec_and (dec_lt 0 n) (dec_lt n 249))
  where
    go : Dec ((0 < n) × (n < 249)) → Sized m.handler
    go (yes l) = sized_new n m.handler (w.handler (omega (arith, l.0)) (omega (arith, l.1)))
    go (no f) = sized_new 0 m.handler (w.none (λ l. f (omega (arith, l.0), omega (arith, l.1))))

module _ (state : Edition → Handler → List ℕ → List ℕ → Handler) (answer : Edition → Handler → List ℕ → List ℕ → ℤ)
    (list : Edition → Handler → List ℕ → List ℕ → List ℕ) (p : Replays state answer list) where
  pub sized_tick : (h : Handler) (x : Input) → Sized h → Sized (p.tick h x).handler
  sized_tick h x z = go (dec_valid h)
    where
      go : Dec (Valid h) → Sized (p.tick h x).handler
      go (yes v) = sized_next p.tick p.number p.ticks h x v z
      go (no f) = subst Sized (sym ((p.ticks.ticks h x).refused f).state) z

  pub sized_batch : (e : Edition) (h : Handler) (bytes out : List ℕ) → Sized h → Sized (state e h bytes out)
  sized_batch e h bytes out z =
      go (dec_7 e h) (dec_not (ℕ_discrete (length bytes % (form e).bytes) 0)) (dec_lt (length out) (count e bytes))
    where
      walk : (n : ℕ) (x : ℕ → Input) (g : Handler) (a : ℤ) (ws : List ℕ) (r : Ran p.tick p.word n x h out g a ws) (i : ℕ) → i ≤ n → Sized (r.states i)
      walk n x g a ws r zero k = subst Sized (sym r.first) z
      walk n x g a ws r (suc i) k =
          let m : i < n = omega arith in subst Sized (sym (r.next i m)) (sized_tick (r.states i) (x i) (walk n x g a ws r i (omega arith)))

      go : Dec (Case7 e h) → Dec (Case8 e bytes) → Dec (Case9 e bytes out) → Sized (state e h bytes out)
      go (yes a) b c = subst Sized (sym ((p.batches e h bytes out).refused_7 a).state) z
      go (no a) (yes b) c = subst Sized (sym ((p.batches e h bytes out).refused_8 a b).state) z
      go (no a) (no b) (yes c) = subst Sized (sym ((p.batches e h bytes out).refused_9 a b c).state) z
      go (no a) (no b) (no c) =
          let r = (p.batches e h bytes out).runs a b c in
          subst Sized (sym r.last)
          (walk (count e bytes) (λ i. p.read e (record_of e bytes i)) (state e h bytes out) (answer e h bytes out) (list e h bytes out) r (count e bytes) (omega arith))
