-- No sentence of hearing is missing: whatever satisfies them tells one thing. Nothing here knows the rules' definitions.
-- Assumes nothing.
use mathlib.Core.Path.{◌≡◌, sym, ◌∙◌, subst}
use native.Mathlib.Omega.{arith}
use lib.IntN.{ℤ}
use Rattle.bits.specs.Bits.{bit}
use Rattle.bits.proofs.BitLaws.{bit_ext}
use Rattle.rules.specs.declared.Answer.{Answer}
use Rattle.rules.specs.declared.Effects.{Effects}
use Rattle.rules.specs.declared.Handler.{Handler}
use Rattle.rules.specs.declared.Input.{Input}
use Rattle.rules.specs.declared.Sample.{Sample}
use Rattle.rules.specs.declared.Ticked.{Ticked}
use Rattle.sentences.specs.AccessArrays.{Sized}
use Rattle.sentences.specs.Raw.{bit_of_alert}
use Rattle.sentences.specs.Valid.{Valid}
use Rattle.sentences.specs.Whole.{Whole}
use Rattle.sentences.proofs.AccessOnly.{only_access}
use Rattle.sentences.proofs.OnlySamples.{same_four}
use Rattle.sentences.proofs.SentenceCases.{same_test}
use Rattle.trace_sentences.proofs.OnlyBatches.{dec_valid}
use Rattle.call_sentences.specs.Hearing.{Told, Tells, TellsNothing, Hears}

same_tells : (g : Handler) (s : Sample) (f : Effects) (t u : Told) → Tells g s f t → Tells g s f u → t ≡ u
same_tells g s f t u a b = λ i.
    record {
      events =
          same_four t.events u.events a.event_words b.event_words
          (λ j l. same_test (bit_of_alert t.events j) (bit_of_alert u.events j) (a.event j l) (b.event j l)) i;
      answers =
          same_four t.answers u.answers a.answer_words b.answer_words
          (λ j l. same_test (bit_of_alert t.answers j) (bit_of_alert u.answers j) (a.answer j l) (b.answer j l)) i;
      locals =
          bit_ext 7 t.locals u.locals (omega (arith, a.seven)) (omega (arith, b.seven))
          (λ j l. same_test (bit t.locals j) (bit u.locals j) (a.local j l) (b.local j l)) i;
    }

same_nothing : (t u : Told) → TellsNothing t → TellsNothing u → t ≡ u
same_nothing t u a b = λ i.
    record {
      events = (a.events ∙ sym b.events) i;
      answers = (a.answers ∙ sym b.answers) i;
      locals = (a.locals ∙ sym b.locals) i;
    }

-- two handlers that satisfy the sentences hear the same in every tick
pub only_hears : (f g : Handler → Input → Ticked) (m n : Answer → ℤ) (p : Whole f m) (q : Whole g n) (h : Handler) (x : Input) → Sized h
    → (t u : Told) → Hears p.step1 h x t → Hears q.step1 h x u → t ≡ u
only_hears f g m n p q h x l t u a b = go (dec_valid h)
  where
    go : Dec (Valid h) → t ≡ u
    go (yes v) =
        let s = only_access _ _ _ _ _ _ p.accesses q.accesses h x.access v.n l in
        let w : Tells (p.step1 h x.access).handler x.sample (p.step1 h x.access).effects u =
        subst (λ (e : Effects). Tells (p.step1 h x.access).handler x.sample e u) (sym s.2)
        (subst (λ (k : Handler). Tells k x.sample (q.step1 h x.access).effects u) (sym s.0) (b.runs v)) in
        same_tells (p.step1 h x.access).handler x.sample (p.step1 h x.access).effects t u (a.runs v) w
    go (no z) = same_nothing t u (a.refused z) (b.refused z)
