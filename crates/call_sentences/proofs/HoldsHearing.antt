-- What the boundary promises of hearing satisfies the sentences.
-- Assumes nothing.
use mathlib.Core.Path.{◌≡◌, refl, sym, subst}
use mathlib.Core.Logic.{◌↔◌}
use mathlib.Core.Bool.{Bool, true, false}
use native.Mathlib.Omega.{arith}
use Rattle.bits.proofs.BitLaws.{bits_of_lt, bit_bits_of}
use Rattle.handler.specs.Account.{told, account}
use Rattle.handler.specs.declared.account.Account.{Account}
use Rattle.laws.proofs.Samples.Heard.{heard_event_law, heard_answer_law}
use Rattle.rules.specs.Access.{accessed, acted, effects}
use Rattle.rules.specs.Samples.{asks_for, happened, answered, heard, occurs}
use Rattle.rules.specs.Tick.{hears}
use Rattle.rules.specs.Valid.{valid}
use Rattle.rules.specs.declared.Effects.{Effects}
use Rattle.rules.specs.declared.Handler.{Handler}
use Rattle.rules.specs.declared.Input.{Input}
use Rattle.rules.specs.declared.Sample.{Sample}
use Rattle.sentences.specs.Receivers.{Answers, Event}
use Rattle.sentences.specs.Samples.{RaisesFiveOrNone, Occurs}
use Rattle.sentences.specs.Valid.{Valid}
use Rattle.sentences.proofs.HoldsReceivers.{four_words, event_is, answers_is}
use Rattle.sentences.proofs.HoldsSamples.{holds_occurs}
use Rattle.sentences.proofs.HoldsTick.{holds_step1}
use Rattle.sentences.proofs.HoldsValid.{holds_valid}
use Rattle.sentences.proofs.SentenceCases.{off}
use Rattle.call_sentences.specs.Hearing.{Told, Tells, Hears}

-- what comes back beside the answer
abbrev pub told_by : Account → Told
told_by a = record { events = a.events; answers = a.answers; locals = a.locals }

module _ (h : Handler) (x : Input) where
  abbrev g : Handler
  g = (accessed h x.access).handler

  abbrev f : Effects
  f = (accessed h x.access).effects

  abbrev s : Sample
  s = x.sample

  holds_tells : Valid g → RaisesFiveOrNone f → Tells g s f (told_by (told h x))
  unfolding hears heard acted effects
  holds_tells v r =
      record {
        event = λ i l. subst (λ (t : Bool). (t ≡ true) ↔ Event g s f i) (sym (heard_event_law g s f i l)) (event_is g s f i l);
        event_words = four_words (happened g (asks_for g s f) s.alerts);
        answer = λ i l. subst (λ (t : Bool). (t ≡ true) ↔ Answers g s f i) (sym (heard_answer_law g s f i l)) (answers_is g s f i l);
        answer_words = four_words (answered g (asks_for g s f) s.alerts);
        local = λ j l. subst (λ (t : Bool). (t ≡ true) ↔ Occurs g s f j) (sym (bit_bits_of 7 (occurs g (heard g s f)) j l)) (holds_occurs g s f j v.n v.ping_timeout r l);
        seven = omega (arith, bits_of_lt 7 (occurs g (heard g s f)));
      }

  pub holds_hears : Hears accessed h x (told_by (account h x))
  unfolding account
  holds_hears =
      record {
        refused = λ n. let e : valid h ≡ false = off (valid h) (holds_valid h) n in rw e (record { events = refl; answers = refl; locals = refl });
        runs = λ v. let e : valid h ≡ true = (holds_valid h).1 v in rw e (holds_tells (holds_step1.valid h x.access v) (holds_step1.raises h x.access));
      }
