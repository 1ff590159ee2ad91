-- The rules of step 1 satisfy its sentences.
-- Assumes nothing.
use mathlib.Core.Path.{◌≡◌, ap}
use mathlib.Core.Logic.{◌↔◌}
use Rattle.std.specs.Prelude.{Ok, Err}
use Rattle.rules.specs.Access.{verdict, acted, answer_to, effects, clears}
use Rattle.rules.specs.Answer.{number, Verdict}
use Rattle.rules.specs.declared.Refusal.{Refusal}
use Rattle.sentences.specs.Access.{AccessStep, AccessVerdict, AcceptedClear}
use Rattle.sentences.proofs.AccessAnswer.{holds_answer}
use Rattle.sentences.proofs.AccessArrays.{holds_arrays}
use Rattle.sentences.proofs.AccessEffects.{holds_effects, clears_hold}
use Rattle.sentences.proofs.AccessStays.{holds_written}
use Rattle.sentences.proofs.AccessVerdict.{refusal_of, verdict_of, is_5, is_1, is_2, is_4, is_14, is_3, is_12, is_0}
use Rattle.sentences.proofs.StageWrites.{holds_staged}

pub holds_access : AccessStep acted (λ h x. number (answer_to h x)) effects
holds_access h x m s =
    record {
      answered = holds_answer h x m;
      written = holds_written h x m;
      staged = holds_staged h x m;
      arrays = holds_arrays h x s;
      handed = holds_effects h x m;
    }

pub holds_clear : AcceptedClear clears
holds_clear h x k m = clears_hold h x m k

pub holds_verdict : AccessVerdict verdict
holds_verdict h x m =
    record {
      five = by (Err Refusal.BadRecord) (is_5 h x m);
      one = by (Err Refusal.NoRegister) (is_1 h x m);
      two = by (Err Refusal.WrongWay) (is_2 h x m);
      four = by (Err Refusal.TooWide) (is_4 h x m);
      fourteen = by (Err Refusal.SillyThreshold) (is_14 h x m);
      three = by (Err Refusal.Locked) (is_3 h x m);
      twelve = by (Err Refusal.Differs) (is_12 h x m);
      accepted = by (Ok tt) (is_0 h x m);
    }
  where
    -- a verdict and its number
    by : {P : Type 0} (t : Verdict) → (refusal_of (verdict h x) ≡ refusal_of t) ↔ P → (verdict h x ≡ t) ↔ P
    by t f = (λ e. f.0 (ap refusal_of e), λ p. verdict_of (verdict h x) t (f.1 p))
