-- No sentence of step 1 is missing: whatever satisfies them leaves one state, gives one answer and hands on one set of effects, on every state of at
-- most 248 alerts, so on every one that refusal 7 does not meet, and every access. Nothing here knows the rules' definitions.
-- Assumes nothing.
use Prim.Native.Nat.{ℕ, ◌≤◌}
use mathlib.Core.Path.{◌≡◌}
use mathlib.Core.Bool.{Bool}
use lib.IntN.{ℤ}
use Rattle.rules.specs.declared.Access.{Access}
use Rattle.rules.specs.declared.Effects.{Effects}
use Rattle.rules.specs.declared.Handler.{Handler}
use Rattle.rules.specs.Answer.{Verdict}
use Rattle.sentences.specs.Access.{AccessStep, AccessVerdict, AcceptedClear}
use Rattle.sentences.specs.AccessArrays.{Sized}
use Rattle.sentences.proofs.AccessOnlyAnswer.{same_answer, same_effects, same_verdict}
use Rattle.sentences.proofs.AccessOnlyState.{same_state}
use Rattle.sentences.proofs.SentenceCases.{same_test}

pub only_access : (s t : Handler → Access → Handler) (y z : Handler → Access → ℤ) (d e : Handler → Access → Effects)
    → AccessStep s y d → AccessStep t z e → (h : Handler) (x : Access) → h.n ≤ 248 → Sized h
    → (s h x ≡ t h x) × (y h x ≡ z h x) × (d h x ≡ e h x)
only_access s t y z d e f g h x m l =
    let a = f h x m l in
    let b = g h x m l in (
      same_state h x (s h x) (t h x) a.written b.written a.arrays b.arrays a.staged b.staged,
      same_answer h x (y h x) (z h x) a.answered b.answered,
      same_effects h x (d h x) (e h x) a.handed b.handed,
    )

pub only_verdict : (t u : Handler → Access → Verdict) → AccessVerdict t → AccessVerdict u → (h : Handler) (x : Access) → h.n ≤ 248 → t h x ≡ u h x
only_verdict t u f g h x m = same_verdict h x (t h x) (u h x) (f h x m) (g h x m)

pub only_clear : (c d : Handler → Access → ℕ → Bool) → AcceptedClear c → AcceptedClear d
    → (h : Handler) (x : Access) (k : ℕ) → h.n ≤ 248 → c h x k ≡ d h x k
only_clear c d f g h x k m = same_test (c h x k) (d h x k) (f h x k m) (g h x k m)
