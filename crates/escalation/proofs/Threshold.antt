-- Request (vii), over every list of ticks from a new handler: no class is locked with a silly threshold, and a locked one starts in time.
-- Assumes nothing.
use Prim.Native.Nat.{ℕ, ◌^◌, ◌<◌}
use mathlib.Core.Path.{◌≡◌, refl, sym, subst}
use mathlib.Core.Logic.{◌≢◌}
use mathlib.Core.Bool.{Bool, true, false}
use mathlib.Core.List.{List}
use native.Mathlib.Omega.{arith}
use borrow.Author.Tests.{ltb-true, ltb-false}
use lib.Dec.{ltb}
use lib.ListN.{take, get_or-replicate}
use Rattle.class_rules.specs.Class.{no_class}
use Rattle.laws.proofs.Map.Cases.{pick}
use Rattle.laws.proofs.Valid.KeepsValid.{made_valid, run_valid}
use Rattle.laws.proofs.Valid.ValidLaws.{facts}
use Rattle.rules.specs.Run.{run}
use Rattle.rules.specs.State.{class_count, class_at, reset_class, new_handler, bad_count, made}
use Rattle.rules.specs.declared.Handler.{Handler}
use Rattle.rules.specs.declared.Input.{Input}
use Rattle.rules.specs.declared.Made.{Made}
use Rattle.escalation.specs.Threshold.{Threshold}
use Rattle.escalation.proofs.Locking.{Sound, run_sound}
use Rattle.escalation.proofs.Waiting.{in_time}

-- a class of a new handler is not locked
new_sound : (n k : ℕ) → k < class_count → Sound (class_at (made n).handler k)
unfolding made new_handler
new_sound n k l =
    pick (λ (m : Made). Sound (class_at m.handler k)) (bad_count n) _ _ (λ _. reset) (λ _. reset)
  where
    reset : Sound (class_at (new_handler 0) k)
    reset = subst Sound (sym (get_or-replicate class_count k reset_class no_class l)) (λ z e. absurd (omega (arith, z)))

below : (t : ℕ) → t < 2 ^ 16 → t ≢ 65535 → t < 65535
below t l e = go (ltb t 65535) refl
  where
    go : (b : Bool) → ltb t 65535 ≡ b → t < 65535
    go true d = ltb-true t 65535 d
    go false d = let m = ltb-false t 65535 d in absurd (e (omega arith))

pub threshold : (n : ℕ) (xs : List Input) → Threshold n xs
threshold n xs =
    record {
      never = λ k l. sound xs k l;
      start = λ k i d w. in_time h xs (made_valid n) k w.is_class i d
          (λ e. below (class_at (run h (take i xs)) k).thresh ((facts (run h (take i xs)) (run_valid h (take i xs) (made_valid n))).classes k w.is_class).thresh
          (sound (take i xs) k w.is_class w.locked e)) w;
    }
  where
    h : Handler
    h = (made n).handler

    sound : (ys : List Input) (k : ℕ) → k < class_count → Sound (class_at (run h ys) k)
    sound ys k l = run_sound h (made_valid n) k l (new_sound n k l) ys
