-- After the boot of a new handler every receiver is ready with no ping open, so the corollary of FromBoot is met: alert 14, marked A, at (1,0) in the
-- first tick.
-- Assumes nothing.
use Prim.Native.Nat.{ℕ, ◌≤◌}
use mathlib.Core.Path.{◌≡◌, refl, ap}
use mathlib.Core.Bool.{true}
use mathlib.Core.List.{List, ◌∷◌}
use native.Mathlib.Omega.{arith}
use Rattle.class_rules.specs.declared.ClassState.TheVariants.{Phase0}
use Rattle.escalation.specs.Escalation.{state_in, Starts}
use Rattle.escalation.specs.List.{IsTick, given_at}
use Rattle.rules.proofs.Scenes.{rules}
use Rattle.rules.specs.Run.{run, ticks}
use Rattle.rules.specs.Scenes.{raise, none}
use Rattle.rules.specs.State.{most, new_handler}
use Rattle.rules.specs.declared.Handler.{Handler}
use Rattle.rules.specs.declared.Input.{Input}
use Rattle.boot_laws.specs.FromBoot.{FirstEvent}
use Rattle.policy.specs.Plan.{is_a, locks, boot}
use Rattle.policy.specs.Table.{alert_count, mark_at}
use Rattle.policy.specs.declared.Installed.{Installed}
use Rattle.policy.specs.declared.Lifecycle.{Lifecycle}
use Rattle.boot_laws.specs.Stands.{Success}
use Rattle.boot_laws.proofs.Boot.{new_succeeds}
use Rattle.boot_laws.proofs.Receivers.{off_rise}
use Rattle.boot_laws.proofs.FromBoot.{from_boot}

-- ── the corollary is met ──

module _ (l : Lifecycle) (n : ℕ) (c : locks l ≡ true) (k : is_a (mark_at l 14) ≡ true) (a : alert_count ≤ n) (b : n ≤ most) (ys : List Input) where
  abbrev h : Handler
  h = (boot l (new_handler n)).handler

  ok : Success l (new_handler n)
  ok = record { register = ap (λ (r : Installed). r.register) (new_succeeds l n a b); answer = ap (λ (r : Installed). r.answer) (new_succeeds l n a b) }

  first_event : FirstEvent l h (raise 14 none) 14
  unfolding rules
  first_event =
      record {
        idle = (from_boot l n ys c a b).idle;
        is_alert = omega arith;
        marked = k;
        occurs = off_rise l (new_handler n) ok refl (raise 14 none) 14 (omega arith) refl;
        unclear = refl;
      }

  -- from the boot to Phase 0 in one tick
  starts : state_in (given_at 0 h (raise 14 none ∷ ys) 0).handler 0 ≡ Phase0
  unfolding run ticks
  starts =
      let f = from_boot l n (raise 14 none ∷ ys) c a b in
      let t : IsTick 0 (raise 14 none ∷ ys) 0 = record { from = omega arith; to = omega arith } in
      ((f.escalation 0 0 14 t first_event 0 (omega arith) t).in_phase_law 0 (omega arith)).1 (record { from = omega arith; to = omega arith })

  -- a start as demand 3 says it, of a locked class with EN and LOCK
  is_start : Starts h (raise 14 none) 0
  unfolding run
  is_start =
      let t : IsTick 0 (raise 14 none ∷ ys) 0 = record { from = omega arith; to = omega arith } in
      (from_boot l n (raise 14 none ∷ ys) c a b).start 0 0 14 t first_event

-- in both lifecycles that lock, with the fewest and the most alerts
in_both : (ys : List Input)
    → (state_in (given_at 0 (boot Lifecycle.Prod (new_handler 58)).handler (raise 14 none ∷ ys) 0).handler 0 ≡ Phase0)
    × (state_in (given_at 0 (boot Lifecycle.ProdEnd (new_handler 248)).handler (raise 14 none ∷ ys) 0).handler 0 ≡ Phase0)
unfolding mark_at
in_both ys = (starts Lifecycle.Prod 58 refl refl (omega arith) (omega arith) ys, starts Lifecycle.ProdEnd 248 refl refl (omega arith) (omega arith) ys)
