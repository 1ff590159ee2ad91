-- The claim of specs/Pings.antt: the timer along a list of ticks.
-- Assumes nothing.
use Prim.Native.Nat.{ℕ, suc, ◌+◌, ◌≤◌, ◌<◌}
use mathlib.Core.Path.{◌≡◌, sym, ap, ◌∙◌, subst}
use mathlib.Core.Bool.{true}
use mathlib.Core.List.{List}
use native.Mathlib.Omega.{arith}
use lib.Dec.{eqb}
use lib.ListN.{length}
use Rattle.link_rules.specs.Timer.{line_of}
use Rattle.link_rules.specs.declared.Turn.{Turn}
use Rattle.rules.specs.Valid.{valid}
use Rattle.rules.specs.declared.Handler.{Handler}
use Rattle.rules.specs.declared.Input.{Input}
use Rattle.handshake.specs.Handshake.{asks_in}
use Rattle.handshake.specs.Pings.{meets_at, turn_at, line_opens, Pings}
use Rattle.handshake.proofs.OpenLines.{one_line}
use Rattle.handshake.proofs.PingFails.{alert_fails, line_fails_law, none_fails_at_0, occurs_0, occurs_1}
use Rattle.handshake.proofs.TimerTicks.{next, on_stays, counts_fit}
use Rattle.handshake.proofs.TurnSteps.{number_after}
use Rattle.handshake.proofs.TurnTimes.{count_is, pinged, line_pinged, turn_ends}

-- request (ix), of every list of ticks from every accepted state
pub pings : (h : Handler) (xs : List Input) → valid h ≡ true → Pings h xs
pings h xs v =
    record {
      on_stays = on_stays h xs v;
      number = λ t m. ap (λ (x : Turn). x.number) (next h xs v t m) ∙ number_after (meets_at h xs t) (turn_at h xs t);
      pinged = λ i s l e f a r n k b inside.
          let m : s < length xs = omega (arith, inside) in
          let c = count_is h xs v s m e in
          subst (λ (w : ℕ). asks_in h xs i (suc s + k) ≡ eqb k w) c
          (pinged h xs v s m e i l f a r n k (subst (λ (w : ℕ). k ≤ w) (sym c) b) inside);
      line_pinged = λ s e f k b inside.
          let m : s < length xs = omega (arith, inside) in
          let c = count_is h xs v s m e in
          subst (λ (w : ℕ). line_opens h xs (line_of (turn_at h xs (suc s))) (suc s + k) ≡ eqb k w) c
          (line_pinged h xs v s m e f k (subst (λ (w : ℕ). k ≤ w) (sym c) b) inside);
      alert_fails = alert_fails h xs v;
      line_fails_law = line_fails_law h xs v;
      none_fails_at_0 = none_fails_at_0 h xs v;
      local_0 = λ t m. occurs_0 h xs v t;
      local_1 = λ t m. occurs_1 h xs v t;
      counts_fit = counts_fit h xs v;
      turn_ends = turn_ends h xs v;
      lines = one_line h xs v;
    }
