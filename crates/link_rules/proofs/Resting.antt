-- One receiver at (0,1), with no ping asked for: it is ready after three ticks at most.
-- Assumes nothing.
use Prim.Native.Nat.{ℕ, ◌-◌, ◌≤◌}
use mathlib.Core.Path.{◌≡◌, refl, ap}
use mathlib.Core.Bool.{Bool, true, false, not, ◌&&◌}
use native.Mathlib.Omega.{arith}
use Rattle.link_rules.specs.Receiver.{is_ready, stands_after, asked_for, received}
use Rattle.link_rules.specs.declared.Handshake.{Handshake}
use Rattle.link_rules.specs.declared.Handshake.TheVariants.{Ready, Acknowledged, FirstPause, SecondPause}
use Rattle.link_rules.specs.declared.Receiver.{Receiver}

-- the ticks until it is ready, at least: equal wires and a rise that is held make it more
abbrev pub left : Handshake → ℕ
left Ready = 0
left Acknowledged = 3
left FirstPause = 2
left SecondPause = 1

pub left_after : (s : Handshake) → left (stands_after s false true) ≡ left s - 1
unfolding stands_after
left_after Ready = refl
left_after Acknowledged = refl
left_after FirstPause = refl
left_after SecondPause = refl

pub left_most : (s : Handshake) → left s ≤ 3
left_most Ready = omega arith
left_most Acknowledged = omega arith
left_most FirstPause = omega arith
left_most SecondPause = omega arith

pub none_left : (s : Handshake) → left s ≡ 0 → s ≡ Ready
none_left Ready e = refl
none_left Acknowledged e = absurd (omega (arith, e))
none_left FirstPause e = absurd (omega (arith, e))
none_left SecondPause e = absurd (omega (arith, e))

abbrev pub rested : Receiver → Receiver
rested r = record { stands = stands_after r.stands false true; level = r.level; pending = r.pending }

-- nothing is taken, so an open ping stays open
kept : (s : Handshake) (p : Bool) → (p && not (is_ready s && false)) ≡ p
kept Ready true = refl
kept Ready false = refl
kept Acknowledged true = refl
kept Acknowledged false = refl
kept FirstPause true = refl
kept FirstPause false = refl
kept SecondPause true = refl
kept SecondPause false = refl

pub received_rest : (r : Receiver) → (received (record { asks = false; pos = false; neg = true }) r).receiver ≡ rested r
unfolding received asked_for
received_rest r = ap (λ (p : Bool). record { stands = stands_after r.stands false true; level = r.level; pending = p }) (kept r.stands r.pending)
