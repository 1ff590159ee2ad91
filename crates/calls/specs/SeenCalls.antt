-- Request (xi)'s second statement across calls: tick, batch, boot and calm calls one after another are one list of ticks, and what a new receiver sees of
-- a line's pair is said of that list. Batches and boots give no pairs back, and a calm call those of its last tick alone, so it speaks of the pairs on the
-- wire. proofs/SeenCalls.antt proves it of every sequence of calls from a new handler whose receivers are new with it, and from every accepted state whose
-- senders are as new.
-- Assumes nothing.
use Rattle.std.specs.Prelude.{ℕ, suc, ◌+◌, ◌≤◌, ◌<◌, ◌≡◌, Bool, false, List, ◌∷◌, ◌++◌, get_or, length, take, Ok}
use Rattle.calm_rules.specs.Call.{calm_verdict, calmed}
use Rattle.escalation.specs.List.{no_tick}
use Rattle.link_rules.specs.Senders.{line_count}
use Rattle.rules.specs.Run.{ticks}
use Rattle.rules.specs.State.{sender}
use Rattle.rules.specs.Tick.{ticked}
use Rattle.rules.specs.declared.Handler.{Handler}
use Rattle.rules.specs.declared.Input.{Input}
use Rattle.rules.specs.declared.Wires.{Wires}
use Rattle.seen.specs.Seen.{Second}
use Rattle.seen.specs.Wires.{receiver_at, Sound}
use Rattle.calls.specs.Calls.{Call, Tick, Calm, leaves_all, inputs_all}

-- ── the claim, of the calls cs from the state h ──

pub record SeenAcrossCalls (h : Handler) (cs : List Call) : Type 0 where
  -- the second statement is true of the ticks of all calls, boots and calm calls among them
  pub second : Second h (inputs_all h cs)
  -- a tick call gives back the pairs of its tick in that list, which comes after those of the calls us before it
  pub pairs :
      (us bs : List Call) (x : Input) → cs ≡ us ++ Tick x ∷ bs
      → (ticked (leaves_all h us) x).output.escalation ≡ (get_or (ticks h (inputs_all h cs)) (length (inputs_all h us)) no_tick).output.escalation
  -- a calm call that runs gives back the pairs of the last of its n + 1 ticks
  pub calm_pairs :
      (us bs : List Call) (w : Wires) (n : ℕ) (small : suc n ≤ 4294967295) (list : List ℕ) → cs ≡ us ++ Calm w (suc n) small list ∷ bs
      → calm_verdict (leaves_all h us) list ≡ Ok tt
      → (calmed (leaves_all h us) w (suc n) list).output.escalation
      ≡ (get_or (ticks h (inputs_all h cs)) (length (inputs_all h us) + n) no_tick).output.escalation
  -- after i calls the sender of the state that they leave is in step with the receiver at the other end of a sound pair
  pub in_step :
      (i e : ℕ) (ps qs : ℕ → Bool) → e < line_count → Sound h (inputs_all h cs) e ps qs
      → receiver_at ps qs (length (inputs_all h (take i cs))) ≡ record { sound = (sender (leaves_all h (take i cs)) e).sound; broken = false }
