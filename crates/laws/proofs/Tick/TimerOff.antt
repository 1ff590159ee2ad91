-- Request (ix), a tick of a state whose ping timer is off.
-- Assumes nothing.
use Prim.Native.Nat.{ℕ, ◌<◌}
use mathlib.Core.Path.{◌≡◌, refl, sym, ap, ◌∙◌}
use mathlib.Core.Bool.{Bool, true, false, cond, not, ◌&&◌}
use native.Mathlib.Omega.{arith}
use native.Mathlib.Decide.{dec_lt}
use lib.Dec.{eqb}
use Rattle.bits.proofs.IndexLaws.{and-true}
use Rattle.bits.specs.Bits.{bit}
use Rattle.link_rules.specs.Receiver.{received}
use Rattle.link_rules.specs.Timer.{fails, first_turn, is_line}
use Rattle.link_rules.specs.declared.Turn.{Turn}
use Rattle.rules.specs.Access.{acted, effects}
use Rattle.rules.specs.Samples.{positive, negative}
use Rattle.rules.specs.State.{receiver, is_on}
use Rattle.rules.specs.Tick.{lines, hears, reached, after}
use Rattle.rules.specs.Valid.{valid}
use Rattle.rules.specs.declared.Handler.{Handler}
use Rattle.rules.specs.declared.Input.{Input}
use Rattle.rules.specs.declared.Links.{Links}
use Rattle.laws.specs.Pinging.{meets_in, asks_in, fails_in}
use Rattle.laws.proofs.Samples.Off.{off_fails, off_asks, off_turned, off_line}
use Rattle.laws.proofs.Samples.Receivers.{acted_links, after_unfailed}
use Rattle.laws.proofs.Tick.Links.{linked_no_line}
use Rattle.laws.proofs.Tick.Turns.{met_runs, after_turn, after_line}
use Rattle.laws.proofs.Valid.ValidLaws.{facts}

module _ (h : Handler) (x : Input) (v : valid h ≡ true) (off : is_on h ≡ false) where
  -- the timer does not run in it, also where it begins in it
  pub off_runs : (meets_in h x).runs ≡ false
  off_runs = met_runs h x (facts h v).timer.enable ∙ off

  -- it asks for nothing, and no ping fails
  pub none_asked : (i : ℕ) → asks_in h x i ≡ false
  none_asked i = off_asks (meets_in h x) h.links.turn off_runs i

  pub none_fails : (t : Turn) → fails (meets_in h x) t ≡ false
  none_fails t = off_fails (meets_in h x) t off_runs

  pub none_failed : (i : ℕ) → fails_in h x i ≡ false
  none_failed i = ap (λ (b : Bool). (b && not (is_line h.links.turn)) && eqb i h.links.turn.alert) (none_fails h.links.turn)

  -- a receiver goes by its wires alone
  pub off_receiver : (i : ℕ) → i < h.n
      → receiver (after h x) i ≡ (received (record { asks = false; pos = positive x.sample.alerts i; neg = negative x.sample.alerts i }) (receiver h i)).receiver
  off_receiver i l =
      after_unfailed h x i (facts h v).n l (none_failed i)
      ∙ ap (λ (b : Bool). (received (record { asks = b; pos = positive x.sample.alerts i; neg = negative x.sample.alerts i }) (receiver h i)).receiver) (none_asked i)

  -- the turn stays, unless 6 becomes 1: then the word sets the first
  pub off_turn : (after h x).links.turn ≡ cond (effects h x.access).begins (first_turn x.sample.word) h.links.turn
  off_turn = after_turn h x ∙ off_turned (meets_in h x) h.links.turn off_runs

  -- and so does what is held of the lines
  none_open : (e : ℕ) → e < 4 → bit h.links.lines e ≡ false
  none_open e l = go (bit h.links.lines e) refl
    where
      go : (b : Bool) → bit h.links.lines e ≡ b → b ≡ false
      go true o = sym (and-true (is_on h) _ ((facts h v).pings.line e l o)).0 ∙ off
      go false o = refl

  pub off_lines : (e : ℕ) → e < 32 → bit (after h x).links.lines e ≡ bit h.links.lines e
  unfolding hears after
  off_lines e l = go (dec_lt e 4)
    where
      go : Dec (e < 4) → bit (after h x).links.lines e ≡ bit h.links.lines e
      go (yes b) =
          after_line h x e b ∙ off_line (meets_in h x) h.links.turn off_runs (bit h.links.lines e) e (none_open e b) ∙ sym (none_open e b)
      go (no b) =
          linked_no_line (acted h x.access) (hears h x) (lines (reached h x)) e (omega arith) l
          ∙ ap (λ (z : Links). bit z.lines e) (acted_links h x.access)
