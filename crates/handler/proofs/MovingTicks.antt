-- A tick in which the alerts rest but classes and senders can move.
-- Assumes nothing.
use Prim.Native.Nat.{ℕ, ◌≤◌}
use mathlib.Core.Path.{◌≡◌, sym, ap, ◌∙◌}
use mathlib.Core.List.{List}
use lib.ListN.{length}
use Rattle.bits.specs.Bits.{bit}
use Rattle.bits.proofs.BitLaws.{bit_none}
use Rattle.class_rules.specs.declared.Class.{Class}
use Rattle.link_rules.specs.Senders.{sent_all}
use Rattle.link_rules.specs.declared.Senders.{Senders}
use Rattle.rules.specs.Samples.{pingable}
use Rattle.rules.specs.State.{most, local_count}
use Rattle.rules.specs.declared.Effects.{Effects}
use Rattle.rules.specs.declared.Handler.{Handler}
use Rattle.rules.specs.declared.Interrupts.{Interrupts}
use Rattle.rules.specs.declared.Links.{Links}
use Rattle.rules.specs.declared.Sample.{Sample}
use Rattle.rules.specs.declared.Timer.{Timer}
use Rattle.samples.specs.Rest.{waited, driven, left_by, SendsBy}
use Rattle.handler.specs.Finished.{finished, no_effects}
use Rattle.handler.specs.MovingTick.{moved_to, moving_by, MovesBy}
use Rattle.handler.specs.QuietTick.{with_moved, moved_by}
use Rattle.handler.specs.declared.moving.Moving.{Moving}
use Rattle.handler.specs.declared.moving.Moving.TheVariants.{Rests, Moves}
use Rattle.handler.specs.declared.quiet.Moved.{Moved}
use Rattle.handler.proofs.QuietTicks.{quiet_tick}

module _ (h : Handler) (e : Effects) (s : Sample) (small : h.n ≤ most) (alerts : length h.alerts.cause ≡ most) (locals : length h.locals.cause ≡ local_count)
    (r : SendsBy h.n h.links h.timer s) (f : e ≡ no_effects) where
  abbrev moved : Moved
  moved = moved_by h.classes h.interrupts

  abbrev moving : Moving
  moving = moving_by h.timer h.links.turn.count h.links.senders h.classes h.interrupts

  moving_tick : moved_to h moving ≡ finished h e s
  moving_tick =
      sym (ap (λ (l : Links). record { handler = with_moved l moved h; interrupts = moved.interrupts; lines = moved.lines }) (r.links (pingable h) moved.lines))
      ∙ quiet_tick h e s (left_by h.n h.links h.timer (pingable h) s) small alerts locals (r.quiet (pingable h)) f

  -- and where all but the count stays
  pub moves_tick : (m : Moving) → MovesBy h.timer h.links.turn.count h.links.senders h.classes h.interrupts m → moved_to h m ≡ finished h e s
  moves_tick (Rests t i) x = sym (ap (moved_to h) x) ∙ moving_tick
  moves_tick (Moves t v m) x = ap (moved_to h) x ∙ moving_tick

-- the senders of the code, which are told that no ping opens by a mask of none
sends_on : (s : Senders) (lit : ℕ) → sent_all s (λ e. record { line = bit lit e; ping = bit 0 e }) ≡ sent_all s (driven lit)
sends_on s lit = λ u. sent_all s (λ e. record { line = bit lit e; ping = bit_none e u })

-- by what the calls of the code ensure
pub moving_from : (c : Timer) (count : ℕ) (senders : Senders) (cs : List Class) (x : Interrupts) (t : ℕ) (v : Senders) (m : Moved)
    → t ≡ waited c count → v ≡ sent_all senders (λ e. record { line = bit m.lines e; ping = bit 0 e }) → m ≡ moved_by cs x
    → Moves t v m ≡ moving_by c count senders cs x
moving_from c count senders cs x t v m et ev em =
    (λ u. Moves (et u) ((ev ∙ sends_on senders m.lines) u) m)
    ∙ ap (λ (y : Moved). Moves (waited c count) (sent_all senders (driven y.lines)) y) em
