-- The links after a tick, line by line: the turn, the lines' pings and the senders.
-- Assumes nothing.
use Prim.Native.Nat.{ℕ, ◌≤◌, ◌<◌}
use mathlib.Core.Path.{◌≡◌, refl, ap, ◌∙◌}
use mathlib.Core.Bool.{Bool, cond}
use native.Mathlib.Omega.{arith}
use borrow.Author.Tests.{lt-ltb, le-ltb}
use lib.Dec.{ltb}
use Rattle.bits.specs.Bits.{bit}
use Rattle.bits.proofs.BitLaws.{bit_bits_of}
use Rattle.link_rules.proofs.SenderLaws.{sender_by}
use Rattle.link_rules.specs.Pings.{line_after}
use Rattle.link_rules.specs.Sender.{sent}
use Rattle.link_rules.specs.Senders.{line_count, sender_in}
use Rattle.link_rules.specs.Timer.{turned}
use Rattle.rules.specs.State.{sender}
use Rattle.rules.specs.Tick.{driven, met_by, lines_timed, links_after}
use Rattle.rules.specs.declared.Handler.{Handler}
use Rattle.rules.specs.declared.Heard.{Heard}

module _ (g : Handler) (v : Heard) (lit : ℕ) where
  pub linked_turn : (links_after g v lit).turn ≡ turned (met_by g v lit) g.links.turn
  unfolding links_after
  linked_turn = refl

  -- a line's ping; the bits from 4 up are no line's
  linked_bit : (e : ℕ) → e < 32
      → bit (links_after g v lit).lines e ≡ cond (ltb e line_count) (line_after (met_by g v lit) g.links.turn (bit g.links.lines e) e) (bit g.links.lines e)
  unfolding links_after lines_timed
  linked_bit e l =
      bit_bits_of 32 (λ k. cond (ltb k line_count) (line_after (met_by g v lit) g.links.turn (bit g.links.lines k) k) (bit g.links.lines k)) e l

  pub linked_line : (e : ℕ) → e < line_count → bit (links_after g v lit).lines e ≡ line_after (met_by g v lit) g.links.turn (bit g.links.lines e) e
  linked_line e l =
      linked_bit e (omega arith)
      ∙ ap (λ (b : Bool). cond b (line_after (met_by g v lit) g.links.turn (bit g.links.lines e) e) (bit g.links.lines e)) (lt-ltb e line_count l)

  pub linked_no_line : (e : ℕ) → line_count ≤ e → e < 32 → bit (links_after g v lit).lines e ≡ bit g.links.lines e
  linked_no_line e m l =
      linked_bit e l ∙ ap (λ (b : Bool). cond b (line_after (met_by g v lit) g.links.turn (bit g.links.lines e) e) (bit g.links.lines e)) (le-ltb e line_count m)

  -- a line's sender
  pub linked_sender : (e : ℕ) → e < line_count → sender_in (links_after g v lit).senders e ≡ sent (sender g e) (driven g v lit e)
  unfolding links_after
  linked_sender e l = sender_by (λ k. sent (sender g k) (driven g v lit k)) e l
