-- A handler with one part of its links anew, for wrong rules of that part.
-- Assumes nothing.
use Prim.Native.Nat.{ℕ}
use Rattle.link_rules.specs.Senders.{senders_by}
use Rattle.link_rules.specs.declared.Receiver.{Receiver}
use Rattle.link_rules.specs.declared.Sender.{Sender}
use Rattle.link_rules.specs.declared.Turn.{Turn}
use Rattle.rules.specs.State.{receivers_by, with_links}
use Rattle.rules.specs.declared.Handler.{Handler}

abbrev pub with_receivers : (ℕ → Receiver) → Handler → Handler
with_receivers f h =
    with_links (record {
      receivers = receivers_by f;
      turn = h.links.turn;
      lines = h.links.lines;
      senders = h.links.senders;
      right = h.links.right;
    }) h

abbrev pub with_turn : Turn → Handler → Handler
with_turn t h =
    with_links (record {
      receivers = h.links.receivers;
      turn = t;
      lines = h.links.lines;
      senders = h.links.senders;
      right = h.links.right;
    }) h

abbrev pub with_lines : ℕ → Handler → Handler
with_lines lines h =
    with_links (record {
      receivers = h.links.receivers;
      turn = h.links.turn;
      lines = lines;
      senders = h.links.senders;
      right = h.links.right;
    }) h

abbrev pub with_senders : (ℕ → Sender) → Handler → Handler
with_senders f h =
    with_links (record {
      receivers = h.links.receivers;
      turn = h.links.turn;
      lines = h.links.lines;
      senders = senders_by f;
      right = h.links.right;
    }) h

abbrev pub with_right : ℕ → Handler → Handler
with_right right h =
    with_links (record {
      receivers = h.links.receivers;
      turn = h.links.turn;
      lines = h.links.lines;
      senders = h.links.senders;
      right = right;
    }) h
