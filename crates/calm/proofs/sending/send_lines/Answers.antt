-- `send_lines` meets its contract.
-- Assumes nothing.
use Prim.Native.Nat.{ℕ}
use mathlib.Core.Path.{◌≡◌, ap, ◌∙◌}
use mathlib.Core.Bool.{Bool}
use Rattle.bits.proofs.BitLaws.{bit_none}
use Rattle.bits.specs.Bits.{bit}
use Rattle.link_rules.proofs.SenderLaws.{senders_ext}
use Rattle.link_rules.specs.Sender.{sent}
use Rattle.link_rules.specs.Senders.{sender_in, sent_all}
use Rattle.link_rules.specs.declared.Senders.{Senders}
use Rattle.calm_laws.specs.Steady.{steady}
use Rattle.calm.proofs.sending.send_lines.Goals as goal

-- a mask of 0 opens no ping
no_ping : (s : Senders) (lines : ℕ) → sent_all s (λ e. record { line = bit lines e; ping = bit 0 e }) ≡ sent_all s (steady lines)
no_ping s lines = senders_ext _ _ (λ e l. ap (λ (b : Bool). sent (sender_in s e) (record { line = bit lines e; ping = b })) (bit_none e))

pub returns : goal.returns
returns c = c.send.ensures ∙ no_ping c.args.s c.args.lines
