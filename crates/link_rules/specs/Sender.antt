-- Request (xi), the escalation sender of document 004: one line, one tick.
-- Assumes nothing.
use Rattle.std.specs.Prelude.{ℕ, Bool, false, not, ◌&&◌, ◌||◌, List, [], ◌∷◌, eqb}
use Rattle.link_rules.specs.Codes.{last_bit}
use Rattle.link_rules.specs.EscalationReceiver.{new_sound, sound_after}
use Rattle.link_rules.specs.Pair.{equal, differ}
use Rattle.link_rules.specs.declared.Drive.{Drive}
use Rattle.link_rules.specs.declared.Sender.{Sender}

abbrev pub new_sender : Sender
new_sender = record { on = false; first = false; sound = new_sound }

-- ── what is sent ──

-- "A line on holds the pair, a lone tick lengthened to two"
abbrev pub holds : Sender → Bool → Bool
holds s line = line || s.first

-- "a ping is a one-tick pulse"; "A real escalation wins over a ping"; "a ping due right after one on the wire closes unsent"
abbrev pub pulses : Sender → Drive → Bool
pulses s d = d.ping && (not d.line && not (last_bit s.sound.stands))

-- the pair of this tick is on
abbrev pub pair : Sender → Drive → Bool
pair s d = holds s d.line || pulses s d

unfoldable pub sent : Sender → Drive → Sender
sent s d = record { on = d.line; first = d.line && not s.on; sound = sound_after s.sound (pair s d) }

-- the line's ping, open in this tick, closes in it: "A real escalation wins over a ping and closes it unfailed", or it was not sent
abbrev pub closes : Sender → Drive → Bool
closes s d = d.line || (d.ping && not (pulses s d))

-- ── what comes back ──

-- "Equal wires, or a wrong or missing answer, make local 3 occur": the receive pair of this tick against the answer of a sound receiver
abbrev pub wrong : Sender → Bool → Bool → Bool
wrong s p m = equal p m || differ p s.sound.answer

-- the answers to the open ping were right so far and are in this tick, its age being the ticks since it was sent
abbrev pub still_right : ℕ → Bool → Bool → Bool
still_right age right is_wrong = right && (eqb age 0 || not is_wrong)

-- "answered from the next tick with the 1010 pattern": it is answered in the fourth tick after it, all four being right
abbrev pub is_answered : ℕ → Bool → Bool → Bool
is_answered age right is_wrong = eqb age 4 && still_right age right is_wrong

-- ── lists of ticks ──

-- the sender after these ticks, and the pairs that it sent in them
unfoldable pub sents : Sender → List Drive → Sender
sents s [] = s
sents s (d ∷ ds) = sents (sent s d) ds

unfoldable pub pairs : Sender → List Drive → List Bool
pairs s [] = []
pairs s (d ∷ ds) = pair s d ∷ pairs (sent s d) ds
