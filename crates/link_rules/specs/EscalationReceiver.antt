-- Request (xi), the escalation receiver of document 004, without its watch for missing pings: one pair, one tick.
-- Assumes nothing.
use Rattle.std.specs.Prelude.{Bool, true, false, cond, not, ◌&&◌, ◌||◌, List, [], ◌∷◌}
use Rattle.link_rules.specs.Pair.{equal}
use Rattle.link_rules.specs.declared.EscalationReceiver.{EscalationReceiver}
use Rattle.link_rules.specs.declared.SoundReceiver.{SoundReceiver}
use Rattle.link_rules.specs.declared.Response.{Response}
use Rattle.link_rules.specs.declared.Response.TheVariants.{Quiet, Checking, Answering, Escalating}

-- ── on sound wires: p says that the pair is on, (1,0), else it is (0,1) ──

abbrev pub new_sound : SoundReceiver
new_sound = record { stands = Quiet; answer = false }

-- "a ping is a one-tick pulse": one tick on is no escalation yet, two are, and one off ends it
abbrev pub response_after : Response → Bool → Response
response_after Quiet p = cond p Checking Quiet
response_after Checking p = cond p Escalating Answering
response_after Answering p = cond p Checking Quiet
response_after Escalating p = cond p Escalating Quiet

-- is there something to answer after this tick? 004: "continuously toggling .. as long as the escalation signal is asserted"; a ping gets four ticks, 1010
abbrev pub is_answering : Response → Bool → Bool
is_answering Quiet p = p
is_answering Checking p = true
is_answering Answering p = true
is_answering Escalating p = p

-- "answered from the next tick with the 1010 pattern": the answer of the next tick is the other one while there is something to answer, else 0
unfoldable pub sound_after : SoundReceiver → Bool → SoundReceiver
sound_after h p = record { stands = response_after h.stands p; answer = is_answering h.stands p && not h.answer }

-- an escalation is seen in this tick
abbrev pub sees_at : Response → Bool → Bool
sees_at Quiet p = false
sees_at Checking p = p
sees_at Answering p = false
sees_at Escalating p = p

unfoldable pub sees : SoundReceiver → Bool → Bool
sees h p = sees_at h.stands p

-- ── on any wires ──

abbrev pub new_escalation_receiver : EscalationReceiver
new_escalation_receiver = record { sound = new_sound; broken = false }

-- the pair that it sends in the coming tick: 004, "setting both the positive and negative response wires to the same value"
abbrev pub responds_positive : EscalationReceiver → Bool
responds_positive r = r.sound.answer

abbrev pub responds_negative : EscalationReceiver → Bool
responds_negative r = cond r.broken r.sound.answer (not r.sound.answer)

-- 004: "a signal integrity error on the esc_tx_i.esc_p/n lines will lead to assertion of the esc_req_o output"
unfoldable pub escalates : EscalationReceiver → Bool → Bool → Bool
escalates r p m = equal p m || (not r.broken && sees r.sound p)

-- 004: "and that value is being toggled each cycle", first 0; on sound wires it starts anew
unfoldable pub listened : EscalationReceiver → Bool → Bool → EscalationReceiver
listened r p m =
    cond (equal p m) (record { sound = record { stands = Quiet; answer = r.broken && not r.sound.answer }; broken = true })
    (record { sound = sound_after (cond r.broken new_sound r.sound) p; broken = false })

-- after these ticks on sound wires: the pair is on, (1,0), or off, (0,1)
unfoldable pub listeneds : EscalationReceiver → List Bool → EscalationReceiver
listeneds r [] = r
listeneds r (p ∷ ps) = listeneds (listened r p (not p)) ps
