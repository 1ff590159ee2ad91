-- Where a receiver stands, in two bits, so that a word holds one of each alert or line and every word means something: refusal 7 has nothing to look at.
-- Assumes nothing.
use Rattle.std.specs.Prelude.{Bool, true, false, not, ◌&&◌, ◌||◌}
use Rattle.link_rules.specs.declared.Handshake.{Handshake}
use Rattle.link_rules.specs.declared.Handshake.TheVariants.{Ready, Acknowledged, FirstPause, SecondPause}
use Rattle.link_rules.specs.declared.Response.{Response}
use Rattle.link_rules.specs.declared.Response.TheVariants.{Quiet, Checking, Answering, Escalating}

-- ── an alert's receiver ──

-- by the bit `pausing` and the bit `busy`, in the order of the handshake: 00, 01, 11, 10
abbrev pub handshake_of : Bool → Bool → Handshake
handshake_of false false = Ready
handshake_of false true = Acknowledged
handshake_of true true = FirstPause
handshake_of true false = SecondPause

abbrev pub pausing_bit : Handshake → Bool
pausing_bit Ready = false
pausing_bit Acknowledged = false
pausing_bit FirstPause = true
pausing_bit SecondPause = true

abbrev pub busy_bit : Handshake → Bool
busy_bit Ready = false
busy_bit Acknowledged = true
busy_bit FirstPause = true
busy_bit SecondPause = false

-- ── an escalation receiver: by the bit `last`, its pair in the last tick, and the bit `deep` ──

abbrev pub response_of : Bool → Bool → Response
response_of false false = Quiet
response_of true false = Checking
response_of false true = Answering
response_of true true = Escalating

abbrev pub last_bit : Response → Bool
last_bit Quiet = false
last_bit Checking = true
last_bit Answering = false
last_bit Escalating = true

abbrev pub deep_bit : Response → Bool
deep_bit Quiet = false
deep_bit Checking = false
deep_bit Answering = true
deep_bit Escalating = true

-- after a tick with the pair p
abbrev pub deep_after : Bool → Bool → Bool → Bool
deep_after last deep p = last && (p || not deep)

abbrev pub answer_after : Bool → Bool → Bool → Bool → Bool
answer_after last deep answer p = (p || ((last && not deep) || (not last && deep))) && not answer
