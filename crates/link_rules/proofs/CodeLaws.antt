-- Where a receiver stands, in its two bits, and back.
-- Assumes nothing.
use mathlib.Core.Path.{◌≡◌, refl}
use mathlib.Core.Bool.{Bool, true, false}
use Rattle.link_rules.specs.Codes.{handshake_of, pausing_bit, busy_bit, response_of, last_bit, deep_bit, deep_after, answer_after}
use Rattle.link_rules.specs.EscalationReceiver.{sound_after}
use Rattle.link_rules.specs.declared.Handshake.{Handshake}
use Rattle.link_rules.specs.declared.Handshake.TheVariants.{Ready, Acknowledged, FirstPause, SecondPause}
use Rattle.link_rules.specs.declared.Response.{Response}
use Rattle.link_rules.specs.declared.Response.TheVariants.{Quiet, Checking, Answering, Escalating}

pub code_back : (s : Handshake) → handshake_of (pausing_bit s) (busy_bit s) ≡ s
code_back Ready = refl
code_back Acknowledged = refl
code_back FirstPause = refl
code_back SecondPause = refl

pub pausing_back : (a b : Bool) → pausing_bit (handshake_of a b) ≡ a
pausing_back false false = refl
pausing_back false true = refl
pausing_back true false = refl
pausing_back true true = refl

pub busy_back : (a b : Bool) → busy_bit (handshake_of a b) ≡ b
busy_back false false = refl
busy_back false true = refl
busy_back true false = refl
busy_back true true = refl

pub response_back : (s : Response) → response_of (last_bit s) (deep_bit s) ≡ s
response_back Quiet = refl
response_back Checking = refl
response_back Answering = refl
response_back Escalating = refl

pub last_back : (l d : Bool) → last_bit (response_of l d) ≡ l
last_back false false = refl
last_back false true = refl
last_back true false = refl
last_back true true = refl

pub deep_back : (l d : Bool) → deep_bit (response_of l d) ≡ d
deep_back false false = refl
deep_back false true = refl
deep_back true false = refl
deep_back true true = refl

-- the two bits and the answer move as the receiver does
pub response_after : (l d a p : Bool) → sound_after (record { stands = response_of l d; answer = a }) p ≡ record { stands = response_of p (deep_after l d p); answer = answer_after l d a p }
unfolding sound_after
response_after false false false false = refl
response_after false false false true = refl
response_after false false true false = refl
response_after false false true true = refl
response_after false true false false = refl
response_after false true false true = refl
response_after false true true false = refl
response_after false true true true = refl
response_after true false false false = refl
response_after true false false true = refl
response_after true false true false = refl
response_after true false true true = refl
response_after true true false false = refl
response_after true true false true = refl
response_after true true true false = refl
response_after true true true true = refl
