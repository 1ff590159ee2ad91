-- Request (ix), computed: when pings open, and how turns go on.
-- The rows: alert 0's ping pair, whose turn stands after the tick, its count, whether a ping is open, and what has come up to then.
-- Assumes nothing.
use mathlib.Core.Path.{◌≡◌, refl}
use mathlib.Core.List.{[], ◌∷◌}
use Rattle.rules.proofs.Scenes.{rules}
use Rattle.rules.specs.Scenes.{none, write}
use Rattle.rules.specs.declared.Access.{Access}
use Rattle.rules.specs.declared.Field.{Field}
use Rattle.rules.specs.declared.Register.TheVariants.{Only, Alert}
use Rattle.rules.specs.declared.Single.TheVariants.{PingEnable}
use Rattle.rule_examples.proofs.PingScenes.{station, feeds, draws, still, on, alert, line, off, shown}

-- the first ping, alert 0's, is due three ticks after register 6 becomes 1 and is answered two ticks later; the next turn is line 0's
first : shown (station 0 0) (still ∷ draws 2 0 on ∷ still ∷ still ∷ still ∷ still ∷ feeds 1 9 1 0 none ∷ feeds 0 0 1 0 none ∷ still ∷ still ∷ feeds 0 0 0 1 none ∷ still ∷ still ∷ [])
    ≡ (0 ∷ 0 ∷ 0 ∷ 0 ∷ 1 ∷ 1 ∷ 1 ∷ 1 ∷ 1 ∷ 1 ∷ 1 ∷ 0 ∷ 0 ∷ [])
    ∷ (off ∷ alert 0 ∷ alert 0 ∷ alert 0 ∷ alert 0 ∷ alert 0 ∷ line 0 ∷ line 0 ∷ line 0 ∷ line 0 ∷ alert 0 ∷ alert 0 ∷ alert 0 ∷ [])
    ∷ (0 ∷ 2 ∷ 1 ∷ 0 ∷ 0 ∷ 1 ∷ 1 ∷ 0 ∷ 0 ∷ 1 ∷ 0 ∷ 0 ∷ 1 ∷ [])
    ∷ (0 ∷ 0 ∷ 0 ∷ 0 ∷ 1 ∷ 1 ∷ 0 ∷ 0 ∷ 1 ∷ 1 ∷ 0 ∷ 1 ∷ 1 ∷ [])
    ∷ (0 ∷ 0 ∷ 0 ∷ 0 ∷ 0 ∷ 0 ∷ 0 ∷ 0 ∷ 0 ∷ 0 ∷ 0 ∷ 0 ∷ 0 ∷ [])
    ∷ []
unfolding rules
first = refl

-- "opens as an asked one did": answered in the tick that opens it, a line's too; lines in turn
earliest : shown (station 7 0) (draws 0 0 on ∷ feeds 0 0 1 0 none ∷ feeds 0 0 1 1 none ∷ still ∷ still ∷ still ∷ feeds 4 0 1 0 none ∷ [])
    ≡ (0 ∷ 1 ∷ 1 ∷ 0 ∷ 0 ∷ 0 ∷ 0 ∷ [])
    ∷ (alert 0 ∷ line 0 ∷ alert 0 ∷ alert 0 ∷ alert 0 ∷ alert 0 ∷ line 1 ∷ [])
    ∷ (0 ∷ 0 ∷ 0 ∷ 0 ∷ 1 ∷ 2 ∷ 4 ∷ [])
    ∷ (0 ∷ 0 ∷ 0 ∷ 1 ∷ 1 ∷ 1 ∷ 0 ∷ [])
    ∷ (0 ∷ 0 ∷ 0 ∷ 0 ∷ 0 ∷ 0 ∷ 0 ∷ [])
    ∷ []
unfolding rules
earliest = refl

-- "a written 0 does nothing", and a 1 that is written again sets no turn
again : shown (station 0 0) (draws 3 0 on ∷ draws 0 0 on ∷ draws 0 0 (write (Only PingEnable) 0) ∷ draws 0 0 (Access.Read 6) ∷ still ∷ still ∷ [])
    ≡ (0 ∷ 0 ∷ 0 ∷ 0 ∷ 1 ∷ 1 ∷ [])
    ∷ (alert 0 ∷ alert 0 ∷ alert 0 ∷ alert 0 ∷ alert 0 ∷ alert 0 ∷ [])
    ∷ (3 ∷ 2 ∷ 1 ∷ 0 ∷ 0 ∷ 1 ∷ [])
    ∷ (0 ∷ 0 ∷ 0 ∷ 0 ∷ 1 ∷ 1 ∷ [])
    ∷ (0 ∷ 0 ∷ 0 ∷ 0 ∷ 0 ∷ 0 ∷ [])
    ∷ []
unfolding rules
again = refl

-- "If the drawn alert isn't locked and enabled when the ping is due, none opens and the turn ends"
unlocked : shown (station 0 1) (draws 1 0 on ∷ still ∷ draws 2 0 none ∷ still ∷ still ∷ still ∷ [])
    ≡ (0 ∷ 0 ∷ 0 ∷ 0 ∷ 0 ∷ 0 ∷ [])
    ∷ (alert 0 ∷ alert 0 ∷ line 0 ∷ line 0 ∷ line 0 ∷ line 0 ∷ [])
    ∷ (1 ∷ 0 ∷ 2 ∷ 1 ∷ 0 ∷ 0 ∷ [])
    ∷ (0 ∷ 0 ∷ 0 ∷ 0 ∷ 0 ∷ 1 ∷ [])
    ∷ (0 ∷ 0 ∷ 0 ∷ 0 ∷ 0 ∷ 0 ∷ [])
    ∷ []
unfolding rules
unlocked = refl

-- it is locked by the access of the due tick
locked_then : shown (station 0 1) (draws 1 0 on ∷ still ∷ draws 2 0 (write (Alert Field.Regwen 0) 0) ∷ still ∷ [])
    ≡ (0 ∷ 0 ∷ 1 ∷ 1 ∷ [])
    ∷ (alert 0 ∷ alert 0 ∷ alert 0 ∷ alert 0 ∷ [])
    ∷ (1 ∷ 0 ∷ 0 ∷ 1 ∷ [])
    ∷ (0 ∷ 0 ∷ 1 ∷ 1 ∷ [])
    ∷ (0 ∷ 0 ∷ 0 ∷ 0 ∷ [])
    ∷ []
unfolding rules
locked_then = refl

-- an alert at N and above
above : shown (station 0 0) (draws 1 200 on ∷ still ∷ draws 2 0 none ∷ still ∷ [])
    ≡ (0 ∷ 0 ∷ 0 ∷ 0 ∷ [])
    ∷ (alert 200 ∷ alert 200 ∷ line 0 ∷ line 0 ∷ [])
    ∷ (1 ∷ 0 ∷ 2 ∷ 1 ∷ [])
    ∷ (0 ∷ 0 ∷ 0 ∷ 0 ∷ [])
    ∷ (0 ∷ 0 ∷ 0 ∷ 0 ∷ [])
    ∷ []
unfolding rules
above = refl

-- the alert of a word that sets a line's turn counts for nothing
in_turn : shown (station 0 0) (draws 0 255 on ∷ draws 0 255 none ∷ feeds 0 255 0 1 none ∷ draws 0 7 none ∷ feeds 0 255 0 2 none ∷ still ∷ feeds 0 255 0 4 none ∷ still ∷ feeds 0 255 0 8 none ∷ still ∷ feeds 0 0 0 1 none ∷ [])
    ≡ (0 ∷ 0 ∷ 0 ∷ 0 ∷ 0 ∷ 0 ∷ 0 ∷ 0 ∷ 0 ∷ 0 ∷ 0 ∷ [])
    ∷ (alert 255 ∷ line 0 ∷ alert 255 ∷ line 1 ∷ alert 255 ∷ line 2 ∷ alert 255 ∷ line 3 ∷ alert 255 ∷ line 0 ∷ alert 0 ∷ [])
    ∷ (0 ∷ 0 ∷ 0 ∷ 0 ∷ 0 ∷ 0 ∷ 0 ∷ 0 ∷ 0 ∷ 0 ∷ 0 ∷ [])
    ∷ (0 ∷ 0 ∷ 0 ∷ 0 ∷ 0 ∷ 0 ∷ 0 ∷ 0 ∷ 0 ∷ 0 ∷ 0 ∷ [])
    ∷ (0 ∷ 0 ∷ 0 ∷ 0 ∷ 0 ∷ 0 ∷ 0 ∷ 0 ∷ 0 ∷ 0 ∷ 0 ∷ [])
    ∷ []
unfolding rules
in_turn = refl

-- a rise that waits in the pause answers the ping that opened meanwhile
waited : shown (station 5 0) (feeds 2 0 1 0 on ∷ still ∷ feeds 0 0 1 0 none ∷ feeds 0 0 1 0 none ∷ feeds 8 0 1 0 none ∷ still ∷ [])
    ≡ (0 ∷ 0 ∷ 0 ∷ 1 ∷ 1 ∷ 1 ∷ [])
    ∷ (alert 0 ∷ alert 0 ∷ alert 0 ∷ alert 0 ∷ line 0 ∷ line 0 ∷ [])
    ∷ (2 ∷ 1 ∷ 0 ∷ 0 ∷ 8 ∷ 7 ∷ [])
    ∷ (0 ∷ 0 ∷ 0 ∷ 1 ∷ 0 ∷ 0 ∷ [])
    ∷ (8 ∷ 8 ∷ 8 ∷ 8 ∷ 8 ∷ 8 ∷ [])
    ∷ []
unfolding rules
waited = refl
