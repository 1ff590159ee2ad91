-- Request (ix), computed: when pings fail, and when they are answered in time.
-- The rows: alert 0's ping pair, whose turn stands after the tick, its count, whether a ping is open, and what has come up to then.
-- Assumes nothing.
use mathlib.Core.Path.{◌≡◌, refl}
use mathlib.Core.List.{[], ◌∷◌}
use Rattle.rules.proofs.Scenes.{rules}
use Rattle.rules.specs.Scenes.{none, write}
use Rattle.rules.specs.declared.Register.TheVariants.{Only}
use Rattle.rules.specs.declared.Single.TheVariants.{PingTimeout}
use Rattle.rule_examples.proofs.PingScenes.{station, feeds, draws, still, on, alert, line, shown}

-- timeout 3: it fails in the third tick after the opening, and closes
unanswered : shown (station 3 0) (draws 0 0 on ∷ still ∷ still ∷ still ∷ draws 1 0 none ∷ still ∷ [])
    ≡ (0 ∷ 1 ∷ 1 ∷ 1 ∷ 1 ∷ 1 ∷ [])
    ∷ (alert 0 ∷ alert 0 ∷ alert 0 ∷ alert 0 ∷ line 0 ∷ line 0 ∷ [])
    ∷ (0 ∷ 0 ∷ 1 ∷ 2 ∷ 1 ∷ 0 ∷ [])
    ∷ (0 ∷ 1 ∷ 1 ∷ 1 ∷ 0 ∷ 0 ∷ [])
    ∷ (0 ∷ 0 ∷ 0 ∷ 0 ∷ 1 ∷ 1 ∷ [])
    ∷ []
unfolding rules
unanswered = refl

-- answered in that tick it does not fail
last_moment : shown (station 3 0) (draws 0 0 on ∷ still ∷ still ∷ still ∷ feeds 1 0 1 0 none ∷ still ∷ [])
    ≡ (0 ∷ 1 ∷ 1 ∷ 1 ∷ 1 ∷ 1 ∷ [])
    ∷ (alert 0 ∷ alert 0 ∷ alert 0 ∷ alert 0 ∷ line 0 ∷ line 0 ∷ [])
    ∷ (0 ∷ 0 ∷ 1 ∷ 2 ∷ 1 ∷ 0 ∷ [])
    ∷ (0 ∷ 1 ∷ 1 ∷ 1 ∷ 0 ∷ 0 ∷ [])
    ∷ (0 ∷ 0 ∷ 0 ∷ 0 ∷ 0 ∷ 0 ∷ [])
    ∷ []
unfolding rules
last_moment = refl

-- a rise in the tick after is an event
too_late : shown (station 3 0) (draws 0 0 on ∷ still ∷ still ∷ still ∷ draws 8 0 none ∷ feeds 0 0 1 0 none ∷ [])
    ≡ (0 ∷ 1 ∷ 1 ∷ 1 ∷ 1 ∷ 1 ∷ [])
    ∷ (alert 0 ∷ alert 0 ∷ alert 0 ∷ alert 0 ∷ line 0 ∷ line 0 ∷ [])
    ∷ (0 ∷ 0 ∷ 1 ∷ 2 ∷ 8 ∷ 7 ∷ [])
    ∷ (0 ∷ 1 ∷ 1 ∷ 1 ∷ 0 ∷ 0 ∷ [])
    ∷ (0 ∷ 0 ∷ 0 ∷ 0 ∷ 1 ∷ 9 ∷ [])
    ∷ []
unfolding rules
too_late = refl

-- timeout 1
shortest : shown (station 1 0) (draws 0 0 on ∷ still ∷ draws 8 0 none ∷ still ∷ [])
    ≡ (0 ∷ 1 ∷ 1 ∷ 1 ∷ [])
    ∷ (alert 0 ∷ alert 0 ∷ line 0 ∷ line 0 ∷ [])
    ∷ (0 ∷ 0 ∷ 8 ∷ 7 ∷ [])
    ∷ (0 ∷ 1 ∷ 0 ∷ 0 ∷ [])
    ∷ (0 ∷ 0 ∷ 1 ∷ 1 ∷ [])
    ∷ []
unfolding rules
shortest = refl

-- "at timeout 0 it waits for its answer"
patient : shown (station 0 0) (draws 0 0 on ∷ still ∷ still ∷ still ∷ still ∷ still ∷ still ∷ feeds 8 0 1 0 none ∷ [])
    ≡ (0 ∷ 1 ∷ 1 ∷ 1 ∷ 1 ∷ 1 ∷ 1 ∷ 1 ∷ [])
    ∷ (alert 0 ∷ alert 0 ∷ alert 0 ∷ alert 0 ∷ alert 0 ∷ alert 0 ∷ alert 0 ∷ line 0 ∷ [])
    ∷ (0 ∷ 0 ∷ 1 ∷ 2 ∷ 3 ∷ 4 ∷ 5 ∷ 8 ∷ [])
    ∷ (0 ∷ 1 ∷ 1 ∷ 1 ∷ 1 ∷ 1 ∷ 1 ∷ 0 ∷ [])
    ∷ (0 ∷ 0 ∷ 0 ∷ 0 ∷ 0 ∷ 0 ∷ 0 ∷ 0 ∷ [])
    ∷ []
unfolding rules
patient = refl

-- a timeout that is lowered below the age
lowered : shown (station 100 0) (draws 0 0 on ∷ still ∷ still ∷ still ∷ draws 0 0 (write (Only PingTimeout) 2) ∷ draws 8 0 (write (Only PingTimeout) 2) ∷ still ∷ [])
    ≡ (0 ∷ 1 ∷ 1 ∷ 1 ∷ 1 ∷ 1 ∷ 1 ∷ [])
    ∷ (alert 0 ∷ alert 0 ∷ alert 0 ∷ alert 0 ∷ alert 0 ∷ line 0 ∷ line 0 ∷ [])
    ∷ (0 ∷ 0 ∷ 1 ∷ 2 ∷ 3 ∷ 8 ∷ 7 ∷ [])
    ∷ (0 ∷ 1 ∷ 1 ∷ 1 ∷ 1 ∷ 0 ∷ 0 ∷ [])
    ∷ (0 ∷ 0 ∷ 0 ∷ 0 ∷ 0 ∷ 1 ∷ 1 ∷ [])
    ∷ []
unfolding rules
lowered = refl

-- one that is raised from 0 to below it
from_zero : shown (station 0 0) (draws 0 0 on ∷ still ∷ still ∷ still ∷ draws 0 0 (write (Only PingTimeout) 2) ∷ draws 8 0 (write (Only PingTimeout) 2) ∷ still ∷ [])
    ≡ (0 ∷ 1 ∷ 1 ∷ 1 ∷ 1 ∷ 1 ∷ 1 ∷ [])
    ∷ (alert 0 ∷ alert 0 ∷ alert 0 ∷ alert 0 ∷ alert 0 ∷ line 0 ∷ line 0 ∷ [])
    ∷ (0 ∷ 0 ∷ 1 ∷ 2 ∷ 3 ∷ 8 ∷ 7 ∷ [])
    ∷ (0 ∷ 1 ∷ 1 ∷ 1 ∷ 1 ∷ 0 ∷ 0 ∷ [])
    ∷ (0 ∷ 0 ∷ 0 ∷ 0 ∷ 0 ∷ 1 ∷ 1 ∷ [])
    ∷ []
unfolding rules
from_zero = refl

-- a line's ping fails: local 1, and not local 0
line_unanswered : shown (station 2 0) (draws 0 255 on ∷ still ∷ still ∷ still ∷ still ∷ still ∷ [])
    ≡ (0 ∷ 0 ∷ 0 ∷ 0 ∷ 0 ∷ 1 ∷ [])
    ∷ (alert 255 ∷ line 0 ∷ line 0 ∷ line 0 ∷ alert 0 ∷ alert 0 ∷ [])
    ∷ (0 ∷ 0 ∷ 0 ∷ 1 ∷ 0 ∷ 0 ∷ [])
    ∷ (0 ∷ 0 ∷ 1 ∷ 1 ∷ 0 ∷ 1 ∷ [])
    ∷ (0 ∷ 0 ∷ 0 ∷ 0 ∷ 2 ∷ 2 ∷ [])
    ∷ []
unfolding rules
line_unanswered = refl

-- a line's ping that is answered in its last tick; bits of other lines and early bits count for nothing
line_answered : shown (station 2 0) (draws 1 255 on ∷ feeds 0 0 0 15 none ∷ feeds 1 0 0 15 none ∷ feeds 0 0 0 15 none ∷ feeds 0 0 0 14 none ∷ still ∷ feeds 0 0 0 1 none ∷ [])
    ≡ (0 ∷ 0 ∷ 0 ∷ 0 ∷ 0 ∷ 0 ∷ 0 ∷ [])
    ∷ (alert 255 ∷ alert 255 ∷ line 0 ∷ line 0 ∷ line 0 ∷ line 0 ∷ alert 0 ∷ [])
    ∷ (1 ∷ 0 ∷ 1 ∷ 0 ∷ 0 ∷ 1 ∷ 0 ∷ [])
    ∷ (0 ∷ 0 ∷ 0 ∷ 0 ∷ 1 ∷ 1 ∷ 0 ∷ [])
    ∷ (0 ∷ 0 ∷ 0 ∷ 0 ∷ 0 ∷ 0 ∷ 0 ∷ [])
    ∷ []
unfolding rules
line_answered = refl

-- equal wires do not answer it
equal_wires : shown (station 2 0) (draws 0 0 on ∷ feeds 0 0 3 0 none ∷ feeds 0 0 2 0 none ∷ feeds 3 0 1 0 none ∷ [])
    ≡ (0 ∷ 1 ∷ 1 ∷ 1 ∷ [])
    ∷ (alert 0 ∷ alert 0 ∷ alert 0 ∷ line 0 ∷ [])
    ∷ (0 ∷ 0 ∷ 1 ∷ 3 ∷ [])
    ∷ (0 ∷ 1 ∷ 1 ∷ 0 ∷ [])
    ∷ (0 ∷ 4 ∷ 4 ∷ 4 ∷ [])
    ∷ []
unfolding rules
equal_wires = refl
