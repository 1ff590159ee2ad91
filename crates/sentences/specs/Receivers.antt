-- Request (viii), "The whole handshake": what a tick makes of the alerts' receivers, in sentences: raw bits, and no definition of the rules.
-- The state is g after step 1 and h after the tick, s is the tick's sample, and f is what step 1 hands on. The pairs that come out are in Outputs.antt.
-- Assumes nothing.
use Rattle.std.specs.Prelude.{ℕ, ◌+◌, ◌≤◌, ◌<◌, ◌≡◌, ◌⊎◌, ◌≢◌, true, false}
use Rattle.rules.specs.declared.Effects.{Effects}
use Rattle.rules.specs.declared.Handler.{Handler}
use Rattle.rules.specs.declared.Sample.{Sample}
use Rattle.sentences.specs.LinePings.{LineAnswered}
use Rattle.sentences.specs.Pairs.{High, Low, Equal, Differ, FourWords}
use Rattle.sentences.specs.Raw.{pausing, busy, level, pending}
use Rattle.sentences.specs.Turns.{AlertsTurn, LinesTurn, turn_alert, Runs, TurnOpen, Asked}

-- ── where alert i's receiver stands, by its bits `pausing` and `busy` ──

-- it takes a rise
abbrev pub Ready : Handler → ℕ → Type 0
Ready g i = (pausing g i ≡ false) × (busy g i ≡ false)

-- it has taken one
abbrev pub Acknowledged : Handler → ℕ → Type 0
Acknowledged g i = (pausing g i ≡ false) × (busy g i ≡ true)

-- the tick is the first, or the second, "of two ticks of pause"
abbrev pub FirstPause : Handler → ℕ → Type 0
FirstPause g i = (pausing g i ≡ true) × (busy g i ≡ true)

abbrev pub SecondPause : Handler → ℕ → Type 0
SecondPause g i = (pausing g i ≡ true) × (busy g i ≡ false)

-- ── the words of the sentences ──

-- "A rise taken": a receiver that is ready reads (1,0). A reading: a rise is a level, also one that waited or that is there from reset on.
-- "Alert i exists for i below N"
abbrev pub Taken : Handler → Sample → ℕ → Type 0
Taken g s i = (i < g.n) × Ready g i × High s.alerts i

-- "Asking .. opens a ping before that tick's wires are read": one is open when they are, by this asking or by one before it
abbrev pub PingOpen : Handler → Effects → ℕ → Type 0
PingOpen g f i = Asked g f i ⊎ (pending g i ≡ true)

-- "A rise taken while a ping is open answers .. it and is no event"
abbrev pub Answers : Handler → Sample → Effects → ℕ → Type 0
Answers g s f i = Taken g s i × PingOpen g f i

-- "any other is one event, in the tick it is taken"
abbrev pub Event : Handler → Sample → Effects → ℕ → Type 0
Event g s f i = Taken g s i × ¬ PingOpen g f i

-- ── request (ix): the turn's ping is answered, or fails ──

-- a line's by what comes back, an alert's by a rise that is taken
abbrev pub TurnAnswered : Handler → Sample → Effects → Type 0
TurnAnswered g s f = (LinesTurn g × LineAnswered g f s.receive) ⊎ (AlertsTurn g × Answers g s f (turn_alert g))

-- "unanswered up to and in the first tick at least the timeout after it"; "at timeout 0 it waits for its answer". While the ping is open `count` is the
-- ticks from its opening to the tick before this one
abbrev pub Fails : Handler → Sample → Effects → Type 0
Fails g s f =
    (Runs g f × TurnOpen g) × ((¬ TurnAnswered g s f) × ((0 < g.timer.timeout) × (g.timer.timeout ≤ g.links.turn.count + 1)))

-- the ping of alert i fails
abbrev pub AlertFails : Handler → Sample → Effects → ℕ → Type 0
AlertFails g s f i = Fails g s f × (AlertsTurn g × (i ≡ turn_alert g))

-- ── the handshake ──

pub record Handshaken (g : Handler) (s : Sample) (h : Handler) : Type 0 where
  -- "alert raised, acknowledged in the next tick", whether it is an event or an answer
  pub raised : (i : ℕ) → Taken g s i → Acknowledged h i
  -- a reading: where none is raised it stays ready
  pub at_rest : (i : ℕ) → i < g.n → Ready g i → Low s.alerts i → Ready h i
  -- a reading: it is acknowledged until "alert dropped"
  pub held : (i : ℕ) → i < g.n → Acknowledged g i → High s.alerts i → Acknowledged h i
  -- "alert dropped, acknowledgement dropped in the next, the first of two ticks of pause"
  pub dropped : (i : ℕ) → i < g.n → Acknowledged g i → Low s.alerts i → FirstPause h i
  -- "two ticks of pause, in which a rise waits": a tick with a rise is a tick of the pause too
  pub first : (i : ℕ) → i < g.n → FirstPause g i → Differ s.alerts i → SecondPause h i
  pub second : (i : ℕ) → i < g.n → SecondPause g i → Differ s.alerts i → Ready h i
  -- "Equal wires .. hold the receiver where it is", so that they are no tick of the pause either
  pub equal_pausing : (i : ℕ) → i < g.n → Equal s.alerts i → pausing h i ≡ pausing g i
  pub equal_busy : (i : ℕ) → i < g.n → Equal s.alerts i → busy h i ≡ busy g i

-- ── pings ──

pub record Pinged (g : Handler) (s : Sample) (f : Effects) (h : Handler) : Type 0 where
  -- "Asking changes the ping pair's level"
  pub changes : (i : ℕ) → i < g.n → Asked g f i → pending g i ≡ false → level h i ≢ level g i
  -- "while one is open .. it does nothing"
  pub while_open : (i : ℕ) → i < g.n → pending g i ≡ true → level h i ≡ level g i
  -- a reading: nothing else changes it
  pub unasked : (i : ℕ) → i < g.n → ¬ Asked g f i → level h i ≡ level g i
  -- "and opens a ping"; a reading: it is open until a rise is taken or it fails
  pub opens : (i : ℕ) → i < g.n → PingOpen g f i → ¬ Taken g s i → ¬ AlertFails g s f i → pending h i ≡ true
  -- "A rise taken while a ping is open answers and closes it"
  pub closes : (i : ℕ) → Answers g s f i → pending h i ≡ false
  -- request (ix): "it makes local 0 or 1 occur then and closes"
  pub fails : (i : ℕ) → i < g.n → AlertFails g s f i → pending h i ≡ false
  -- a reading: nothing else opens one
  pub none_open : (i : ℕ) → i < g.n → ¬ PingOpen g f i → pending h i ≡ false

-- ── every bit of the receivers ──

pub record Received (g : Handler) (s : Sample) (f : Effects) (h : Handler) : Type 0 where
  pub handshake : Handshaken g s h
  pub pings : Pinged g s f h
  -- "or at N and above, it does nothing"; "Samples at N and above count for nothing"; "Stored entries at N and above .. no call changes them"; a
  -- reading: nor the bits past the 248th entry, since the receivers have four words of 64
  pub pausing_above : (i : ℕ) → g.n ≤ i → i < 256 → pausing h i ≡ pausing g i
  pub busy_above : (i : ℕ) → g.n ≤ i → i < 256 → busy h i ≡ busy g i
  pub level_above : (i : ℕ) → g.n ≤ i → i < 256 → level h i ≡ level g i
  pub pending_above : (i : ℕ) → g.n ≤ i → i < 256 → pending h i ≡ pending g i
  pub pausing_words : FourWords h.links.receivers.pausing
  pub busy_words : FourWords h.links.receivers.busy
  pub level_words : FourWords h.links.receivers.level
  pub pending_words : FourWords h.links.receivers.pending
