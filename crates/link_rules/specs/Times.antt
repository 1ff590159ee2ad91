-- Request (ix), when a ping is due and when it fails, over any number of ticks.
-- Assumes nothing.
use Rattle.std.specs.Prelude.{ℕ, zero, suc, ◌≤◌, ◌<◌, ◌%◌, ◌≡◌, Bool, true, false, eqb}
use Rattle.link_rules.specs.Timer.{drawn, is_due, fails, turned}
use Rattle.link_rules.specs.declared.Meets.{Meets}
use Rattle.link_rules.specs.declared.Turn.{Turn}

-- a tick of a timer that is on, at this timeout: no answer comes and no escalation; the turn's ping is open or not, the drawn alert can be pinged or not
abbrev pub silent : ℕ → Bool → Bool → Meets
silent timeout pending pingable =
    record {
      runs = true;
      begins = false;
      timeout = timeout;
      word = 0;
      pingable = pingable;
      pending = pending;
      answered = false;
      closed = false;
    }

-- the turn after k such ticks
unfoldable pub turns : Meets → ℕ → Turn → Turn
turns m zero t = t
turns m (suc k) t = turned m (turns m k t)

-- "its low 16 bits plus 1 are the ticks to the ping": in the tick j + 1 after the one whose word set the turn the ping is due exactly if j is those bits
pub record DueIn (number word timeout : ℕ) (pingable : Bool) : Type 0 where
  pub due :
      (j : ℕ) → j ≤ word % 65536
      → is_due (silent timeout false pingable) (turns (silent timeout false pingable) j (drawn number word)) ≡ eqb j (word % 65536)

-- "unanswered up to and in the first tick at least the timeout after it, it makes local 0 or 1 occur then and closes": t is the turn after the tick in
-- which its ping opened; in the tick k + 1 after that one it fails exactly if k + 1 is the timeout
pub record FailsIn (t : Turn) (timeout : ℕ) (pingable : Bool) : Type 0 where
  pub fails_in :
      t.count ≡ 0 → timeout < 65536 → (k : ℕ) → k < timeout
      → fails (silent timeout true pingable) (turns (silent timeout true pingable) k t) ≡ eqb (suc k) timeout
  -- "at timeout 0 it waits for its answer"
  pub waits : (k : ℕ) → fails (silent 0 true pingable) (turns (silent 0 true pingable) k t) ≡ false
