-- Request (xii), the claim of two calm calls, of m ticks and then of n: they give what one call of m + n gives. The lent lists are us, vs and ws.
-- proofs/TwoCalls.antt proves it of every state that a call runs from.
-- Assumes nothing.
use Rattle.std.specs.Prelude.{ℕ, ◌+◌, ◌<◌, ◌≡◌, List, ◌++◌, map, pos, take, Ok}
use Rattle.calm_rules.specs.Call.{calm_verdict, calmed, calmed_list}
use Rattle.rules.specs.declared.Handler.{Handler}
use Rattle.rules.specs.declared.Wires.{Wires}

-- the word of a change with its tick moved by m
abbrev pub later : ℕ → ℕ → ℕ
later m word = word + m

pub record TwoCalls (h : Handler) (w : Wires) (m n : ℕ) (us vs ws : List ℕ) : Type 0 where
  -- the second call runs too
  pub runs_on : calm_verdict (calmed h w m us).handler vs ≡ Ok tt
  -- the state is the same
  pub state : (calmed (calmed h w m us).handler w n vs).handler ≡ (calmed h w (m + n) ws).handler
  -- the answers add up
  pub answers :
      (x y : ℕ) → (calmed h w m us).answer ≡ pos x → (calmed (calmed h w m us).handler w n vs).answer ≡ pos y
      → (calmed h w (m + n) ws).answer ≡ pos (x + y)
  -- the changes are those of both, the second's with the tick moved by m
  pub changes :
      (x y : ℕ) → (calmed h w m us).answer ≡ pos x → (calmed (calmed h w m us).handler w n vs).answer ≡ pos y
      → take (x + y) (calmed_list h w (m + n) ws)
      ≡ take x (calmed_list h w m us) ++ map (later m) (take y (calmed_list (calmed h w m us).handler w n vs))
  -- the last outputs are the same; of a second call of 0 ticks, which shows no pairs, interrupts and lines alone
  pub outputs : 0 < n → (calmed (calmed h w m us).handler w n vs).output ≡ (calmed h w (m + n) ws).output
  pub interrupts : (calmed (calmed h w m us).handler w n vs).output.interrupts ≡ (calmed h w (m + n) ws).output.interrupts
  pub lines : (calmed (calmed h w m us).handler w n vs).output.lines ≡ (calmed h w (m + n) ws).output.lines
