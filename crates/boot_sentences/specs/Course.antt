-- Request (vi), "Boot policy": the ticks of a boot, where it stops and what it returns, in sentences. The tick is given, with the number of each answer, and so are the turns.
-- Assumes nothing.
use Rattle.std.specs.Prelude.{ℕ, suc, ◌<◌, ◌≡◌, ◌≢◌, [], ◌∷◌, ℤ, pos}
use Rattle.policy.specs.declared.Installed.{Installed}
use Rattle.rules.specs.declared.Access.{Access}
use Rattle.rules.specs.declared.Access.TheVariants.{Read, Write}
use Rattle.rules.specs.declared.Answer.{Answer}
use Rattle.rules.specs.declared.Handler.{Handler}
use Rattle.rules.specs.declared.Input.{Input}
use Rattle.rules.specs.declared.Receive.TheVariants.{Pairs}
use Rattle.rules.specs.declared.Ticked.{Ticked}
use Rattle.boot_sentences.specs.Turns.{Turn}
use Rattle.boot_sentences.specs.Turns.Turn.{writes, reads, nothing}

-- "one access a tick with all wires at (0,1)", 64 of them in each word; request (ix): of the entropy word "the installer 0"; request (xi): "The installer hands in
-- (0,1)" on the four receive pairs
abbrev pub quiet : Access → Input
quiet x =
    record {
      access = x;
      sample = record {
        alerts = record {
          pos = 0 ∷ 0 ∷ 0 ∷ 0 ∷ [];
          neg = 0xFFFFFFFFFFFFFFFF ∷ 0xFFFFFFFFFFFFFFFF ∷ 0xFFFFFFFFFFFFFFFF ∷ 0xFFFFFFFFFFFFFFFF ∷ [];
        };
        word = 0;
        receive = Pairs 0 15;
      };
    }

-- the boot b "returns that register number, the answer and the state reached"; the spare bytes are 0
pub record Returns (r : ℕ) (a : ℤ) (g : Handler) (b : Installed) : Type 0 where
  pub register : b.register ≡ r
  pub answer : b.answer ≡ a
  pub state : b.handler ≡ g
  pub spare : b.spare ≡ 0 ∷ 0 ∷ 0 ∷ 0 ∷ 0 ∷ 0 ∷ []

-- a turn in the state g is no "refusal or difference": a write answers 0, as what is accepted does, and a read the value that was written
pub record Goes (tick : Handler → Input → Ticked) (number : Answer → ℤ) (g : Handler) (u : Turn) : Type 0 where
  pub write : (r v : ℕ) → u ≡ writes r v → number (tick g (quiet (Write r v))).answer ≡ pos 0
  pub read : (r v : ℕ) → u ≡ reads r v → number (tick g (quiet (Read r))).answer ≡ pos v

-- n turns from the state h, of which b comes
pub record Course (tick : Handler → Input → Ticked) (number : Answer → ℤ) (n : ℕ) (turn : ℕ → Turn) (h : Handler) (b : Installed) : Type 0 where
  -- the states on the way, if it did not stop: the first is the one given, each next is left by the tick of its turn
  pub states : ℕ → Handler
  pub first : states 0 ≡ h
  pub after_write : (t r v : ℕ) → t < n → turn t ≡ writes r v → states (suc t) ≡ (tick (states t) (quiet (Write r v))).handler
  pub after_read : (t r v : ℕ) → t < n → turn t ≡ reads r v → states (suc t) ≡ (tick (states t) (quiet (Read r))).handler
  pub after_nothing : (t : ℕ) → t < n → turn t ≡ nothing → states (suc t) ≡ states t
  -- "stops at the first refusal or difference and returns that register number, the answer and the state reached"
  pub stops_at_write :
      (t r v : ℕ) → t < n → ((s : ℕ) → s < t → Goes tick number (states s) (turn s)) → turn t ≡ writes r v
      → number (tick (states t) (quiet (Write r v))).answer ≢ pos 0
      → Returns r (number (tick (states t) (quiet (Write r v))).answer) (states (suc t)) b
  pub stops_at_read :
      (t r v : ℕ) → t < n → ((s : ℕ) → s < t → Goes tick number (states s) (turn s)) → turn t ≡ reads r v
      → number (tick (states t) (quiet (Read r))).answer ≢ pos v
      → Returns r (number (tick (states t) (quiet (Read r))).answer) (states (suc t)) b
  -- "(register 0 on success, ..; success answers 0)"
  pub succeeds : ((t : ℕ) → t < n → Goes tick number (states t) (turn t)) → Returns 0 (pos 0) (states n) b
