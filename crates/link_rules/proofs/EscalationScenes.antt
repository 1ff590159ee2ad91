-- Waves of line 0, request (xi), as lists of numbers, and what the definitions make of them. Pairs: 0 is (0,1), 1 is (1,0), 2 is (0,0), 3 is (1,1).
-- Assumes nothing.
use Prim.Native.Nat.{ℕ}
use mathlib.Core.Bool.{Bool, true, false, not, ◌&&◌, ◌||◌}
use mathlib.Core.List.{List, [], ◌∷◌, map}
use lib.Dec.{eqb}
use lib.ListN.{get_or, length}
use Rattle.bits.specs.Bits.{num}
use Rattle.bits.specs.Index.{each, each_from}
use Rattle.link_rules.specs.EscalationReceiver.{new_escalation_receiver, sound_after, sees, escalates, listened}
use Rattle.link_rules.specs.LinePing.{answered_by_wires, right_after, closed_by_line}
use Rattle.link_rules.specs.Sender.{new_sender, pair, sent, wrong}
use Rattle.link_rules.specs.Timer.{is_line, line_of, opens, open_now, open_after, fails, fails_line, ends, turned}
use Rattle.link_rules.specs.declared.Drive.{Drive}
use Rattle.link_rules.specs.declared.EscalationReceiver.{EscalationReceiver}
use Rattle.link_rules.specs.declared.Meets.{Meets}
use Rattle.link_rules.specs.declared.Sender.{Sender}
use Rattle.link_rules.specs.declared.Turn.{Turn}

-- line 0 and the timer: register 6, the turn, the sender, whether the ping is open and its answers were right so far
pub record Station : Type 0 where
  pub runs : Bool
  pub turn : Turn
  pub sender : Sender
  pub line_open : Bool
  pub right : Bool

pub record Told : Type 0 where
  pub timeout : ℕ
  pub line : Bool
  pub receive : ℕ

pub record Shown : Type 0 where
  pub station : Station
  pub local3 : Bool
  pub local1 : Bool
  pub pending : Bool
  pub pair : Bool

-- a station at rest, and one whose next ping is line 0's, due in the tick of this number
abbrev pub rests : Station
rests = record { runs = false; turn = record { number = 0; alert = 0; count = 0 }; sender = new_sender; line_open = false; right = false }

abbrev pub waits : ℕ → Station
waits due = record { runs = true; turn = record { number = 1; alert = 0; count = due }; sender = new_sender; line_open = false; right = false }

abbrev pos : ℕ → Bool
pos w = eqb w 1 || eqb w 3

abbrev neg : ℕ → Bool
neg w = eqb w 0 || eqb w 3

-- the word of each tick sets a turn that is not due in any of these waves
abbrev meets : Station → Told → Bool → Bool → Meets
meets s x answered closed =
    record {
      runs = s.runs;
      begins = false;
      timeout = x.timeout;
      word = 59999;
      pingable = false;
      pending = is_line s.turn && s.line_open;
      answered = answered;
      closed = closed;
    }

abbrev is_line0 : Station → Bool
is_line0 s = is_line s.turn && eqb (line_of s.turn) 0

abbrev early : Station → Told → Meets
early s x = meets s x false false

abbrev drive : Station → Told → Drive
drive s x = record { line = x.line; ping = opens (early s x) s.turn && is_line0 s }

unfoldable pub step : Station → Told → Shown
step s x =
    let t = s.turn in
    let w = wrong s.sender (pos x.receive) (neg x.receive) in
    let m = meets s x (is_line0 s && answered_by_wires (early s x) t s.right w) (is_line0 s && closed_by_line true (early s x) t s.sender (drive s x)) in
    record {
      station =
          record {
            runs = s.runs;
            turn = turned m t;
            sender = sent s.sender (drive s x);
            line_open = is_line t && open_after m t;
            right = right_after true (early s x) t s.right w;
          };
      local3 = w;
      local1 = fails_line m t;
      pending = open_after m t;
      pair = pair s.sender (drive s x);
    }

unfoldable pub steps : Station → List Told → List Shown
steps s [] = []
steps s (x ∷ xs) = let y = step s x in y ∷ steps y.station xs

-- what a sound receiver of these pairs sees, and the right answers: those that it sends
unfoldable pub seens : EscalationReceiver → List Shown → List ℕ
seens r [] = []
seens r (x ∷ xs) = num (escalates r x.pair (not x.pair)) ∷ seens (listened r x.pair (not x.pair)) xs

unfoldable pub rights : EscalationReceiver → List Shown → List ℕ
rights r [] = []
rights r (x ∷ xs) = num r.sound.answer ∷ rights (listened r x.pair (not x.pair)) xs

-- line and receive pairs go in; local 3, local 1, ping open, pair, right answer and what a receiver sees come out
unfoldable pub wired : Station → ℕ → List ℕ → List ℕ → List (List ℕ)
wired s timeout lines responds =
    let xs = steps s (each (length lines) (λ i. record { timeout = timeout; line = eqb (get_or lines i 0) 1; receive = get_or responds i 0 })) in
    map (λ (x : Shown). num x.local3) xs
    ∷ map (λ (x : Shown). num x.local1) xs
    ∷ map (λ (x : Shown). num x.pending) xs
    ∷ map (λ (x : Shown). num x.pair) xs
    ∷ rights new_escalation_receiver xs
    ∷ seens new_escalation_receiver xs
    ∷ []

-- `unfolding rules` opens every definition that a wave computes with
unfoldable pub rules : ℕ → ℕ
unfolding each_from sound_after sees escalates listened sent answered_by_wires right_after closed_by_line opens open_now fails ends turned step steps seens rights wired
rules n = n
