-- Each hypothesis of request (x) is needed: two short runs, alike in all the others, after which class 3 differs.
-- Assumes nothing.
use Prim.Native.Nat.{ℕ}
use mathlib.Core.Path.{◌≡◌, refl, sym, ap, ◌∙◌}
use mathlib.Core.Bool.{Bool, true, false, true≢false, xor}
use mathlib.Core.List.{List, [], ◌∷◌}
use native.Mathlib.Omega.{arith}
use lib.ListN.{set, replicate}
use Rattle.bits.specs.Bits.{bit}
use Rattle.class_rules.specs.declared.Class.{Class}
use Rattle.escalation.specs.List.{given_at}
use Rattle.rules.proofs.Scenes.{rules, settings, station, zeros}
use Rattle.rules.specs.Map.{number_of}
use Rattle.rules.specs.Scenes.{rest, raise, none, write}
use Rattle.rules.specs.Stages.{class_stages, with_stage}
use Rattle.rules.specs.State.{class_at, no_stages, with_interrupts, with_stages}
use Rattle.rules.specs.Valid.{valid}
use Rattle.rules.specs.declared.Access.{Access}
use Rattle.rules.specs.declared.ClassStages.{ClassStages}
use Rattle.rules.specs.declared.Handler.{Handler}
use Rattle.rules.specs.declared.Input.{Input}
use Rattle.rules.specs.declared.Register.TheVariants.{Only, Block}
use Rattle.rules.specs.declared.Setting.TheVariants.{AccumThresh}
use Rattle.rules.specs.declared.Single.TheVariants.{IntrEnable, IntrTest}
use Rattle.isolation.specs.Isolation.{Alike, SameClass, SameInterrupt}
use Rattle.isolation.specs.OwnAccess.{changes_enable}
use Rattle.isolation.proofs.Traces.{Got, along, gets}

-- ── the run with inputs xs from the state h: all that the hypotheses speak of, and the STATE of class 3 after tick t ──

record Told (h : Handler) (xs : List Input) (t : ℕ) (ok : Bool) (c : Class) (s : ClassStages) (b : Bool) (gs : List Got) (state : ℕ) : Type 0 where
  pub is_valid_law : valid h ≡ ok
  pub class : class_at h 3 ≡ c
  pub stages : class_stages h.stages 3 ≡ s
  pub bit_3 : bit h.interrupts.state 3 ≡ b
  pub tick : gets 3 h xs ≡ gs
  pub reached : (class_at (given_at 0 h xs t).handler 3).state ≡ state

-- other STATES: the class is not the same
differs : {h f : Handler} {xs ys : List Input} {t : ℕ} {ok ok' : Bool} {c c' : Class} {s s' : ClassStages} {b b' : Bool} {gs gs' : List Got} {m n : ℕ}
    → Told h xs t ok c s b gs m → Told f ys t ok' c' s' b' gs' n → (m ≡ n → ⊥) → SameClass 3 (given_at 0 h xs t) (given_at 0 f ys t) → ⊥
differs p q d e = d (sym p.reached ∙ ap (λ (c : Class). c.state) e.content ∙ q.reached)

-- n alerts (2, or 249 where the state is not accepted), of which the first is enabled in class 3; INTR_STATE and INTR_ENABLE; a code staged for the threshold of class 3
abbrev at : ℕ → ℕ → ℕ → ℕ → Class → Handler
at n state enable code c =
    with_stages (with_stage (Block AccumThresh 3) code no_stages)
    (with_interrupts (record { state = state; enable = enable }) (station n (set (replicate 248 0) 0 1) (set (replicate 248 0) 0 3) 3 c))

-- EN, LOCK, all lines, a timeout of 5; the first, or the second, event starts it
abbrev eager : Class
eager = settings 0x393F 0 5 zeros

abbrev slow : Class
slow = settings 0x393F 1 5 zeros

abbrev staging : ℕ → ClassStages
staging code = record { lengths = replicate 4 0; timeout = 0; ctrl = 0; thresh = code }

abbrev entry : Bool → Access → Bool → Got
entry e a c = record { has_event = e; access = a; change = c }

-- a usual tick without an event: Idle
calm : Told (at 2 0 0 0 eager) (rest none ∷ []) 0 true eager (staging 0) false (entry false none false ∷ []) 0
unfolding rules xor along
calm = record { is_valid_law = refl; class = refl; stages = refl; bit_3 = refl; tick = refl; reached = refl }

-- with an event: Phase 0
hit : Told (at 2 0 0 0 eager) (raise 0 none ∷ []) 0 true eager (staging 0) false (entry true none false ∷ []) 4
unfolding rules xor along
hit = record { is_valid_law = refl; class = refl; stages = refl; bit_3 = refl; tick = refl; reached = refl }

-- ── without "equal content": Timeout, where `hit` has Phase 0 ──

other_content : Told (at 2 0 0 0 slow) (raise 0 none ∷ []) 0 true slow (staging 0) false (entry true none false ∷ []) 1
unfolding rules xor along
other_content = record { is_valid_law = refl; class = refl; stages = refl; bit_3 = refl; tick = refl; reached = refl }

content_needed : SameClass 3 (given_at 0 (at 2 0 0 0 eager) (raise 0 none ∷ []) 0) (given_at 0 (at 2 0 0 0 slow) (raise 0 none ∷ []) 0) → ⊥
content_needed = differs hit other_content (λ e. omega arith)

-- ── without "open stages included": the same write commits a threshold of 0, or is staged ──

abbrev second : List Input
second = raise 0 (write (Block AccumThresh 3) 0) ∷ []

abbrev seconds : List Got
seconds = entry true (write (Block AccumThresh 3) 0) false ∷ []

committing : Told (at 2 0 0 1 slow) second 0 true slow (staging 1) false seconds 4
unfolding rules xor along
committing = record { is_valid_law = refl; class = refl; stages = refl; bit_3 = refl; tick = refl; reached = refl }

no_stage : Told (at 2 0 0 0 slow) second 0 true slow (staging 0) false seconds 1
unfolding rules xor along
no_stage = record { is_valid_law = refl; class = refl; stages = refl; bit_3 = refl; tick = refl; reached = refl }

stages_needed : SameClass 3 (given_at 0 (at 2 0 0 1 slow) second 0) (given_at 0 (at 2 0 0 0 slow) second 0) → ⊥
stages_needed = differs committing no_stage (λ e. omega arith)

-- (the hypothesis is what tells these two apart)
stages_asked : Alike 3 0 (at 2 0 0 1 slow) second (at 2 0 0 0 slow) second → ⊥
stages_asked a =
    let e : ◌≡◌ {A = ℕ} 1 0 = ap (λ (s : ClassStages). s.thresh) (sym committing.stages ∙ a.same_stages ∙ no_stage.stages) in
    omega arith

-- ── without "interrupt bits": Timeout, where `calm` has Idle ──

other_bit : Told (at 2 8 0 0 eager) (rest none ∷ []) 0 true eager (staging 0) true (entry false none false ∷ []) 1
unfolding rules xor along
other_bit = record { is_valid_law = refl; class = refl; stages = refl; bit_3 = refl; tick = refl; reached = refl }

bit_needed : SameClass 3 (given_at 0 (at 2 8 0 0 eager) (rest none ∷ []) 0) (given_at 0 (at 2 0 0 0 eager) (rest none ∷ []) 0) → ⊥
bit_needed = differs other_bit calm (λ e. omega arith)

bit_asked : Alike 3 0 (at 2 8 0 0 eager) (rest none ∷ []) (at 2 0 0 0 eager) (rest none ∷ []) → ⊥
bit_asked a = true≢false (sym other_bit.bit_3 ∙ a.same_bit ∙ calm.bit_3)

-- ── without "the same class events" ──

event_needed : SameClass 3 (given_at 0 (at 2 0 0 0 eager) (raise 0 none ∷ []) 0) (given_at 0 (at 2 0 0 0 eager) (rest none ∷ []) 0) → ⊥
event_needed = differs hit calm (λ e. omega arith)

-- ── without "the same accesses to its own block": a write; a read, which drops a stage; a write that is refused with 12, which drops it too ──

unwritten : Told (at 2 0 0 1 slow) (raise 0 none ∷ []) 0 true slow (staging 1) false (entry true none false ∷ []) 1
unfolding rules xor along
unwritten = record { is_valid_law = refl; class = refl; stages = refl; bit_3 = refl; tick = refl; reached = refl }

write_needed : SameClass 3 (given_at 0 (at 2 0 0 1 slow) second 0) (given_at 0 (at 2 0 0 1 slow) (raise 0 none ∷ []) 0) → ⊥
write_needed = differs committing unwritten (λ e. omega arith)

kept : Told (at 2 0 0 1 slow) (rest none ∷ second) 1 true slow (staging 1) false (entry false none false ∷ seconds) 4
unfolding rules xor along
kept = record { is_valid_law = refl; class = refl; stages = refl; bit_3 = refl; tick = refl; reached = refl }

abbrev reading : Access
reading = Access.Read (number_of (Block AccumThresh 3))

dropped_by_read : Told (at 2 0 0 1 slow) (rest reading ∷ second) 1 true slow (staging 1) false (entry false reading false ∷ seconds) 1
unfolding rules xor along
dropped_by_read = record { is_valid_law = refl; class = refl; stages = refl; bit_3 = refl; tick = refl; reached = refl }

read_needed : SameClass 3 (given_at 0 (at 2 0 0 1 slow) (rest none ∷ second) 1) (given_at 0 (at 2 0 0 1 slow) (rest reading ∷ second) 1) → ⊥
read_needed = differs kept dropped_by_read (λ e. omega arith)

abbrev differing : Access
differing = write (Block AccumThresh 3) 2

dropped_by_refusal : Told (at 2 0 0 1 slow) (rest differing ∷ second) 1 true slow (staging 1) false (entry false differing false ∷ seconds) 1
unfolding rules xor along
dropped_by_refusal = record { is_valid_law = refl; class = refl; stages = refl; bit_3 = refl; tick = refl; reached = refl }

refused_needed : SameClass 3 (given_at 0 (at 2 0 0 1 slow) (rest none ∷ second) 1) (given_at 0 (at 2 0 0 1 slow) (rest differing ∷ second) 1) → ⊥
refused_needed = differs kept dropped_by_refusal (λ e. omega arith)

-- ── without "the same changes by software of its interrupt bits": INTR_TEST starts a timeout, where `calm` has Idle ──

other_change : Told (at 2 0 0 0 eager) (rest (write (Only IntrTest) 8) ∷ []) 0 true eager (staging 0) false (entry false none true ∷ []) 1
unfolding rules xor along
other_change = record { is_valid_law = refl; class = refl; stages = refl; bit_3 = refl; tick = refl; reached = refl }

change_needed : SameClass 3 (given_at 0 (at 2 0 0 0 eager) (rest (write (Only IntrTest) 8) ∷ []) 0) (given_at 0 (at 2 0 0 0 eager) (rest none ∷ []) 0) → ⊥
change_needed = differs other_change calm (λ e. omega arith)

-- ── without "from accepted states": of 249 alerts the tick is not run, and the class stays Idle, in the first run or in the second ──

not_accepted : Told (at 249 0 0 0 eager) (raise 0 none ∷ []) 0 false eager (staging 0) false (entry true none false ∷ []) 0
unfolding rules xor along
not_accepted = record { is_valid_law = refl; class = refl; stages = refl; bit_3 = refl; tick = refl; reached = refl }

first_accepted : SameClass 3 (given_at 0 (at 249 0 0 0 eager) (raise 0 none ∷ []) 0) (given_at 0 (at 2 0 0 0 eager) (raise 0 none ∷ []) 0) → ⊥
first_accepted = differs not_accepted hit (λ e. omega arith)

second_accepted : SameClass 3 (given_at 0 (at 2 0 0 0 eager) (raise 0 none ∷ []) 0) (given_at 0 (at 249 0 0 0 eager) (raise 0 none ∷ []) 0) → ⊥
second_accepted = differs hit not_accepted (λ e. omega arith)

-- ── without "of one length": past the end of a list there is no tick, and the state of a new handler stands there ──

shorter : ((class_at (given_at 0 (at 2 0 0 0 eager) (rest none ∷ []) 0).handler 3).timeout ≡ 5)
    × ((class_at (given_at 0 (at 2 0 0 0 eager) [] 0).handler 3).timeout ≡ 0)
unfolding rules
shorter = (refl, refl)

-- ── the interrupt: all above as in `hit`, and bit 3 of INTR_ENABLE and its changes by software ──

record Shows (h : Handler) (x : Input) (e change i : Bool) : Type 0 where
  pub like_hit : Told h (x ∷ []) 0 true eager (staging 0) false (entry true none false ∷ []) 4
  pub enable : bit h.interrupts.enable 3 ≡ e
  pub changes : changes_enable h x.access 3 ≡ change
  pub shown : bit (given_at 0 h (x ∷ []) 0).output.interrupts 3 ≡ i

hidden : Shows (at 2 0 0 0 eager) (raise 0 none) false false false
unfolding rules xor
hidden = record { like_hit = hit; enable = refl; changes = refl; shown = refl }

other_enable : Shows (at 2 0 8 0 eager) (raise 0 none) true false true
unfolding rules xor along
other_enable =
    record {
      like_hit = record { is_valid_law = refl; class = refl; stages = refl; bit_3 = refl; tick = refl; reached = refl };
      enable = refl;
      changes = refl;
      shown = refl;
    }

enabled_now : Shows (at 2 0 0 0 eager) (raise 0 (write (Only IntrEnable) 8)) false true true
unfolding rules xor along
enabled_now =
    record {
      like_hit = record { is_valid_law = refl; class = refl; stages = refl; bit_3 = refl; tick = refl; reached = refl };
      enable = refl;
      changes = refl;
      shown = refl;
    }

enable_needed : SameInterrupt 3 (given_at 0 (at 2 0 8 0 eager) (raise 0 none ∷ []) 0) (given_at 0 (at 2 0 0 0 eager) (raise 0 none ∷ []) 0) → ⊥
enable_needed e = true≢false (sym other_enable.shown ∙ e.interrupt ∙ hidden.shown)

enable_change_needed : SameInterrupt 3 (given_at 0 (at 2 0 0 0 eager) (raise 0 (write (Only IntrEnable) 8) ∷ []) 0) (given_at 0 (at 2 0 0 0 eager) (raise 0 none ∷ []) 0) → ⊥
enable_change_needed e = true≢false (sym enabled_now.shown ∙ e.interrupt ∙ hidden.shown)
