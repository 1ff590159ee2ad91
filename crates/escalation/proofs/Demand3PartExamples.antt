-- Each part of demand 3's claim, taken from it: a claim that left the part out would not do here. The ticks are numbered from any first number, and
-- the start is in a later tick than the first.
-- Assumes nothing.
use Prim.Native.Nat.{ℕ, suc, ◌+◌, ◌-◌, ◌≤◌, ◌<◌}
use mathlib.Core.Path.{◌≡◌, refl, sym, ap, subst}
use mathlib.Core.Logic.{◌↔◌, ◌≢◌}
use mathlib.Core.Bool.{true, false, false≢true}
use mathlib.Core.List.{List, [], ◌∷◌}
use native.Mathlib.Omega.{arith}
use lib.ListN.{get_or, length, take}
use Rattle.bits.specs.Bits.{bit}
use Rattle.class_rules.specs.Class.{line_enable, line_map, phase, drives}
use Rattle.class_rules.specs.declared.Class.{Class}
use Rattle.class_rules.specs.declared.ClassState.TheVariants.{Phase0}
use Rattle.rules.specs.Scenes.{rest, raise, none, write}
use Rattle.rules.proofs.Scenes.{rules, settings}
use Rattle.rules.specs.Access.{clears}
use Rattle.rules.specs.Run.{run}
use Rattle.rules.specs.State.{class_at}
use Rattle.rules.specs.Valid.{valid}
use Rattle.rules.specs.declared.Handler.{Handler}
use Rattle.rules.specs.declared.Input.{Input}
use Rattle.rules.specs.declared.Register.TheVariants.{Block}
use Rattle.rules.specs.declared.Setting.TheVariants.{ClrRegwen}
use Rattle.rules.specs.declared.Ticked.{Ticked}
use Rattle.escalation.specs.Escalation.{OfPhase, state_in, Starts, DrivenByOther, Escalated, Locked}
use Rattle.escalation.specs.List.{IsTick, given_at, no_input, class_read}
use Rattle.escalation.proofs.Demand3.{demand3}
use Rattle.escalation.proofs.StartExamples.{shut, locked, post, nines, waiting, clearing, unlocked, locking, by_timeout, with_clear, just_locked}

-- ── a start in the second tick, of any list x ∷ y ∷ ys from any state h; the first tick has any number ──

module _ (h : Handler) (x y : Input) (ys : List Input) (v : valid h ≡ true) (first t : ℕ) (from : suc first ≤ t) (to : t ≤ suc first + length ys) where
  second : (k : ℕ) → Starts (run h (x ∷ [])) y k → Escalated (class_read (run h (x ∷ [])) y k) (suc first) t (given_at first h (x ∷ y ∷ ys) t) k
  unfolding run
  second k s =
      let n : suc first - first ≡ 1 = omega arith in
      let a : IsTick first (x ∷ y ∷ ys) (suc first) = record { from = omega arith; to = omega arith } in
      let b : IsTick first (x ∷ y ∷ ys) t = record { from = omega arith; to = omega arith } in
      subst (λ (i : ℕ). Escalated (class_read (run h (take i (x ∷ y ∷ ys))) (get_or (x ∷ y ∷ ys) i no_input) k) (suc first) t (given_at first h (x ∷ y ∷ ys) t) k) n
      ((demand3 h (x ∷ y ∷ ys) v).escalation first k (suc first) a
      (subst (λ (i : ℕ). Starts (run h (take i (x ∷ y ∷ ys))) (get_or (x ∷ y ∷ ys) i no_input) k) (sym n) s) t from b)

-- ── class 2 with lengths 0, 10, 10, 5 and line e in Phase e; then a class like it whose line 0 is not enabled, with phases of nine ticks ──

abbrev class : Class
class = locked 0 0 (0 ∷ 10 ∷ 10 ∷ 5 ∷ [])

abbrev lacking : Class
lacking = shut (settings 0x393B 0 0 nines)

-- a quiet tick, the start, and any inputs: what tick t gives
abbrev after : Class → List Input → ℕ → ℕ → Ticked
after c ys first t = given_at first (post 2 c) (rest none ∷ raise 1 none ∷ ys) t

module _ (ys : List Input) (first t : ℕ) (from : suc first ≤ t) (to : t ≤ suc first + length ys) where
  escalated : Escalated class (suc first) t (after class ys first t) 2
  unfolding rules
  escalated =
      second (post 2 class) (rest none) (raise 1 none) ys refl first t from to 2
      (record { is_class = omega arith; is_start = refl; is_locked = refl; has_en = refl; has_lock = refl })

  escalated_lacking : Escalated lacking (suc first) t (after lacking ys first t) 2
  unfolding rules
  escalated_lacking =
      second (post 2 lacking) (rest none) (raise 1 none) ys refl first t from to 2
      (record { is_class = omega arith; is_start = refl; is_locked = refl; has_en = refl; has_lock = refl })

  -- Phase 1 in ticks 1 to 10 after the start and in no other
  within : OfPhase class (suc first) 1 t → (2 + first ≤ t) × (t < 12 + first)
  within o = (omega (arith, o.from), omega (arith, o.to))

  in_phase_1 : 2 + first ≤ t → t < 12 + first → state_in (after class ys first t).handler 2 ≡ phase 1
  in_phase_1 a b = (escalated.in_phase_law 1 (omega arith)).1 (record { from = omega arith; to = omega arith })

  only_then : state_in (after class ys first t).handler 2 ≡ phase 1 → (2 + first ≤ t) × (t < 12 + first)
  only_then e = within ((escalated.in_phase_law 1 (omega arith)).0 e)

  -- ESC_CNT there is 1 and goes up by 1, and is 0 in Terminal, from 26 ticks after the start on
  counts : 2 + first ≤ t → t < 12 + first → (class_at (after class ys first t).handler 2).count + (1 + first) ≡ t
  counts a b = omega (arith, escalated.count 1 (omega arith) (record { from = omega arith; to = omega arith }))

  counts_last : 22 + first ≤ t → t < 27 + first → (class_at (after class ys first t).handler 2).count + (21 + first) ≡ t
  counts_last a b = omega (arith, escalated.count 3 (omega arith) (record { from = omega arith; to = omega arith }))

  counts_none : 27 + first ≤ t → (class_at (after class ys first t).handler 2).count ≡ 0
  counts_none a = escalated.count_terminal (omega arith)

  -- the class drives line 1 in Phase 1 and in no other tick
  drives_line : 2 + first ≤ t → t < 12 + first → drives (class_at (after class ys first t).handler 2) 1 ≡ true
  unfolding bit
  drives_line a b = (escalated.line 1 (omega arith)).class.1 (refl, record { from = omega arith; to = omega arith })

  drives_only_then : drives (class_at (after class ys first t).handler 2) 1 ≡ true → (2 + first ≤ t) × (t < 12 + first)
  unfolding bit
  drives_only_then d = let o : (line_enable class 1 ≡ true) × OfPhase class (suc first) (line_map class 1) t = (escalated.line 1 (omega arith)).class.0 d in within o.1

  -- a line that is not enabled it never drives, and that line is on exactly when another class drives it, in its mapped phase too
  drives_none : drives (class_at (after lacking ys first t).handler 2) 0 ≢ true
  unfolding bit
  drives_none d = false≢true ((escalated_lacking.line 0 (omega arith)).class.0 d).0

  on_by_others : (bit (after lacking ys first t).output.lines 0 ≡ true) ↔ DrivenByOther (after lacking ys first t).handler 2 0
  unfolding bit
  on_by_others = (escalated_lacking.line 0 (omega arith)).outside (λ r. false≢true r.0)

-- ── each kind of start of class 3, phases of nine ticks, and then any inputs: in Phase 0, whatever they are ──

module _ (h : Handler) (x : Input) (ys : List Input) (v : valid h ≡ true) (s : Starts h x 3) (nine : (class_read h x 3).lengths ≡ nines) (first t : ℕ)
    (from : first ≤ t) (to : t ≤ first + length ys) (few : t < 9 + first) where
  stays_in_phase : state_in (given_at first h (x ∷ ys) t).handler 3 ≡ Phase0
  unfolding run
  stays_in_phase =
      let n : first - first ≡ 0 = omega arith in
      let c : Class = class_read h x 3 in
      let l : get_or c.lengths 0 0 ≡ 9 = ap (λ (ls : List ℕ). get_or ls 0 0) nine in
      let e : Escalated c first t (given_at first h (x ∷ ys) t) 3 =
      subst (λ (i : ℕ). Escalated (class_read (run h (take i (x ∷ ys))) (get_or (x ∷ ys) i no_input) 3) first t (given_at first h (x ∷ ys) t) 3) n
      ((demand3 h (x ∷ ys) v).escalation first 3 first (record { from = omega arith; to = omega arith })
      (subst (λ (i : ℕ). Starts (run h (take i (x ∷ ys))) (get_or (x ∷ ys) i no_input) 3) (sym n) s) t from (record { from = omega arith; to = omega arith })) in
      (e.in_phase_law 0 (omega arith)).1 (record { from = omega arith; to = omega (arith, l) })

-- by the timeout, by the timeout with an accepted clear in the same tick, and with REGWEN written 0 in the same tick
each_start : (ys : List Input) (first t : ℕ) → first ≤ t → t ≤ first + length ys → t < 9 + first
    → (state_in (given_at first waiting (rest none ∷ ys) t).handler 3 ≡ Phase0)
    × (state_in (given_at first waiting (clearing ∷ ys) t).handler 3 ≡ Phase0)
    × (state_in (given_at first unlocked (locking ∷ ys) t).handler 3 ≡ Phase0)
unfolding rules
each_start ys first t from to few = (
  stays_in_phase waiting (rest none) ys refl by_timeout.0 refl first t from to few,
  stays_in_phase waiting clearing ys refl with_clear.0 refl first t from to few,
  stays_in_phase unlocked locking ys refl just_locked.0 refl first t from to few,
)

-- ── locks: after a tick, and not only from the list's first state ──

module _ (ys : List Input) (t : ℕ) where
  -- class 3 is locked by the first tick, and stays locked: its REGWEN, 1328, and its CTRL, 1329
  still_locked : 1 ≤ t → t ≤ 1 + length ys → Locked (run unlocked (take t (locking ∷ ys))) 1328 × Locked (run unlocked (take t (locking ∷ ys))) 1329
  unfolding rules
  still_locked a b = (
    ((demand3 unlocked (locking ∷ ys) refl).locks 1 t 1328 a (omega arith) refl).0,
    ((demand3 unlocked (locking ∷ ys) refl).locks 1 t 1329 a (omega arith) refl).0,
  )

  -- CLR_REGWEN of class 3 is written 0 in the first tick: no later tick has an accepted clear of class 3
  no_clear_then : 1 ≤ t → t < 1 + length ys
      → clears (run unlocked (take t (rest (write (Block ClrRegwen 3) 0) ∷ ys))) (get_or (rest (write (Block ClrRegwen 3) 0) ∷ ys) t no_input).access 3 ≡ false
  unfolding rules
  no_clear_then a b = (demand3 unlocked (rest (write (Block ClrRegwen 3) 0) ∷ ys) refl).no_clear 1 t 3 (omega arith) a (omega arith) refl

  -- the first tick is that of a start of class 3 under LOCK, with an accepted clear of its own: no later tick has one
  no_clear_after_start : 1 ≤ t → t < 1 + length ys → clears (run waiting (take t (clearing ∷ ys))) (get_or (clearing ∷ ys) t no_input).access 3 ≡ false
  unfolding rules
  no_clear_after_start a b = (demand3 waiting (clearing ∷ ys) refl).no_clear 1 t 3 (omega arith) a (omega arith) refl
