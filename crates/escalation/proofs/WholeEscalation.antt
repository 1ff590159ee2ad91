-- Demand 3 once more, taken from the theorem over every class, line, phase, tick and register, in raw numbers and the rules' own words. A claim that says
-- less, or asks for more (two lines, three phases, locks of the first state alone, an "exactly when" that is an "if"), does not give it.
-- Assumes nothing.
use Prim.Native.Nat.{ℕ, zero, suc, ◌+◌, ◌-◌, ◌*◌, ◌≤◌, ◌<◌, max}
use mathlib.Core.Path.{◌≡◌, refl, sym, ap, subst}
use mathlib.Core.Logic.{◌↔◌, ◌≢◌, ◌⊎◌}
use mathlib.Core.Bool.{Bool, true, false}
use mathlib.Core.List.{List}
use native.Mathlib.Omega.{arith}
use lib.ListN.{get_or, length, take}
use Rattle.bits.specs.Bits.{bit, field}
use Rattle.class_rules.specs.Class.{phase, state_of, drives}
use Rattle.class_rules.specs.Step.{trigger, due, starts}
use Rattle.class_rules.specs.declared.Class.{Class}
use Rattle.class_rules.specs.declared.ClassState.TheVariants.{Idle, Timeout, Phase0, Terminal}
use Rattle.rules.specs.Access.{value, locked, clears, acted}
use Rattle.rules.specs.Map.{decode, number_of}
use Rattle.rules.specs.Run.{run, ticks}
use Rattle.rules.specs.Samples.{at_rest}
use Rattle.rules.specs.Stages.{stage}
use Rattle.rules.specs.State.{class_at}
use Rattle.rules.specs.Tick.{signals_in}
use Rattle.rules.specs.Valid.{valid}
use Rattle.rules.specs.declared.Access.{Access}
use Rattle.rules.specs.declared.Handler.{Handler}
use Rattle.rules.specs.declared.Input.{Input}
use Rattle.rules.specs.declared.Register.TheVariants.{Block}
use Rattle.rules.specs.declared.Setting.TheVariants.{Clr}
use Rattle.rules.specs.declared.Ticked.{Ticked}
use Rattle.escalation.specs.Escalation.{phase_start, OfPhase, Escalated}
use Rattle.escalation.specs.List.{no_tick}
use Rattle.escalation.proofs.Demand3.{demand3}

-- how many ticks after the start Phase p starts, by the lengths alone
abbrev start_of : List ℕ → ℕ → ℕ
start_of ls zero = 0
start_of ls (suc p) = start_of ls p + max (get_or ls p 0) 1

same_start : (c : Class) (p : ℕ) → phase_start c p ≡ start_of c.lengths p
same_start c zero = refl
same_start c (suc p) = ap (λ (n : ℕ). n + max (get_or c.lengths p 0) 1) (same_start c p)

module _ (h : Handler) (xs : List Input) (v : valid h ≡ true) where
  -- the state after i ticks, the input of tick i and what it gives; class k as it reads it, and whether the class starts in it
  abbrev state : ℕ → Handler
  state i = run h (take i xs)

  abbrev input : ℕ → Input
  input i = get_or xs i (record { access = Access.Nothing; sample = at_rest })

  abbrev gives : ℕ → Ticked
  gives i = get_or (ticks h xs) i no_tick

  abbrev read : ℕ → ℕ → Class
  read i k = class_at (acted (state i) (input i).access) k

  abbrev starting : ℕ → ℕ → Bool
  starting i k = starts (signals_in (state i) (input i) k) (read i k)

  -- ── what a start is, in each tick of the list and of each class; ticks are numbered from any first number ──

  each_start : (first k t : ℕ) → k < 4 → first ≤ t → t < first + length xs
      → ((starting (t - first) k ≡ true)
      ↔ (((state_of (class_at (state (t - first)) k).state ≡ Idle) ⊎ (state_of (class_at (state (t - first)) k).state ≡ Timeout))
      × (state_of (class_at (gives (t - first)).handler k).state ≡ Phase0)))
      × (starting (t - first) k ≡ true → (e : ℕ) × (e < 4) × (bit (read (t - first) k).ctrl (2 + e) ≡ true))
      × (starting (t - first) k ≡ true
      → (trigger (signals_in (state (t - first)) (input (t - first)) k) (read (t - first) k) ≡ true)
      ⊎ ((state_of (class_at (state (t - first)) k).state ≡ Timeout)
      × (due (signals_in (state (t - first)) (input (t - first)) k) (read (t - first) k) ≡ true)
      × ((read (t - first) k).timeout ≤ (read (t - first) k).count)))
  each_start first k t l a b = let s = (demand3 h xs v).start first k t l (record { from = a; to = b }) in (s.move, s.line, s.reason)

  -- ── from the start of a locked class with EN and LOCK in tick s on: tick t ──

  module _ (first k s t : ℕ) (small : k < 4) (from : first ≤ s) (later : s ≤ t) (to : t < first + length xs) (start : starting (s - first) k ≡ true)
      (shut : (read (s - first) k).regwen ≡ 0) (has_en : bit (read (s - first) k).ctrl 0 ≡ true) (has_lock : bit (read (s - first) k).ctrl 1 ≡ true) where
    abbrev class : Class
    class = read (s - first) k

    abbrev now : Class
    now = class_at (gives (t - first)).handler k

    abbrev In : ℕ → Type 0
    In p = (s + start_of class.lengths p ≤ t) × (t < s + start_of class.lengths (suc p))

    claim : Escalated class s t (gives (t - first)) k
    claim =
        (demand3 h xs v).escalation first k s (record { from = from; to = omega arith })
        (record { is_class = small; is_start = start; is_locked = shut; has_en = has_en; has_lock = has_lock }) t later
        (record { from = omega arith; to = to })

    inside : (p : ℕ) → In p → OfPhase class s p t
    inside p i =
        record {
          from = subst (λ (n : ℕ). s + n ≤ t) (sym (same_start class p)) i.0;
          to = subst (λ (n : ℕ). t < s + n) (sym (same_start class (suc p))) i.1;
        }

    within : (p : ℕ) → OfPhase class s p t → In p
    within p o = (
      subst (λ (n : ℕ). s + n ≤ t) (same_start class p) o.from,
      subst (λ (n : ℕ). t < s + n) (same_start class (suc p)) o.to,
    )

    -- its state and count in each phase
    each_phase : (p : ℕ) → p < 4 → ((state_of now.state ≡ phase p) ↔ In p) × (In p → s + start_of class.lengths p + now.count ≡ t + 1)
    each_phase p l =
        let c = claim.in_phase_law p l in (
          (λ e. within p (c.0 e), λ i. c.1 (inside p i)),
          λ i. subst (λ (n : ℕ). s + n + now.count ≡ t + 1) (same_start class p) (claim.count p l (inside p i)),
        )

    -- and in Terminal
    terminal : ((state_of now.state ≡ Terminal) ↔ (s + start_of class.lengths 4 ≤ t)) × (s + start_of class.lengths 4 ≤ t → now.count ≡ 0)
    terminal = (claim.in_terminal, claim.count_terminal)

    -- each line: what the class drives itself, and what is on
    abbrev Own : ℕ → Type 0
    Own e = (bit class.ctrl (2 + e) ≡ true) × In (field (6 + 2 * e) 2 class.ctrl)

    each_line : (e : ℕ) → e < 4
        → ((drives now e ≡ true) ↔ Own e)
        × (Own e → bit (gives (t - first)).output.lines e ≡ true)
        × (¬ Own e → (bit (gives (t - first)).output.lines e ≡ true) ↔ ((j : ℕ) × (j < 4) × (j ≢ k) × (drives (class_at (gives (t - first)).handler j) e ≡ true)))
    each_line e l =
        let c = claim.line e l in
        let p : ℕ = field (6 + 2 * e) 2 class.ctrl in (
          (λ d. let r = c.class.0 d in (r.0, within p r.1), λ o. c.class.1 (o.0, inside p o.1)),
          (λ o. c.inside o.0 (inside p o.1)),
          λ n. c.outside (λ r. n (r.0, within p r.1)),
        )

  -- ── locks: of every register number, after i ticks and after every later one ──

  stays_locked : (i j r : ℕ) → i ≤ j → j ≤ length xs → locked (state i) (decode (state i).n r) ≡ true
      → (locked (state j) (decode (state j).n r) ≡ true)
      × (value (state j) (decode (state j).n r) ≡ value (state i) (decode (state i).n r))
      × ((stage (state j) (decode (state j).n r) ≡ stage (state i) (decode (state i).n r)) ⊎ (stage (state j) (decode (state j).n r) ≡ 0))
  stays_locked i j r a b l = let c = (demand3 h xs v).locks i j r a b l in (c.0, c.1, (demand3 h xs v).stages i j r a b l)

  -- CLR of class k is number 1283 + 16 k
  no_clear_while_locked : (i j k : ℕ) → k < 4 → i ≤ j → j < length xs → locked (state i) (decode (state i).n (1283 + 16 * k)) ≡ true
      → clears (state j) (input j).access k ≡ false
  unfolding number_of
  no_clear_while_locked i j k l a b e =
      let d : 1283 + 16 * k ≡ number_of (Block Clr k) = omega arith in
      (demand3 h xs v).no_clear i j k l a b (subst (λ (r : ℕ). locked (state i) (decode (state i).n r) ≡ true) d e)
