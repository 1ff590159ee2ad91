-- Demand 3's escalation: the invariant from the tick of the start to any later tick of the list, and what it says there.
-- Assumes nothing.
use Prim.Native.Nat.{ℕ, zero, suc, ◌+◌, ◌-◌, ◌≤◌, ◌<◌}
use mathlib.Core.Path.{◌≡◌, refl, sym, ap, ◌∙◌, subst}
use mathlib.Core.Logic.{◌↔◌}
use mathlib.Core.Bool.{true}
use mathlib.Core.List.{List}
use native.Mathlib.Omega.{arith}
use native.Mathlib.Nat.{add-zero, add-suc}
use borrow.Author.Tests.{lt-ltb, eq-eqb}
use lib.Dec.{eqb}
use lib.ListN.{length}
use Rattle.bits.proofs.IndexLaws.{true_and}
use Rattle.bits.specs.Bits.{bit}
use Rattle.class_rules.specs.Class.{line_enable, line_map, state_of, drives}
use Rattle.class_rules.specs.Step.{at}
use Rattle.class_rules.specs.declared.Class.{Class}
use Rattle.laws.proofs.Access.Clears.{no_clear}
use Rattle.laws.proofs.Tick.Content.{after_class, signal_clear, acted_place, line_is}
use Rattle.laws.proofs.Access.Locks.{acted_locked}
use Rattle.laws.proofs.Valid.ValidLaws.{facts}
use Rattle.laws.specs.InMap.{setting_exists}
use Rattle.rules.specs.Access.{value, locked, setting_value, acted}
use Rattle.rules.specs.Map.{guard}
use Rattle.rules.specs.State.{class_count, class_at}
use Rattle.rules.specs.Tick.{lines, after, signals_in}
use Rattle.rules.specs.Valid.{valid}
use Rattle.rules.specs.declared.Access.{Access}
use Rattle.rules.specs.declared.Handler.{Handler}
use Rattle.rules.specs.declared.Input.{Input}
use Rattle.rules.specs.declared.Register.TheVariants.{Block}
use Rattle.rules.specs.declared.Setting.{Setting}
use Rattle.rules.specs.declared.Setting.TheVariants.{Ctrl, ClrRegwen, PhaseCyc}
use Rattle.rules.specs.declared.Ticked.{Ticked}
use Rattle.escalation.specs.Escalation.{OfPhase, Starts, DrivenByOther, Line, Escalated}
use Rattle.escalation.specs.List.{IsTick, before, input_at, given_at, class_read}
use Rattle.escalation.proofs.Going.{Going, going_starts, going_steps, of_phase, going_drives}
use Rattle.escalation.proofs.Phases.{place_of, At, in_terminal, count_phase, count_terminal}
use Rattle.escalation.proofs.ListTicks
use Rattle.escalation.proofs.ListTicks.{input, at_valid, at_next, given_handler, given_lines}

-- ── one tick, of the valid state g ──

module _ (g : Handler) (v : valid g ≡ true) (k : ℕ) (small : k < class_count) where
  -- a locked register of the block holds the same after step 1
  pub keeps : (x : Access) (s : Setting) → setting_exists s ≡ true → locked g (Block s k) ≡ true
      → setting_value s (class_at (acted g x) k) ≡ setting_value s (class_at g k)
  unfolding value
  keeps x s e l = (acted_locked g x (Block s k) (facts g v).n (true_and (lt-ltb k class_count small) e) l).1

  -- step 1 leaves the invariant
  going_access : (x : Access) (c : Class) (d : ℕ) → Going c d (class_at g k) → Going c d (class_at (acted g x) k)
  unfolding locked guard value
  going_access x c d i =
      let shut : (n : ℕ) → n ≡ 0 → eqb n 0 ≡ true = λ n e. eq-eqb n 0 e in
      let u = acted_place g x k small in
      let p : place_of (class_at (acted g x) k) ≡ place_of (class_at g k) =
      ap (λ (m : ℕ). at (state_of m) (class_at (acted g x) k).count) u.0 ∙ ap (at (state_of (class_at g k).state)) u.1 in
      record {
        regwen = keeps x Setting.Regwen refl (shut _ i.regwen) ∙ i.regwen;
        clrwen = keeps x ClrRegwen refl (shut _ i.clrwen) ∙ i.clrwen;
        ctrl = keeps x Ctrl refl (shut _ i.regwen) ∙ i.ctrl;
        lengths = λ p h. keeps x (PhaseCyc p) (lt-ltb p 4 h) (shut _ i.regwen) ∙ i.lengths p h;
        place = subst (At c d) (sym p) i.place;
      }

  -- and so do steps 2 to 4, with one tick more: there is no accepted clear
  going_tick : (x : Input) (c : Class) (d : ℕ) → Going c d (class_at g k) → Going c (suc d) (class_at (after g x) k)
  unfolding locked guard value
  going_tick x c d i =
      subst (Going c (suc d)) (sym (after_class g x k small))
      (going_steps c (class_read g x k) d (signals_in g x k)
      (signal_clear g x k ∙ no_clear g x.access k (eq-eqb _ 0 i.clrwen))
      (going_access x.access c d i))

  -- a start
  going_first : (x : Input) → Starts g x k → Going (class_read g x k) 0 (class_at (after g x) k)
  going_first x s =
      subst (Going (class_read g x k) 0) (sym (after_class g x k small))
      (going_starts (signals_in g x k) (class_read g x k) s.is_start s.is_locked s.has_lock)

-- ── the list: j ticks have run, and tick i is that of the start ──

module _ (h : Handler) (xs : List Input) (v : valid h ≡ true) (k : ℕ) (small : k < class_count) where
  going_next : (c : Class) (j d : ℕ) → j < length xs → Going c d (class_at (ListTicks.at h xs j) k) → Going c (suc d) (class_at (ListTicks.at h xs (suc j)) k)
  going_next c j d l g =
      subst (λ (f : Handler). Going c (suc d) (class_at f k)) (sym (at_next h xs v j l))
      (going_tick (ListTicks.at h xs j) (at_valid h xs v j) k small (input xs j) c d g)

  -- the class as tick i reads it
  abbrev read : ℕ → Class
  read i = class_read (ListTicks.at h xs i) (input xs i) k

  going_start : (i : ℕ) → i < length xs → Starts (ListTicks.at h xs i) (input xs i) k → Going (read i) 0 (class_at (ListTicks.at h xs (suc i)) k)
  going_start i l s =
      subst (λ (f : Handler). Going (read i) 0 (class_at f k)) (sym (at_next h xs v i l))
      (going_first (ListTicks.at h xs i) (at_valid h xs v i) k small (input xs i) s)

  -- d ticks after the start
  going : (c : Class) (j d : ℕ) → j + d ≤ length xs → Going c 0 (class_at (ListTicks.at h xs j) k) → Going c d (class_at (ListTicks.at h xs (j + d)) k)
  going c j zero l g = subst (λ (n : ℕ). Going c 0 (class_at (ListTicks.at h xs n) k)) (sym (add-zero j)) g
  going c j (suc d) l g =
      subst (λ (n : ℕ). Going c (suc d) (class_at (ListTicks.at h xs n) k)) (sym (add-suc j d))
      (going_next c (j + d) d (omega arith) (going c j d (omega arith) g))

-- ── what it says in tick s + d, which gives o ──

module _ (c : Class) (s d k : ℕ) (small : k < class_count) (o : Ticked) (g : Going c d (class_at o.handler k)) (w : o.output.lines ≡ lines o.handler) where
  line : (e : ℕ) → e < 4 → Line c s (s + d) o k e
  line e l = record { class = own; inside = λ a b. on.1 (k, small, own.1 (a, b)); outside = λ a. (λ b. there a (on.0 b), λ r. on.1 (r.0, r.1, r.3)) }
    where
      own : (drives (class_at o.handler k) e ≡ true) ↔ ((line_enable c e ≡ true) × OfPhase c s (line_map c e) (s + d))
      own = going_drives c (class_at o.handler k) s d g e

      on : (bit o.output.lines e ≡ true) ↔ ((j : ℕ) × (j < class_count) × (drives (class_at o.handler j) e ≡ true))
      on = rw w (line_is o.handler e l)

      there : ¬ ((line_enable c e ≡ true) × OfPhase c s (line_map c e) (s + d))
          → (j : ℕ) × (j < class_count) × (drives (class_at o.handler j) e ≡ true) → DrivenByOther o.handler k e
      there a r = (r.0, r.1, (λ q. a (own.0 (subst (λ (j : ℕ). drives (class_at o.handler j) e ≡ true) q r.2))), r.2)

  escalated : Escalated c s (s + d) o k
  escalated =
      let b : Class = class_at o.handler k in
      let t = in_terminal c d (place_of b) g.place in
      record {
        in_phase_law = of_phase c b s d g;
        in_terminal = (λ e. let r = t.0 e in omega arith, λ l. t.1 (omega arith));
        count = λ p h (f : OfPhase c s p (s + d)). omega (arith, count_phase c d p (place_of b) h g.place (omega (arith, f)) (omega (arith, f)));
        count_terminal = λ l. count_terminal c d (place_of b) g.place (omega arith);
        line = line;
      }

-- once a locked class with EN and LOCK starts to escalate, its lines follow their mapped phases to the end of any list of ticks
pub escalates : (h : Handler) (xs : List Input) → valid h ≡ true → (first k s : ℕ) → IsTick first xs s
    → Starts (before first h xs s) (input_at first xs s) k → (t : ℕ) → s ≤ t → IsTick first xs t
    → Escalated (class_read (before first h xs s) (input_at first xs s) k) s t (given_at first h xs t) k
escalates h xs v first k s a r t le b =
    let i : ℕ = s - first in
    let d : ℕ = t - s in
    let j : ℕ = t - first in
    let p : s + d ≡ t = omega arith in
    let q : suc i + d ≡ suc j = omega (arith, a.from) in
    let l : j < length xs = omega (arith, b.from, b.to) in
    let c : Class = class_read (before first h xs s) (input_at first xs s) k in
    let g : Going c d (class_at (given_at first h xs t).handler k) =
    rw (given_handler h xs v j l, ← q) (going h xs v k r.is_class c (suc i) d (omega arith) (going_start h xs v k r.is_class i (omega arith) r)) in
    rw p at (escalated c s d k r.is_class (given_at first h xs t) g (given_lines h xs v j l))
