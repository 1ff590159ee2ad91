-- A tick in which no enabled alert has an event, no local alert occurs and no clear is accepted.
-- Assumes nothing.
use Prim.Native.Nat.{ℕ, ◌≤◌, ◌<◌}
use mathlib.Core.Path.{◌≡◌, refl, sym, ap, ap₂, ◌∙◌}
use mathlib.Core.Bool.{Bool, true, false, true≢false, and-false, or-false, ◌&&◌, ◌||◌}
use native.Mathlib.Omega.{arith}
use borrow.Author.Tests.{ltb-true}
use lib.Dec.{eqb, ltb}
use Rattle.bits.proofs.BitLaws.{is_bits_of}
use Rattle.bits.proofs.IndexLaws.{and-true, any_none}
use Rattle.bits.specs.Bits.{bit}
use Rattle.class_rules.specs.Class.{enabled, state_of, state_number}
use Rattle.class_rules.specs.Step.{class_event, counted, starts_from, moved_from, class_step}
use Rattle.class_rules.specs.declared.Class.{Class}
use Rattle.class_rules.specs.declared.ClassState.{ClassState}
use Rattle.class_rules.specs.declared.ClassState.TheVariants.{Idle}
use Rattle.class_rules.specs.declared.Signals.{Signals}
use Rattle.rules.specs.Access.{value, acted, effects, clears}
use Rattle.rules.specs.Samples.{assigned, marked}
use Rattle.rules.specs.State.{most, local_count, class_count, local, alert, class_at}
use Rattle.rules.specs.Tick.{hears, event, interrupt_now, signals, stepped, after}
use Rattle.rules.specs.Valid.{valid}
use Rattle.rules.specs.declared.Effects.{Effects}
use Rattle.rules.specs.declared.Field.{Field}
use Rattle.rules.specs.declared.Handler.{Handler}
use Rattle.rules.specs.declared.Heard.{Heard}
use Rattle.rules.specs.declared.Input.{Input}
use Rattle.rules.specs.declared.Register.{Register}
use Rattle.rules.specs.declared.Register.TheVariants.{Only, Local, Alert, Block}
use Rattle.rules.specs.declared.Setting.TheVariants.{AccumCnt}
use Rattle.rules.specs.declared.Single.TheVariants.{IntrState}
use Rattle.laws.specs.Frame.{moves_itself}
use Rattle.laws.specs.InMap.{in_map}
use Rattle.laws.specs.Quiet.{Silent, runs}
use Rattle.laws.specs.RegisterFile.{commits}
use Rattle.laws.proofs.Map.Cases.{by_kind, by_single, by_field, by_setting}
use Rattle.laws.proofs.Tick.Content.{acted_place}
use Rattle.laws.proofs.Tick.Frame.{stepped_class, stepped_frame, after_value}
use Rattle.laws.proofs.Valid.KeepsAccess.{acted_valid}
use Rattle.laws.proofs.Access.RegisterFile.{acted_n, acted_other}
use Rattle.laws.proofs.State.StateLaws.{alert_sampled, local_sampled}
use Rattle.laws.proofs.Valid.ValidLaws.{facts}

-- it is said not to run on, and does
running : {A : Type 0} → true ≡ false → A
running e = absurd (true≢false e)

-- with no clear and no event nothing is counted
uncounted : (s : Signals) (c : Class) → s.clear ≡ false → s.event ≡ false → counted s c ≡ c.accum
unfolding counted
uncounted s c x y = rw (x, y)

-- an Idle class with no event and no interrupt stays Idle
idles : (s : Signals) (c : Class) → s.event ≡ false → s.interrupt ≡ false → state_of c.state ≡ Idle → state_of (class_step s c).state ≡ Idle
unfolding class_step moved_from starts_from state_of
idles s c x y d =
    ap (λ (m : ClassState). state_of (state_number (moved_from m s c).state)) d
    ∙ simp (x, y, and-false (enabled c))

-- ── steps 2 to 4 of the state g, where nothing comes of what step 2 hears ──

module _ (g : Handler) (v : Heard) (m : g.n ≤ most) (q : Silent g v) where
  pub none_assigned : (k : ℕ) → assigned g v k ≡ false
  unfolding assigned
  none_assigned k =
      ap₂ ◌||◌ (any_none _ g.n (λ i l. ap (λ (b : Bool). b && eqb (alert g Field.Class i) k) (q.alerts i (omega arith))))
      (any_none _ local_count (λ j l. ap (λ (b : Bool). b && eqb (local g Field.Class j) k) (q.locals j l)))

  -- no class has an event
  pub quiet_event : (k : ℕ) → event g v k ≡ false
  unfolding event
  quiet_event k = ap (λ (b : Bool). class_event b (class_at g k)) (none_assigned k)

  quiet_bit : (k : ℕ) → interrupt_now g v k ≡ bit g.interrupts.state k
  unfolding interrupt_now
  quiet_bit k = ap (λ (b : Bool). bit g.interrupts.state k || b) (quiet_event k) ∙ or-false (bit g.interrupts.state k)

  module _ (fx : Effects) where
    quiet_state : g.interrupts.state < 16 → value (stepped g v fx) (Only IntrState) ≡ value g (Only IntrState)
    unfolding stepped value
    quiet_state l = sym (is_bits_of 4 g.interrupts.state (interrupt_now g v) l (λ k h. sym (quiet_bit k)))

    quiet_cause : (i : ℕ) → i < most → value (stepped g v fx) (Alert Field.Cause i) ≡ value g (Alert Field.Cause i)
    unfolding stepped value
    quiet_cause i l = alert_sampled g v Field.Cause i l ∙ ap (λ (b : Bool). marked b (alert g Field.Cause i)) (q.alerts i l)

    quiet_local : (j : ℕ) → j < local_count → value (stepped g v fx) (Local Field.Cause j) ≡ value g (Local Field.Cause j)
    unfolding stepped value
    quiet_local j l = local_sampled g v Field.Cause j l ∙ ap (λ (b : Bool). marked b (local g Field.Cause j)) (q.locals j l)

    quiet_count : (k : ℕ) → k < class_count → bit fx.clears k ≡ false → value (stepped g v fx) (Block AccumCnt k) ≡ value g (Block AccumCnt k)
    unfolding value class_step signals
    quiet_count k l c =
        ap (λ (x : Class). x.accum) (stepped_class g v fx k l)
        ∙ uncounted (signals g v fx k) (class_at g k) c (quiet_event k)

    -- every register but STATE, ESC_CNT and CLR_REGWEN is as before
    pub quiet_frame : g.interrupts.state < 16 → ((k : ℕ) → k < class_count → bit fx.clears k ≡ false)
        → (q : Register) → in_map g.n q ≡ true → runs q ≡ false → value (stepped g v fx) q ≡ value g q
    quiet_frame s c =
        by_kind P (by_single (λ o. P (Only o)) (λ a e. quiet_state s) (still _ refl) (still _ refl) (still _ refl) (still _ refl) (still _ refl))
        (λ f j. by_field (λ f. P (Local f j)) (still _ refl) (still _ refl) (still _ refl) (λ a e. quiet_local j (ltb-true j local_count a)) f)
        (λ f i. by_field (λ f. P (Alert f i)) (still _ refl) (still _ refl) (still _ refl)
        (λ a e. quiet_cause i (omega (arith, ltb-true i g.n a))) f)
        (λ t k. by_setting (λ t. P (Block t k)) (still _ refl) (still _ refl) (λ a. running) (still _ refl)
        (λ a e. let l = ltb-true k class_count (and-true (ltb k class_count) true a).0 in quiet_count k l (c k l)) (still _ refl) (still _ refl)
        (λ p. still _ refl) (λ a. running) (λ a. running) t) (still _ refl)
      where
        P : Register → Type 0
        P q = in_map g.n q ≡ true → runs q ≡ false → value (stepped g v fx) q ≡ value g q

        still : (q : Register) → moves_itself q ≡ false → P q
        still q t a e = stepped_frame g v fx q a t

    -- an Idle class whose interrupt bit is 0 stays Idle
    pub quiet_idle : (k : ℕ) → k < class_count → bit g.interrupts.state k ≡ false → state_of (class_at g k).state ≡ Idle
        → state_of (class_at (stepped g v fx) k).state ≡ Idle
    unfolding signals
    quiet_idle k l b e =
        ap (λ (c : Class). state_of c.state) (stepped_class g v fx k l)
        ∙ idles (signals g v fx k) (class_at g k) (quiet_event k) (quiet_bit k ∙ b) e

-- ── the tick ──

-- a silent tick that clears nothing
module _ (h : Handler) (x : Input) (t : valid h ≡ true) (silent : Silent (acted h x.access) (hears h x))
    (c : (k : ℕ) → k < class_count → clears h x.access k ≡ false) where
  abbrev g : Handler
  g = acted h x.access

  bound : g.n ≤ most
  bound = (facts g (acted_valid h x.access t)).n

  -- what the access does not write is as before, but for STATE, ESC_CNT and CLR_REGWEN
  pub quiet_tick : (q : Register) → in_map h.n q ≡ true → runs q ≡ false → commits h x.access q ≡ false → value (after h x) q ≡ value h q
  unfolding clears
  quiet_tick q i e d =
      after_value h x q
      ∙ quiet_frame g (hears h x) bound silent (effects h x.access)
      (facts g (acted_valid h x.access t)).state c q (ap (λ (n : ℕ). in_map n q) (acted_n h x.access) ∙ i) e
      ∙ acted_other h x.access q (facts h t).n i d

  -- and an Idle class whose interrupt bit is 0 stays so
  pub quiet_waits : (k : ℕ) → k < class_count → commits h x.access (Only IntrState) ≡ false → bit h.interrupts.state k ≡ false
      → state_of (class_at h k).state ≡ Idle → state_of (class_at (after h x) k).state ≡ Idle
  unfolding after value
  quiet_waits k l d b s =
      quiet_idle g (hears h x) bound silent (effects h x.access) k l
      (ap (λ (y : ℕ). bit y k) (acted_other h x.access (Only IntrState) (facts h t).n refl d) ∙ b)
      (ap state_of (acted_place h x.access k l).0 ∙ s)
