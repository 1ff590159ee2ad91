-- Request (xi) through a boot: what is at rest stays at rest, so that no sender waits for a 1; and where one does, local 3 occurs.
-- Assumes nothing.
use Prim.Native.Nat.{ℕ, zero, suc, ◌<◌}
use mathlib.Core.Path.{◌≡◌, refl, sym, ap, ap₂, ◌∙◌, subst}
use mathlib.Core.Bool.{Bool, true, false, and-false, ◌&&◌, ◌||◌}
use mathlib.Core.Logic.{inl, inr}
use mathlib.Core.List.{List, [], ◌∷◌}
use native.Mathlib.Omega.{arith}
use lib.Dec.{eqb}
use lib.ListN.{length, take}
use Rattle.bits.proofs.BitLaws.{bit_none, bit_ones, bit_bits_of}
use Rattle.bits.proofs.IndexLaws.{any_none, any_at}
use Rattle.bits.specs.Bits.{bit}
use Rattle.bits.specs.Index.{any_to}
use Rattle.class_rules.specs.Class.{state_of, line_enable, line_map, is_phase, drives}
use Rattle.class_rules.specs.declared.ClassState.{ClassState}
use Rattle.class_rules.specs.declared.ClassState.TheVariants.{Idle}
use Rattle.laws.proofs.Access.RegisterFile.{acted_other}
use Rattle.laws.proofs.Samples.Off.{off_opens}
use Rattle.laws.proofs.Samples.Receivers.{acted_links}
use Rattle.laws.proofs.State.StateLaws.{local_sampled}
use Rattle.laws.proofs.Tick.Frame.{after_value}
use Rattle.laws.proofs.Tick.Senders.{after_sender}
use Rattle.laws.proofs.Tick.TimerOff.{off_runs}
use Rattle.laws.proofs.Tick.Turns.{local_3}
use Rattle.laws.proofs.Valid.Refusal7.{ticked_handler}
use Rattle.laws.proofs.Valid.ValidLaws.{facts}
use Rattle.laws.specs.Pinging.{meets_in}
use Rattle.laws.specs.InMap.{in_map}
use Rattle.laws.specs.RegisterFile.{commits}
use Rattle.link_rules.proofs.SenderLaws.{sender_by}
use Rattle.link_rules.specs.EscalationReceiver.{sound_after}
use Rattle.link_rules.specs.Pair.{equal, differ}
use Rattle.link_rules.specs.Sender.{new_sender, sent}
use Rattle.link_rules.specs.Senders.{line_count, sender_in}
use Rattle.link_rules.specs.Timer.{is_line, line_of, opens}
use Rattle.link_rules.specs.declared.Sender.{Sender}
use Rattle.link_rules.specs.declared.Turn.{Turn}
use Rattle.policy.proofs.PlanLaws.{plan_planned}
use Rattle.policy.specs.Install.{Ask, Entry, under, install, write, read, asks}
use Rattle.policy.specs.Plan.{plan_of, boot}
use Rattle.policy.specs.Sound.{planned}
use Rattle.policy.specs.declared.Installed.{Installed}
use Rattle.policy.specs.declared.Lifecycle.{Lifecycle}
use Rattle.rules.specs.Access.{value, acted}
use Rattle.rules.specs.Map.{number_of}
use Rattle.rules.specs.Run.{run}
use Rattle.rules.specs.Samples.{line_wrong, marked, occurs}
use Rattle.rules.specs.State.{class_count, class_at, sender, is_on, new_handler}
use Rattle.rules.specs.Tick.{stepped, lines, hears, after}
use Rattle.rules.specs.Valid.{valid}
use Rattle.rules.specs.declared.Field.{Field}
use Rattle.rules.specs.declared.Handler.{Handler}
use Rattle.rules.specs.declared.Links.{Links}
use Rattle.rules.specs.declared.Register.{Register}
use Rattle.rules.specs.declared.Register.TheVariants.{Only, Local}
use Rattle.rules.specs.declared.Single.TheVariants.{IntrState, PingEnable}
use Rattle.boot_laws.specs.Ran.{input_of, inputs, wants, reach, Among, All}
use Rattle.boot_laws.specs.Ran.All.{none, more}
use Rattle.boot_laws.specs.Stands.{Success, NoPingEvent, Unasked, NoWrongEvent, AtRest}
use Rattle.boot_laws.proofs.After.{boot_ran}
use Rattle.boot_laws.proofs.AskLaws.{install_goes, goes_along, Kept, reach_kept}
use Rattle.boot_laws.proofs.Boot.{Went, went, begins, plan_fits, not_zero}
use Rattle.boot_laws.proofs.EntryLaws.{Fit, spares, reach_value}
use Rattle.boot_laws.proofs.InstallLaws.{sound_fit, unnamed_at, all_asks, Same}
use Rattle.boot_laws.proofs.NoPings.{Clear, Unwrong, plan_clear}
use Rattle.boot_laws.proofs.QuietLaws.{quiet_write, quiet_read, idle_write, idle_read}
use Rattle.boot_laws.proofs.Unnamed.{unplanned, local_out}

-- ── lines and senders of a state at rest ──

-- an Idle class drives no line
idle_drives : (h : Handler) (k e : ℕ) → state_of (class_at h k).state ≡ Idle → drives (class_at h k) e ≡ false
unfolding drives
idle_drives h k e i =
    ap (λ (s : ClassState). line_enable (class_at h k) e && is_phase s (line_map (class_at h k) e)) i ∙ and-false (line_enable (class_at h k) e)

no_line : (h : Handler) → ((k : ℕ) → k < class_count → state_of (class_at h k).state ≡ Idle) → (e : ℕ) → e < 4 → bit (lines h) e ≡ false
unfolding lines
no_line h i e l =
    bit_bits_of 4 (λ j. any_to (λ k. drives (class_at h k) j) class_count) e l
    ∙ any_none (λ k. drives (class_at h k) e) class_count (λ k m. idle_drives h k e (i k m))

-- a new sender that is given nothing stays so
new_stays : sent new_sender (record { line = false; ping = false }) ≡ new_sender
unfolding sent sound_after
new_stays = refl

is_off : (f : Handler) → value f (Only PingEnable) ≡ 0 → is_on f ≡ false
unfolding value
is_off f z = ap (λ (n : ℕ). eqb n 1) z

calm_bit : (f : Handler) (k : ℕ) → value f (Only IntrState) ≡ 0 → bit f.interrupts.state k ≡ false
unfolding value
calm_bit f k e = ap (λ (x : ℕ). bit x k) e ∙ bit_none k

-- a tick without a line and without a ping leaves the senders at rest
rest_sender : (f : Handler) (x : Ask) (e : ℕ) → valid f ≡ true → AtRest f → ((k : ℕ) → k < class_count → state_of (class_at (reach f x) k).state ≡ Idle)
    → e < line_count → sender (reach f x) e ≡ new_sender
rest_sender f x e t r i l =
    ap (λ (h : Handler). sender h e) (ticked_handler f (input_of x) t)
    ∙ after_sender f (input_of x) e l
    ∙ ap₂ (λ (s : Sender) (b : Bool). sent s (record { line = b; ping = opens (meets_in f (input_of x)) turn && (is_line turn && eqb e (line_of turn)) })) (r.senders e l)
    (no_line (after f (input_of x)) (λ k m. subst (λ (h : Handler). state_of (class_at h k).state ≡ Idle) (ticked_handler f (input_of x) t) (i k m)) e l)
    ∙ ap (λ (b : Bool). sent new_sender (record { line = false; ping = b && (is_line turn && eqb e (line_of turn)) }))
    (off_opens (meets_in f (input_of x)) turn (off_runs f (input_of x) t (is_off f r.off)))
    ∙ new_stays
  where
    turn : Turn
    turn = f.links.turn

unasked : (f : Handler) → AtRest f → Unasked f
unasked f r e l = ap (λ (s : Sender). s.sound.answer) (r.senders e l)

-- ── a boot from a state at rest ──

module _ (l : Lifecycle) (h : Handler) (w : Went l h) where
  abbrev Rests : Handler → Type 0
  Rests f = Kept h f × AtRest f

  -- one access
  module _ (q : Register) (v : ℕ) (k : Fit h.n q v) (d : number_of q ≡ number_of (Only IntrState) → ⊥) (c : Clear q) (f : Handler) (s : Rests f) where
    no_ping : NoPingEvent f
    no_ping = inl s.1.off

    unwrong : Unwrong f
    unwrong = inr (unasked f s.1)

    in_f : in_map f.n q ≡ true
    in_f = ap (λ (n : ℕ). in_map n q) s.0.n ∙ k.exists

    zero_same : Same (Only IntrState) f f
    zero_same = record { kept = record { good = s.0.good; n = refl }; holds = refl; staged = refl }

    fit_f : Fit f.n q v
    fit_f = subst (λ (n : ℕ). Fit n q v) (sym s.0.n) k

    self : Kept f f
    self = record { good = s.0.good; n = refl }

    rests_by : (x : Ask) → value (reach f x) (Only PingEnable) ≡ 0 → value (reach f x) (Only IntrState) ≡ 0
        → ((j : ℕ) → j < class_count → state_of (class_at (reach f x) j).state ≡ Idle) → Rests (reach f x)
    rests_by x o z i = (
      reach_kept h f x s.0,
      record { off = o; interrupts = z; classes = i; senders = λ e m. rest_sender f x e s.0.good s.1 i m },
    )

    rests_write : wants f (write (number_of q) v) ≡ true → Rests (reach f (write (number_of q) v))
    rests_write g =
        rests_by (write (number_of q) v)
        (reach_value f s.0.good (Only PingEnable) refl (write (number_of q) v) refl (spares f s.0.good q v in_f k.takes (Only PingEnable) c.enable) ∙ s.1.off)
        ((quiet_write f f self q v fit_f c no_ping unwrong (Only IntrState) refl refl d zero_same g).holds ∙ s.1.interrupts)
        (λ j m. idle_write f f self q v fit_f c no_ping unwrong j m g d (calm_bit f j s.1.interrupts) (s.1.classes j m))

    rests_read : wants f (read (number_of q) v) ≡ true → Rests (reach f (read (number_of q) v))
    rests_read g =
        rests_by (read (number_of q) v)
        (reach_value f s.0.good (Only PingEnable) refl (read (number_of q) v) refl refl ∙ s.1.off)
        ((quiet_read f f self q v fit_f c no_ping unwrong (Only IntrState) refl refl d zero_same g).holds ∙ s.1.interrupts)
        (λ j m. idle_read f f self q v fit_f c no_ping unwrong j m g (calm_bit f j s.1.interrupts) (s.1.classes j m))

  rests_all : All (λ x. (f : Handler) → Rests f → wants f x ≡ true → Rests (reach f x)) (asks (plan_of l))
  unfolding number_of
  rests_all =
      all_asks (λ x. (f : Handler) → Rests f → wants f x ≡ true → Rests (reach f x)) (plan_of l) (λ e m.
      let k = sound_fit h.n (plan_of l) (plan_fits l h.n w.large) e m in
      let d = not_zero h.n e.register e.value (facts h w.good).n k in
      (rests_write e.register e.value k d (plan_clear l e m), rests_read e.register e.value k d (plan_clear l e m)))

  module _ (r : AtRest h) where
    start : Rests h
    start = (record { good = w.good; n = refl }, r)

    -- no sender waits for a 1 in any tick of it
    pub rest_quiet : NoPingEvent h × NoWrongEvent l h
    rest_quiet = (inl r.off, inr (λ i m. unasked _ (goes_along Rests (asks (plan_of l)) rests_all h start w.going i (omega (arith, m))).1))

    -- and it ends at rest
    pub rest_after : AtRest (install (under h) (asks (plan_of l))).reached.handler
    rest_after = (install_goes Rests (asks (plan_of l)) rests_all h start w.going).1

pub boot_at_rest : (l : Lifecycle) (h : Handler) → Success l h → AtRest h → AtRest (boot l h).handler
boot_at_rest l h s r =
    let w = went l h s in
    subst (λ (i : Installed). AtRest i.handler) (sym (begins l h w.good w.large)) (rest_after l h w r)

-- ── where a sender waits for a 1 ──

abbrev cause : Register
cause = Local Field.Cause 3

-- the CAUSE of local 3 after a tick
cause_after : (f : Handler) (x : Ask) → valid f ≡ true
    → value (reach f x) cause ≡ marked (occurs (acted f x.access) (hears f (input_of x)) 3) (value (acted f x.access) cause)
unfolding stepped value
cause_after f x t =
    ap (λ (h : Handler). value h cause) (ticked_handler f (input_of x) t)
    ∙ after_value f (input_of x) cause ∙ local_sampled (acted f x.access) (hears f (input_of x)) Field.Cause 3 (omega arith)

-- the pair (0,1) is wrong where its sender waits for a 1
is_wrong : (f : Handler) (x : Ask) (e : ℕ) → e < line_count → (sender f e).sound.answer ≡ true → line_wrong (acted f x.access) (input_of x).sample e ≡ true
unfolding line_wrong
is_wrong f x e l a =
    go (bit 0 e) (bit 15 e) (sender (acted f x.access) e).sound.answer (bit_none e) (bit_ones 4 e l)
    (ap (λ (z : Links). (sender_in z.senders e).sound.answer) (acted_links f x.access) ∙ a)
  where
    go : (p m a : Bool) → p ≡ false → m ≡ true → a ≡ true → (equal p m || differ p a) ≡ true
    go p m a b c d = rw (b, c, d) refl

module _ (h : Handler) where
  -- an access that leaves EN and CAUSE of local 3
  abbrev Spares : Ask → Type 0
  Spares x = (f : Handler) → Kept h f → (commits f x.access (Local Field.En 3) ≡ false) × (commits f x.access cause ≡ false)

  sets_cause : (f : Handler) (x : Ask) (e : ℕ) → Kept h f → Spares x → value f (Local Field.En 3) ≡ 1 → e < line_count → (sender f e).sound.answer ≡ true
      → value (reach f x) cause ≡ 1
  unfolding value
  sets_cause f x e k p n l a =
      cause_after f x k.good
      ∙ ap (λ (b : Bool). marked b (value (acted f x.access) cause))
      (local_3 f (input_of x)
      ∙ ap₂ ◌&&◌ (any_at (line_wrong (acted f x.access) (input_of x).sample) line_count e l (is_wrong f x e l a))
      (ap (λ (y : ℕ). eqb y 1) (acted_other f x.access (Local Field.En 3) (facts f k.good).n refl (p f k).0 ∙ n)))

  keeps_cause : (f : Handler) (x : Ask) → Kept h f → Spares x → value f cause ≡ 1 → value (reach f x) cause ≡ 1
  keeps_cause f x k p c =
      cause_after f x k.good
      ∙ ap (marked (occurs (acted f x.access) (hears f (input_of x)) 3)) (acted_other f x.access cause (facts f k.good).n refl (p f k).1 ∙ c)
      ∙ go (occurs (acted f x.access) (hears f (input_of x)) 3)
    where
      go : (b : Bool) → marked b 1 ≡ 1
      go true = refl
      go false = refl

  stays_set : (xs : List Ask) → All Spares xs → (f : Handler) → Kept h f → value f cause ≡ 1 → value (run f (inputs xs)) cause ≡ 1
  unfolding run
  stays_set [] none f k c = c
  stays_set (x ∷ xs) (more p ps) f k c = stays_set xs ps (reach f x) (reach_kept h f x k) (keeps_cause f x k p c)

  is_set : (xs : List Ask) → All Spares xs → (f : Handler) → Kept h f → value f (Local Field.En 3) ≡ 1 → (i e : ℕ) → i < length xs → e < line_count
      → (sender (run f (take i (inputs xs))) e).sound.answer ≡ true → value (run f (inputs xs)) cause ≡ 1
  unfolding run
  is_set [] ps f k n i e b l a = absurd (omega (arith, b))
  is_set (x ∷ xs) (more p ps) f k n zero e b l a = stays_set xs ps (reach f x) (reach_kept h f x k) (sets_cause f x e k p n l a)
  is_set (x ∷ xs) (more p ps) f k n (suc i) e b l a =
      is_set xs ps (reach f x) (reach_kept h f x k) (reach_value f k.good (Local Field.En 3) refl x refl (p f k).0 ∙ n) i e (omega (arith, b)) l a

-- local 3 has occurred after the boot
pub boot_wrong : (l : Lifecycle) (h : Handler) → Success l h → value h (Local Field.En 3) ≡ 1 → (i e : ℕ) → i < length (asks (plan_of l)) → e < line_count
    → (sender (run h (take i (inputs (asks (plan_of l))))) e).sound.answer ≡ true → value (boot l h).handler cause ≡ 1
boot_wrong l h s n i e b m a =
    ap (λ (r : Installed). value r.handler cause) (boot_ran l h s)
    ∙ is_set h (asks (plan_of l)) all h (record { good = w.good; n = refl }) n i e b m a
  where
    w : Went l h
    w = went l h s

    apart : (o : Register) → planned (number_of o) ≡ false → (d : Entry) → Among d (plan_of l) → number_of d.register ≡ number_of o → ⊥
    apart o p = unnamed_at o (plan_of l) (unplanned (plan_of l) o (plan_planned l) p)

    all : All (Spares h) (asks (plan_of l))
    all =
        all_asks (Spares h) (plan_of l) (λ d k.
        let u = sound_fit h.n (plan_of l) (plan_fits l h.n w.large) d k in (
          (λ f t.
              let r = ap (λ (j : ℕ). in_map j d.register) t.n ∙ u.exists in (
                spares f t.good d.register d.value r u.takes (Local Field.En 3) (apart (Local Field.En 3) (local_out Field.En 3 (omega arith)) d k),
                spares f t.good d.register d.value r u.takes cause (apart cause (local_out Field.Cause 3 (omega arith)) d k),
              )),
          (λ f t. (refl, refl)),
        ))

-- ── a new handler ──

pub new_rests : (n : ℕ) → AtRest (new_handler n)
unfolding new_handler value state_of
new_rests n =
    record {
      off = refl;
      interrupts = refl;
      classes = λ k l. idle k l;
      senders = sender_by (λ e. new_sender);
    }
  where
    idle : (k : ℕ) → k < class_count → state_of (class_at (new_handler n) k).state ≡ Idle
    idle zero l = refl
    idle (suc zero) l = refl
    idle (suc (suc zero)) l = refl
    idle (suc (suc (suc zero))) l = refl
    idle (suc (suc (suc (suc k)))) l = absurd (omega (arith, l))
