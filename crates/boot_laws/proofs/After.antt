-- After a success, from any accepted state: the handler stands as the table says, and no event came. After any boot: the rest is untouched.
-- Assumes nothing.
use Prim.Native.Nat.{ℕ, ◌≤◌, ◌<◌}
use mathlib.Core.Path.{◌≡◌, refl, sym, ap, ◌∙◌, subst}
use mathlib.Core.Bool.{Bool, true, false, ◌&&◌}
use mathlib.Core.Logic.{◌⊎◌, inl, inr}
use native.Mathlib.Omega.{arith}
use borrow.Author.Tests.{lt-ltb, ltb-false}
use lib.Dec.{eqb, ltb}
use lib.ListN.{length, take}
use Rattle.bits.proofs.IndexLaws.{true_and}
use Rattle.bits.specs.Bits.{bit}
use Rattle.class_rules.specs.Class.{en, lock}
use Rattle.laws.proofs.Access.RegisterFile.{acted_other}
use Rattle.laws.proofs.Map.Cases.{pick}
use Rattle.laws.proofs.Samples.AtRest.{none_happened}
use Rattle.laws.proofs.Samples.Heard.{heard_event_law}
use Rattle.laws.proofs.Tick.Causes.{after_cause}
use Rattle.laws.proofs.Valid.Refusal7.{ticked_handler}
use Rattle.laws.proofs.Valid.ValidLaws.{facts}
use Rattle.laws.specs.Frame.{moves_itself}
use Rattle.laws.specs.InMap.{in_map}
use Rattle.laws.specs.Quiet.{runs}
use Rattle.laws.specs.RegisterFile.{commits}
use Rattle.laws.specs.StageFile.{names}
use Rattle.rules.specs.Access.{value, acted, effects}
use Rattle.rules.specs.Map.{decode, number_of}
use Rattle.rules.specs.Run.{run}
use Rattle.rules.specs.Samples.{asks_for, marked, alert_enabled}
use Rattle.rules.specs.Stages.{stage}
use Rattle.rules.specs.State.{most, local_count, class_count, class_at}
use Rattle.rules.specs.Tick.{hears}
use Rattle.rules.specs.Valid.{valid}
use Rattle.rules.specs.declared.Field.{Field}
use Rattle.rules.specs.declared.Handler.{Handler}
use Rattle.rules.specs.declared.Register.{Register}
use Rattle.rules.specs.declared.Sample.{Sample}
use Rattle.rules.specs.declared.Register.TheVariants.{Only, Local, Alert, Block}
use Rattle.rules.specs.declared.Setting.TheVariants.{Ctrl, AccumCnt}
use Rattle.rules.specs.declared.Single.TheVariants.{IntrState, IntrEnable}
use Rattle.policy.specs.Install.{Ask, Entry, under, install, write, read, asks}
use Rattle.policy.specs.Plan.{locks, ctrl_of, alert_entries, class_entries, plan_of, boot}
use Rattle.boot_laws.specs.Boots.{booted}
use Rattle.boot_laws.specs.Ran.{input_of, inputs, wants, reach, Among}
use Rattle.boot_laws.specs.Ran.Among.{here, there}
use Rattle.policy.specs.Sound.{unnamed, sound, planned}
use Rattle.boot_laws.specs.Stands.{Success, Stands, Untouched, NoPingEvent, Unasked, NoWrongEvent, Eventless}
use Rattle.policy.specs.Table.{alert_count}
use Rattle.policy.specs.declared.Installed.{Installed}
use Rattle.policy.specs.declared.Lifecycle.{Lifecycle}
use Rattle.policy.specs.Progress.{Progress}
use Rattle.boot_laws.proofs.AskLaws.{install_keeps, install_goes_by, Kept, reach_kept, install_kept, install_run}
use Rattle.boot_laws.proofs.EntryLaws.{Fit, Settled, spares, other_name, reach_stage}
use Rattle.boot_laws.proofs.InstallLaws.{sound_fit, unnamed_at, moving_unnamed, all_asks, Same, same_start, install_frame, install_holds}
use Rattle.boot_laws.proofs.Members.{has_length, alert_part, class_part, lock_part, last_part}
use Rattle.policy.proofs.PlanLaws.{plan_planned}
use Rattle.boot_laws.proofs.NoPings.{Clear, Unwrong, plan_clear}
use Rattle.boot_laws.proofs.QuietLaws.{at_rest, quiet_write, quiet_read, pings_write, pings_read, three_write, three_read}
use Rattle.boot_laws.proofs.Unnamed.{unplanned, local_out, cause_out, other_out}
use Rattle.boot_laws.proofs.Boot.{plan_fits, begins, Went, went}

-- ── after a success, from any accepted state ──

module _ (l : Lifecycle) (h : Handler) (w : Went l h) where
  abbrev g : Handler
  g = (install (under h) (asks (plan_of l))).reached.handler

  fits_it : sound h.n (plan_of l) ≡ true
  fits_it = plan_fits l h.n w.large

  settled : (e : Entry) → Among e (plan_of l) → Settled e.register e.value g
  settled = install_holds h (plan_of l) w.good fits_it w.going

  holds : (e : Entry) → Among e (plan_of l) → value g e.register ≡ e.value
  holds e m = (settled e m).0

  -- class A has EN and LOCK where it is locked
  ctrl_bits : locks l ≡ true → (class_at g 0).ctrl ≡ ctrl_of l 0 → (en (class_at g 0) ≡ true) × (lock (class_at g 0) ≡ true)
  unfolding bit
  ctrl_bits t e =
      let d : ctrl_of l 0 ≡ 0x393F = rw t in
      let c : (class_at g 0).ctrl ≡ 0x393F = e ∙ d in (ap (λ (x : ℕ). bit x 0) c, ap (λ (x : ℕ). bit x 1) c)

  pub stands : Stands l g
  unfolding alert_entries class_entries value
  stands =
      record {
        class = λ i b. holds _ (alert_part l _ i b here);
        enable = λ i b. holds _ (alert_part l _ i b (there here));
        alert_locks = λ i b c d. holds _ (lock_part l i b c d);
        thresh = λ k b. holds _ (class_part l _ k b here);
        timeout = λ k b. holds _ (class_part l _ k b (there here));
        lengths = λ k p b c. holds _ (class_part l _ k b (has_length l k p c));
        ctrl = ctrl_is;
        class_locks = λ c. let d = ctrl_bits c (ctrl_is 0 (omega arith)) in (holds _ (last_part l c), d.0, d.1);
        unstaged = λ e m. (settled e m).1;
      }
    where
      ctrl_is : (k : ℕ) → k < class_count → value g (Block Ctrl k) ≡ ctrl_of l k
      ctrl_is k b = holds _ (class_part l _ k b (there (there (there (there (there (there here)))))))

  -- in each tick local 3 is disabled or no sender waits for a 1
  abbrev Quiet : Handler → Type 0
  Quiet f = (value h (Local Field.En 3) ≡ 0) ⊎ Unasked f

  quiets : NoWrongEvent l h → (i : ℕ) → i < length (asks (plan_of l)) → Quiet (run h (take i (inputs (asks (plan_of l)))))
  quiets (inl z) i b = inl z
  quiets (inr u) i b = inr (u i b)

  unwrong : (f : Handler) → Quiet f → value f (Local Field.En 3) ≡ value h (Local Field.En 3) → Unwrong f
  unwrong f (inl z) e = inl (e ∙ z)
  unwrong f (inr u) e = inr u

  -- what the plan does not name
  pub same : NoPingEvent h → NoWrongEvent l h → (o : Register) → in_map h.n o ≡ true → unnamed o (plan_of l) ≡ true → runs o ≡ false → Same o h g
  same p z o a u r =
      (install_goes_by Quiet I (asks (plan_of l))
      (all_asks (λ x. (f : Handler) → Quiet f → I f → wants f x ≡ true → I (reach f x)) (plan_of l) (λ e m.
      let k = sound_fit h.n (plan_of l) fits_it e m in
      let d = unnamed_at o (plan_of l) u e m in
      (by_write e.register e.value k d (plan_clear l e m), by_read e.register e.value k d (plan_clear l e m))))
      h (same_start o h w.good, p, refl) (quiets z) w.going).0
    where
      I : Handler → Type 0
      I f = Same o h f × NoPingEvent f × (value f (Local Field.En 3) ≡ value h (Local Field.En 3))

      by_write : (q : Register) (v : ℕ) → Fit h.n q v → (number_of q ≡ number_of o → ⊥) → Clear q → (f : Handler) → Quiet f → I f
          → wants f (write (number_of q) v) ≡ true → I (reach f (write (number_of q) v))
      by_write q v k d c f y i x =
          let n = unwrong f y i.2 in (
            quiet_write h f i.0.kept q v k c i.1 n o a r d i.0 x,
            pings_write h f i.0.kept q v k c i.1 n,
            three_write h f i.0.kept q v k c i.1 n ∙ i.2,
          )

      by_read : (q : Register) (v : ℕ) → Fit h.n q v → (number_of q ≡ number_of o → ⊥) → Clear q → (f : Handler) → Quiet f → I f
          → wants f (read (number_of q) v) ≡ true → I (reach f (read (number_of q) v))
      by_read q v k d c f y i x =
          let n = unwrong f y i.2 in (
            quiet_read h f i.0.kept q v k c i.1 n o a r d i.0 x,
            pings_read h f i.0.kept q v k c i.1 n,
            three_read h f i.0.kept q v k c i.1 n ∙ i.2,
          )

  -- what moves only with an event is as before: the plan names no register that moves by itself
  pub eventless : NoPingEvent h → NoWrongEvent l h → Eventless h g
  eventless p z =
      record {
        values = moved;
        interrupts = moved (Only IntrState) refl refl refl;
        local_causes = λ j b. moved (Local Field.Cause j) (lt-ltb j local_count b) refl refl;
        causes = λ i b. moved (Alert Field.Cause i) (lt-ltb i h.n b) refl refl;
        counts = λ k b. moved (Block AccumCnt k) (true_and (lt-ltb k class_count b) refl) refl refl;
      }
    where
      moved : (o : Register) → in_map h.n o ≡ true → moves_itself o ≡ true → runs o ≡ false → value g o ≡ value h o
      moved o a m r = (same p z o a (moving_unnamed h.n (facts h w.good).n (plan_of l) fits_it o a m) r).holds

-- ── what no boot moves ──

-- one tick of it leaves an alert's CAUSE
reach_cause : (f : Handler) (t : valid f ≡ true) (x : Ask) (i : ℕ) → i < f.n → commits f x.access (Alert Field.Cause i) ≡ false
    → value (reach f x) (Alert Field.Cause i) ≡ value f (Alert Field.Cause i)
unfolding hears
reach_cause f t x i b c =
    let m : f.n ≤ most = (facts f t).n in
    let g : Handler = acted f x.access in
    let s : Sample = (input_of x).sample in
    ap (λ (y : Handler). value y (Alert Field.Cause i)) (ticked_handler f (input_of x) t)
    ∙ after_cause f (input_of x) i m b
    ∙ ap (λ (e : Bool). marked (e && alert_enabled g i) (value g (Alert Field.Cause i)))
    (heard_event_law g s (effects f x.access) i (omega (arith, m, b))
    ∙ none_happened g (asks_for g s (effects f x.access)) s.alerts (at_rest x.access) i (omega (arith, m, b)))
    ∙ acted_other f x.access (Alert Field.Cause i) m (lt-ltb i f.n b) c

module _ (l : Lifecycle) (h : Handler) (t : valid h ≡ true) (large : alert_count ≤ h.n) where
  abbrev end : Handler
  end = (install (under h) (asks (plan_of l))).reached.handler

  -- a stage is as before where the plan does not name its register, though the register may move
  stage_same : (o : Register) → in_map h.n o ≡ true → unnamed o (plan_of l) ≡ true → stage end o ≡ stage h o
  stage_same o a u =
      (install_keeps I (asks (plan_of l))
      (all_asks (λ x. (f : Handler) → I f → I (reach f x)) (plan_of l) (λ e m.
      let k = sound_fit h.n (plan_of l) (plan_fits l h.n large) e m in
      let d = unnamed_at o (plan_of l) u e m in (
        next e.register e.value k d (write (number_of e.register) e.value) (λ f y. y),
        next e.register e.value k d (read (number_of e.register) e.value) (λ f y. y),
      )))
      (under h) (record { good = t; n = refl }, refl)).1
    where
      I : Handler → Type 0
      I f = Kept h f × (stage f o ≡ stage h o)

      next : (q : Register) (v : ℕ) → Fit h.n q v → (number_of q ≡ number_of o → ⊥) → (x : Ask)
          → ((f : Handler) → eqb (number_of (decode f.n (number_of q))) (number_of o) ≡ false → names f x.access o ≡ false)
          → (f : Handler) → I f → I (reach f x)
      next q v k d x y f i =
          let a' : in_map f.n o ≡ true = ap (λ (n : ℕ). in_map n o) i.0.n ∙ a in
          let b : in_map f.n q ≡ true = ap (λ (n : ℕ). in_map n q) i.0.n ∙ k.exists in
          (reach_kept h f x i.0, reach_stage f i.0.good o a' x (y f (other_name f i.0.good q v b k.takes o d)) ∙ i.1)

  -- no alert has an event, so that its CAUSE is as before
  cause_same : (i : ℕ) → i < h.n → value end (Alert Field.Cause i) ≡ value h (Alert Field.Cause i)
  cause_same i b =
      (install_keeps I (asks (plan_of l))
      (all_asks (λ x. (f : Handler) → I f → I (reach f x)) (plan_of l) (λ e m.
      let k = sound_fit h.n (plan_of l) (plan_fits l h.n large) e m in
      let d = unnamed_at q (plan_of l) (unplanned (plan_of l) q (plan_planned l) (cause_out i (omega (arith, b, (facts h t).n)))) e m in (
        (λ f j. next (write (number_of e.register) e.value) f j
            (spares f j.0.good e.register e.value (there_too e.register e.value k f j) k.takes q d)),
        (λ f j. next (read (number_of e.register) e.value) f j refl),
      )))
      (under h) (record { good = t; n = refl }, refl)).1
    where
      q : Register
      q = Alert Field.Cause i

      I : Handler → Type 0
      I f = Kept h f × (value f q ≡ value h q)

      there_too : (q : Register) (v : ℕ) → Fit h.n q v → (f : Handler) → I f → in_map f.n q ≡ true
      there_too q v k f j = ap (λ (n : ℕ). in_map n q) j.0.n ∙ k.exists

      next : (x : Ask) (f : Handler) → I f → commits f x.access q ≡ false → I (reach f x)
      next x f j c = (reach_kept h f x j.0, reach_cause f j.0.good x i (omega (arith, b, j.0.n)) c ∙ j.1)

  untouched : Untouched l h end
  unfolding number_of
  untouched =
      record {
        n = (install_kept h (under h) (asks (plan_of l)) (record { good = t; n = refl })).n;
        values = frame;
        stages = stage_same;
        enables = frame (Only IntrEnable) refl (free_of (Only IntrEnable) refl) refl;
        locals = λ f j b m. frame (Local f j) (lt-ltb j local_count b) (free_of (Local f j) (local_out f j b)) m;
        local_stages_law = λ f j b. stage_same (Local f j) (lt-ltb j local_count b) (free_of (Local f j) (local_out f j b));
        others = λ f i a b m. frame (Alert f i) (lt-ltb i h.n b) (free_of (Alert f i) (other_out f i a (below i b))) m;
        other_stages = λ f i a b. stage_same (Alert f i) (lt-ltb i h.n b) (free_of (Alert f i) (other_out f i a (below i b)));
        causes = cause_same;
      }
    where
      frame : (o : Register) → in_map h.n o ≡ true → unnamed o (plan_of l) ≡ true → moves_itself o ≡ false → value end o ≡ value h o
      frame o a u m = (install_frame h (plan_of l) o t (plan_fits l h.n large) a m u).holds

      free_of : (o : Register) → planned (number_of o) ≡ false → unnamed o (plan_of l) ≡ true
      free_of o p = unplanned (plan_of l) o (plan_planned l) p

      below : (i : ℕ) → i < h.n → i < most
      below i b = let m : h.n ≤ most = (facts h t).n in omega arith

-- ── in the words of the boot ──

module _ (l : Lifecycle) (h : Handler) (s : Success l h) where
  is_it : boot l h ≡ (install (under h) (asks (plan_of l))).reached
  is_it = let w = went l h s in begins l h w.good w.large

  -- all ticks of the plan ran
  pub boot_ran : boot l h ≡ booted l h
  boot_ran = is_it ∙ ap (λ (p : Progress). p.reached) (install_run h (asks (plan_of l)) (went l h s).going)

  -- each of the 58 alerts stands as the table says
  pub boot_stands : Stands l (boot l h).handler
  boot_stands = subst (λ (r : Installed). Stands l r.handler) (sym is_it) (stands l h (went l h s))

  -- and no event came
  pub boot_eventless : NoPingEvent h → NoWrongEvent l h → Eventless h (boot l h).handler
  boot_eventless p z = subst (λ (r : Installed). Eventless h r.handler) (sym is_it) (eventless l h (went l h s) p z)

-- of every boot, one that stops, and one that does not begin
pub boot_untouched : (l : Lifecycle) (h : Handler) → Untouched l h (boot l h).handler
unfolding boot
boot_untouched l h =
    pick (λ (r : Installed). Untouched l h r.handler) (valid h) _ _
    (λ t. pick (λ (r : Installed). Untouched l h r.handler) (ltb h.n alert_count) _ _ (λ _. itself)
    (λ e. untouched l h t (ltb-false h.n alert_count e)))
    (λ _. itself)
  where
    itself : Untouched l h h
    itself =
        record {
          n = refl;
          values = λ o a u m. refl;
          stages = λ o a u. refl;
          enables = refl;
          locals = λ f j b m. refl;
          local_stages_law = λ f j b. refl;
          others = λ f i a b m. refl;
          other_stages = λ f i a b. refl;
          causes = λ i b. refl;
        }
