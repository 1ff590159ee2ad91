-- Request (x), for the owner: from one state, and with all else equal, the tenant does not move the owner's class.
-- Assumes nothing.
use Prim.Native.Nat.{ℕ, zero, suc, ◌-◌, ◌≤◌, ◌<◌}
use mathlib.Core.Path.{◌≡◌, refl, sym, ap, ap₂, ◌∙◌}
use mathlib.Core.Logic.{◌⊎◌, inl, inr}
use mathlib.Core.Bool.{Bool, true, false, cond, ◌&&◌, ◌||◌, xor}
use mathlib.Core.List.{List}
use native.Mathlib.Omega.{arith}
use borrow.Author.Tests.{lt-ltb, not-true}
use lib.Dec.{eqb, ltb}
use lib.ListN.{length}
use Rattle.bits.specs.Bits.{bit}
use Rattle.bits.specs.Index.{any_to, place_in}
use Rattle.bits.proofs.IndexLaws.{any_ext, any_at, and-true}
use Rattle.class_rules.specs.Step.{class_event, starts}
use Rattle.escalation.proofs.ListTicks
use Rattle.escalation.proofs.ListTicks.{input, at_valid, at_next}
use Rattle.escalation.specs.List.{IsTick, before, input_at}
use Rattle.laws.proofs.Samples.Receivers.{happens_in_law, after_receiver}
use Rattle.laws.proofs.Map.Cases.{by_kind}
use Rattle.laws.proofs.Tick.Frame.{after_still, after_stage, after_n}
use Rattle.laws.proofs.Tick.InterruptBits.{after_enable}
use Rattle.laws.proofs.Tick.TimerOff.{none_asked, none_fails, none_failed}
use Rattle.laws.proofs.Tick.Turns.{local_3}
use Rattle.laws.proofs.Samples.Raises.{no_local}
use Rattle.laws.proofs.Access.RegisterFile.{acted_n}
use Rattle.laws.proofs.Valid.ValidLaws.{facts}
use Rattle.laws.specs.Block.{of_block}
use Rattle.laws.specs.Pinging.{asks_in, fails_in, given_in, closed_if}
use Rattle.link_rules.specs.Receiver.{received}
use Rattle.link_rules.specs.Timer.{opens, open_now, fails}
use Rattle.link_rules.specs.declared.Received.{Received}
use Rattle.link_rules.specs.declared.Receiver.{Receiver}
use Rattle.rules.specs.Access.{value, named, acted, effects}
use Rattle.rules.specs.Map.{decode, field_row}
use Rattle.rules.specs.Run.{run}
use Rattle.rules.specs.Samples.{positive, negative, timed, alert_event, occurs, assigned}
use Rattle.rules.specs.State.{class_count, local_count, local, alert, receiver, is_on}
use Rattle.rules.specs.Tick.{event, hears, happens_in, after}
use Rattle.rules.specs.Valid.{valid}
use Rattle.rules.specs.declared.Access.{Access}
use Rattle.rules.specs.declared.Access.TheVariants.{Nothing, Read, Write, Malformed}
use Rattle.rules.specs.declared.Field.{Field}
use Rattle.rules.specs.declared.Handler.{Handler}
use Rattle.rules.specs.declared.Heard.{Heard}
use Rattle.rules.specs.declared.Input.{Input}
use Rattle.rules.specs.declared.Register.{Register}
use Rattle.rules.specs.declared.Register.TheVariants.{Alert}
use Rattle.isolation.specs.Isolation.{SameTick, Alike, AlikeEnable}
use Rattle.isolation.specs.OwnAccess.{own}
use Rattle.isolation.specs.Owner.{may_name, by_tenant, reaches, alert_reaches, wrong_in, wrong_for, Apart, ButTenant, OnlyTenant, starts_in, Undisturbed}
use Rattle.isolation.proofs.Isolated.{isolation, by_index}
use Rattle.isolation.proofs.Own.{both, same_acted}
use Rattle.isolation.proofs.Shared.{Shared, f_small}
use Rattle.isolation.proofs.Tenant.{may_name_law, shared_acted}
use Rattle.isolation.proofs.TickEqual.{Equal, equal_read, equal_met, equal_after}

-- ── step 1: the tenant's access names no register of class k's block ──

other_block : (k : ℕ) (his : ℕ → Bool) (q : Register) → may_name k his q ≡ true → of_block k q ≡ false
other_block k his q =
    by_kind (λ q. may_name k his q ≡ true → of_block k q ≡ false) (λ o e. refl) (λ f j e. refl) (λ f i e. refl)
    (λ s j. not-true (eqb k j)) (λ e. refl) q

tenant_own : (k : ℕ) (his : ℕ → Bool) (g : Handler) (x : Access) → by_tenant k his g x ≡ true → own g x k ≡ Nothing
tenant_own k his g x e = ap (λ (b : Bool). cond b x Nothing) (other_block k his (named g x) (may_name_law k his g x e))

-- the same access names the same in both
same_own : (k : ℕ) (g f : Handler) (x : Access) → g.n ≡ f.n → own g x k ≡ own f x k
same_own k g f Nothing e = refl
same_own k g f (Read r) e = ap (λ (n : ℕ). cond (of_block k (decode n r)) (Read r) Nothing) e
same_own k g f (Write r v) e = ap (λ (n : ℕ). cond (of_block k (decode n r)) (Write r v) Nothing) e
same_own k g f Malformed e = refl

-- ── step 2, of the states g and f after step 1 ──

-- an alert that is disabled or assigned to another class gives class k no event
no_event : (k : ℕ) (g : Handler) (v : Heard) (i : ℕ) → alert_reaches k g i ≡ false → (alert_event g v i && eqb (alert g Field.Class i) k) ≡ false
unfolding alert_event
no_event k g v i e = go (ltb i g.n) (place_in v.events i) (eqb (alert g Field.En i) 1) (eqb (alert g Field.Class i) k) e
  where
    go : (a b c d : Bool) → (c && d) ≡ false → ((a && (b && c)) && d) ≡ false
    go true true c d e = e
    go true false c d e = refl
    go false b c d e = refl

-- where none of the tenant's is assigned to class k, and the others' events are the same, the same alerts' events are
module _ (k : ℕ) (his : ℕ → Bool) (g f : Handler) (v w : Heard) (s : Shared k his g f)
    (events : (i : ℕ) → his i ≡ false → i < g.n → place_in v.events i ≡ place_in w.events i) where
  same_alert : (i : ℕ) → his i ≡ false → i < g.n → alert_event g v i ≡ alert_event f w i
  unfolding alert_event
  same_alert i e l =
      ap₂ (λ (n : ℕ) (c : ℕ). ltb i n && (place_in v.events i && eqb c 1)) s.n (s.fields Field.En i e l refl)
      ∙ ap (λ (b : Bool). ltb i f.n && (b && eqb (alert f Field.En i) 1)) (events i e l)

  alerts_same : ((i : ℕ) → i < g.n → his i ≡ true → alert_reaches k g i ≡ false) → ((i : ℕ) → i < f.n → his i ≡ true → alert_reaches k f i ≡ false)
      → (i : ℕ) → i < g.n → (alert_event g v i && eqb (alert g Field.Class i) k) ≡ (alert_event f w i && eqb (alert f Field.Class i) k)
  alerts_same apart_g apart_f i l = go (his i) refl
    where
      go : (b : Bool) → his i ≡ b → (alert_event g v i && eqb (alert g Field.Class i) k) ≡ (alert_event f w i && eqb (alert f Field.Class i) k)
      go true e =
          no_event k g v i (apart_g i l e) ∙ sym (no_event k f w i (apart_f i (omega (arith, s.n)) e))
      go false e = ap₂ (λ (t : Bool) (c : ℕ). t && eqb c k) (same_alert i e l) (s.fields Field.Class i e l refl)

-- no ping fails, or what it raises is not in class k
abbrev FailsNone : ℕ → Handler → Input → Type 0
FailsNone k h x =
    (fails (timed (acted h x.access) x.sample (effects h x.access)) (acted h x.access).links.turn ≡ false)
    ⊎ ((reaches k (acted h x.access) 0 ≡ false) × (reaches k (acted h x.access) 1 ≡ false))

fails_none : (k : ℕ) (his : ℕ → Bool) (h : Handler) (x : Input) → valid h ≡ true → Apart k his h x → FailsNone k h x
unfolding fails open_now opens
fails_none k his h x v a = go a.failing
  where
    go : (is_on h ≡ false) ⊎ ((reaches k (acted h x.access) 0 ≡ false) × (reaches k (acted h x.access) 1 ≡ false))
        → FailsNone k h x
    go (inl o) = inl (none_fails h x v o (acted h x.access).links.turn)
    go (inr e) = inr e

-- of two tests that do not both hold, one does not
one_fails : (a b : Bool) → (a && b) ≡ false → (a ≡ false) ⊎ (b ≡ false)
one_fails true b e = inr e
one_fails false b e = inl refl

-- so of the local alerts local 3 alone may occur in class k, where a receive pair is wrong for it
locals_are : (k : ℕ) (his : ℕ → Bool) (h : Handler) (x : Input) → valid h ≡ true → Apart k his h x
    → any_to (λ j. occurs (acted h x.access) (hears h x) j && eqb (local (acted h x.access) Field.Class j) k) local_count ≡ wrong_for k h x
unfolding hears
locals_are k his h x v a = go (wrong_for k h x) refl
  where
    g : Handler
    g = acted h x.access

    go : (b : Bool) → wrong_for k h x ≡ b → any_to (λ j. occurs g (hears h x) j && eqb (local g Field.Class j) k) local_count ≡ b
    go true e =
        let p = and-true (wrong_in h x) (reaches k g 3) e in
        let q = and-true (eqb (local g Field.En 3) 1) (eqb (local g Field.Class 3) k) p.1 in
        any_at (λ j. occurs g (hears h x) j && eqb (local g Field.Class j) k) local_count 3 (omega arith)
        (ap₂ ◌&&◌ (local_3 h x ∙ ap₂ ◌&&◌ p.0 q.0) q.1)
    go false e =
        no_local h x.access g x.sample k (fails_none k his h x v a) (one_fails (wrong_in h x) (reaches k g 3) e) a.local_2 a.local_5

-- ── one tick of each run ──

module _ (k : ℕ) (his : ℕ → Bool) (g : Handler) (x : Input) (f : Handler) (y : Input) (l : k < class_count) (s : Shared k his g f) (q : Equal k g f)
    (v : valid g ≡ true) (w : valid f ≡ true) (t : ButTenant k his g x f y) where
  abbrev g1 : Handler
  g1 = acted g x.access

  abbrev f1 : Handler
  f1 = acted f y.access

  read : Shared k his g1 f1
  read = shared_acted k his g f s l x.access y.access t.access

  owns : own g x.access k ≡ own f y.access k
  owns = go t.access
    where
      go : (x.access ≡ y.access) ⊎ ((by_tenant k his g x.access ≡ true) × (by_tenant k his f y.access ≡ true)) → own g x.access k ≡ own f y.access k
      go (inl e) = same_own k g f x.access s.n ∙ ap (λ (a : Access). own f a k) e
      go (inr e) = tenant_own k his g x.access e.0 ∙ sym (tenant_own k his f y.access e.1)

  -- the ping of an alert that is not the tenant's opens in both or in neither, and fails so
  pinged : (i : ℕ) → his i ≡ false → i < g.n → (asks_in g x i ≡ asks_in f y i) × (fails_in g x i ≡ fails_in f y i)
  pinged i e j = go t.pings
    where
      go : ((is_on g ≡ false) × (is_on f ≡ false))
          ⊎ ((i : ℕ) → i < g.n → his i ≡ false → (asks_in g x i ≡ asks_in f y i) × (fails_in g x i ≡ fails_in f y i))
          → (asks_in g x i ≡ asks_in f y i) × (fails_in g x i ≡ fails_in f y i)
      go (inl o) = (
        none_asked g x v o.0 i ∙ sym (none_asked f y w o.1 i),
        none_failed g x v o.0 i ∙ sym (none_failed f y w o.1 i),
      )
      go (inr p) = p i j e

  -- the receiver of an alert that is not the tenant's is given the same in both, and gives the same
  same_received : (i : ℕ) → his i ≡ false → i < g.n → received (given_in g x i) (receiver g i) ≡ received (given_in f y i) (receiver f i)
  same_received i e j =
      ap₂ (λ (a p : Bool). received (record { asks = a; pos = p; neg = negative x.sample.alerts i }) (receiver g i)) (pinged i e j).0 (t.pos i j e)
      ∙ ap₂ (λ (m : Bool) (r : Receiver). received (record { asks = asks_in f y i; pos = positive y.sample.alerts i; neg = m }) r)
      (t.neg i j e) (s.receivers i e j)

  events : (i : ℕ) → his i ≡ false → i < g1.n → happens_in g x i ≡ happens_in f y i
  events i e m =
      let j : i < g.n = omega (arith, acted_n g x.access) in
      happens_in_law g x i s.small j ∙ ap (λ (r : Received). r.event) (same_received i e j) ∙ sym (happens_in_law f y i (f_small k his g f s) (omega (arith, s.n)))

  same_assigned : assigned g1 (hears g x) k ≡ assigned f1 (hears f y) k
  unfolding assigned hears
  same_assigned =
      ap₂ ◌||◌
      (any_ext (λ i. alert_event g1 (hears g x) i && eqb (alert g1 Field.Class i) k) (λ i. alert_event f1 (hears f y) i && eqb (alert f1 Field.Class i) k) g1.n
      (alerts_same k his g1 f1 (hears g x) (hears f y) read events
      (λ i m. t.apart.0.alerts i (omega (arith, acted_n g x.access))) (λ i m. t.apart.1.alerts i (omega (arith, acted_n f y.access))))
      ∙ ap (λ (n : ℕ). any_to (λ i. alert_event f1 (hears f y) i && eqb (alert f1 Field.Class i) k) n) read.n)
      (locals_are k his g x v t.apart.0 ∙ t.wrong ∙ sym (locals_are k his f y w t.apart.1))

  -- class k is treated alike
  pub tick_alike : SameTick k g x f y
  unfolding event
  tick_alike =
      record {
        same_event = ap₂ class_event same_assigned
            (same_acted g f k l q.class q.stages x.access y.access (both g f k (f_small k his g f s) x.access y.access owns));
        same_access = owns;
        same_change = ap₂ xor s.bit_k read.bit_k;
      }

  pub tick_equal : Equal k (after g x) (after f y)
  tick_equal = equal_after k g x f y l (f_small k his g f s) q tick_alike

  -- its escalation starts in both or in none
  pub tick_starts : starts_in k g x ≡ starts_in k f y
  tick_starts = ap₂ starts (equal_met k g x f y l (f_small k his g f s) q tick_alike) (equal_read k g x f y l (f_small k his g f s) q tick_alike).class

  pub change_enable : xor (bit g.interrupts.enable k) (bit g1.interrupts.enable k) ≡ xor (bit f.interrupts.enable k) (bit f1.interrupts.enable k)
  change_enable = ap₂ xor s.enable_k read.enable_k

  frame : (h : Handler) (z : Input) (d : Field) (i : ℕ) → i < h.n → (field_row d).moves ≡ false → alert (after h z) d i ≡ alert (acted h z.access) d i
  unfolding value
  frame h z d i m e = after_still h z (Alert d i) (lt-ltb i h.n m) e

  pub shared_after : Shared k his (after g x) (after f y)
  shared_after =
      record {
        small = omega (arith, s.small, after_n g x);
        n = after_n g x ∙ s.n ∙ sym (after_n f y);
        fields = λ d i e m u. let j : i < g.n = omega (arith, after_n g x) in
            frame g x d i j u ∙ read.fields d i e (omega (arith, acted_n g x.access)) u ∙ sym (frame f y d i (omega (arith, s.n)) u);
        stages = λ d i e m. let j : i < g.n = omega (arith, after_n g x) in
            after_stage g x (Alert d i) ∙ read.stages d i e (omega (arith, acted_n g x.access)) ∙ sym (after_stage f y (Alert d i));
        receivers = λ i e m. let j : i < g.n = omega (arith, after_n g x) in
            after_receiver g x i s.small j ∙ ap₂ (λ (b : Bool) (r : Received). closed_if b r.receiver) (pinged i e j).1 (same_received i e j)
            ∙ sym (after_receiver f y i (f_small k his g f s) (omega (arith, s.n)));
        bit_k = tick_equal.bit_k;
        enable_k = ap (λ (o : ℕ). bit o k) (after_enable g x) ∙ read.enable_k ∙ sym (ap (λ (o : ℕ). bit o k) (after_enable f y));
      }

-- ── the two runs ──

module _ (k : ℕ) (his : ℕ → Bool) (first : ℕ) (h : Handler) (xs ys : List Input) (l : k < class_count) (v : valid h ≡ true) (n : length xs ≡ length ys)
    (t : OnlyTenant k his first h xs ys) where
  abbrev Both : ℕ → Type 0
  Both i = Shared k his (ListTicks.at h xs i) (ListTicks.at h ys i) × Equal k (ListTicks.at h xs i) (ListTicks.at h ys i)

  but_at : (i : ℕ) → i < length xs → ButTenant k his (ListTicks.at h xs i) (input xs i) (ListTicks.at h ys i) (input ys i)
  but_at = by_index first xs (λ i. ButTenant k his (ListTicks.at h xs i) (input xs i) (ListTicks.at h ys i) (input ys i)) t

  step : (i : ℕ) → i < length xs → Both i
      → Shared k his (after (ListTicks.at h xs i) (input xs i)) (after (ListTicks.at h ys i) (input ys i))
      × Equal k (after (ListTicks.at h xs i) (input xs i)) (after (ListTicks.at h ys i) (input ys i))
  step i m p = (
    shared_after k his (ListTicks.at h xs i) (input xs i) (ListTicks.at h ys i) (input ys i) l p.0 p.1 (at_valid h xs v i) (at_valid h ys v i) (but_at i m),
    tick_equal k his (ListTicks.at h xs i) (input xs i) (ListTicks.at h ys i) (input ys i) l p.0 p.1 (at_valid h xs v i) (at_valid h ys v i) (but_at i m),
  )

  both_at : (i : ℕ) → i ≤ length xs → Both i
  unfolding run
  both_at zero m = (
    record { small = (facts h v).n; n = refl; fields = λ d i e j u. refl; stages = λ d i e j. refl; receivers = λ i e j. refl; bit_k = refl; enable_k = refl },
    record { class = refl; stages = refl; bit_k = refl },
  )
  both_at (suc i) m = rw (at_next h xs v i m, at_next h ys v i (omega arith)) (step i m (both_at i (omega arith)))

  alike : Alike k first h xs h ys
  alike =
      record {
        same_class = refl;
        same_stages = refl;
        same_bit = refl;
        same_tick = λ j m. let i : ℕ = j - first in let p = both_at i (omega (arith, m.from, m.to)) in
            tick_alike k his (ListTicks.at h xs i) (input xs i) (ListTicks.at h ys i) (input ys i) l p.0 p.1 (at_valid h xs v i) (at_valid h ys v i) (t j m);
      }

  alike_enable : AlikeEnable k first h xs h ys
  alike_enable =
      record {
        same_enable = refl;
        same_change = λ j m. let i : ℕ = j - first in let p = both_at i (omega (arith, m.from, m.to)) in
            change_enable k his (ListTicks.at h xs i) (input xs i) (ListTicks.at h ys i) (input ys i) l p.0 p.1 (at_valid h xs v i) (at_valid h ys v i) (t j m);
      }

  start : (j : ℕ) → IsTick first xs j → starts_in k (before first h xs j) (input_at first xs j) ≡ starts_in k (before first h ys j) (input_at first ys j)
  start j m =
      let i : ℕ = j - first in let p = both_at i (omega (arith, m.from, m.to)) in
      tick_starts k his (ListTicks.at h xs i) (input xs i) (ListTicks.at h ys i) (input ys i) l p.0 p.1 (at_valid h xs v i) (at_valid h ys v i) (t j m)

-- the claim of specs/Owner.antt, of every accepted state and every two lists of one length
pub undisturbed : (k : ℕ) (his : ℕ → Bool) (first : ℕ) (h : Handler) (xs ys : List Input)
    → k < class_count → valid h ≡ true → length xs ≡ length ys → OnlyTenant k his first h xs ys → Undisturbed k first h xs ys
undisturbed k his first h xs ys l v n t =
    let c = isolation k first h xs h ys l v v n in
    let a = alike k his first h xs ys l v n t in
    record {
      start = start k his first h xs ys l v n t;
      class = c.class a;
      interrupt = c.interrupt a (alike_enable k his first h xs ys l v n t);
      answer = c.answer a;
    }
