-- Requests (viii) and (ix): the alerts' receivers through a boot, whose ticks have all wires at (0,1) and do not set register 6.
-- Assumes nothing.
use Prim.Native.Nat.{ℕ, ◌-◌, ◌≤◌, ◌<◌}
use mathlib.Core.Path.{◌≡◌, refl, sym, ap, ap₂, ◌∙◌, subst}
use mathlib.Core.Bool.{Bool, true, false, not, ◌&&◌, ◌||◌}
use mathlib.Core.List.{List, [], ◌∷◌}
use native.Mathlib.Omega.{arith}
use borrow.Author.Tests.{leb-true, ltb-false}
use lib.Dec.{eqb, ltb, leb}
use lib.ListN.{length}
use Rattle.bits.proofs.IndexLaws.{and-true}
use Rattle.laws.proofs.Map.Cases.{pick}
use Rattle.laws.proofs.Samples.Receivers.{happens_in_law, after_receiver}
use Rattle.laws.proofs.State.Above.{new_receiver_law}
use Rattle.laws.proofs.Tick.Frame.{after_n}
use Rattle.laws.proofs.Tick.TimerOff.{none_asked, off_receiver}
use Rattle.laws.proofs.Valid.KeepsValid.{ticked_valid}
use Rattle.laws.proofs.Valid.Refusal7.{ticked_handler, ticked_bad}
use Rattle.laws.proofs.Valid.ValidLaws.{facts}
use Rattle.laws.specs.Pinging.{asks_in, given_in}
use Rattle.link_rules.proofs.ReceiverLaws.{same_receiver, received_stands, rest_ready}
use Rattle.link_rules.proofs.Resting.{left, left_after, left_most, none_left, rested, received_rest}
use Rattle.link_rules.specs.Pair.{rises}
use Rattle.link_rules.specs.Receiver.{new_receiver, is_ready, stands_after, asked_for, received}
use Rattle.link_rules.specs.declared.Handshake.{Handshake}
use Rattle.link_rules.specs.declared.Handshake.TheVariants.{Ready}
use Rattle.link_rules.specs.declared.Receiver.{Receiver}
use Rattle.rules.specs.Access.{value}
use Rattle.rules.specs.Map.{number_of, is_shadowed}
use Rattle.rules.specs.Run.{run}
use Rattle.rules.specs.Samples.{positive, negative}
use Rattle.rules.specs.State.{most, new_handler, receiver, is_on}
use Rattle.rules.specs.Tick.{ticked, happens_in}
use Rattle.rules.specs.Valid.{valid}
use Rattle.rules.specs.declared.Access.{Access}
use Rattle.rules.specs.declared.Handler.{Handler}
use Rattle.rules.specs.declared.Input.{Input}
use Rattle.rules.specs.declared.Register.TheVariants.{Only}
use Rattle.rules.specs.declared.Single.TheVariants.{PingEnable}
use Rattle.rules.specs.declared.Ticked.{Ticked}
use Rattle.policy.proofs.PlanLaws.{plan_planned}
use Rattle.policy.specs.Install.{Ask, rest, under, install, write, read, asks_of, asks}
use Rattle.policy.specs.Plan.{alert_entries, class_entries, lock_entries, class_lock, parts_to, plan_of, boot}
use Rattle.policy.specs.Sound.{planned}
use Rattle.policy.specs.Table.{alert_count, mark_at}
use Rattle.policy.specs.declared.Installed.{Installed}
use Rattle.policy.specs.declared.Lifecycle.{Lifecycle}
use Rattle.boot_laws.specs.Ran.{reach, inputs}
use Rattle.boot_laws.specs.Stands.{Success, Linked}
use Rattle.boot_laws.proofs.After.{boot_ran, boot_untouched}
use Rattle.boot_laws.proofs.AnyBoot.{boot_rests, boot_valid, boot_above}
use Rattle.boot_laws.proofs.AskLaws.{install_keeps}
use Rattle.boot_laws.proofs.Boot.{plan_fits, went}
use Rattle.boot_laws.proofs.InstallLaws.{sound_fit, all_asks, Same, same_start, same_write, same_read}
use Rattle.boot_laws.proofs.NoPings.{plan_clear}
use Rattle.boot_laws.proofs.QuietLaws.{at_rest}
use Rattle.boot_laws.proofs.Unnamed.{unplanned}

-- ── one tick ──

-- where a receiver stands goes by its wires alone
tick_stands : (g : Handler) (x : Access) (i : ℕ) → valid g ≡ true → i < g.n
    → (receiver (ticked g (rest x)).handler i).stands ≡ stands_after (receiver g i).stands false true
tick_stands g x i t l =
    let m : g.n ≤ most = (facts g t).n in
    let b : i < most = omega (arith, m, l) in
    ap (λ (y : Handler). (receiver y i).stands) (ticked_handler g (rest x) t)
    ∙ ap (λ (r : Receiver). r.stands) (after_receiver g (rest x) i m l)
    ∙ received_stands (given_in g (rest x) i) (receiver g i)
    ∙ ap₂ (stands_after (receiver g i).stands) ((at_rest x).low i b) ((at_rest x).high i b)

-- while register 6 is 0 its ping pair and its ping stay
tick_rests : (g : Handler) (x : Access) (i : ℕ) → valid g ≡ true → is_on g ≡ false → i < g.n → receiver (ticked g (rest x)).handler i ≡ rested (receiver g i)
tick_rests g x i t o l =
    let b : i < most = omega (arith, (facts g t).n, l) in
    ap (λ (y : Handler). receiver y i) (ticked_handler g (rest x) t) ∙ off_receiver g (rest x) t o i l
    ∙ ap₂ (λ (p m : Bool). (received (record { asks = false; pos = p; neg = m }) (receiver g i)).receiver) ((at_rest x).low i b) ((at_rest x).high i b)
    ∙ received_rest (receiver g i)

tick_n : (g : Handler) (x : Access) → valid g ≡ true → (ticked g (rest x)).handler.n ≡ g.n
tick_n g x t = ap (λ (y : Handler). y.n) (ticked_handler g (rest x) t) ∙ after_n g (rest x)

-- ── of any boot: what is ready stays so ──

record Held (h g : Handler) : Type 0 where
  n : g.n ≡ h.n
  stays_ready : (i : ℕ) → i < h.n → (receiver h i).stands ≡ Ready → (receiver g i).stands ≡ Ready

tick_holds : (h g : Handler) (x : Access) → Held h g → Held h (ticked g (rest x)).handler
tick_holds h g x a = go (valid g) refl
  where
    go : (b : Bool) → valid g ≡ b → Held h (ticked g (rest x)).handler
    go true t =
        record {
          n = tick_n g x t ∙ a.n;
          stays_ready = λ i l d.
              tick_stands g x i t (omega (arith, l, a.n)) ∙ ap (λ (s : Handshake). stands_after s false true) (a.stays_ready i l d) ∙ rest_ready;
        }
    go false t = subst (Held h) (ap (λ (y : Ticked). y.handler) (sym (ticked_bad g (rest x) t))) a

boot_held : (l : Lifecycle) (h : Handler) → Held h (boot l h).handler
boot_held l h = boot_rests (Held h) (tick_holds h) l h (record { n = refl; stays_ready = λ i b d. d })

-- ── of any boot that begins with register 6 at 0: levels and pings are as before ──

is_off : (h : Handler) → value h (Only PingEnable) ≡ 0 → is_on h ≡ false
unfolding value
is_off h z = ap (λ (n : ℕ). eqb n 1) z

module _ (h : Handler) (z : value h (Only PingEnable) ≡ 0) where
  record Off (g : Handler) : Type 0 where
    same : Same (Only PingEnable) h g
    levels : (i : ℕ) → i < h.n → (receiver g i).level ≡ (receiver h i).level
    pings : (i : ℕ) → i < h.n → (receiver g i).pending ≡ (receiver h i).pending

  reach_off : (x : Ask) (f : Handler) → Off f → Same (Only PingEnable) h (reach f x) → Off (reach f x)
  reach_off x f o s =
      let v = o.same.kept in
      let now : (i : ℕ) → i < h.n → receiver (reach f x) i ≡ rested (receiver f i) =
      λ i l. tick_rests f x.access i v.good (is_off f (o.same.holds ∙ z)) (omega (arith, l, v.n)) in
      record {
        same = s;
        levels = λ i l. ap (λ (y : Receiver). y.level) (now i l) ∙ o.levels i l;
        pings = λ i l. ap (λ (y : Receiver). y.pending) (now i l) ∙ o.pings i l;
      }

  start : valid h ≡ true → Off h
  start t = record { same = same_start (Only PingEnable) h t; levels = λ i l. refl; pings = λ i l. refl }

  install_off : (l : Lifecycle) → valid h ≡ true → alert_count ≤ h.n → Off (install (under h) (asks (plan_of l))).reached.handler
  install_off l t a =
      install_keeps Off (asks (plan_of l))
      (all_asks (λ x. (f : Handler) → Off f → Off (reach f x)) (plan_of l) (λ e m.
      let k = sound_fit h.n (plan_of l) (plan_fits l h.n a) e m in
      let d = (plan_clear l e m).enable in (
        (λ f o. reach_off (write (number_of e.register) e.value) f o (same_write h (Only PingEnable) refl refl e.register e.value k d f o.same)),
        (λ f o. reach_off (read (number_of e.register) e.value) f o (same_read h (Only PingEnable) refl refl e.register e.value k d f o.same)),
      )))
      (under h) (start t)

  -- one that does not begin leaves all
  abbrev As : Handler → Type 0
  As g = ((i : ℕ) → i < h.n → (receiver g i).level ≡ (receiver h i).level) × ((i : ℕ) → i < h.n → (receiver g i).pending ≡ (receiver h i).pending)

  boot_off : (l : Lifecycle) → As (boot l h).handler
  unfolding boot
  boot_off l =
      pick (λ (r : Installed). As r.handler) (valid h) _ _
      (λ t. pick (λ (r : Installed). As r.handler) (ltb h.n alert_count) _ _ (λ _. (λ i b. refl, λ i b. refl))
      (λ e. let o = install_off l t (ltb-false h.n alert_count e) in (o.levels, o.pings)))
      (λ _. (λ i b. refl, λ i b. refl))

pub boot_linked : (l : Lifecycle) (h : Handler) → Linked h (boot l h).handler
boot_linked l h = record { levels = λ z. (boot_off h z l).0; pings = λ z. (boot_off h z l).1; stays_ready = (boot_held l h).stays_ready }

-- ── after a success ──

-- each tick takes one off what is left
run_left : (h : Handler) (xs : List Ask) (i : ℕ) → valid h ≡ true → i < h.n
    → left (receiver (run h (inputs xs)) i).stands ≡ left (receiver h i).stands - length xs
unfolding run
run_left h [] i t l = omega arith
run_left h (a ∷ xs) i t l =
    let g : Handler = (ticked h (rest a.access)).handler in
    let e : left (receiver g i).stands ≡ left (receiver h i).stands - 1 =
    ap left (tick_stands h a.access i t l) ∙ left_after (receiver h i).stands in
    let r = run_left g xs i (ticked_valid h (rest a.access) t) (omega (arith, l, tick_n h a.access t)) in
    omega (arith, e, r)

-- a plan has more ticks than that
longer : (l : Lifecycle) → leb 3 (length (asks (plan_of l))) ≡ true
unfolding asks asks_of plan_of parts_to alert_entries class_entries lock_entries class_lock mark_at number_of is_shadowed
longer Lifecycle.Raw = refl
longer Lifecycle.Prod = refl
longer Lifecycle.ProdEnd = refl
longer Lifecycle.Dev = refl
longer Lifecycle.Rma = refl
longer Lifecycle.Scrap = refl

long : (l : Lifecycle) → 3 ≤ length (asks (plan_of l))
long l = leb-true 3 (length (asks (plan_of l))) (longer l)

-- the plan does not name register 6
six_out : planned (number_of (Only PingEnable)) ≡ false
unfolding number_of
six_out = refl

-- an accepted state has no open ping while register 6 is 0
none_open : (g : Handler) → valid g ≡ true → is_on g ≡ false → (i : ℕ) → i < g.n → (receiver g i).pending ≡ false
none_open g t o i l = go (receiver g i).pending refl
  where
    go : (b : Bool) → (receiver g i).pending ≡ b → b ≡ false
    go true e = sym (and-true (is_on g) _ ((facts g t).pings.alert i l e)).0 ∙ o
    go false e = refl

module _ (l : Lifecycle) (h : Handler) (s : Success l h) where
  pub boot_ready : (i : ℕ) → i < h.n → (receiver (boot l h).handler i).stands ≡ Ready
  boot_ready i b =
      let r = run_left h (asks (plan_of l)) i (went l h s).good b in
      let e : left (receiver (run h (inputs (asks (plan_of l)))) i).stands ≡ 0 = omega (arith, r, long l, left_most (receiver h i).stands) in
      ap (λ (y : Installed). (receiver y.handler i).stands) (boot_ran l h s) ∙ none_left (receiver (run h (inputs (asks (plan_of l)))) i).stands e

  -- a receiver that is ready, with no ping open or opening, takes a rise, and that is an event
  pub boot_rise : (x : Input) (i : ℕ) → i < h.n → rises (positive x.sample.alerts i) (negative x.sample.alerts i) ≡ true
      → (receiver (boot l h).handler i).pending ≡ false → asks_in (boot l h).handler x i ≡ false → happens_in (boot l h).handler x i ≡ true
  unfolding received asked_for
  boot_rise x i b e p a =
      let g : Handler = (boot l h).handler in
      let m : g.n ≤ most = (facts g (boot_valid l h (went l h s).good)).n in
      let n : g.n ≡ h.n = (boot_above l h).n in
      happens_in_law g x i m (omega (arith, b, n))
      ∙ ap₂ (λ (q : Handshake) (r : Bool). (is_ready q && r) && not (asks_in g x i || (receiver g i).pending)) (boot_ready i b) e
      ∙ ap₂ (λ (q r : Bool). not (q || r)) a p

  -- while register 6 is 0 none is open and none opens
  pub off_rise : value h (Only PingEnable) ≡ 0 → (x : Input) (i : ℕ) → i < h.n
      → rises (positive x.sample.alerts i) (negative x.sample.alerts i) ≡ true → happens_in (boot l h).handler x i ≡ true
  off_rise z x i b e =
      let g : Handler = (boot l h).handler in
      let t = boot_valid l h (went l h s).good in
      let n : g.n ≡ h.n = (boot_above l h).n in
      let o : is_on g ≡ false = is_off g ((boot_untouched l h).values (Only PingEnable) refl (unplanned (plan_of l) (Only PingEnable) (plan_planned l) six_out) refl ∙ z) in
      boot_rise x i b e (none_open g t o i (omega (arith, b, n))) (none_asked g x t o i)

-- ── a new handler ──

new_off : (n : ℕ) → value (new_handler n) (Only PingEnable) ≡ 0
unfolding new_handler value
new_off n = refl

-- refused or not, its receivers are as they were
pub boot_new : (l : Lifecycle) (n i : ℕ) → i < n → n ≤ most → receiver (boot l (new_handler n)).handler i ≡ new_receiver
unfolding new_handler
boot_new l n i b m =
    let w = new_receiver_law n i (omega (arith, b, m)) in
    let k = boot_linked l (new_handler n) in
    let z : value (new_handler n) (Only PingEnable) ≡ 0 = new_off n in
    same_receiver (receiver (boot l (new_handler n)).handler i) new_receiver (k.stays_ready i b (ap (λ (r : Receiver). r.stands) w))
    (k.levels z i b ∙ ap (λ (r : Receiver). r.level) w) (k.pings z i b ∙ ap (λ (r : Receiver). r.pending) w)
