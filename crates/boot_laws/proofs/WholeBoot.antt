-- Request (vi) once more, taken from the claims over every lifecycle, state, alert, class, phase and tick, in raw registers and numbers. A claim that says
-- less, or asks for more (an alert or class left out, fewer states, a stop whose answers are not said), does not give it.
-- Assumes nothing.
use Prim.Native.Nat.{ℕ, ◌+◌, ◌-◌, ◌≤◌, ◌<◌}
use mathlib.Core.Path.{◌≡◌, refl, ap, ap₂, ◌∙◌}
use mathlib.Core.Logic.{◌⊎◌, inl, inr}
use mathlib.Core.Bool.{Bool, true, false, not, ◌&&◌}
use mathlib.Core.List.{List, map}
use lib.Dec.{eqb}
use lib.IntN.{pos, negsuc}
use lib.ListN.{get_or, length, take, replicate}
use Rattle.bits.specs.Bits.{bit}
use Rattle.bits.specs.Index.{place_in}
use Rattle.class_rules.specs.Class.{no_class, state_of}
use Rattle.class_rules.specs.Step.{starts}
use Rattle.class_rules.specs.declared.ClassState.TheVariants.{Idle}
use Rattle.escalation.specs.Escalation.{Starts, Escalated, Demand3}
use Rattle.escalation.specs.List.{no_input, no_tick}
use Rattle.laws.specs.Above.{SameAbove}
use Rattle.laws.specs.Frame.{moves_itself}
use Rattle.laws.specs.InMap.{in_map}
use Rattle.laws.specs.Pinging.{asks_in}
use Rattle.laws.specs.Quiet.{runs}
use Rattle.link_rules.specs.Codes.{response_of}
use Rattle.link_rules.specs.Sender.{new_sender}
use Rattle.link_rules.specs.Senders.{sender_in}
use Rattle.link_rules.specs.declared.Handshake.TheVariants.{Ready}
use Rattle.link_rules.specs.declared.Response.TheVariants.{Quiet}
use Rattle.link_rules.specs.declared.Sender.{Sender}
use Rattle.rules.specs.Access.{value, clears, acted}
use Rattle.rules.specs.Answer.{number}
use Rattle.rules.specs.Run.{run, ticks}
use Rattle.rules.specs.Stages.{stage}
use Rattle.rules.specs.State.{class_at, new_handler, receiver}
use Rattle.rules.specs.Tick.{ticked, happens_in, signals_in}
use Rattle.rules.specs.Valid.{valid}
use Rattle.class_rules.specs.declared.Class.{Class}
use Rattle.rules.specs.declared.Field.{Field}
use Rattle.rules.specs.declared.Handler.{Handler}
use Rattle.rules.specs.declared.Input.{Input}
use Rattle.rules.specs.declared.Register.{Register}
use Rattle.rules.specs.declared.Register.TheVariants.{Only, Local, Alert, Block}
use Rattle.rules.specs.declared.Setting.{Setting}
use Rattle.rules.specs.declared.Setting.TheVariants.{Ctrl, AccumCnt, AccumThresh, TimeoutCyc, PhaseCyc}
use Rattle.rules.specs.declared.Single.TheVariants.{IntrState, IntrEnable}
use Rattle.rules.specs.declared.Ticked.{Ticked}
use Rattle.policy.specs.Install.{Ask, Entry, rest, is, asks}
use Rattle.policy.specs.Plan.{class_of, en_of, is_a, locks, ctrl_of, length_of, alert_entries, class_entries, plan_of, boot}
use Rattle.policy.specs.Sound.{unnamed, free}
use Rattle.policy.specs.Table.{mark_at}
use Rattle.policy.specs.declared.Lifecycle.{Lifecycle}
use Rattle.policy.specs.Progress.{Progress}
use Rattle.boot_laws.specs.Boots.{Either}
use Rattle.boot_laws.specs.FromBoot.{FirstEvent, FirstInList}
use Rattle.boot_laws.specs.Ran.{no_ask, Among}
use Rattle.boot_laws.specs.Ran.Among.{here, there}
use Rattle.boot_laws.specs.Stands.{Success, NoWrongEvent, AtRest}
use Rattle.boot_laws.proofs.Boots.{boots, new_boots}
use Rattle.boot_laws.proofs.FromBoot.{from_boot}
use Rattle.boot_laws.proofs.Members.{has_length, alert_part, class_part}
use Rattle.boot_laws.proofs.StaysIdle.{until_first}

-- ── a state at rest ──

abbrev Rests : Handler → Type 0
Rests f =
    (f.timer.enable ≡ 0)
    × (f.interrupts.state ≡ 0)
    × ((k : ℕ) → k < 4 → state_of (get_or f.classes k no_class).state ≡ Idle)
    × ((e : ℕ) → e < 4 → sender_in f.links.senders e ≡ record { on = false; first = false; sound = record { stands = Quiet; answer = false } })

-- ── of any boot ──

module _ (l : Lifecycle) (h : Handler) where
  abbrev end : Handler
  end = (boot l h).handler

  not_begun : (valid h ≡ false → boot l h ≡ record { handler = h; answer = negsuc 6; register = 0; spare = replicate 6 0 })
      × (valid h ≡ true → h.n < 58 → boot l h ≡ record { handler = h; answer = negsuc 12; register = 0; spare = replicate 6 0 })
  not_begun = let b = boots l h in (b.bad_state, b.few_alerts)

  left_alone : (end.n ≡ h.n)
      × ((o : Register) → in_map h.n o ≡ true → unnamed o (plan_of l) ≡ true
      → (moves_itself o ≡ false → value end o ≡ value h o) × (stage end o ≡ stage h o))
      × (value end (Only IntrEnable) ≡ value h (Only IntrEnable))
  left_alone = let u = (boots l h).untouched in (u.n, λ o i n. (u.values o i n, u.stages o i n), u.enables)

  locals_alone : (j : ℕ) → j < 7
      → (value end (Local Field.Regwen j) ≡ value h (Local Field.Regwen j))
      × (value end (Local Field.En j) ≡ value h (Local Field.En j))
      × (value end (Local Field.Class j) ≡ value h (Local Field.Class j))
      × ((f : Field) → stage end (Local f j) ≡ stage h (Local f j))
  locals_alone j b =
      let u = (boots l h).untouched in
      (u.locals Field.Regwen j b refl, u.locals Field.En j b refl, u.locals Field.Class j b refl, λ f. u.local_stages_law f j b)

  others_alone : (i : ℕ) → 58 ≤ i → i < h.n
      → (value end (Alert Field.Regwen i) ≡ value h (Alert Field.Regwen i))
      × (value end (Alert Field.En i) ≡ value h (Alert Field.En i))
      × (value end (Alert Field.Class i) ≡ value h (Alert Field.Class i))
      × ((f : Field) → stage end (Alert f i) ≡ stage h (Alert f i))
  others_alone i a b =
      let u = (boots l h).untouched in
      (u.others Field.Regwen i a b refl, u.others Field.En i a b refl, u.others Field.Class i a b refl, λ f. u.other_stages f i a b)

  locks_alone : ((i : ℕ) → i < 58 → i < h.n → (locks l && is_a (mark_at l i)) ≡ false → value end (Alert Field.Regwen i) ≡ value h (Alert Field.Regwen i))
      × ((k : ℕ) → k < 4 → (locks l && eqb k 0) ≡ false → value end (Block Setting.Regwen k) ≡ value h (Block Setting.Regwen k))
  locks_alone = let u = (boots l h).unlocked in (u.alerts, u.classes)

  still_valid : (valid h ≡ true → valid end ≡ true) × SameAbove h end
  still_valid = let b = boots l h in (b.keeps_valid, b.keeps_above)

  -- while register 6 is 0 ping pairs and open pings are as before
  pings_alone : h.timer.enable ≡ 0 → (i : ℕ) → i < h.n
      → (place_in end.links.receivers.level i ≡ place_in h.links.receivers.level i)
      × (place_in end.links.receivers.pending i ≡ place_in h.links.receivers.pending i)
  unfolding value
  pings_alone z i b = let k = (boots l h).linked in (k.levels z i b, k.pings z i b)

  -- and what is ready stays so
  stays_ready : (i : ℕ) → i < h.n → (receiver h i).stands ≡ Ready → (receiver end i).stands ≡ Ready
  stays_ready = (boots l h).linked.stays_ready

  -- no alert has an event
  causes_alone : (i : ℕ) → i < h.n → value end (Alert Field.Cause i) ≡ value h (Alert Field.Cause i)
  causes_alone = (boots l h).untouched.causes

-- ── after register 0 and answer 0, from any state ──

module _ (l : Lifecycle) (h : Handler) (r : (boot l h).register ≡ 0) (a : (boot l h).answer ≡ pos 0) where
  abbrev g : Handler
  g = (boot l h).handler

  success : Success l h
  success = record { register = r; answer = a }

  -- the state was accepted and so large, and all ticks of the plan ran
  ran : (valid h ≡ true)
      × (58 ≤ h.n)
      × (boot l h ≡ record { handler = run h (map (λ (x : Ask). rest x.access) (asks (plan_of l))); answer = pos 0; register = 0; spare = replicate 6 0 })
  ran = (boots l h).success success

  each_alert : (i : ℕ) → i < 58 → (value g (Alert Field.Class i) ≡ class_of (mark_at l i)) × (value g (Alert Field.En i) ≡ en_of (mark_at l i))
  each_alert i b = let s = (boots l h).stands success in (s.class i b, s.enable i b)

  each_lock : locks l ≡ true
      → (value g (Block Setting.Regwen 0) ≡ 0)
      × (bit (class_at g 0).ctrl 0 ≡ true)
      × (bit (class_at g 0).ctrl 1 ≡ true)
      × ((i : ℕ) → i < 58 → is_a (mark_at l i) ≡ true → value g (Alert Field.Regwen i) ≡ 0)
  each_lock c = let s = (boots l h).stands success in let d = s.class_locks c in (d.0, d.1, d.2, λ i b m. s.alert_locks i b c m)

  each_class : (k : ℕ) → k < 4
      → (value g (Block AccumThresh k) ≡ 0)
      × (value g (Block TimeoutCyc k) ≡ 0)
      × ((p : ℕ) → p < 4 → value g (Block (PhaseCyc p) k) ≡ length_of k p)
      × (value g (Block Ctrl k) ≡ ctrl_of l k)
  each_class k b = let s = (boots l h).stands success in (s.thresh k b, s.timeout k b, λ p c. s.lengths k p b c, s.ctrl k b)

  -- no stage is open at a register of the plan: by name, and of each alert and class
  no_stage : (e : Entry) → Among e (plan_of l) → stage g e.register ≡ 0
  no_stage = ((boots l h).stands success).unstaged

  no_alert_stage : (i : ℕ) → i < 58 → (stage g (Alert Field.Class i) ≡ 0) × (stage g (Alert Field.En i) ≡ 0)
  unfolding alert_entries
  no_alert_stage i b = (no_stage _ (alert_part l _ i b here), no_stage _ (alert_part l _ i b (there here)))

  no_class_stage : (k : ℕ) → k < 4
      → (stage g (Block AccumThresh k) ≡ 0)
      × (stage g (Block TimeoutCyc k) ≡ 0)
      × ((p : ℕ) → p < 4 → stage g (Block (PhaseCyc p) k) ≡ 0)
      × (stage g (Block Ctrl k) ≡ 0)
  unfolding class_entries
  no_class_stage k b = (
    no_stage _ (class_part l _ k b here),
    no_stage _ (class_part l _ k b (there here)),
    (λ p c. no_stage _ (class_part l _ k b (has_length l k p c))),
    no_stage _ (class_part l _ k b (there (there (there (there (there (there here))))))),
  )

  -- before tick i of the boot line e's sender waits for an answer of 1
  abbrev waits_for_one : ℕ → ℕ → Bool
  waits_for_one i e = bit (run h (take i (map (λ (x : Ask). rest x.access) (asks (plan_of l))))).links.senders.answer e

  -- and no event came, where register 6 is 0 or local 0 and local 1 are disabled, and local 3 is disabled or no sender waits for a 1 in any tick of it
  no_event : (h.timer.enable ≡ 0) ⊎ ((get_or h.locals.en 0 0 ≡ 0) × (get_or h.locals.en 1 0 ≡ 0))
      → (get_or h.locals.en 3 0 ≡ 0) ⊎ ((i e : ℕ) → i < length (asks (plan_of l)) → e < 4 → waits_for_one i e ≡ false)
      → ((o : Register) → in_map h.n o ≡ true → moves_itself o ≡ true → runs o ≡ false → value g o ≡ value h o)
      × (value g (Only IntrState) ≡ value h (Only IntrState))
      × ((j : ℕ) → j < 7 → value g (Local Field.Cause j) ≡ value h (Local Field.Cause j))
      × ((i : ℕ) → i < h.n → value g (Alert Field.Cause i) ≡ value h (Alert Field.Cause i))
      × ((k : ℕ) → k < 4 → value g (Block AccumCnt k) ≡ value h (Block AccumCnt k))
  unfolding value
  no_event p q = let e = (boots l h).eventless success p (go q) in (e.values, e.interrupts, e.local_causes, e.causes, e.counts)
    where
      go : (get_or h.locals.en 3 0 ≡ 0) ⊎ ((i e : ℕ) → i < length (asks (plan_of l)) → e < 4 → waits_for_one i e ≡ false) → NoWrongEvent l h
      go (inl z) = inl z
      go (inr u) = inr (λ i b e m. u i e b m)

  -- where one does, and local 3 is enabled, it has occurred
  wrong_event : get_or h.locals.en 3 0 ≡ 1 → (i e : ℕ) → i < length (asks (plan_of l)) → e < 4 → waits_for_one i e ≡ true
      → get_or g.locals.cause 3 0 ≡ 1
  unfolding value
  wrong_event = (boots l h).wrong success

  -- a state at rest: register 6 is 0, no interrupt bit is set, each class is Idle and each sender has nothing on and nothing to wait for
  module _ (z : h.timer.enable ≡ 0) (y : h.interrupts.state ≡ 0) (c : (k : ℕ) → k < 4 → (get_or h.classes k no_class).state ≡ 0)
      (fresh : (e : ℕ) → e < 4 → (bit h.links.senders.on e ≡ false) × (bit h.links.senders.first e ≡ false))
      (still : (e : ℕ) → e < 4 → (bit h.links.senders.last e ≡ false) × (bit h.links.senders.deep e ≡ false) × (bit h.links.senders.answer e ≡ false)) where
    is_at_rest : AtRest h
    unfolding value state_of
    is_at_rest = record { off = z; interrupts = y; classes = λ k b. ap state_of (c k b); senders = new }
      where
        make : Bool → Bool → Bool → Bool → Bool → Sender
        make a b c d f = record { on = a; first = b; sound = record { stands = response_of c d; answer = f } }

        new : (e : ℕ) → e < 4 → sender_in h.links.senders e ≡ new_sender
        new e b =
            ap₂ (λ (x y : Bool). make x y (bit h.links.senders.last e) (bit h.links.senders.deep e) (bit h.links.senders.answer e)) (fresh e b).0 (fresh e b).1
            ∙ ap₂ (λ (x y : Bool). make false false x y (bit h.links.senders.answer e)) (still e b).0 (still e b).1
            ∙ ap (λ (x : Bool). make false false false false x) (still e b).2

    -- none does from it
    quiet_event : ((j : ℕ) → j < 7 → value g (Local Field.Cause j) ≡ value h (Local Field.Cause j)) × (value g (Only IntrState) ≡ value h (Only IntrState))
    quiet_event =
        let q = (boots l h).at_rest success is_at_rest in
        let e = (boots l h).eventless success q.0 q.1 in (e.local_causes, e.interrupts)

    -- and the boot leaves it at rest
    quiet_after : Rests g
    unfolding value
    quiet_after = let q = ((boots l h).at_rest success is_at_rest).2 in (q.off, q.interrupts, q.classes, q.senders)

  -- every receiver is ready, and takes a rise in the next tick
  all_ready : (i : ℕ) → i < h.n → (receiver g i).stands ≡ Ready
  all_ready = (boots l h).ready success

  next_rise : (x : Input) (i : ℕ) → i < h.n → place_in x.sample.alerts.pos i ≡ true → place_in x.sample.alerts.neg i ≡ false
      → asks_in g x i ≡ false → place_in g.links.receivers.pending i ≡ false → happens_in g x i ≡ true
  next_rise x i b p m q o = (boots l h).first_rise success x i b (ap₂ (λ (c d : Bool). c && not d) p m) o q

  off_rise : h.timer.enable ≡ 0 → (x : Input) (i : ℕ) → i < h.n → place_in x.sample.alerts.pos i ≡ true
      → place_in x.sample.alerts.neg i ≡ false → happens_in g x i ≡ true
  unfolding value
  off_rise z x i b p m = (boots l h).off_rise success z x i b (ap₂ (λ (c d : Bool). c && not d) p m)

-- ── where it stops: the state, the answer and the register, in the words of one tick ──

module _ (l : Lifecycle) (h : Handler) (t : valid h ≡ true) (n : 58 ≤ h.n) where
  abbrev before : ℕ → Handler
  before i = run h (take i (map (λ (x : Ask). rest x.access) (asks (plan_of l))))

  abbrev at : ℕ → Ask
  at i = get_or (asks (plan_of l)) i no_ask

  abbrev gives : ℕ → Ticked
  gives i = ticked (before i) (rest (at i).access)

  abbrev wanted : ℕ → Bool
  wanted i = is (number (gives i).answer) (at i).wanted

  record Stop (i : ℕ) : Type 0 where
    inside : i < length (asks (plan_of l))
    earlier : (j : ℕ) → j < i → wanted j ≡ true
    here : wanted i ≡ false
    result : boot l h ≡ record { handler = (gives i).handler; answer = number (gives i).answer; register = (at i).register; spare = replicate 6 0 }

  abbrev Went : Type 0
  Went = boot l h ≡ record { handler = run h (map (λ (x : Ask). rest x.access) (asks (plan_of l))); answer = pos 0; register = 0; spare = replicate 6 0 }

  either : Went ⊎ ((i : ℕ) × Stop i)
  either = go ((boots l h).either t n)
    where
      go : Either l h → Went ⊎ ((i : ℕ) × Stop i)
      go (inl e) = inl e
      go (inr (s, c, e)) =
          inr (c.place, record { inside = c.inside; earlier = c.earlier; here = c.there; result = e ∙ ap (λ (p : Progress). p.reached) c.result })

  -- with nothing of the plan locked or staged otherwise it comes to its end
  goes : free h (plan_of l) ≡ true → Went
  goes = (boots l h).succeeds t n

-- ── a new handler ──

new_goes : (l : Lifecycle) (n : ℕ) → 58 ≤ n → n ≤ 248
    → boot l (new_handler n) ≡ record { handler = run (new_handler n) (map (λ (x : Ask). rest x.access) (asks (plan_of l))); answer = pos 0; register = 0; spare = replicate 6 0 }
new_goes l n = (new_boots l n).new_succeeds

-- every receiver is ready, its ping pair at (0,1), and no ping is open
new_ready : (l : Lifecycle) (n i : ℕ) → i < n → n ≤ 248
    → receiver (boot l (new_handler n)).handler i ≡ record { stands = Ready; level = false; pending = false }
new_ready l n = (new_boots l n).receivers

-- it is at rest, and at its end too
new_rests : (l : Lifecycle) (n : ℕ) → Rests (new_handler n)
unfolding value
new_rests l n = let r = (new_boots l n).rests in (r.off, r.interrupts, r.classes, r.senders)

new_rests_after : (l : Lifecycle) (n : ℕ) → 58 ≤ n → n ≤ 248 → Rests (boot l (new_handler n)).handler
unfolding value
new_rests_after l n a b = let r = (new_boots l n).rests_after a b in (r.off, r.interrupts, r.classes, r.senders)

-- every line's sender is as new: nothing was on its wires, and it waits for no answer
new_lines : (l : Lifecycle) (n e : ℕ) → 58 ≤ n → n ≤ 248 → e < 4
    → sender_in (boot l (new_handler n)).handler.links.senders e ≡ record { on = false; first = false; sound = record { stands = Quiet; answer = false } }
new_lines l n e a b = ((new_boots l n).rests_after a b).senders e

-- ── from the boot of a new handler in PROD or PROD_END to the last tick of any list: ticks numbered from any first number ──

module _ (l : Lifecycle) (n : ℕ) (xs : List Input) (c : locks l ≡ true) (a : 58 ≤ n) (b : n ≤ 248) where
  abbrev booted : Handler
  booted = (boot l (new_handler n)).handler

  -- after i ticks, the input of tick i, class A as it reads it, and whether class A starts in it
  abbrev after : ℕ → Handler
  after i = run booted (take i xs)

  abbrev input : ℕ → Input
  input i = get_or xs i no_input

  abbrev read : ℕ → Class
  read i = class_at (acted (after i) (input i).access) 0

  abbrev starting : ℕ → Bool
  starting i = starts (signals_in (after i) (input i) 0) (read i)

  abbrev idle : ℕ → Type 0
  idle i = state_of (class_at (after i) 0).state ≡ Idle

  -- an alert marked A has an event in tick i, and no clear of class A is accepted
  abbrev Event : ℕ → ℕ → Type 0
  Event i j = (j < 58) × (is_a (mark_at l j) ≡ true) × (happens_in (after i) (input i) j ≡ true) × (clears (after i) (input i).access 0 ≡ false)

  -- a start, locked with EN and LOCK
  abbrev Started : ℕ → Type 0
  Started i = (starting i ≡ true) × ((read i).regwen ≡ 0) × (bit (read i).ctrl 0 ≡ true) × (bit (read i).ctrl 1 ≡ true)

  started : (i : ℕ) → Starts (after i) (input i) 0 → Started i
  started i s = (s.is_start, s.is_locked, s.has_en, s.has_lock)

  at_first : (state_of (class_at booted 0).state ≡ Idle) × Demand3 booted xs
  at_first = let f = from_boot l n xs c a b in (f.idle, f.demand3)

  stays_idle : (i : ℕ) → i ≤ length xs → ((j : ℕ) → j < i → starting j ≡ false) → idle i
  stays_idle = (until_first l n c a b xs).stays_idle

  module _ (first s i : ℕ) (from : first ≤ s) (to : s < first + length xs) (e : Event (s - first) i) where
    -- from Idle
    module _ (d : idle (s - first)) where
      first_event : FirstEvent l (after (s - first)) (input (s - first)) i
      first_event = record { idle = d; is_alert = e.0; marked = e.1; occurs = e.2; unclear = e.3 }

      from_idle : Started (s - first)
      from_idle = started (s - first) ((from_boot l n xs c a b).start first s i (record { from = from; to = to }) first_event)

      escalates : (t : ℕ) → s ≤ t → first ≤ t → t < first + length xs → Escalated (read (s - first)) s t (get_or (ticks booted xs) (t - first) no_tick) 0
      escalates t m p q =
          (from_boot l n xs c a b).escalation first s i (record { from = from; to = to }) first_event t m (record { from = p; to = q })

    -- where class A did not start before
    module _ (d : (j : ℕ) → j < s - first → starting j ≡ false) where
      in_list : FirstInList l booted xs first s i
      in_list = record { is_tick = record { from = from; to = to }; unstarted = d; is_alert = e.0; marked = e.1; occurs = e.2; unclear = e.3 }

      first_starts : Started (s - first)
      first_starts = started (s - first) ((until_first l n c a b xs).first_starts first s i in_list)

      first_escalates : (t : ℕ) → s ≤ t → first ≤ t → t < first + length xs → Escalated (read (s - first)) s t (get_or (ticks booted xs) (t - first) no_tick) 0
      first_escalates t m p q = (until_first l n c a b xs).first_escalates first s i in_list t m (record { from = p; to = q })
