-- Request (x), for the owner: a busy tenant who does not move class A, and what he could do if a condition were missing.
-- Assumes nothing.
use Prim.Native.Nat.{ℕ, zero, suc, ◌+◌, ◌-◌, ◌<◌}
use mathlib.Core.Path.{◌≡◌, refl, ap, ◌∙◌, sym}
use mathlib.Core.Logic.{◌⊎◌, inl, inr}
use mathlib.Core.Bool.{Bool, true, false, true≢false, ◌&&◌, xor}
use mathlib.Core.List.{List, [], ◌∷◌, ◌++◌, map}
use native.Mathlib.Omega.{arith}
use lib.ListN.{get_or, length, set, replicate, get_or-replicate}
use Rattle.bits.specs.Bits.{bit}
use Rattle.bits.specs.Index.{any_to}
use Rattle.bits.proofs.IndexLaws.{none_at}
use Rattle.class_rules.specs.Class.{drives}
use Rattle.escalation.proofs.ListTicks
use Rattle.escalation.proofs.ListTicks.{input}
use Rattle.escalation.specs.List.{IsTick, before, input_at, given_at}
use Rattle.rules.proofs.Scenes.{rules, settings, station, zeros}
use Rattle.rules.specs.Access.{value, acted}
use Rattle.rules.specs.Map.{number_of}
use Rattle.rules.specs.Run.{ticks}
use Rattle.rules.specs.Samples.{positive, negative}
use Rattle.rules.specs.Scenes.{ones, sampling, timing, wired, wire, rest, raise, both_high, none, write, configure}
use Rattle.rules.specs.State.{alert, class_at, is_on, reset_class, with_alerts, with_classes, with_links, with_locals, with_timer}
use Rattle.rules.specs.declared.Access.{Access}
use Rattle.rules.specs.declared.Field.{Field}
use Rattle.rules.specs.declared.Handler.{Handler}
use Rattle.rules.specs.declared.Input.{Input}
use Rattle.rules.specs.declared.Receive.TheVariants.{Pairs}
use Rattle.rules.specs.declared.Register.{Register}
use Rattle.rules.specs.declared.Register.TheVariants.{Only, Local, Alert, Block}
use Rattle.rules.specs.declared.Setting.{Setting}
use Rattle.rules.specs.declared.Setting.TheVariants.{Ctrl, Clr, AccumThresh, EscCnt}
use Rattle.rules.specs.declared.Single.TheVariants.{IntrState, IntrEnable, IntrTest, PingRegwen}
use Rattle.rules.specs.declared.Ticked.{Ticked}
use Rattle.isolation.specs.Owner.{by_tenant, reaches, alert_reaches, wrong_for, Apart, ButTenant, OnlyTenant, starts_in, Undisturbed}
use Rattle.isolation.proofs.Traces.{along, along_at}
use Rattle.isolation.proofs.Undisturbed.{undisturbed}

-- ── two alerts: 0 is the owner's, in class A, and 1 the tenant's, in class B; both classes start at an event ──

abbrev his : ℕ → Bool
his zero = false
his (suc i) = true

-- local alerts are enabled, in class A, but for local 2 and local 3, of these classes, and local 5, enabled or not
abbrev house : ℕ → ℕ → ℕ → Handler
house class_2 class_3 en_5 =
    with_locals
    (record { regwen = replicate 7 1; en = set (replicate 7 1) 5 en_5; class = set (set (replicate 7 0) 2 class_2) 3 class_3; cause = replicate 7 0 })
    (with_classes (settings 0x393F 0 0 zeros ∷ settings 0x393D 0 0 zeros ∷ reset_class ∷ reset_class ∷ [])
    (station 2 (1 ∷ 1 ∷ replicate 246 0) (0 ∷ 1 ∷ replicate 246 0) 2 reset_class))

-- local 2 is in class B, local 3 in class C and local 5 is disabled
abbrev home : Handler
home = house 1 2 0

abbrev read : Register → Access
read q = Access.Read (number_of q)

-- a tenant who looks around and locks the ping timer, which is off: alert 0 starts class A in tick 1, the owner stages a threshold in tick 2 and clears his interrupt in tick 6
abbrev quiet : List Input
quiet =
    rest (Access.Read 3)
    ∷ raise 0 none
    ∷ rest (write (Block AccumThresh 0) 3)
    ∷ rest (write (Only PingRegwen) 0)
    ∷ rest (write (Local Field.En 0) 0)
    ∷ rest Access.Malformed
    ∷ rest (write (Only IntrState) 1)
    ∷ rest (write (Only IntrTest) 2)
    ∷ []

-- a busy one: his alert starts class B and has equal wires, an entropy word comes and answers of lines; he writes his block, differs in the second write, stages another
-- class for his alert, clears his class, enables his interrupt and clears it, with a 1 for class A's bit too, which is 0 by then
abbrev busy : List Input
busy =
    raise 1 (write (Block Ctrl 1) 0x3FFD)
    ∷ wired (wire 0 + wire 1) (ones - wire 0) (write (Alert Field.Class 1) 3)
    ∷ both_high 1 (write (Block AccumThresh 0) 3)
    ∷ timing 0x10005 15 0 ones (write (Block Ctrl 1) 0x3FFF)
    ∷ rest (write (Block Clr 1) 1)
    ∷ rest (write (Only IntrEnable) 2)
    ∷ rest (write (Only IntrState) 1)
    ∷ rest (write (Only IntrState) 3)
    ∷ []

-- ── the runs differ in what the tenant does alone ──

-- what the conditions of class k and the tenant's alerts speak of in a tick, computed of each run by itself
record Seen : Type 0 where
  pub tenant : Bool
  pub assigned : Bool
  pub two : Bool
  pub five : Bool
  pub wrong : Bool
  pub on : Bool

abbrev seen : ℕ → (ℕ → Bool) → Handler → Input → Seen
seen k his g x =
    record {
      tenant = by_tenant k his g x.access;
      assigned = any_to (λ i. his i && alert_reaches k (acted g x.access) i) g.n;
      two = reaches k (acted g x.access) 2;
      five = reaches k (acted g x.access) 5;
      wrong = wrong_for k g x;
      on = is_on g;
    }

-- the conditions hold; the access is, or is not, one that the tenant may do
abbrev fine : Bool → Seen
fine b = record { tenant = b; assigned = false; two = false; five = false; wrong = false; on = false }

-- of one tick
module _ (k : ℕ) (his : ℕ → Bool) (g : Handler) (x : Input) (b : Bool) (s : seen k his g x ≡ fine b) where
  is_tenant : by_tenant k his g x.access ≡ b
  is_tenant = ap (λ (o : Seen). o.tenant) s

  is_off : is_on g ≡ false
  is_off = ap (λ (o : Seen). o.on) s

  none_wrong : wrong_for k g x ≡ false
  none_wrong = ap (λ (o : Seen). o.wrong) s

  apart : Apart k his g x
  apart = record { alerts = one; local_2 = ap (λ (o : Seen). o.two) s; local_5 = ap (λ (o : Seen). o.five) s; failing = inl is_off }
    where
      one : (i : ℕ) → i < g.n → his i ≡ true → alert_reaches k (acted g x.access) i ≡ false
      one i l e =
          ap (λ (t : Bool). t && alert_reaches k (acted g x.access) i) (sym e)
          ∙ none_at (λ i. his i && alert_reaches k (acted g x.access) i) g.n i (ap (λ (o : Seen). o.assigned) s) l

-- of tick i of a run
seen_at : (k : ℕ) (his : ℕ → Bool) (xs : List Input) (course : List Seen) → along (seen k his) home xs ≡ course → (i : ℕ) → i < length xs
    → seen k his (ListTicks.at home xs i) (input xs i) ≡ get_or course i (fine true)
seen_at k his xs course e i l = sym (along_at (seen k his) home xs i (fine true) l) ∙ ap (λ (o : List Seen). get_or o i (fine true)) e

-- class A: in ticks 2 and 6 the access is the owner's
abbrev course : List Seen
course = fine true ∷ fine true ∷ fine false ∷ fine true ∷ fine true ∷ fine true ∷ fine false ∷ fine true ∷ []

quiet_seen : along (seen 0 his) home quiet ≡ course
unfolding rules xor along
quiet_seen = refl

busy_seen : along (seen 0 his) home busy ≡ course
unfolding rules xor along
busy_seen = refl

module _ (i : ℕ) (l : i < 8) (b : Bool) (e : get_or course i (fine true) ≡ fine b) where
  quiet_at : seen 0 his (ListTicks.at home quiet i) (input quiet i) ≡ fine b
  quiet_at = seen_at 0 his quiet course quiet_seen i l ∙ e

  busy_at : seen 0 his (ListTicks.at home busy i) (input busy i) ≡ fine b
  busy_at = seen_at 0 his busy course busy_seen i l ∙ e

  -- two ticks in which alert 0's wires are the same
  but : ((input quiet i).access ≡ (input busy i).access) ⊎ (b ≡ true) → positive (input quiet i).sample.alerts 0 ≡ positive (input busy i).sample.alerts 0
      → negative (input quiet i).sample.alerts 0 ≡ negative (input busy i).sample.alerts 0
      → ButTenant 0 his (ListTicks.at home quiet i) (input quiet i) (ListTicks.at home busy i) (input busy i)
  but a p q =
      record {
        access = way a;
        pos = pos;
        neg = neg;
        pings = inl (
          is_off 0 his (ListTicks.at home quiet i) (input quiet i) b quiet_at,
          is_off 0 his (ListTicks.at home busy i) (input busy i) b busy_at,
        );
        wrong = none_wrong 0 his (ListTicks.at home quiet i) (input quiet i) b quiet_at ∙ sym (none_wrong 0 his (ListTicks.at home busy i) (input busy i) b busy_at);
        apart = (apart 0 his (ListTicks.at home quiet i) (input quiet i) b quiet_at, apart 0 his (ListTicks.at home busy i) (input busy i) b busy_at);
      }
    where
      way : ((input quiet i).access ≡ (input busy i).access) ⊎ (b ≡ true)
          → ((input quiet i).access ≡ (input busy i).access)
          ⊎ ((by_tenant 0 his (ListTicks.at home quiet i) (input quiet i).access ≡ true) × (by_tenant 0 his (ListTicks.at home busy i) (input busy i).access ≡ true))
      way (inl c) = inl c
      way (inr c) = inr (
        is_tenant 0 his (ListTicks.at home quiet i) (input quiet i) b quiet_at ∙ c,
        is_tenant 0 his (ListTicks.at home busy i) (input busy i) b busy_at ∙ c,
      )

      pos : (j : ℕ) → j < (ListTicks.at home quiet i).n → his j ≡ false → positive (input quiet i).sample.alerts j ≡ positive (input busy i).sample.alerts j
      pos zero l e = p
      pos (suc j) l e = absurd (true≢false e)

      neg : (j : ℕ) → j < (ListTicks.at home quiet i).n → his j ≡ false → negative (input quiet i).sample.alerts j ≡ negative (input busy i).sample.alerts j
      neg zero l e = q
      neg (suc j) l e = absurd (true≢false e)

only_tenant : OnlyTenant 0 his 0 home quiet busy
unfolding rules
only_tenant zero m = but 0 (omega arith) true refl (inr refl) refl refl
only_tenant (suc zero) m = but 1 (omega arith) true refl (inr refl) refl refl
only_tenant (suc (suc zero)) m = but 2 (omega arith) false refl (inl refl) refl refl
only_tenant (suc (suc (suc zero))) m = but 3 (omega arith) true refl (inr refl) refl refl
only_tenant (suc (suc (suc (suc zero)))) m = but 4 (omega arith) true refl (inr refl) refl refl
only_tenant (suc (suc (suc (suc (suc zero))))) m = but 5 (omega arith) true refl (inr refl) refl refl
only_tenant (suc (suc (suc (suc (suc (suc zero)))))) m = but 6 (omega arith) false refl (inl refl) refl refl
only_tenant (suc (suc (suc (suc (suc (suc (suc zero))))))) m = but 7 (omega arith) true refl (inr refl) refl refl
only_tenant (suc (suc (suc (suc (suc (suc (suc (suc i)))))))) m = absurd (omega (arith, m.to))

-- ── so class A starts in the same tick and takes as long ──

same : Undisturbed 0 0 home quiet busy
unfolding rules
same = undisturbed 0 his 0 home quiet busy (omega arith) refl refl only_tenant

module _ (t : ℕ) (m : IsTick 0 quiet t) where
  starts_then : starts_in 0 (before 0 home quiet t) (input_at 0 quiet t) ≡ starts_in 0 (before 0 home busy t) (input_at 0 busy t)
  starts_then = same.start t m

  takes_as_long : (value (given_at 0 home quiet t).handler (Block Setting.State 0) ≡ value (given_at 0 home busy t).handler (Block Setting.State 0))
      × (value (given_at 0 home quiet t).handler (Block EscCnt 0) ≡ value (given_at 0 home busy t).handler (Block EscCnt 0))
      × ((e : ℕ) → drives (class_at (given_at 0 home quiet t).handler 0) e ≡ drives (class_at (given_at 0 home busy t).handler 0) e)
      × (bit (given_at 0 home quiet t).output.interrupts 0 ≡ bit (given_at 0 home busy t).output.interrupts 0)
  takes_as_long = let c = same.class t m in (c.registers Setting.State, c.registers EscCnt, c.lines, (same.interrupt t m).interrupt)

answered : (given_at 0 home quiet 2).answer ≡ (given_at 0 home busy 2).answer
unfolding rules
answered = same.answer 2 (record { from = omega arith; to = omega arith }) refl

-- class D, to whom all of this is the tenant's: every alert is his
abbrev all : ℕ → Bool
all i = true

quiet_seen_3 : along (seen 3 all) home quiet ≡ replicate 8 (fine true)
unfolding rules xor along
quiet_seen_3 = refl

busy_seen_3 : along (seen 3 all) home busy ≡ replicate 8 (fine true)
unfolding rules xor along
busy_seen_3 = refl

only_tenant_3 : OnlyTenant 3 all 100 home quiet busy
only_tenant_3 t m =
    let i : ℕ = t - 100 in
    let l : i < 8 = omega (arith, m.from, m.to) in
    let q = seen_at 3 all quiet (replicate 8 (fine true)) quiet_seen_3 i l ∙ get_or-replicate 8 i (fine true) (fine true) l in
    let b = seen_at 3 all busy (replicate 8 (fine true)) busy_seen_3 i l ∙ get_or-replicate 8 i (fine true) (fine true) l in
    record {
      access = inr (is_tenant 3 all (ListTicks.at home quiet i) (input quiet i) true q, is_tenant 3 all (ListTicks.at home busy i) (input busy i) true b);
      pos = λ j n e. absurd (true≢false e);
      neg = λ j n e. absurd (true≢false e);
      pings = inr (λ j n e. absurd (true≢false e));
      wrong = none_wrong 3 all (ListTicks.at home quiet i) (input quiet i) true q ∙ sym (none_wrong 3 all (ListTicks.at home busy i) (input busy i) true b);
      apart = (apart 3 all (ListTicks.at home quiet i) (input quiet i) true q, apart 3 all (ListTicks.at home busy i) (input busy i) true b);
    }

same_3 : Undisturbed 3 100 home quiet busy
unfolding rules
same_3 = undisturbed 3 all 100 home quiet busy (omega arith) refl refl only_tenant_3

-- computed beside it: class A and class B
abbrev states : ℕ → Handler → List Input → List ℕ
states k h is = map (λ (o : Ticked). (class_at o.handler k).state) (ticks h is)

computed : (states 0 home quiet ≡ 0 ∷ 4 ∷ 5 ∷ 6 ∷ 7 ∷ 3 ∷ 3 ∷ 3 ∷ [])
    × (states 0 home busy ≡ 0 ∷ 4 ∷ 5 ∷ 6 ∷ 7 ∷ 3 ∷ 3 ∷ 3 ∷ [])
    × (states 1 home quiet ≡ replicate 8 0)
    × (states 1 home busy ≡ 4 ∷ 5 ∷ 6 ∷ 7 ∷ 0 ∷ 0 ∷ 0 ∷ 0 ∷ [])
unfolding rules
computed = (refl, refl, refl, refl)

-- ── the conditions are needed ──

-- local 2 in class A: the tenant's equal wires start it
local_2_needed : (states 0 (house 0 2 0) (rest none ∷ []) ≡ 0 ∷ []) × (states 0 (house 0 2 0) (both_high 1 none ∷ []) ≡ 4 ∷ [])
unfolding rules
local_2_needed = (refl, refl)

-- local 3 in class A, and the same receive pairs in both runs, at rest: the tenant's line asks for answers that do not come, and starts it
local_3_needed : (states 0 (house 1 0 0) (rest none ∷ rest none ∷ []) ≡ 0 ∷ 0 ∷ []) × (states 0 (house 1 0 0) (raise 1 none ∷ rest none ∷ []) ≡ 0 ∷ 4 ∷ [])
unfolding rules
local_3_needed = (refl, refl)

-- where the right answers come it does not: line e is on in tick e, its pair there and in the next, and the answer to that is one tick of 1
abbrev answering : List Input
answering = raise 1 none ∷ map (λ (p : ℕ). sampling 0 (Pairs p (15 - p)) 0 ones none) (1 ∷ 2 ∷ 4 ∷ 8 ∷ 0 ∷ 0 ∷ [])

right_answers : (states 1 (house 1 0 0) answering ≡ 4 ∷ 5 ∷ 6 ∷ 7 ∷ 3 ∷ 3 ∷ 3 ∷ []) × (states 0 (house 1 0 0) answering ≡ replicate 7 0)
unfolding rules
right_answers = (refl, refl)

-- local 5 in class A: the tenant's differing second write starts it; an equal one does not
local_5_needed : (states 0 (house 1 2 1) (map rest (write (Block Ctrl 1) 5 ∷ write (Block Ctrl 1) 5 ∷ [])) ≡ 0 ∷ 0 ∷ [])
    × (states 0 (house 1 2 1) (map rest (write (Block Ctrl 1) 5 ∷ write (Block Ctrl 1) 6 ∷ [])) ≡ 0 ∷ 4 ∷ [])
unfolding rules
local_5_needed = (refl, refl)

-- his alert in class A, and no other: its event starts it
abbrev assigned : Handler
assigned = with_classes home.classes (station 2 (1 ∷ 1 ∷ replicate 246 0) (1 ∷ 0 ∷ replicate 246 0) 2 reset_class)

alerts_needed : (states 0 assigned (rest none ∷ []) ≡ 0 ∷ []) × (states 0 assigned (raise 1 none ∷ []) ≡ 4 ∷ [])
unfolding rules
alerts_needed = (refl, refl)

-- request (ix): the ping timer is on at this timeout, both alerts are locked and enabled, and it is the turn of the tenant's, whose ping is due
abbrev pinged : ℕ → Handler
pinged timeout =
    with_timer (record { timeout = timeout; regwen = 1; enable = 1 })
    (with_links (record { receivers = home.links.receivers; turn = record { number = 0; alert = 1; count = 0 }; lines = 0; senders = home.links.senders; right = 0 })
    (with_alerts (record { regwen = replicate 248 0; en = home.alerts.en; class = home.alerts.class; cause = home.alerts.cause }) home))

-- line 0's answer in tick 1 and a rise of the owner's alert in tick 2, after this tick of the tenant's
abbrev shared : Input → List Input
shared x = x ∷ timing 0 1 0 ones none ∷ raise 0 none ∷ []

-- the timer is shared: the tenant's answer in tick 0 ends his turn and line 0's answer the next, so that the owner's alert is pinged in tick 2, where its
-- rise is then an answer and does not start class A; without his answer it starts it
pings_needed : (states 0 (pinged 0) (shared (rest none)) ≡ 0 ∷ 0 ∷ 4 ∷ []) × (states 0 (pinged 0) (shared (raise 1 none)) ≡ 0 ∷ 0 ∷ 0 ∷ [])
unfolding rules
pings_needed = (refl, refl)

-- local 0 in class A: the tenant's ping that fails starts it
failing_needed : (states 0 (pinged 1) (raise 1 none ∷ rest none ∷ []) ≡ 0 ∷ 0 ∷ []) × (states 0 (pinged 1) (rest none ∷ rest none ∷ []) ≡ 0 ∷ 4 ∷ [])
unfolding rules
failing_needed = (refl, refl)

-- class A's interrupt bit set by him: a timeout starts
abbrev timed : Handler
timed = station 2 (1 ∷ 1 ∷ replicate 246 0) (0 ∷ 1 ∷ replicate 246 0) 0 (settings 0x393F 9 1 zeros)

bits_needed : (states 0 timed (rest none ∷ rest none ∷ []) ≡ 0 ∷ 0 ∷ []) × (states 0 timed (rest (write (Only IntrTest) 1) ∷ rest none ∷ []) ≡ 1 ∷ 4 ∷ [])
unfolding rules
bits_needed = (refl, refl)

-- a read of an alert that is not his drops its stage: the owner's second write is then a first one, his alert stays disabled and does not start class A
abbrev enabling : Access → List Input
enabling a = rest (write (Alert Field.En 0) 1) ∷ rest a ∷ rest (write (Alert Field.En 0) 1) ∷ raise 0 none ∷ []

abbrev disabled : Handler
disabled = with_classes home.classes (station 2 (0 ∷ 1 ∷ replicate 246 0) (0 ∷ 1 ∷ replicate 246 0) 2 reset_class)

reads_needed : (states 0 disabled (enabling none) ≡ 0 ∷ 0 ∷ 0 ∷ 4 ∷ [])
    × (states 0 disabled (enabling (read (Alert Field.En 0))) ≡ 0 ∷ 0 ∷ 0 ∷ 0 ∷ [])
unfolding rules
reads_needed = (refl, refl)

-- ── a tenant who sets up his alert: CLASS is 0, class A, until he writes it, and the alert is disabled until then, so it never reaches class A ──

abbrev unset : Handler
unset = with_classes home.classes (station 2 (1 ∷ replicate 247 0) (replicate 248 0) 2 reset_class)

abbrev set_up : List Input
set_up = map rest (configure (Alert Field.Class 1) 1 ++ configure (Alert Field.En 1) 1) ++ (raise 1 none ∷ [])

set_up_law : (along (λ g x. alert (acted g x.access) Field.Class 1) unset set_up ≡ 0 ∷ 1 ∷ 1 ∷ 1 ∷ 1 ∷ [])
    × (along (λ g x. alert_reaches 0 (acted g x.access) 1) unset set_up ≡ replicate 5 false)
    × (states 0 unset set_up ≡ replicate 5 0)
    × (states 1 unset set_up ≡ 0 ∷ 0 ∷ 0 ∷ 0 ∷ 4 ∷ [])
unfolding rules along
set_up_law = (refl, refl, refl, refl)
