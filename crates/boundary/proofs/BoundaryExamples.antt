-- Calls from outside by their numbers: kinds, wires, refusal 7 and each part of what a call gives back.
-- Assumes nothing.
use Prim.Native.Nat.{ℕ, zero, suc, ◌-◌, ◌^◌}
use mathlib.Core.Path.{◌≡◌, refl, ap}
use mathlib.Core.List.{List, [], ◌∷◌, ◌++◌, map}
use lib.IntN.{pos, negsuc}
use lib.ListN.{replicate}
use Rattle.bits.specs.Fields.{unpack}
use Rattle.batch.specs.BatchedBy.{BatchedBy}
use Rattle.batch.specs.declared.Batched.{Batched}
use Rattle.boundary.specs.Input.{access_by, input_by}
use Rattle.boundary.specs.declared.Wired.{Wired}
use Rattle.class_rules.specs.declared.Class.{Class}
use Rattle.handler.specs.Account.{account}
use Rattle.handler.specs.Answered.{answered}
use Rattle.handler.specs.declared.account.Account.{Account}
use Rattle.handler.specs.declared.tick.Answered.{Answered}
use Rattle.link_rules.specs.Receiver.{new_receiver}
use Rattle.link_rules.specs.Sender.{new_sender}
use Rattle.link_rules.specs.Senders.{senders_by}
use Rattle.policy.specs.Plan.{boot, lifecycle_of}
use Rattle.policy.specs.declared.Installed.{Installed}
use Rattle.policy.specs.declared.Lifecycle.{Lifecycle}
use Rattle.rules.proofs.Scenes.{rules, settings, zeros, station}
use Rattle.rules.specs.Samples.{at_rest}
use Rattle.rules.specs.State.{new_handler, made, alert, class_at, reset_class, receivers_by, with_interrupts, with_locals, with_alerts, with_classes, with_links, with_timer}
use Rattle.rules.specs.Tick.{ticked}
use Rattle.rules.specs.declared.Access.{Access}
use Rattle.trace_rules.specs.declared.Edition.{Edition}
use Rattle.rules.specs.declared.Field.{Field}
use Rattle.rules.specs.declared.Handler.{Handler}
use Rattle.rules.specs.declared.Made.{Made}
use Rattle.rules.specs.declared.Wires.{Wires}
use Rattle.trace_rules.proofs.TraceScenes.{traces}

-- ── kinds: 0 none, 1 read, 2 write, any other a malformed record; what the kind does not use is not looked at ──

kinds : (map (λ (k : ℕ). access_by k 1281 7) (0 ∷ 1 ∷ 2 ∷ 3 ∷ 4 ∷ 255 ∷ [])
    ≡ Access.Nothing ∷ Access.Read 1281 ∷ Access.Write 1281 7 ∷ Access.Malformed ∷ Access.Malformed ∷ Access.Malformed ∷ [])
unfolding rules traces
kinds = refl

-- ── making: r is what the call gives back ──

makes : (r : Made) → r ≡ made 248 → (r.answer ≡ pos 0) × (r.handler.n ≡ 248)
unfolding rules traces
makes r e = (ap (λ (x : Made). x.answer) e, ap (λ (x : Made). x.handler.n) e)

-- refusal 6 leaves a handler of no alerts
too_many : (r : Made) → r ≡ made 249 → (r.answer ≡ negsuc 5) × (r.handler ≡ new_handler 0)
unfolding rules traces
too_many r e = (ap (λ (x : Made). x.answer) e, ap (λ (x : Made). x.handler) e)

-- ── a tick: r is what the call gives back ──

abbrev tick : Handler → ℕ → ℕ → ℕ → Wired → Answered
tick h kind register value w = answered (ticked h (input_by kind register value w))

-- these alert wires, this word, and receive pairs at (0,1)
abbrev wired : Wires → ℕ → Wired
wired w word = record { alerts = w; word = word; receive_positive = 0; receive_negative = 15 }

abbrev low : Wired
low = wired at_rest.alerts 0

-- the wire of alert i in words of 64, alert 0 the highest bit of the first
abbrev wire : ℕ → List ℕ
wire i = unpack (replicate 4 64) (2 ^ (255 - i))

-- alert i at (1,0), the others at (0,1)
abbrev high : ℕ → Wired
high i = wired (record { pos = wire i; neg = unpack (replicate 4 64) (2 ^ 256 - 1 - 2 ^ (255 - i)) }) 0

-- alerts 0 and 247 enabled in class 2, which has EN, all lines and threshold 0
abbrev watching : Handler
watching = station 248 (1 ∷ replicate 246 0 ++ 1 ∷ []) (replicate 248 2) 2 (settings 0x393D 0 0 zeros)

-- the same with alert 247 locked and local 0 enabled, and with the ping timer on, timeout 3, its turn alert 247's and its ping due in this tick
abbrev pinging : Handler
pinging =
    with_timer (record { timeout = 3; regwen = 1; enable = 1 })
    (with_links (record { receivers = receivers_by (λ i. new_receiver); turn = record { number = 0; alert = 247; count = 0 }; lines = 0; senders = senders_by (λ e. new_sender); right = 0 })
    (with_locals (record { regwen = replicate 7 1; en = 1 ∷ replicate 6 0; class = replicate 7 2; cause = replicate 7 0 })
    (with_alerts (record { regwen = replicate 247 1 ++ 0 ∷ []; en = watching.alerts.en; class = watching.alerts.class; cause = replicate 248 0 }) watching)))

-- the same wires with this word
abbrev drawing : ℕ → Wired → Wired
drawing word w = wired w.alerts word

module _ (r : Answered) where
  -- a read of 1281, a write of 9 to INTR_ENABLE, and kind 3 with alert 0 high: refused, and the tick runs with its samples
  reads : r ≡ tick (new_handler 1) 1 1281 0 low → r.answer ≡ pos 0x393C
  unfolding rules traces answered
  reads e = ap (λ (x : Answered). x.answer) e

  writes : r ≡ tick (new_handler 1) 2 1 9 low → (r.answer ≡ pos 0) × (r.handler.interrupts.enable ≡ 9)
  unfolding rules traces answered
  writes e = (ap (λ (x : Answered). x.answer) e, ap (λ (x : Answered). x.handler.interrupts.enable) e)

  malformed : r ≡ tick watching 3 0 0 (high 0) → (r.answer ≡ negsuc 4) × (alert r.handler Field.Cause 0 ≡ 1)
  unfolding rules traces answered
  malformed e = (ap (λ (x : Answered). x.answer) e, ap (λ (x : Answered). alert x.handler Field.Cause 0) e)

  -- alert 247 has the last wire, and its event starts class 2: line 0; the sets swapped are no event of it
  last_wire : r ≡ tick watching 0 0 0 (high 247) → (alert r.handler Field.Cause 247 ≡ 1) × ((class_at r.handler 2).state ≡ 4) × (r.output.lines ≡ 1)
  unfolding rules traces answered
  last_wire e = (
    ap (λ (x : Answered). alert x.handler Field.Cause 247) e,
    ap (λ (x : Answered). (class_at x.handler 2).state) e,
    ap (λ (x : Answered). x.output.lines) e,
  )

  swapped : r ≡ tick watching 0 0 0 (wired (record { pos = (high 247).alerts.neg; neg = (high 247).alerts.pos }) 0) → alert r.handler Field.Cause 247 ≡ 0
  unfolding rules traces answered
  swapped e = ap (λ (x : Answered). alert x.handler Field.Cause 247) e

  -- a ping that is due and answered in one tick: no cause, its pair at (1,0), the others at (0,1), those that are no alert's too; the turn ends, and the
  -- tick's word sets the next
  answers : r ≡ tick pinging 0 0 0 (drawing 0x00050007 (high 247))
      → (alert r.handler Field.Cause 247 ≡ 0) × (r.output.ping ≡ (high 247).alerts) × (r.handler.links.turn ≡ record { number = 1; alert = 5; count = 7 })
  unfolding rules traces answered
  answers e = (
    ap (λ (x : Answered). alert x.handler Field.Cause 247) e,
    ap (λ (x : Answered). x.output.ping) e,
    ap (λ (x : Answered). x.handler.links.turn) e,
  )

-- what the tick of the event hears, and that of the answer
hears : (a : Account) → a ≡ account watching (input_by 0 0 0 (high 247)) → (a.events ≡ wire 247) × (a.answers ≡ replicate 4 0) × (a.locals ≡ 0) × (a.answer ≡ pos 0)
unfolding rules traces account
hears a e = (ap (λ (x : Account). x.events) e, ap (λ (x : Account). x.answers) e, ap (λ (x : Account). x.locals) e, ap (λ (x : Account). x.answer) e)

hears_answer : (a : Account) → a ≡ account pinging (input_by 1 1281 0 (high 247)) → (a.events ≡ replicate 4 0) × (a.answers ≡ wire 247) × (a.locals ≡ 0) × (a.answer ≡ pos 0x393C)
unfolding rules traces account
hears_answer a e = (ap (λ (x : Account). x.events) e, ap (λ (x : Account). x.answers) e, ap (λ (x : Account). x.locals) e, ap (λ (x : Account). x.answer) e)

-- request (xi): a 1 that line 2's receive pair has for no reason, and equal wires of line 0; local 3 occurs where it is enabled, and the bits from 4 up
-- count for nothing
abbrev listening : Handler
listening = with_locals (record { regwen = replicate 7 1; en = 0 ∷ 0 ∷ 0 ∷ 1 ∷ 0 ∷ 0 ∷ 0 ∷ []; class = replicate 7 0; cause = replicate 7 0 }) (new_handler 1)

abbrev receiving : ℕ → ℕ → Wired
receiving p m = record { alerts = at_rest.alerts; word = 0; receive_positive = p; receive_negative = m }

hears_fault : (a b c : Account) → a ≡ account listening (input_by 0 0 0 (receiving 4 11)) → b ≡ account listening (input_by 0 0 0 (receiving 0 14))
    → c ≡ account listening (input_by 0 0 0 (receiving 0xFFF0 0x000F)) → (a.locals ≡ 8) × (b.locals ≡ 8) × (c.locals ≡ 0)
unfolding rules traces account
hears_fault a b c e f g = (ap (λ (x : Account). x.locals) e, ap (λ (x : Account). x.locals) f, ap (λ (x : Account). x.locals) g)

-- unanswered it fails three ticks later, and local 0 occurs: not in the tick before
abbrev waited : ℕ → Handler
waited zero = pinging
waited (suc n) = (tick (waited n) 0 0 0 low).handler

hears_failure : (a b : Account) → a ≡ account (waited 2) (input_by 0 0 0 low) → b ≡ account (waited 3) (input_by 0 0 0 low) → (a.locals ≡ 0) × (b.locals ≡ 1)
unfolding rules traces answered account
hears_failure a b e f = (ap (λ (x : Account). x.locals) e, ap (λ (x : Account). x.locals) f)

-- ── refusal 7: N is 249, every interrupt is pending and enabled, and class 0 is in Phase 0 with all lines ──

abbrev driving : Class
driving =
    record { lengths = 9 ∷ 9 ∷ 9 ∷ 9 ∷ []; timeout = 0; count = 1; ctrl = 0x3D; accum = 0; thresh = 0; regwen = 1; clrwen = 1; state = 4 }

abbrev broken : ℕ → Handler
broken n =
    with_interrupts (record { state = 15; enable = 15 }) (with_classes (driving ∷ replicate 3 reset_class) (new_handler n))

-- the state is unchanged and the tick is not run: interrupts and lines 0, where at N = 248 they are 15 and 15
bad_state : (r : Answered) → r ≡ tick (broken 249) 2 1 0 low
    → (r.answer ≡ negsuc 6) × (r.handler ≡ broken 249) × (r.output.interrupts ≡ 0) × (r.output.lines ≡ 0)
unfolding rules traces answered
bad_state r e = (
  ap (λ (x : Answered). x.answer) e,
  ap (λ (x : Answered). x.handler) e,
  ap (λ (x : Answered). x.output.interrupts) e,
  ap (λ (x : Answered). x.output.lines) e,
)

good_state : (r : Answered) → r ≡ tick (broken 248) 0 0 0 low → (r.answer ≡ pos 0) × (r.output.interrupts ≡ 15) × (r.output.lines ≡ 15)
unfolding rules traces answered
good_state r e = (
  ap (λ (x : Answered). x.answer) e,
  ap (λ (x : Answered). x.output.interrupts) e,
  ap (λ (x : Answered). x.output.lines) e,
)

-- ── a batch: what the call gives back, and the list that it leaves ──

-- document 01's two records of N = 1, and one that writes 9 to INTR_ENABLE
abbrev records : List ℕ
records =
    0x54 ∷ 0x10 ∷ replicate 14 0 ++ 0x80 ∷ replicate 7 0
    ++ 0xbf ∷ 0xf0 ∷ replicate 14 0 ++ 0x80 ∷ replicate 7 0
    ++ 0x80 ∷ 0x10 ∷ replicate 5 0 ++ 9 ∷ replicate 8 0 ++ 0x80 ∷ replicate 7 0

module _ (r : Batched) (left : List ℕ) where
  batched : BatchedBy Edition.Alerts64 (new_handler 1) records (7 ∷ 7 ∷ 7 ∷ 7 ∷ []) r left
      → (r.answer ≡ pos 0) × (r.handler.interrupts.enable ≡ 9) × (left ≡ 0x393c ∷ 0x0010000000000000 ∷ 0 ∷ 7 ∷ [])
  unfolding rules traces
  batched b = (b.answer, ap (λ (h : Handler). h.interrupts.enable) b.handler, b.words)

  -- a list shorter than the records: 9, state and list unchanged
  too_short : BatchedBy Edition.Alerts64 (new_handler 1) records (7 ∷ 7 ∷ []) r left → (r.answer ≡ negsuc 8) × (r.handler ≡ new_handler 1) × (left ≡ 7 ∷ 7 ∷ [])
  unfolding rules traces
  too_short b = (b.answer, b.handler, b.words)

-- ── a boot: r is what the call gives back ──

-- a number that is no lifecycle's boots PROD_END, and under 58 alerts any is refused with 13: register 0, state unchanged
no_lifecycle : (r : Installed) → r ≡ boot (lifecycle_of 6) (new_handler 248) → r ≡ boot Lifecycle.ProdEnd (new_handler 248)
unfolding lifecycle_of
no_lifecycle r e = e

few_alerts : (r : Installed) → r ≡ boot (lifecycle_of 1) (new_handler 57) → (r.answer ≡ negsuc 12) × (r.register ≡ 0) × (r.handler ≡ new_handler 57)
unfolding rules traces boot
few_alerts r e = (ap (λ (x : Installed). x.answer) e, ap (λ (x : Installed). x.register) e, ap (λ (x : Installed). x.handler) e)
