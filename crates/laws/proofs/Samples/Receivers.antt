-- An alert's receiver: an access leaves it, and a tick goes by its wires and what the ping timer does with it alone.
-- Assumes nothing.
use Prim.Native.Nat.{ℕ, ◌≤◌, ◌<◌}
use mathlib.Core.Path.{◌≡◌, refl, sym, ap, ap₂, ◌∙◌}
use mathlib.Core.Bool.{Bool, true, false, and-true, cond, ◌&&◌}
use native.Mathlib.Omega.{arith}
use borrow.Author.Tests.{lt-ltb}
use lib.Dec.{eqb, ltb}
use Rattle.link_rules.proofs.Closing.{closing_asks}
use Rattle.link_rules.proofs.ReceiverLaws.{same_receiver}
use Rattle.link_rules.specs.Pings.{asks}
use Rattle.link_rules.specs.Receiver.{received}
use Rattle.link_rules.specs.Timer.{opens, open_now, fails, fails_alert}
use Rattle.link_rules.specs.declared.Received.{Received}
use Rattle.link_rules.specs.declared.Receiver.{Receiver}
use Rattle.rules.specs.Access.{store, acted, effects}
use Rattle.rules.specs.Map.{decode}
use Rattle.rules.specs.Samples.{positive, negative, received_by, happened, answered, receiver_after, asks_for, timed, receiver_timed}
use Rattle.rules.specs.State.{most, receiver, receiver_in}
use Rattle.rules.specs.Tick.{hears, happens_in, answered_in, links_after, after}
use Rattle.rules.specs.declared.Access.{Access}
use Rattle.rules.specs.declared.Access.TheVariants.{Nothing, Read, Write, Malformed}
use Rattle.rules.specs.declared.Handler.{Handler}
use Rattle.rules.specs.declared.Input.{Input}
use Rattle.rules.specs.declared.Links.{Links}
use Rattle.laws.specs.Pinging.{closed_in, meets_in, fails_in, given_in, closed_if}
use Rattle.laws.specs.RegisterFile.{stores, stored_by}
use Rattle.laws.proofs.Map.Cases.{pick, by_kind}
use Rattle.laws.proofs.Samples.Heard.{asked_at, heard_receiver, heard_event_law, heard_answer_law}
use Rattle.laws.proofs.Access.RegisterFile.{acted_n}
use Rattle.laws.proofs.Access.Step1.{acted_but_stages}

-- an access leaves the links, and so every receiver
pub acted_links : (h : Handler) (x : Access) → (acted h x).links ≡ h.links
unfolding store
acted_links h x = acted_but_stages h x (λ g. g.links ≡ h.links) (λ _. go x)
  where
    go : (y : Access) → (stored_by h y).links ≡ h.links
    go Nothing = refl
    go (Read r) = refl
    go (Write r v) =
        pick (λ (g : Handler). g.links ≡ h.links) (stores h r v) _ _
        (λ _. by_kind (λ q. (store h q v).links ≡ h.links) (λ o. refl) (λ f j. refl) (λ f i. refl) (λ s k. refl) refl (decode h.n r))
        (λ _. refl)
    go Malformed = refl

pub acted_receiver : (h : Handler) (x : Access) (i : ℕ) → receiver (acted h x) i ≡ receiver h i
acted_receiver h x i = ap (λ (z : Links). receiver_in z.receivers i) (acted_links h x)

-- ── alert i below N: by its receiver before the tick, whether the timer asks for its ping, its wires, and whether that ping fails ──

module _ (h : Handler) (x : Input) (i : ℕ) (m : h.n ≤ most) (l : i < h.n) where
  abbrev gives : Received
  gives = received (given_in h x i) (receiver h i)

  abbrev g : Handler
  g = acted h x.access

  below : ltb i g.n ≡ true
  below = ap (ltb i) (acted_n h x.access) ∙ lt-ltb i h.n l

  as_given : received_by g (asks_for g x.sample (effects h x.access)) x.sample.alerts i ≡ gives
  as_given =
      ap₂ (λ (b : Bool) (r : Receiver). received (record { asks = b; pos = positive x.sample.alerts i; neg = negative x.sample.alerts i }) r)
      (asked_at g x.sample (effects h x.access) i (omega (arith, m, l)) ∙ sym (closing_asks (closed_in h x) (timed g x.sample (effects h x.access)) g.links.turn i)
      ∙ ap (λ (z : Links). asks (meets_in h x) z.turn i) (acted_links h x.access))
      (acted_receiver h x.access i)

  -- whether it has an event, and whether its open ping is answered
  pub happens_in_law : happens_in h x i ≡ gives.event
  unfolding hears happened
  happens_in_law =
      heard_event_law g x.sample (effects h x.access) i (omega (arith, m, l))
      ∙ ap₂ (λ (b : Bool) (r : Received). b && r.event) below as_given

  pub answered_in_law : answered_in h x i ≡ gives.answer
  unfolding hears answered
  answered_in_law =
      heard_answer_law g x.sample (effects h x.access) i (omega (arith, m, l))
      ∙ ap₂ (λ (b : Bool) (r : Received). b && r.answer) below as_given

  -- its receiver after the tick: a ping that fails closes
  pub after_receiver : receiver (after h x) i ≡ closed_if (fails_in h x i) gives.receiver
  unfolding hears after links_after receiver_after receiver_timed fails open_now opens
  after_receiver =
      heard_receiver g x.sample (effects h x.access) i (omega (arith, m, l))
      ∙ ap₂ (λ (b : Bool) (r : Received). closed_if (b && (fails_alert (meets_in h x) g.links.turn && eqb i g.links.turn.alert)) (cond b r.receiver (receiver g i))) below as_given
      ∙ ap (λ (z : Links). closed_if (fails_alert (meets_in h x) z.turn && eqb i z.turn.alert) gives.receiver) (acted_links h x.access)

  -- and where none fails
  pub after_unfailed : fails_in h x i ≡ false → receiver (after h x) i ≡ gives.receiver
  after_unfailed e =
      after_receiver ∙ ap (λ (b : Bool). closed_if b gives.receiver) e
      ∙ same_receiver _ gives.receiver refl refl (and-true gives.receiver.pending)
