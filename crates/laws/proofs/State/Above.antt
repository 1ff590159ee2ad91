-- N never changes, and no tick changes what the state holds at N and above.
-- Assumes nothing.
use Prim.Native.Nat.{ℕ, ◌*◌, ◌≤◌, ◌<◌}
use mathlib.Core.Path.{◌≡◌, refl, sym, ap, ◌∙◌, subst}
use mathlib.Core.Bool.{Bool, true, false, ◌&&◌}
use mathlib.Core.List.{List, [], ◌∷◌}
use native.Mathlib.Omega.{arith}
use borrow.Author.Tests.{ltb-true, lt-ltb, eqb-true, ne_eqb}
use lib.Dec.{eqb, ltb}
use lib.ListN.{get_or, get_or-replicate}
use Rattle.bits.proofs.IndexLaws.{and-true}
use Rattle.link_rules.specs.Receiver.{new_receiver}
use Rattle.rules.specs.Access.{store, field_stored, named, acted, effects}
use Rattle.rules.specs.Map.{decode, number_of, is_register}
use Rattle.rules.specs.Run.{run}
use Rattle.rules.specs.Samples.{alert_event, sampled}
use Rattle.rules.specs.Stages.{stage_in, stage}
use Rattle.rules.specs.State.{most, words, alert, alert_column, receiver, receiver_in, with_stages, with_links, new_handler, bad_count, made}
use Rattle.rules.specs.Tick.{hears, stepped, lines, links_after, reached, after, tick, ticked}
use Rattle.rules.specs.Valid.{valid}
use Rattle.rules.specs.declared.Access.{Access}
use Rattle.rules.specs.declared.Access.TheVariants.{Nothing, Read, Write, Malformed}
use Rattle.rules.specs.declared.Alerts.{Alerts}
use Rattle.rules.specs.declared.Effects.{Effects}
use Rattle.rules.specs.declared.Field.{Field}
use Rattle.rules.specs.declared.Handler.{Handler}
use Rattle.rules.specs.declared.Heard.{Heard}
use Rattle.rules.specs.declared.Input.{Input}
use Rattle.rules.specs.declared.Made.{Made}
use Rattle.rules.specs.declared.Links.{Links}
use Rattle.rules.specs.declared.Register.{Register}
use Rattle.rules.specs.declared.Register.TheVariants.{Alert}
use Rattle.rules.specs.declared.Stages.{Stages}
use Rattle.rules.specs.declared.Ticked.{Ticked}
use Rattle.laws.specs.Above.{SameAbove, EntriesNew, at_reset}
use Rattle.laws.specs.InMap.{in_map}
use Rattle.laws.specs.Columns.{same_field}
use Rattle.laws.specs.RegisterFile.{stores, stored_by}
use Rattle.laws.specs.StageFile.{names}
use Rattle.laws.proofs.Map.Cases.{pick, by_kind}
use Rattle.laws.proofs.Map.MapLaws.{decode_in_map, number_eq}
use Rattle.laws.proofs.Map.Named.{named_in_map}
use Rattle.laws.proofs.Access.Step1.{acted_is}
use Rattle.laws.proofs.Valid.KeepsValid.{new_stage}
use Rattle.laws.proofs.Stages.StageFile.{in_most, stage_other}
use Rattle.laws.proofs.Stages.StageLaws.{number_none}
use Rattle.laws.proofs.State.StateLaws.{alert_store, alert_sampled}
use Rattle.laws.proofs.Samples.Heard.{receiver_by, heard_above}

-- a state with the same N, alerts, links and stages
kept : (h g : Handler) → g.n ≡ h.n → g.alerts ≡ h.alerts → g.links ≡ h.links → g.stages ≡ h.stages → SameAbove h g
kept h g n a r s =
    record {
      n = n;
      alerts = λ f i l b. ap (λ (x : Alerts). get_or (alert_column f x) i 0) a;
      receivers = λ i l b. ap (λ (x : Links). receiver_in x.receivers i) r;
      stages = λ f i l b. ap (λ (x : Stages). stage_in x (Alert f i)) s;
    }

same : (h : Handler) → SameAbove h h
same h = kept h h refl refl refl refl

-- one change after another
then : (h g k : Handler) → SameAbove h g → SameAbove g k → SameAbove h k
then h g k a b =
    record {
      n = b.n ∙ a.n;
      alerts = λ f i l c. b.alerts f i (omega (arith, a.n)) c ∙ a.alerts f i l c;
      receivers = λ i l c. b.receivers i (omega (arith, a.n)) c ∙ a.receivers i l c;
      stages = λ f i l c. b.stages f i (omega (arith, a.n)) c ∙ a.stages f i l c;
    }

-- ── step 1 ──

-- a write to alert j leaves the alerts above it
alert_kept : (h : Handler) (g : Field) (j v : ℕ) (f : Field) (i : ℕ) → j < i → i < most → alert (store h (Alert g j) v) f i ≡ alert h f i
alert_kept h g j v f i l b =
    alert_store h g j v f i b
    ∙ pick (λ (m : ℕ). m ≡ alert h f i) (same_field g f && eqb i j) (field_stored g (alert h g j) v) (alert h f i)
    (λ e. absurd (omega (arith, eqb-true i j (and-true (same_field g f) (eqb i j) e).1))) (λ _. refl)

-- a register number names no alert at N and above
store_above : (h : Handler) (q : Register) (v : ℕ) → (is_register q ≡ true → in_map h.n q ≡ true) → SameAbove h (store h q v)
unfolding store
store_above h q v =
    by_kind (λ q. (is_register q ≡ true → in_map h.n q ≡ true) → SameAbove h (store h q v)) (λ o e. kept h _ refl refl refl refl) (λ g j e. kept h _ refl refl refl refl)
    (λ g j e. record {
      n = refl;
      alerts = λ f i l b. alert_kept h g j v f i (omega (arith, ltb-true j h.n (e refl))) b;
      receivers = λ i l b. refl;
      stages = λ f i l b. refl;
    })
    (λ s k e. kept h _ refl refl refl refl) (λ e. same h) q

stored_above : (h : Handler) (x : Access) → SameAbove h (stored_by h x)
stored_above h Nothing = same h
stored_above h (Read r) = same h
stored_above h (Write r v) =
    pick (SameAbove h) (stores h r v) (store h (decode h.n r) v) h (λ _. store_above h (decode h.n r) v (decode_in_map h.n r)) (λ _. same h)
stored_above h Malformed = same h

-- and so no stage of one
unnamed : (h : Handler) (x : Access) (f : Field) (i : ℕ) → h.n ≤ i → i < most → names h x (Alert f i) ≡ false
unnamed h x f i l b = ne_eqb (number_of (named h x)) (number_of (Alert f i)) (λ (e : number_of (named h x) ≡ number_of (Alert f i)). go (is_register (named h x)) refl e)
  where
    alert : in_map most (Alert f i) ≡ true
    alert = lt-ltb i most b

    go : (t : Bool) → is_register (named h x) ≡ t → number_of (named h x) ≡ number_of (Alert f i) → ⊥
    go true d e =
        let a : in_map h.n (named h x) ≡ true = named_in_map h x d in
        let q : named h x ≡ Alert f i = number_eq most (named h x) (Alert f i) (omega arith) (in_most h.n (named h x) (omega arith) a) alert e in
        let o : i < h.n = ltb-true i h.n (sym (ap (in_map h.n) q) ∙ a) in
        omega arith
    go false d e = number_none (named h x) (Alert f i) d alert e

restaged_above : (h g : Handler) (s : Stages) → SameAbove h g
    → ((f : Field) (i : ℕ) → h.n ≤ i → i < most → stage_in s (Alert f i) ≡ stage h (Alert f i)) → SameAbove h (with_stages s g)
restaged_above h g s a f = record { n = a.n; alerts = a.alerts; receivers = a.receivers; stages = f }

acted_above : (h : Handler) (x : Access) → SameAbove h (acted h x)
acted_above h x =
    subst (SameAbove h) (sym (acted_is h x))
    (restaged_above h (stored_by h x) (acted h x).stages (stored_above h x)
    (λ f i l b. stage_other h (omega arith) (Alert f i) (lt-ltb i most b) x (unnamed h x f i l b)))

-- ── steps 2 to 4: samples at N and above count for nothing ──

module _ (g : Handler) (v : Heard) (fx : Effects) where
  no_event : (i : ℕ) → g.n ≤ i → alert_event g v i ≡ true → ⊥
  unfolding alert_event
  no_event i l e = omega (arith, ltb-true i g.n (and-true (ltb i g.n) _ e).0)

  sampled_alerts : (f : Field) (i : ℕ) → g.n ≤ i → i < most → alert (sampled g v) f i ≡ alert g f i
  sampled_alerts f i l b =
      alert_sampled g v f i b
      ∙ pick (λ (m : ℕ). m ≡ alert g f i) (same_field Field.Cause f && alert_event g v i) 1 (alert g f i)
      (λ e. absurd (no_event i l (and-true (same_field Field.Cause f) (alert_event g v i) e).1)) (λ _. refl)

  stepped_above : SameAbove g (stepped g v fx)
  unfolding stepped sampled
  stepped_above = record { n = refl; alerts = sampled_alerts; receivers = λ i l b. refl; stages = λ f i l b. refl }

-- links that leave the receivers there
linked_above : (h g : Handler) (x : Links) → SameAbove h g
    → ((i : ℕ) → h.n ≤ i → i < words * 64 → receiver_in x.receivers i ≡ receiver h i) → SameAbove h (with_links x g)
linked_above h g x a r = record { n = a.n; alerts = a.alerts; receivers = r; stages = a.stages }

-- ── ticks ──

-- steps 1 to 4
pub after_above : (h : Handler) (x : Input) → SameAbove h (after h x)
unfolding hears after links_after
after_above h x =
    let g : Handler = acted h x.access in
    then h g (after h x) (acted_above h x.access)
    (linked_above g (reached h x) (links_after g (hears h x) (lines (reached h x))) (stepped_above g (hears h x) (effects h x.access))
    (heard_above g x.sample (effects h x.access)))

-- a tick, refused or not
pub ticked_above : (h : Handler) (x : Input) → SameAbove h (ticked h x).handler
unfolding ticked tick
ticked_above h x = pick (λ (t : Ticked). SameAbove h t.handler) (valid h) _ _ (λ _. after_above h x) (λ _. same h)

-- any number of ticks
pub run_above : (h : Handler) (xs : List Input) → SameAbove h (run h xs)
unfolding run
run_above h [] = same h
run_above h (x ∷ xs) = then h (ticked h x).handler (run (ticked h x).handler xs) (ticked_above h x) (run_above (ticked h x).handler xs)

-- ── a new handler has them at reset, also where refusal 6 is met ──

new_alerts : (n : ℕ) (f : Field) (i : ℕ) → i < most → alert (new_handler n) f i ≡ at_reset f
unfolding new_handler
new_alerts n Field.Regwen i l = get_or-replicate most i 1 0 l
new_alerts n Field.En i l = get_or-replicate most i 0 0 l
new_alerts n Field.Class i l = get_or-replicate most i 0 0 l
new_alerts n Field.Cause i l = get_or-replicate most i 0 0 l

pub new_receiver_law : (n i : ℕ) → i < 64 * words → receiver (new_handler n) i ≡ new_receiver
unfolding new_handler
new_receiver_law n i l = receiver_by (λ j. new_receiver) i (omega (arith, l))

pub made_entries : (n : ℕ) → EntriesNew (made n).handler
unfolding made
made_entries n =
    pick (λ (m : Made). EntriesNew m.handler) (bad_count n) _ _
    (λ _. record { alerts = new_alerts 0; receivers = new_receiver_law 0; stages = λ f i l. new_stage 0 (Alert f i) (lt-ltb i most l) })
    (λ _. record { alerts = new_alerts n; receivers = new_receiver_law n; stages = λ f i l. new_stage n (Alert f i) (lt-ltb i most l) })
