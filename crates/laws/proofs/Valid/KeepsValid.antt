-- A tick never leads to a state that refusal 7 would meet: a new handler is valid, and every step of a tick keeps it so.
-- Assumes nothing.
use Prim.Native.Nat.{ℕ, ◌^◌, ◌≤◌, ◌<◌}
use mathlib.Core.Path.{◌≡◌, refl, sym, ap, ◌∙◌, subst}
use mathlib.Core.Bool.{Bool, true, false, false≢true, ◌&&◌, ◌||◌}
use mathlib.Core.List.{List, [], ◌∷◌}
use native.Mathlib.Omega.{arith}
use borrow.Author.Tests.{ltb-true, ltb-false}
use lib.Dec.{eqb, ltb}
use lib.ListN.{get_or, replicate, get_or-replicate}
use Rattle.bits.proofs.BitLaws.{bit_none, bits_of_lt}
use Rattle.bits.proofs.IndexLaws.{and-true, at_each}
use Rattle.class_rules.specs.Class.{no_class, state_of}
use Rattle.class_rules.specs.Step.{class_step}
use Rattle.link_rules.specs.Receiver.{new_receiver}
use Rattle.link_rules.specs.declared.Receiver.{Receiver}
use Rattle.rules.specs.Access.{acted, effects}
use Rattle.rules.specs.Map.{field_bits}
use Rattle.rules.specs.Run.{run}
use Rattle.rules.specs.Samples.{sampled, marked, alert_event, occurs}
use Rattle.rules.specs.Stages.{setting_stage, no_class_stages, stage_in, stage}
use Rattle.rules.specs.State.{most, local_count, class_count, local, alert, class_at, is_on, reset_class, with_links, new_handler, bad_count, made}
use Rattle.rules.specs.Tick.{signals, stepped, lines, links_after, reached, hears, after, tick, ticked}
use Rattle.rules.specs.Valid.{valid}
use Rattle.rules.specs.declared.Field.{Field}
use Rattle.rules.specs.declared.Effects.{Effects}
use Rattle.rules.specs.declared.Handler.{Handler}
use Rattle.rules.specs.declared.Heard.{Heard}
use Rattle.rules.specs.declared.Input.{Input}
use Rattle.rules.specs.declared.Links.{Links}
use Rattle.rules.specs.declared.Made.{Made}
use Rattle.rules.specs.declared.Register.{Register}
use Rattle.rules.specs.declared.Register.TheVariants.{Only, Local, Alert}
use Rattle.rules.specs.declared.Setting.{Setting}
use Rattle.rules.specs.declared.Ticked.{Ticked}
use Rattle.laws.specs.Columns.{same_field}
use Rattle.laws.specs.Facts.{ClassValid, PingsOwned, Valid}
use Rattle.laws.specs.InMap.{in_map, setting_exists}
use Rattle.laws.proofs.Map.Cases.{pick, by_kind, by_single, by_field, by_setting, never}
use Rattle.laws.proofs.Samples.Heard.{receiver_by}
use Rattle.laws.proofs.Stages.StageFile.{in_most}
use Rattle.laws.proofs.State.StateLaws.{local_sampled, alert_sampled}
use Rattle.laws.proofs.Tick.Turns.{after_owned}
use Rattle.laws.proofs.Valid.KeepsAccess.{acted_valid}
use Rattle.laws.proofs.Valid.KeepsClass.{step_valid}
use Rattle.laws.proofs.Valid.ValidLaws.{facts, is_valid_law}

-- ── steps 2 to 4 ──

-- a CAUSE that is set fits
marked_fits : (f : Field) (on : Bool) (x : ℕ) → x < 2 ^ field_bits f → marked (same_field Field.Cause f && on) x < 2 ^ field_bits f
marked_fits Field.Regwen on x l = l
marked_fits Field.En on x l = l
marked_fits Field.Class on x l = l
marked_fits Field.Cause on x l = pick (λ n. n < 2) on 1 x (λ _. omega arith) (λ _. l)

stepped_facts : (g : Handler) (v : Heard) (fx : Effects) → Valid g → Valid (stepped g v fx)
unfolding stepped sampled
stepped_facts g v fx t =
    record {
      n = t.n;
      state = bits_of_lt 4 _;
      enable = t.enable;
      locals = λ f j b. rw (local_sampled g v f j b) (marked_fits f (occurs g v j) (local g f j) (t.locals f j b));
      alerts = λ f i b. rw (alert_sampled g v f i (omega (arith, t.n))) (marked_fits f (alert_event g v i) (alert g f i) (t.alerts f i b));
      classes = λ k b. rw (at_each class_count (λ j. class_step (signals g v fx j) (class_at g j)) k no_class b) (step_valid (signals g v fx k) (class_at g k) (t.classes k b));
      timer = t.timer;
      pings = t.pings;
      stages = t.stages;
    }

-- steps 2 to 4 keep a state valid, whatever the wires and the clears
pub stepped_valid : (g : Handler) (v : Heard) (fx : Effects) → valid g ≡ true → valid (stepped g v fx) ≡ true
stepped_valid g v fx e = is_valid_law (stepped g v fx) (stepped_facts g v fx (facts g e))

-- and so do links whose open pings are the turn's
linked_facts : (l : Links) (g : Handler) → PingsOwned g.n (is_on g) l → Valid g → Valid (with_links l g)
linked_facts l g o t =
    record {
      n = t.n;
      state = t.state;
      enable = t.enable;
      locals = t.locals;
      alerts = t.alerts;
      classes = t.classes;
      timer = t.timer;
      pings = o;
      stages = t.stages;
    }

pub linked_valid : (l : Links) (g : Handler) → PingsOwned g.n (is_on g) l → valid g ≡ true → valid (with_links l g) ≡ true
linked_valid l g o e = is_valid_law (with_links l g) (linked_facts l g o (facts g e))

-- ── ticks ──

-- steps 1 to 4
pub after_valid : (h : Handler) (x : Input) → valid h ≡ true → valid (after h x) ≡ true
unfolding after
after_valid h x e =
    let t = facts h e in
    linked_valid (links_after (acted h x.access) (hears h x) (lines (reached h x))) (reached h x)
    (after_owned h x t.n t.timer.enable t.pings)
    (stepped_valid (acted h x.access) (hears h x) (effects h x.access) (acted_valid h x.access e))

-- a tick
pub ticked_valid : (h : Handler) (x : Input) → valid h ≡ true → valid (ticked h x).handler ≡ true
unfolding ticked tick
ticked_valid h x e = pick (λ (t : Ticked). valid t.handler ≡ true) (valid h) _ _ (λ _. after_valid h x e) (λ _. e)

-- any number of ticks
pub run_valid : (h : Handler) (xs : List Input) → valid h ≡ true → valid (run h xs) ≡ true
unfolding run
run_valid h [] e = e
run_valid h (x ∷ xs) e = run_valid (ticked h x).handler xs (ticked_valid h x e)

-- ── a new handler ──

-- a list of one value
same_fits : (n a b i : ℕ) → a < b → i < n → get_or (replicate n a) i 0 < b
same_fits n a b i l h = subst (λ (x : ℕ). x < b) (sym (get_or-replicate n i a 0 h)) l

-- a class at reset
reset_valid : ClassValid reset_class
unfolding state_of
reset_valid =
    record {
      regwen = omega arith;
      ctrl = omega arith;
      clrwen = omega arith;
      accum = omega arith;
      thresh = omega arith;
      timeout = omega arith;
      lengths = λ p h. same_fits 4 0 (2 ^ 32) p (omega arith) h;
      count = omega arith;
      state = refl;
      suits = refl;
    }

new_locals : (n : ℕ) (f : Field) (j : ℕ) → j < local_count → local (new_handler n) f j < 2 ^ field_bits f
unfolding new_handler
new_locals n Field.Regwen j = same_fits local_count 1 2 j (omega arith)
new_locals n Field.En j = same_fits local_count 0 2 j (omega arith)
new_locals n Field.Class j = same_fits local_count 0 4 j (omega arith)
new_locals n Field.Cause j = same_fits local_count 0 2 j (omega arith)

new_alerts : (n : ℕ) (f : Field) (i : ℕ) → i < most → alert (new_handler n) f i < 2 ^ field_bits f
unfolding new_handler
new_alerts n Field.Regwen i = same_fits most 1 2 i (omega arith)
new_alerts n Field.En i = same_fits most 0 2 i (omega arith)
new_alerts n Field.Class i = same_fits most 0 4 i (omega arith)
new_alerts n Field.Cause i = same_fits most 0 2 i (omega arith)

-- no stage is open
new_block : (t : Setting) → setting_exists t ≡ true → setting_stage t (record { lengths = replicate 4 0; timeout = 0; ctrl = 0; thresh = 0 }) ≡ 0
new_block =
    by_setting (λ t. setting_exists t ≡ true → setting_stage t (record { lengths = replicate 4 0; timeout = 0; ctrl = 0; thresh = 0 }) ≡ 0) (λ _. refl) (λ _. refl)
    (λ _. refl) (λ _. refl) (λ _. refl) (λ _. refl) (λ _. refl) (λ p e. get_or-replicate 4 p 0 0 (ltb-true p 4 e)) (λ _. refl) (λ _. refl)

pub new_stage : (n : ℕ) (q : Register) → in_map most q ≡ true → stage (new_handler n) q ≡ 0
unfolding new_handler stage_in
new_stage n =
    by_kind P (by_single (λ o. P (Only o)) (λ a. refl) (λ a. refl) (λ a. refl) (λ a. refl) (λ a. refl) (λ a. refl))
    (λ f j. by_field (λ f. P (Local f j)) (λ a. refl) (λ a. get_or-replicate local_count j 0 0 (ltb-true j local_count a))
    (λ a. get_or-replicate local_count j 0 0 (ltb-true j local_count a)) (λ a. refl) f)
    (λ f i. by_field (λ f. P (Alert f i)) (λ a. refl) (λ a. get_or-replicate most i 0 0 (ltb-true i most a))
    (λ a. get_or-replicate most i 0 0 (ltb-true i most a)) (λ a. refl) f)
    (λ t k a. let b = and-true (ltb k class_count) (setting_exists t) a in
    ap (setting_stage t) (get_or-replicate class_count k _ no_class_stages (ltb-true k class_count b.0)) ∙ new_block t b.1) (λ a. refl)
  where
    P : Register → Type 0
    P q = in_map most q ≡ true → stage (new_handler n) q ≡ 0

-- no ping is open
new_pings : (n : ℕ) → n ≤ most → PingsOwned n (is_on (new_handler n)) (new_handler n).links
unfolding new_handler
new_pings n l =
    record {
      alert = λ i b o. never (sym (ap (λ (r : Receiver). r.pending) (receiver_by (λ j. new_receiver) i (omega arith))) ∙ o);
      line = λ e b o. never (sym (bit_none e) ∙ o);
    }

new_facts : (n : ℕ) → n ≤ most → Valid (new_handler n)
unfolding new_handler
new_facts n l =
    record {
      n = l;
      state = omega arith;
      enable = omega arith;
      locals = new_locals n;
      alerts = λ f i h. new_alerts n f i (omega arith);
      classes = λ k h. subst ClassValid (sym (get_or-replicate class_count k reset_class no_class h)) reset_valid;
      timer = record { regwen = omega arith; timeout = omega arith; enable = omega arith };
      pings = new_pings n l;
      stages = λ q a. rw (new_stage n q (in_most n q l a)) (omega arith);
    }

-- a count that refusal 6 does not meet
below_most : (n : ℕ) → bad_count n ≡ false → n ≤ most
below_most n e = go (eqb n 0) e
  where
    go : (b : Bool) → (b || ltb most n) ≡ false → n ≤ most
    go true e = absurd (false≢true (sym e))
    go false e = ltb-false most n e

-- what is made is valid, also where refusal 6 is met
pub made_valid : (n : ℕ) → valid (made n).handler ≡ true
unfolding made
made_valid n =
    pick (λ (m : Made). valid m.handler ≡ true) (bad_count n) _ _
    (λ _. is_valid_law (new_handler 0) (new_facts 0 (omega arith)))
    (λ e. is_valid_law (new_handler n) (new_facts n (below_most n e)))
