-- Step 1 of a tick keeps a state valid: an accepted write fits its field.
-- Assumes nothing.
use Prim.Native.Nat.{ℕ, ◌+◌, ◌^◌, ◌≤◌, ◌<◌}
use mathlib.Core.Path.{◌≡◌, refl, sym, ap, ◌∙◌, subst}
use mathlib.Core.Bool.{true, cond, ◌&&◌}
use native.Mathlib.Omega.{arith}
use borrow.Author.Tests.{eqb-true, ltb-true, not-false}
use lib.Dec.{eqb}
use Rattle.std.specs.Prelude.{Ok, Err}
use Rattle.bits.proofs.BitLaws.{bits_of_lt}
use Rattle.bits.proofs.IndexLaws.{and-true}
use Rattle.rules.specs.Access.{accepted, accepts, verdict, is_first, store, field_stored, with_interrupt, with_ping, with_setting, drops, acted}
use Rattle.rules.specs.Map.{decode, number_of, bits, single_bits, field_bits, setting_bits}
use Rattle.rules.specs.Stages.{stage, stage_in}
use Rattle.rules.specs.State.{most, local_count, class_count, local, alert, class_at, is_on, with_stages}
use Rattle.rules.specs.Valid.{valid}
use Rattle.rules.specs.declared.Access.{Access}
use Rattle.rules.specs.declared.Access.TheVariants.{Nothing, Read, Write, Malformed}
use Rattle.rules.specs.declared.Field.{Field}
use Rattle.rules.specs.declared.Handler.{Handler}
use Rattle.rules.specs.declared.Register.{Register}
use Rattle.rules.specs.declared.Register.TheVariants.{Only, Local, Alert, Block, Unassigned}
use Rattle.rules.specs.declared.Setting.{Setting}
use Rattle.rules.specs.declared.Single.{Single}
use Rattle.rules.specs.declared.Single.TheVariants.{IntrState, IntrEnable, IntrTest, PingRegwen, PingTimeout, PingEnable}
use Rattle.rules.specs.declared.Stages.{Stages}
use Rattle.rules.specs.Answer.{Verdict}
use Rattle.laws.specs.Columns.{same_field}
use Rattle.laws.specs.Facts.{ClassValid, TimerValid, PingsOwned, Valid}
use Rattle.laws.specs.InMap.{in_map}
use Rattle.laws.specs.RegisterFile.{stores, stored_by}
use Rattle.laws.specs.StageFile.{names, stage_given, stage_by}
use Rattle.laws.proofs.Map.Cases.{pick}
use Rattle.laws.proofs.Map.MapLaws.{number_eq}
use Rattle.laws.proofs.Access.Enabling.{stored_on}
use Rattle.laws.proofs.Access.Refusals.{unrefused}
use Rattle.laws.proofs.Access.Step1.{acted_is}
use Rattle.laws.proofs.Access.RegisterFile.{class_stored_law, stored_n, stores_accepted, accepted_in_map}
use Rattle.laws.proofs.Stages.StageFile.{in_most, acted_stage}
use Rattle.laws.proofs.State.StateLaws.{same_field_law, local_store, alert_store}
use Rattle.laws.proofs.Valid.KeepsClass.{setting_valid}
use Rattle.laws.proofs.Valid.PingFits.{owned_on}
use Rattle.laws.proofs.Valid.ValidLaws.{facts, is_valid_law}

-- a field that is written holds no more than its bits
field_fits : (f : Field) (old v : ℕ) → v < 2 ^ field_bits f → old < 2 ^ field_bits f → field_stored f old v < 2 ^ field_bits f
field_fits Field.Regwen old v l o = l
field_fits Field.En old v l o = l
field_fits Field.Class old v l o = l
field_fits Field.Cause old v l o = pick (λ n. n < 2) (eqb v 1) 0 old (λ _. omega arith) (λ _. o)

-- register g at j, where v is written to register f at i
chosen_fits : (f g : Field) (i j v old x : ℕ) → v < 2 ^ field_bits f → (j ≡ i → old < 2 ^ field_bits f) → x < 2 ^ field_bits g → cond (same_field f g && eqb j i) (field_stored f old v) x < 2 ^ field_bits g
chosen_fits f g i j v old x l o b =
    pick (λ n. n < 2 ^ field_bits g) (same_field f g && eqb j i) (field_stored f old v) x
    (λ e.
    let a = and-true (same_field f g) (eqb j i) e in
    subst (λ (k : Field). field_stored f old v < 2 ^ field_bits k) (same_field_law f g a.0) (field_fits f old v l (o (eqb-true j i a.1))))
    (λ _. b)

-- every register of a valid state, where v is written to one and fits it
module _ (h : Handler) (t : Valid h) (v : ℕ) where
  single_store : (o : Single) → v < 2 ^ single_bits o
      → ((with_interrupt o v h.interrupts).state < 2 ^ 4) × ((with_interrupt o v h.interrupts).enable < 2 ^ 4)
  single_store IntrState l = (bits_of_lt 4 _, t.enable)
  single_store IntrEnable l = (t.state, l)
  single_store IntrTest l = (bits_of_lt 4 _, t.enable)
  single_store PingRegwen l = (t.state, t.enable)
  single_store PingTimeout l = (t.state, t.enable)
  single_store PingEnable l = (t.state, t.enable)

  timer_store : (o : Single) → v < 2 ^ single_bits o → TimerValid (with_ping o v h.timer)
  timer_store IntrState l = t.timer
  timer_store IntrEnable l = t.timer
  timer_store IntrTest l = t.timer
  timer_store PingRegwen l = record { regwen = l; timeout = t.timer.timeout; enable = t.timer.enable }
  timer_store PingTimeout l = record { regwen = t.timer.regwen; timeout = l; enable = t.timer.enable }
  timer_store PingEnable l =
      record {
        regwen = t.timer.regwen;
        timeout = t.timer.timeout;
        enable = pick (λ n. n < 2) (eqb v 0) h.timer.enable v (λ _. t.timer.enable) (λ _. l);
      }

  -- a timer that is on stays on, so that its open pings are still its turn's
  pings_store : (o : Single) → v < 2 ^ single_bits o → PingsOwned h.n (is_on (store h (Only o) v)) h.links
  unfolding bits
  pings_store o l = owned_on h.n (is_on h) (is_on (store h (Only o) v)) _ _ _ (stored_on h v (Only o) l) t.pings

  locals_store : (f : Field) (i : ℕ) → v < 2 ^ field_bits f → (g : Field) (j : ℕ) → j < local_count → local (store h (Local f i) v) g j < 2 ^ field_bits g
  locals_store f i l g j b =
      rw (local_store h f i v g j b)
      (chosen_fits f g i j v (local h f i) (local h g j) l (λ e. let c : i < local_count = omega arith in t.locals f i c) (t.locals g j b))

  alerts_store : (f : Field) (i : ℕ) → v < 2 ^ field_bits f → (g : Field) (j : ℕ) → j < h.n → alert (store h (Alert f i) v) g j < 2 ^ field_bits g
  alerts_store f i l g j b =
      rw (alert_store h f i v g j (omega (arith, t.n)))
      (chosen_fits f g i j v (alert h f i) (alert h g j) l (λ e. let c : i < h.n = omega arith in t.alerts f i c) (t.alerts g j b))

  classes_store : (s : Setting) (i : ℕ) → v < 2 ^ setting_bits s → (k : ℕ) → k < class_count → ClassValid (class_at (store h (Block s i) v) k)
  classes_store s i l k b =
      rw (class_stored_law h (Block s i) v k b)
      (pick ClassValid (eqb k i) (with_setting s v (class_at h k)) (class_at h k) (λ _. setting_valid s v (class_at h k) l (t.classes k b)) (λ _. t.classes k b))

-- a value that fits, stored
store_valid : (h : Handler) (q : Register) (v : ℕ) → v < 2 ^ bits q → Valid h → Valid (store h q v)
unfolding store bits
store_valid h (Only o) v l t =
    let s = single_store h t v o l in
    record {
      n = t.n;
      state = s.0;
      enable = s.1;
      locals = t.locals;
      alerts = t.alerts;
      classes = t.classes;
      timer = timer_store h t v o l;
      pings = pings_store h t v o l;
      stages = t.stages;
    }
store_valid h (Local f i) v l t =
    record { n = t.n; state = t.state; enable = t.enable; locals = locals_store h t v f i l; alerts = t.alerts; classes = t.classes; timer = t.timer; pings = t.pings; stages = t.stages }
store_valid h (Alert f i) v l t =
    record { n = t.n; state = t.state; enable = t.enable; locals = t.locals; alerts = alerts_store h t v f i l; classes = t.classes; timer = t.timer; pings = t.pings; stages = t.stages }
store_valid h (Block s i) v l t =
    record { n = t.n; state = t.state; enable = t.enable; locals = t.locals; alerts = t.alerts; classes = classes_store h t v s i l; timer = t.timer; pings = t.pings; stages = t.stages }
store_valid h Unassigned v l t = t

-- an accepted write fits its field
write_fits : (h : Handler) (r v : ℕ) → accepted h (Write r v) ≡ true → v < 2 ^ bits (decode h.n r)
write_fits h r v e = ltb-true v (2 ^ bits (decode h.n r)) (not-false _ (unrefused h (Write r v) e).width)

-- what it stores
stored_valid : (h : Handler) (x : Access) → Valid h → Valid (stored_by h x)
stored_valid h Nothing t = t
stored_valid h (Read r) t = t
stored_valid h (Write r v) t =
    pick Valid (stores h r v) (store h (decode h.n r) v) h
    (λ e. store_valid h (decode h.n r) v (write_fits h r v (stores_accepted h r v e)) t) (λ _. t)
stored_valid h Malformed t = t

-- whatever the stages, if they fit
restaged_valid : (h : Handler) (s : Stages) → ((q : Register) → in_map h.n q ≡ true → stage_in s q ≤ 2 ^ bits q) → Valid h → Valid (with_stages s h)
restaged_valid h s f t =
    record { n = t.n; state = t.state; enable = t.enable; locals = t.locals; alerts = t.alerts; classes = t.classes; timer = t.timer; pings = t.pings; stages = f }

-- what an accepted access leaves at the register that it names: none, or what an accepted write would store
given_fits : (h : Handler) (x : Access) (q : Register) (old : ℕ) → h.n ≤ most → in_map h.n q ≡ true → names h x q ≡ true
    → accepted h x ≡ true → old ≤ 2 ^ bits q → stage_given h x old ≤ 2 ^ bits q
given_fits h Nothing q old m a e v o = o
given_fits h (Read r) q old m a e v o = omega arith
given_fits h (Write r w) q old m a e v o =
    let i : decode h.n r ≡ q =
    number_eq h.n (decode h.n r) q m (accepted_in_map h r w v) a (eqb-true (number_of (decode h.n r)) (number_of q) e) in
    let l : w < 2 ^ bits q = subst (λ (p : Register). w < 2 ^ bits p) i (write_fits h r w v) in
    pick (λ c. c ≤ 2 ^ bits q) (is_first h (decode h.n r)) (w + 1) 0 (λ _. omega arith) (λ _. omega arith)
given_fits h Malformed q old m a e v o = o

-- and a refused one: none, or what stood there
stage_fits : (h : Handler) (x : Access) (q : Register) → h.n ≤ most → in_map h.n q ≡ true → names h x q ≡ true → stage h q ≤ 2 ^ bits q
    → stage_by (verdict h x) h x (stage h q) ≤ 2 ^ bits q
stage_fits h x q m a e o = go (verdict h x) refl
  where
    go : (t : Verdict) → verdict h x ≡ t → stage_by t h x (stage h q) ≤ 2 ^ bits q
    go (Ok tt) d = given_fits h x q (stage h q) m a e (ap accepts d) o
    go (Err c) d = pick (λ n. n ≤ 2 ^ bits q) (drops c) 0 (stage h q) (λ _. omega arith) (λ _. o)

acted_stages : (h : Handler) (x : Access) → Valid h → (q : Register) → in_map h.n q ≡ true → stage (acted h x) q ≤ 2 ^ bits q
acted_stages h x t q a =
    rw (acted_stage h t.n q (in_most h.n q t.n a) x)
    (pick (λ n. n ≤ 2 ^ bits q) (names h x q) _ _ (λ e. stage_fits h x q t.n a e (t.stages q a)) (λ _. t.stages q a))

acted_facts : (h : Handler) (x : Access) → Valid h → Valid (acted h x)
acted_facts h x t =
    subst Valid (sym (acted_is h x))
    (restaged_valid (stored_by h x) (acted h x).stages
    (λ q a. acted_stages h x t q (ap (λ (n : ℕ). in_map n q) (sym (stored_n h x)) ∙ a)) (stored_valid h x t))

-- step 1 keeps a state valid
pub acted_valid : (h : Handler) (x : Access) → valid h ≡ true → valid (acted h x) ≡ true
acted_valid h x e = is_valid_law (acted h x) (acted_facts h x (facts h e))
