-- The parts of the state, made anew one by one, are what `store` and `with_stage` of the rules leave: what a write does to each part by itself.
-- Assumes nothing.
use Prim.Native.Nat.{ℕ, ◌<◌}
use mathlib.Core.Path.{◌≡◌, refl, sym, ◌∙◌}
use mathlib.Core.List.{List}
use native.Mathlib.Decide.{dec_lt}
use native.Mathlib.Omega.{arith}
use lib.ListN.{length}
use lib.Seq.{set_out}
use borrow.Author.Tests.{lt-ltb, le-ltb}
use Rattle.rules.specs.Access.{store}
use Rattle.rules.specs.Stages.{with_stage, with_alert_stages, alert_stages}
use Rattle.rules.specs.State.{most, with_alert_column, alert_column, put}
use Rattle.rules.specs.declared.Alerts.{Alerts}
use Rattle.rules.specs.declared.AlertStages.{AlertStages}
use Rattle.rules.specs.declared.Field.{Field}
use Rattle.rules.specs.declared.Handler.{Handler}
use Rattle.rules.specs.declared.Register.{Register}
use Rattle.rules.specs.declared.Register.TheVariants.{Only, Local, Alert, Block, Unassigned}
use Rattle.rules.specs.declared.Stages.{Stages}
use Rattle.register_file.specs.Parts.{set_in, stored_interrupts, stored_timer, stored_locals, stored_classes, stored_alert, place_of, restaged_timeout, restaged_locals, restaged_classes, code_of}
use Rattle.register_file.proofs.Stores.{set_put}

-- each column has its length
pub record Long (a : Alerts) : Type 0 where
  pub regwen : length a.regwen ≡ most
  pub en : length a.en ≡ most
  pub class : length a.class ≡ most
  pub cause : length a.cause ≡ most

-- the columns with w at a place of each
abbrev pub set_at : Alerts → ℕ → ℕ → ℕ → ℕ → ℕ → Alerts
set_at a i j k l w =
    record { regwen = set_in a.regwen i w; en = set_in a.en j w; class = set_in a.class k w; cause = set_in a.cause l w }

-- a column of the alerts' length, as the definitions state it
set_in_law : (xs : List ℕ) (i w : ℕ) → length xs ≡ most → set_in xs i w ≡ put most xs 0 i w
set_in_law xs i w l = go (dec_lt i most)
  where
    go : Dec (i < most) → set_in xs i w ≡ put most xs 0 i w
    go (yes h) = rw (lt-ltb i most h) (set_put most xs 0 i w l)
    go (no h) = rw (le-ltb i most (omega arith)) (sym (set_out xs i w (omega (arith, l))) ∙ set_put most xs 0 i w l)

module _ (a : Alerts) (w : ℕ) (s : Long a) where
  none_set : set_at a most most most most w ≡ a
  none_set = refl

  one_set : (f : Field) (i : ℕ)
      → set_at a (place_of 0 (Alert f i)) (place_of 1 (Alert f i)) (place_of 2 (Alert f i)) (place_of 3 (Alert f i)) w
      ≡ with_alert_column f (put most (alert_column f a) 0 i w) a
  one_set Field.Regwen i =
      λ t. record { regwen = set_in_law a.regwen i w s.regwen t; en = a.en; class = a.class; cause = a.cause }
  one_set Field.En i =
      λ t. record { regwen = a.regwen; en = set_in_law a.en i w s.en t; class = a.class; cause = a.cause }
  one_set Field.Class i =
      λ t. record { regwen = a.regwen; en = a.en; class = set_in_law a.class i w s.class t; cause = a.cause }
  one_set Field.Cause i =
      λ t. record { regwen = a.regwen; en = a.en; class = a.class; cause = set_in_law a.cause i w s.cause t }

-- ── v stored at register q ──

-- the state h with these alerts, and its other registers as they are after the write
abbrev stored : Handler → Register → ℕ → Alerts → Handler
stored h q v a =
    record {
      n = h.n;
      links = h.links;
      classes = stored_classes q v h.classes;
      alerts = a;
      locals = stored_locals q v h.locals;
      interrupts = stored_interrupts q v h.interrupts;
      timer = stored_timer q v h.timer;
      stages = h.stages;
    }

abbrev pub stored_by : Handler → Register → ℕ → Handler
stored_by h q v = stored h q v (set_at h.alerts (place_of 0 q) (place_of 1 q) (place_of 2 q) (place_of 3 q) (stored_alert q v h.alerts))

pub stored_parts : (h : Handler) (q : Register) (v : ℕ) → Long h.alerts → stored_by h q v ≡ store h q v
unfolding store
stored_parts h (Only o) v s = λ t. stored h (Only o) v (none_set h.alerts 0 s t)
stored_parts h (Local f j) v s = λ t. stored h (Local f j) v (none_set h.alerts 0 s t)
stored_parts h (Alert f i) v s = λ t. stored h (Alert f i) v (one_set h.alerts (stored_alert (Alert f i) v h.alerts) s f i t)
stored_parts h (Block b k) v s = λ t. stored h (Block b k) v (none_set h.alerts 0 s t)
stored_parts h Unassigned v s = λ t. stored h Unassigned v (none_set h.alerts 0 s t)

-- ── the code c at register q's stage ──

abbrev pub set_stages : AlertStages → ℕ → ℕ → ℕ → AlertStages
set_stages a i j c = record { en = set_in a.en i c; class = set_in a.class j c }

module _ (a : AlertStages) (c : ℕ) (e : length a.en ≡ most) (d : length a.class ≡ most) where
  none_staged : set_stages a most most c ≡ a
  none_staged = refl

  one_staged : (f : Field) (i : ℕ) → set_stages a (place_of 1 (Alert f i)) (place_of 2 (Alert f i)) c ≡ with_alert_stages f (put most (alert_stages f a) 0 i c) a
  one_staged Field.Regwen i = none_staged
  one_staged Field.En i = λ t. record { en = set_in_law a.en i c e t; class = a.class }
  one_staged Field.Class i = λ t. record { en = a.en; class = set_in_law a.class i c d t }
  one_staged Field.Cause i = none_staged

abbrev restaged : Stages → Register → ℕ → AlertStages → Stages
restaged s q c a = record { classes = restaged_classes q c s.classes; alerts = a; locals = restaged_locals q c s.locals; timeout = restaged_timeout q c s.timeout }

abbrev pub restaged_by : Stages → Register → ℕ → Stages
restaged_by s q c = restaged s q c (set_stages s.alerts (place_of 1 q) (place_of 2 q) (code_of q c))

pub restaged_parts : (s : Stages) (q : Register) (c : ℕ) → length s.alerts.en ≡ most → length s.alerts.class ≡ most → restaged_by s q c ≡ with_stage q c s
unfolding with_stage
restaged_parts s (Only o) c e d = λ t. restaged s (Only o) c (none_staged s.alerts 0 e d t)
restaged_parts s (Local f j) c e d = λ t. restaged s (Local f j) c (none_staged s.alerts 0 e d t)
restaged_parts s (Alert f i) c e d = λ t. restaged s (Alert f i) c (one_staged s.alerts c e d f i t)
restaged_parts s (Block b k) c e d = λ t. restaged s (Block b k) c (none_staged s.alerts 0 e d t)
restaged_parts s Unassigned c e d = λ t. restaged s Unassigned c (none_staged s.alerts 0 e d t)
