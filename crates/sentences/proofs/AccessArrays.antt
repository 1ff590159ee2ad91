-- Step 1 of the rules leaves the arrays of the state their lengths.
-- Assumes nothing.
use Prim.Native.Nat.{ℕ, ◌+◌, ◌<◌}
use mathlib.Core.Path.{◌≡◌, ap, ◌∙◌}
use mathlib.Core.Bool.{Bool, true, false, cond}
use mathlib.Core.List.{List}
use lib.Dec.{eqb}
use lib.ListN.{get_or, length, replicate, length-replicate, get_or-replicate}
use Rattle.bits.proofs.IndexLaws.{length_each}
use Rattle.class_rules.specs.Class.{no_class}
use Rattle.class_rules.specs.declared.Class.{Class}
use Rattle.laws.specs.Block.{class_stored}
use Rattle.laws.specs.RegisterFile.{stored_by}
use Rattle.laws.proofs.Map.Cases.{pick, by_kind, by_field}
use Rattle.laws.proofs.State.ColumnLaws.{local_column_law, alert_column_law}
use Rattle.laws.proofs.Access.RegisterFile.{class_stored_law}
use Rattle.laws.proofs.Stages.StageFile.{stages_either}
use Rattle.laws.proofs.Stages.StageLaws.{class_put}
use Rattle.laws.proofs.Access.Step1.{acted_but_stages}
use Rattle.rules.specs.Access.{field_stored, store, with_setting, acted, named}
use Rattle.rules.specs.Stages.{local_stages, alert_stages, no_class_stages, is_open, class_stages, with_setting_stage, with_stage, dropped}
use Rattle.rules.specs.State.{put, field_index, local, alert, class_at, local_column, alert_column, with_stages, reset_class, new_handler}
use Rattle.rules.specs.declared.Access.{Access}
use Rattle.rules.specs.declared.ClassStages.{ClassStages}
use Rattle.rules.specs.declared.Field.{Field}
use Rattle.rules.specs.declared.Handler.{Handler}
use Rattle.rules.specs.declared.Register.{Register}
use Rattle.rules.specs.declared.Register.TheVariants.{Only, Local, Alert, Block, Unassigned}
use Rattle.rules.specs.declared.Stages.{Stages}
use Rattle.sentences.specs.AccessArrays.{Sized}
use Rattle.sentences.specs.Raw.{class_of, local_list, alert_list}
use Rattle.sentences.proofs.AccessStays.{stored_either}

-- a list with an entry put
put_length : {A : Type 0} (n : ℕ) (xs : List A) (d : A) (i : ℕ) (v : A) → length (put n xs d i v) ≡ n
unfolding put
put_length n xs d i v = length_each n (λ j. cond (eqb j i) v (get_or xs j d))

-- one of two lists of n
either_length : {A : Type 0} (b : Bool) (n : ℕ) (xs ys : List A) → length xs ≡ n → length ys ≡ n → length (cond b xs ys) ≡ n
either_length true n xs ys e f = e
either_length false n xs ys e f = f

-- ── the registers ──

record Columns (g : Handler) : Type 0 where
  alerts : (f : Field) → length (alert_column f g.alerts) ≡ 248
  locals : (f : Field) → length (local_column f g.locals) ≡ 7
  classes : length g.classes ≡ 4
  lengths : (k : ℕ) → k < 4 → length (class_of g k).lengths ≡ 4

module _ (h : Handler) (v : ℕ) (s : Columns h) where
  alert_stored : (g : Field) (i : ℕ) (f : Field) → length (alert_column f (store h (Alert g i) v).alerts) ≡ 248
  unfolding store
  alert_stored g i f =
      let x : List ℕ = put 248 (alert_column g h.alerts) 0 i (field_stored g (alert h g i) v) in
      ap length (alert_column_law g f x h.alerts)
      ∙ either_length (eqb (field_index g) (field_index f)) 248 x (alert_column f h.alerts) (put_length 248 (alert_column g h.alerts) 0 i _) (s.alerts f)

  local_stored : (g : Field) (j : ℕ) (f : Field) → length (local_column f (store h (Local g j) v).locals) ≡ 7
  unfolding store
  local_stored g j f =
      let x : List ℕ = put 7 (local_column g h.locals) 0 j (field_stored g (local h g j) v) in
      ap length (local_column_law g f x h.locals)
      ∙ either_length (eqb (field_index g) (field_index f)) 7 x (local_column f h.locals) (put_length 7 (local_column g h.locals) 0 j _) (s.locals f)

  store_lengths : (q : Register) (k : ℕ) → k < 4 → length (class_of (store h q v) k).lengths ≡ 4
  store_lengths q k l =
      ap (λ (c : Class). length c.lengths) (class_stored_law h q v k l)
      ∙ by_kind (λ q. length (class_stored q v k (class_at h k)).lengths ≡ 4) (λ o. e) (λ f j. e) (λ f i. e)
      (λ t j. pick (λ (c : Class). length c.lengths ≡ 4) (eqb k j) (with_setting t v (class_at h k)) (class_at h k) (λ _. length_each 4 _) (λ _. e)) e q
    where
      e : length (class_at h k).lengths ≡ 4
      e = s.lengths k l

  store_columns : (q : Register) → Columns (store h q v)
  unfolding store
  store_columns q =
      record {
        alerts = λ f. by_kind (λ q. length (alert_column f (store h q v).alerts) ≡ 248) (λ o. s.alerts f) (λ g j. s.alerts f)
            (λ g i. alert_stored g i f) (λ t k. s.alerts f) (s.alerts f) q;
        locals = λ f. by_kind (λ q. length (local_column f (store h q v).locals) ≡ 7) (λ o. s.locals f)
            (λ g j. local_stored g j f) (λ g i. s.locals f) (λ t k. s.locals f) (s.locals f) q;
        classes = by_kind (λ q. length (store h q v).classes ≡ 4) (λ o. s.classes) (λ f j. s.classes) (λ f i. s.classes)
            (λ t k. put_length 4 h.classes no_class k (with_setting t v (class_at h k))) s.classes q;
        lengths = store_lengths q;
      }

-- ── the stages ──

record Codes (t : Stages) : Type 0 where
  alert_en : length t.alerts.en ≡ 248
  alert_class : length t.alerts.class ≡ 248
  local_en : length t.locals.en ≡ 7
  local_class : length t.locals.class ≡ 7
  classes : length t.classes ≡ 4
  lengths : (k : ℕ) → k < 4 → length (class_stages t k).lengths ≡ 4

module _ (t : Stages) (c : ℕ) (s : Codes t) where
  put_codes : (q : Register) → Codes (with_stage q c t)
  unfolding with_stage
  put_codes (Only o) =
      record {
        alert_en = s.alert_en;
        alert_class = s.alert_class;
        local_en = s.local_en;
        local_class = s.local_class;
        classes = s.classes;
        lengths = s.lengths;
      }
  put_codes (Local f j) =
      record {
        alert_en = s.alert_en;
        alert_class = s.alert_class;
        local_en = either_length (eqb (field_index f) 1) 7 (put 7 (local_stages f t.locals) 0 j c) t.locals.en (put_length 7 (local_stages f t.locals) 0 j c) s.local_en;
        local_class = either_length (eqb (field_index f) 2) 7 (put 7 (local_stages f t.locals) 0 j c) t.locals.class (put_length 7 (local_stages f t.locals) 0 j c) s.local_class;
        classes = s.classes;
        lengths = s.lengths;
      }
  put_codes (Alert f i) =
      record {
        alert_en = either_length (eqb (field_index f) 1) 248 (put 248 (alert_stages f t.alerts) 0 i c) t.alerts.en (put_length 248 (alert_stages f t.alerts) 0 i c) s.alert_en;
        alert_class = either_length (eqb (field_index f) 2) 248 (put 248 (alert_stages f t.alerts) 0 i c) t.alerts.class (put_length 248 (alert_stages f t.alerts) 0 i c) s.alert_class;
        local_en = s.local_en;
        local_class = s.local_class;
        classes = s.classes;
        lengths = s.lengths;
      }
  put_codes (Block u j) =
      record {
        alert_en = s.alert_en;
        alert_class = s.alert_class;
        local_en = s.local_en;
        local_class = s.local_class;
        classes = put_length 4 t.classes no_class_stages j (with_setting_stage u c (class_stages t j));
        lengths = λ k l. ap (λ (b : ClassStages). length b.lengths) (class_put t c u j k l)
            ∙ pick (λ (b : ClassStages). length b.lengths ≡ 4) (eqb k j) (with_setting_stage u c (class_stages t k)) (class_stages t k) (λ _. length_each 4 _) (λ _. s.lengths k l);
      }
  put_codes Unassigned = s

drop_codes : (t : Stages) (q : Register) → Codes t → Codes (dropped q t)
unfolding dropped
drop_codes t q s = pick Codes (is_open t q) (with_stage q 0 t) t (λ _. put_codes t 0 s q) (λ _. s)

-- ── the access ──

restaged : (t : Stages) (g : Handler) → Columns g → Columns (with_stages t g)
restaged t g a = record { alerts = a.alerts; locals = a.locals; classes = a.classes; lengths = a.lengths }

pub holds_arrays : (h : Handler) (x : Access) → Sized h → Sized (acted h x)
holds_arrays h x s =
    record {
      alerts = λ f. by_field (λ f. length (alert_list (acted h x) f) ≡ 248) (r.alerts Field.Regwen) (r.alerts Field.En) (r.alerts Field.Class) (r.alerts Field.Cause) f;
      locals = λ f. by_field (λ f. length (local_list (acted h x) f) ≡ 7) (r.locals Field.Regwen) (r.locals Field.En) (r.locals Field.Class) (r.locals Field.Cause) f;
      classes = r.classes;
      lengths = r.lengths;
      alert_en = c.alert_en;
      alert_class = c.alert_class;
      local_en = c.local_en;
      local_class = c.local_class;
      stages = c.classes;
      stage_lengths = c.lengths;
    }
  where
    columns : Columns h
    columns = record {
      alerts = λ f. by_field (λ f. length (alert_column f h.alerts) ≡ 248) (s.alerts Field.Regwen) (s.alerts Field.En) (s.alerts Field.Class) (s.alerts Field.Cause) f;
      locals = λ f. by_field (λ f. length (local_column f h.locals) ≡ 7) (s.locals Field.Regwen) (s.locals Field.En) (s.locals Field.Class) (s.locals Field.Cause) f;
      classes = s.classes;
      lengths = s.lengths;
    }

    codes : Codes h.stages
    codes =
        record {
          alert_en = s.alert_en;
          alert_class = s.alert_class;
          local_en = s.local_en;
          local_class = s.local_class;
          classes = s.stages;
          lengths = s.stage_lengths;
        }

    r : Columns (acted h x)
    r = acted_but_stages h x Columns (λ t. restaged t (stored_by h x) (stored_either h x Columns columns (λ q v _. store_columns h v columns q)))

    c : Codes (acted h x).stages
    c = stages_either h x Codes codes (drop_codes h.stages (named h x) codes) (λ v. put_codes h.stages (v + 1) codes (named h x))

-- ── a new handler has them ──

column : (n v : ℕ) → length (replicate n v) ≡ n
column n v = length-replicate n v

abbrev blank : ClassStages
blank = record { lengths = replicate 4 0; timeout = 0; ctrl = 0; thresh = 0 }

pub new_arrays : (n : ℕ) → Sized (new_handler n)
unfolding new_handler
new_arrays n =
    record {
      alerts = by_field (λ f. length (alert_list (new_handler n) f) ≡ 248) (column 248 1) (column 248 0) (column 248 0) (column 248 0);
      locals = by_field (λ f. length (local_list (new_handler n) f) ≡ 7) (column 7 1) (column 7 0) (column 7 0) (column 7 0);
      classes = length-replicate 4 reset_class;
      lengths = λ k l. ap (λ (c : Class). length c.lengths) (get_or-replicate 4 k reset_class no_class l) ∙ column 4 0;
      alert_en = column 248 0;
      alert_class = column 248 0;
      local_en = column 7 0;
      local_class = column 7 0;
      stages = length-replicate 4 blank;
      stage_lengths = λ k l. ap (λ (c : ClassStages). length c.lengths) (get_or-replicate 4 k blank no_class_stages l) ∙ column 4 0;
    }
