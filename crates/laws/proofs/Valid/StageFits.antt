-- The part of refusal 7's test that speaks of stages, and the facts that it stands for.
-- Assumes nothing.
use Prim.Native.Nat.{ℕ, ◌^◌, ◌≤◌, ◌<◌}
use mathlib.Core.Path.{◌≡◌, refl}
use mathlib.Core.Bool.{true, false≢true}
use mathlib.Core.List.{List}
use native.Mathlib.Omega.{arith}
use borrow.Author.Tests.{leb-true, le-leb, ltb-true, lt-ltb}
use lib.Dec.{leb, ltb}
use lib.ListN.{get_or}
use Rattle.bits.proofs.IndexLaws.{and-true, true_and, all_at, all_of}
use Rattle.rules.specs.Map.{bits, setting_bits}
use Rattle.rules.specs.Stages.{setting_stage, class_stages, stage_in}
use Rattle.rules.specs.State.{local_count, class_count}
use Rattle.rules.specs.Valid.{codes_fit, class_stages_fit, stages_fit}
use Rattle.rules.specs.declared.ClassStages.{ClassStages}
use Rattle.rules.specs.declared.Field.{Field}
use Rattle.rules.specs.declared.Register.{Register}
use Rattle.rules.specs.declared.Register.TheVariants.{Only, Local, Alert, Block}
use Rattle.rules.specs.declared.Setting.{Setting}
use Rattle.rules.specs.declared.Setting.TheVariants.{Ctrl, AccumThresh, TimeoutCyc, PhaseCyc}
use Rattle.rules.specs.declared.Single.TheVariants.{PingTimeout}
use Rattle.rules.specs.declared.Stages.{Stages}
use Rattle.laws.specs.InMap.{in_map, setting_exists}
use Rattle.laws.proofs.Map.Cases.{by_kind, by_single, by_field, by_setting}

-- a column of codes
codes_at : (b : ℕ) (xs : List ℕ) (n : ℕ) → codes_fit b xs n ≡ true → (i : ℕ) → i < n → get_or xs i 0 ≤ 2 ^ b
codes_at b xs n e i l = leb-true _ _ (all_at (λ j. leb (get_or xs j 0) (2 ^ b)) n e i l)

codes_of : (b : ℕ) (xs : List ℕ) (n : ℕ) → ((i : ℕ) → i < n → get_or xs i 0 ≤ 2 ^ b) → codes_fit b xs n ≡ true
codes_of b xs n f = all_of (λ j. leb (get_or xs j 0) (2 ^ b)) n (λ i l. le-leb _ _ (f i l))

-- the stages of a class's block
settings_at : (c : ClassStages) → class_stages_fit c ≡ true → (t : Setting) → setting_exists t ≡ true → setting_stage t c ≤ 2 ^ setting_bits t
unfolding class_stages_fit
settings_at c e =
    let a = and-true _ _ e in
    let b = and-true _ _ a.1 in
    let d = and-true _ _ b.1 in
    by_setting (λ t. setting_exists t ≡ true → setting_stage t c ≤ 2 ^ setting_bits t) (λ _. omega arith) (λ _. leb-true _ _ a.0) (λ _. omega arith)
    (λ _. omega arith) (λ _. omega arith) (λ _. leb-true _ _ b.0) (λ _. leb-true _ _ d.0) (λ p l. codes_at 32 c.lengths 4 d.1 p (ltb-true p 4 l))
    (λ _. omega arith) (λ _. omega arith)

settings_of : (c : ClassStages) → ((t : Setting) → setting_exists t ≡ true → setting_stage t c ≤ 2 ^ setting_bits t) → class_stages_fit c ≡ true
unfolding class_stages_fit
settings_of c f =
    true_and (le-leb _ _ (f Ctrl refl))
    (true_and (le-leb _ _ (f AccumThresh refl))
    (true_and (le-leb _ _ (f TimeoutCyc refl)) (codes_of 32 c.lengths 4 (λ p l. f (PhaseCyc p) (lt-ltb p 4 l)))))

module _ (n : ℕ) (s : Stages) where
  -- each stage of a register in the map
  pub stages_at : stages_fit n s ≡ true → (q : Register) → in_map n q ≡ true → stage_in s q ≤ 2 ^ bits q
  unfolding stages_fit stage_in bits
  stages_at e =
      let a = and-true _ _ e in
      let l = and-true _ _ a.0 in
      let b = and-true _ _ a.1 in
      let r = and-true _ _ b.0 in
      let d = and-true _ _ b.1 in
      by_kind P
      (by_single (λ o. P (Only o)) (λ _. omega arith) (λ _. omega arith) (λ _. omega arith) (λ _. omega arith) (λ _. leb-true _ _ d.1) (λ _. omega arith))
      (λ f j. by_field (λ f. P (Local f j)) (λ _. omega arith) (λ m. codes_at 1 s.locals.en local_count l.0 j (ltb-true j local_count m))
      (λ m. codes_at 2 s.locals.class local_count l.1 j (ltb-true j local_count m)) (λ _. omega arith) f)
      (λ f i. by_field (λ f. P (Alert f i)) (λ _. omega arith) (λ m. codes_at 1 s.alerts.en n r.0 i (ltb-true i n m))
      (λ m. codes_at 2 s.alerts.class n r.1 i (ltb-true i n m)) (λ _. omega arith) f)
      (λ t k m. let c = and-true (ltb k class_count) (setting_exists t) m in
      settings_at (class_stages s k) (all_at (λ k. class_stages_fit (class_stages s k)) class_count d.0 k (ltb-true k class_count c.0)) t c.1)
      (λ m. absurd (false≢true m))
    where
      P : Register → Type 0
      P q = in_map n q ≡ true → stage_in s q ≤ 2 ^ bits q

  -- and back
  pub stages_of : ((q : Register) → in_map n q ≡ true → stage_in s q ≤ 2 ^ bits q) → stages_fit n s ≡ true
  unfolding stages_fit stage_in bits
  stages_of f =
      true_and
      (true_and (codes_of 1 s.locals.en local_count (λ j l. f (Local Field.En j) (lt-ltb j local_count l)))
      (codes_of 2 s.locals.class local_count (λ j l. f (Local Field.Class j) (lt-ltb j local_count l))))
      (true_and
      (true_and (codes_of 1 s.alerts.en n (λ i l. f (Alert Field.En i) (lt-ltb i n l)))
      (codes_of 2 s.alerts.class n (λ i l. f (Alert Field.Class i) (lt-ltb i n l))))
      (true_and
      (all_of (λ k. class_stages_fit (class_stages s k)) class_count
      (λ k l. settings_of (class_stages s k) (λ t e. f (Block t k) (true_and (lt-ltb k class_count l) e))))
      (le-leb _ _ (f (Only PingTimeout) refl))))
