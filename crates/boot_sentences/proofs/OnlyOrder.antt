-- No sentence of the order or of the accesses is missing: whatever satisfies them puts the same at each place, and has the same turns. Nothing here knows the rules' or the
-- policy's definitions.
-- Assumes nothing.
use Prim.Native.Nat.{ℕ, zero, suc, ◌+◌, ◌-◌, ◌*◌, ◌/◌, ◌%◌, ◌≤◌, ◌<◌}
use mathlib.Core.Path.{◌≡◌, refl, sym, ap, ◌∙◌, subst}
use mathlib.Core.Logic.{inl, inr}
use native.Mathlib.Omega.{arith}
use native.Mathlib.Decide.{dec_lt, ℕ_discrete}
use Rattle.trace_sentences.proofs.BytePlaces.{dec_or}
use Rattle.boot_sentences.specs.Classification.{Letter, letter}
use Rattle.boot_sentences.specs.Classification.Letter.{A, B, C, D, X}
use Rattle.boot_sentences.specs.Order.{Put, Locks, Enables, Order}
use Rattle.boot_sentences.specs.Order.Put.{twice, once, none}
use Rattle.boot_sentences.specs.Turns.{Turn, Turns}

-- ── what can be decided ──

dec_locks : (c : ℕ) → Dec (Locks c)
dec_locks c = dec_or (ℕ_discrete c 1) (ℕ_discrete c 2)

dec_enables : (c : ℕ) → Dec (Enables c)
dec_enables c = dec_or (dec_locks c) (ℕ_discrete c 3)

-- a letter as a number, to tell A from the others
abbrev mark : Letter → ℕ
mark A = 0
mark B = 1
mark C = 1
mark D = 1
mark X = 1

dec_a : (x : Letter) → Dec (x ≡ A)
dec_a A = yes refl
dec_a B = no (λ e. let d = ap mark e in omega (arith, d))
dec_a C = no (λ e. let d = ap mark e in omega (arith, d))
dec_a D = no (λ e. let d = ap mark e in omega (arith, d))
dec_a X = no (λ e. let d = ap mark e in omega (arith, d))

-- ── the order ──

module _ (c : ℕ) (put tup : ℕ → Put) (p : Order c put) (q : Order c tup) where
  -- both sentences name one thing at place m, which is place j
  both : (j m : ℕ) (x : Put) → j ≡ m → put m ≡ x → tup m ≡ x → put j ≡ tup j
  both j m x e a b = ap put e ∙ a ∙ sym b ∙ ap tup (sym e)

  alert : (j : ℕ) → j < 116 → Dec (j % 2 ≡ 0) → put j ≡ tup j
  alert j l (yes z) = both j (2 * (j / 2)) _ (omega arith) (p.alert_class (j / 2) (omega arith)) (q.alert_class (j / 2) (omega arith))
  alert j l (no z) = both j (2 * (j / 2) + 1) _ (omega arith) (p.alert_en (j / 2) (omega arith)) (q.alert_en (j / 2) (omega arith))

  ctrl_a : Dec (Locks c) → Dec (c ≡ 3) → put 122 ≡ tup 122
  ctrl_a (yes l) d = p.ctrl_a_lock l ∙ sym (q.ctrl_a_lock l)
  ctrl_a (no l) (yes d) = p.ctrl_a_dev d ∙ sym (q.ctrl_a_dev d)
  ctrl_a (no l) (no d) =
      let f : ¬ Enables c = λ e. go e in
      p.ctrl_a_off f ∙ sym (q.ctrl_a_off f)
    where
      go : Enables c → ⊥
      go (inl x) = l x
      go (inr x) = d x

  ctrl_b_law : Dec (Enables c) → put 129 ≡ tup 129
  ctrl_b_law (yes e) = p.ctrl_b_law e ∙ sym (q.ctrl_b_law e)
  ctrl_b_law (no e) = p.ctrl_b_off e ∙ sym (q.ctrl_b_off e)

  -- the length of phase n of class k
  phase : (j k n : ℕ) → k < 4 → n < 4 → j ≡ 118 + 7 * k + n → Dec (k < 2) → put j ≡ tup j
  phase j k n l m e (no d) =
      let a : 2 ≤ k = omega arith in both j (118 + 7 * k + n) _ e (p.no_response k n a l m) (q.no_response k n a l m)
  phase j k zero l m e (yes d) = both j (118 + 7 * k) _ (omega arith) (p.phase_0 k d) (q.phase_0 k d)
  phase j k (suc zero) l m e (yes d) = both j (119 + 7 * k) _ (omega arith) (p.phase_1 k d) (q.phase_1 k d)
  phase j k (suc (suc zero)) l m e (yes d) = both j (120 + 7 * k) _ (omega arith) (p.phase_2 k d) (q.phase_2 k d)
  phase j k (suc (suc (suc n))) l m e (yes d) = both j (121 + 7 * k) _ (omega arith) (p.phase_3 k d) (q.phase_3 k d)

  ctrl : (j k : ℕ) → k < 4 → j ≡ 122 + 7 * k → put j ≡ tup j
  ctrl j zero l e = let f : j ≡ 122 = omega arith in subst (λ (x : ℕ). put x ≡ tup x) (sym f) (ctrl_a (dec_locks c) (ℕ_discrete c 3))
  ctrl j (suc zero) l e = let f : j ≡ 129 = omega arith in subst (λ (x : ℕ). put x ≡ tup x) (sym f) (ctrl_b_law (dec_enables c))
  ctrl j (suc (suc zero)) l e = both j 136 _ (omega arith) p.ctrl_c q.ctrl_c
  ctrl j (suc (suc (suc k))) l e = both j 143 _ (omega arith) p.ctrl_d q.ctrl_d

  -- setting s of class k
  setting : (j k s : ℕ) → k < 4 → j ≡ 116 + 7 * k + s → Dec (s ≡ 0) → Dec (s ≡ 1) → Dec (s < 6) → s < 7 → put j ≡ tup j
  setting j k s l e (yes z) b d m = both j (116 + 7 * k) _ (omega arith) (p.threshold k l) (q.threshold k l)
  setting j k s l e (no z) (yes o) d m = both j (117 + 7 * k) _ (omega arith) (p.timeout k l) (q.timeout k l)
  setting j k s l e (no z) (no o) (yes d) m = phase j k (s - 2) l (omega arith) (omega arith) (dec_lt k 2)
  setting j k s l e (no z) (no o) (no d) m = ctrl j k l (omega arith)

  lock : (j i : ℕ) → i < 58 → j ≡ 144 + i → Dec (Locks c) → Dec (letter c i ≡ A) → put j ≡ tup j
  lock j i l e (yes k) (yes a) = both j (144 + i) _ e (p.alert_lock i l k a) (q.alert_lock i l k a)
  lock j i l e (no k) a = both j (144 + i) _ e (p.alert_free i l k) (q.alert_free i l k)
  lock j i l e (yes k) (no a) = both j (144 + i) _ e (p.alert_other i l a) (q.alert_other i l a)

  last : (j : ℕ) → j ≡ 202 → Dec (Locks c) → put j ≡ tup j
  last j e (yes k) = both j 202 _ e (p.class_lock_law k) (q.class_lock_law k)
  last j e (no k) = both j 202 _ e (p.class_free k) (q.class_free k)

  -- one thing is put at each place
  pub only_order : (j : ℕ) → j < 203 → put j ≡ tup j
  only_order j l = go (dec_lt j 116) (dec_lt j 144) (dec_lt j 202)
    where
      go : Dec (j < 116) → Dec (j < 144) → Dec (j < 202) → put j ≡ tup j
      go (yes a) b d = alert j a (ℕ_discrete (j % 2) 0)
      go (no a) (yes b) d =
          setting j ((j - 116) / 7) ((j - 116) % 7) (omega arith) (omega arith) (ℕ_discrete ((j - 116) % 7) 0) (ℕ_discrete ((j - 116) % 7) 1) (dec_lt ((j - 116) % 7) 6) (omega arith)
      go (no a) (no b) (yes d) = lock j (j - 144) (omega arith) (omega arith) (dec_locks c) (dec_a (letter c (j - 144)))
      go (no a) (no b) (no d) = last j (omega arith) (dec_locks c)

-- ── the accesses ──

module _ (put tup : ℕ → Put) (same : (j : ℕ) → j < 203 → put j ≡ tup j) (turn other : ℕ → Turn) (p : Turns put turn) (q : Turns tup other) where
  three : (t m : ℕ) (x : Turn) → t ≡ m → turn m ≡ x → other m ≡ x → turn t ≡ other t
  three t m x e a b = ap turn e ∙ a ∙ sym b ∙ ap other (sym e)

  part : (t j s : ℕ) (x : Put) → j < 203 → s < 3 → t ≡ 3 * j + s → put j ≡ x → tup j ≡ x → turn t ≡ other t
  part t j zero (twice r v) l m e a b = three t (3 * j) _ (omega arith) (p.first_write j r v l a) (q.first_write j r v l b)
  part t j zero (once r v) l m e a b = three t (3 * j) _ (omega arith) (p.one_write j r v l a) (q.one_write j r v l b)
  part t j zero none l m e a b = three t (3 * j) _ (omega arith) (p.none_first j l a) (q.none_first j l b)
  part t j (suc zero) (twice r v) l m e a b = three t (3 * j + 1) _ (omega arith) (p.second_write j r v l a) (q.second_write j r v l b)
  part t j (suc zero) (once r v) l m e a b = three t (3 * j + 1) _ (omega arith) (p.no_second j r v l a) (q.no_second j r v l b)
  part t j (suc zero) none l m e a b = three t (3 * j + 1) _ (omega arith) (p.none_second j l a) (q.none_second j l b)
  part t j (suc (suc s)) (twice r v) l m e a b = three t (3 * j + 2) _ (omega arith) (p.read_back j r v l a) (q.read_back j r v l b)
  part t j (suc (suc s)) (once r v) l m e a b = three t (3 * j + 2) _ (omega arith) (p.one_read j r v l a) (q.one_read j r v l b)
  part t j (suc (suc s)) none l m e a b = three t (3 * j + 2) _ (omega arith) (p.none_third j l a) (q.none_third j l b)

  pub only_turns : (t : ℕ) → t < 609 → turn t ≡ other t
  only_turns t l =
      let b : t / 3 < 203 = omega arith in
      part t (t / 3) (t % 3) (put (t / 3)) b (omega arith) (omega arith) refl (sym (same (t / 3) b))
