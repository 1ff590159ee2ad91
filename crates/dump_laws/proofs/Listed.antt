-- The numbers of causes, locks and shadowed registers, of any number of alerts.
-- Assumes nothing.
use Prim.Native.Nat.{ℕ, zero, suc, ◌+◌, ◌-◌, ◌*◌, ◌≤◌, ◌<◌}
use mathlib.Core.Path.{◌≡◌, refl, sym, ap, ap₂, ◌∙◌}
use mathlib.Core.Bool.{Bool, true, false, cond}
use mathlib.Core.List.{List, [], ◌∷◌, ◌++◌, append-nil}
use native.Mathlib.Omega.{arith}
use borrow.Author.Tests.{lt-ltb, le-ltb, lt-leb}
use lib.Dec.{ltb}
use Rattle.dump_rules.specs.Shown.{picks, limit, is_cause}
use Rattle.laws.proofs.Map.MapLaws.{decode_alert, decode_block}
use Rattle.rules.specs.Map.{stride, block_at, decode, is_lock, is_shadowed}
use Rattle.rules.specs.State.{most, field_index}
use Rattle.rules.specs.declared.Field.{Field}
use Rattle.rules.specs.declared.Register.{Register}
use Rattle.rules.specs.declared.Register.TheVariants.{Alert, Unassigned}
use Rattle.dump_laws.specs.Claims.{up_from, Listed}

-- ── ranges ──

module _ (p : ℕ → Bool) where
  split : (a m k : ℕ) → picks p a (m + k) ≡ picks p a m ++ picks p (a + m) k
  unfolding picks
  split a zero k = ap₂ (λ (b i : ℕ). picks p b i) (let x : a ≡ a + 0 = omega arith in x) (let y : 0 + k ≡ k = omega arith in y)
  split a (suc m) k =
      ap (picks p a) (let x : suc m + k ≡ suc (m + k) = omega arith in x) ∙ go (p a) (split (suc a) m k ∙ ap (λ (b : ℕ). picks p (suc a) m ++ picks p b k) (let y : suc a + m ≡ a + suc m = omega arith in y))
    where
      go : (t : Bool) → picks p (suc a) (m + k) ≡ picks p (suc a) m ++ picks p (a + suc m) k
          → cond t (a ∷ picks p (suc a) (m + k)) (picks p (suc a) (m + k)) ≡ cond t (a ∷ picks p (suc a) m) (picks p (suc a) m) ++ picks p (a + suc m) k
      go true ih = ap (λ (l : List ℕ). a ∷ l) ih
      go false ih = ih

  every : (a m : ℕ) → ((r : ℕ) → a ≤ r → r < a + m → p r ≡ true) → picks p a m ≡ up_from a m
  unfolding picks
  every a zero h = refl
  every a (suc m) h =
      ap (λ (t : Bool). cond t (a ∷ picks p (suc a) m) (picks p (suc a) m)) (h a (omega arith) (omega arith))
      ∙ ap (λ (l : List ℕ). a ∷ l) (every (suc a) m (λ r x y. h r (omega arith) (omega arith)))

  none : (a m : ℕ) → ((r : ℕ) → a ≤ r → r < a + m → p r ≡ false) → picks p a m ≡ []
  unfolding picks
  none a zero h = refl
  none a (suc m) h =
      ap (λ (t : Bool). cond t (a ∷ picks p (suc a) m) (picks p (suc a) m)) (h a (omega arith) (omega arith))
      ∙ none (suc a) m (λ r x y. h r (omega arith) (omega arith))

-- ── the alerts' registers ──

module _ (n : ℕ) (small : n ≤ most) (P : Register → Bool) (unassigned : P Unassigned ≡ false) where
  abbrev here : ℕ → Bool
  here r = P (decode n r)

  at_alert : (f : Field) (r : ℕ) → (1 + field_index f) * stride ≤ r → r < (1 + field_index f) * stride + stride
      → here r ≡ P (cond (ltb (r - (1 + field_index f) * stride) n) (Alert f (r - (1 + field_index f) * stride)) Unassigned)
  at_alert f r l h = ap P (decode_alert n r f l h)

  -- those of one field
  field_all : (f : Field) → ((i : ℕ) → P (Alert f i) ≡ true) → picks here ((1 + field_index f) * stride) stride ≡ up_from ((1 + field_index f) * stride) n
  field_all f t =
      ap (picks here base) (let x : stride ≡ n + (stride - n) = omega arith in x)
      ∙ split here base n (stride - n) ∙ ap₂ (λ (u v : List ℕ). u ++ v) (every here base n inside) (none here (base + n) (stride - n) outside)
      ∙ append-nil (up_from base n)
    where
      base : ℕ
      base = (1 + field_index f) * stride

      inside : (r : ℕ) → base ≤ r → r < base + n → here r ≡ true
      inside r l h =
          at_alert f r l (omega arith)
          ∙ ap (λ (b : Bool). P (cond b (Alert f (r - base)) Unassigned)) (lt-ltb (r - base) n (omega arith)) ∙ t (r - base)

      outside : (r : ℕ) → base + n ≤ r → r < base + n + (stride - n) → here r ≡ false
      outside r l h =
          at_alert f r (omega arith) (omega arith)
          ∙ ap (λ (b : Bool). P (cond b (Alert f (r - base)) Unassigned)) (le-ltb (r - base) n (omega arith)) ∙ unassigned

  field_none : (f : Field) → ((i : ℕ) → P (Alert f i) ≡ false) → picks here ((1 + field_index f) * stride) stride ≡ []
  field_none f t = none here base stride (λ r l h. at_alert f r l h ∙ go (ltb (r - base) n) (r - base))
    where
      base : ℕ
      base = (1 + field_index f) * stride

      go : (b : Bool) (i : ℕ) → P (cond b (Alert f i) Unassigned) ≡ false
      go true i = t i
      go false i = unassigned

  -- below the alerts, each field of the alerts, the classes
  parts : picks here 0 limit
      ≡ picks here 0 256 ++ (picks here 256 256 ++ (picks here 512 256 ++ (picks here 768 256 ++ (picks here 1024 256 ++ picks here 1280 64))))
  parts =
      split here 0 256 1088
      ∙ ap (λ (l : List ℕ). picks here 0 256 ++ l) (split here 256 256 832
      ∙ ap (λ (l : List ℕ). picks here 256 256 ++ l) (split here 512 256 576
      ∙ ap (λ (l : List ℕ). picks here 512 256 ++ l) (split here 768 256 320 ∙ ap (λ (l : List ℕ). picks here 768 256 ++ l) (split here 1024 256 64))))

-- ── the lists ──

-- six parts, each as it is
six : {a b c d e f a' b' c' d' e' f' : List ℕ} → a ≡ a' → b ≡ b' → c ≡ c' → d ≡ d' → e ≡ e' → f ≡ f'
    → a ++ (b ++ (c ++ (d ++ (e ++ f)))) ≡ a' ++ (b' ++ (c' ++ (d' ++ (e' ++ f'))))
six a b c d e f = λ i. a i ++ (b i ++ (c i ++ (d i ++ (e i ++ f i))))

-- below the alerts and from the classes on, the number of alerts does not matter
picks_same : (p q : ℕ → Bool) (a m : ℕ) → ((r : ℕ) → a ≤ r → r < a + m → p r ≡ q r) → picks p a m ≡ picks q a m
unfolding picks
picks_same p q a zero h = refl
picks_same p q a (suc m) h =
    ap₂ (λ (t : Bool) (l : List ℕ). cond t (a ∷ l) l) (h a (omega arith) (omega arith)) (picks_same p q (suc a) m (λ r x y. h r (omega arith) (omega arith)))

low_same : (n r : ℕ) → r < 256 → decode n r ≡ decode 0 r
unfolding decode
low_same n r l = simp (lt-leb 256 r (omega arith), lt-leb 512 r (omega arith), lt-leb 768 r (omega arith), lt-leb 1024 r (omega arith))

high_same : (n r : ℕ) → 1280 ≤ r → r < 1344 → decode n r ≡ decode 0 r
high_same n r l h = decode_block n r l h ∙ sym (decode_block 0 r l h)

module _ (n : ℕ) (P : Register → Bool) where
  low : picks (λ r. P (decode n r)) 0 256 ≡ picks (λ r. P (decode 0 r)) 0 256
  low = picks_same (λ r. P (decode n r)) (λ r. P (decode 0 r)) 0 256 (λ r l h. ap P (low_same n r h))

  high : picks (λ r. P (decode n r)) 1280 64 ≡ picks (λ r. P (decode 0 r)) 1280 64
  high = picks_same (λ r. P (decode n r)) (λ r. P (decode 0 r)) 1280 64 (λ r l h. ap P (high_same n r l h))

low_causes : picks (λ r. is_cause (decode 0 r)) 0 256 ≡ up_from 40 7
unfolding picks decode
low_causes = refl

high_causes : picks (λ r. is_cause (decode 0 r)) 1280 64 ≡ []
unfolding picks decode block_at
high_causes = refl

low_locks : picks (λ r. is_lock (decode 0 r)) 0 256 ≡ 4 ∷ up_from 16 7
unfolding picks decode is_lock
low_locks = refl

high_locks : picks (λ r. is_lock (decode 0 r)) 1280 64 ≡ 1280 ∷ 1282 ∷ 1296 ∷ 1298 ∷ 1312 ∷ 1314 ∷ 1328 ∷ 1330 ∷ []
unfolding picks decode block_at is_lock
high_locks = refl

low_shadowed : picks (λ r. is_shadowed (decode 0 r)) 0 256 ≡ 5 ∷ (up_from 24 7 ++ up_from 32 7)
unfolding picks decode is_shadowed
low_shadowed = refl

high_shadowed : picks (λ r. is_shadowed (decode 0 r)) 1280 64
    ≡ (1281 ∷ up_from 1285 6) ++ ((1297 ∷ up_from 1301 6) ++ ((1313 ∷ up_from 1317 6) ++ (1329 ∷ up_from 1333 6)))
unfolding picks decode block_at is_shadowed
high_shadowed = refl

module _ (n : ℕ) (small : n ≤ most) where
  pub listed : Listed n
  unfolding is_lock is_shadowed
  listed =
      record {
        causes =
            parts n small is_cause refl
            ∙ six (low n is_cause ∙ low_causes) (field_none n small is_cause refl Field.Regwen (λ i. refl)) (field_none n small is_cause refl Field.En (λ i. refl))
            (field_none n small is_cause refl Field.Class (λ i. refl)) (field_all n small is_cause refl Field.Cause (λ i. refl)) (high n is_cause ∙ high_causes)
            ∙ ap (λ (l : List ℕ). up_from 40 7 ++ l) (append-nil (up_from 1024 n));
        locks =
            parts n small is_lock refl
            ∙ six (low n is_lock ∙ low_locks) (field_all n small is_lock refl Field.Regwen (λ i. refl)) (field_none n small is_lock refl Field.En (λ i. refl))
            (field_none n small is_lock refl Field.Class (λ i. refl)) (field_none n small is_lock refl Field.Cause (λ i. refl)) (high n is_lock ∙ high_locks);
        shadowed =
            parts n small is_shadowed refl
            ∙ six (low n is_shadowed ∙ low_shadowed) (field_none n small is_shadowed refl Field.Regwen (λ i. refl)) (field_all n small is_shadowed refl Field.En (λ i. refl))
            (field_all n small is_shadowed refl Field.Class (λ i. refl)) (field_none n small is_shadowed refl Field.Cause (λ i. refl)) (high n is_shadowed ∙ high_shadowed);
      }
