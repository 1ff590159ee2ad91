-- The register map: a register's number decodes to it, and a decoded number is that register's number.
-- Assumes nothing.
use Prim.Native.Nat.{ℕ, ◌+◌, ◌-◌, ◌*◌, ◌/◌, ◌%◌, ◌≤◌, ◌<◌}
use mathlib.Core.Path.{◌≡◌, refl, sym, ap, ap₂, ◌∙◌}
use mathlib.Core.Bool.{Bool, true, false, false≢true, cond, ◌&&◌, and-false}
use native.Mathlib.Omega.{arith}
use borrow.Author.Tests.{eqb-true, ltb-true, leb-true, le-leb, lt-ltb, le-ltb, ne_eqb}
use lib.Dec.{eqb, leb, ltb}
use Rattle.bits.proofs.IndexLaws.{and-true, true_and}
use Rattle.rules.specs.Map.{within, block_at, alert_at, decode, number_of, is_register, single_number, offset, class_base, stride}
use Rattle.rules.specs.State.{most, local_count, class_count, field_index}
use Rattle.rules.specs.declared.Field.{Field}
use Rattle.rules.specs.declared.Register.{Register}
use Rattle.rules.specs.declared.Register.TheVariants.{Only, Local, Alert, Block, Unassigned}
use Rattle.rules.specs.declared.Setting.{Setting}
use Rattle.rules.specs.declared.Setting.TheVariants.{Ctrl, ClrRegwen, Clr, AccumCnt, AccumThresh, TimeoutCyc, PhaseCyc, EscCnt}
use Rattle.rules.specs.declared.Single.{Single}
use Rattle.laws.specs.InMap.{in_map, setting_exists}
use Rattle.laws.proofs.Map.Cases.{by_single, by_field, by_setting}

-- ── tests on the way ──

module _ {A : Type 0} where
  -- what holds both ways of a test
  either : (P : A → Type 0) (b : Bool) (x y : A) → (b ≡ true → P x) → P y → P (cond b x y)
  either P true x y f g = f refl
  either P false x y f g = g

-- a test on a number
above : (a b : ℕ) → b < a → eqb a b ≡ false
above a b l = ne_eqb a b (λ (e : a ≡ b). omega arith)

-- a number in a range
hit : (first count r : ℕ) → first ≤ r → r < first + count → within first count r ≡ true
hit first count r l m = true_and (le-leb first r l) (lt-ltb r (first + count) m)

-- a number past a range
over : (first count r : ℕ) → first + count ≤ r → within first count r ≡ false
over first count r l = ap (λ (t : Bool). leb first r && t) (le-ltb r (first + count) l) ∙ and-false (leb first r)

-- and back
inside : (first count r : ℕ) → within first count r ≡ true → (first ≤ r) × (r < first + count)
inside first count r e =
    let h = and-true (leb first r) (ltb r (first + count)) e in (leb-true first r h.0, ltb-true r (first + count) h.1)

-- ── the four ranges of a kind of alert: field f of alert i is at b + d f + i ──

-- REGWEN, EN, CLASS and CAUSE, of c alerts each
abbrev four : ℕ → ℕ → ℕ → (Field → ℕ → Register) → Register → ℕ → Register
four b d c K rest r =
    cond (within b c r) (K Field.Regwen (r - b))
    (cond (within (b + d) c r) (K Field.En (r - (b + d)))
    (cond (within (b + 2 * d) c r) (K Field.Class (r - (b + 2 * d)))
    (cond (within (b + 3 * d) c r) (K Field.Cause (r - (b + 3 * d))) rest)))

module _ (b d c : ℕ) (K : Field → ℕ → Register) (rest : Register) where
  -- a number in the range of a field decodes to it
  four_hit : (f : Field) (r : ℕ) → c ≤ d → b + d * field_index f ≤ r → r < b + d * field_index f + c
      → four b d c K rest r ≡ K f (r - (b + d * field_index f))
  four_hit Field.Regwen r l m h = simp (hit b c r (omega arith) (omega arith)) (ap (K Field.Regwen) (omega arith))
  four_hit Field.En r l m h =
      simp (over b c r (omega arith), hit (b + d) c r (omega arith) (omega arith)) (ap (K Field.En) (omega arith))
  four_hit Field.Class r l m h =
      simp (over b c r (omega arith), over (b + d) c r (omega arith), hit (b + 2 * d) c r (omega arith) (omega arith))
      (ap (K Field.Class) (omega arith))
  four_hit Field.Cause r l m h =
      simp (over b c r (omega arith), over (b + d) c r (omega arith), over (b + 2 * d) c r (omega arith), hit (b + 3 * d) c r (omega arith) (omega arith))
      (ap (K Field.Cause) (omega arith))

  -- what holds of each field holds of what a number decodes to
  four_at : (P : Register → Type 0) (r : ℕ) → ((f : Field) (i : ℕ) → i < c → b + d * field_index f + i ≡ r → P (K f i)) → P rest
      → P (four b d c K rest r)
  four_at P r f g = either P _ _ _ (at Field.Regwen b (omega arith)) (either P _ _ _ (at Field.En (b + d) (omega arith))
      (either P _ _ _ (at Field.Class (b + 2 * d) (omega arith)) (either P _ _ _ (at Field.Cause (b + 3 * d) (omega arith)) g)))
    where
      at : (g : Field) (first : ℕ) → b + d * field_index g ≡ first → within first c r ≡ true → P (K g (r - first))
      at g first e w = let h = inside first c r w in f g (r - first) (omega arith) (omega arith)

  -- a number in none of the ranges
  four_miss : (r : ℕ) → ((f : Field) → b + d * field_index f ≤ r → r < b + d * field_index f + c → ⊥) → four b d c K rest r ≡ rest
  four_miss r m = four_at (λ q. q ≡ rest) r (λ f i l e. absurd (m f (omega arith) (omega arith))) refl

-- there are four
pub field_lt : (f : Field) → field_index f < 4
field_lt = by_field (λ f. field_index f < 4) (omega arith) (omega arith) (omega arith) (omega arith)

-- ── the registers that there is one of ──

-- they are below the local alerts
pub single_lt : (o : Single) → single_number o < 16
single_lt = by_single (λ o. single_number o < 16) (omega arith) (omega arith) (omega arith) (omega arith) (omega arith) (omega arith)

-- and none is at the number that stands for no register
pub single_number_law : (o : Single) → single_number o ≡ 3 → ⊥
single_number_law =
    by_single (λ o. single_number o ≡ 3 → ⊥) (λ e. omega arith) (λ e. omega arith) (λ e. omega arith) (λ e. omega arith) (λ e. omega arith)
    (λ e. omega arith)

-- ── the block of a class ──

-- a block has 13 registers
pub offset_lt : (s : Setting) → setting_exists s ≡ true → offset s < 13
offset_lt =
    by_setting (λ s. setting_exists s ≡ true → offset s < 13) (λ e. omega arith) (λ e. omega arith) (λ e. omega arith) (λ e. omega arith)
    (λ e. omega arith) (λ e. omega arith) (λ e. omega arith) (λ p e. omega (arith, ltb-true p 4 e)) (λ e. omega arith) (λ e. omega arith)

module _ (k : ℕ) where
  -- the length of a phase
  phase_at : (p o : ℕ) → p < 4 → o ≡ 7 + p → block_at k o ≡ Block (PhaseCyc p) k
  unfolding block_at
  phase_at p o l e =
      simp (
        above o 0 (omega arith),
        above o 1 (omega arith),
        above o 2 (omega arith),
        above o 3 (omega arith),
        above o 4 (omega arith),
        above o 5 (omega arith),
        above o 6 (omega arith),
        hit 7 4 o (omega arith) (omega arith),
      )
      (ap (λ (i : ℕ). Block (PhaseCyc i) k) (omega arith))

  -- the register at its offset
  pub block_at_law : (s : Setting) → setting_exists s ≡ true → block_at k (offset s) ≡ Block s k
  unfolding block_at
  block_at_law =
      by_setting (λ s. setting_exists s ≡ true → block_at k (offset s) ≡ Block s k) (λ e. refl) (λ e. refl) (λ e. refl) (λ e. refl) (λ e. refl)
      (λ e. refl) (λ e. refl) (λ p e. phase_at p (7 + p) (ltb-true p 4 e) refl) (λ e. refl) (λ e. refl)

  -- what holds of the register with an offset, and of none, holds of what is at the offset
  block_found : (P : Register → Type 0) (o : ℕ) → ((s : Setting) → setting_exists s ≡ true → offset s ≡ o → P (Block s k)) → P Unassigned
      → P (block_at k o)
  unfolding block_at
  block_found P o f g = either P _ _ _ (one Setting.Regwen refl) (either P _ _ _ (one Ctrl refl) (either P _ _ _ (one ClrRegwen refl)
      (either P _ _ _ (one Clr refl) (either P _ _ _ (one AccumCnt refl) (either P _ _ _ (one AccumThresh refl)
      (either P _ _ _ (one TimeoutCyc refl) (either P _ _ _ phase (either P _ _ _ (one EscCnt refl)
      (either P _ _ _ (one Setting.State refl) g)))))))))
    where
      one : (s : Setting) → setting_exists s ≡ true → eqb o (offset s) ≡ true → P (Block s k)
      one s x t = f s x (sym (eqb-true o (offset s) t))

      phase : within 7 4 o ≡ true → P (Block (PhaseCyc (o - 7)) k)
      phase t = let h = inside 7 4 o t in f (PhaseCyc (o - 7)) (lt-ltb (o - 7) 4 (omega arith)) (omega arith)

  -- past the registers there is none
  pub block_none : (o : ℕ) → 13 ≤ o → block_at k o ≡ Unassigned
  block_none o l = block_found (λ q. q ≡ Unassigned) o (λ s x e. absurd (omega (arith, offset_lt s x))) refl

-- registers at one offset are one
pub offset_eq : (s t : Setting) → setting_exists s ≡ true → setting_exists t ≡ true → offset s ≡ offset t → s ≡ t
offset_eq s t x y e = let i : Block s 0 ≡ Block t 0 = sym (block_at_law 0 s x) ∙ ap (block_at 0) e ∙ block_at_law 0 t y in cc

-- up to the lengths every offset is a register's
pub offset_exists : (s : Setting) → offset s < 11 → setting_exists s ≡ true
offset_exists =
    by_setting (λ s. offset s < 11 → setting_exists s ≡ true) (λ l. refl) (λ l. refl) (λ l. refl) (λ l. refl) (λ l. refl) (λ l. refl) (λ l. refl)
    (λ p l. lt-ltb p 4 (omega arith)) (λ l. refl) (λ l. refl)

-- ── what each range decodes to ──

-- the four classes
abbrev blocks : ℕ → Register
blocks r = cond (within class_base (16 * class_count) r) (block_at ((r - class_base) / 16) ((r - class_base) % 16)) Unassigned

-- r is none of the ping timer's
abbrev pub NoPing : ℕ → Type 0
NoPing r = 4 ≤ r → r < 7 → ⊥

-- but for those that there is one of there are the local alerts, then the alerts, then the classes
decode_is : (n r : ℕ) → 2 < r → NoPing r → decode n r ≡ four 16 8 local_count Local (four stride stride stride (alert_at n) (blocks r) r) r
unfolding decode
decode_is n r l p =
    simp (
      above r 0 (omega arith),
      above r 1 (omega arith),
      above r 2 (omega arith),
      other 4 (omega arith) (omega arith),
      other 5 (omega arith) (omega arith),
      other 6 (omega arith) (omega arith),
    )
  where
    other : (a : ℕ) → 4 ≤ a → a < 7 → eqb r a ≡ false
    other a x y = ne_eqb r a (λ (e : r ≡ a). p (omega arith) (omega arith))

module _ (n r : ℕ) where
  pub decode_local : (f : Field) → 16 + 8 * field_index f ≤ r → r < 16 + 8 * field_index f + local_count
      → decode n r ≡ Local f (r - (16 + 8 * field_index f))
  decode_local f l m = decode_is n r (omega arith) (λ a b. omega arith) ∙ four_hit 16 8 local_count Local _ f r (omega arith) l m

  -- above the local alerts
  decode_high : stride ≤ r → decode n r ≡ four stride stride stride (alert_at n) (blocks r) r
  decode_high l = decode_is n r (omega arith) (λ a b. omega arith) ∙ four_miss 16 8 local_count Local _ r (λ f x y. omega (arith, field_lt f))

  pub decode_alert : (f : Field) → (1 + field_index f) * stride ≤ r → r < (1 + field_index f) * stride + stride
      → decode n r ≡ alert_at n f (r - (1 + field_index f) * stride)
  decode_alert f l m =
      decode_high (omega arith)
      ∙ four_hit stride stride stride (alert_at n) (blocks r) f r (omega arith) (omega arith) (omega arith) ∙ ap (alert_at n f) (omega arith)

  pub decode_block : class_base ≤ r → r < class_base + 16 * class_count → decode n r ≡ block_at ((r - class_base) / 16) ((r - class_base) % 16)
  decode_block l m =
      decode_high (omega arith) ∙ four_miss stride stride stride (alert_at n) (blocks r) r (λ f x y. omega (arith, field_lt f))
      ∙ simp (hit class_base (16 * class_count) r l m)

  -- all other numbers are unassigned
  pub decode_none : 2 < r → NoPing r → ((j : ℕ) → j < 4 → 16 + 8 * j ≤ r → r < 16 + 8 * j + local_count → ⊥)
      → (stride ≤ r → r < class_base + 16 * class_count → ⊥) → decode n r ≡ Unassigned
  decode_none h p l b =
      decode_is n r h p ∙ four_miss 16 8 local_count Local _ r (λ f. l (field_index f) (field_lt f))
      ∙ four_miss stride stride stride (alert_at n) (blocks r) r (λ f x y. b (omega arith) (omega (arith, field_lt f)))
      ∙ either (λ q. q ≡ Unassigned) (within class_base (16 * class_count) r) _ _
      (λ t. let i = inside class_base (16 * class_count) r t in absurd (b (omega arith) (omega arith))) refl

-- ── from a register to its number and back ──

-- a register's number decodes to it
pub decode_number : (n : ℕ) (q : Register) → n ≤ most → in_map n q ≡ true → decode n (number_of q) ≡ q
unfolding decode number_of
decode_number n (Only o) h e = by_single (λ o. decode n (single_number o) ≡ Only o) refl refl refl refl refl refl o
decode_number n (Local f j) h e =
    let l : j < local_count = ltb-true j local_count e in
    decode_local n (16 + 8 * field_index f + j) f (omega arith) (omega arith) ∙ ap (Local f) (omega arith)
decode_number n (Alert f i) h e =
    let l : i < n = ltb-true i n e in
    decode_alert n ((1 + field_index f) * stride + i) f (omega arith) (omega arith)
    ∙ ap (alert_at n f) (omega arith) ∙ ap (λ (t : Bool). cond t (Alert f i) Unassigned) e
decode_number n (Block s k) h e =
    let a = and-true (ltb k class_count) (setting_exists s) e in
    let l : k < class_count = ltb-true k class_count a.0 in
    let o : offset s < 13 = offset_lt s a.1 in
    decode_block n (class_base + 16 * k + offset s) (omega arith) (omega arith)
    ∙ ap₂ block_at (omega arith) (omega arith) ∙ block_at_law k s a.1
decode_number n Unassigned h e = absurd (false≢true e)

-- q has the number r, and the map assigns it
abbrev Numbered : ℕ → ℕ → Register → Type 0
Numbered n r q = is_register q ≡ true → (number_of q ≡ r) × (in_map n q ≡ true)

-- what a number decodes to has that number
decoded : (n r : ℕ) → Numbered n r (decode n r)
unfolding decode number_of
decoded n r =
    either P _ _ _ (λ t h. (sym (eqb-true r 0 t), refl))
    (either P _ _ _ (λ t h. (sym (eqb-true r 1 t), refl))
    (either P _ _ _ (λ t h. (sym (eqb-true r 2 t), refl))
    (either P _ _ _ (λ t h. (sym (eqb-true r 4 t), refl))
    (either P _ _ _ (λ t h. (sym (eqb-true r 5 t), refl))
    (either P _ _ _ (λ t h. (sym (eqb-true r 6 t), refl))
    (four_at 16 8 local_count Local _ P r (λ f j l e h. (e, lt-ltb j local_count l))
    (four_at stride stride stride (alert_at n) (blocks r) P r (λ f i l (e : stride + stride * field_index f + i ≡ r). alert f i e)
    (either P _ _ _ block (λ h. absurd (false≢true h))))))))))
  where
    P : Register → Type 0
    P = Numbered n r

    alert : (f : Field) (i : ℕ) → stride + stride * field_index f + i ≡ r → P (alert_at n f i)
    alert f i e = either P (ltb i n) (Alert f i) Unassigned (λ t h. (omega arith, t)) (λ h. absurd (false≢true h))

    block : within class_base (16 * class_count) r ≡ true → P (block_at ((r - class_base) / 16) ((r - class_base) % 16))
    block t =
        let h = inside class_base (16 * class_count) r t in
        let k : (r - class_base) / 16 < class_count = omega arith in
        block_found ((r - class_base) / 16) P ((r - class_base) % 16)
        (λ s x (e : offset s ≡ (r - class_base) % 16) g. (omega arith, true_and (lt-ltb _ _ k) x)) (λ g. absurd (false≢true g))

-- a number that decodes to a register is that register's
pub number_decode : (n r : ℕ) → is_register (decode n r) ≡ true → number_of (decode n r) ≡ r
number_decode n r h = (decoded n r h).0

-- what a number decodes to, a handler of n alerts has
pub decode_in_map : (n r : ℕ) → is_register (decode n r) ≡ true → in_map n (decode n r) ≡ true
decode_in_map n r h = (decoded n r h).1

-- a decoded class is one of the four
pub block_lt : (n r : ℕ) (s : Setting) (k : ℕ) → decode n r ≡ Block s k → k < class_count
block_lt n r s k e =
    let a : in_map n (Block s k) ≡ true = ap (in_map n) (sym e) ∙ decode_in_map n r (ap is_register e) in
    ltb-true k class_count (and-true (ltb k class_count) (setting_exists s) a).0

-- registers with one number are one
pub number_eq : (n : ℕ) (p q : Register) → n ≤ most → in_map n p ≡ true → in_map n q ≡ true → number_of p ≡ number_of q → p ≡ q
number_eq n p q h a b e = sym (decode_number n p h a) ∙ ap (decode n) e ∙ decode_number n q h b
