-- Fields are lawful, and what is put together from lawful formats is.
-- Assumes nothing.
use Prim.Native.Nat.{ℕ, zero, suc, ◌+◌, ◌-◌, ◌*◌, ◌^◌, ◌≤◌, ◌<◌}
use mathlib.Core.Path.{◌≡◌, refl, sym, ap, ap₂, ◌∙◌, subst}
use mathlib.Core.Logic.{◌≢◌, ◌⊎◌, inl, inr}
use mathlib.Core.Bool.{Bool, true, false, false≢true, cond}
use mathlib.Core.List.{List, [], ◌∷◌, ◌++◌, append_assoc}
use native.Mathlib.Omega.{arith}
use native.Mathlib.Nat.{mul-suc}
use borrow.Author.Tests.{leb-true, leb-false, le-leb, lt-leb}
use lib.Dec.{leb}
use lib.ListN.{get_or, length, take, drop, length-append, take-append-drop}
use lib.Seq.{length-take-le, take_at, drop_at}
use Rattle.bits.specs.Index.{any_to}
use Rattle.bits.proofs.IndexLaws.{any_at, any_some}
use Rattle.formats.specs.BitList.{bit_list, number_of}
use Rattle.formats.specs.Format.{Outcome, got, cut, wrong, Format, Lawful, Inhabited, Chain, field, field_read, some_from, nothing, pair, with_first, and_then, as_type, outcome_to, joined, parted, chain, repeated, flat, All}
use Rattle.formats.proofs.BitListLaws.{length_bits, number_lt, list_back, list_number, number_append}

-- ── outcomes ──

abbrev is_got : {A : Type 0} → Outcome A → Bool
is_got (got a r) = true
is_got cut = false
is_got wrong = false

abbrev is_cut : {A : Type 0} → Outcome A → Bool
is_cut (got a r) = false
is_cut cut = true
is_cut wrong = false

abbrev content_or : {A : Type 0} → A → Outcome A → A
content_or d (got a r) = a
content_or d cut = d
content_or d wrong = d

abbrev rest_of : {A : Type 0} → Outcome A → List Bool
rest_of (got a r) = r
rest_of cut = []
rest_of wrong = []

pub same_content : {A : Type 0} {a b : A} {r s : List Bool} → got a r ≡ got b s → a ≡ b
same_content {a = a} e = ap (content_or a) e

pub same_rest : {A : Type 0} {a b : A} {r s : List Bool} → got a r ≡ got b s → r ≡ s
same_rest e = ap rest_of e

pub cut_not_got : {A : Type 0} {a : A} {r : List Bool} → cut ≡ got a r → ⊥
cut_not_got e = false≢true (ap is_got e)

pub wrong_not_got : {A : Type 0} {a : A} {r : List Bool} → wrong ≡ got a r → ⊥
wrong_not_got e = false≢true (ap is_got e)

pub got_not_cut : {A : Type 0} {a : A} {r : List Bool} → got a r ≡ cut → ⊥
got_not_cut e = false≢true (ap is_cut e)

pub wrong_not_cut : {A : Type 0} → ◌≡◌ {A = Outcome A} wrong cut → ⊥
wrong_not_cut e = false≢true (ap is_cut e)

length_pos : (xs : List Bool) → xs ≢ [] → 0 < length xs
length_pos [] h = absurd (h refl)
length_pos (x ∷ xs) h = omega arith

left_pos : (xs ys : List Bool) → xs ≢ [] → (xs ++ ys) ≢ []
left_pos xs ys h e =
    let p : 0 < length xs = length_pos xs h in
    let q : length xs + length ys ≡ 0 = sym (length-append xs ys) ∙ ap length e in
    absurd (omega arith)

abbrev head_or : Bool → List Bool → Bool
head_or d [] = d
head_or d (x ∷ xs) = x

abbrev tail_of : List Bool → List Bool
tail_of [] = []
tail_of (x ∷ xs) = xs

-- one list cut in two ways: the first cut comes earlier, or not
two_cuts : (xs ys us vs : List Bool) → xs ++ ys ≡ us ++ vs
    → ((m : List Bool) × (m ≢ []) × (xs ++ m ≡ us)) ⊎ ((m : List Bool) × (xs ≡ us ++ m) × (m ++ ys ≡ vs))
two_cuts [] ys [] vs e = inr ([], refl, e)
two_cuts [] ys (u ∷ us) vs e = inl (u ∷ us, (λ (p : (u ∷ us) ≡ []). let q : suc (length us) ≡ 0 = ap length p in absurd (omega arith)), refl)
two_cuts (x ∷ xs) ys [] vs e = inr (x ∷ xs, refl, e)
two_cuts (x ∷ xs) ys (u ∷ us) vs e = go (ap (head_or x) e) (two_cuts xs ys us vs (ap tail_of e))
  where
    go : x ≡ u → ((m : List Bool) × (m ≢ []) × (xs ++ m ≡ us)) ⊎ ((m : List Bool) × (xs ≡ us ++ m) × (m ++ ys ≡ vs))
        → ((m : List Bool) × (m ≢ []) × ((x ∷ xs) ++ m ≡ u ∷ us)) ⊎ ((m : List Bool) × (x ∷ xs ≡ (u ∷ us) ++ m) × (m ++ ys ≡ vs))
    go h (inl t) = inl (t.0, t.1, ap₂ {C = List Bool} ◌∷◌ h t.2)
    go h (inr t) = inr (t.0, ap₂ {C = List Bool} ◌∷◌ h t.1, t.2)

-- ── a field ──

module _ (w : ℕ) (ok : ℕ → Bool) where
  field_whole : (bs : List Bool) → w ≤ length bs → ok (number_of (take w bs)) ≡ true → field_read w ok bs ≡ got (number_of (take w bs)) (drop w bs)
  field_whole bs h e = rw (le-leb w (length bs) h, e)

  field_short : (bs : List Bool) → length bs < w → some_from ok w bs ≡ true → field_read w ok bs ≡ cut
  field_short bs h e = rw (lt-leb w (length bs) h, e)

  field_back : (a : ℕ) (rest : List Bool) → (a < 2 ^ w) × (ok a ≡ true) → field_read w ok (bit_list w a ++ rest) ≡ got a rest
  field_back a rest g =
      let l : length (bit_list w a) ≡ w = length_bits w a in
      let t : take w (bit_list w a ++ rest) ≡ bit_list w a = take_at (bit_list w a) rest w l in
      let v : number_of (take w (bit_list w a ++ rest)) ≡ a = ap number_of t ∙ list_back w a g.0 in
      let n : w ≤ length (bit_list w a ++ rest) = let m : length (bit_list w a ++ rest) ≡ length (bit_list w a) + length rest = length-append (bit_list w a) rest in omega arith in
      field_whole (bit_list w a ++ rest) n (ap ok v ∙ g.1) ∙ ap₂ got v (drop_at (bit_list w a) rest w l)

  field_only : (bs : List Bool) (a : ℕ) (rest : List Bool) → field_read w ok bs ≡ got a rest → ((a < 2 ^ w) × (ok a ≡ true)) × (bs ≡ bit_list w a ++ rest)
  field_only bs a rest = go (leb w (length bs)) refl (ok (number_of (take w bs))) refl (some_from ok w bs)
    where
      go : (t : Bool) → leb w (length bs) ≡ t → (u : Bool) → ok (number_of (take w bs)) ≡ u → (x : Bool)
          → cond t (cond u (got (number_of (take w bs)) (drop w bs)) wrong) (cond x cut wrong) ≡ got a rest
          → ((a < 2 ^ w) × (ok a ≡ true)) × (bs ≡ bit_list w a ++ rest)
      go true p true q x e =
          let l : length (take w bs) ≡ w = length-take-le w bs (leb-true w (length bs) p) in
          let v : number_of (take w bs) ≡ a = same_content e in
          let b : take w bs ≡ bit_list w a = sym (list_number (take w bs)) ∙ ap₂ bit_list l v in
          let s : number_of (take w bs) < 2 ^ length (take w bs) = number_lt (take w bs) in
          ((subst (λ (n : ℕ). n < 2 ^ w) v (subst (λ (k : ℕ). number_of (take w bs) < 2 ^ k) l s), ap ok (sym v) ∙ q), sym (take-append-drop w bs) ∙ ap₂ (λ (x y : List Bool). x ++ y) b (same_rest e))
      go true p false q x e = absurd (wrong_not_got e)
      go false p u q true e = absurd (cut_not_got e)
      go false p u q false e = absurd (wrong_not_got e)

  field_start : (bs : List Bool) (a : ℕ) (rest : List Bool) → (a < 2 ^ w) × (ok a ≡ true) → rest ≢ [] → bs ++ rest ≡ bit_list w a → field_read w ok bs ≡ cut
  field_start bs a rest g h e =
      let k : length bs + length rest ≡ w = sym (length-append bs rest) ∙ ap length e ∙ length_bits w a in
      let p : 0 < length rest = length_pos rest h in
      let m : w - length bs ≡ length rest = omega arith in
      let v : number_of bs * 2 ^ length rest + number_of rest ≡ a = sym (number_append bs rest) ∙ ap number_of e ∙ list_back w a g.0 in
      let s : some_from ok w bs ≡ true =
      ap (λ (j : ℕ). any_to (λ x. ok (number_of bs * 2 ^ j + x)) (2 ^ j)) m
      ∙ any_at (λ x. ok (number_of bs * 2 ^ length rest + x)) (2 ^ length rest) (number_of rest) (number_lt rest) (ap ok v ∙ g.1) in
      field_short bs (omega arith) s

  field_more : (bs : List Bool) → field_read w ok bs ≡ cut
      → (a : ℕ) × (rest : List Bool) × ((a < 2 ^ w) × (ok a ≡ true)) × (rest ≢ []) × (bs ++ rest ≡ bit_list w a)
  field_more bs = go (leb w (length bs)) refl (ok (number_of (take w bs))) (some_from ok w bs) refl
    where
      go : (t : Bool) → leb w (length bs) ≡ t → (u : Bool) → (x : Bool) → some_from ok w bs ≡ x
          → cond t (cond u (got (number_of (take w bs)) (drop w bs)) wrong) (cond x cut wrong) ≡ cut
          → (a : ℕ) × (rest : List Bool) × ((a < 2 ^ w) × (ok a ≡ true)) × (rest ≢ []) × (bs ++ rest ≡ bit_list w a)
      go true p true x q e = absurd (got_not_cut e)
      go true p false x q e = absurd (wrong_not_cut e)
      go false p u false q e = absurd (wrong_not_cut e)
      go false p u true q e =
          let l : length bs < w = leb-false w (length bs) p in
          let m : ℕ = w - length bs in
          let s = any_some (λ x. ok (number_of bs * 2 ^ m + x)) (2 ^ m) q in
          let rest : List Bool = bit_list m s.0 in
          let a : ℕ = number_of bs * 2 ^ m + s.0 in
          let k : length rest ≡ m = length_bits m s.0 in
          let n : length (bs ++ rest) ≡ w = let z : length (bs ++ rest) ≡ length bs + length rest = length-append bs rest in omega arith in
          let v : number_of (bs ++ rest) ≡ a = number_append bs rest ∙ ap₂ (λ (i j : ℕ). number_of bs * 2 ^ i + j) k (list_back m s.0 s.1) in
          let b : number_of (bs ++ rest) < 2 ^ length (bs ++ rest) = number_lt (bs ++ rest) in
          let c : a < 2 ^ w = subst (λ (i : ℕ). i < 2 ^ w) v (subst (λ (i : ℕ). number_of (bs ++ rest) < 2 ^ i) n b) in
          let z : rest ≢ [] = λ (r : rest ≡ []). let y : length rest ≡ 0 = ap length r in absurd (omega arith) in
          (a, rest, (c, s.2), z, sym (list_number (bs ++ rest)) ∙ ap₂ bit_list n v)

  pub field_lawful : Lawful (field w ok)
  field_lawful = record { back = field_back; only = field_only; start = field_start; more = field_more }

-- ── no bits ──

pub nothing_lawful : {A : Type 0} (a : A) → Lawful (nothing a)
nothing_lawful {A} a =
    record {
      back = λ x rest e. ap (λ (y : A). got y rest) (sym e);
      only = λ bs x rest e. (sym (same_content e), same_rest e);
      start = λ bs x rest g h e. absurd (h (right_nil bs rest e));
      more = λ bs e. absurd (got_not_cut e);
    }
  where
    right_nil : (xs ys : List Bool) → xs ++ ys ≡ [] → ys ≡ []
    right_nil [] ys e = e
    right_nil (x ∷ xs) ys e = absurd (no_cons e)
      where
        no_cons : (x ∷ (xs ++ ys)) ≡ [] → ⊥
        no_cons p = let q : suc (length (xs ++ ys)) ≡ 0 = ap length p in omega arith

-- ── one behind the other ──

module _ {A B : Type 0} (f : Format A) (g : A → Format B) (lf : Lawful f) (lg : (a : A) → f.good a → Lawful (g a)) where
  pair_back : (p : A × B) (rest : List Bool) → f.good p.0 × (g p.0).good p.1 → (pair f g).read ((pair f g).bits p ++ rest) ≡ got p rest
  pair_back p rest h =
      let a : A = p.0 in
      let b : B = p.1 in
      ap (λ (bs : List Bool). and_then g (f.read bs)) (append_assoc (f.bits a) ((g a).bits b) rest)
      ∙ ap (and_then g) (lf.back a ((g a).bits b ++ rest) h.0)
      ∙ ap (with_first a) ((lg a h.0).back b rest h.1)

  pair_only : (bs : List Bool) (p : A × B) (rest : List Bool) → (pair f g).read bs ≡ got p rest → (pair f g).good p × (bs ≡ (pair f g).bits p ++ rest)
  pair_only bs p rest = go (f.read bs) refl
    where
      second : (a : A) (mid : List Bool) → f.read bs ≡ got a mid → (o : Outcome B) → (g a).read mid ≡ o → with_first a o ≡ got p rest
          → (pair f g).good p × (bs ≡ (pair f g).bits p ++ rest)
      second a mid e (got b r) q i =
          let x = lf.only bs a mid e in
          let y = (lg a x.0).only mid b r q in
          let z : bs ≡ (pair f g).bits (a, b) ++ r = x.1 ∙ ap (λ (m : List Bool). f.bits a ++ m) y.1 ∙ sym (append_assoc (f.bits a) ((g a).bits b) r) in
          let c : ◌≡◌ {A = A × B} (a, b) p = same_content i in
          (subst (pair f g).good c (x.0, y.0), z ∙ ap₂ (λ (q : A × B) (s : List Bool). (pair f g).bits q ++ s) c (same_rest i))
      second a mid e cut q i = absurd (cut_not_got i)
      second a mid e wrong q i = absurd (wrong_not_got i)

      go : (o : Outcome A) → f.read bs ≡ o → and_then g o ≡ got p rest → (pair f g).good p × (bs ≡ (pair f g).bits p ++ rest)
      go (got a mid) e i = second a mid e ((g a).read mid) refl i
      go cut e i = absurd (cut_not_got i)
      go wrong e i = absurd (wrong_not_got i)

  pair_start : (bs : List Bool) (p : A × B) (rest : List Bool) → (pair f g).good p → rest ≢ [] → bs ++ rest ≡ (pair f g).bits p → (pair f g).read bs ≡ cut
  pair_start bs p rest h r e = go (two_cuts bs rest (f.bits p.0) ((g p.0).bits p.1) e)
    where
      go : ((m : List Bool) × (m ≢ []) × (bs ++ m ≡ f.bits p.0)) ⊎ ((m : List Bool) × (bs ≡ f.bits p.0 ++ m) × (m ++ rest ≡ (g p.0).bits p.1)) → (pair f g).read bs ≡ cut
      go (inl t) = ap (and_then g) (lf.start bs p.0 t.0 h.0 t.1 t.2)
      go (inr t) =
          ap (λ (x : List Bool). and_then g (f.read x)) t.1
          ∙ ap (and_then g) (lf.back p.0 t.0 h.0)
          ∙ ap (with_first p.0) ((lg p.0 h.0).start t.0 p.1 rest h.1 r t.2)

  pair_more : ((a : A) → f.good a → Inhabited (g a)) → (bs : List Bool) → (pair f g).read bs ≡ cut
      → (p : A × B) × (rest : List Bool) × (pair f g).good p × (rest ≢ []) × (bs ++ rest ≡ (pair f g).bits p)
  pair_more some bs = go (f.read bs) refl
    where
      second : (a : A) (mid : List Bool) → f.read bs ≡ got a mid → (o : Outcome B) → (g a).read mid ≡ o → with_first a o ≡ cut
          → (p : A × B) × (rest : List Bool) × (pair f g).good p × (rest ≢ []) × (bs ++ rest ≡ (pair f g).bits p)
      second a mid e (got b r) q i = absurd (got_not_cut i)
      second a mid e wrong q i = absurd (wrong_not_cut i)
      second a mid e cut q i =
          let x = lf.only bs a mid e in
          let y = (lg a x.0).more mid q in
          ((a, y.0), y.1, (x.0, y.2), y.3, ap (λ (l : List Bool). l ++ y.1) x.1 ∙ append_assoc (f.bits a) mid y.1 ∙ ap (λ (l : List Bool). f.bits a ++ l) y.4)

      go : (o : Outcome A) → f.read bs ≡ o → and_then g o ≡ cut
          → (p : A × B) × (rest : List Bool) × (pair f g).good p × (rest ≢ []) × (bs ++ rest ≡ (pair f g).bits p)
      go (got a mid) e i = second a mid e ((g a).read mid) refl i
      go wrong e i = absurd (wrong_not_cut i)
      go cut e i =
          let x = lf.more bs e in
          let a : A = x.0 in
          let b = some a x.2 in
          let t : List Bool = (g a).bits b.0 in
          ((a, b.0), x.1 ++ t, (x.2, b.1), left_pos x.1 t x.3, sym (append_assoc bs x.1 t) ∙ ap (λ (l : List Bool). l ++ t) x.4)

  -- what follows has a content, whatever comes first
  pub pair_lawful : ((a : A) → f.good a → Inhabited (g a)) → Lawful (pair f g)
  pair_lawful some = record { back = pair_back; only = pair_only; start = pair_start; more = pair_more some }

pub pair_inhabited : {A B : Type 0} (f : Format A) (g : A → Format B) → Inhabited f → ((a : A) → f.good a → Inhabited (g a)) → Inhabited (pair f g)
pair_inhabited f g x some = let y = some x.0 x.1 in ((x.0, y.0), (x.1, y.1))

-- ── for another type ──

module _ {A B : Type 0} (to : A → B) (from : B → A) (f : Format A) (lf : Lawful f) (h : (a : A) → f.good a → from (to a) ≡ a) where
  abbrev g : Format B
  g = as_type to from f

  as_back : (b : B) (rest : List Bool) → g.good b → g.read (g.bits b ++ rest) ≡ got b rest
  as_back b rest k = ap (outcome_to to) (lf.back (from b) rest k.0) ∙ ap (λ (x : B). got x rest) k.1

  as_good : (a : A) → f.good a → g.good (to a)
  as_good a k = (subst f.good (sym (h a k)) k, ap to (h a k))

  as_only : (bs : List Bool) (b : B) (rest : List Bool) → g.read bs ≡ got b rest → g.good b × (bs ≡ g.bits b ++ rest)
  as_only bs b rest = go (f.read bs) refl
    where
      go : (o : Outcome A) → f.read bs ≡ o → outcome_to to o ≡ got b rest → g.good b × (bs ≡ g.bits b ++ rest)
      go (got a r) e i =
          let x = lf.only bs a r e in
          let c : to a ≡ b = same_content i in
          (subst g.good c (as_good a x.0), x.1 ∙ ap₂ (λ (y : A) (s : List Bool). f.bits y ++ s) (sym (h a x.0) ∙ ap from c) (same_rest i))
      go cut e i = absurd (cut_not_got i)
      go wrong e i = absurd (wrong_not_got i)

  as_start : (bs : List Bool) (b : B) (rest : List Bool) → g.good b → rest ≢ [] → bs ++ rest ≡ g.bits b → g.read bs ≡ cut
  as_start bs b rest k r e = ap (outcome_to to) (lf.start bs (from b) rest k.0 r e)

  as_more : (bs : List Bool) → g.read bs ≡ cut → (b : B) × (rest : List Bool) × g.good b × (rest ≢ []) × (bs ++ rest ≡ g.bits b)
  as_more bs = go (f.read bs) refl
    where
      go : (o : Outcome A) → f.read bs ≡ o → outcome_to to o ≡ cut → (b : B) × (rest : List Bool) × g.good b × (rest ≢ []) × (bs ++ rest ≡ g.bits b)
      go (got a r) e i = absurd (got_not_cut i)
      go wrong e i = absurd (wrong_not_cut i)
      go cut e i = let x = lf.more bs e in (to x.0, x.1, as_good x.0 x.2, x.3, x.4 ∙ ap f.bits (sym (h x.0 x.2)))

  pub as_lawful : Lawful g
  as_lawful = record { back = as_back; only = as_only; start = as_start; more = as_more }

  pub as_inhabited : Inhabited f → Inhabited g
  as_inhabited x = (to x.0, as_good x.0 x.1)

-- ── a list ──

module _ {S A : Type 0} (c : Chain S A) (Able : ℕ → S → Type 0)
    (lawful : (s : S) (k : ℕ) → Lawful (c.one s k))
    (some : (s : S) (k : ℕ) → Able (suc k) s → Inhabited (c.one s k))
    (on : (s : S) (k : ℕ) (x : A) → Able (suc k) s → (c.one s k).good x → Able k (c.next s x)) where
  -- as long as there is a next one, there is a list
  pub chain_inhabited : (k : ℕ) (s : S) → Able k s → Inhabited (chain c k s)
  chain_inhabited zero s h = ([], refl)
  chain_inhabited (suc k) s h =
      let x = some s k h in
      let t = chain_inhabited k (c.next s x.0) (on s k x.0 h x.1) in
      (x.0 ∷ t.0, ((x.1, t.1), refl))

  pub chain_lawful : (k : ℕ) (s : S) → Able k s → Lawful (chain c k s)
  chain_lawful zero s h = nothing_lawful []
  chain_lawful (suc k) s h =
      as_lawful joined (parted c.default) (pair (c.one s k) (λ x. chain c k (c.next s x)))
      (pair_lawful (c.one s k) (λ x. chain c k (c.next s x)) (lawful s k)
      (λ x g. chain_lawful k (c.next s x) (on s k x h g))
      (λ x g. chain_inhabited k (c.next s x) (on s k x h g)))
      (λ p g. refl)

-- a list's length is what was asked for
pub chain_length : {S A : Type 0} (c : Chain S A) (k : ℕ) (s : S) (xs : List A) → (chain c k s).good xs → length xs ≡ k
chain_length c zero s xs h = ap length h
chain_length c (suc k) s [] h = absurd (let q : 1 ≡ 0 = ap length h.1 in omega arith)
chain_length c (suc k) s (x ∷ xs) h = ap suc (chain_length c k (c.next s x) xs h.0.1)

module _ {S A : Type 0} (c : Chain S A) (f : A → List Bool) (same : (s : S) (k : ℕ) (x : A) → (c.one s k).bits x ≡ f x) where
  pub chain_flat : (k : ℕ) (s : S) (xs : List A) → length xs ≡ k → (chain c k s).bits xs ≡ flat f xs
  unfolding flat
  chain_flat zero s [] h = refl
  chain_flat zero s (x ∷ xs) h = absurd (omega arith)
  chain_flat (suc k) s [] h = absurd (omega arith)
  chain_flat (suc k) s (x ∷ xs) h = ap₂ (λ (u v : List Bool). u ++ v) (same s k x) (chain_flat k (c.next s x) xs (omega arith))

-- ── a list of one format ──

module _ {A : Type 0} (f : Format A) (d : A) (lf : Lawful f) (x : Inhabited f) where
  pub repeated_lawful : (k : ℕ) → Lawful (chain (repeated f d) k tt)
  repeated_lawful k = chain_lawful (repeated f d) (λ j s. Unit {0}) (λ s j. lf) (λ s j h. x) (λ s j y h g. tt) k tt tt

  pub repeated_inhabited : (k : ℕ) → Inhabited (chain (repeated f d) k tt)
  repeated_inhabited k = chain_inhabited (repeated f d) (λ j s. Unit {0}) (λ s j. lf) (λ s j h. x) (λ s j y h g. tt) k tt tt

pub repeated_all : {A : Type 0} (f : Format A) (d : A) (k : ℕ) (s : Unit {0}) (xs : List A) → (chain (repeated f d) k s).good xs → All f.good xs
repeated_all f d zero s [] h = tt
repeated_all f d zero s (x ∷ xs) h = absurd (let q : suc (length xs) ≡ 0 = ap length h in omega arith)
repeated_all f d (suc k) s [] h = absurd (let q : 1 ≡ 0 = ap length h.1 in omega arith)
repeated_all f d (suc k) s (x ∷ xs) h = (h.0.0, repeated_all f d k s xs h.0.1)

pub all_repeated : {A : Type 0} (f : Format A) (d : A) (k : ℕ) (s : Unit {0}) (xs : List A) → length xs ≡ k → All f.good xs → (chain (repeated f d) k s).good xs
all_repeated f d zero s [] l h = refl
all_repeated f d zero s (x ∷ xs) l h = absurd (omega arith)
all_repeated f d (suc k) s [] l h = absurd (omega arith)
all_repeated f d (suc k) s (x ∷ xs) l h = ((h.0, all_repeated f d k s xs (omega arith) h.1), refl)

-- ── lists each of which has something ──

pub all_map : {A : Type 0} {p q : A → Type 0} → ((x : A) → p x → q x) → (xs : List A) → All p xs → All q xs
all_map f [] h = tt
all_map f (x ∷ xs) h = (f x h.0, all_map f xs h.1)

-- an entry of a list each of whose entries has p, or past its end
pub all_at : {A : Type 0} (p : A → Type 0) (d : A) → p d → (xs : List A) → All p xs → (i : ℕ) → p (get_or xs i d)
all_at p d z [] h i = z
all_at p d z (x ∷ xs) h zero = h.0
all_at p d z (x ∷ xs) h (suc i) = all_at p d z xs h.1 i

-- as many bits for each
pub flat_length : {A : Type 0} (f : A → List Bool) (w : ℕ) → ((x : A) → length (f x) ≡ w) → (xs : List A) → length (flat f xs) ≡ w * length xs
unfolding flat
flat_length f w h [] = omega arith
flat_length f w h (x ∷ xs) =
    length-append (f x) (flat f xs) ∙ ap₂ (λ (a b : ℕ). a + b) (h x) (flat_length f w h xs)
    ∙ (let e : w * suc (length xs) ≡ w * length xs + w = mul-suc w (length xs) in let g : w + w * length xs ≡ w * suc (length xs) = omega arith in g)
