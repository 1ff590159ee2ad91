-- Counting and finding registers, one more in each turn.
-- Assumes nothing.
use Prim.Native.Nat.{ℕ, suc, ◌+◌, ◌-◌, ◌≤◌, ◌<◌}
use mathlib.Core.Path.{◌≡◌, refl, sym, ap, ap₂, ◌∙◌, subst}
use mathlib.Core.Bool.{Bool, true, false, false≢true, ◌&&◌}
use native.Mathlib.Omega.{arith}
use Rattle.std.specs.Prelude.{Option, Some, None}
use native.Mathlib.Decide.{ℕ_discrete, dec_lt}
use borrow.Author.Tests.{leb-true, le-leb, ltb-true, lt-ltb}
use lib.Dec.{leb, ltb}
use Rattle.bits.specs.Bits.{num}
use Rattle.bits.specs.Index.{any_to}
use Rattle.bits.proofs.IndexLaws.{and-true, true_and, any_at, any_none, any_some}
use Rattle.rules.specs.Map.{decode, is_shadowed}
use Rattle.dump_rules.specs.Shown.{picks, limit}
use Rattle.dump_rules.specs.Reader.{shadowed_from, stage_at}
use Rattle.dump_rules.proofs.PickLaws.{many, many_next, many_up, many_in, many_le, many_split}
use Rattle.dump_rules.proofs.LawfulDump.{shadow_lt, fewer_above, stage_facts}
use Rattle.dump_map.specs.Kinds.{First, Counted, left_by}

-- the turn of a loop that counts up to r
pub count_turn : (p : ℕ → Bool) (a r m b : ℕ) → a ≤ r → m ≡ many p a (r - a) → b ≡ num (p r) → m + b ≡ many p a (r + 1 - a)
count_turn p a r m b l e f =
    let x : a + (r - a) ≡ r = omega arith in
    let y : suc (r - a) ≡ r + 1 - a = omega arith in
    ap₂ (λ (u v : ℕ). u + v) e (f ∙ ap (λ (z : ℕ). num (p z)) (sym x)) ∙ sym (many_next p a (r - a)) ∙ ap (many p a) y

-- ── the first shadowed register that is left decides whether a cut number can go on ──

module _ (n : ℕ) where
  abbrev shadow : ℕ → Bool
  shadow r = is_shadowed (decode n r)

  fewer : (a b : ℕ) → a ≤ b → shadow b ≡ true → shadowed_from n (suc b) ≤ shadowed_from n (suc a)
  fewer a b l e = go (ℕ_discrete a b)
    where
      go : Dec (a ≡ b) → shadowed_from n (suc b) ≤ shadowed_from n (suc a)
      go (yes d) = subst (λ (z : ℕ). shadowed_from n (suc b) ≤ shadowed_from n (suc z)) (sym d) (omega arith)
      go (no d) =
          let x : suc (shadowed_from n (suc b)) ≤ shadowed_from n (suc a) = fewer_above n (suc a) b (omega arith) e in
          omega arith

  bool_eq : (a b : Bool) → (a ≡ true → b ≡ true) → (b ≡ true → a ≡ true) → a ≡ b
  bool_eq true true f g = refl
  bool_eq true false f g = sym (f refl)
  bool_eq false true f g = g refl
  bool_eq false false f g = refl

  -- a register that is left is one of the numbers below lo + span and has k above it
  pub first_decides : (from k lo span a : ℕ) (o : Option ℕ) → from ≤ a → lo ≤ a → ((x : ℕ) → from ≤ x → lo ≤ x → a ≤ x) → First n a o
      → left_by n k (lo + span) o ≡ any_to (λ x. stage_at n from k (lo + x)) span
  first_decides from k lo span a None f l least none = sym (any_none (λ x. stage_at n from k (lo + x)) span never)
    where
      never : (x : ℕ) → x < span → stage_at n from k (lo + x) ≡ false
      never x h = go (stage_at n from k (lo + x)) refl
        where
          go : (t : Bool) → stage_at n from k (lo + x) ≡ t → t ≡ false
          go false e = refl
          go true e =
              let t = stage_facts n from k (lo + x) e in
              absurd (false≢true (sym (none (lo + x) (least (lo + x) t.0 (omega arith)) (shadow_lt n (lo + x) t.1)) ∙ t.1))
  first_decides from k lo span a (Some r) f l least first = bool_eq _ _ to back
    where
      to : (ltb r (lo + span) && leb k (shadowed_from n (suc r))) ≡ true → any_to (λ x. stage_at n from k (lo + x)) span ≡ true
      to e =
          let y = and-true (ltb r (lo + span)) (leb k (shadowed_from n (suc r))) e in
          let u : r < lo + span = ltb-true r (lo + span) y.0 in
          let v : a ≤ r = first.from in
          let z : lo + (r - lo) ≡ r = omega arith in
          any_at (λ i. stage_at n from k (lo + i)) span (r - lo) (omega arith)
          (ap (stage_at n from k) z ∙ true_and (le-leb from r (omega arith)) (true_and first.shadowed y.1))

      back : any_to (λ x. stage_at n from k (lo + x)) span ≡ true → (ltb r (lo + span) && leb k (shadowed_from n (suc r))) ≡ true
      back e =
          let s = any_some (λ x. stage_at n from k (lo + x)) span e in
          let b : ℕ = lo + s.0 in
          let t = stage_facts n from k b s.2 in
          let u : a ≤ b = least b t.0 (omega arith) in
          let z : r ≤ b = before b (dec_lt b r) u t.1 in
          let y : s.0 < span = s.1 in
          let c : shadowed_from n (suc b) ≤ shadowed_from n (suc r) = fewer r b z t.1 in
          let d : k ≤ shadowed_from n (suc b) = t.2 in
          true_and (lt-ltb r (lo + span) (omega arith)) (le-leb k (shadowed_from n (suc r)) (omega arith))
        where
          before : (b : ℕ) → Dec (b < r) → a ≤ b → shadow b ≡ true → r ≤ b
          before b (yes q) u t = absurd (false≢true (sym (first.none_before b u q) ∙ t))
          before b (no q) u t = omega arith

-- the turn of a loop that counts from 0 on, by what it has counted or by the place that it has come to
pub count_on : (p : ℕ → Bool) (r m b : ℕ) → m ≡ many p 0 r → b ≡ num (p r) → m + b ≡ many p 0 (r + 1)
count_on p r m b e f = ap₂ (λ (x y : ℕ). x + y) e f ∙ sym (many_up p r) ∙ ap (many p 0) (let z : suc r ≡ r + 1 = omega arith in z)

pub place_none : (p : ℕ → Bool) (at : ℕ) → at ≡ at + many p 0 0
unfolding picks
place_none p at = omega arith

pub place_next : (p : ℕ → Bool) (at r here w : ℕ) → here ≡ at + many p 0 r → w ≡ num (p r) → here + w ≡ at + many p 0 (r + 1)
place_next p at r here w e f = let n : many p 0 r + w ≡ many p 0 (r + 1) = count_on p r (many p 0 r) w refl f in omega arith

-- ── how many shadowed registers are left above one ──

zero_few : 0 ≤ 65536
zero_few = omega arith

module _ (n : ℕ) where
  abbrev shadowed : ℕ → Bool
  shadowed r = is_shadowed (decode n r)

  -- of the shadowed registers some are below `from`, some from there up to r; r is one; the rest is above it
  above : (from r : ℕ) → from ≤ r → r < limit → shadowed r ≡ true
      → many shadowed 0 limit ≡ many shadowed 0 from + many shadowed from (r - from) + 1 + shadowed_from n (suc r)
  above from r l h e =
      let x : limit ≡ from + (limit - from) = omega arith in
      let y : limit - from ≡ (r - from) + (limit - r) = omega arith in
      let z : limit - r ≡ suc (limit - suc r) = omega arith in
      let u : from + (r - from) ≡ r = omega arith in
      let w : 0 + from ≡ from = omega arith in
      let a : many shadowed 0 limit ≡ many shadowed 0 from + many shadowed from (limit - from) =
      ap (many shadowed 0) x ∙ many_split shadowed 0 from (limit - from) ∙ ap (λ (k : ℕ). many shadowed 0 from + many shadowed k (limit - from)) w in
      let b : many shadowed from (limit - from) ≡ many shadowed from (r - from) + many shadowed r (limit - r) =
      ap (many shadowed from) y ∙ many_split shadowed from (r - from) (limit - r) ∙ ap (λ (k : ℕ). many shadowed from (r - from) + many shadowed k (limit - r)) u in
      let c : many shadowed r (limit - r) ≡ suc (shadowed_from n (suc r)) = ap (many shadowed r) z ∙ many_in shadowed r (limit - suc r) e in
      omega arith

  -- so k are above it exactly where all these are no more than the total
  pub counted_left : (from below total k r passed : ℕ) → Counted n from below total → from ≤ r → r < limit → shadowed r ≡ true
      → passed ≡ many shadowed from (r - from) → leb (below + passed + k + 1) total ≡ leb k (shadowed_from n (suc r))
  counted_left from below total k r passed c l h e f =
      bool_eq n _ _
      (λ t. let a : below + passed + k + 1 ≤ total = leb-true _ _ t in le-leb k (shadowed_from n (suc r)) (omega (arith, sum)))
      (λ t. let a : k ≤ shadowed_from n (suc r) = leb-true _ _ t in le-leb (below + passed + k + 1) total (omega (arith, sum)))
    where
      sum : total ≡ below + passed + 1 + shadowed_from n (suc r)
      sum =
          c.is_total ∙ above from r l h e
          ∙ ap₂ (λ (x y : ℕ). x + y + 1 + shadowed_from n (suc r)) (sym c.is_below) (sym f)

  -- and one goes on above it
  pub counted_on : (from below total r passed : ℕ) → Counted n from below total → from ≤ r + 1 → r < 65536
      → passed ≡ many shadowed from (r + 1 - from) → Counted n (r + 1) (below + passed) total
  counted_on from below total r passed c l h f =
      record { is_below = ap₂ (λ (x y : ℕ). x + y) c.is_below f ∙ sym whole; is_total = c.is_total; few = omega arith }
    where
      whole : many shadowed 0 (r + 1) ≡ many shadowed 0 from + many shadowed from (r + 1 - from)
      whole =
          let x : r + 1 ≡ from + (r + 1 - from) = omega arith in
          let w : 0 + from ≡ from = omega arith in
          ap (many shadowed 0) x ∙ many_split shadowed 0 from (r + 1 - from) ∙ ap (λ (k : ℕ). many shadowed 0 from + many shadowed k (r + 1 - from)) w

  -- at first there is none below
  pub counted_none : (total : ℕ) → total ≡ many shadowed 0 limit → Counted n 0 0 total
  unfolding picks
  counted_none total e = record { is_below = refl; is_total = e; few = zero_few }

  -- no more than there are numbers
  pub counted_few : (from below total : ℕ) → Counted n from below total → below ≤ 65536
  counted_few from below total c =
      let a : many shadowed 0 from ≤ from = many_le shadowed 0 from in
      omega (arith, c.is_below, c.few)

pub count_none : (p : ℕ → Bool) (a : ℕ) → 0 ≡ many p a (a - a)
unfolding picks
count_none p a = ap (many p a) (let e : 0 ≡ a - a = omega arith in e)

pub num_le : (b : Bool) → num b ≤ 1
num_le true = omega arith
num_le false = omega arith
