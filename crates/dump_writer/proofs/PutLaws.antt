-- One more bit, and bits behind bits.
-- Assumes nothing.
use Prim.Native.Nat.{ℕ, zero, suc, ◌+◌, ◌-◌, ◌*◌, ◌/◌, ◌%◌, ◌^◌, ◌≤◌, ◌<◌}
use mathlib.Core.Path.{◌≡◌, refl, sym, ap, ap₂, ◌∙◌, subst}
use mathlib.Core.Bool.{Bool, false}
use mathlib.Core.List.{List, [], ◌∷◌, ◌++◌, append_assoc}
use native.Mathlib.Omega.{arith}
use native.Mathlib.Nat.{mod-eq_of_lt}
use lib.Dec.{eqb}
use lib.ListN.{length, get_or, take, drop, set, length-append, length-drop, length-set}
use lib.Pow.{pow_mono}
use lib.Seq.{take-append-le, drop-append-le, take-suc, drop-cons, set_at, take_all, length-take-le}
use Rattle.bits.specs.Bits.{bit, num}
use Rattle.formats.specs.BitList.{bit_list, number_of, bytes_of_bits}
use Rattle.formats.proofs.BitListLaws.{length_bits, length_bytes_of_bits, number_lt, number_append}
use Rattle.formats.proofs.BitAtLaws.{bit_in}
use Rattle.dump_writer.specs.Puts.{Wrote, Puts}
use Rattle.dump_writer.specs.declared.put.Pen.{Pen}

-- ── one byte more ──

bytes_next : (n : ℕ) (xs ys : List Bool) → length xs ≡ 8 * n → length ys ≡ 8 → bytes_of_bits (suc n) (xs ++ ys) ≡ bytes_of_bits n xs ++ (number_of ys ∷ [])
unfolding bytes_of_bits
bytes_next zero [] ys h l = ap (λ (z : List Bool). number_of z ∷ []) (take_all 8 ys (omega arith))
bytes_next zero (x ∷ xs) ys h l = absurd (omega arith)
bytes_next (suc n) xs ys h l =
    let t : take 8 (xs ++ ys) ≡ take 8 xs = take-append-le 8 xs ys (omega arith) in
    let d : drop 8 (xs ++ ys) ≡ drop 8 xs ++ ys = drop-append-le 8 xs ys (omega arith) in
    let k : length (drop 8 xs) ≡ 8 * n = let m : length (drop 8 xs) ≡ length xs - 8 = length-drop 8 xs in omega arith in
    ap₂ (λ (a b : List Bool). number_of a ∷ bytes_of_bits (suc n) b) t d ∙ ap (λ (z : List ℕ). number_of (take 8 xs) ∷ z) (bytes_next n (drop 8 xs) ys k l)

-- ── one bit more ──

module _ (o : List ℕ) (l : List Bool) (out : List ℕ) (wait at v : ℕ) (b : Bool) (n : v ≡ 2 * (wait % 128) + num b) (w : Wrote o l out wait) (e : length l ≡ at) (room : at < 8 * length out) where
  pending_at : at ≡ 8 * w.count + length w.pending
  pending_at =
      let x : length l ≡ length w.full + length w.pending = ap length w.all ∙ length-append w.full w.pending in
      omega (arith, w.whole)

  value : v ≡ number_of (w.pending ++ (b ∷ []))
  unfolding number_of
  value =
      let s : number_of w.pending < 2 ^ length w.pending = number_lt w.pending in
      let p : 2 ^ length w.pending ≤ 2 ^ 7 = pow_mono (let k : length w.pending ≤ 7 = omega (arith, w.less) in k) in
      let m : wait % 128 ≡ number_of w.pending = ap (λ (z : ℕ). z % 128) w.waits ∙ mod-eq_of_lt (let k : number_of w.pending < 128 = omega arith in k) in
      let q : number_of (w.pending ++ (b ∷ [])) ≡ number_of w.pending * 2 ^ 1 + (num b * 2 ^ 0 + 0) = number_append w.pending (b ∷ []) in
      omega arith

  behind : l ++ (b ∷ []) ≡ w.full ++ (w.pending ++ (b ∷ []))
  behind = ap (λ (z : List Bool). z ++ (b ∷ [])) w.all ∙ append_assoc w.full w.pending (b ∷ [])

  more : length (w.pending ++ (b ∷ [])) ≡ length w.pending + 1
  more = length-append w.pending (b ∷ [])

  -- it waits
  pub push_waits : (at % 8 ≡ 7 → ⊥) → Wrote o (l ++ (b ∷ [])) out (v)
  push_waits d =
      let k : length w.pending ≡ 7 → ⊥ = λ (z : length w.pending ≡ 7). d (let y : at % 8 ≡ 7 = omega (arith, pending_at) in y) in
      let g : length w.pending < 7 = omega (arith, w.less) in
      record {
        count = w.count;
        full = w.full;
        pending = w.pending ++ (b ∷ []);
        all = behind;
        whole = w.whole;
        less = omega (arith, more);
        stored = w.stored;
        waits = value;
      }

  -- it is the last of a byte
  pub push_stores : at % 8 ≡ 7 → Wrote o (l ++ (b ∷ [])) (set out (at / 8) (v)) 0
  unfolding number_of
  push_stores d =
      let c : ℕ = w.count in
      let g : length w.pending ≡ 7 = omega (arith, pending_at, w.less) in
      let i : at / 8 ≡ c = omega (arith, pending_at) in
      let p8 : length (w.pending ++ (b ∷ [])) ≡ 8 = omega (arith, more) in
      let len : length out ≡ c + length (drop c o) = ap length w.stored ∙ length-append (bytes_of_bits c w.full) (drop c o) ∙ ap (λ (z : ℕ). z + length (drop c o)) (length_bytes_of_bits c w.full) in
      let dl : length (drop c o) ≡ length o - c = length-drop c o in
      let fits : c < length o = omega arith in
      let y : ℕ = get_or o c 0 in
      let st : set out (at / 8) v ≡ bytes_of_bits (suc c) (w.full ++ (w.pending ++ (b ∷ []))) ++ drop (suc c) o =
      ap₂ (λ (a : List ℕ) (j : ℕ). set a j v) (w.stored ∙ ap (λ (z : List ℕ). bytes_of_bits c w.full ++ z) (drop-cons o c 0 fits)) i
      ∙ set_at (bytes_of_bits c w.full) y (drop (suc c) o) v c (length_bytes_of_bits c w.full)
      ∙ ap (λ (z : ℕ). bytes_of_bits c w.full ++ z ∷ drop (suc c) o) value
      ∙ sym (append_one (bytes_of_bits c w.full) (number_of (w.pending ++ (b ∷ []))) (drop (suc c) o))
      ∙ ap (λ (z : List ℕ). z ++ drop (suc c) o) (sym (bytes_next c w.full (w.pending ++ (b ∷ [])) w.whole p8)) in
      let fl : length (w.full ++ (w.pending ++ (b ∷ []))) ≡ length w.full + length (w.pending ++ (b ∷ [])) = length-append w.full (w.pending ++ (b ∷ [])) in
      record {
        count = suc c;
        full = w.full ++ (w.pending ++ (b ∷ []));
        pending = [];
        all = behind ∙ sym (append_none (w.full ++ (w.pending ++ (b ∷ []))));
        whole = omega (arith, w.whole);
        less = omega arith;
        stored = st;
        waits = refl;
      }
    where
      append_one : (xs : List ℕ) (x : ℕ) (ys : List ℕ) → (xs ++ (x ∷ [])) ++ ys ≡ xs ++ x ∷ ys
      append_one [] x ys = refl
      append_one (z ∷ xs) x ys = ap (λ (r : List ℕ). z ∷ r) (append_one xs x ys)

      append_none : (xs : List Bool) → xs ++ [] ≡ xs
      append_none [] = refl
      append_none (z ∷ xs) = ap (λ (r : List Bool). z ∷ r) (append_none xs)

-- ── bits behind bits ──

nothing_behind : (xs : List Bool) → xs ++ [] ≡ xs
nothing_behind [] = refl
nothing_behind (z ∷ xs) = ap (λ (r : List Bool). z ∷ r) (nothing_behind xs)

pub puts_none : (p : Pen) → Puts [] p p
puts_none p = record { lent = refl; place = omega arith; room = refl; written = λ o l w e. subst (λ (z : List Bool). Wrote o z p.out.now p.wait) (sym (nothing_behind l)) w }

pub puts_then : (xs ys : List Bool) (p q r : Pen) → Puts xs p q → Puts ys q r → Puts (xs ++ ys) p r
puts_then xs ys p q r f g =
    record {
      lent = g.lent ∙ f.lent;
      place = let n : length (xs ++ ys) ≡ length xs + length ys = length-append xs ys in omega (arith, f.place, g.place);
      room = g.room ∙ f.room;
      written = λ o l w e.
          let v = f.written o l w e in
          let n : length (l ++ xs) ≡ q.at = length-append l xs ∙ ap (λ (k : ℕ). k + length xs) e ∙ sym f.place in
          subst (λ (z : List Bool). Wrote o z r.out.now r.wait) (append_assoc l xs ys) (g.written o (l ++ xs) v n);
    }

-- the turn of a loop that puts a number
pub put_next : (w x i : ℕ) (p q r : Pen) → i < w → Puts (take i (bit_list w x)) p q → Puts (eqb (x / 2 ^ (w - 1 - i) % 2) 1 ∷ []) q r → Puts (take (i + 1) (bit_list w x)) p r
unfolding bit
put_next w x i p q r h f g =
    let n : length (bit_list w x) ≡ w = length_bits w x in
    let y : List Bool = take i (bit_list w x) in
    let d : Bool = eqb (x / 2 ^ (w - 1 - i) % 2) 1 in
    let t : get_or (bit_list w x) i false ≡ d = bit_in w x i h ∙ ap (λ (j : ℕ). eqb (x / 2 ^ j % 2) 1) (let q : w - suc i ≡ w - 1 - i = omega arith in q) in
    let s : take (i + 1) (bit_list w x) ≡ y ++ (d ∷ []) =
    ap (λ (j : ℕ). take j (bit_list w x)) (let q : i + 1 ≡ suc i = omega arith in q) ∙ take-suc (bit_list w x) i false (omega arith) ∙ ap (λ (z : Bool). y ++ (z ∷ [])) t in
    subst (λ (z : List Bool). Puts z p r) (sym s) (puts_then y (d ∷ []) p q r f g)

pub put_all : (w x i : ℕ) (p q : Pen) → w ≤ i → Puts (take i (bit_list w x)) p q → Puts (bit_list w x) p q
put_all w x i p q h f =
    subst (λ (z : List Bool). Puts z p q) (take_all i (bit_list w x) (let n : length (bit_list w x) ≡ w = length_bits w x in omega arith)) f

-- where the pen is in a loop
pub put_place : (w x i : ℕ) (p q : Pen) → i ≤ w → Puts (take i (bit_list w x)) p q → (q.at ≡ p.at + i) × (length q.out.now ≡ length p.out.now)
put_place w x i p q h f =
    let k : length (take i (bit_list w x)) ≡ i = length-take-le i (bit_list w x) (let n : length (bit_list w x) ≡ w = length_bits w x in omega arith) in
    (f.place ∙ ap (λ (z : ℕ). p.at + z) k, f.room)

pub number_place : (w x : ℕ) (p q : Pen) → Puts (bit_list w x) p q → (q.at ≡ p.at + w) × (length q.out.now ≡ length p.out.now)
number_place w x p q f = (f.place ∙ ap (λ (z : ℕ). p.at + z) (length_bits w x), f.room)

-- ── a bit, by what the pen is after it ──

pub plus : (x y z : ℕ) → y ≡ z → x + y ≡ x + z
plus x y z e = ap (λ (k : ℕ). x + k) e

module _ (b : Bool) (p q : Pen) (v : ℕ) (n : v ≡ 2 * (p.wait % 128) + num b) (room : p.at < 8 * length p.out.now) (place : q.at ≡ p.at + 1) (lent : q.out.ghost_name ≡ p.out.ghost_name) where
  pub pushed_last : p.at % 8 ≡ 7 → q.out.now ≡ set p.out.now (p.at / 8) v → q.wait ≡ 0 → Puts (b ∷ []) p q
  pushed_last d e f =
      record {
        lent = lent;
        place = place;
        room = ap length e ∙ length-set p.out.now (p.at / 8) v;
        written = λ o l w i.
            subst (λ (x : List ℕ). Wrote o (l ++ (b ∷ [])) x q.wait) (sym e)
            (subst (λ (y : ℕ). Wrote o (l ++ (b ∷ [])) (set p.out.now (p.at / 8) v) y) (sym f) (push_stores o l p.out.now p.wait p.at v b n w i room d));
      }

  pub pushed_more : (p.at % 8 ≡ 7 → ⊥) → q.out.now ≡ p.out.now → q.wait ≡ v → Puts (b ∷ []) p q
  pushed_more d e f =
      record {
        lent = lent;
        place = place;
        room = ap length e;
        written = λ o l w i.
            subst (λ (x : List ℕ). Wrote o (l ++ (b ∷ [])) x q.wait) (sym e)
            (subst (λ (y : ℕ). Wrote o (l ++ (b ∷ [])) p.out.now y) (sym f) (push_waits o l p.out.now p.wait p.at v b n w i room d));
      }
