-- The words of `meet`, read at one alert: a and b where its receiver stands, v its level, o an open ping, k whether one is asked for, (p, q) its
-- wires, l whether it counts.
-- Assumes nothing.
use Prim.Native.Nat.{ℕ, ◌-◌, ◌^◌, ◌<◌}
use mathlib.Core.Path.{◌≡◌, refl, ap, ap₂, ◌∙◌}
use mathlib.Core.Bool.{Bool, true, false, not, cond, xor, ◌&&◌, ◌||◌}
use native.Mathlib.Omega.{arith}
use lib.Bits.{bit_and, bit_or, bit_xor, and_le_r, or_lt, xor_lt}
use Rattle.bits.specs.Bits.{place}
use Rattle.bits.proofs.BitLaws.{bit_and_law, bit_or_law, bit_xor_law, not64}
use Rattle.bits.proofs.TruthTables.{by4}
use Rattle.link_rules.specs.Codes.{handshake_of, pausing_bit, busy_bit}
use Rattle.link_rules.specs.Pair.{equal}
use Rattle.link_rules.specs.Receiver.{takes, asked_for, stands_after, received}
use Rattle.link_rules.specs.declared.Given.{Given}
use Rattle.link_rules.specs.declared.Receiver.{Receiver}
use Rattle.link_rules.proofs.CodeLaws.{code_back}
use Rattle.link_rules.proofs.ReceiverLaws.{same_receiver}

-- ── one alert ──

-- where it stands after the tick
pausing_table : (l a b p q : Bool)
    → ((a && not (xor p q && l)) || (((xor p q && l) && b) && (a || q))) ≡ cond l (pausing_bit (stands_after (handshake_of a b) p q)) a
unfolding xor stands_after
pausing_table true = by4 (λ a b p q. (a && not (xor p q && true)) || (((xor p q && true) && b) && (a || q))) (λ a b p q. pausing_bit (stands_after (handshake_of a b) p q)) tt
pausing_table false = by4 (λ a b p q. (a && not (xor p q && false)) || (((xor p q && false) && b) && (a || q))) (λ a b p q. a) tt

busy_table : (l a b p q : Bool)
    → ((b && not (xor p q && l)) || (((xor p q && l) && not a) && (p || b))) ≡ cond l (busy_bit (stands_after (handshake_of a b) p q)) b
unfolding xor stands_after
busy_table true = by4 (λ a b p q. (b && not (xor p q && true)) || (((xor p q && true) && not a) && (p || b))) (λ a b p q. busy_bit (stands_after (handshake_of a b) p q)) tt
busy_table false = by4 (λ a b p q. (b && not (xor p q && false)) || (((xor p q && false) && not a) && (p || b))) (λ a b p q. b) tt

stands_table : (l a b p q : Bool)
    → handshake_of (cond l (pausing_bit (stands_after (handshake_of a b) p q)) a) (cond l (busy_bit (stands_after (handshake_of a b) p q)) b)
    ≡ cond l (stands_after (handshake_of a b) p q) (handshake_of a b)
stands_table true a b p q = code_back (stands_after (handshake_of a b) p q)
stands_table false a b p q = refl

-- whether a rise is taken
taken_table : (l a b p q : Bool) → ((((p && not q) && not a) && not b) && l) ≡ (l && takes (handshake_of a b) p q)
taken_table true = by4 (λ a b p q. (((p && not q) && not a) && not b) && true) (λ a b p q. takes (handshake_of a b) p q) tt
taken_table false = by4 (λ a b p q. (((p && not q) && not a) && not b) && false) (λ a b p q. false) tt

-- its ping, where t says whether a rise is taken
level_table : (l v o k : Bool) → xor v ((k && not o) && l) ≡ cond l (cond (k && not o) (not v) v) v
unfolding xor
level_table = by4 (λ l v o k. xor v ((k && not o) && l)) (λ l v o k. cond l (cond (k && not o) (not v) v) v) tt

pending_table : (l o k t : Bool) → ((o || ((k && not o) && l)) && not (l && t)) ≡ cond l ((k || o) && not t) o
pending_table = by4 (λ l o k t. (o || ((k && not o) && l)) && not (l && t)) (λ l o k t. cond l ((k || o) && not t) o) tt

event_table : (l o k t : Bool) → ((l && t) && not (o || ((k && not o) && l))) ≡ (l && (t && not (k || o)))
event_table = by4 (λ l o k t. (l && t) && not (o || ((k && not o) && l))) (λ l o k t. l && (t && not (k || o))) tt

answer_table : (l o k t : Bool) → ((l && t) && (o || ((k && not o) && l))) ≡ (l && (t && (k || o)))
answer_table = by4 (λ l o k t. (l && t) && (o || ((k && not o) && l))) (λ l o k t. l && (t && (k || o))) tt

equal_table : (p q l : Bool) → (not (xor p q) && l) ≡ (l && equal p q)
unfolding xor
equal_table p q l = by4 (λ a b c d. not (xor a b) && c) (λ a b c d. c && equal a b) tt p q l l

-- part by part, of a receiver that counts or not
by_parts : (l : Bool) (z x y : Receiver) → z.stands ≡ cond l x.stands y.stands → z.level ≡ cond l x.level y.level
    → z.pending ≡ cond l x.pending y.pending → z ≡ cond l x y
by_parts true z x y = same_receiver z x
by_parts false z x y = same_receiver z y

-- ── the words ──

module _ (a b v o k p q l : ℕ) (ha : a < 2 ^ 64) (hb : b < 2 ^ 64) (ho : o < 2 ^ 64) (hp : p < 2 ^ 64) (hq : q < 2 ^ 64) (i : ℕ) (h : i < 64) where
  abbrev ones : ℕ
  ones = 18446744073709551615

  abbrev fresh : ℕ
  fresh = bit_and (bit_and k (ones - o)) l

  abbrev taken : ℕ
  taken = bit_and (bit_and (bit_and (bit_and p (ones - q)) (ones - a)) (ones - b)) l

  abbrev sound : ℕ
  sound = bit_and (bit_xor p q) l

  abbrev before : Receiver
  before = record { stands = handshake_of (place a i) (place b i); level = place v i; pending = place o i }

  abbrev given : Given
  given = record { asks = place k i; pos = place p i; neg = place q i }

  bound : 63 - i < 64
  bound = omega arith

  fresh_lt : l < 2 ^ 64 → fresh < 2 ^ 64
  fresh_lt m = omega (arith, m, and_le_r (bit_and k (ones - o)) l)

  taken_lt : l < 2 ^ 64 → taken < 2 ^ 64
  taken_lt m = omega (arith, m, and_le_r (bit_and (bit_and (bit_and p (ones - q)) (ones - a)) (ones - b)) l)

  sound_lt : l < 2 ^ 64 → sound < 2 ^ 64
  sound_lt m = omega (arith, m, and_le_r (bit_xor p q) l)

  taken_place : place taken i ≡ (place l i && takes before.stands (place p i) (place q i))
  taken_place =
      let m = bound in
      simp (bit_and_law, not64) (taken_table (place l i) (place a i) (place b i) (place p i) (place q i))

  fresh_place : place fresh i ≡ ((place k i && not (place o i)) && place l i)
  fresh_place =
      let m = bound in
      simp (bit_and_law, not64)

  module _ (hl : l < 2 ^ 64) where
    pausing_place : place (bit_or (bit_and a (ones - sound)) (bit_and (bit_and sound b) (bit_or a q))) i
        ≡ cond (place l i) (pausing_bit (stands_after before.stands (place p i) (place q i))) (place a i)
    pausing_place =
        let m = bound in
        let hs = sound_lt hl in
        simp (bit_or_law, bit_and_law, bit_xor_law, not64) (pausing_table (place l i) (place a i) (place b i) (place p i) (place q i))

    busy_place : place (bit_or (bit_and b (ones - sound)) (bit_and (bit_and sound (ones - a)) (bit_or p b))) i
        ≡ cond (place l i) (busy_bit (stands_after before.stands (place p i) (place q i))) (place b i)
    busy_place =
        let m = bound in
        let hs = sound_lt hl in
        simp (bit_or_law, bit_and_law, bit_xor_law, not64) (busy_table (place l i) (place a i) (place b i) (place p i) (place q i))

    level_place : place (bit_xor v fresh) i ≡ cond (place l i) (cond (place k i && not (place o i)) (not (place v i)) (place v i)) (place v i)
    level_place = bit_xor_law v fresh (63 - i) ∙ ap (xor (place v i)) fresh_place ∙ level_table (place l i) (place v i) (place o i) (place k i)

    open_place : place (bit_or o fresh) i ≡ (place o i || ((place k i && not (place o i)) && place l i))
    open_place = bit_or_law o fresh (63 - i) ∙ ap (λ (t : Bool). place o i || t) fresh_place

    pending_place : place (bit_and (bit_or o fresh) (ones - taken)) i
        ≡ cond (place l i) ((place k i || place o i) && not (takes before.stands (place p i) (place q i))) (place o i)
    pending_place =
        bit_and_law (bit_or o fresh) (ones - taken) (63 - i)
        ∙ ap₂ ◌&&◌ open_place (not64 taken (63 - i) (taken_lt hl) bound ∙ ap not taken_place)
        ∙ pending_table (place l i) (place o i) (place k i) (takes before.stands (place p i) (place q i))

    -- the receiver after the tick
    pub receiver_place :
        record {
          stands =
              handshake_of (place (bit_or (bit_and a (ones - sound)) (bit_and (bit_and sound b) (bit_or a q))) i)
              (place (bit_or (bit_and b (ones - sound)) (bit_and (bit_and sound (ones - a)) (bit_or p b))) i);
          level = place (bit_xor v fresh) i;
          pending = place (bit_and (bit_or o fresh) (ones - taken)) i;
        }
        ≡ cond (place l i) (received given before).receiver before
    unfolding received asked_for
    receiver_place =
        by_parts (place l i) _ (received given before).receiver before
        (ap₂ handshake_of pausing_place busy_place ∙ stands_table (place l i) (place a i) (place b i) (place p i) (place q i)) level_place pending_place

    -- an event, an answer, equal wires
    pub event_place : place (bit_and taken (ones - bit_or o fresh)) i ≡ (place l i && (received given before).event)
    unfolding received asked_for
    event_place =
        bit_and_law taken (ones - bit_or o fresh) (63 - i)
        ∙ ap₂ ◌&&◌ taken_place (not64 (bit_or o fresh) (63 - i) (or_lt 64 o fresh ho (fresh_lt hl)) bound ∙ ap not open_place)
        ∙ event_table (place l i) (place o i) (place k i) (takes before.stands (place p i) (place q i))

    pub answer_place : place (bit_and taken (bit_or o fresh)) i ≡ (place l i && (received given before).answer)
    unfolding received asked_for
    answer_place =
        bit_and_law taken (bit_or o fresh) (63 - i)
        ∙ ap₂ ◌&&◌ taken_place open_place
        ∙ answer_table (place l i) (place o i) (place k i) (takes before.stands (place p i) (place q i))

    pub equal_place : place (bit_and (ones - bit_xor p q) l) i ≡ (place l i && equal (place p i) (place q i))
    equal_place =
        let m = bound in
        let hx : bit_xor p q < 2 ^ 64 = xor_lt 64 p q hp hq in
        simp (bit_and_law, bit_xor_law, not64) (equal_table (place p i) (place q i) (place l i))
