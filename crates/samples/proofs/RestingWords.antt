-- Receivers that rest: the words hold the receivers of their places and nothing else, and no place of a word stirs.
-- Assumes nothing.
use Prim.Native.Nat.{ℕ, zero, suc, ◌+◌, ◌-◌, ◌*◌, ◌/◌, ◌%◌, ◌^◌, ◌<◌}
use mathlib.Core.Path.{◌≡◌, sym, ap, subst, ◌∙◌}
use mathlib.Core.Bool.{Bool, false, not, ◌&&◌, ◌||◌}
use mathlib.Core.List.{List}
use native.Mathlib.Omega.{arith}
use lib.Bits.{bit_and, bit_or}
use lib.Dec.{ltb}
use lib.ListN.{length, get_or}
use Rattle.bits.specs.Bits.{bit, place, word_of}
use Rattle.bits.specs.Index.{place_in}
use Rattle.bits.proofs.BitLaws.{bit_and_law, bit_or_law, bit_none, not64, is_word64}
use Rattle.bits.proofs.IndexLaws.{is_each}
use Rattle.bits.proofs.WordLaws.{place_in_at}
use Rattle.link_rules.proofs.CodeLaws.{pausing_back, busy_back}
use Rattle.link_rules.specs.Codes.{pausing_bit, busy_bit}
use Rattle.rules.specs.State.{words, receiver_in, receivers_by}
use Rattle.rules.specs.declared.Receivers.{Receivers}
use Rattle.rules.specs.declared.Wires.{Wires}
use Rattle.samples.specs.Rest.{stirs}

-- ── the words of an array of four ──

pub record Four (ws : List ℕ) : Type 0 where
  pub long : length ws ≡ words
  pub small : (v : ℕ) → get_or ws v 0 < 2 ^ 64

-- they are the words of a rule that agrees with their places
by_places : (ws : List ℕ) (f : ℕ → ℕ → Bool) → Four ws → ((v b : ℕ) → b < 64 → place (get_or ws v 0) b ≡ f v b)
    → (v : ℕ) → get_or ws v 0 ≡ word_of 64 (f v)
by_places ws f h e v = is_word64 (get_or ws v 0) (f v) (h.small v) (e v)

pub whole : (r : Receivers) → Four r.pausing → Four r.busy → Four r.level → Four r.pending → receivers_by (receiver_in r) ≡ r
whole r hp hb hl ho = sym (λ t.
    record {
      pausing =
          is_each words r.pausing (λ v. word_of 64 (λ b. pausing_bit (receiver_in r (v * 64 + b)).stands)) 0 hp.long
          (λ v h. by_places r.pausing (λ v b. pausing_bit (receiver_in r (v * 64 + b)).stands) hp
          (λ v b l. sym (pausing_back (place_in r.pausing (v * 64 + b)) (place_in r.busy (v * 64 + b)) ∙ place_in_at r.pausing v b l)) v) t;
      busy =
          is_each words r.busy (λ v. word_of 64 (λ b. busy_bit (receiver_in r (v * 64 + b)).stands)) 0 hb.long
          (λ v h. by_places r.busy (λ v b. busy_bit (receiver_in r (v * 64 + b)).stands) hb
          (λ v b l. sym (busy_back (place_in r.pausing (v * 64 + b)) (place_in r.busy (v * 64 + b)) ∙ place_in_at r.busy v b l)) v) t;
      level =
          is_each words r.level (λ v. word_of 64 (λ b. place_in r.level (v * 64 + b))) 0 hl.long
          (λ v h. by_places r.level (λ v b. place_in r.level (v * 64 + b)) hl (λ v b l. sym (place_in_at r.level v b l)) v) t;
      pending =
          is_each words r.pending (λ v. word_of 64 (λ b. place_in r.pending (v * 64 + b))) 0 ho.long
          (λ v h. by_places r.pending (λ v b. place_in r.pending (v * 64 + b)) ho (λ v b l. sym (place_in_at r.pending v b l)) v) t;
    })

-- ── a word in which nothing stirs ──

module _ (n : ℕ) (r : Receivers) (w : Wires) (v live : ℕ) (counts : (b : ℕ) → b < 64 → place live b ≡ ltb (v * 64 + b) n) (small : get_or w.neg v 0 < 2 ^ 64)
    (e : bit_and (bit_or (bit_or (bit_or (get_or w.pos v 0) (18446744073709551615 - get_or w.neg v 0)) (get_or r.pausing v 0)) (get_or r.busy v 0)) live ≡ 0) where
  pub word_rests : (b : ℕ) → b < 64 → stirs n r w (v * 64 + b) ≡ false
  word_rests b h =
      let m : 63 - b < 64 = omega arith in
      let z : place (bit_and (bit_or (bit_or (bit_or (get_or w.pos v 0) (18446744073709551615 - get_or w.neg v 0)) (get_or r.pausing v 0)) (get_or r.busy v 0)) live) b ≡ false =
      ap (λ (x : ℕ). bit x (63 - b)) e ∙ bit_none (63 - b) in
      let y : ((((place (get_or w.pos v 0) b || not (place (get_or w.neg v 0) b)) || place (get_or r.pausing v 0) b) || place (get_or r.busy v 0) b) && place live b) ≡ false =
      sym (simp (bit_and_law, bit_or_law, not64)) ∙ z in
      rw (place_in_at w.pos v b h, place_in_at w.neg v b h, place_in_at r.pausing v b h, place_in_at r.busy v b h, ← counts b h) y

-- alert i stands at place i % 64 of word i / 64
pub by_word : (f : ℕ → Bool) → ((v : ℕ) → v < words → (b : ℕ) → b < 64 → f (v * 64 + b) ≡ false) → (i : ℕ) → i < words * 64 → f i ≡ false
by_word f e i l =
    let q : i / 64 * 64 + i % 64 ≡ i = omega arith in
    subst (λ (j : ℕ). f j ≡ false) q (e (i / 64) (omega arith) (i % 64) (omega arith))

-- each of the four words
pub of_four : (P : ℕ → Type 0) → P 0 → P 1 → P 2 → P 3 → (v : ℕ) → v < words → P v
of_four P a b c d zero l = a
of_four P a b c d (suc zero) l = b
of_four P a b c d (suc (suc zero)) l = c
of_four P a b c d (suc (suc (suc zero))) l = d
of_four P a b c d (suc (suc (suc (suc v)))) l = absurd (omega arith)
