-- The wires of a record as words of 64, and back.
-- Assumes nothing.
use Prim.Native.Nat.{ℕ, zero, suc, ◌+◌, ◌-◌, ◌*◌, ◌/◌, ◌%◌, ◌^◌, ◌≤◌, ◌<◌}
use mathlib.Core.Path.{◌≡◌, refl, sym, ap, ◌∙◌, subst}
use mathlib.Core.Bool.{false}
use mathlib.Core.List.{List}
use native.Mathlib.Omega.{arith}
use lib.ListN.{get_or, replicate}
use lib.Pow.{pow_pos, shl_lt, shr_lt, shl-shr, low}
use Rattle.bits.specs.Bits.{bit}
use Rattle.bits.specs.Fields.{total, pack, unpack, Fit}
use Rattle.bits.specs.Index.{place_in}
use Rattle.bits.proofs.BitLaws.{bit_mod, bit_shr, bit_none}
use Rattle.bits.proofs.FieldLaws.{pack_lt, unpack_pack, pack_unpack}
use Rattle.trace_rules.specs.Edition.{alerts}
use Rattle.trace_rules.specs.Record.{wire_words, wires_of}
use Rattle.rules.specs.State.{words}
use Rattle.trace_rules.specs.Writer.{Wired, SameRead}
use Rattle.trace_rules.specs.declared.Edition.{Edition}
use Rattle.rules.specs.declared.Input.{Input}
use Rattle.trace_rules.specs.declared.Edition.TheVariants.{Alerts64, Alerts248, Pings, Wires}
use Rattle.trace_laws.specs.Wires.{shown}

-- the words have room for an edition's wires
room : (e : Edition) → alerts e ≤ 64 * words
room Alerts64 = omega arith
room Alerts248 = omega arith
room Pings = omega arith
room Wires = omega arith

total_words : (n : ℕ) → total (replicate n 64) ≡ 64 * n
total_words zero = refl
total_words (suc n) = omega (arith, total_words n)

-- the bits of the words: the wires, and the places behind them
module _ (e : Edition) where
  abbrev behind : ℕ
  behind = 64 * words - alerts e

  all_bits : total (replicate words 64) ≡ alerts e + behind
  all_bits = total_words words ∙ (let l : alerts e ≤ 64 * words = room e in omega arith)

  pub wires_lt : (ws : List ℕ) → Fit (replicate words 64) ws → wires_of (alerts e) ws < 2 ^ alerts e
  wires_lt ws f = shr_lt (alerts e) behind (subst (λ (k : ℕ). pack (replicate words 64) ws < 2 ^ k) all_bits (pack_lt f))

  -- the wires at the top of the words
  at_top : (wires : ℕ) → wires < 2 ^ alerts e → pack (replicate words 64) (wire_words (alerts e) wires) ≡ wires * 2 ^ behind
  at_top wires h =
      pack_unpack (replicate words 64) (wires * 2 ^ behind)
      (subst (λ (k : ℕ). wires * 2 ^ behind < 2 ^ k) (sym all_bits) (shl_lt (alerts e) behind h))

  pub wires_back : (wires : ℕ) → wires < 2 ^ alerts e → wires_of (alerts e) (wire_words (alerts e) wires) ≡ wires
  wires_back wires h = ap (λ (n : ℕ). n / 2 ^ behind) (at_top wires h) ∙ shl-shr wires behind

-- ── the places of equal parts: words of 64, bytes ──

-- of w parts of c bits, place r of part q from the top is a bit of the number that they make
pub place_part : (c w n q r : ℕ) → q < w → r < c → bit (get_or (unpack (replicate w c) n) q 0) (c - 1 - r) ≡ bit n (total (replicate (w - suc q) c) + (c - 1 - r))
unfolding unpack
place_part c zero n q r h l = absurd (omega arith)
place_part c (suc w) n zero r h l =
    let e : w ≡ suc w - 1 = omega arith in
    bit_mod c (n / 2 ^ total (replicate w c)) (c - 1 - r) (omega arith) ∙ bit_shr n (total (replicate w c)) (c - 1 - r)
    ∙ ap (λ (m : ℕ). bit n (total (replicate m c) + (c - 1 - r))) e
place_part c (suc w) n (suc q) r h l =
    let e : w - suc q ≡ suc w - suc (suc q) = omega arith in
    place_part c w n q r (omega arith) l ∙ ap (λ (m : ℕ). bit n (total (replicate m c) + (c - 1 - r))) e

pub place_unpack : (w n i : ℕ) → i < 64 * w → place_in (unpack (replicate w 64) n) i ≡ bit n (64 * w - suc i)
place_unpack w n i h =
    let k : total (replicate (w - suc (i / 64)) 64) + (63 - i % 64) ≡ 64 * w - suc i = omega (arith, total_words (w - suc (i / 64))) in
    place_part 64 w n (i / 64) (i % 64) (omega arith) (omega arith) ∙ ap (bit n) k

-- a number shifted up, bit by bit
pub bit_up : (a j k : ℕ) → j ≤ k → bit (a * 2 ^ j) k ≡ bit a (k - j)
bit_up a j k h =
    let e : j + (k - j) ≡ k = omega arith in
    ap (bit (a * 2 ^ j)) (sym e) ∙ sym (bit_shr (a * 2 ^ j) j (k - j)) ∙ ap (λ (n : ℕ). bit n (k - j)) (shl-shr a j)

-- and below it there is nothing
pub bit_below : (a j k : ℕ) → k < j → bit (a * 2 ^ j) k ≡ false
bit_below a j k h =
    let e : a * 2 ^ j + 0 ≡ a * 2 ^ j = omega arith in
    sym (bit_mod j (a * 2 ^ j) k h) ∙ ap (λ (n : ℕ). bit (n % 2 ^ j) k) (sym e) ∙ ap (λ (n : ℕ). bit n k) (low a j (pow_pos j)) ∙ bit_none k

-- the wires of an edition stay where they are
pub place_kept : (e : Edition) (ws : List ℕ) (i : ℕ) → Fit (replicate words 64) ws → i < alerts e
    → place_in (wire_words (alerts e) (wires_of (alerts e) ws)) i ≡ place_in ws i
place_kept e ws i f h =
    let n : ℕ = pack (replicate words 64) ws in
    let b : ℕ = behind e in
    let k : ℕ = 64 * words - suc i in
    let r : alerts e ≤ 64 * words = room e in
    let s : b + (k - b) ≡ k = omega arith in
    place_unpack words (n / 2 ^ b * 2 ^ b) i (omega arith) ∙ bit_up (n / 2 ^ b) b k (omega arith) ∙ bit_shr n b (k - b) ∙ ap (bit n) s
    ∙ sym (place_unpack words n i (omega arith)) ∙ ap (λ (vs : List ℕ). place_in vs i) (unpack_pack f)

-- reading what was written gives the same access, the same pair of each alert, with the timer the same word, and what is kept of the lines
pub same_shown : (e : Edition) (x : Input) → Wired x → SameRead e x (shown e x)
same_shown e x w =
    record {
      access = refl;
      positive = λ i l. place_kept e x.sample.alerts.pos i w.positive l;
      negative = λ i l. place_kept e x.sample.alerts.neg i w.negative l;
      word = refl;
      receive = refl;
    }
