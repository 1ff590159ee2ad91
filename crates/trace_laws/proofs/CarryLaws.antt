-- Request (iii): old register numbers carried over. A carried number decodes to the register that it named, and names nothing where it named nothing.
-- Request (ix): an older edition's number is carried to none of the ping timer's.
-- Assumes nothing.
use Prim.Native.Nat.{ℕ, ◌+◌, ◌-◌, ◌*◌, ◌/◌, ◌%◌, ◌≤◌, ◌<◌}
use mathlib.Core.Path.{◌≡◌, refl, ap, ◌∙◌}
use mathlib.Core.Bool.{Bool, true, false, true≢false, false≢true, cond}
use native.Mathlib.Omega.{arith}
use native.Mathlib.Decide.{dec_lt}
use borrow.Author.Tests.{ltb-true, lt-ltb, le-ltb, le-leb, lt-leb}
use lib.Dec.{ltb}
use Rattle.bits.proofs.IndexLaws.{and-true}
use Rattle.trace_rules.specs.Edition.{has_timer, without_timer, carried64, carried248, carry}
use Rattle.rules.specs.Map.{within, decode, number_of, is_register, single_number, offset, stride, class_base}
use Rattle.rules.specs.State.{local_count, class_count, field_index}
use Rattle.trace_rules.specs.declared.Edition.{Edition}
use Rattle.trace_rules.specs.declared.Edition.TheVariants.{Alerts64, Alerts248, Pings, Wires}
use Rattle.rules.specs.declared.Register.{Register}
use Rattle.rules.specs.declared.Register.TheVariants.{Only, Local, Alert, Block, Unassigned}
use Rattle.rules.specs.declared.Single.{Single}
use Rattle.trace_laws.specs.Carry.{single_number64, number64}
use Rattle.laws.specs.InMap.{in_map, setting_exists}
use Rattle.laws.proofs.Map.Cases.{by_single}
use Rattle.laws.proofs.Map.MapLaws.{field_lt, single_lt, single_number_law, offset_lt, decode_number, number_decode, decode_in_map}

-- ── a carried number, range by range ──

-- 4, 5 and 6 are the timer's, and no other number is
timers : (r : ℕ) → 4 ≤ r → r < 7 → without_timer r ≡ 3
unfolding number_of
timers r h l = rw (le-leb 4 r h, lt-ltb r 7 l)

others : (r : ℕ) → (4 ≤ r → r < 7 → ⊥) → without_timer r ≡ r
unfolding number_of
others r a = go (dec_lt r 4) (dec_lt r 7)
  where
    go : Dec (r < 4) → Dec (r < 7) → without_timer r ≡ r
    go (yes l) k = rw (lt-leb 4 r l)
    go (no l) (yes k) = absurd (a (omega arith) k)
    go (no l) (no k) = rw (le-leb 4 r (omega arith), le-ltb r 7 (omega arith))

low : (r : ℕ) → r < 64 → carried64 r ≡ without_timer r
unfolding carried64
low r h = rw (lt-ltb r 64 h)

alerts : (r : ℕ) → 64 ≤ r → r < 320 → carried64 r ≡ r / 64 * stride + r % 64
unfolding carried64
alerts r h l = rw (le-ltb r 64 h, lt-ltb r 320 l)

classes : (r : ℕ) → 320 ≤ r → r < 384 → carried64 r ≡ class_base + (r - 320)
unfolding carried64
classes r h l = rw (le-ltb r 64 (omega arith), le-ltb r 320 h, lt-ltb r 384 l)

rest : (r : ℕ) → 384 ≤ r → carried64 r ≡ 3
unfolding carried64 number_of
rest r h = rw (le-ltb r 64 (omega arith), le-ltb r 320 (omega arith), le-ltb r 384 h)

-- ── from a register to its old number, carried, and to the register ──

-- those that there is one of: document 01 has three, below 4
single_carried : (o : Single) → within 4 3 (single_number o) ≡ false → carried64 (single_number64 o) ≡ single_number o
unfolding carried64
single_carried =
    by_single (λ o. within 4 3 (single_number o) ≡ false → carried64 (single_number64 o) ≡ single_number o) (λ e. refl) (λ e. refl) (λ e. refl)
    (λ e. absurd (true≢false e)) (λ e. absurd (true≢false e)) (λ e. absurd (true≢false e))

-- an old number is carried to the register's number
carried_number : (n : ℕ) (q : Register) → n ≤ 64 → in_map n q ≡ true → within 4 3 (number_of q) ≡ false → carried64 (number64 q) ≡ number_of q
unfolding number_of
carried_number n (Only o) h e d = single_carried o d
carried_number n (Local f j) h e d =
    let l : j < local_count = ltb-true j local_count e in
    let m : field_index f < 4 = field_lt f in
    let r : ℕ = 16 + 8 * field_index f + j in
    low r (omega arith) ∙ others r (λ a b. omega arith)
carried_number n (Alert f i) h e d =
    let l : i < n = ltb-true i n e in
    let m : field_index f < 4 = field_lt f in
    let r : ℕ = 64 + 64 * field_index f + i in
    alerts r (omega arith) (omega arith) ∙ (let q : r / 64 ≡ 1 + field_index f = omega arith in let s : r % 64 ≡ i = omega arith in omega arith)
carried_number n (Block s k) h e d =
    let a = and-true (ltb k class_count) (setting_exists s) e in
    let l : k < class_count = ltb-true k class_count a.0 in
    let o : offset s < 13 = offset_lt s a.1 in
    classes (320 + 16 * k + offset s) (omega arith) (omega arith) ∙ omega arith
carried_number n Unassigned h e d = absurd (false≢true e)

-- so it decodes to the same register, of every register but the timer's
pub decode_carried : (n : ℕ) (q : Register) → n ≤ 64 → in_map n q ≡ true → within 4 3 (number_of q) ≡ false → decode n (carry Alerts64 (number64 q)) ≡ q
decode_carried n q h e d = ap (decode n) (carried_number n q h e d) ∙ decode_number n q (omega arith) e

-- ── from an old number to the register that it reaches, and to the number ──

-- a register of a handler of at most 64 alerts is reached by its own old number alone
module _ (n r : ℕ) (h : n ≤ 64) where
  own : (q : Register) → is_register q ≡ true → in_map n q ≡ true → number_of q ≡ carried64 r → number64 q ≡ r
  unfolding number_of
  own q i e m = by (dec_lt r 64) (dec_lt r 320) (dec_lt r 384) q i e m
    where
      single_register : (o : Single) → (4 ≤ r → r < 7 → ⊥) → single_number o ≡ r → single_number64 o ≡ r
      single_register =
          by_single (λ o. (4 ≤ r → r < 7 → ⊥) → single_number o ≡ r → single_number64 o ≡ r) (λ a m. m) (λ a m. m) (λ a m. m)
          (λ a m. absurd (a (omega arith) (omega arith))) (λ a m. absurd (a (omega arith) (omega arith))) (λ a m. absurd (a (omega arith) (omega arith)))

      low_register : (q : Register) → r < 64 → (4 ≤ r → r < 7 → ⊥) → is_register q ≡ true → in_map n q ≡ true → number_of q ≡ r → number64 q ≡ r
      low_register (Only o) l a i e m = single_register o a m
      low_register (Local f j) l a i e m = m
      low_register (Alert f k) l a i e m = absurd (omega arith)
      low_register (Block s k) l a i e m = absurd (omega arith)
      low_register Unassigned l a i e m = absurd (false≢true i)

      alert_register : (q : Register) → 64 ≤ r → r < 320 → is_register q ≡ true → in_map n q ≡ true → number_of q ≡ r / 64 * stride + r % 64 → number64 q ≡ r
      alert_register (Only o) a b i e m = absurd (omega (arith, single_lt o))
      alert_register (Local f j) a b i e m =
          let l : j < local_count = ltb-true j local_count e in
          let s : field_index f < 4 = field_lt f in absurd (omega arith)
      alert_register (Alert f k) a b i e m =
          let l : k < n = ltb-true k n e in
          let s : field_index f < 4 = field_lt f in omega arith
      alert_register (Block s k) a b i e m = absurd (omega arith)
      alert_register Unassigned a b i e m = absurd (false≢true i)

      class_register : (q : Register) → 320 ≤ r → r < 384 → is_register q ≡ true → in_map n q ≡ true → number_of q ≡ class_base + (r - 320) → number64 q ≡ r
      class_register (Only o) a b i e m = absurd (omega (arith, single_lt o))
      class_register (Local f j) a b i e m =
          let l : j < local_count = ltb-true j local_count e in
          let s : field_index f < 4 = field_lt f in absurd (omega arith)
      class_register (Alert f k) a b i e m =
          let l : k < n = ltb-true k n e in
          let s : field_index f < 4 = field_lt f in absurd (omega arith)
      class_register (Block s k) a b i e m = omega arith
      class_register Unassigned a b i e m = absurd (false≢true i)

      no_register : (q : Register) → is_register q ≡ true → number_of q ≡ 3 → ⊥
      no_register (Only o) i m = single_number_law o m
      no_register (Local f j) i m = omega arith
      no_register (Alert f k) i m = omega arith
      no_register (Block s k) i m = omega arith
      no_register Unassigned i m = false≢true i

      by : Dec (r < 64) → Dec (r < 320) → Dec (r < 384) → (q : Register) → is_register q ≡ true → in_map n q ≡ true → number_of q ≡ carried64 r → number64 q ≡ r
      by (yes a) b c q i e m = go (dec_lt r 4) (dec_lt r 7)
        where
          kept : (4 ≤ r → r < 7 → ⊥) → number64 q ≡ r
          kept f = low_register q a f i e (m ∙ low r a ∙ others r f)

          go : Dec (r < 4) → Dec (r < 7) → number64 q ≡ r
          go (yes l) k = kept (λ x y. omega arith)
          go (no l) (yes k) = absurd (no_register q i (m ∙ low r a ∙ timers r (omega arith) k))
          go (no l) (no k) = kept (λ x y. omega arith)
      by (no a) (yes b) c q i e m = alert_register q (omega arith) b i e (m ∙ alerts r (omega arith) b)
      by (no a) (no b) (yes c) q i e m = class_register q (omega arith) c i e (m ∙ classes r (omega arith) c)
      by (no a) (no b) (no c) q i e m = absurd (no_register q i (m ∙ rest r (omega arith)))

  -- an old number that reaches a register is that register's old number: so the map is one to one, and what was unassigned stays so
  pub number_carried : is_register (decode n (carry Alerts64 r)) ≡ true → number64 (decode n (carry Alerts64 r)) ≡ r
  number_carried i =
      let c : ℕ = carry Alerts64 r in
      own (decode n c) i (decode_in_map n c i) (number_decode n c i)

-- ── request (ix): no older edition reaches the ping timer ──

-- a number that is carried over is none of the timer's
module _ (r : ℕ) where
  without : within 4 3 (without_timer r) ≡ false
  unfolding number_of
  without = go (within 4 3 r) refl
    where
      go : (b : Bool) → within 4 3 r ≡ b → within 4 3 (cond b 3 r) ≡ false
      go true e = refl
      go false e = e

  beyond : (c : ℕ) → 7 ≤ c → within 4 3 c ≡ false
  beyond c l = rw (le-leb 4 c (omega arith), le-ltb c 7 l)

  apart64 : within 4 3 (carried64 r) ≡ false
  unfolding number_of
  apart64 = by (dec_lt r 64) (dec_lt r 320) (dec_lt r 384)
    where
      at : (c : ℕ) → carried64 r ≡ c → within 4 3 c ≡ false → within 4 3 (carried64 r) ≡ false
      at c e a = ap (within 4 3) e ∙ a

      by : Dec (r < 64) → Dec (r < 320) → Dec (r < 384) → within 4 3 (carried64 r) ≡ false
      by (yes a) b c = at _ (low r a) without
      by (no a) (yes b) c = at _ (alerts r (omega arith) b) (beyond (r / 64 * stride + r % 64) (omega arith))
      by (no a) (no b) (yes c) = at _ (classes r (omega arith) c) (beyond (class_base + (r - 320)) (omega arith))
      by (no a) (no b) (no c) = at 3 (rest r (omega arith)) refl

  pub older_apart : (e : Edition) → has_timer e ≡ false → within 4 3 (carry e r) ≡ false
  unfolding carried248
  older_apart Alerts64 o = apart64
  older_apart Alerts248 o = without
  older_apart Pings o = absurd (true≢false o)
  older_apart Wires o = absurd (true≢false o)
