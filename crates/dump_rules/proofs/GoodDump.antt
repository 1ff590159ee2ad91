-- The contents of the format are exactly the well-shown ones.
-- Assumes nothing.
use Prim.Native.Nat.{ℕ, zero, suc, ◌-◌, ◌^◌, ◌≤◌, ◌<◌}
use mathlib.Core.Path.{◌≡◌, refl, ap}
use mathlib.Core.Bool.{true, not, ◌&&◌}
use mathlib.Core.List.{List, [], ◌∷◌}
use native.Mathlib.Omega.{arith}
use borrow.Author.Tests.{leb-true, le-leb, ltb-true, lt-ltb}
use lib.Dec.{eqb}
use lib.ListN.{get_or, length}
use lib.Pow.{pow_pos, pow_mono}
use Rattle.bits.specs.Bits.{fits}
use Rattle.bits.proofs.IndexLaws.{and-true, true_and}
use Rattle.class_rules.specs.Class.{state_of, state_fits, count_fits}
use Rattle.formats.specs.Format.{field, chain, repeated, All}
use Rattle.formats.proofs.FormatLaws.{chain_length, repeated_all, all_repeated, all_map, all_at}
use Rattle.laws.proofs.Map.RowLaws.{most_bits}
use Rattle.rules.specs.Map.{decode, bits, is_shadowed}
use Rattle.rules.specs.State.{most, class_count}
use Rattle.rules.specs.declared.Register.{Register}
use Rattle.dump_rules.specs.Shown.{ShownClass, ShownStage, Shown, WellShown, RiseFrom, class_shows, limit}
use Rattle.dump_rules.specs.Dump.{to_full, head_bits}
use Rattle.dump_rules.specs.Reader.{any_number, no_class, bit_format, class_format, shadowed_from, stage_chain, cause_count, lock_count, dump_format}
use Rattle.dump_rules.proofs.PickLaws.{many_le}
use Rattle.dump_rules.proofs.LawfulDump.{the_mark, shadow_lt, fewer_above, stage_facts}

-- ── a class ──

pub class_good : (c : ShownClass) → class_shows c ≡ true → class_format.good c
class_good c e =
    let a = and-true (state_fits c.state) (count_fits (state_of c.state) c.count && (fits 32 c.count && fits 16 c.accum)) e in
    let b = and-true (count_fits (state_of c.state) c.count) (fits 32 c.count && fits 16 c.accum) a.1 in
    let d = and-true (fits 32 c.count) (fits 16 c.accum) b.1 in
    let f = and-true (fits 3 c.state) (not (eqb c.state 2)) a.0 in
    (((ltb-true c.state (2 ^ 3) f.0, a.0), ((ltb-true c.count (2 ^ 32) d.0, b.0), (ltb-true c.accum (2 ^ 16) d.1, refl))), refl)

good_class : (c : ShownClass) → class_format.good c → class_shows c ≡ true
good_class c g =
    true_and g.0.0.1 (true_and g.0.1.0.1 (true_and (lt-ltb c.count (2 ^ 32) g.0.1.0.0) (lt-ltb c.accum (2 ^ 16) g.0.1.1.0)))

-- of class k, or past the four
pub shows_at : (s : Shown) → WellShown s → (k : ℕ) → class_shows (get_or s.classes k no_class) ≡ true
unfolding state_of
shows_at s w = all_at (λ c. class_shows c ≡ true) no_class refl s.classes w.each_class

-- ── the stages ──

most_wide : (q : Register) → bits q ≤ 32
unfolding bits
most_wide q = most_bits q

module _ (n : ℕ) where
  -- no more stages than shadowed registers
  pub rise_many : (from : ℕ) (ss : List ShownStage) → RiseFrom n from ss → length ss ≤ shadowed_from n from
  rise_many from [] h = omega arith
  rise_many from (s ∷ ss) h =
      let a : length ss ≤ shadowed_from n (suc s.register) = rise_many (suc s.register) ss h.3 in
      let b : suc (shadowed_from n (suc s.register)) ≤ shadowed_from n from = fewer_above n from s.register h.0 h.1 in
      omega arith

  rise_good : (from : ℕ) (ss : List ShownStage) → RiseFrom n from ss → (chain (stage_chain n) (length ss) from).good ss
  rise_good from [] h = refl
  rise_good from (s ∷ ss) h =
      let r : ℕ = s.register in
      let l : r < limit = shadow_lt n r h.1 in
      let w : r < 2 ^ 16 = omega arith in
      let m : length ss ≤ shadowed_from n (suc r) = rise_many (suc r) ss h.3 in
      let b : 2 ^ bits (decode n r) ≤ 2 ^ 32 = pow_mono (most_wide (decode n r)) in
      let v : s.value < 2 ^ 32 = omega (arith, h.2) in
      (((((w, true_and (le-leb from r h.0) (true_and h.1 (le-leb (length ss) (shadowed_from n (suc r)) m))), (v, lt-ltb s.value (2 ^ bits (decode n r)) h.2)), refl), rise_good (suc r) ss h.3), refl)

  good_rise : (k from : ℕ) (ss : List ShownStage) → (chain (stage_chain n) k from).good ss → RiseFrom n from ss
  good_rise zero from [] h = tt
  good_rise zero from (s ∷ ss) h = absurd (let q : suc (length ss) ≡ 0 = ap length h in omega arith)
  good_rise (suc k) from [] h = absurd (let q : 1 ≡ 0 = ap length h.1 in omega arith)
  good_rise (suc k) from (s ∷ ss) h =
      let f = stage_facts n from k s.register h.0.0.0.0.1 in
      (f.0, f.1, ltb-true s.value (2 ^ bits (decode n s.register)) h.0.0.0.1.1, good_rise k (suc s.register) ss h.0.1)

-- their numbers and values have room in 16 and 32 bits
pub rise_small : (n from : ℕ) (ss : List ShownStage) → RiseFrom n from ss → All (λ s. (s.register < 2 ^ 16) × (s.value < 2 ^ 32)) ss
rise_small n from [] h = tt
rise_small n from (s ∷ ss) h =
    let l : s.register < limit = shadow_lt n s.register h.1 in
    let w : s.register < 2 ^ 16 = omega arith in
    let b : 2 ^ bits (decode n s.register) ≤ 2 ^ 32 = pow_mono (most_wide (decode n s.register)) in
    let v : s.value < 2 ^ 32 = omega (arith, h.2) in
    ((w, v), rise_small n (suc s.register) ss h.3)

-- ── the whole ──

bit_good : (b : ℕ) → b < 2 → (field 1 any_number).good b
bit_good b h = (h, refl)

pub well_good : (s : Shown) → WellShown s → dump_format.good s
well_good s w =
    let a : s.n ≤ most = w.alerts in
    let n : s.n < 2 ^ 8 = omega arith in
    let m : length s.stages ≤ shadowed_from s.n 0 = rise_many s.n 0 s.stages w.rising in
    let l : shadowed_from s.n 0 ≤ limit - 0 = many_le (λ r. is_shadowed (decode s.n r)) 0 (limit - 0) in
    let k : length s.stages < 2 ^ 16 = omega arith in (
      (
        the_mark,
        (
          (n, le-leb s.n most a),
          (
            all_repeated class_format no_class class_count tt s.classes w.four (all_map class_good s.classes w.each_class),
            (
              all_repeated bit_format 0 (cause_count s.n) tt s.causes w.all_causes (all_map bit_good s.causes w.cause_bits),
              (
                all_repeated bit_format 0 (lock_count s.n) tt s.locks w.all_locks (all_map bit_good s.locks w.lock_bits),
                (
                  (pow_pos (to_full (head_bits (cause_count s.n) (lock_count s.n))), refl),
                  (
                    (k, le-leb (length s.stages) (shadowed_from s.n 0) m),
                    rise_good s.n 0 s.stages w.rising,
                  ),
                ),
              ),
            ),
          ),
        ),
      ),
      refl,
    )

pub good_well : (s : Shown) → dump_format.good s → WellShown s
good_well s g =
    let a = g.0.1 in
    let b = a.1.1 in
    record {
      alerts = leb-true s.n most a.0.1;
      four = chain_length (repeated class_format no_class) class_count tt s.classes a.1.0;
      each_class = all_map good_class s.classes (repeated_all class_format no_class class_count tt s.classes a.1.0);
      all_causes = chain_length (repeated bit_format 0) (cause_count s.n) tt s.causes b.0;
      cause_bits = all_map (λ x h. h.0) s.causes (repeated_all bit_format 0 (cause_count s.n) tt s.causes b.0);
      all_locks = chain_length (repeated bit_format 0) (lock_count s.n) tt s.locks b.1.0;
      lock_bits = all_map (λ x h. h.0) s.locks (repeated_all bit_format 0 (lock_count s.n) tt s.locks b.1.0);
      rising = good_rise s.n (length s.stages) 0 s.stages b.1.1.1.1;
    }
