-- What stands in a dump is its content.
-- Assumes nothing.
use Prim.Native.Nat.{ℕ, suc, ◌+◌, ◌-◌, ◌*◌, ◌^◌, ◌≤◌, ◌<◌}
use mathlib.Core.Path.{◌≡◌, refl, sym, ap, ap₂, ◌∙◌, subst}
use mathlib.Core.Bool.{Bool, true, false, cond}
use mathlib.Core.List.{List, [], ◌++◌, append_assoc, append-nil}
use native.Mathlib.Omega.{arith}
use lib.IntN.{pos}
use lib.ListN.{length, get_or, drop}
use Rattle.bits.specs.Bits.{num, word_of}
use Rattle.bits.specs.Index.{each}
use Rattle.bits.proofs.IndexLaws.{each_ext, is_each}
use Rattle.formats.specs.BitList.{AreBytes, bit_list, bits_of_bytes, filled}
use Rattle.formats.specs.Format.{flat, All}
use Rattle.formats.proofs.BitListLaws.{length_bits}
use Rattle.formats.proofs.FormatLaws.{all_at}
use Rattle.dump_map.specs.Kinds.{has_kind}
use Rattle.dump_map.specs.declared.Kind.{Kind}
use Rattle.dump_rules.specs.Content.{flag_at, flags_by, codes_by, class_of, given, content_by}
use Rattle.dump_rules.specs.Dump.{class_bits, stage_bits, to_full, head_bits}
use Rattle.dump_rules.specs.Reader.{no_class, shows, read_dump}
use Rattle.dump_rules.specs.Shown.{ShownClass, ShownStage, Shown, WellShown, class_shows, picks, limit, is_cause, numbers_with}
use Rattle.dump_rules.proofs.DumpBits.{class_length, stage_length}
use Rattle.dump_rules.proofs.GoodDump.{class_good, shows_at, rise_small, rise_many}
use Rattle.dump_rules.proofs.PickLaws.{many, many_le, many_up, many_grow}
use Rattle.rules.specs.Map.{decode, is_lock, is_shadowed}
use Rattle.dump_content.specs.Places.{number_at, class_at_bit, flag_at_bit, stage_at_bit, stages_at_bit}
use Rattle.dump_content.proofs.Places.{next, number, entry, well, at_alerts, at_classes, at_causes, at_locks, at_number, at_stages}

-- fewer are picked below one that is picked
fewer : (p : ℕ → Bool) (r m : ℕ) → r < m → p r ≡ true → many p 0 r < many p 0 m
fewer p r m l e =
    let a : many p 0 (suc r) ≡ many p 0 r + 1 = many_up p r ∙ ap (λ (t : Bool). many p 0 r + num t) e in
    let b : many p 0 (suc r) ≤ many p 0 m = many_grow p 0 (suc r) m l in
    omega arith

-- ── a class, a bit, a stage ──

module _ (bytes : List ℕ) where
  abbrev all : List Bool
  all = bits_of_bytes bytes

  class_here : (at : ℕ) (c : ShownClass) (rest : List Bool) → drop at all ≡ class_bits c ++ rest → class_shows c ≡ true → class_at_bit bytes at ≡ class_of c
  class_here at c rest e w =
      let g = class_good c w in
      let s : List Bool = bit_list 3 c.state in
      let n : List Bool = bit_list 32 c.count in
      let a : List Bool = bit_list 16 c.accum in
      let d0 : drop at all ≡ s ++ (n ++ (a ++ rest)) = e ∙ append_assoc s (n ++ a) rest ∙ ap (λ (x : List Bool). s ++ x) (append_assoc n a rest) in
      let d1 : drop (at + 3) all ≡ n ++ (a ++ rest) = next all at 3 s (n ++ (a ++ rest)) d0 (length_bits 3 c.state) in
      let z : at + 3 + 32 ≡ at + 35 = omega arith in
      let d2 : drop (at + 35) all ≡ a ++ rest = ap (λ (x : ℕ). drop x all) (sym z) ∙ next all (at + 3) 32 n (a ++ rest) d1 (length_bits 32 c.count) in
      let x = number all at 3 c.state (n ++ (a ++ rest)) d0 g.0.0.0 in
      let y = number all (at + 3) 32 c.count (a ++ rest) d1 g.0.1.0.0 in
      let v = number all (at + 35) 16 c.accum rest d2 g.0.1.1.0 in
      λ i. record { state = x i; count = y i; accum = v i }

  stage_here : (at : ℕ) (t : ShownStage) (rest : List Bool) → drop at all ≡ stage_bits t ++ rest → (t.register < 2 ^ 16) × (t.value < 2 ^ 32) → stage_at_bit bytes at ≡ t
  stage_here at t rest e w =
      let r : List Bool = bit_list 16 t.register in
      let v : List Bool = bit_list 32 t.value in
      let d0 : drop at all ≡ r ++ (v ++ rest) = e ∙ append_assoc r v rest in
      let d1 : drop (at + 16) all ≡ v ++ rest = next all at 16 r (v ++ rest) d0 (length_bits 16 t.register) in
      let x = number all at 16 t.register (v ++ rest) d0 w.0 in
      let y = number all (at + 16) 32 t.value rest d1 w.1 in
      λ i. record { register = x i; value = y i }

  -- a bit for each register that p picks
  flags_here : (p : ℕ → Bool) (at : ℕ) (bits : List ℕ) (rest : List Bool) → drop at all ≡ flat (bit_list 1) bits ++ rest → All (λ b. b < 2) bits → length bits ≡ many p 0 limit
      → (r : ℕ) → r < limit → number_at bytes (at + many p 0 r) (num (p r)) ≡ flag_at p bits r
  unfolding word_of
  flags_here p at bits rest e w n r l = go (p r) refl
    where
      go : (t : Bool) → p r ≡ t → filled (num t) (drop (at + many p 0 r) all) ≡ cond t (get_or bits (many p 0 r) 0) 0
      go true f =
          let b : many p 0 r < length bits = subst (λ (x : ℕ). many p 0 r < x) (sym n) (fewer p r limit l f) in
          let one : 1 * many p 0 r ≡ many p 0 r = omega arith in
          number all (at + many p 0 r) 1 (get_or bits (many p 0 r) 0) _
          (ap (λ (i : ℕ). drop (at + i) all) (sym one) ∙ entry (bit_list 1) 1 (length_bits 1) all at bits rest (many p 0 r) 0 e b)
          (all_at (λ b. b < 2) 0 (omega arith) bits w (many p 0 r))
      go false f = refl

-- ── the content ──

module _ (bytes : List ℕ) (s : Shown) (b : AreBytes bytes) (e : read_dump bytes ≡ shows s) where
  abbrev w : WellShown s
  w = well bytes s b e

  pub alerts_is : number_at bytes 32 8 ≡ s.n
  alerts_is = number (bits_of_bytes bytes) 32 8 s.n _ (at_alerts bytes s b e) (omega (arith, w.alerts))

  -- so many stages as there are
  pub few_stages : length s.stages ≤ limit
  few_stages =
      let a : length s.stages ≤ length (picks (λ r. is_shadowed (decode s.n r)) 0 (limit - 0)) = rise_many s.n 0 s.stages w.rising in
      let c : length (picks (λ r. is_shadowed (decode s.n r)) 0 (limit - 0)) ≤ limit - 0 = many_le (λ r. is_shadowed (decode s.n r)) 0 (limit - 0) in
      omega arith

  classes_are : each 4 (λ k. class_at_bit bytes (40 + 51 * k)) ≡ (given s).classes
  classes_are =
      each_ext 4 (λ k. class_at_bit bytes (40 + 51 * k)) (λ k. class_of (get_or s.classes k no_class)) (class_of no_class)
      (λ k l. class_here bytes (40 + 51 * k) (get_or s.classes k no_class) _
      (entry class_bits 51 class_length (bits_of_bytes bytes) 40 s.classes _ k no_class (at_classes bytes s b e) (subst (λ (x : ℕ). k < x) (sym w.four) l))
      (shows_at s w k))

  causes_are : each limit (flag_at_bit Kind.Cause bytes s.n 244) ≡ (given s).causes
  unfolding flags_by
  causes_are =
      each_ext limit (flag_at_bit Kind.Cause bytes s.n 244) (flag_at (λ r. is_cause (decode s.n r)) s.causes) 0
      (flags_here bytes (λ r. is_cause (decode s.n r)) 244 s.causes _ (at_causes bytes s b e) w.cause_bits w.all_causes)

  locks_are : each limit (flag_at_bit Kind.Lock bytes s.n (244 + length s.causes)) ≡ (given s).locked
  unfolding flags_by
  locks_are =
      each_ext limit (flag_at_bit Kind.Lock bytes s.n (244 + length s.causes)) (flag_at (λ r. is_lock (decode s.n r)) s.locks) 0
      (flags_here bytes (λ r. is_lock (decode s.n r)) (244 + length s.causes) s.locks _ (at_locks bytes s b e) w.lock_bits w.all_locks)

  abbrev place : ℕ
  place = 244 + length s.causes + length s.locks + to_full (head_bits (length s.causes) (length s.locks))

  pub number_is : number_at bytes place 16 ≡ length s.stages
  number_is = number (bits_of_bytes bytes) place 16 (length s.stages) _ (at_number bytes s b e) (omega (arith, few_stages))

  abbrev no_stage : ShownStage
  no_stage = record { register = 0; value = 0 }

  stages_are : stages_at_bit bytes (place + 16) (length s.stages) ≡ s.stages
  stages_are =
      sym (is_each (length s.stages) s.stages (λ i. stage_at_bit bytes (place + 16 + 48 * i)) no_stage refl
      (λ i l. sym (stage_here bytes (place + 16 + 48 * i) (get_or s.stages i no_stage) _
      (entry stage_bits 48 stage_length (bits_of_bytes bytes) (place + 16) s.stages [] i no_stage (at_stages bytes s b e ∙ sym (append-nil (flat stage_bits s.stages))) l)
      (all_at (λ t. (t.register < 2 ^ 16) × (t.value < 2 ^ 32)) no_stage small_none s.stages (rise_small s.n 0 s.stages w.rising) i))))
    where
      small_none : (0 < 2 ^ 16) × (0 < 2 ^ 32)
      small_none = (omega arith, omega arith)

  -- the content as code puts it together
  pub content_is : (n c l z k : ℕ) → n ≡ number_at bytes 32 8 → c ≡ length (picks (λ r. has_kind Kind.Cause (decode n r)) 0 limit) → l ≡ length (picks (λ r. has_kind Kind.Lock (decode n r)) 0 limit)
      → z ≡ to_full (head_bits c l) → k ≡ number_at bytes (244 + c + l + z) 16 → (k ≤ limit)
      × (record {
        answer = pos 0;
        n = n;
        classes = each 4 (λ k. class_at_bit bytes (40 + 51 * k));
        stages = codes_by (stages_at_bit bytes (244 + c + l + z + 16) k);
        causes = each limit (flag_at_bit Kind.Cause bytes n 244);
        locked = each limit (flag_at_bit Kind.Lock bytes n (244 + c));
      } ≡ content_by (read_dump bytes))
  unfolding content_by
  content_is n c l z k en ec el ez ek =
      let n0 : n ≡ s.n = en ∙ alerts_is in
      let c0 : c ≡ length s.causes = ec ∙ ap (λ (m : ℕ). length (numbers_with is_cause m)) n0 ∙ sym w.all_causes in
      let l0 : l ≡ length s.locks = el ∙ ap (λ (m : ℕ). length (numbers_with is_lock m)) n0 ∙ sym w.all_locks in
      let z0 : z ≡ to_full (head_bits (length s.causes) (length s.locks)) = ez ∙ ap₂ (λ (x y : ℕ). to_full (head_bits x y)) c0 l0 in
      let p0 : 244 + c + l + z ≡ place = ap₂ (λ (x y : ℕ). 244 + x + y + z) c0 l0 ∙ ap (λ (x : ℕ). 244 + length s.causes + length s.locks + x) z0 in
      let k0 : k ≡ length s.stages = ek ∙ ap (λ (x : ℕ). number_at bytes x 16) p0 ∙ number_is in
      let t0 : codes_by (stages_at_bit bytes (244 + c + l + z + 16) k) ≡ (given s).stages = ap codes_by (ap₂ (λ (x y : ℕ). stages_at_bit bytes (x + 16) y) p0 k0 ∙ stages_are) in
      let f0 : each limit (flag_at_bit Kind.Cause bytes n 244) ≡ (given s).causes = ap (λ (m : ℕ). each limit (flag_at_bit Kind.Cause bytes m 244)) n0 ∙ causes_are in
      let g0 : each limit (flag_at_bit Kind.Lock bytes n (244 + c)) ≡ (given s).locked = ap₂ (λ (m x : ℕ). each limit (flag_at_bit Kind.Lock bytes m (244 + x))) n0 c0 ∙ locks_are in
      let q0 = classes_are in (
        subst (λ (x : ℕ). x ≤ limit) (sym k0) few_stages,
        (λ i. record { answer = pos 0; n = n0 i; classes = q0 i; stages = t0 i; causes = f0 i; locked = g0 i }) ∙ ap content_by (sym e),
      )
