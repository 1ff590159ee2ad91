-- The format's bits are the dump's, and they are whole bytes.
-- Assumes nothing.
use Prim.Native.Nat.{ℕ, ◌+◌, ◌*◌, ◌/◌}
use mathlib.Core.Path.{◌≡◌, refl, sym, ap₂}
use mathlib.Core.Bool.{Bool}
use mathlib.Core.List.{List, ◌++◌}
use native.Mathlib.Omega.{arith}
use lib.ListN.{length, length-append}
use Rattle.formats.specs.BitList.{bit_list, bits_of_bytes}
use Rattle.formats.specs.Format.{chain, repeated, flat}
use Rattle.formats.proofs.BitListLaws.{length_bits, length_bits_of_bytes}
use Rattle.formats.proofs.FormatLaws.{chain_flat, flat_length}
use Rattle.rules.specs.State.{class_count}
use Rattle.dump_rules.specs.Shown.{ShownClass, ShownStage, Shown, WellShown}
use Rattle.dump_rules.specs.Dump.{mark, class_bits, stage_bits, to_full, head_bits, dump_bits}
use Rattle.dump_rules.specs.Reader.{no_class, bit_format, mark_chain, class_format, stage_chain, cause_count, lock_count, dump_format}

mark_bits : (chain mark_chain 4 mark).bits mark ≡ bits_of_bytes mark
unfolding bits_of_bytes bit_list
mark_bits = refl

pub format_bits : (s : Shown) → WellShown s → dump_format.bits s ≡ dump_bits s
unfolding dump_bits
format_bits s w =
    let cs = chain_flat (repeated class_format no_class) class_bits (λ u k x. refl) class_count tt s.classes w.four in
    let fs = chain_flat (repeated bit_format 0) (bit_list 1) (λ u k x. refl) (cause_count s.n) tt s.causes w.all_causes in
    let ls = chain_flat (repeated bit_format 0) (bit_list 1) (λ u k x. refl) (lock_count s.n) tt s.locks w.all_locks in
    let ts = chain_flat (stage_chain s.n) stage_bits (λ u k x. refl) (length s.stages) 0 s.stages refl in
    let z : bit_list (to_full (head_bits (cause_count s.n) (lock_count s.n))) 0 ≡ bit_list (to_full (head_bits (length s.causes) (length s.locks))) 0 =
    ap₂ (λ (a b : ℕ). bit_list (to_full (head_bits a b)) 0) (sym w.all_causes) (sym w.all_locks) in
    λ i. mark_bits i ++ (bit_list 8 s.n ++ (cs i ++ (fs i ++ (ls i ++ (z i ++ (bit_list 16 (length s.stages) ++ ts i))))))

-- ── how long it is ──

pub class_length : (c : ShownClass) → length (class_bits c) ≡ 51
class_length c = omega (arith, length-append (bit_list 3 c.state) (bit_list 32 c.count ++ bit_list 16 c.accum), length-append (bit_list 32 c.count) (bit_list 16 c.accum), length_bits 3 c.state, length_bits 32 c.count, length_bits 16 c.accum)

pub stage_length : (s : ShownStage) → length (stage_bits s) ≡ 48
stage_length s = omega (arith, length-append (bit_list 16 s.register) (bit_list 32 s.value), length_bits 16 s.register, length_bits 32 s.value)

-- TDMP, the bytes up to the stages, their number, six bytes for each
abbrev pub dump_length : ℕ → ℕ → ℕ → ℕ
dump_length causes locks stages = 4 + (head_bits causes locks + 7) / 8 + 2 + 6 * stages

pub bits_length : (s : Shown) → WellShown s → length (dump_bits s) ≡ 8 * dump_length (length s.causes) (length s.locks) (length s.stages)
unfolding dump_bits
bits_length s w =
    let c : ℕ = length s.causes in
    let l : ℕ = length s.locks in
    let k : ℕ = length s.stages in
    let t8 : List Bool = flat stage_bits s.stages in
    let t7 : List Bool = bit_list 16 k ++ t8 in
    let t6 : List Bool = bit_list (to_full (head_bits c l)) 0 ++ t7 in
    let t5 : List Bool = flat (bit_list 1) s.locks ++ t6 in
    let t4 : List Bool = flat (bit_list 1) s.causes ++ t5 in
    let t3 : List Bool = flat class_bits s.classes ++ t4 in
    let t2 : List Bool = bit_list 8 s.n ++ t3 in
    let e1 : length (bits_of_bytes mark ++ t2) ≡ length (bits_of_bytes mark) + length t2 = length-append (bits_of_bytes mark) t2 in
    let e2 : length t2 ≡ length (bit_list 8 s.n) + length t3 = length-append (bit_list 8 s.n) t3 in
    let e3 : length t3 ≡ length (flat class_bits s.classes) + length t4 = length-append (flat class_bits s.classes) t4 in
    let e4 : length t4 ≡ length (flat (bit_list 1) s.causes) + length t5 = length-append (flat (bit_list 1) s.causes) t5 in
    let e5 : length t5 ≡ length (flat (bit_list 1) s.locks) + length t6 = length-append (flat (bit_list 1) s.locks) t6 in
    let e6 : length t6 ≡ length (bit_list (to_full (head_bits c l)) 0) + length t7 = length-append (bit_list (to_full (head_bits c l)) 0) t7 in
    let e7 : length t7 ≡ length (bit_list 16 k) + length t8 = length-append (bit_list 16 k) t8 in
    let f1 : length (bits_of_bytes mark) ≡ 32 = length_bits_of_bytes mark in
    let f2 : length (bit_list 8 s.n) ≡ 8 = length_bits 8 s.n in
    let f3 : length (flat class_bits s.classes) ≡ 51 * length s.classes = flat_length class_bits 51 class_length s.classes in
    let f4 : length (flat (bit_list 1) s.causes) ≡ 1 * c = flat_length (bit_list 1) 1 (length_bits 1) s.causes in
    let f5 : length (flat (bit_list 1) s.locks) ≡ 1 * l = flat_length (bit_list 1) 1 (length_bits 1) s.locks in
    let f6 : length (bit_list (to_full (head_bits c l)) 0) ≡ to_full (head_bits c l) = length_bits (to_full (head_bits c l)) 0 in
    let f7 : length (bit_list 16 k) ≡ 16 = length_bits 16 k in
    let f8 : length t8 ≡ 48 * k = flat_length stage_bits 48 stage_length s.stages in
    let g : length s.classes ≡ 4 = w.four in
    omega arith
