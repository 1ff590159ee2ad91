-- Wrong writers that the sentences refuse, as theorems.
-- Assumes nothing.
use Prim.Native.Nat.{ℕ, ◌+◌, ◌-◌, ◌*◌}
use mathlib.Core.Path.{refl}
use mathlib.Core.Bool.{false, cond}
use mathlib.Core.List.{List, ◌∷◌, ◌++◌, map}
use native.Mathlib.Omega.{arith}
use lib.Dec.{ltb}
use lib.IntN.{pos}
use lib.ListN.{get_or, length, take, drop, replicate}
use Rattle.dump_rules.specs.Dump.{dump_of}
use Rattle.dump_rules.specs.Shown.{ShownClass, ShownStage, Shown, shown}
use Rattle.dump_rules.specs.Writer.{Dumped, unwritten, written}
use Rattle.dump_rules.specs.declared.Unwritten.TheVariants.{BadState, ShortBuffer}
use Rattle.trace_sentences.proofs.HoldsWords.{refusal_of_law, value_of}
use Rattle.dump_sentences.proofs.DumpScenes.{dumping, bad, bad_invalid, Judge, judged_by, WriterBy, differs_judged, differs_written}

-- ── the bytes: 48 of them for the content, of which byte i is looked at ──

abbrev byte : ℕ → Dumped → ℕ
byte i d = get_or d.buffer i 0

-- TDMQ
abbrev other_mark : Shown → List ℕ
other_mark s = 84 ∷ 68 ∷ 77 ∷ 81 ∷ drop 4 (dump_of s)

pub no_other_mark : ¬ WriterBy (judged_by other_mark)
unfolding dumping
no_other_mark = differs_written (judged_by other_mark) 99 (byte 3) 81 80 refl refl (λ e. omega (arith, e))

-- the accumulator before the count
abbrev swapped : Shown → List ℕ
swapped s =
    dump_of (record { n = s.n; classes = map (λ (c : ShownClass). record { state = c.state; count = c.accum; accum = c.count }) s.classes; causes = s.causes; locks = s.locks; stages = s.stages })

pub no_accumulator_first : ¬ WriterBy (judged_by swapped)
unfolding dumping
no_accumulator_first = differs_written (judged_by swapped) 99 (byte 9) 96 64 refl refl (λ e. omega (arith, e))

-- locks before causes
abbrev locks_first : Shown → List ℕ
locks_first s = dump_of (record { n = s.n; classes = s.classes; causes = s.locks; locks = s.causes; stages = s.stages })

pub no_locks_first : ¬ WriterBy (judged_by locks_first)
unfolding dumping
no_locks_first = differs_written (judged_by locks_first) 99 (byte 31) 8 24 refl refl (λ e. omega (arith, e))

-- 0 for locked
abbrev inverted : Shown → List ℕ
inverted s = dump_of (record { n = s.n; classes = s.classes; causes = s.causes; locks = map (λ x. 1 - x) s.locks; stages = s.stages })

pub no_zero_for_locked : ¬ WriterBy (judged_by inverted)
unfolding dumping
no_zero_for_locked = differs_written (judged_by inverted) 99 (byte 31) 23 24 refl refl (λ e. omega (arith, e))

-- class D's CLR_REGWEN left out
abbrev unclear : Shown → List ℕ
unclear s = dump_of (record { n = s.n; classes = s.classes; causes = s.causes; locks = take (length s.locks - 1) s.locks; stages = s.stages })

pub no_clr_regwen_left_out : ¬ WriterBy (judged_by unclear)
unfolding dumping
no_clr_regwen_left_out = differs_written (judged_by unclear) 99 (byte 33) 0 8 refl refl (λ e. omega (arith, e))

-- numbers falling
abbrev falling : Shown → List ℕ
falling s = dump_of (record { n = s.n; classes = s.classes; causes = s.causes; locks = s.locks; stages = drop 1 s.stages ++ take 1 s.stages })

pub no_stages_falling : ¬ WriterBy (judged_by falling)
unfolding dumping
no_stages_falling = differs_written (judged_by falling) 99 (byte 36) 5 0 refl refl (λ e. omega (arith, e))

-- the number of open stages left out
abbrev uncounted : Shown → List ℕ
uncounted s = let d = dump_of s in take (length d - (2 + 6 * length s.stages)) d ++ drop (length d - 6 * length s.stages) d

pub no_number_left_out : ¬ WriterBy (judged_by uncounted)
unfolding dumping
no_number_left_out = differs_written (judged_by uncounted) 99 (byte 35) 5 2 refl refl (λ e. omega (arith, e))

-- a stage's code in its value's stead
abbrev coded : Shown → List ℕ
coded s =
    dump_of (record { n = s.n; classes = s.classes; causes = s.causes; locks = s.locks; stages = map (λ (t : ShownStage). record { register = t.register; value = t.value + 1 }) s.stages })

pub no_code_for_value : ¬ WriterBy (judged_by coded)
unfolding dumping
no_code_for_value = differs_written (judged_by coded) 99 (byte 41) 10 9 refl refl (λ e. omega (arith, e))

-- ── refusals and the buffer ──

-- 11 before 7: no bytes, which are too few for every dump
abbrev hasty : Judge
hasty buffer v s = cond (ltb (length buffer) 1) (unwritten ShortBuffer buffer) (judged_by dump_of buffer v s)

pub no_eleven_before_seven : ¬ WriterBy hasty
no_eleven_before_seven = differs_judged hasty bad false (shown bad) bad_invalid refl 0 (λ d. refusal_of_law d.answer) 11 7 refl refl (λ e. omega (arith, e))

-- a byte too few is enough
abbrev cut_off : Judge
cut_off buffer v s = judged_by (λ s. take (length buffer) (dump_of s)) buffer v s

pub no_dump_cut_off : ¬ WriterBy cut_off
unfolding dumping
no_dump_cut_off = differs_written cut_off 47 (λ d. refusal_of_law d.answer) 0 11 refl refl (λ e. omega (arith, e))

-- 11 with a cleared buffer
abbrev clearing : Judge
clearing buffer v s = cond v (cond (ltb (length buffer) (length (dump_of s))) (unwritten ShortBuffer (map (λ x. 0) buffer)) (written (dump_of s) buffer)) (unwritten BadState buffer)

pub no_buffer_cleared_by_11 : ¬ WriterBy clearing
unfolding dumping
no_buffer_cleared_by_11 = differs_written clearing 47 (byte 0) 0 77 refl refl (λ e. omega (arith, e))

-- later bytes at 0
abbrev trailing : Judge
trailing buffer v s =
    let d = judged_by dump_of buffer v s in
    record { answer = d.answer; buffer = take (length (dump_of s)) d.buffer ++ replicate (length buffer - length (dump_of s)) 0 }

pub no_later_byte_cleared : ¬ WriterBy trailing
unfolding dumping
no_later_byte_cleared = differs_written trailing 49 (byte 48) 0 77 refl refl (λ e. omega (arith, e))

-- success answers 0
abbrev silent : Judge
silent buffer v s = let d = judged_by dump_of buffer v s in record { answer = cond v (pos 0) d.answer; buffer = d.buffer }

pub no_success_answering_0 : ¬ WriterBy silent
unfolding dumping
no_success_answering_0 = differs_written silent 49 (λ d. value_of d.answer) 0 48 refl refl (λ e. omega (arith, e))
