-- Wrong readers that the sentences refuse, as theorems.
-- Assumes nothing.
use Prim.Native.Nat.{ℕ, ◌-◌}
use mathlib.Core.Path.{refl}
use mathlib.Core.Bool.{cond}
use mathlib.Core.List.{List, [], ◌∷◌, ◌++◌, map}
use native.Mathlib.Omega.{arith}
use lib.Dec.{eqb}
use lib.IntN.{pos, neg_ℤ}
use lib.ListN.{get_or, length, take, drop}
use lib.Pow.{pow_pos}
use Rattle.dump_rules.specs.Dump.{dump_of}
use Rattle.dump_rules.specs.declared.Content.{Content}
use Rattle.dump_rules.proofs.ReaderLaws.{dump_bytes}
use Rattle.formats.specs.BitList.{AreBytes, none, one}
use Rattle.trace_sentences.proofs.HoldsWords.{refusal_of_law, value_of}
use Rattle.dump_sentences.specs.Dumpers.{Reader}
use Rattle.dump_sentences.proofs.DumpScenes.{content1, dumping, differs_read, differs_shown}
use Rattle.dump_sentences.proofs.HoldsDumpers.{content}

abbrev refused : Content → ℕ
refused c = refusal_of_law c.answer

-- ── what is refused ──

-- 16 for a cut start, of no bytes too
abbrev relabelled : Content → Content
relabelled c =
    record {
      answer = cond (eqb (refused c) 17) (neg_ℤ (pos 16)) c.answer;
      n = c.n;
      classes = c.classes;
      stages = c.stages;
      causes = c.causes;
      locked = c.locked;
    }

pub no_sixteen_for_a_cut : ¬ Reader (λ bytes. relabelled (content bytes))
unfolding dumping
no_sixteen_for_a_cut = differs_read (λ bytes. relabelled (content bytes)) [] none refused 16 17 refl refl (λ e. omega (arith, e))

-- TDMP not compared: TDMQ is a cut start
abbrev unmarked : List ℕ → Content
unmarked bytes = content (take (length bytes) (84 ∷ 68 ∷ 77 ∷ 80 ∷ []) ++ drop 4 bytes)

pub no_mark_uncompared : ¬ Reader unmarked
unfolding dumping
no_mark_uncompared =
    differs_read unmarked (84 ∷ 68 ∷ 77 ∷ 81 ∷ []) (one (omega arith) (one (omega arith) (one (omega arith) (one (omega arith) none)))) refused 17 16 refl refl (λ e. omega (arith, e))

-- 16 with the byte of N shown
abbrev counting : List ℕ → Content
counting bytes =
    let c = content bytes in
    record { answer = c.answer; n = cond (eqb (refused c) 16) (get_or bytes 4 0) c.n; classes = c.classes; stages = c.stages; causes = c.causes; locked = c.locked }

pub no_n_shown_with_16 : ¬ Reader counting
unfolding dumping
no_n_shown_with_16 =
    differs_read counting (84 ∷ 68 ∷ 77 ∷ 81 ∷ 5 ∷ []) (one (omega arith) (one (omega arith) (one (omega arith) (one (omega arith) (one (omega arith) none))))) (λ c. c.n) 5 0
    refl refl (λ e. omega (arith, e))

-- a byte behind a dump not looked at
abbrev lenient : List ℕ → Content
lenient bytes = cond (eqb (refused (content bytes)) 16) (content (take (length bytes - 1) bytes)) (content bytes)

behind : (xs : List ℕ) → AreBytes xs → AreBytes (xs ++ 0 ∷ [])
behind [] none = one (pow_pos 8) none
behind (x ∷ xs) (one l f) = one l (behind xs f)

pub no_byte_behind : ¬ Reader lenient
unfolding dumping
no_byte_behind = differs_read lenient (dump_of content1 ++ 0 ∷ []) (behind (dump_of content1) (dump_bytes content1)) refused 0 16 refl refl (λ e. omega (arith, e))

-- ── what is shown ──

-- the locks as the registers hold them: 0 for locked
abbrev unlocked : Content → Content
unlocked c = record { answer = c.answer; n = c.n; classes = c.classes; stages = c.stages; causes = c.causes; locked = map (λ x. 1 - x) c.locked }

pub no_zero_shown_for_locked : ¬ Reader (λ bytes. unlocked (content bytes))
unfolding dumping
no_zero_shown_for_locked = differs_shown unlocked (λ c. get_or c.locked 4 0) 0 1 refl refl (λ e. omega (arith, e))

-- a stage's value in its code's stead, so that a stage of 0 is none
abbrev decoded : Content → Content
decoded c = record { answer = c.answer; n = c.n; classes = c.classes; stages = map (λ x. x - 1) c.stages; causes = c.causes; locked = c.locked }

pub no_value_for_code : ¬ Reader (λ bytes. decoded (content bytes))
unfolding dumping
no_value_for_code = differs_shown decoded (λ c. get_or c.stages 5 0) 9 10 refl refl (λ e. omega (arith, e))

-- success answers N
abbrev answering : Content → Content
answering c = record { answer = cond (eqb (refused c) 0) (pos c.n) c.answer; n = c.n; classes = c.classes; stages = c.stages; causes = c.causes; locked = c.locked }

pub no_success_answering_n : ¬ Reader (λ bytes. answering (content bytes))
unfolding dumping
no_success_answering_n = differs_shown answering (λ c. value_of c.answer) 1 0 refl refl (λ e. omega (arith, e))

-- the classes in falling order
abbrev turned : Content → Content
turned c = record { answer = c.answer; n = c.n; classes = drop 1 c.classes ++ take 1 c.classes; stages = c.stages; causes = c.causes; locked = c.locked }

pub no_class_moved : ¬ Reader (λ bytes. turned (content bytes))
unfolding dumping
no_class_moved = differs_shown turned (λ c. (get_or c.classes 0 (record { state = 9; count = 0; accum = 0 })).state) 0 4 refl refl (λ e. omega (arith, e))
