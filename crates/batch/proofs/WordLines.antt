-- The words of a batch carry the lines that demand 3 speaks of.
-- Assumes nothing.
use Prim.Native.Nat.{ℕ, ◌-◌, ◌%◌, ◌^◌, ◌≤◌, ◌<◌}
use mathlib.Core.Path.{◌≡◌, refl, sym, ap, subst, ◌∙◌}
use mathlib.Core.Bool.{true}
use mathlib.Core.List.{List, map}
use native.Mathlib.Omega.{arith}
use lib.ListN.{length, get_or, take, drop, length-map, get_or-append, get_or-map}
use Rattle.bits.specs.Bits.{bit}
use Rattle.bits.specs.Fields.{pack}
use Rattle.escalation.specs.List.{IsTick, given_at, no_input, no_tick}
use Rattle.trace_rules.specs.Batch.{Batched, admits, batch}
use Rattle.trace_rules.specs.Edition.{record_bytes}
use Rattle.rules.specs.Run.{run, ticks}
use Rattle.trace_rules.specs.declared.Edition.{Edition}
use Rattle.rules.specs.declared.Handler.{Handler}
use Rattle.rules.specs.declared.Input.{Input}
use Rattle.rules.specs.declared.Ticked.{Ticked}
use Rattle.trace_rules.specs.Word.{read_of, word_by, word_of}
use Rattle.trace_rules.specs.Record.{inputs_of, record_count}
use Rattle.trace_laws.proofs.BatchLaws.{admits_valid, batch_good}
use Rattle.laws.proofs.Valid.KeepsValid.{run_valid}
use Rattle.laws.proofs.Tick.Runs.{ticks_at, length_ticks}
use Rattle.trace_laws.proofs.WordFields.{line_bit}
use Rattle.trace_laws.proofs.ReadValues.{read_fits}
use Rattle.batch.proofs.Running.{length_inputs}

-- the word past the last tick
no_word : word_of no_tick ≡ 0
unfolding word_of word_by pack bit
no_word = refl

-- a batch that is not refused
module _ (e : Edition) (h : Handler) (bytes out : List ℕ) (v : admits e h ≡ true) (w : length bytes % record_bytes e ≡ 0) (r : record_count e bytes ≤ length out) where
  abbrev xs : List Input
  xs = inputs_of e bytes

  -- what tick i gives
  abbrev tick_at : ℕ → Ticked
  tick_at i = get_or (ticks h xs) i no_tick

  -- word i is the word of tick i
  pub word_of_tick : (i : ℕ) → i < record_count e bytes → get_or (batch e h bytes out).out i 0 ≡ word_of (tick_at i)
  word_of_tick i l =
      let z : length (map word_of (ticks h xs)) ≡ record_count e bytes = length-map (ticks h xs) word_of ∙ length_ticks h xs ∙ length_inputs e bytes in
      ap (λ (b : Batched). get_or b.out i 0) (batch_good e h bytes out v w r)
      ∙ get_or-append (map word_of (ticks h xs)) (drop (record_count e bytes) out) 0 i (omega (arith, z))
      ∙ ap (get_or (map word_of (ticks h xs)) i) (sym no_word) ∙ get_or-map word_of (ticks h xs) i no_tick

  -- its read value has 32 bits
  tick_reads : (i : ℕ) → i < record_count e bytes → read_of (tick_at i).answer < 2 ^ 32
  tick_reads i l =
      subst (λ (t : Ticked). read_of t.answer < 2 ^ 32) (sym (ticks_at h xs i no_input no_tick (omega (arith, length_inputs e bytes))))
      (read_fits (run h (take i xs)) (run_valid h (take i xs) (admits_valid e h v)) (get_or xs i no_input))

  -- bit 59 - k of word i is line k of tick i
  pub line_of_tick : (i k : ℕ) → i < record_count e bytes → k < 4 → bit (get_or (batch e h bytes out).out i 0) (59 - k) ≡ bit (tick_at i).output.lines k
  line_of_tick i k l m = ap (λ (x : ℕ). bit x (59 - k)) (word_of_tick i l) ∙ line_bit (tick_at i) (tick_reads i l) k m

  -- as demand 3 numbers the ticks, from any first number
  pub line_of_list : (first t k : ℕ) → IsTick first xs t → k < 4
      → bit (get_or (batch e h bytes out).out (t - first) 0) (59 - k) ≡ bit (given_at first h xs t).output.lines k
  line_of_list first t k a m = line_of_tick (t - first) k (omega (arith, a.from, a.to, length_inputs e bytes)) m
