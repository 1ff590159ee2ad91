-- What the refutations of wrong writers and readers share: a state with what its dump shows, and how a difference refutes.
-- Assumes nothing.
use Prim.Native.Nat.{ℕ}
use mathlib.Core.Path.{◌≡◌, refl, sym, ap, ap₂, ◌∙◌}
use mathlib.Core.Bool.{Bool, true, false, cond}
use mathlib.Core.List.{List, [], ◌∷◌}
use lib.Dec.{ltb}
use lib.ListN.{length, replicate}
use native.Mathlib.Omega.{arith}
use Rattle.class_rules.specs.Class.{state_of}
use Rattle.dump_laws.specs.Holding.{holding}
use Rattle.dump_laws.proofs.Holds.{holding_shown, holding_valid}
use Rattle.dump_rules.specs.Content.{code_at, flags_by, codes_by, content_by}
use Rattle.dump_rules.specs.Dump.{dump_bits, dump_of}
use Rattle.dump_rules.specs.Reader.{shows, read_dump}
use Rattle.dump_rules.specs.Shown.{Shown, WellShown, picks, shown}
use Rattle.dump_rules.specs.Writer.{Dumped, unwritten, written, write_dump}
use Rattle.dump_rules.specs.declared.Content.{Content}
use Rattle.dump_rules.specs.declared.Unwritten.TheVariants.{BadState, ShortBuffer}
use Rattle.dump_rules.proofs.ReaderLaws.{dump_bytes, read_back}
use Rattle.formats.specs.BitList.{AreBytes, bit_list, number_of, bits_of_bytes, bytes_of_bits}
use Rattle.formats.specs.Format.{flat}
use Rattle.rules.proofs.Scenes.{rules}
use Rattle.rules.specs.Map.{block_at, decode, bits, is_lock, is_shadowed}
use Rattle.rules.specs.State.{new_handler, with_interrupts}
use Rattle.rules.specs.Valid.{valid}
use Rattle.rules.specs.declared.Handler.{Handler}
use Rattle.dump_sentences.specs.Dumpers.{Writer, Reader}
use Rattle.dump_sentences.proofs.HoldsBytes.{byte_small}
use Rattle.dump_sentences.proofs.HoldsDumpers.{content, is_the_writer, is_the_reader}

-- ── a content: one alert, locked and with its cause; class A in Phase 0; the ping timer and class D's CLR_REGWEN locked; stages of 9 at register 5 and of 2 at 1281 ──

abbrev pub content1 : Shown
content1 =
    record {
      n = 1;
      classes = record { state = 4; count = 2; accum = 3 } ∷ replicate 3 (record { state = 0; count = 0; accum = 0 });
      causes = 0 ∷ 0 ∷ 0 ∷ 0 ∷ 0 ∷ 0 ∷ 0 ∷ 1 ∷ [];
      locks = 1 ∷ 0 ∷ 0 ∷ 0 ∷ 0 ∷ 0 ∷ 0 ∷ 0 ∷ 1 ∷ 0 ∷ 0 ∷ 0 ∷ 0 ∷ 0 ∷ 0 ∷ 0 ∷ 1 ∷ [];
      stages = record { register = 5; value = 9 } ∷ record { register = 1281; value = 2 } ∷ [];
    }

well : WellShown content1
unfolding picks decode block_at is_lock is_shadowed bits state_of
well =
    record {
      alerts = omega arith;
      four = refl;
      each_class = (refl, (refl, (refl, (refl, tt))));
      all_causes = refl;
      cause_bits = (omega arith, (omega arith, (omega arith, (omega arith, (omega arith, (omega arith, (omega arith, (omega arith, tt))))))));
      all_locks = refl;
      lock_bits =
          (omega arith, (omega arith, (omega arith, (omega arith, (omega arith, (omega arith, (omega arith, (omega arith, (omega arith, (omega arith, (omega arith, (omega arith, (omega arith, (omega arith, (omega arith, (omega arith, (omega arith, tt)))))))))))))))));
      rising = (omega arith, refl, omega arith, (omega arith, refl, omega arith, tt));
    }

-- a state that holds it, and one that refusal 7 meets: INTR_STATE over its four bits
abbrev pub scene : Handler
scene = holding content1

pub shown_scene : shown scene ≡ content1
shown_scene = holding_shown content1 well

pub valid_scene : valid scene ≡ true
valid_scene = holding_valid content1 well

abbrev pub bad : Handler
bad = with_interrupts (record { state = 16; enable = 0 }) (new_handler 1)

pub bad_invalid : valid bad ≡ false
unfolding rules
bad_invalid = refl

-- names what the refutations compute with
unfoldable pub dumping : ℕ → ℕ
unfolding rules dump_of dump_bits flat bit_list bits_of_bytes bytes_of_bits number_of picks read_dump content_by flags_by codes_by code_at
dumping n = n

-- ── writers: by whether the state is valid and what is shown of it ──

abbrev pub Judge : Type 0
Judge = List ℕ → Bool → Shown → Dumped

-- as the rules judge, of a dump by d
abbrev pub judged_by : (Shown → List ℕ) → Judge
judged_by d buffer v s =
    cond v (cond (ltb (length buffer) (length (d s))) (unwritten ShortBuffer buffer) (written (d s) buffer)) (unwritten BadState buffer)

abbrev pub WriterBy : Judge → Type 0
WriterBy j = Writer (λ h buffer. (j buffer (valid h) (shown h)).answer) (λ h buffer. (j buffer (valid h) (shown h)).buffer)

-- by `only_writer` and `holds_writer` a writer gives what `write_dump` gives; where j gives something else, it is none. The buffer has m bytes of 77
pub differs_judged : (j : Judge) (h : Handler) (v : Bool) (s : Shown) → valid h ≡ v → shown h ≡ s → (m : ℕ) (view : Dumped → ℕ) (x y : ℕ)
    → view (j (replicate m 77) v s) ≡ x → view (judged_by dump_of (replicate m 77) v s) ≡ y → ¬ (x ≡ y) → ¬ WriterBy j
unfolding write_dump
differs_judged j h v s e f m view x y a b d p =
    let w = is_the_writer (λ h buffer. (j buffer (valid h) (shown h)).answer) (λ h buffer. (j buffer (valid h) (shown h)).buffer) p h (replicate m 77) in
    let same : j (replicate m 77) (valid h) (shown h) ≡ write_dump h (replicate m 77) = λ i. record { answer = w.0 i; buffer = w.1 i } in
    d (sym a ∙ ap view (sym (ap₂ (j (replicate m 77)) e f) ∙ same ∙ ap₂ (judged_by dump_of (replicate m 77)) e f) ∙ b)

-- of the state that holds the content
pub differs_written : (j : Judge) (m : ℕ) (view : Dumped → ℕ) (x y : ℕ) → view (j (replicate m 77) true content1) ≡ x
    → view (judged_by dump_of (replicate m 77) true content1) ≡ y → ¬ (x ≡ y) → ¬ WriterBy j
differs_written j m view x y = differs_judged j scene true content1 valid_scene shown_scene m view x y

-- ── readers ──

-- by `only_reader` and `holds_reader` a reader gives what `content_by` of `read_dump` gives
pub differs_read : (f : List ℕ → Content) (bytes : List ℕ) → AreBytes bytes → (view : Content → ℕ) (x y : ℕ) → view (f bytes) ≡ x → view (content bytes) ≡ y → ¬ (x ≡ y)
    → ¬ Reader f
differs_read f bytes b view x y a c d p = d (sym a ∙ ap view (is_the_reader f p bytes (byte_small bytes b)) ∙ c)

-- of readers that give the content changed by w, on its dump
pub differs_shown : (w : Content → Content) (view : Content → ℕ) (x y : ℕ) → view (w (content_by (shows content1))) ≡ x → view (content_by (shows content1)) ≡ y → ¬ (x ≡ y)
    → ¬ Reader (λ bytes. w (content bytes))
differs_shown w view x y a c d p =
    let same : content (dump_of content1) ≡ content_by (shows content1) = ap content_by (read_back content1 well) in
    differs_read (λ bytes. w (content bytes)) (dump_of content1) (dump_bytes content1) view x y (ap (λ (z : Content). view (w z)) same ∙ a) (ap view same ∙ c) d p
