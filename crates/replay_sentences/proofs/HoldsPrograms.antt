-- What the program's contracts cite satisfies the sentences.
-- Assumes nothing.
use Prim.Native.Nat.{ℕ, suc, ◌+◌, ◌-◌, ◌*◌, ◌/◌, ◌%◌, ◌^◌, ◌≤◌, ◌<◌}
use mathlib.Core.Path.{◌≡◌, refl, sym, ap, ◌∙◌, subst}
use mathlib.Core.Logic.{◌⊎◌, ◌≢◌, inl, inr}
use mathlib.Core.Bool.{and-false, not}
use mathlib.Core.List.{List, [], ◌++◌, append-nil}
use native.Mathlib.Omega.{arith}
use borrow.Author.Tests.{lt-leb, le-leb, lt-ltb, le-ltb, eq-eqb, ne_eqb}
use lib.Dec.{eqb}
use lib.ListN.{get_or, length, take, length-append, get_or-append}
use lib.Seq.{get_or-append-add}
use Rattle.bits.proofs.IndexLaws.{at_each, length_each}
use Rattle.laws.proofs.Tick.Runs.{run_next}
use Rattle.rules.specs.Answer.{number}
use Rattle.rules.specs.Run.{run}
use Rattle.rules.specs.State.{made, new_handler}
use Rattle.rules.specs.Tick.{ticked}
use Rattle.rules.specs.declared.Handler.{Handler}
use Rattle.rules.specs.declared.Input.{Input}
use Rattle.sentences.proofs.HoldsMaking.{holds_making}
use Rattle.sentences.proofs.Whole.{holds_whole}
use Rattle.text.proofs.LineLaws.{length_lines, line_at_law, line_digit, line_newline}
use Rattle.text.specs.HexLines.{digit_of, line_of, lines_of}
use Rattle.trace_rules.specs.Edition.{record_bytes, alerts}
use Rattle.trace_rules.specs.Record.{input_of, inputs_of, record_at, record_count}
use Rattle.trace_rules.specs.Word.{word_of}
use Rattle.trace_rules.specs.declared.Edition.{Edition}
use Rattle.trace_rules.specs.declared.Edition.TheVariants.{Alerts64, Alerts248, Pings, Wires}
use Rattle.trace_sentences.proofs.HoldsBatches.{word_at}
use Rattle.trace_sentences.proofs.HoldsRecords.{holds_reader}
use Rattle.trace_sentences.proofs.HoldsWords.{holds_words}
use Rattle.trace_sentences.specs.RecordBits.{form}
use Rattle.replay_rules.proofs.CutLaws.{words_of, length_words, length_text, prints_other, cuts}
use Rattle.replay_rules.specs.Prints.{words_text, cut_text, end_text, records_text, takes, start_text, behind_text, prints}
use Rattle.replay_sentences.specs.Texts.{refused_text, HexDigit, LineAt, CutAt, TextIs}
use Rattle.replay_sentences.specs.Programs.{StartIs, Program}

-- ── a digit, a line ──

is_digit : (x : ℕ) → HexDigit x (digit_of x)
is_digit x = record { to_9 = λ l. rw (lt-ltb x 10 (omega arith)); from_10 = λ l. rw (le-ltb x 10 l) }

module _ (e : Edition) (h : Handler) (bytes : List ℕ) where
  abbrev d : Input
  d = input_of e []

  abbrev state_at : ℕ → Handler
  state_at i = run h (take i (inputs_of e bytes))

  abbrev xs : ℕ → Input
  xs i = input_of e (record_at e bytes i)

  length_inputs : length (inputs_of e bytes) ≡ record_count e bytes
  unfolding inputs_of
  length_inputs = length_each (record_count e bytes) xs

  input_at : (i : ℕ) → i < record_count e bytes → get_or (inputs_of e bytes) i d ≡ xs i
  unfolding inputs_of
  input_at i l = at_each (record_count e bytes) xs i d l

  -- the word of record i
  word_is : (i : ℕ) → i < record_count e bytes → get_or (words_of e h bytes) i 0 ≡ word_of (ticked (state_at i) (xs i))
  word_is i l =
      word_at h (inputs_of e bytes) i d (omega (arith, length_inputs)) ∙ ap (λ (y : Input). word_of (ticked (state_at i) y)) (input_at i l)

  -- place j of line i, whatever stands behind the lines
  place : (end : List ℕ) (i j : ℕ) → i < record_count e bytes → j < 17
      → get_or (words_text e h bytes ++ end) (17 * i + j) 0 ≡ get_or (line_of (word_of (ticked (state_at i) (xs i)))) j 0
  unfolding words_text
  place end i j l m =
      let n = length_words e h bytes in
      get_or-append (lines_of (words_of e h bytes)) end 0 (17 * i + j) (omega (arith, length_lines (words_of e h bytes), n))
      ∙ line_at_law (words_of e h bytes) i j (omega (arith, n)) m
      ∙ ap (λ (w : ℕ). get_or (line_of w) j 0) (word_is i l)

  is_line_law : (end : List ℕ) (i : ℕ) → i < record_count e bytes → LineAt (words_text e h bytes ++ end) (17 * i) (word_of (ticked (state_at i) (xs i)))
  is_line_law end i l =
      let w = word_of (ticked (state_at i) (xs i)) in
      record {
        digit = λ j m.
            subst (HexDigit (w / 2 ^ (60 - 4 * j) % 16)) (sym (place end i j l (omega arith) ∙ line_digit w j (omega arith))) (is_digit (w / 2 ^ (60 - 4 * j) % 16));
        newline = place end i 16 l (omega arith) ∙ line_newline w;
      }

  -- ── the end ──

  no_end : length bytes % record_bytes e ≡ 0 → end_text (length bytes % record_bytes e) ≡ []
  unfolding end_text
  no_end z = rw (eq-eqb (length bytes % record_bytes e) 0 z)

  cut_end : length bytes % record_bytes e ≢ 0 → end_text (length bytes % record_bytes e) ≡ cut_text
  unfolding end_text
  cut_end f = rw (ne_eqb (length bytes % record_bytes e) 0 f)

  behind : (j : ℕ) → get_or (words_text e h bytes ++ cut_text) (17 * record_count e bytes + j) 0 ≡ get_or cut_text j 0
  behind j =
      ap (λ (n : ℕ). get_or (words_text e h bytes ++ cut_text) (n + j) 0) (sym (length_text e h bytes)) ∙ get_or-append-add (words_text e h bytes) cut_text j 0

  is_cut : CutAt (words_text e h bytes ++ cut_text) (17 * record_count e bytes)
  is_cut =
      let z : 17 * record_count e bytes + 0 ≡ 17 * record_count e bytes = omega arith in
      record {
        letter_c = ap (λ (n : ℕ). get_or (words_text e h bytes ++ cut_text) n 0) (sym z) ∙ behind 0;
        letter_u = behind 1;
        letter_t = behind 2;
        newline = behind 3;
        end = length-append (words_text e h bytes) cut_text ∙ ap (λ (n : ℕ). n + 4) (length_text e h bytes);
      }

  -- ── the text ──

  abbrev text : List ℕ
  text = records_text e h bytes

  text_next : (i : ℕ) → i < record_count e bytes → state_at (suc i) ≡ (ticked (state_at i) (xs i)).handler
  text_next i l =
      let k : i < length (inputs_of e bytes) = omega (arith, length_inputs) in
      run_next h (inputs_of e bytes) i d k ∙ ap (λ (y : Input). (ticked (state_at i) y).handler) (input_at i l)

  text_line : (i : ℕ) → i < record_count e bytes → LineAt text (17 * i) (word_of (ticked (state_at i) (xs i)))
  unfolding records_text
  text_line i l = is_line_law (end_text (length bytes % record_bytes e)) i l

  text_whole : length bytes % record_bytes e ≡ 0 → length text ≡ 17 * record_count e bytes
  unfolding records_text
  text_whole z = ap (λ (t : List ℕ). length (words_text e h bytes ++ t)) (no_end z) ∙ ap length (append-nil (words_text e h bytes)) ∙ length_text e h bytes

  text_cut : length bytes % record_bytes e ≢ 0 → CutAt text (17 * record_count e bytes)
  unfolding records_text
  text_cut f = subst (λ (t : List ℕ). CutAt (words_text e h bytes ++ t) (17 * record_count e bytes)) (sym (cut_end f)) is_cut

is_text : (e : Edition) (h : Handler) (bytes : List ℕ) → TextIs ticked word_of input_of e h bytes (records_text e h bytes)
unfolding run
is_text Alerts64 h bytes =
    record {
      states = state_at Alerts64 h bytes;
      first = refl;
      next = text_next Alerts64 h bytes;
      line = text_line Alerts64 h bytes;
      whole = text_whole Alerts64 h bytes;
      cut = text_cut Alerts64 h bytes;
    }
is_text Alerts248 h bytes =
    record {
      states = state_at Alerts248 h bytes;
      first = refl;
      next = text_next Alerts248 h bytes;
      line = text_line Alerts248 h bytes;
      whole = text_whole Alerts248 h bytes;
      cut = text_cut Alerts248 h bytes;
    }
is_text Pings h bytes =
    record {
      states = state_at Pings h bytes;
      first = refl;
      next = text_next Pings h bytes;
      line = text_line Pings h bytes;
      whole = text_whole Pings h bytes;
      cut = text_cut Pings h bytes;
    }
is_text Wires h bytes =
    record {
      states = state_at Wires h bytes;
      first = refl;
      next = text_next Wires h bytes;
      line = text_line Wires h bytes;
      whole = text_whole Wires h bytes;
      cut = text_cut Wires h bytes;
    }

-- ── N ──

most_alerts : (e : Edition) → (alerts e ≡ (form e).alerts) × (alerts e ≤ 248)
most_alerts Alerts64 = (refl, omega arith)
most_alerts Alerts248 = (refl, omega arith)
most_alerts Pings = (refl, omega arith)
most_alerts Wires = (refl, omega arith)

made_new : (n : ℕ) → 1 ≤ n → n ≤ 248 → (made n).handler ≡ new_handler n
unfolding made
made_new n a b = simp (ne_eqb n 0 (λ e. omega arith), le-ltb 248 n b)

module _ (e : Edition) (n : ℕ) (bytes : List ℕ) where
  not_taken : (n ≡ 0) ⊎ ((form e).alerts < n) → start_text e n bytes ≡ refused_text
  unfolding start_text takes
  not_taken (inl z) = rw (eq-eqb n 0 z)
  not_taken (inr l) = let m : alerts e < n = omega (arith, (most_alerts e).0) in rw (lt-leb n (alerts e) m, and-false (not (eqb n 0)))

  taken : 1 ≤ n → n ≤ (form e).alerts → start_text e n bytes ≡ records_text e (new_handler n) bytes
  unfolding start_text takes
  taken a b = let m : n ≤ alerts e = omega (arith, (most_alerts e).0) in rw (ne_eqb n 0 (λ z. omega arith), le-leb n (alerts e) m)

  is_start : StartIs made ticked word_of input_of e n bytes (start_text e n bytes)
  is_start =
      record {
        refused = not_taken;
        runs = λ a b.
            let m : n ≤ 248 = omega (arith, (most_alerts e).0, (most_alerts e).1) in
            subst (λ (t : List ℕ). TextIs ticked word_of input_of e (made n).handler bytes t) (sym (taken a b))
            (subst (λ (h : Handler). TextIs ticked word_of input_of e h bytes (records_text e (new_handler n) bytes)) (sym (made_new n a m)) (is_text e (new_handler n) bytes));
      }

pub holds_program : Program prints
unfolding prints behind_text
holds_program =
    record {
      made = made;
      making = holds_making;
      tick = ticked;
      number = number;
      ticks = holds_whole;
      word = word_of;
      words = holds_words;
      read = input_of;
      reads = holds_reader;
      missing = cuts.missing;
      missing_n = cuts.missing_n;
      others = λ n bytes l. subst (λ (t : List ℕ). StartIs made ticked word_of input_of Alerts64 n bytes t) (sym (prints_other n bytes l)) (is_start Alerts64 n bytes);
      at_255 = is_start Alerts248;
      at_254 = is_start Pings;
      at_253 = is_start Wires;
    }
