-- However the reads cut the input, the texts of the turns joined are the text of the whole.
-- Assumes nothing.
use Prim.Native.Nat.{ℕ, ◌*◌, ◌%◌, ◌≤◌, ◌<◌}
use mathlib.Core.Path.{◌≡◌, refl, sym, ap, ap₂, ◌∙◌}
use mathlib.Core.Bool.{Bool, true, false, cond}
use mathlib.Core.List.{List, [], ◌∷◌, ◌++◌, map, map-append, append-nil, append_assoc}
use native.Mathlib.Nat.{mod-eq_of_lt}
use native.Mathlib.Decide.{ℕ_discrete}
use native.Mathlib.Omega.{arith}
use borrow.Author.Tests.{ne_eqb}
use lib.ListN.{length, length-map}
use Rattle.bits.proofs.IndexLaws.{length_each}
use Rattle.laws.proofs.Tick.Runs.{length_ticks, ticks_append}
use Rattle.rules.specs.Run.{run, ticks}
use Rattle.rules.specs.State.{new_handler}
use Rattle.rules.specs.declared.Handler.{Handler}
use Rattle.rules.specs.declared.Input.{Input}
use Rattle.text.proofs.LineLaws.{length_lines, lines_joined}
use Rattle.text.specs.HexLines.{lines_of}
use Rattle.trace_rules.specs.Edition.{record_bytes}
use Rattle.trace_rules.specs.Record.{input_of, inputs_of, record_at, record_count}
use Rattle.trace_rules.specs.Word.{word_of}
use Rattle.trace_rules.specs.declared.Edition.{Edition}
use Rattle.trace_laws.proofs.PartLaws.{some_bytes}
use Rattle.replay_rules.specs.Cuts.{Cuts}
use Rattle.replay_rules.specs.Prints.{words_text, end_text, records_text, refused_text, takes, start_text, behind_text, prints}
use Rattle.replay_rules.specs.Turns.{joined, rest_of, turn_texts, start_texts}
use Rattle.replay_rules.proofs.WholeRecords.{inputs_behind, length_behind, no_inputs, rest_short}

-- the words of a's whole records, and then those of its rest with b
pub words_behind : (e : Edition) (h : Handler) (a b : List ℕ) → words_text e h (a ++ b) ≡ words_text e h a ++ words_text e (run h (inputs_of e a)) (rest_of e a ++ b)
unfolding words_text
words_behind e h a b =
    let g = run h (inputs_of e a) in
    let c = rest_of e a ++ b in
    ap (λ (xs : List Input). lines_of (map word_of (ticks h xs))) (inputs_behind e a b)
    ∙ ap (λ ts. lines_of (map word_of ts)) (ticks_append h (inputs_of e a) (inputs_of e c))
    ∙ ap lines_of (map-append word_of (ticks h (inputs_of e a)) (ticks g (inputs_of e c)))
    ∙ lines_joined (map word_of (ticks h (inputs_of e a))) (map word_of (ticks g (inputs_of e c)))

-- the words of the records, as many as records, and a line of 17 bytes for each
abbrev pub words_of : Edition → Handler → List ℕ → List ℕ
words_of e h bytes = map word_of (ticks h (inputs_of e bytes))

pub length_words : (e : Edition) (h : Handler) (bytes : List ℕ) → length (words_of e h bytes) ≡ record_count e bytes
unfolding inputs_of
length_words e h bytes =
    length-map (ticks h (inputs_of e bytes)) word_of ∙ length_ticks h (inputs_of e bytes) ∙ length_each (record_count e bytes) (λ i. input_of e (record_at e bytes i))

pub length_text : (e : Edition) (h : Handler) (bytes : List ℕ) → length (words_text e h bytes) ≡ 17 * record_count e bytes
unfolding words_text
length_text e h bytes = length_lines (words_of e h bytes) ∙ ap (λ (n : ℕ). 17 * n) (length_words e h bytes)

-- bytes that hold no whole record have no words
pub no_words : (e : Edition) (h : Handler) (bytes : List ℕ) → length bytes < record_bytes e → words_text e h bytes ≡ []
unfolding words_text ticks lines_of
no_words e h bytes short = ap (λ (xs : List Input). lines_of (map word_of (ticks h xs))) (no_inputs e bytes short)

-- one turn, and the text of what is left
text_behind : (e : Edition) (h : Handler) (a b : List ℕ) → words_text e h a ++ records_text e (run h (inputs_of e a)) (rest_of e a ++ b) ≡ records_text e h (a ++ b)
unfolding records_text
text_behind e h a b =
    let c = rest_of e a ++ b in
    let g = run h (inputs_of e a) in
    sym (append_assoc (words_text e h a) (words_text e g c) (end_text (length c % record_bytes e)))
    ∙ ap₂ (λ (ws : List ℕ) (n : ℕ). ws ++ end_text n) (sym (words_behind e h a b)) (length_behind e a b)

-- with the bytes that are kept, of which there are fewer than a record has
pub turns_joined : (e : Edition) (h : Handler) (kept : List ℕ) (ps : List (List ℕ)) → length kept < record_bytes e
    → joined (turn_texts e h kept ps) ≡ records_text e h (kept ++ joined ps)
unfolding joined turn_texts records_text
turns_joined e h kept [] short =
    append-nil (end_text (length kept))
    ∙ ap₂ (λ (ws : List ℕ) (n : ℕ). ws ++ end_text n) (sym (no_words e h kept short)) (sym (mod-eq_of_lt short))
    ∙ ap (λ (xs : List ℕ). words_text e h xs ++ end_text (length xs % record_bytes e)) (sym (append-nil kept))
turns_joined e h kept (p ∷ ps) short =
    let a = kept ++ p in
    let g = run h (inputs_of e a) in
    ap (λ (t : List ℕ). words_text e h a ++ t) (turns_joined e g (rest_of e a) ps (rest_short e a))
    ∙ text_behind e h a (joined ps)
    ∙ ap (records_text e h) (append_assoc kept p (joined ps))

-- ── the whole input ──

-- behind N, which is refused or not
pub start_joined : (e : Edition) (n : ℕ) (ps : List (List ℕ)) → joined (start_texts e n ps) ≡ start_text e n (joined ps)
unfolding joined start_texts start_text
start_joined e n ps = go (takes e n)
  where
    go : (b : Bool) → joined (cond b (turn_texts e (new_handler n) [] ps) (refused_text ∷ [])) ≡ cond b (records_text e (new_handler n) (joined ps)) refused_text
    go true = turns_joined e (new_handler n) [] ps (some_bytes e)
    go false = refl

-- a first byte that is N
pub prints_other : (n : ℕ) (bytes : List ℕ) → n ≤ 252 → prints (n ∷ bytes) ≡ start_text Edition.Alerts64 n bytes
unfolding prints
prints_other n bytes l = rw (ne_eqb n 255 (λ e. omega arith), ne_eqb n 254 (λ e. omega arith), ne_eqb n 253 (λ e. omega arith))

missing_behind : (first : ℕ) → 253 ≤ first → first ≤ 255 → prints (first ∷ []) ≡ refused_text
unfolding prints behind_text
missing_behind first l m = go (ℕ_discrete first 255) (ℕ_discrete first 254)
  where
    go : Dec (first ≡ 255) → Dec (first ≡ 254) → prints (first ∷ []) ≡ refused_text
    go (yes e) d = ap (λ (k : ℕ). prints (k ∷ [])) e
    go (no e) (yes d) = ap (λ (k : ℕ). prints (k ∷ [])) d
    go (no e) (no d) = let c : first ≡ 253 = omega arith in ap (λ (k : ℕ). prints (k ∷ [])) c

pub cuts : Cuts
unfolding prints behind_text
cuts =
    record {
      missing = refl;
      missing_n = missing_behind;
      others = λ n ps l. start_joined Edition.Alerts64 n ps ∙ sym (prints_other n (joined ps) l);
      at_255 = start_joined Edition.Alerts248;
      at_254 = start_joined Edition.Pings;
      at_253 = start_joined Edition.Wires;
    }
