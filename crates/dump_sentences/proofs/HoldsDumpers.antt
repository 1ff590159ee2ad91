-- What the contracts of writer and reader and of the boundary's calls cite, `write_dump` and `content_by` of `read_dump`, satisfies the sentences; and since nothing else
-- does, whatever satisfies them is this.
-- Assumes nothing.
use Prim.Native.Nat.{ℕ, ◌+◌, ◌-◌, ◌≤◌}
use mathlib.Core.Path.{◌≡◌, sym, ap, ◌∙◌, subst}
use mathlib.Core.List.{List, [], ◌++◌}
use native.Mathlib.Omega.{arith}
use lib.IntN.{ℤ}
use lib.ListN.{get_or, length, drop, length-append, length-drop, get_or-append}
use lib.Seq.{get_or-append-add, get_or-drop}
use Rattle.dump_laws.proofs.DumpSays.{writer_says, reader_says}
use Rattle.dump_laws.proofs.Dumps.{dumps}
use Rattle.dump_rules.specs.Content.{content_by}
use Rattle.dump_rules.specs.Dump.{dump_of}
use Rattle.dump_rules.specs.Reader.{cut_start, no_dump, read_dump}
use Rattle.dump_rules.specs.Shown.{shown}
use Rattle.dump_rules.specs.Writer.{write_dump}
use Rattle.dump_rules.specs.declared.Content.{Content}
use Rattle.rules.specs.Valid.{valid}
use Rattle.rules.specs.declared.Handler.{Handler}
use Rattle.sentences.specs.Valid.{Valid}
use Rattle.sentences.proofs.HoldsValid.{holds_valid}
use Rattle.sentences.proofs.SentenceCases.{off}
use Rattle.dump_sentences.specs.Contents.{Shows, Nothing}
use Rattle.dump_sentences.specs.Dumpers.{Wrote, Writer, IsDump, IsCut, ReadIs, Reader}
use Rattle.dump_sentences.proofs.HoldsBytes.{holds_dump}
use Rattle.dump_sentences.proofs.HoldsContents.{holds_shows, holds_nothing}
use Rattle.dump_sentences.proofs.OnlyDumpers.{Bytes, are, dump_is, is_dump, only_writer, only_reader}

-- ── the writer ──

abbrev pub answered : Handler → List ℕ → ℤ
answered h buffer = (write_dump h buffer).answer

abbrev pub buffered : Handler → List ℕ → List ℕ
buffered h buffer = (write_dump h buffer).buffer

module _ (h : Handler) (buffer : List ℕ) (v : Valid h) (l : length (dump_of (shown h)) ≤ length buffer) where
  abbrev d : List ℕ
  d = dump_of (shown h)

  left_is : buffered h buffer ≡ d ++ drop (length d) buffer
  left_is = ((writer_says h buffer).written ((holds_valid h).1 v) l).1

  later_at : (i : ℕ) → length d ≤ i → get_or (buffered h buffer) i 0 ≡ get_or buffer i 0
  later_at i m =
      let e : length d + (i - length d) ≡ i = omega arith in
      ap (λ (xs : List ℕ). get_or xs i 0) left_is
      ∙ ap (λ (j : ℕ). get_or (d ++ drop (length d) buffer) j 0) (sym e)
      ∙ get_or-append-add d (drop (length d) buffer) (i - length d) 0
      ∙ get_or-drop (length d) buffer (i - length d) 0
      ∙ ap (λ (j : ℕ). get_or buffer j 0) e

  wrote : Wrote d buffer (answered h buffer) (buffered h buffer)
  wrote =
      record {
        answer = ((writer_says h buffer).written ((holds_valid h).1 v) l).0;
        bytes = λ i m. ap (λ (xs : List ℕ). get_or xs i 0) left_is ∙ get_or-append d (drop (length d) buffer) 0 i m;
        later = later_at;
        lent =
            ap length left_is ∙ length-append d (drop (length d) buffer) ∙ ap (λ (k : ℕ). length d + k) (length-drop (length d) buffer) ∙ omega (arith, l);
      }

pub holds_writer : Writer answered buffered
holds_writer =
    record {
      dump = λ h. dump_of (shown h);
      dumps = holds_dump;
      refused_7 = λ h buffer v.
          let x = (writer_says h buffer).seven (off (valid h) (holds_valid h) v) in record { answer = x.0; bytes = x.1 };
      refused_11 = λ h buffer v l.
          let x = (writer_says h buffer).eleven ((holds_valid h).1 v) l in record { answer = x.0; bytes = x.1 };
      writes = wrote;
    }

-- ── the reader ──

abbrev pub content : List ℕ → Content
content bytes = content_by (read_dump bytes)

module _ (bytes : List ℕ) (b : Bytes bytes) where
  shown_of : (h : Handler) → Valid h → bytes ≡ dump_of (shown h) → Shows h (content bytes)
  shown_of h v e = subst (λ (xs : List ℕ). Shows h (content xs)) (sym e) (holds_shows h v)

  cut_of : IsCut bytes → read_dump bytes ≡ cut_start
  cut_of c =
      let t = c.2 in
      (dumps.seventeen bytes (are bytes b)).1 (t.0, c.0, c.1, ((holds_valid t.0).1 t.1, dump_is t.0 (bytes ++ c.0) t.1 t.2))

  rest_of : ¬ IsDump bytes → ¬ IsCut bytes → read_dump bytes ≡ no_dump
  rest_of f g =
      (dumps.sixteen bytes (are bytes b)).1 (
        (λ h x. let w = is_dump h bytes x.0 x.1 in f (h, w.0, w.1)),
        (λ c. let w = is_dump c.0 (bytes ++ c.1) c.3.0 c.3.1 in g (c.1, c.2, (c.0, w.0, w.1))),
      )

  holds_read : ReadIs bytes (content bytes)
  holds_read =
      record {
        dump = λ h v x. shown_of h v (dump_is h bytes v x);
        cut = λ c. subst (Nothing 17) (sym ((reader_says bytes).cut (cut_of c))) (holds_nothing 17);
        rest = λ f g. subst (Nothing 16) (sym ((reader_says bytes).none (rest_of f g))) (holds_nothing 16);
      }

pub holds_reader : Reader content
holds_reader =
    record {
      reads = holds_read;
      no_bytes = subst (Nothing 17) (sym ((reader_says []).cut dumps.no_bytes)) (holds_nothing 17);
      one_dump = λ a b x y z e. dumps.one_form a b (are a x) (are b y) z e;
    }

-- ── both joined ──

pub is_the_writer : (answer : Handler → List ℕ → ℤ) (left : Handler → List ℕ → List ℕ) → Writer answer left → (h : Handler) (buffer : List ℕ)
    → (answer h buffer ≡ (write_dump h buffer).answer) × (left h buffer ≡ (write_dump h buffer).buffer)
is_the_writer answer left p h buffer = let x = only_writer answer answered left buffered p holds_writer h buffer in (x.answer, x.buffer)

pub is_the_reader : (read : List ℕ → Content) → Reader read → (bytes : List ℕ) → ((i : ℕ) → get_or bytes i 0 ≤ 255) → read bytes ≡ content_by (read_dump bytes)
is_the_reader read p bytes b = only_reader read content p holds_reader bytes b
