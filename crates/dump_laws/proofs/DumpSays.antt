-- Request (xiv): the writer, the reader's refusals and what a state shows are as their sentences say.
-- Assumes nothing.
use Prim.Native.Nat.{ℕ, ◌-◌}
use mathlib.Core.Path.{◌≡◌, refl, ap, ap₂}
use mathlib.Core.Bool.{Bool, true, false, cond}
use mathlib.Core.List.{List, map}
use borrow.Author.Tests.{lt-ltb, le-ltb}
use lib.Dec.{ltb}
use lib.ListN.{length}
use Rattle.bits.specs.Index.{each_from}
use Rattle.dump_rules.specs.Content.{content_by}
use Rattle.dump_rules.specs.Dump.{dump_of}
use Rattle.dump_rules.specs.Shown.{shown}
use Rattle.dump_rules.specs.Writer.{Dumped, unwritten, written, write_dump}
use Rattle.dump_rules.specs.declared.Unwritten.TheVariants.{BadState, ShortBuffer}
use Rattle.rules.specs.Access.{value}
use Rattle.rules.specs.Map.{decode}
use Rattle.rules.specs.Valid.{valid}
use Rattle.rules.specs.declared.Handler.{Handler}
use Rattle.dump_laws.specs.DumpSays.{WriterSays, ReaderSays, StateShows}
use Rattle.dump_laws.proofs.Dumps.{dumps}

module _ (h : Handler) (buffer : List ℕ) where
  by : (a b : Bool) → valid h ≡ a → ltb (length buffer) (length (dump_of (shown h))) ≡ b
      → write_dump h buffer ≡ cond a (cond b (unwritten ShortBuffer buffer) (written (dump_of (shown h)) buffer)) (unwritten BadState buffer)
  unfolding write_dump
  by a b x y =
      ap₂ (λ (p q : Bool). cond p (cond q (unwritten ShortBuffer buffer) (written (dump_of (shown h)) buffer)) (unwritten BadState buffer)) x y

  pub writer_says : WriterSays h buffer
  writer_says =
      record {
        seven =
            λ v. let e = by false (ltb (length buffer) (length (dump_of (shown h)))) v refl in (ap (λ (d : Dumped). d.answer) e, ap (λ (d : Dumped). d.buffer) e);
        eleven =
            λ v l. let e = by true true v (lt-ltb (length buffer) (length (dump_of (shown h))) l) in
            (ap (λ (d : Dumped). d.answer) e, ap (λ (d : Dumped). d.buffer) e);
        written =
            λ v l. let e = by true false v (le-ltb (length buffer) (length (dump_of (shown h))) l) in
            (ap (λ (d : Dumped). d.answer) e, ap (λ (d : Dumped). d.buffer) e);
      }

pub reader_says : (bytes : List ℕ) → ReaderSays bytes
unfolding content_by
reader_says bytes = record { cut = λ e. ap content_by e; none = λ e. ap content_by e }

pub state_shows : (h : Handler) → StateShows h
unfolding shown each_from
state_shows h =
    record {
      n = refl;
      classes = refl;
      causes = λ l. ap (map (λ r. value h (decode h.n r))) (dumps.listed h.n l).causes;
      locks = λ l. ap (map (λ r. 1 - value h (decode h.n r))) (dumps.listed h.n l).locks;
    }
