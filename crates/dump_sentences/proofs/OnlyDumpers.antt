-- No sentence of writer and reader is missing: two writers give one answer and one buffer, two readers one content of all bytes.
-- Assumes nothing.
use Prim.Native.Nat.{ℕ, ◌≤◌, ◌<◌}
use mathlib.Core.Path.{◌≡◌, refl, sym, ◌∙◌, subst}
use mathlib.Core.Bool.{true}
use mathlib.Core.List.{List, ◌++◌}
use native.Mathlib.Omega.{arith}
use native.Mathlib.Decide.{dec_lt}
use lib.IntN.{ℤ}
use lib.ListN.{get_or, length}
use lib.Seq.{ext_get_or}
use Rattle.dump_laws.proofs.Dumps.{dumps}
use Rattle.dump_rules.specs.Dump.{dump_of}
use Rattle.dump_rules.specs.Reader.{Seen, shows, cut_start, no_dump, read_dump}
use Rattle.dump_rules.specs.Shown.{shown}
use Rattle.dump_rules.specs.declared.Content.{Content}
use Rattle.formats.specs.BitList.{AreBytes}
use Rattle.formats.proofs.BitListLaws.{are_all}
use Rattle.rules.specs.Valid.{valid}
use Rattle.rules.specs.declared.Handler.{Handler}
use Rattle.sentences.specs.Valid.{Valid}
use Rattle.sentences.proofs.HoldsValid.{holds_valid}
use Rattle.trace_sentences.proofs.OnlyBatches.{dec_valid}
use Rattle.dump_sentences.specs.DumpBytes.{DumpOf}
use Rattle.dump_sentences.specs.Dumpers.{Refuses, Wrote, Writer, IsDump, IsCut, ReadIs, Reader}
use Rattle.dump_sentences.proofs.HoldsBytes.{holds_dump}
use Rattle.dump_sentences.proofs.OnlyBytes.{same_bytes}
use Rattle.dump_sentences.proofs.OnlyContents.{same_shows, same_nothing}

-- ── the writer ──

pub record SameWritten (a b : ℤ) (left kept : List ℕ) : Type 0 where
  pub answer : a ≡ b
  pub buffer : left ≡ kept

same_refuses : (m : ℕ) (buffer : List ℕ) (a b : ℤ) (left kept : List ℕ) → Refuses m buffer a left → Refuses m buffer b kept → SameWritten a b left kept
same_refuses m buffer a b left kept x y = record { answer = x.answer ∙ sym y.answer; buffer = x.bytes ∙ sym y.bytes }

same_wrote : (dump buffer : List ℕ) (a b : ℤ) (left kept : List ℕ) → Wrote dump buffer a left → Wrote dump buffer b kept → SameWritten a b left kept
same_wrote dump buffer a b left kept x y =
    record { answer = x.answer ∙ sym y.answer; buffer = ext_get_or 0 left kept (x.lent ∙ sym y.lent) (λ i l. go i (dec_lt i (length dump))) }
  where
    go : (i : ℕ) → Dec (i < length dump) → get_or left i 0 ≡ get_or kept i 0
    go i (yes l) = x.bytes i l ∙ sym (y.bytes i l)
    go i (no l) = let m : length dump ≤ i = omega arith in x.later i m ∙ sym (y.later i m)

module _ (answer reply : Handler → List ℕ → ℤ) (left kept : Handler → List ℕ → List ℕ) (p : Writer answer left) (q : Writer reply kept) where
  same_dump : (h : Handler) → Valid h → p.dump h ≡ q.dump h
  same_dump h v = same_bytes h v.n (p.dump h) (q.dump h) (p.dumps h v) (q.dumps h v)

  pub only_writer : (h : Handler) (buffer : List ℕ) → SameWritten (answer h buffer) (reply h buffer) (left h buffer) (kept h buffer)
  only_writer h buffer = go (dec_valid h) (dec_lt (length buffer) (length (p.dump h)))
    where
      go : Dec (Valid h) → Dec (length buffer < length (p.dump h)) → SameWritten (answer h buffer) (reply h buffer) (left h buffer) (kept h buffer)
      go (no v) l = same_refuses 7 buffer _ _ _ _ (p.refused_7 h buffer v) (q.refused_7 h buffer v)
      go (yes v) (yes l) =
          same_refuses 11 buffer _ _ _ _ (p.refused_11 h buffer v l)
          (q.refused_11 h buffer v (subst (λ (d : List ℕ). length buffer < length d) (same_dump h v) l))
      go (yes v) (no l) =
          let m : length (p.dump h) ≤ length buffer = omega arith in
          same_wrote (p.dump h) buffer _ _ _ _ (p.writes h buffer v m)
          (subst (λ (d : List ℕ). Wrote d buffer (reply h buffer) (kept h buffer)) (sym (same_dump h v))
          (q.writes h buffer v (subst (λ (d : List ℕ). length d ≤ length buffer) (same_dump h v) m)))

-- ── the reader ──

abbrev pub Bytes : List ℕ → Type 0
Bytes bytes = (i : ℕ) → get_or bytes i 0 ≤ 255

pub are : (bytes : List ℕ) → Bytes bytes → AreBytes bytes
are bytes b = are_all bytes (λ i. let l : get_or bytes i 0 ≤ 255 = b i in omega arith)

-- a dump by the sentences is a dump by the rules, and back
pub dump_is : (h : Handler) (bytes : List ℕ) → Valid h → DumpOf h bytes → bytes ≡ dump_of (shown h)
dump_is h bytes v d = same_bytes h v.n bytes (dump_of (shown h)) d (holds_dump h v)

pub is_dump : (h : Handler) (bytes : List ℕ) → valid h ≡ true → bytes ≡ dump_of (shown h) → Valid h × DumpOf h bytes
is_dump h bytes v e = let w = (holds_valid h).0 v in (w, subst (DumpOf h) (sym e) (holds_dump h w))

-- what bytes are: a dump, the start of one, or neither
pub data Kind (bytes : List ℕ) : Type 0 where
  a_dump : IsDump bytes → Kind bytes
  a_start : IsCut bytes → Kind bytes
  neither : ¬ IsDump bytes → ¬ IsCut bytes → Kind bytes

pub kind_of : (bytes : List ℕ) → Bytes bytes → Kind bytes
kind_of bytes b = go (read_dump bytes) refl
  where
    x : AreBytes bytes
    x = are bytes b

    go : (s : Seen) → read_dump bytes ≡ s → Kind bytes
    go (shows s) e =
        let d = (dumps.accepts bytes s x).0 e in
        let w = is_dump d.0 bytes d.1.0 d.1.1 in
        a_dump (d.0, w.0, w.1)
    go cut_start e =
        let d = (dumps.seventeen bytes x).0 e in
        let w = is_dump d.0 (bytes ++ d.1) d.3.0 d.3.1 in
        a_start (d.1, d.2, (d.0, w.0, w.1))
    go no_dump e =
        let d = (dumps.sixteen bytes x).0 e in
        neither (λ i. d.0 i.0 ((holds_valid i.0).1 i.1, dump_is i.0 bytes i.1 i.2))
        (λ i. let t = i.2 in d.1 (t.0, i.0, i.1, ((holds_valid t.0).1 t.1, dump_is t.0 (bytes ++ i.0) t.1 t.2)))

pub only_reader : (f g : List ℕ → Content) → Reader f → Reader g → (bytes : List ℕ) → Bytes bytes → f bytes ≡ g bytes
only_reader f g p q bytes b = go (kind_of bytes b)
  where
    x : ReadIs bytes (f bytes)
    x = p.reads bytes b

    y : ReadIs bytes (g bytes)
    y = q.reads bytes b

    go : Kind bytes → f bytes ≡ g bytes
    go (a_dump d) = same_shows d.0 d.1 (f bytes) (g bytes) (x.dump d.0 d.1 d.2) (y.dump d.0 d.1 d.2)
    go (a_start d) = same_nothing 17 (f bytes) (g bytes) (x.cut d) (y.cut d)
    go (neither d e) = same_nothing 16 (f bytes) (g bytes) (x.rest d e) (y.rest d e)
