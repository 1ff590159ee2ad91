-- The reader gives what is claimed, for any bytes, and nothing else does.
-- Assumes nothing.
use Prim.Native.Nat.{ℕ, suc, ◌+◌, ◌-◌, ◌*◌, ◌/◌, ◌<◌}
use mathlib.Core.Path.{◌≡◌, refl, sym, ap, ap₂, ◌∙◌}
use mathlib.Core.Logic.{◌≢◌, ◌↔◌}
use mathlib.Core.Bool.{Bool, true, false, false≢true}
use mathlib.Core.List.{List, [], ◌∷◌, ◌++◌, append-nil}
use native.Mathlib.Omega.{arith}
use lib.ListN.{length, length-append}
use Rattle.formats.specs.BitList.{AreBytes, none, one, bits_of_bytes, bytes_of_bits}
use Rattle.formats.specs.Format.{Outcome, got, cut, wrong}
use Rattle.formats.proofs.BitListLaws.{bits_append, length_bits_of_bytes, length_bytes_of_bits, bytes_back, bits_back, are_bytes}
use Rattle.dump_rules.specs.Shown.{Shown, WellShown}
use Rattle.dump_rules.specs.Dump.{dump_bits, dump_of}
use Rattle.dump_rules.specs.Reader.{IsDump, IsCut, Seen, shows, cut_start, no_dump, Reads, dump_format, seen, read_dump}
use Rattle.dump_rules.proofs.LawfulDump.{dump_lawful}
use Rattle.dump_rules.proofs.GoodDump.{well_good, good_well}
use Rattle.dump_rules.proofs.DumpBits.{dump_length, format_bits, bits_length}

bytes_append : (xs ys : List ℕ) → AreBytes xs → AreBytes ys → AreBytes (xs ++ ys)
bytes_append [] ys none g = g
bytes_append (x ∷ xs) ys (one h f) g = one h (bytes_append xs ys f g)

-- ── a dump's bytes and its bits ──

abbrev size : Shown → ℕ
size s = dump_length (length s.causes) (length s.locks) (length s.stages)

whole : (s : Shown) → WellShown s → length (dump_bits s) / 8 ≡ size s
whole s w = let e : length (dump_bits s) ≡ 8 * size s = bits_length s w in omega arith

pub dump_length_law : (s : Shown) → WellShown s → length (dump_of s) ≡ size s
unfolding dump_of
dump_length_law s w = length_bytes_of_bits (length (dump_bits s) / 8) (dump_bits s) ∙ whole s w

pub bits_of_dump : (s : Shown) → WellShown s → bits_of_bytes (dump_of s) ≡ dump_format.bits s
unfolding dump_of
bits_of_dump s w =
    let e : length (dump_bits s) ≡ 8 * (length (dump_bits s) / 8) = let d : length (dump_bits s) ≡ 8 * size s = bits_length s w in omega arith in
    bits_back (length (dump_bits s) / 8) (dump_bits s) e ∙ sym (format_bits s w)

pub dump_bytes : (s : Shown) → AreBytes (dump_of s)
unfolding dump_of
dump_bytes s = are_bytes (length (dump_bits s) / 8) (dump_bits s)

-- bytes with the bits of a dump are the dump
bytes_of_dump : (s : Shown) → WellShown s → (bytes : List ℕ) → AreBytes bytes → bits_of_bytes bytes ≡ dump_format.bits s → bytes ≡ dump_of s
unfolding dump_of
bytes_of_dump s w bytes b e =
    let f : bits_of_bytes bytes ≡ dump_bits s = e ∙ format_bits s w in
    let l : 8 * length bytes ≡ length (dump_bits s) = sym (length_bits_of_bytes bytes) ∙ ap length f in
    let k : length bytes ≡ length (dump_bits s) / 8 = omega arith in
    sym (bytes_back bytes b) ∙ ap₂ bytes_of_bits k f

-- ── what is seen ──

abbrev content_or : Shown → Seen → Shown
content_or d (shows s) = s
content_or d cut_start = d
content_or d no_dump = d

abbrev is_shown : Seen → Bool
is_shown (shows s) = true
is_shown cut_start = false
is_shown no_dump = false

abbrev is_cut_start : Seen → Bool
is_cut_start (shows s) = false
is_cut_start cut_start = true
is_cut_start no_dump = false

seen_shows : (o : Outcome Shown) (s : Shown) → seen o ≡ shows s → o ≡ got s []
seen_shows (got t []) s e = ap (λ (x : Shown). got x []) (ap (content_or t) e)
seen_shows (got t (b ∷ bs)) s e = absurd (false≢true (ap is_shown e))
seen_shows cut s e = absurd (false≢true (ap is_shown e))
seen_shows wrong s e = absurd (false≢true (ap is_shown e))

seen_cut : (o : Outcome Shown) → seen o ≡ cut_start → o ≡ cut
seen_cut (got t []) e = absurd (false≢true (ap is_cut_start e))
seen_cut (got t (b ∷ bs)) e = absurd (false≢true (ap is_cut_start e))
seen_cut cut e = refl
seen_cut wrong e = absurd (false≢true (ap is_cut_start e))

-- ── the round trip, and that a content has one dump ──

pub read_back : (s : Shown) → WellShown s → read_dump (dump_of s) ≡ shows s
unfolding read_dump
read_back s w =
    ap (λ (bs : List Bool). seen (dump_format.read bs)) (bits_of_dump s w ∙ sym (append-nil (dump_format.bits s)))
    ∙ ap seen (dump_lawful.back s [] (well_good s w))

pub one_dump : (bytes : List ℕ) → AreBytes bytes → (s : Shown) → read_dump bytes ≡ shows s → IsDump bytes s
unfolding read_dump
one_dump bytes b s e =
    let x = dump_lawful.only (bits_of_bytes bytes) s [] (seen_shows (dump_format.read (bits_of_bytes bytes)) s e) in
    let w : WellShown s = good_well s x.0 in
    (w, bytes_of_dump s w bytes b (x.1 ∙ append-nil (dump_format.bits s)))

-- ── 17: a start of a dump, and nothing else ──

bits_some : (rest : List ℕ) → rest ≢ [] → bits_of_bytes rest ≢ []
bits_some [] h e = h refl
bits_some (x ∷ xs) h e = let l : 8 * suc (length xs) ≡ 0 = sym (length_bits_of_bytes (x ∷ xs)) ∙ ap length e in omega arith

pub start_cut : (bytes : List ℕ) → IsCut bytes → read_dump bytes ≡ cut_start
unfolding read_dump
start_cut bytes c =
    let s : Shown = c.0 in
    let w : WellShown s = c.3.0 in
    let e : bits_of_bytes bytes ++ bits_of_bytes c.1 ≡ dump_format.bits s = sym (bits_append bytes c.1) ∙ ap bits_of_bytes c.3.1 ∙ bits_of_dump s w in
    ap seen (dump_lawful.start (bits_of_bytes bytes) s (bits_of_bytes c.1) (well_good s w) (bits_some c.1 c.2) e)

some_length : (bs : List Bool) → bs ≢ [] → 0 < length bs
some_length [] h = absurd (h refl)
some_length (b ∷ bs) h = omega arith

pub cut_start_law : (bytes : List ℕ) → AreBytes bytes → read_dump bytes ≡ cut_start → IsCut bytes
unfolding read_dump
cut_start_law bytes b e =
    let x = dump_lawful.more (bits_of_bytes bytes) (seen_cut (dump_format.read (bits_of_bytes bytes)) e) in
    let s : Shown = x.0 in
    let more : List Bool = x.1 in
    let w : WellShown s = good_well s x.2 in
    let l : length (bits_of_bytes bytes) + length more ≡ 8 * size s =
    sym (length-append (bits_of_bytes bytes) more) ∙ ap length (x.4 ∙ format_bits s w) ∙ bits_length s w in
    let k : length (bits_of_bytes bytes) ≡ 8 * length bytes = length_bits_of_bytes bytes in
    let p : 0 < length more = some_length more x.3 in
    let m : ℕ = size s - length bytes in
    let j : length more ≡ 8 * m = omega arith in
    let rest : List ℕ = bytes_of_bits m more in
    let r : rest ≢ [] = λ (z : rest ≡ []). let y : m ≡ 0 = sym (length_bytes_of_bits m more) ∙ ap length z in absurd (omega arith) in
    let f : bits_of_bytes (bytes ++ rest) ≡ dump_format.bits s = bits_append bytes rest ∙ ap (λ (t : List Bool). bits_of_bytes bytes ++ t) (bits_back m more j) ∙ x.4 in
    (s, rest, r, (w, bytes_of_dump s w (bytes ++ rest) (bytes_append bytes rest b (are_bytes m more)) f))

-- ── the claim ──

module _ (bytes : List ℕ) (b : AreBytes bytes) where
  content : (s : Shown) → (read_dump bytes ≡ shows s) ↔ IsDump bytes s
  content s = (one_dump bytes b s, (λ d. ap read_dump d.1 ∙ read_back s d.0))

  sixteen : (read_dump bytes ≡ no_dump) ↔ (((s : Shown) → ¬ IsDump bytes s) × ¬ IsCut bytes)
  sixteen = (
    (λ e. ((λ s d. false≢true (ap is_shown (sym e ∙ (content s).1 d))), (λ c. false≢true (ap is_cut_start (sym e ∙ start_cut bytes c))))),
    (λ h. go (read_dump bytes) refl h),
  )
    where
      go : (o : Seen) → read_dump bytes ≡ o → ((s : Shown) → ¬ IsDump bytes s) × ¬ IsCut bytes → o ≡ no_dump
      go (shows s) e h = absurd (h.0 s (one_dump bytes b s e))
      go cut_start e h = absurd (h.1 (cut_start_law bytes b e))
      go no_dump e h = refl

  pub reads : Reads bytes (read_dump bytes)
  reads = record { content = content; seventeen = (cut_start_law bytes b, start_cut bytes); sixteen = sixteen }

  -- nothing else gives what is claimed
  pub reads_only : (r : Seen) → Reads bytes r → r ≡ read_dump bytes
  reads_only (shows s) h = sym ((content s).1 ((h.content s).0 refl))
  reads_only cut_start h = sym (start_cut bytes (h.seventeen.0 refl))
  reads_only no_dump h = sym (sixteen.1 (h.sixteen.0 refl))
