-- The request's sentences hold.
-- Assumes nothing.
use Prim.Native.Nat.{ℕ, ◌≤◌}
use mathlib.Core.Path.{◌≡◌, refl, sym, ap, ◌∙◌, subst}
use mathlib.Core.Bool.{Bool, true, false, false≢true}
use mathlib.Core.List.{List, [], ◌∷◌, ◌++◌}
use borrow.Author.Tests.{le-ltb}
use lib.IntN.{ℤ, pos, negsuc}
use lib.ListN.{length, take, drop}
use Rattle.dump_rules.specs.Content.{given, content_by}
use Rattle.dump_rules.specs.Dump.{dump_of}
use Rattle.dump_rules.specs.Reader.{Seen, shows, cut_start, no_dump, IsDump, IsCut, read_dump}
use Rattle.dump_rules.specs.Shown.{Shown, shown}
use Rattle.dump_rules.specs.Writer.{Dumped, written, write_dump}
use Rattle.dump_rules.specs.declared.Content.{Content}
use Rattle.dump_rules.proofs.Examples.{no_bytes}
use Rattle.dump_rules.proofs.ReaderLaws.{one_dump, reads}
use Rattle.dump_rules.proofs.ShownLaws.{shown_well, dump_back}
use Rattle.formats.specs.BitList.{AreBytes}
use Rattle.rules.specs.Valid.{valid}
use Rattle.rules.specs.declared.Handler.{Handler}
use Rattle.dump_laws.specs.Claims.{IsDumpOf, IsCutStart, Tells, Dumps}
use Rattle.dump_laws.specs.Holding.{holding}
use Rattle.dump_laws.proofs.Agreeing.{told, agreed, shown_same}
use Rattle.dump_laws.proofs.Holds.{holding_valid, holding_shown}
use Rattle.dump_laws.proofs.Listed.{listed}
use Rattle.dump_laws.proofs.Longest.{longest}
use Rattle.dump_laws.proofs.Told.{shown_by, told_back}

-- ── dumps of contents are dumps of states ──

state_of : (bytes : List ℕ) (s : Shown) → IsDump bytes s → (h : Handler) × IsDumpOf bytes h × (shown h ≡ s)
state_of bytes s d =
    (holding s, (holding_valid s d.0, d.1 ∙ ap dump_of (sym (holding_shown s d.0))), holding_shown s d.0)

of_state : (bytes : List ℕ) (h : Handler) → IsDumpOf bytes h → IsDump bytes (shown h)
of_state bytes h d = (shown_well h d.0, d.1)

cut_of : (bytes : List ℕ) → IsCut bytes → IsCutStart bytes
cut_of bytes c = let x = state_of (bytes ++ c.1) c.0 c.3 in (x.0, c.1, c.2, x.1)

of_cut : (bytes : List ℕ) → IsCutStart bytes → IsCut bytes
of_cut bytes c = (shown c.0, c.1, c.2, of_state (bytes ++ c.1) c.0 c.3)

-- ── contents that callers get ──

abbrev is_zero : ℤ → Bool
is_zero (pos n) = true
is_zero (negsuc n) = false

-- an answer of 0 is that of a dump
told_of : (r : Seen) → (content_by r).answer ≡ pos 0 → (s : Shown) × (r ≡ shows s)
unfolding content_by
told_of (shows s) e = (s, refl)
told_of cut_start e = absurd (false≢true (ap is_zero e))
told_of no_dump e = absurd (false≢true (ap is_zero e))

one_form : (a b : List ℕ) → AreBytes a → AreBytes b → (content_by (read_dump a)).answer ≡ pos 0 → content_by (read_dump a) ≡ content_by (read_dump b) → a ≡ b
unfolding content_by
one_form a b x y z e =
    let s = told_of (read_dump a) z in
    let t = told_of (read_dump b) (sym (ap (λ (c : Content). c.answer) e) ∙ z) in
    let d = one_dump a x s.0 s.1 in
    let f = one_dump b y t.0 t.1 in
    let g : given s.0 ≡ given t.0 = ap content_by (sym s.1) ∙ e ∙ ap content_by t.1 in
    let u : s.0 ≡ t.0 = sym (told_back s.0 d.0) ∙ ap shown_by g ∙ told_back t.0 f.0 in
    d.1 ∙ ap dump_of u ∙ sym f.1

tells : (h : Handler) → valid h ≡ true → Tells h (content_by (read_dump (dump_of (shown h))))
unfolding content_by
tells h v = subst (λ (r : Seen). Tells h (content_by r)) (sym (dump_back h v)) (told h)

-- ── the writer ──

take_first : (xs ys : List ℕ) → take (length xs) (xs ++ ys) ≡ xs
take_first [] ys = refl
take_first (x ∷ xs) ys = ap (λ (l : List ℕ). x ∷ l) (take_first xs ys)

writes : (h : Handler) (buffer : List ℕ) → valid h ≡ true → length (dump_of (shown h)) ≤ length buffer
    → ((write_dump h buffer).answer ≡ pos (length (dump_of (shown h)))) × (take (length (dump_of (shown h))) (write_dump h buffer).buffer ≡ dump_of (shown h))
unfolding write_dump
writes h buffer v l = (
  ap (λ (w : Dumped). w.answer) judged,
  ap (λ (w : Dumped). take (length (dump_of (shown h))) w.buffer) judged ∙ take_first (dump_of (shown h)) (drop (length (dump_of (shown h))) buffer),
)
  where
    judged : write_dump h buffer ≡ written (dump_of (shown h)) buffer
    judged = rw (v, le-ltb (length buffer) (length (dump_of (shown h))) l) refl

-- ── the whole ──

content_of : Shown → Seen → Shown
content_of d (shows s) = s
content_of d cut_start = d
content_of d no_dump = d

same_shown : (g h : Handler) → valid g ≡ true → valid h ≡ true → dump_of (shown g) ≡ dump_of (shown h) → shown g ≡ shown h
unfolding content_of
same_shown g h v w e = ap (content_of (shown g)) (sym (dump_back g v) ∙ ap read_dump e ∙ dump_back h w)

pub dumps : Dumps
dumps =
    record {
      listed = listed;
      longest = longest;
      read_back = dump_back;
      tells = tells;
      one_dump = λ a b s x y d e. (one_dump a x s d).1 ∙ sym (one_dump b y s e).1;
      one_form = one_form;
      accepts = λ bytes s x. (
        (λ d. state_of bytes s (one_dump bytes x s d)),
        (λ h. ((reads bytes x).content s).1 (subst (λ (t : Shown). IsDump bytes t) h.2 (of_state bytes h.0 h.1))),
      );
      writes = writes;
      seventeen = λ bytes x. ((λ d. cut_of bytes ((reads bytes x).seventeen.0 d)), (λ c. (reads bytes x).seventeen.1 (of_cut bytes c)));
      no_bytes = no_bytes;
      sixteen = λ bytes x. (
        (λ d. let n = (reads bytes x).sixteen.0 d in ((λ h e. n.0 (shown h) (of_state bytes h e)), (λ c. n.1 (of_cut bytes c)))),
        (λ n. (reads bytes x).sixteen.1 ((λ s d. let h = state_of bytes s d in n.0 h.0 h.1), (λ c. n.1 (cut_of bytes c)))),
      );
      agree = λ g h v w. ((λ e. agreed g h v w (same_shown g h v w e)), (λ a. ap dump_of (shown_same g h a)));
    }
