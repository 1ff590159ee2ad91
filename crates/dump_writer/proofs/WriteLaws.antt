-- The parts of a dump, written one behind the other, are the dump.
-- Assumes nothing.
use Prim.Native.Nat.{ℕ, ◌+◌, ◌-◌, ◌*◌, ◌/◌, ◌%◌, ◌≤◌, ◌<◌}
use mathlib.Core.Path.{◌≡◌, refl, sym, ap, ap₂, ◌∙◌, subst}
use mathlib.Core.Bool.{Bool, true, false}
use mathlib.Core.List.{List, [], ◌∷◌, ◌++◌, map}
use native.Mathlib.Omega.{arith}
use borrow.Author.Tests.{lt-ltb, le-ltb}
use native.Mathlib.Nat.{mod-lt}
use lib.IntN.{ℤ, pos, neg_ℤ}
use lib.Pow.{pow_pos}
use lib.ListN.{length, drop, length-append, length-map}
use Rattle.bits.specs.Bits.{bit}
use Rattle.bits.specs.Index.{each_from}
use Rattle.formats.specs.BitList.{bit_list, number_of, bits_of_bytes, bytes_of_bits}
use Rattle.formats.specs.Format.{flat}
use Rattle.formats.proofs.BitListLaws.{length_bits, length_bytes_of_bits}
use Rattle.formats.proofs.FormatLaws.{flat_length}
use Rattle.rules.specs.Map.{decode, is_lock}
use Rattle.rules.specs.Stages.{stage, is_open}
use Rattle.rules.specs.Valid.{valid}
use Rattle.dump_rules.specs.Writer.{Dumped, unwritten_number, write_dump, WroteDump}
use Rattle.dump_rules.specs.declared.Unwritten.TheVariants.{BadState, ShortBuffer}
use Rattle.rules.specs.declared.Handler.{Handler}
use Rattle.dump_rules.specs.Shown.{WellShown, ShownStage, picks, limit, is_cause, shown}
use Rattle.dump_rules.specs.Dump.{mark, class_bits, stage_bits, to_full, head_bits, dump_bits, dump_of}
use Rattle.dump_rules.proofs.PickLaws.{many_le}
use Rattle.dump_rules.proofs.DumpBits.{bits_length, class_length}
use Rattle.dump_rules.proofs.ReaderLaws.{dump_length_law}
use Rattle.dump_rules.proofs.ShownLaws.{shown_well}
use Rattle.dump_map.specs.Kinds.{has_kind}
use Rattle.dump_writer.specs.Fields.{flag_of, shown_classes}
use Rattle.dump_writer.specs.Puts.{Wrote, Puts}
use Rattle.dump_writer.specs.Written.{Sized}
use Rattle.dump_writer.specs.declared.put.Pen.{Pen}
use Rattle.dump_writer.proofs.PutLaws.{puts_then}
use Rattle.class_rules.specs.declared.Class.{Class}
use Rattle.dump_rules.specs.Reader.{cause_count, lock_count}
use Rattle.dump_map.specs.declared.Kind.{Kind}

-- ── the pen ──

pub mark_bits : bit_list 32 1413762384 ≡ bits_of_bytes mark
unfolding bits_of_bytes bit_list bit
mark_bits = refl

start : (out : List ℕ) → Wrote out [] out 0
unfolding bytes_of_bits number_of
start out = record { count = 0; full = []; pending = []; all = refl; whole = refl; less = omega arith; stored = refl; waits = refl }

all_written : (bits : List Bool) (p q : Pen) → p.at ≡ 0 → p.wait ≡ 0 → Puts bits p q → Wrote p.out.now bits q.out.now q.wait
all_written bits p q a b f = f.written p.out.now [] (subst (λ (x : ℕ). Wrote p.out.now [] p.out.now x) (sym b) (start p.out.now)) (sym a)

pub classes_place : (cs : List Class) (p q : Pen) → Puts (flat class_bits (shown_classes cs)) p q → (q.at ≡ p.at + 204) × (length q.out.now ≡ length p.out.now)
unfolding each_from
classes_place cs p q f = (f.place ∙ ap (λ (x : ℕ). p.at + x) (flat_length class_bits 51 class_length (shown_classes cs)), f.room)

pub flags_place : (f : ℕ → ℕ) (xs : List ℕ) (p q : Pen) → Puts (flat (bit_list 1) (map f xs)) p q → (q.at ≡ p.at + length xs) × (length q.out.now ≡ length p.out.now)
flags_place f xs p q g =
    let n : length (flat (bit_list 1) (map f xs)) ≡ 1 * length (map f xs) = flat_length (bit_list 1) 1 (length_bits 1) (map f xs) in
    let m : length (map f xs) ≡ length xs = length-map xs f in
    (omega (arith, g.place), g.room)

-- what is written of whole bytes
no_bits : (xs : List Bool) → length xs ≡ 0 → xs ≡ []
no_bits [] h = refl
no_bits (x ∷ xs) h = absurd (omega arith)

right_nil : (xs : List Bool) → xs ++ [] ≡ xs
right_nil [] = refl
right_nil (x ∷ xs) = ap (λ (l : List Bool). x ∷ l) (right_nil xs)

pub wrote_whole : (o : List ℕ) (bits : List Bool) (out : List ℕ) (wait size : ℕ) → Wrote o bits out wait → length bits ≡ 8 * size → out ≡ bytes_of_bits size bits ++ drop size o
wrote_whole o bits out wait size w e =
    let n : length bits ≡ length w.full + length w.pending = ap length w.all ∙ length-append w.full w.pending in
    let p : length w.pending ≡ 0 = omega (arith, w.whole, w.less) in
    let c : w.count ≡ size = omega (arith, w.whole) in
    let f : w.full ≡ bits = sym (right_nil w.full) ∙ ap (λ (l : List Bool). w.full ++ l) (sym (no_bits w.pending p)) ∙ sym w.all in
    w.stored ∙ ap₂ (λ (k : ℕ) (l : List Bool). bytes_of_bits k l ++ drop k o) c f

module _ (h : Handler) (v : valid h ≡ true) where
  abbrev well : WellShown (shown h)
  well = shown_well h v

  pub dump_is : (o out : List ℕ) (wait : ℕ) → Wrote o (dump_bits (shown h)) out wait → out ≡ dump_of (shown h) ++ drop (length (dump_of (shown h))) o
  unfolding dump_of
  dump_is o out wait w =
      let n : length (dump_bits (shown h)) ≡ 8 * (length (dump_bits (shown h)) / 8) = let e = bits_length (shown h) well in omega (arith, e) in
      wrote_whole o (dump_bits (shown h)) out wait (length (dump_bits (shown h)) / 8) w n
      ∙ ap (λ (k : ℕ). bytes_of_bits (length (dump_bits (shown h)) / 8) (dump_bits (shown h)) ++ drop k o) (sym (length_bytes_of_bits (length (dump_bits (shown h)) / 8) (dump_bits (shown h))))

module _ (h : Handler) where
  abbrev causes : List ℕ
  causes = map (λ r. flag_of Kind.Cause h (decode h.n r)) (picks (λ r. has_kind Kind.Cause (decode h.n r)) 0 limit)

  abbrev locks : List ℕ
  locks = map (λ r. flag_of Kind.Lock h (decode h.n r)) (picks (λ r. has_kind Kind.Lock (decode h.n r)) 0 limit)

  abbrev stages : List ShownStage
  stages = map (λ r. record { register = r; value = stage h (decode h.n r) - 1 }) (picks (λ r. is_open h.stages (decode h.n r)) 0 limit)

  many_causes : length causes ≡ cause_count h.n
  many_causes = length-map (picks (λ r. has_kind Kind.Cause (decode h.n r)) 0 limit) (λ r. flag_of Kind.Cause h (decode h.n r))

  many_locks : length locks ≡ lock_count h.n
  many_locks = length-map (picks (λ r. has_kind Kind.Lock (decode h.n r)) 0 limit) (λ r. flag_of Kind.Lock h (decode h.n r))

  many_stages : length stages ≡ length (picks (λ r. is_open h.stages (decode h.n r)) 0 limit)
  many_stages = length-map (picks (λ r. is_open h.stages (decode h.n r)) 0 limit) (λ r. record { register = r; value = stage h (decode h.n r) - 1 })

  pub dump_put : valid h ≡ true → (room z k : ℕ) → Sized h room z k → (p0 p1 p2 p3 p4 p5 p6 p7 p8 : Pen) → p0.at ≡ 0 → p0.wait ≡ 0
      → Puts (bit_list 32 1413762384) p0 p1 → Puts (bit_list 8 h.n) p1 p2 → Puts (flat class_bits (shown_classes h.classes)) p2 p3
      → Puts (flat (bit_list 1) causes) p3 p4 → Puts (flat (bit_list 1) locks) p4 p5 → Puts (bit_list z 0) p5 p6 → Puts (bit_list 16 k) p6 p7
      → Puts (flat stage_bits stages) p7 p8 → (p8.out.ghost_name ≡ p0.out.ghost_name) × (p8.out.now ≡ dump_of (shown h) ++ drop (length (dump_of (shown h))) p0.out.now)
  unfolding dump_bits shown
  dump_put v room z k sz p0 p1 p2 p3 p4 p5 p6 p7 p8 a w f1 f2 f3 f4 f5 f6 f7 f8 =
      let b0 : List Bool = bit_list 32 1413762384 in
      let b1 : List Bool = bit_list 8 h.n in
      let b2 : List Bool = flat class_bits (shown_classes h.classes) in
      let b3 : List Bool = flat (bit_list 1) causes in
      let b4 : List Bool = flat (bit_list 1) locks in
      let b5 : List Bool = bit_list z 0 in
      let b6 : List Bool = bit_list 16 k in
      let b7 : List Bool = flat stage_bits stages in
      let g6 = puts_then b6 b7 p6 p7 p8 f7 f8 in
      let g5 = puts_then b5 (b6 ++ b7) p5 p6 p8 f6 g6 in
      let g4 = puts_then b4 (b5 ++ (b6 ++ b7)) p4 p5 p8 f5 g5 in
      let g3 = puts_then b3 (b4 ++ (b5 ++ (b6 ++ b7))) p3 p4 p8 f4 g4 in
      let g2 = puts_then b2 (b3 ++ (b4 ++ (b5 ++ (b6 ++ b7)))) p2 p3 p8 f3 g3 in
      let g1 = puts_then b1 (b2 ++ (b3 ++ (b4 ++ (b5 ++ (b6 ++ b7))))) p1 p2 p8 f2 g2 in
      let g0 = puts_then b0 (b1 ++ (b2 ++ (b3 ++ (b4 ++ (b5 ++ (b6 ++ b7)))))) p0 p1 p8 f1 g1 in (
        g0.lent,
        dump_is h v p0.out.now p8.out.now p8.wait
            (subst (λ (bits : List Bool). Wrote p0.out.now bits p8.out.now p8.wait) same
            (all_written (b0 ++ (b1 ++ (b2 ++ (b3 ++ (b4 ++ (b5 ++ (b6 ++ b7))))))) p0 p8 a w g0)),
      )
    where
      same : bit_list 32 1413762384 ++ (bit_list 8 h.n ++ (flat class_bits (shown_classes h.classes) ++ (flat (bit_list 1) causes ++ (flat (bit_list 1) locks ++ (bit_list z 0 ++ (bit_list 16 k ++ flat stage_bits stages)))))) ≡ dump_bits (shown h)
      same =
          ap (λ (x : List Bool). x ++ (bit_list 8 h.n ++ (flat class_bits (shown_classes h.classes) ++ (flat (bit_list 1) causes ++ (flat (bit_list 1) locks ++ (bit_list z 0 ++ (bit_list 16 k ++ flat stage_bits stages))))))) mark_bits
          ∙ ap₂ (λ (x y : ℕ). bits_of_bytes mark ++ (bit_list 8 h.n ++ (flat class_bits (shown_classes h.classes) ++ (flat (bit_list 1) causes ++ (flat (bit_list 1) locks ++ (bit_list x 0 ++ (bit_list 16 y ++ flat stage_bits stages)))))))
          (sz.zeros ∙ ap₂ (λ (x y : ℕ). to_full (head_bits x y)) (sym many_causes) (sym many_locks)) (sz.stages ∙ sym many_stages)

-- ── sizes ──

full_byte : (x : ℕ) → 8 * ((x + 7) / 8) ≡ x + to_full x
full_byte x = omega arith

pub few : (h : Handler) → (cause_count h.n ≤ 1344) × (lock_count h.n ≤ 1344) × (to_full (head_bits (cause_count h.n) (lock_count h.n)) ≤ 64) × (length (picks (λ r. is_open h.stages (decode h.n r)) 0 limit) ≤ 1344)
few h = (many_le (λ r. is_cause (decode h.n r)) 0 limit, many_le (λ r. is_lock (decode h.n r)) 0 limit, small (head_bits (cause_count h.n) (lock_count h.n)), many_le (λ r. is_open h.stages (decode h.n r)) 0 limit)
  where
    small : (x : ℕ) → to_full x ≤ 64
    small x = let m : to_full x < 8 = mod-lt (8 - x % 8) (pow_pos 3) in omega arith

pub sized : (h : Handler) (room c l z k : ℕ) → c ≡ cause_count h.n → l ≡ lock_count h.n → z ≡ to_full (head_bits c l)
    → k ≡ length (picks (λ r. is_open h.stages (decode h.n r)) 0 limit) → 6 + (219 + c + l) / 8 + 6 * k ≤ room → Sized h room z k
sized h room c l z k e f g i r =
    let b : 8 * ((head_bits c l + 7) / 8) ≡ head_bits c l + z = full_byte (head_bits c l) ∙ ap (λ (x : ℕ). head_bits c l + x) (sym g) in
    let u : (219 + c + l) / 8 ≡ (head_bits c l + 7) / 8 = ap (λ (x : ℕ). x / 8) (let j : 219 + c + l ≡ head_bits c l + 7 = omega arith in j) in
    record { zeros = g ∙ ap₂ (λ (x y : ℕ). to_full (head_bits x y)) e f; stages = i; fits = omega arith }

pub size_is : (h : Handler) → valid h ≡ true → (c l k : ℕ) → c ≡ cause_count h.n → l ≡ lock_count h.n → k ≡ length (picks (λ r. is_open h.stages (decode h.n r)) 0 limit)
    → 6 + (219 + c + l) / 8 + 6 * k ≡ length (dump_of (shown h))
unfolding shown
size_is h v c l k e f g =
    let a : length (shown h).causes ≡ c = many_causes h ∙ sym e in
    let b : length (shown h).locks ≡ l = many_locks h ∙ sym f in
    let d : length (shown h).stages ≡ k = many_stages h ∙ sym g in
    sym (dump_length_law (shown h) (shown_well h v)
    ∙ ap₂ (λ (x y : ℕ). 4 + (head_bits x y + 7) / 8 + 2 + 6 * length (shown h).stages) a b ∙ ap (λ (x : ℕ). 4 + (head_bits c l + 7) / 8 + 2 + 6 * x) d
    ∙ (let u : (219 + c + l) / 8 ≡ (head_bits c l + 7) / 8 = ap (λ (x : ℕ). x / 8) (let j : 219 + c + l ≡ head_bits c l + 7 = omega arith in j) in
    let y : 4 + (head_bits c l + 7) / 8 + 2 + 6 * k ≡ 6 + (219 + c + l) / 8 + 6 * k = omega arith in y))

-- ── the answers ──

pub wrote_bad : (h : Handler) (buffer : List ℕ) (r : ℤ) → valid h ≡ false → r ≡ neg_ℤ (pos (unwritten_number BadState)) → WroteDump h buffer r buffer
unfolding write_dump
wrote_bad h buffer r e f = rw_bad
  where
    judged : write_dump h buffer ≡ record { answer = neg_ℤ (pos (unwritten_number BadState)); buffer = buffer }
    judged = rw e refl

    rw_bad : WroteDump h buffer r buffer
    rw_bad = record { answer = f ∙ sym (ap (λ (w : Dumped). w.answer) judged); bytes = sym (ap (λ (w : Dumped). w.buffer) judged) }

pub wrote_short : (h : Handler) (buffer : List ℕ) (r : ℤ) → valid h ≡ true → length buffer < length (dump_of (shown h)) → r ≡ neg_ℤ (pos (unwritten_number ShortBuffer)) → WroteDump h buffer r buffer
unfolding write_dump
wrote_short h buffer r e l f = go
  where
    judged : write_dump h buffer ≡ record { answer = neg_ℤ (pos (unwritten_number ShortBuffer)); buffer = buffer }
    judged = rw (e, lt-ltb (length buffer) (length (dump_of (shown h))) l) refl

    go : WroteDump h buffer r buffer
    go = record { answer = f ∙ sym (ap (λ (w : Dumped). w.answer) judged); bytes = sym (ap (λ (w : Dumped). w.buffer) judged) }

pub wrote_dump : (h : Handler) (buffer left : List ℕ) (r : ℤ) → valid h ≡ true → length (dump_of (shown h)) ≤ length buffer → r ≡ pos (length (dump_of (shown h)))
    → left ≡ dump_of (shown h) ++ drop (length (dump_of (shown h))) buffer → WroteDump h buffer r left
unfolding write_dump
wrote_dump h buffer left r e l f g = go
  where
    judged : write_dump h buffer ≡ record { answer = pos (length (dump_of (shown h))); buffer = dump_of (shown h) ++ drop (length (dump_of (shown h))) buffer }
    judged = rw (e, le-ltb (length buffer) (length (dump_of (shown h))) l) refl

    go : WroteDump h buffer r left
    go = record { answer = f ∙ sym (ap (λ (w : Dumped). w.answer) judged); bytes = g ∙ sym (ap (λ (w : Dumped). w.buffer) judged) }
