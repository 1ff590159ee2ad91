-- The bytes of a record as numbers, part by part.
-- Assumes nothing.
use Prim.Native.Nat.{ℕ, zero, suc, ◌+◌, ◌*◌, ◌/◌, ◌%◌, ◌^◌, ◌≤◌, ◌<◌}
use mathlib.Core.Path.{◌≡◌, refl, sym, ap, ap₂, subst, ◌∙◌}
use mathlib.Core.List.{List, [], ◌∷◌, ◌++◌}
use native.Mathlib.Nat.{add-zero}
use native.Mathlib.Omega.{arith}
use lib.ListN.{get_or, length, take, drop, length-drop}
use lib.Pow.{pow_pos}
use lib.Seq.{get_or-take, get_or-drop, length-take-le, take-add, drop-drop}
use Rattle.bits.specs.Fields.{total, pack, unpack, of_bytes, one}
use Rattle.bits.specs.Index.{each, each_from}
use Rattle.bits.proofs.ByteLaws.{bytes_lt}
use Rattle.bits.proofs.IndexLaws.{is_each}
use Rattle.bits.proofs.FieldLaws.{pack_unpack, unpack_fits}
use Rattle.bits.proofs.PackLaws.{unpack_append, bytes_append}
use Rattle.trace_rules.specs.Edition.{record_bytes, alerts, tail}
use Rattle.trace_rules.specs.Record.{head, wires, layout, access_in, receive_of, input_of_parts, input_of_fields, held_in, carried, input_of}
use Rattle.rules.specs.declared.Access.{Access}
use Rattle.trace_rules.specs.declared.Edition.{Edition}
use Rattle.trace_rules.specs.declared.Edition.TheVariants.{Alerts64, Alerts248, Pings, Wires}
use Rattle.rules.specs.declared.Input.{Input}
use Rattle.rules.specs.declared.Receive.{Receive}
use Rattle.rules.specs.declared.Wires as wire
use Rattle.trace.specs.RecordParts.{wire_bytes, wires_from, tail_bytes, head_of, fields_of, tail_of, behind_of}
use Rattle.trace.specs.declared.record.Head.{Head}
use Rattle.trace.specs.declared.record.Tail.{Tail}

-- the n entries of a list that begin at a place
pub part_length : (n at : ℕ) (xs : List ℕ) → at + n ≤ length xs → length (take n (drop at xs)) ≡ n
part_length n at xs h = length-take-le n (drop at xs) (rw length-drop (omega arith))

part_each : (n at : ℕ) (xs : List ℕ) → at + n ≤ length xs → take n (drop at xs) ≡ each n (λ i. get_or xs (at + i) 0)
part_each n at xs h =
    is_each n (take n (drop at xs)) _ 0 (part_length n at xs h) (λ i l. get_or-take n (drop at xs) i 0 l ∙ get_or-drop at xs i 0)

pub four_bytes : (at : ℕ) (xs : List ℕ) → at + 4 ≤ length xs
    → of_bytes (take 4 (drop at xs)) ≡ get_or xs at 0 * 2 ^ 24 + (get_or xs (at + 1) 0 * 2 ^ 16 + (get_or xs (at + 2) 0 * 2 ^ 8 + get_or xs (at + 3) 0))
unfolding pack each_from
four_bytes at xs h = ap of_bytes (part_each 4 at xs h) ∙ rw (add-zero at) (omega arith)

-- one byte
pub get_d_byte : (at : ℕ) (xs : List ℕ) → at + 1 ≤ length xs → of_bytes (take 1 (drop at xs)) ≡ get_or xs at 0
unfolding pack each_from
get_d_byte at xs h = ap of_bytes (part_each 1 at xs h) ∙ rw (add-zero at) (omega arith)

-- bytes that begin at a place, as a first and a second part
pub part_bytes : (m n at : ℕ) (xs : List ℕ) → at + (m + n) ≤ length xs
    → of_bytes (take (m + n) (drop at xs)) ≡ of_bytes (take m (drop at xs)) * 2 ^ (8 * n) + of_bytes (take n (drop (at + m) xs))
part_bytes m n at xs h =
    ap of_bytes (take-add m n (drop at xs) ∙ ap (λ (l : List ℕ). take m (drop at xs) ++ take n l) (drop-drop m at xs))
    ∙ bytes_append (take m (drop at xs)) (take n (drop (at + m) xs)) n (part_length n (at + m) xs (omega arith))

-- ── by editions ──

-- a record is its first eight bytes, its positive wires, its negative wires and its tail
pub record_parts : (e : Edition) → record_bytes e ≡ 8 + (wire_bytes e + (wire_bytes e + tail_bytes e))
record_parts Alerts64 = refl
record_parts Alerts248 = refl
record_parts Pings = refl
record_parts Wires = refl

wire_bits : (e : Edition) → alerts e ≡ 8 * wire_bytes e
wire_bits Alerts64 = refl
wire_bits Alerts248 = refl
wire_bits Pings = refl
wire_bits Wires = refl

tail_bits : (e : Edition) → total (tail e) ≡ 8 * tail_bytes e
tail_bits Alerts64 = refl
tail_bits Alerts248 = refl
tail_bits Pings = refl
tail_bits Wires = refl

first_bits : (e : Edition) → total (head e) ≡ 64
first_bits Alerts64 = refl
first_bits Alerts248 = refl
first_bits Pings = refl
first_bits Wires = refl

-- the first n of some bytes are bytes
byte_taken : (n : ℕ) (xs : List ℕ) → ((i : ℕ) → get_or xs i 0 < 2 ^ 8) → (i : ℕ) → get_or (take n xs) i 0 < 2 ^ 8
byte_taken zero xs b i = pow_pos 8
byte_taken (suc n) [] b i = pow_pos 8
byte_taken (suc n) (x ∷ xs) b zero = b 0
byte_taken (suc n) (x ∷ xs) b (suc i) = byte_taken n xs (λ j. b (suc j)) i

-- the n bytes that begin at a place fit 8 * n bits
pub part_lt : (n at : ℕ) (xs : List ℕ) → at + n ≤ length xs → ((i : ℕ) → get_or xs i 0 < 2 ^ 8) → of_bytes (take n (drop at xs)) < 2 ^ (8 * n)
part_lt n at xs h b =
    subst (λ (k : ℕ). of_bytes (take n (drop at xs)) < 2 ^ (8 * k)) (part_length n at xs h)
    (bytes_lt (take n (drop at xs)) (byte_taken n (drop at xs) (λ i. subst (λ (x : ℕ). x < 2 ^ 8) (sym (get_or-drop at xs i 0)) (b (at + i)))))

-- request (ix): behind the wires are a word of four bytes and a byte of two fields
pub pings_tail : (at : ℕ) (xs : List ℕ) → at + 5 ≤ length xs → ((i : ℕ) → get_or xs i 0 < 2 ^ 8) → (w : ℕ) → w ≡ of_bytes (take 4 (drop at xs))
    → record { word = w; zeros = get_or xs (at + 4) 0 / 16; lines = get_or xs (at + 4) 0 % 16 } ≡ tail_of Pings (of_bytes (take 5 (drop at xs)))
unfolding unpack
pings_tail at xs h b w e =
    let n : ℕ = of_bytes (take 5 (drop at xs)) in
    let y : ℕ = get_or xs (at + 4) 0 in
    let l : of_bytes (take 4 (drop at xs)) < 2 ^ 32 = part_lt 4 at xs (omega arith) b in
    let s : n ≡ of_bytes (take 4 (drop at xs)) * 2 ^ 8 + y =
    part_bytes 4 1 at xs h ∙ ap (λ (m : ℕ). of_bytes (take 4 (drop at xs)) * 2 ^ 8 + m) (get_d_byte (at + 4) xs (omega arith)) in
    let f : y < 2 ^ 8 = b (at + 4) in
    ap₂ {C = Tail} (λ (p q : ℕ). record { word = p; zeros = q; lines = y % 16 }) (let z : w ≡ n / 2 ^ 8 % 2 ^ 32 = omega arith in z) (let z : y / 16 ≡ n / 2 ^ 4 % 2 ^ 4 = omega arith in z)
    ∙ ap (λ (p : ℕ). record { word = n / 2 ^ 8 % 2 ^ 32; zeros = n / 2 ^ 4 % 2 ^ 4; lines = p }) (omega arith)

-- request (xi): a word of four bytes and a byte of one field
pub pairs_tail : (at : ℕ) (xs : List ℕ) → at + 5 ≤ length xs → ((i : ℕ) → get_or xs i 0 < 2 ^ 8) → (w : ℕ) → w ≡ of_bytes (take 4 (drop at xs))
    → record { word = w; zeros = 0; lines = get_or xs (at + 4) 0 } ≡ tail_of Wires (of_bytes (take 5 (drop at xs)))
unfolding unpack
pairs_tail at xs h b w e =
    let n : ℕ = of_bytes (take 5 (drop at xs)) in
    let y : ℕ = get_or xs (at + 4) 0 in
    let l : of_bytes (take 4 (drop at xs)) < 2 ^ 32 = part_lt 4 at xs (omega arith) b in
    let s : n ≡ of_bytes (take 4 (drop at xs)) * 2 ^ 8 + y =
    part_bytes 4 1 at xs h ∙ ap (λ (m : ℕ). of_bytes (take 4 (drop at xs)) * 2 ^ 8 + m) (get_d_byte (at + 4) xs (omega arith)) in
    let f : y < 2 ^ 8 = b (at + 4) in
    ap₂ {C = Tail} (λ (p q : ℕ). record { word = p; zeros = q; lines = y }) (let z : w ≡ n / 2 ^ 8 % 2 ^ 32 = omega arith in z) (let z : 0 ≡ n / 2 ^ 8 % 2 ^ 0 = omega arith in z)
    ∙ ap (λ (p : ℕ). record { word = n / 2 ^ 8 % 2 ^ 32; zeros = n / 2 ^ 8 % 2 ^ 0; lines = p }) (omega arith)

module _ (e : Edition) (at : ℕ) (xs : List ℕ) (b : (i : ℕ) → get_or xs i 0 < 2 ^ 8) (h : at + record_bytes e ≤ length xs) where
  abbrev first : ℕ
  first = of_bytes (take 8 (drop at xs))

  abbrev pos : ℕ
  pos = of_bytes (take (wire_bytes e) (drop (at + 8) xs))

  abbrev neg : ℕ
  neg = of_bytes (take (wire_bytes e) (drop (at + 8 + wire_bytes e) xs))

  abbrev rest : ℕ
  rest = of_bytes (take (tail_bytes e) (drop (at + 8 + wire_bytes e + wire_bytes e) xs))

  abbrev behind : List ℕ
  behind = pos ∷ neg ∷ unpack (tail e) rest

  record_ends : at + record_bytes e ≡ at + 8 + wire_bytes e + wire_bytes e + tail_bytes e
  record_ends = omega (arith, record_parts e)

  record_number : of_bytes (take (record_bytes e) (drop at xs)) ≡ first * 2 ^ total (wires e ++ tail e) + pack (wires e ++ tail e) behind
  unfolding pack
  record_number =
      let l = record_ends in
      let t : 8 * (wire_bytes e + (wire_bytes e + tail_bytes e)) ≡ total (wires e ++ tail e) = omega (arith, wire_bits e, tail_bits e) in
      let u : 8 * (wire_bytes e + tail_bytes e) ≡ alerts e + total (tail e) = omega (arith, wire_bits e, tail_bits e) in
      let r : rest < 2 ^ total (tail e) = subst (λ (n : ℕ). rest < 2 ^ n) (sym (tail_bits e)) (part_lt (tail_bytes e) (at + 8 + wire_bytes e + wire_bytes e) xs (omega arith) b) in
      ap (λ (n : ℕ). of_bytes (take n (drop at xs))) (record_parts e) ∙ part_bytes 8 (wire_bytes e + (wire_bytes e + tail_bytes e)) at xs (omega arith)
      ∙ ap₂ (λ (m n : ℕ). first * 2 ^ m + n) t
      (part_bytes (wire_bytes e) (wire_bytes e + tail_bytes e) (at + 8) xs (omega arith)
      ∙ ap₂ (λ (m n : ℕ). pos * 2 ^ m + n) u
      (part_bytes (wire_bytes e) (tail_bytes e) (at + 8 + wire_bytes e) xs (omega arith)
      ∙ ap₂ (λ (m n : ℕ). neg * 2 ^ m + n) (sym (tail_bits e)) (sym (pack_unpack (tail e) rest r))))

  -- what a record holds, by its parts
  pub record_held : held_in e (take (record_bytes e) (drop at xs)) ≡ input_of_parts e (unpack (head e) first) (pos ∷ neg ∷ []) (unpack (tail e) rest)
  unfolding held_in unpack
  record_held =
      let l = record_ends in
      let f : first < 2 ^ total (head e) = subst (λ (n : ℕ). first < 2 ^ n) (sym (first_bits e)) (part_lt 8 at xs (omega arith) b) in
      let p : pos < 2 ^ alerts e = subst (λ (n : ℕ). pos < 2 ^ n) (sym (wire_bits e)) (part_lt (wire_bytes e) (at + 8) xs (omega arith) b) in
      let q : neg < 2 ^ alerts e = subst (λ (n : ℕ). neg < 2 ^ n) (sym (wire_bits e)) (part_lt (wire_bytes e) (at + 8 + wire_bytes e) xs (omega arith) b) in
      ap (λ (n : ℕ). input_of_fields e (unpack (layout e) n)) record_number
      ∙ ap (input_of_fields e) (unpack_append (head e) (wires e ++ tail e) first behind f (one p (one q (unpack_fits (tail e) rest))))

  -- and its access and sample, as the code reads them one after another
  pub record_input : (f n : ℕ) (h : Head) (t : Tail) (a r : Access) (ws : wire.Wires) (m : Receive) → f ≡ first → h ≡ head_of e f → n ≡ alerts e
      → t ≡ tail_of e (of_bytes (take (tail_bytes e) (drop (at + 8 + n / 8 + n / 8) xs))) → a ≡ access_in (fields_of h) (behind_of t) → r ≡ carried e a
      → ws ≡ wires_from (alerts e) (wire_bytes e) (at + 8) xs → m ≡ receive_of e t.lines
      → record { access = r; sample = record { alerts = ws; word = t.word; receive = m } } ≡ input_of e (take (record_bytes e) (drop at xs))
  unfolding input_of unpack
  record_input f n h t a r ws m ef eh en et ea er ew em =
      let k : t ≡ tail_of e rest = et ∙ ap (λ (i : ℕ). tail_of e (of_bytes (take (tail_bytes e) (drop (at + 8 + i / 8 + i / 8) xs)))) en in
      let z : r ≡ carried e (access_in (fields_of (head_of e first)) (behind_of (tail_of e rest))) =
      er ∙ ap (carried e) (ea ∙ ap₂ (λ (g : Head) (s : Tail). access_in (fields_of g) (behind_of s)) (eh ∙ ap (head_of e) ef) k) in
      let w : t.word ≡ (tail_of e rest).word = ap (λ (s : Tail). s.word) k in
      let o : m ≡ receive_of e (tail_of e rest).lines = em ∙ ap (λ (s : Tail). receive_of e s.lines) k in
      rw (z, ew, w, o) (sym (ap (λ (i : Input). record { access = carried e i.access; sample = i.sample }) record_held))
