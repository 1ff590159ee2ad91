-- The dump that the writer's contract cites satisfies the sentences of a dump's bytes.
-- Assumes nothing.
use Prim.Native.Nat.{ℕ, zero, suc, ◌+◌, ◌-◌, ◌*◌, ◌≤◌, ◌<◌}
use mathlib.Core.Path.{◌≡◌, refl, sym, ap, ◌∙◌, subst}
use mathlib.Core.Logic.{◌↔◌}
use mathlib.Core.Bool.{Bool, true, false, false≢true, not}
use mathlib.Core.List.{List, [], ◌∷◌, ◌++◌, map}
use native.Mathlib.Omega.{arith}
use borrow.Author.Tests.{ne_eqb}
use lib.Dec.{eqb}
use lib.ListN.{get_or, length, length-append, length-map, get_or-append, get_or-map}
use lib.Seq.{get_or-append-add}
use Rattle.bits.specs.Bits.{bit, num}
use Rattle.bits.proofs.BitLaws.{bit_none}
use Rattle.dump_laws.specs.Claims.{up_from}
use Rattle.dump_laws.specs.DumpSays.{class_shown}
use Rattle.dump_laws.proofs.DumpSays.{state_shows}
use Rattle.dump_rules.specs.Dump.{mark, class_bits, stage_bits, dump_of}
use Rattle.dump_rules.specs.Shown.{ShownClass, ShownStage, Shown, picks, shown}
use Rattle.dump_rules.proofs.DumpBits.{dump_length}
use Rattle.dump_rules.proofs.PickLaws.{many, many_up, many_grow}
use Rattle.dump_rules.proofs.ReaderLaws.{dump_length_law, dump_bytes}
use Rattle.dump_rules.proofs.ShownLaws.{shown_well}
use Rattle.formats.specs.BitList.{bit_list, AreBytes, none, one}
use Rattle.formats.proofs.BitAtLaws.{bit_in}
use Rattle.formats.proofs.BitListLaws.{length_bits}
use Rattle.rules.specs.Access.{value}
use Rattle.rules.specs.Map.{decode}
use Rattle.rules.specs.Stages.{stage, is_open}
use Rattle.rules.specs.Valid.{valid}
use Rattle.rules.specs.declared.Field.{Field}
use Rattle.rules.specs.declared.Handler.{Handler}
use Rattle.rules.specs.declared.Register.{Register}
use Rattle.rules.specs.declared.Register.TheVariants.{Only, Local, Alert, Block}
use Rattle.rules.specs.declared.Setting.{Setting}
use Rattle.rules.specs.declared.Setting.TheVariants.{ClrRegwen}
use Rattle.rules.specs.declared.Single.TheVariants.{PingRegwen}
use Rattle.sentences.specs.AccessMap.{Row}
use Rattle.sentences.specs.Raw.{class_of, held}
use Rattle.sentences.specs.Valid.{Valid}
use Rattle.sentences.proofs.AccessMap.{held_is, code_is}
use Rattle.sentences.proofs.HoldsValid.{holds_valid}
use Rattle.sentences.proofs.SentenceCases.{same_word}
use Rattle.trace_sentences.specs.RecordBits.{bit_at}
use Rattle.dump_sentences.specs.DumpBytes.{Staged, stages_at, Stands, ClassBits, CauseBits, LockBits, StageBits, DumpOf}
use Rattle.dump_sentences.proofs.BitPlaces.{skip, front, up_length, up_at, pick_at, byte_by_bits, mark_at, n_at, class_at_law, cause_at_law, lock_at_law, zero_at, number_at, stage_at}
use Rattle.dump_sentences.proofs.StagedLaws.{decodes, staged_code, is_staged}

-- ── bytes and bits ──

pub byte_small : (xs : List ℕ) → AreBytes xs → (i : ℕ) → get_or xs i 0 ≤ 255
byte_small [] none i = omega arith
byte_small (x ∷ xs) (one h f) zero = omega arith
byte_small (x ∷ xs) (one h f) (suc i) = byte_small xs f i

-- a bit that is 1 for 1, and one that is 1 for 0
on_for_1 : (x : ℕ) → x ≤ 1 → (bit x 0 ≡ true) ↔ (x ≡ 1)
unfolding bit
on_for_1 zero l = ((λ e. absurd (false≢true e)), (λ e. absurd (omega (arith, e))))
on_for_1 (suc zero) l = ((λ e. refl), (λ e. refl))
on_for_1 (suc (suc x)) l = absurd (omega arith)

on_for_0 : (x : ℕ) → x ≤ 1 → (bit (1 - x) 0 ≡ true) ↔ (x ≡ 0)
unfolding bit
on_for_0 zero l = ((λ e. refl), (λ e. refl))
on_for_0 (suc zero) l = ((λ e. absurd (false≢true e)), (λ e. absurd (omega (arith, e))))
on_for_0 (suc (suc x)) l = absurd (omega arith)

-- the bits of a number in a list of bits
number_bits : (bytes : List ℕ) (p w x : ℕ) → ((j : ℕ) → j < w → bit_at bytes (p + j) ≡ get_or (bit_list w x) j false) → Stands bytes p w x
number_bits bytes p w x f j l = let e : w - suc j ≡ w - 1 - j = omega arith in f j l ∙ bit_in w x j l ∙ ap (bit x) e

all_zero : (j w : ℕ) → get_or (bit_list w 0) j false ≡ false
unfolding bit_list
all_zero j zero = refl
all_zero zero (suc w) = bit_none w
all_zero (suc j) (suc w) = all_zero j w

-- the bytes of a dump of n alerts and m stages
size_is : (n c l k m : ℕ) → c ≡ 7 + n → l ≡ 16 + n → k ≡ m → dump_length c l k ≡ stages_at n + 2 + 6 * m
size_is n c l k m x y z = omega arith

-- ── a state that refusal 7 does not meet ──

module _ (h : Handler) (v : Valid h) where
  abbrev N : ℕ
  N = h.n

  abbrev s : Shown
  s = shown h

  abbrev bytes : List ℕ
  bytes = dump_of (shown h)

  is_valid_law : valid h ≡ true
  is_valid_law = (holds_valid h).1 v

  abbrev cause_numbers : List ℕ
  cause_numbers = up_from 40 7 ++ up_from 1024 h.n

  abbrev class_numbers : List ℕ
  class_numbers = 1280 ∷ 1282 ∷ 1296 ∷ 1298 ∷ 1312 ∷ 1314 ∷ 1328 ∷ 1330 ∷ []

  abbrev lock_numbers : List ℕ
  lock_numbers = (4 ∷ up_from 16 7) ++ (up_from 256 h.n ++ class_numbers)

  abbrev cause_at : ℕ → ℕ
  cause_at r = value h (decode h.n r)

  abbrev lock_at : ℕ → ℕ
  lock_at r = 1 - value h (decode h.n r)

  many_causes : length s.causes ≡ 7 + h.n
  many_causes =
      ap length ((state_shows h).causes v.n) ∙ length-map cause_numbers cause_at ∙ length-append (up_from 40 7) (up_from 1024 h.n) ∙ ap (λ (k : ℕ). 7 + k) (up_length 1024 h.n)

  many_locks : length s.locks ≡ 16 + h.n
  many_locks =
      ap length ((state_shows h).locks v.n) ∙ length-map lock_numbers lock_at
      ∙ length-append (4 ∷ up_from 16 7) (up_from 256 h.n ++ class_numbers)
      ∙ ap (λ (k : ℕ). 8 + k) (length-append (up_from 256 h.n) class_numbers ∙ ap (λ (k : ℕ). k + 8) (up_length 256 h.n))
      ∙ omega arith

  -- what a number's register holds
  holds : (r b : ℕ) (q : Register) → Row h.n r q b → value h (decode h.n r) ≡ held h q
  holds r b q t = ap (value h) (decodes h.n r q v.n (b, t)) ∙ held_is h q

  -- ── causes ──

  cause_value : (j r : ℕ) → get_or cause_numbers j 0 ≡ r → get_or s.causes j (cause_at 0) ≡ cause_at r
  cause_value j r e = ap (λ (xs : List ℕ). get_or xs j (cause_at 0)) ((state_shows h).causes v.n) ∙ get_or-map cause_at cause_numbers j 0 ∙ ap cause_at e

  cause_is : (j r b : ℕ) (q : Register) → j < 7 + h.n → get_or cause_numbers j 0 ≡ r → Row h.n r q b → held h q ≤ 1 → (bit_at bytes (244 + j) ≡ true) ↔ (held h q ≡ 1)
  cause_is j r b q l e t m =
      same_word (cause_at_law s (shown_well h is_valid_law) h.n many_causes many_locks j (cause_at 0) l ∙ ap (λ (x : ℕ). bit x 0) (cause_value j r e ∙ holds r b q t)) (on_for_1 (held h q) m)

  local_cause : (j : ℕ) → j < 7 → get_or cause_numbers j 0 ≡ 40 + j
  local_cause j l = get_or-append (up_from 40 7) (up_from 1024 h.n) 0 j l ∙ up_at 40 7 j 0 l

  alert_cause : (i : ℕ) → i < h.n → get_or cause_numbers (7 + i) 0 ≡ 1024 + i
  alert_cause i l = get_or-append-add (up_from 40 7) (up_from 1024 h.n) i 0 ∙ up_at 1024 h.n i 0 l

  cause_bits : CauseBits h bytes
  cause_bits =
      record {
        locals = λ j l. cause_is j (40 + j) 1 (Local Field.Cause j) (omega arith) (local_cause j l) (Row.local_cause j l) (v.local_cause j l);
        alerts = λ i l.
            let e : 244 + (7 + i) ≡ 251 + i = omega arith in
            subst (λ (p : ℕ). (bit_at bytes p ≡ true) ↔ (get_or h.alerts.cause i 0 ≡ 1)) e
            (cause_is (7 + i) (1024 + i) 1 (Alert Field.Cause i) (omega arith) (alert_cause i l) (Row.alert_cause i l) (v.alert_cause i l));
      }

  -- ── locks ──

  lock_value : (j r : ℕ) → get_or lock_numbers j 0 ≡ r → get_or s.locks j (lock_at 0) ≡ lock_at r
  lock_value j r e = ap (λ (xs : List ℕ). get_or xs j (lock_at 0)) ((state_shows h).locks v.n) ∙ get_or-map lock_at lock_numbers j 0 ∙ ap lock_at e

  lock_is : (p j r b : ℕ) (q : Register) → 251 + h.n + j ≡ p → j < 16 + h.n → get_or lock_numbers j 0 ≡ r → Row h.n r q b → held h q ≤ 1
      → (bit_at bytes p ≡ true) ↔ (held h q ≡ 0)
  lock_is p j r b q z l e t m =
      subst (λ (p : ℕ). (bit_at bytes p ≡ true) ↔ (held h q ≡ 0)) z
      (same_word (lock_at_law s (shown_well h is_valid_law) h.n many_causes many_locks j (lock_at 0) l ∙ ap (λ (x : ℕ). bit x 0) (lock_value j r e ∙ ap (λ (x : ℕ). 1 - x) (holds r b q t))) (on_for_0 (held h q) m))

  local_lock : (j : ℕ) → j < 7 → get_or lock_numbers (1 + j) 0 ≡ 16 + j
  local_lock j l = let e : 1 + j ≡ suc j = omega arith in
      ap (λ (p : ℕ). get_or lock_numbers p 0) e ∙ get_or-append (up_from 16 7) (up_from 256 h.n ++ class_numbers) 0 j l ∙ up_at 16 7 j 0 l

  alert_lock : (i : ℕ) → i < h.n → get_or lock_numbers (8 + i) 0 ≡ 256 + i
  alert_lock i l =
      get_or-append-add (4 ∷ up_from 16 7) (up_from 256 h.n ++ class_numbers) i 0
      ∙ get_or-append (up_from 256 h.n) class_numbers 0 i (omega (arith, up_length 256 h.n))
      ∙ up_at 256 h.n i 0 l

  class_lock_law : (i : ℕ) → get_or lock_numbers (8 + (h.n + i)) 0 ≡ get_or class_numbers i 0
  class_lock_law i =
      get_or-append-add (4 ∷ up_from 16 7) (up_from 256 h.n ++ class_numbers) (h.n + i) 0
      ∙ ap (λ (k : ℕ). get_or (up_from 256 h.n ++ class_numbers) (k + i) 0) (sym (up_length 256 h.n))
      ∙ get_or-append-add (up_from 256 h.n) class_numbers i 0

  regwen_number : (k : ℕ) → k < 4 → get_or class_numbers (2 * k) 0 ≡ 1280 + 16 * k + 0
  regwen_number zero l = refl
  regwen_number (suc zero) l = refl
  regwen_number (suc (suc zero)) l = refl
  regwen_number (suc (suc (suc zero))) l = refl
  regwen_number (suc (suc (suc (suc k)))) l = absurd (omega arith)

  clear_number : (k : ℕ) → k < 4 → get_or class_numbers (2 * k + 1) 0 ≡ 1280 + 16 * k + 2
  clear_number zero l = refl
  clear_number (suc zero) l = refl
  clear_number (suc (suc zero)) l = refl
  clear_number (suc (suc (suc zero))) l = refl
  clear_number (suc (suc (suc (suc k)))) l = absurd (omega arith)

  lock_bits : LockBits h bytes
  lock_bits =
      record {
        timer = lock_is _ 0 4 1 (Only PingRegwen) (omega arith) (omega arith) refl Row.ping_regwen v.ping_regwen;
        locals = λ j l. lock_is _ (1 + j) (16 + j) 1 (Local Field.Regwen j) (omega arith) (omega arith) (local_lock j l) (Row.local_regwen j l) (v.local_regwen j l);
        alerts = λ i l. lock_is _ (8 + i) (256 + i) 1 (Alert Field.Regwen i) (omega arith) (omega arith) (alert_lock i l) (Row.alert_regwen i l) (v.alert_regwen i l);
        classes = λ k l.
            lock_is _ (8 + (h.n + 2 * k)) (1280 + 16 * k + 0) 1 (Block Setting.Regwen k) (omega arith) (omega arith) (class_lock_law (2 * k) ∙ regwen_number k l) (Row.regwen k l)
            (v.classes k l).regwen;
        clears = λ k l.
            let m : k < 4 = omega arith in
            lock_is _ (8 + (h.n + (2 * k + 1))) (1280 + 16 * k + 2) 1 (Block ClrRegwen k) (omega arith) (omega arith) (class_lock_law (2 * k + 1) ∙ clear_number k m) (Row.clr_regwen k m)
            (v.classes k m).clrwen;
      }

  -- ── classes ──

  class_shown_law : (k : ℕ) → k < 4 → get_or s.classes k (record { state = 0; count = 0; accum = 0 })
      ≡ record { state = (class_of h k).state; count = (class_of h k).count; accum = (class_of h k).accum }
  class_shown_law k l = ap (λ (cs : List ShownClass). get_or cs k (record { state = 0; count = 0; accum = 0 })) (state_shows h).classes ∙ four k l
    where
      four : (k : ℕ) → k < 4
          → get_or (class_shown h 0 ∷ class_shown h 1 ∷ class_shown h 2 ∷ class_shown h 3 ∷ []) k (record { state = 0; count = 0; accum = 0 }) ≡ class_shown h k
      four zero l = refl
      four (suc zero) l = refl
      four (suc (suc zero)) l = refl
      four (suc (suc (suc zero))) l = refl
      four (suc (suc (suc (suc k)))) l = absurd (omega arith)

  class_bit : (k j p : ℕ) → k < 4 → j < 51 → 40 + (51 * k + j) ≡ p
      → bit_at bytes p ≡ get_or (bit_list 3 (class_of h k).state ++ (bit_list 32 (class_of h k).count ++ bit_list 16 (class_of h k).accum)) j false
  class_bit k j p l u e =
      ap (bit_at bytes) (sym e)
      ∙ class_at_law s (shown_well h is_valid_law) h.n many_causes many_locks k j (record { state = 0; count = 0; accum = 0 }) l u
      ∙ ap (λ (c : ShownClass). get_or (class_bits c) j false) (class_shown_law k l)

  class_bits_law : (k : ℕ) → k < 4 → ClassBits h bytes k
  class_bits_law k l =
      let c = class_of h k in
      let S = bit_list 3 c.state in
      let D = bit_list 32 c.count in
      let A = bit_list 16 c.accum in
      record {
        state = number_bits bytes (40 + 51 * k) 3 c.state (λ j u. class_bit k j _ l (omega arith) (omega arith) ∙ front S (D ++ A) 3 j (length_bits 3 c.state) u);
        count =
            number_bits bytes (43 + 51 * k) 32 c.count
            (λ j u. class_bit k (3 + j) _ l (omega arith) (omega arith) ∙ skip S (D ++ A) 3 j (length_bits 3 c.state) ∙ front D A 32 j (length_bits 32 c.count) u);
        accumulator =
            number_bits bytes (75 + 51 * k) 16 c.accum
            (λ j u. class_bit k (3 + (32 + j)) _ l (omega arith) (omega arith) ∙ skip S (D ++ A) 3 (32 + j) (length_bits 3 c.state) ∙ skip D A 32 j (length_bits 32 c.count));
      }

  -- ── stages ──

  abbrev open_at : ℕ → Bool
  open_at r = is_open h.stages (decode h.n r)

  abbrev stage_shown : ℕ → ShownStage
  stage_shown r = record { register = r; value = stage h (decode h.n r) - 1 }

  stages_are : s.stages ≡ map stage_shown (picks open_at 0 1344)
  unfolding shown
  stages_are = refl

  many_stages : length s.stages ≡ many open_at 0 1344
  many_stages = ap length stages_are ∙ length-map (picks open_at 0 1344) stage_shown

  stage_code : (r v : ℕ) → Staged h r v → stage h (decode h.n r) ≡ suc v
  stage_code r u t = code_is h (decode h.n r) ∙ staged_code h v.n r u t

  is_open_law : (r u : ℕ) → Staged h r u → open_at r ≡ true
  is_open_law r u t = ap not (ne_eqb (stage h (decode h.n r)) 0 (λ e. omega (arith, e, stage_code r u t)))

  is_shut : (r : ℕ) → ((u : ℕ) → ¬ Staged h r u) → open_at r ≡ false
  is_shut r f = go (stage h (decode h.n r)) refl
    where
      go : (c : ℕ) → stage h (decode h.n r) ≡ c → open_at r ≡ false
      go zero e = ap (λ (c : ℕ). not (eqb c 0)) e
      go (suc u) e = absurd (f u (is_staged h v.n r u (sym (code_is h (decode h.n r)) ∙ e)))

  entry : (r u : ℕ) → r < 1344 → Staged h r u → get_or s.stages (many open_at 0 r) (stage_shown 0) ≡ record { register = r; value = u }
  entry r u l t =
      ap (λ (xs : List ShownStage). get_or xs (many open_at 0 r) (stage_shown 0)) stages_are
      ∙ get_or-map stage_shown (picks open_at 0 1344) (many open_at 0 r) 0
      ∙ ap stage_shown (pick_at open_at 0 r 1344 0 (ap open_at zero_more ∙ is_open_law r u t) l ∙ zero_more)
      ∙ (λ i. record { register = r; value = (ap (λ (c : ℕ). c - 1) (stage_code r u t) ∙ less) i })
    where
      zero_more : 0 + r ≡ r
      zero_more = omega arith

      less : suc u - 1 ≡ u
      less = omega arith

  within : (r u : ℕ) → r < 1344 → Staged h r u → many open_at 0 r < length s.stages
  within r u l t =
      let a = many_up open_at r in
      let b : num (open_at r) ≡ 1 = ap num (is_open_law r u t) in
      let g = many_grow open_at 0 (suc r) 1344 (omega arith) in
      omega (arith, a, b, g, many_stages)

  stage_bit : (r u j p : ℕ) → r < 1344 → Staged h r u → j < 48 → 8 * stages_at h.n + (16 + (48 * many open_at 0 r + j)) ≡ p
      → bit_at bytes p ≡ get_or (bit_list 16 r ++ bit_list 32 u) j false
  stage_bit r u j p l t m e =
      ap (bit_at bytes) (sym e)
      ∙ stage_at s (shown_well h is_valid_law) h.n many_causes many_locks (many open_at 0 r) j (stage_shown 0) (within r u l t) m
      ∙ ap (λ (x : ShownStage). get_or (stage_bits x) j false) (entry r u l t)

  stage_bits_law : StageBits h bytes
  unfolding picks
  stage_bits_law =
      record {
        many = λ r. many open_at 0 r;
        none = refl;
        one_more = λ r u l t. many_up open_at r ∙ ap (λ (b : Bool). many open_at 0 r + num b) (is_open_law r u t) ∙ omega arith;
        no_more = λ r l f. many_up open_at r ∙ ap (λ (b : Bool). many open_at 0 r + num b) (is_shut r f) ∙ omega arith;
        number =
            subst (Stands bytes (8 * stages_at h.n) 16) many_stages
            (number_bits bytes (8 * stages_at h.n) 16 (length s.stages) (number_at s (shown_well h is_valid_law) h.n many_causes many_locks));
        register = λ r u l t.
            number_bits bytes _ 16 r (λ j m. stage_bit r u j _ l t (omega arith) (omega arith) ∙ front (bit_list 16 r) (bit_list 32 u) 16 j (length_bits 16 r) m);
        value = λ r u l t.
            number_bits bytes _ 32 u (λ j m. stage_bit r u (16 + j) _ l t (omega arith) (omega arith) ∙ skip (bit_list 16 r) (bit_list 32 u) 16 j (length_bits 16 r));
        size = dump_length_law s (shown_well h is_valid_law) ∙ size_is h.n _ _ _ _ many_causes many_locks many_stages;
      }

  -- ── the whole ──

  zero_bit : (p : ℕ) → 267 + 2 * h.n ≤ p → p < 8 * stages_at h.n → bit_at bytes p ≡ false
  zero_bit p l u =
      let e : 267 + 2 * h.n + (p - (267 + 2 * h.n)) ≡ p = omega arith in
      ap (bit_at bytes) (sym e)
      ∙ zero_at s (shown_well h is_valid_law) h.n many_causes many_locks (p - (267 + 2 * h.n)) (omega arith)
      ∙ all_zero (p - (267 + 2 * h.n)) _

  small : (i : ℕ) → get_or bytes i 0 ≤ 255
  small = byte_small bytes (dump_bytes s)

  mark_byte : (i : ℕ) → i < 4 → get_or mark i 0 ≤ 255 → get_or bytes i 0 ≡ get_or mark i 0
  mark_byte i l m = byte_by_bits bytes mark i (small i) m (λ q f u. mark_at s (shown_well h is_valid_law) h.n many_causes many_locks q (omega arith))

  alerts_are : Stands bytes 32 8 h.n
  unfolding shown
  alerts_are = number_bits bytes 32 8 h.n (n_at s (shown_well h is_valid_law) h.n many_causes many_locks)

  pub holds_dump : DumpOf h (dump_of (shown h))
  holds_dump =
      record {
        byte = small;
        mark_t = mark_byte 0 (omega arith) (omega arith);
        mark_d = mark_byte 1 (omega arith) (omega arith);
        mark_m = mark_byte 2 (omega arith) (omega arith);
        mark_p = mark_byte 3 (omega arith) (omega arith);
        alerts = alerts_are;
        classes = class_bits_law;
        causes = cause_bits;
        locks = lock_bits;
        zeros = zero_bit;
        stages = stage_bits_law;
      }
