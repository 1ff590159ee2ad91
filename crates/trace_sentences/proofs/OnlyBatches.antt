-- No sentence of a batch is missing: two batches over ticks, words and readers that agree give one state, answer and list. Of the rules it takes only
-- a test that decides refusal 7.
-- Assumes nothing.
use Prim.Native.Nat.{ℕ, zero, suc, ◌+◌, ◌*◌, ◌%◌, ◌≤◌, ◌<◌}
use mathlib.Core.Path.{◌≡◌, refl, sym, ap₂, ◌∙◌, subst}
use mathlib.Core.Logic.{inl, ◌↔◌}
use mathlib.Core.Bool.{Bool, true, false, false≢true}
use mathlib.Core.List.{List, [], ◌∷◌}
use native.Mathlib.Omega.{arith}
use native.Mathlib.Decide.{dec_lt, ℕ_discrete}
use lib.IntN.{ℤ}
use lib.ListN.{get_or, length, take, drop, length-drop}
use lib.Seq.{ext_get_or, length-take-le, get_or-drop}
use Rattle.rules.specs.Valid.{valid}
use Rattle.trace_rules.specs.declared.Edition.{Edition}
use Rattle.rules.specs.declared.Handler.{Handler}
use Rattle.rules.specs.declared.Input.{Input}
use Rattle.rules.specs.declared.Ticked.{Ticked}
use Rattle.trace_laws.proofs.PartLaws.{part_within}
use Rattle.sentences.specs.Valid.{Valid}
use Rattle.sentences.proofs.HoldsValid.{holds_valid}
use Rattle.trace_sentences.specs.BatchTicks.{Case7, Case8, Case9, count, record_of, Refuses, Ran, BatchIs}
use Rattle.trace_sentences.specs.RecordBits.{form}
use Rattle.trace_sentences.proofs.BytePlaces.{dec_or, dec_and, dec_not}

-- ── one state, answer and list ──

pub record SameBatch (g k : Handler) (a b : ℤ) (ws vs : List ℕ) : Type 0 where
  pub state : g ≡ k
  pub answer : a ≡ b
  pub list : ws ≡ vs

-- two ticks with their words agree on the states that P names, and stay there
pub record Agree (P : Handler → Type 0) (tick tock : Handler → Input → Ticked) (word term : Ticked → ℕ) : Type 0 where
  pub keeps : (h : Handler) (x : Input) → P h → P (tick h x).handler
  pub state : (h : Handler) (x : Input) → P h → (tick h x).handler ≡ (tock h x).handler
  pub one_word : (h : Handler) (x : Input) → P h → word (tick h x) ≡ term (tock h x)

same_refuses : (m : ℕ) (h : Handler) (out : List ℕ) (g k : Handler) (a b : ℤ) (ws vs : List ℕ) → Refuses m h out g a ws → Refuses m h out k b vs → SameBatch g k a b ws vs
same_refuses m h out g k a b ws vs x y = record { state = x.state ∙ sym y.state; answer = x.answer ∙ sym y.answer; list = x.list ∙ sym y.list }

module _ (P : Handler → Type 0) (tick tock : Handler → Input → Ticked) (word term : Ticked → ℕ) (c : Agree P tick tock word term) where
  module _ (n : ℕ) (x y : ℕ → Input) (same : (i : ℕ) → i < n → x i ≡ y i) (h : Handler) (p : P h) (out : List ℕ) (g k : Handler) (a b : ℤ) (ws vs : List ℕ)
      (r : Ran tick word n x h out g a ws) (s : Ran tock term n y h out k b vs) where
    on_the_way : (i : ℕ) → i ≤ n → P (r.states i) × (r.states i ≡ s.states i)
    on_the_way zero l = (subst P (sym r.first) p, r.first ∙ sym s.first)
    on_the_way (suc i) l =
        let m : i < n = omega arith in
        let w = on_the_way i (omega arith) in (
          subst P (sym (r.next i m)) (c.keeps (r.states i) (x i) w.0),
          r.next i m ∙ c.state (r.states i) (x i) w.0 ∙ ap₂ (λ (g : Handler) (z : Input). (tock g z).handler) w.1 (same i m) ∙ sym (s.next i m),
        )

    same_words : (i : ℕ) → Dec (i < n) → get_or ws i 0 ≡ get_or vs i 0
    same_words i (yes m) =
        let w = on_the_way i (omega arith) in
        r.word_of_law i m ∙ c.one_word (r.states i) (x i) w.0 ∙ ap₂ (λ (g : Handler) (z : Input). term (tock g z)) w.1 (same i m) ∙ sym (s.word_of_law i m)
    same_words i (no f) = let m : n ≤ i = omega arith in r.later i m ∙ sym (s.later i m)

    same_ran : SameBatch g k a b ws vs
    same_ran =
        record {
          state = r.last ∙ (on_the_way n (omega arith)).1 ∙ sym s.last;
          answer = r.answer ∙ sym s.answer;
          list = ext_get_or 0 ws vs (r.lent ∙ sym s.lent) (λ i l. same_words i (dec_lt i n));
        }

-- ── each case can be decided ──

pub dec_valid : (h : Handler) → Dec (Valid h)
dec_valid h = go (valid h) (holds_valid h)
  where
    go : (b : Bool) → (b ≡ true) ↔ Valid h → Dec (Valid h)
    go true s = yes (s.0 refl)
    go false s = no (λ v. false≢true (s.1 v))

dec_false : (b : Bool) → Dec (b ≡ false)
dec_false true = no (λ e. false≢true (sym e))
dec_false false = yes refl

pub dec_7 : (e : Edition) (h : Handler) → Dec (Case7 e h)
dec_7 e h =
    dec_or (dec_not (dec_valid h)) (dec_or (dec_lt (form e).alerts h.n) (dec_and (dec_false (form e).timer) (ℕ_discrete h.timer.enable 1)))

-- ── the records ──

pub length_record : (e : Edition) (bytes : List ℕ) (i : ℕ) → 0 < (form e).bytes → i < count e bytes → length (record_of e bytes i) ≡ (form e).bytes
length_record e bytes i p l =
    let w : i * (form e).bytes + (form e).bytes ≤ length bytes = part_within (form e).bytes p (length bytes) i l in
    length-take-le (form e).bytes (drop (i * (form e).bytes) bytes) (simp length-drop (omega arith))

byte_taken : (n : ℕ) (xs : List ℕ) → ((i : ℕ) → get_or xs i 0 ≤ 255) → (i : ℕ) → get_or (take n xs) i 0 ≤ 255
byte_taken zero xs b i = omega arith
byte_taken (suc n) [] b i = omega arith
byte_taken (suc n) (x ∷ xs) b zero = b 0
byte_taken (suc n) (x ∷ xs) b (suc i) = byte_taken n xs (λ j. b (suc j)) i

pub byte_record : (e : Edition) (bytes : List ℕ) (i : ℕ) → ((j : ℕ) → get_or bytes j 0 ≤ 255) → (j : ℕ) → get_or (record_of e bytes i) j 0 ≤ 255
byte_record e bytes i b =
    byte_taken (form e).bytes (drop (i * (form e).bytes) bytes) (λ j. subst (λ (x : ℕ). x ≤ 255) (sym (get_or-drop (i * (form e).bytes) bytes j 0)) (b (i * (form e).bytes + j)))

-- ── the batch ──

module _ (tick tock : Handler → Input → Ticked) (word term : Ticked → ℕ) (read load : Edition → List ℕ → Input) (e : Edition) (h : Handler) (bytes out : List ℕ) (g k : Handler) (a b : ℤ)
    (ws vs : List ℕ) (r : BatchIs tick word read e h bytes out g a ws) (s : BatchIs tock term load e h bytes out k b vs) (some : 0 < (form e).bytes) where
  -- over readers that are one on a record's bytes, and ticks that agree where refusal 7 does not meet the state
  pub same_batch : (P : Handler → Type 0) → Agree P tick tock word term → (Valid h → P h)
      → ((bs : List ℕ) → length bs ≡ (form e).bytes → ((i : ℕ) → get_or bs i 0 ≤ 255) → read e bs ≡ load e bs)
      → ((i : ℕ) → get_or bytes i 0 ≤ 255) → SameBatch g k a b ws vs
  same_batch P c p d f =
      go (dec_valid h) (dec_7 e h) (dec_not (ℕ_discrete (length bytes % (form e).bytes) 0)) (dec_lt (length out) (count e bytes))
    where
      go : Dec (Valid h) → Dec (Case7 e h) → Dec (Case8 e bytes) → Dec (Case9 e bytes out) → SameBatch g k a b ws vs
      go v (yes x) y z = same_refuses 7 h out g k a b ws vs (r.refused_7 x) (s.refused_7 x)
      go v (no x) (yes y) z = same_refuses 8 h out g k a b ws vs (r.refused_8 x y) (s.refused_8 x y)
      go v (no x) (no y) (yes z) = same_refuses 9 h out g k a b ws vs (r.refused_9 x y z) (s.refused_9 x y z)
      go (yes v) (no x) (no y) (no z) =
          same_ran P tick tock word term c (count e bytes) (λ i. read e (record_of e bytes i)) (λ i. load e (record_of e bytes i))
          (λ i l. d (record_of e bytes i) (length_record e bytes i some l) (byte_record e bytes i f)) h (p v) out g k a b ws vs (r.runs x y z) (s.runs x y z)
      go (no v) (no x) (no y) (no z) = absurd (x (inl v))
