-- No sentence of a record is missing: whatever satisfies them is one access and sample. Nothing here knows the rules' definitions.
-- Assumes nothing.
use Prim.Native.Nat.{ℕ, ◌+◌, ◌-◌, ◌≤◌, ◌<◌}
use mathlib.Core.Path.{◌≡◌, refl, sym, ap, ap₂, ◌∙◌, subst}
use mathlib.Core.Logic.{inl}
use mathlib.Core.Bool.{Bool, true, false}
use mathlib.Core.List.{List}
use native.Mathlib.Omega.{arith}
use native.Mathlib.Decide.{dec_lt}
use lib.ListN.{get_or, length}
use Rattle.bits.specs.Bits.{field}
use Rattle.bits.specs.Fields.{of_bytes}
use Rattle.bits.specs.Index.{place_in}
use Rattle.bits.proofs.BitLaws.{bit_ext}
use Rattle.rules.specs.declared.Access.{Access}
use Rattle.trace_rules.specs.declared.Edition.{Edition}
use Rattle.trace_rules.specs.declared.Edition.TheVariants.{Alerts64, Alerts248, Pings, Wires}
use Rattle.rules.specs.declared.Input.{Input}
use Rattle.rules.specs.declared.Receive.{Receive}
use Rattle.sentences.proofs.SentenceCases.{by_phase}
use Rattle.sentences.proofs.OnlySamples.{same_words}
use Rattle.trace_sentences.specs.RecordBits.{form, Kind, Bad, Kept, Carried, Means, Names, WiresAre, AnswersAre, PairsAre, ReceiveIs, Form, Holds, Reader}
use Rattle.trace_sentences.proofs.BytePlaces.{field_stands, one_stands, dec_some, dec_stands, dec_or, dec_and}

-- ── register numbers ──

same_kept : (r p q : ℕ) → Kept r p → Kept r q → p ≡ q
same_kept r p q x y = go (dec_lt r 4) (dec_lt r 7)
  where
    go : Dec (r < 4) → Dec (r < 7) → p ≡ q
    go (yes a) b = x.below a ∙ sym (y.below a)
    go (no a) (yes b) = let h : 4 ≤ r = omega arith in let l : r ≤ 6 = omega arith in x.timer h l ∙ sym (y.timer h l)
    go (no a) (no b) = let h : 7 ≤ r = omega arith in x.above h ∙ sym (y.above h)

same_carried : (r p q : ℕ) → Carried r p → Carried r q → p ≡ q
same_carried r p q x y = go (dec_lt r 64) (dec_lt r 128) (dec_lt r 192) (dec_lt r 256) (dec_lt r 320) (dec_lt r 384)
  where
    go : Dec (r < 64) → Dec (r < 128) → Dec (r < 192) → Dec (r < 256) → Dec (r < 320) → Dec (r < 384) → p ≡ q
    go (yes a) b c d e f = same_kept r p q (x.low a) (y.low a)
    go (no a) (yes b) c d e f =
        let i : r - 64 < 64 = omega arith in let j : r ≡ 64 + (r - 64) = omega arith in x.regwen (r - 64) i j ∙ sym (y.regwen (r - 64) i j)
    go (no a) (no b) (yes c) d e f =
        let i : r - 128 < 64 = omega arith in let j : r ≡ 128 + (r - 128) = omega arith in x.en (r - 128) i j ∙ sym (y.en (r - 128) i j)
    go (no a) (no b) (no c) (yes d) e f =
        let i : r - 192 < 64 = omega arith in let j : r ≡ 192 + (r - 192) = omega arith in x.class (r - 192) i j ∙ sym (y.class (r - 192) i j)
    go (no a) (no b) (no c) (no d) (yes e) f =
        let i : r - 256 < 64 = omega arith in let j : r ≡ 256 + (r - 256) = omega arith in x.cause (r - 256) i j ∙ sym (y.cause (r - 256) i j)
    go (no a) (no b) (no c) (no d) (no e) (yes f) =
        let i : r - 320 < 64 = omega arith in let j : r ≡ 320 + (r - 320) = omega arith in x.classes (r - 320) i j ∙ sym (y.classes (r - 320) i j)
    go (no a) (no b) (no c) (no d) (no e) (no f) = let i : 384 ≤ r = omega arith in x.none i ∙ sym (y.none i)

same_means : (e : Edition) (r p q : ℕ) → Means e r p → Means e r q → p ≡ q
same_means Alerts64 r p q x y = same_carried r p q x y
same_means Alerts248 r p q x y = same_kept r p q x y
same_means Pings r p q x y = x ∙ sym y
same_means Wires r p q x y = x ∙ sym y

same_names : (e : Edition) (bytes : List ℕ) (p q : ℕ) → Names e bytes p → Names e bytes q → p ≡ q
same_names e bytes p q (r, s, m) (u, t, n) =
    let d : u ≡ r = one_stands bytes (form e).register_at_law (form e).register_bits u r t s in
    same_means e r p q m (subst (λ (x : ℕ). Means e x q) d n)

-- ── wires ──

same_wires : (bytes : List ℕ) (s n : ℕ) (ws vs : List ℕ) → WiresAre bytes s n ws → WiresAre bytes s n vs → ws ≡ vs
same_wires bytes s n ws vs x y = same_words ws vs x.words y.words x.word y.word (λ i l. go i l (dec_lt i n))
  where
    go : (i : ℕ) → i < 256 → Dec (i < n) → place_in ws i ≡ place_in vs i
    go i l (yes a) = x.wire i a ∙ sym (y.wire i a)
    go i l (no a) = let b : n ≤ i = omega arith in x.past i b l ∙ sym (y.past i b l)

-- ── what comes back from the lines ──

same_answers : (bytes : List ℕ) (n w a b : ℕ) → AnswersAre bytes n w a → AnswersAre bytes n w b → a ≡ b
same_answers bytes n w a b x y = bit_ext w a b x.size y.size (λ l h. x.line l h ∙ sym (y.line l h))

-- two pairs of numbers that have the bits of some pairs
pub same_pairs : (bytes : List ℕ) (n p m q o : ℕ) → PairsAre bytes n p m → PairsAre bytes n q o → p < 16 → m < 16 → q < 16 → o < 16 → Receive.Pairs p m ≡ Receive.Pairs q o
same_pairs bytes n p m q o x y a b c d =
    ap₂ Receive.Pairs (bit_ext 4 p q a c (λ l h. x.positive l h ∙ sym (y.positive l h))) (bit_ext 4 m o b d (λ l h. x.negative l h ∙ sym (y.negative l h)))

pub same_receive : (f : Form) (bytes : List ℕ) (r s : Receive) → ReceiveIs f bytes r → ReceiveIs f bytes s → r ≡ s
same_receive f bytes r s x y = go f.checked refl
  where
    go : (b : Bool) → f.checked ≡ b → r ≡ s
    go false c =
        let (a, u, e) = x.answers c in let (b, v, d) = y.answers c in
        e ∙ ap Receive.Answers (same_answers bytes f.answers_at f.answer_bits a b u v) ∙ sym d
    go true c =
        let (p, m, u, i, j, e) = x.pairs c in let (q, o, v, k, l, d) = y.pairs c in
        e ∙ same_pairs bytes f.pairs_at p m q o u v i j k l ∙ sym d

-- ── the access ──

module _ (e : Edition) (bytes : List ℕ) (k : ℕ) (s : Kind bytes k) (x y : Input) (a : Holds e bytes x) (b : Holds e bytes y) where
  dec_kind : (j : ℕ) → Dec (Kind bytes j)
  dec_kind j = dec_stands bytes 0 2 k j s

  dec_bad : Dec (Bad (form e) bytes)
  dec_bad =
      dec_or (dec_kind 3)
      (dec_or (dec_some bytes (form e).zeros_at (form e).zero_bits)
      (dec_or (dec_some bytes (form e).more_zeros_at (form e).more_zero_bits)
      (dec_or (dec_and (dec_kind 1) (dec_some bytes (form e).value_at 32))
      (dec_and (dec_kind 0) (dec_or (dec_some bytes (form e).register_at_law (form e).register_bits) (dec_some bytes (form e).value_at 32))))))

  by_kind : ¬ Bad (form e) bytes → (j : ℕ) → j < 4 → Kind bytes j → x.access ≡ y.access
  by_kind f =
      by_phase (λ j. Kind bytes j → x.access ≡ y.access) (λ t. a.nothing f t ∙ sym (b.nothing f t))
      (λ t.
      let p = a.read f t in let q = b.read f t in p.2 ∙ ap (λ (r : ℕ). Access.Read r) (same_names e bytes p.0 q.0 p.1 q.1) ∙ sym q.2)
      (λ t.
      let p = a.write f t in let q = b.write f t in
      p.4 ∙ ap₂ (λ (r v : ℕ). Access.Write r v) (same_names e bytes p.0 q.0 p.2 q.2) (one_stands bytes (form e).value_at 32 p.1 q.1 p.3 q.3)
      ∙ sym q.4)
      (λ t. absurd (f (inl t)))

  pub same_access : x.access ≡ y.access
  same_access = go dec_bad
    where
      go : Dec (Bad (form e) bytes) → x.access ≡ y.access
      go (yes t) = a.malformed t ∙ sym (b.malformed t)
      go (no f) = by_kind f k s.size s

  pub same_input : x ≡ y
  same_input = λ i.
      record {
        access = same_access i;
        sample = record {
          alerts = record {
            pos = same_wires bytes (form e).positive_at (form e).alerts x.sample.alerts.pos y.sample.alerts.pos a.positive b.positive i;
            neg = same_wires bytes (form e).negative_at (form e).alerts x.sample.alerts.neg y.sample.alerts.neg a.negative b.negative i;
          };
          word = one_stands bytes (form e).word_at (form e).word_bits x.sample.word y.sample.word a.word b.word i;
          receive = same_receive (form e) bytes x.sample.receive y.sample.receive a.receive b.receive i;
        };
      }

-- a record has a kind
pub some_kind : (e : Edition) (bytes : List ℕ) → length bytes ≡ (form e).bytes → ((i : ℕ) → get_or bytes i 0 ≤ 255) → (k : ℕ) × Kind bytes k
some_kind Alerts64 bytes l b = (field 190 2 (of_bytes bytes), field_stands bytes b 0 2 190 (omega arith))
some_kind Alerts248 bytes l b = (field 558 2 (of_bytes bytes), field_stands bytes b 0 2 558 (omega arith))
some_kind Pings bytes l b = (field 598 2 (of_bytes bytes), field_stands bytes b 0 2 598 (omega arith))
some_kind Wires bytes l b = (field 598 2 (of_bytes bytes), field_stands bytes b 0 2 598 (omega arith))

-- two readers that satisfy the sentences are one
pub only_reader : (f g : Edition → List ℕ → Input) → Reader f → Reader g → (e : Edition) (bytes : List ℕ) → length bytes ≡ (form e).bytes
    → ((i : ℕ) → get_or bytes i 0 ≤ 255) → f e bytes ≡ g e bytes
only_reader f g x y e bytes l b = let k = some_kind e bytes l b in same_input e bytes k.0 k.1 (f e bytes) (g e bytes) (x e bytes l b) (y e bytes l b)
