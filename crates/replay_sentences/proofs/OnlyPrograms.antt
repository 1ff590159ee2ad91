-- No sentence is missing: two programs of which they hold print the same text for any bytes. So what the contracts cite is what each of them prints.
-- Assumes nothing.
use Prim.Native.Nat.{ℕ, zero, suc, ◌+◌, ◌-◌, ◌*◌, ◌/◌, ◌%◌, ◌^◌, ◌≤◌, ◌<◌}
use mathlib.Core.Path.{◌≡◌, sym, ap, ap₂, ◌∙◌, subst}
use mathlib.Core.Logic.{inl, inr}
use mathlib.Core.List.{List, [], ◌∷◌}
use native.Mathlib.Omega.{arith}
use native.Mathlib.Decide.{dec_lt, ℕ_discrete}
use lib.ListN.{get_or, length}
use lib.Seq.{ext_get_or}
use Rattle.laws.proofs.Valid.KeepsValid.{made_valid}
use Rattle.rules.specs.State.{made}
use Rattle.rules.specs.declared.Handler.{Handler}
use Rattle.rules.specs.declared.Input.{Input}
use Rattle.rules.specs.declared.Made.{Made}
use Rattle.rules.specs.declared.Ticked.{Ticked}
use Rattle.sentences.specs.Valid.{Valid}
use Rattle.sentences.proofs.HoldsMaking.{holds_making}
use Rattle.sentences.proofs.HoldsValid.{holds_valid}
use Rattle.sentences.proofs.OnlyMaking.{only_making}
use Rattle.trace_rules.specs.declared.Edition.{Edition}
use Rattle.trace_rules.specs.declared.Edition.TheVariants.{Alerts64, Alerts248, Pings, Wires}
use Rattle.trace_sentences.specs.BatchTicks.{count, record_of}
use Rattle.trace_sentences.specs.RecordBits.{form}
use Rattle.trace_sentences.proofs.OnlyBatches.{Agree, byte_record, length_record}
use Rattle.trace_sentences.proofs.OnlyRecords.{only_reader}
use Rattle.trace_sentences.proofs.Replays.{Good, agree, some}
use Rattle.trace_sentences.proofs.Sizes.{sized_made}
use Rattle.replay_rules.specs.Prints.{prints}
use Rattle.replay_sentences.specs.Texts.{HexDigit, LineAt, CutAt, TextIs}
use Rattle.replay_sentences.specs.Programs.{StartIs, Program}
use Rattle.replay_sentences.proofs.HoldsPrograms.{holds_program}

-- ── a digit, a line, the end ──

only_digit : (x c d : ℕ) → HexDigit x c → HexDigit x d → c ≡ d
only_digit x c d p q = go (dec_lt x 10)
  where
    go : Dec (x < 10) → c ≡ d
    go (yes l) = let m : x ≤ 9 = omega arith in p.to_9 m ∙ sym (q.to_9 m)
    go (no f) = let m : 10 ≤ x = omega arith in p.from_10 m ∙ sym (q.from_10 m)

same_line : (t u : List ℕ) (p w : ℕ) → LineAt t p w → LineAt u p w → (j : ℕ) → j < 17 → get_or t (p + j) 0 ≡ get_or u (p + j) 0
same_line t u p w a b j l = go (dec_lt j 16)
  where
    go : Dec (j < 16) → get_or t (p + j) 0 ≡ get_or u (p + j) 0
    go (yes m) = only_digit (w / 2 ^ (60 - 4 * j) % 16) (get_or t (p + j) 0) (get_or u (p + j) 0) (a.digit j m) (b.digit j m)
    go (no f) =
        let e : j ≡ 16 = omega arith in
        ap (λ (k : ℕ). get_or t (p + k) 0) e ∙ a.newline ∙ sym b.newline ∙ ap (λ (k : ℕ). get_or u (p + k) 0) (sym e)

same_cut : (t u : List ℕ) (p : ℕ) → CutAt t p → CutAt u p → (j : ℕ) → j < 4 → get_or t (p + j) 0 ≡ get_or u (p + j) 0
same_cut t u p a b zero l =
    let e : p + 0 ≡ p = omega arith in
    ap (λ (k : ℕ). get_or t k 0) e ∙ a.letter_c ∙ sym b.letter_c ∙ ap (λ (k : ℕ). get_or u k 0) (sym e)
same_cut t u p a b (suc zero) l = a.letter_u ∙ sym b.letter_u
same_cut t u p a b (suc (suc zero)) l = a.letter_t ∙ sym b.letter_t
same_cut t u p a b (suc (suc (suc zero))) l = a.newline ∙ sym b.newline
same_cut t u p a b (suc (suc (suc (suc j)))) l = absurd (omega (arith, l))

-- ── the text ──

module _ (tick tock : Handler → Input → Ticked) (word term : Ticked → ℕ) (c : Agree Good tick tock word term) (read load : Edition → List ℕ → Input) (e : Edition) (bytes : List ℕ)
    (same : (i : ℕ) → i < count e bytes → read e (record_of e bytes i) ≡ load e (record_of e bytes i)) (h : Handler) (g : Good h) (t u : List ℕ)
    (p : TextIs tick word read e h bytes t) (q : TextIs tock term load e h bytes u) where
  abbrev n : ℕ
  n = count e bytes

  on_the_way : (i : ℕ) → i ≤ n → Good (p.states i) × (p.states i ≡ q.states i)
  on_the_way zero l = (subst Good (sym p.first) g, p.first ∙ sym q.first)
  on_the_way (suc i) l =
      let m : i < n = omega arith in
      let w = on_the_way i (omega arith) in
      let x = read e (record_of e bytes i) in (
        subst Good (sym (p.next i m)) (c.keeps (p.states i) x w.0),
        p.next i m ∙ c.state (p.states i) x w.0 ∙ ap₂ (λ (k : Handler) (z : Input). (tock k z).handler) w.1 (same i m) ∙ sym (q.next i m),
      )

  same_word : (i : ℕ) → i < n → word (tick (p.states i) (read e (record_of e bytes i))) ≡ term (tock (q.states i) (load e (record_of e bytes i)))
  same_word i m =
      let w = on_the_way i (omega arith) in
      c.one_word (p.states i) (read e (record_of e bytes i)) w.0 ∙ ap₂ (λ (k : Handler) (z : Input). term (tock k z)) w.1 (same i m)

  -- place i of the lines is place i % 17 of line i / 17
  in_lines : (i : ℕ) → i < 17 * n → get_or t i 0 ≡ get_or u i 0
  in_lines i l =
      let k : i / 17 < n = omega arith in
      let r : i % 17 < 17 = omega arith in
      let s : 17 * (i / 17) + i % 17 ≡ i = omega arith in
      let b = subst (LineAt u (17 * (i / 17))) (sym (same_word (i / 17) k)) (q.line (i / 17) k) in
      ap (λ (z : ℕ). get_or t z 0) (sym s) ∙ same_line t u (17 * (i / 17)) _ (p.line (i / 17) k) b (i % 17) r ∙ ap (λ (z : ℕ). get_or u z 0) s

  behind_lines : CutAt t (17 * n) → CutAt u (17 * n) → (i : ℕ) → 17 * n ≤ i → i < 17 * n + 4 → get_or t i 0 ≡ get_or u i 0
  behind_lines a b i k l =
      let s : 17 * n + (i - 17 * n) ≡ i = omega arith in
      ap (λ (z : ℕ). get_or t z 0) (sym s) ∙ same_cut t u (17 * n) a b (i - 17 * n) (omega arith) ∙ ap (λ (z : ℕ). get_or u z 0) s

  only_text : t ≡ u
  only_text = go (ℕ_discrete (length bytes % (form e).bytes) 0)
    where
      at : CutAt t (17 * n) → CutAt u (17 * n) → (i : ℕ) → i < length t → Dec (i < 17 * n) → get_or t i 0 ≡ get_or u i 0
      at a b i l (yes m) = in_lines i m
      at a b i l (no f) = behind_lines a b i (omega arith) (omega (arith, a.end))

      go : Dec (length bytes % (form e).bytes ≡ 0) → t ≡ u
      go (yes z) = ext_get_or 0 t u (p.whole z ∙ sym (q.whole z)) (λ i l. in_lines i (omega (arith, p.whole z)))
      go (no f) = let a = p.cut f in let b = q.cut f in ext_get_or 0 t u (a.end ∙ sym b.end) (λ i l. at a b i l (dec_lt i (17 * n)))

-- ── the program ──

module _ (f g : List ℕ → List ℕ) (p : Program f) (q : Program g) where
  same_made : (n : ℕ) → p.made n ≡ q.made n
  same_made = only_making p.made q.made p.making q.making

  agreed : Agree Good p.tick q.tick p.word q.word
  agreed = agree p.tick q.tick p.number q.number p.ticks q.ticks p.word q.word p.words q.words

  good_made : (n : ℕ) → Good (p.made n).handler
  good_made n = (
    subst (λ (m : Made). Valid m.handler) (sym (only_making p.made made p.making holds_making n)) ((holds_valid (made n).handler).0 (made_valid n)),
    sized_made n (p.made n) (p.making n),
  )

  same_start : (e : Edition) (n : ℕ) (bytes t u : List ℕ) → ((i : ℕ) → get_or bytes i 0 ≤ 255) → StartIs p.made p.tick p.word p.read e n bytes t
      → StartIs q.made q.tick q.word q.read e n bytes u → t ≡ u
  same_start e n bytes t u b x y = go (ℕ_discrete n 0) (dec_lt (form e).alerts n)
    where
      go : Dec (n ≡ 0) → Dec ((form e).alerts < n) → t ≡ u
      go (yes z) d = x.refused (inl z) ∙ sym (y.refused (inl z))
      go (no z) (yes l) = x.refused (inr l) ∙ sym (y.refused (inr l))
      go (no z) (no l) =
          let a : 1 ≤ n = omega arith in
          let m : n ≤ (form e).alerts = omega arith in
          let w = subst (λ (s : Made). TextIs q.tick q.word q.read e s.handler bytes u) (sym (same_made n)) (y.runs a m) in
          only_text p.tick q.tick p.word q.word agreed p.read q.read e bytes
          (λ i r. only_reader p.read q.read p.reads q.reads e (record_of e bytes i) (length_record e bytes i (some e) r) (byte_record e bytes i b)) (p.made n).handler
          (good_made n) t u (x.runs a m) w

  -- for any bytes
  pub only_program : (bytes : List ℕ) → ((i : ℕ) → get_or bytes i 0 ≤ 255) → f bytes ≡ g bytes
  only_program [] b = p.missing ∙ sym q.missing
  only_program (first ∷ bytes) b = go (dec_lt first 253) bytes (λ i. b (suc i))
    where
      three : (n : ℕ) (bs : List ℕ) → ((i : ℕ) → get_or bs i 0 ≤ 255) → Dec (first ≡ 255) → Dec (first ≡ 254) → 253 ≤ first → f (first ∷ n ∷ bs) ≡ g (first ∷ n ∷ bs)
      three n bs c (yes e) d l =
          ap (λ (k : ℕ). f (k ∷ n ∷ bs)) e ∙ same_start Alerts248 n bs (f (255 ∷ n ∷ bs)) (g (255 ∷ n ∷ bs)) c (p.at_255 n bs) (q.at_255 n bs)
          ∙ ap (λ (k : ℕ). g (k ∷ n ∷ bs)) (sym e)
      three n bs c (no e) (yes d) l =
          ap (λ (k : ℕ). f (k ∷ n ∷ bs)) d ∙ same_start Pings n bs (f (254 ∷ n ∷ bs)) (g (254 ∷ n ∷ bs)) c (p.at_254 n bs) (q.at_254 n bs)
          ∙ ap (λ (k : ℕ). g (k ∷ n ∷ bs)) (sym d)
      three n bs c (no e) (no d) l =
          let z : first ≡ 253 = omega (arith, b 0) in
          ap (λ (k : ℕ). f (k ∷ n ∷ bs)) z ∙ same_start Wires n bs (f (253 ∷ n ∷ bs)) (g (253 ∷ n ∷ bs)) c (p.at_253 n bs) (q.at_253 n bs)
          ∙ ap (λ (k : ℕ). g (k ∷ n ∷ bs)) (sym z)

      go : Dec (first < 253) → (bs : List ℕ) → ((i : ℕ) → get_or bs i 0 ≤ 255) → f (first ∷ bs) ≡ g (first ∷ bs)
      go (yes l) bs c =
          let m : first ≤ 252 = omega arith in same_start Alerts64 first bs (f (first ∷ bs)) (g (first ∷ bs)) c (p.others first bs m) (q.others first bs m)
      go (no l) [] c = let m : 253 ≤ first = omega arith in p.missing_n first m (b 0) ∙ sym (q.missing_n first m (b 0))
      go (no l) (n ∷ bs) c = three n bs (λ i. c (suc i)) (ℕ_discrete first 255) (ℕ_discrete first 254) (omega arith)

-- whatever is as the sentences say prints what the contracts cite
pub is_the_program : (f : List ℕ → List ℕ) → Program f → (bytes : List ℕ) → ((i : ℕ) → get_or bytes i 0 ≤ 255) → f bytes ≡ prints bytes
is_the_program f p bytes b = only_program f prints p holds_program bytes b
