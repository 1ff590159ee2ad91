-- "Traces", "Numbers that come back": a batch, in sentences: lengths, places and literal numbers, and no definition of the rules.
-- Assumes nothing.
use Rattle.std.specs.Prelude.{ℕ, suc, ◌*◌, ◌/◌, ◌%◌, ◌≤◌, ◌<◌, ◌≡◌, ◌⊎◌, ◌≢◌, false, List, ℤ, pos, neg_ℤ, get_or, length, take, drop}
use Rattle.trace_rules.specs.declared.Edition.{Edition}
use Rattle.rules.specs.declared.Handler.{Handler}
use Rattle.rules.specs.declared.Input.{Input}
use Rattle.rules.specs.declared.Ticked.{Ticked}
use Rattle.sentences.specs.Valid.{Valid}
use Rattle.trace_sentences.specs.RecordBits.{form}

-- ── the cases ──

-- "7 state that breaks the rule below"; request (iii): "old inputs and batches keep 64 .., so an old batch answers 7 to a handler of more than 64 alerts";
-- request (ix): "as in (iii) an older batch answers 7 where the timer is on", which it is where register 6 is 1; older than (ix): request (xi)'s "older
-- editions run as in (ix)"
abbrev pub Case7 : Edition → Handler → Type 0
Case7 e h = (¬ Valid h) ⊎ (((form e).alerts < h.n) ⊎ (((form e).timer ≡ false) × (h.timer.enable ≡ 1)))

-- "8 batch length not a multiple of 24"; request (iii): "8 reads 70; old .. batches keep .. 24"; request (ix): "Records grow to 75 bytes", which
-- they keep in request (xi)
abbrev pub Case8 : Edition → List ℕ → Type 0
Case8 e bytes = length bytes % (form e).bytes ≢ 0

-- the records in the bytes, and the bytes of record i
abbrev pub count : Edition → List ℕ → ℕ
count e bytes = length bytes / (form e).bytes

abbrev pub record_of : Edition → List ℕ → ℕ → List ℕ
record_of e bytes i = take (form e).bytes (drop (i * (form e).bytes) bytes)

-- "9 output list shorter than the records"
abbrev pub Case9 : Edition → List ℕ → List ℕ → Type 0
Case9 e bytes out = length out < count e bytes

-- ── what is left: h is the state given, out the list lent; g is the state left, a the answer, ws the list left ──

-- 8 and 9: "state and list unchanged"; 7: "state unchanged, tick not run", a reading: so no word either; "a refusal gives the negated refusal number"
pub record Refuses (m : ℕ) (h : Handler) (out : List ℕ) (g : Handler) (a : ℤ) (ws : List ℕ) : Type 0 where
  pub answer : a ≡ neg_ℤ (pos m)
  pub state : g ≡ h
  pub list : ws ≡ out

-- "By demand 2 a batch is the list of its records' ticks": n records, of which record i holds the input x i
pub record Ran (tick : Handler → Input → Ticked) (word : Ticked → ℕ) (n : ℕ) (x : ℕ → Input) (h : Handler) (out : List ℕ) (g : Handler) (a : ℤ) (ws : List ℕ) : Type 0
  where
    -- "A batch that isn't refused answers 0"
    pub answer : a ≡ pos 0
    -- the states on the way: the first is the one given, each next is left by the tick of its record, the last is left by the batch; "No bytes means
    -- no ticks"; "a record in it that gets 1 to 5 still takes its tick with its samples and the batch goes on"
    pub states : ℕ → Handler
    pub first : states 0 ≡ h
    pub next : (i : ℕ) → i < n → states (suc i) ≡ (tick (states i) (x i)).handler
    pub last : g ≡ states n
    -- "A batch fills a lent list of 64-bit words, one per record"
    pub word_of_law : (i : ℕ) → i < n → get_or ws i 0 ≡ word (tick (states i) (x i))
    -- "Later words stay as they were."
    pub later : (i : ℕ) → n ≤ i → get_or ws i 0 ≡ get_or out i 0
    pub lent : length ws ≡ length out

-- ── the sentences: "for a batch 7, 8, 9. Each is given exactly in its case." ──

pub record BatchIs (tick : Handler → Input → Ticked) (word : Ticked → ℕ) (read : Edition → List ℕ → Input) (e : Edition) (h : Handler) (bytes out : List ℕ)
    (g : Handler) (a : ℤ) (ws : List ℕ) : Type 0 where
  pub refused_7 : Case7 e h → Refuses 7 h out g a ws
  pub refused_8 : ¬ Case7 e h → Case8 e bytes → Refuses 8 h out g a ws
  pub refused_9 : ¬ Case7 e h → ¬ Case8 e bytes → Case9 e bytes out → Refuses 9 h out g a ws
  pub runs : ¬ Case7 e h → ¬ Case8 e bytes → ¬ Case9 e bytes out → Ran tick word (count e bytes) (λ i. read e (record_of e bytes i)) h out g a ws

-- of every edition, state, bytes and list; the state left, the answer and the list left are given apart
abbrev pub Batches : (Handler → Input → Ticked) → (Ticked → ℕ) → (Edition → List ℕ → Input) → (Edition → Handler → List ℕ → List ℕ → Handler)
    → (Edition → Handler → List ℕ → List ℕ → ℤ) → (Edition → Handler → List ℕ → List ℕ → List ℕ) → Type 0
Batches tick word read state answer list =
    (e : Edition) (h : Handler) (bytes out : List ℕ)
    → BatchIs tick word read e h bytes out (state e h bytes out) (answer e h bytes out) (list e h bytes out)
