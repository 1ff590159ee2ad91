-- Request (xiv), its sentences about states and their dumps. proofs/Dumps.antt proves all of them.
-- Assumes nothing.
use Rattle.std.specs.Prelude.{ℕ, zero, suc, ◌-◌, ◌≤◌, ◌<◌, ◌≡◌, ◌≢◌, ◌↔◌, true, cond, List, [], ◌∷◌, ◌++◌, pos, length, get_or, take}
use Rattle.dump_rules.specs.Content.{content_by}
use Rattle.dump_rules.specs.Dump.{dump_of}
use Rattle.dump_rules.specs.Reader.{shows, cut_start, no_dump, read_dump}
use Rattle.dump_rules.specs.Shown.{Shown, limit, is_cause, numbers_with, shown}
use Rattle.dump_rules.specs.Writer.{write_dump}
use Rattle.dump_rules.specs.declared.Content.{Content}
use Rattle.formats.specs.BitList.{AreBytes}
use Rattle.laws.specs.InMap.{in_map}
use Rattle.rules.specs.Access.{value}
use Rattle.rules.specs.Map.{decode, is_lock, is_shadowed}
use Rattle.rules.specs.Stages.{stage}
use Rattle.rules.specs.State.{most, class_count, class_at}
use Rattle.rules.specs.Valid.{valid}
use Rattle.rules.specs.declared.Handler.{Handler}
use Rattle.rules.specs.declared.Register.{Register}

-- ── the registers that a dump shows, by their numbers, of a handler of n alerts ──

-- m numbers from a on
abbrev pub up_from : ℕ → ℕ → List ℕ
up_from a zero = []
up_from a (suc m) = a ∷ up_from (suc a) m

pub record Listed (n : ℕ) : Type 0 where
  -- causes of the local alerts and of the alerts
  pub causes : numbers_with is_cause n ≡ up_from 40 7 ++ up_from 1024 n
  -- the ping timer's REGWEN, those of the local alerts and of the alerts, and REGWEN and CLR_REGWEN of each class
  pub locks :
      numbers_with is_lock n
      ≡ (4 ∷ up_from 16 7) ++ (up_from 256 n ++ (1280 ∷ 1282 ∷ 1296 ∷ 1298 ∷ 1312 ∷ 1314 ∷ 1328 ∷ 1330 ∷ []))
  -- those that may have a stage: the ping timer's timeout, EN and CLASS, and of each class CTRL, ACCUM_THRESH, TIMEOUT_CYC and the lengths
  pub shadowed :
      numbers_with is_shadowed n
      ≡ (5 ∷ (up_from 24 7 ++ up_from 32 7))
      ++ (up_from 512 n ++ (up_from 768 n ++ ((1281 ∷ up_from 1285 6) ++ ((1297 ∷ up_from 1301 6) ++ ((1313 ∷ up_from 1317 6) ++ (1329 ∷ up_from 1333 6))))))

-- ── dumps and their starts, of states that 7 accepts ──

-- the bytes are what the writer can write of a state
abbrev pub IsDumpOf : List ℕ → Handler → Type 0
IsDumpOf bytes h = (valid h ≡ true) × (bytes ≡ dump_of (shown h))

-- "a cut start of a dump": some nonempty rest makes the bytes a dump
abbrev pub IsCutStart : List ℕ → Type 0
IsCutStart bytes = (h : Handler) × (rest : List ℕ) × (rest ≢ []) × IsDumpOf (bytes ++ rest) h

-- ── all that a dump shows ──

-- two states agree in it. It does not show EN, CLASS, CTRL, thresholds, timeouts, lengths, interrupts, registers 5 and 6, the ping timer's turn, receivers
-- and senders, and entries at N and above; of a shadowed register it shows an open stage.
pub record Agree (g h : Handler) : Type 0 where
  pub n : g.n ≡ h.n
  pub state : (k : ℕ) → k < class_count → (class_at g k).state ≡ (class_at h k).state
  pub count : (k : ℕ) → k < class_count → (class_at g k).count ≡ (class_at h k).count
  pub accum : (k : ℕ) → k < class_count → (class_at g k).accum ≡ (class_at h k).accum
  pub cause : (q : Register) → in_map g.n q ≡ true → is_cause q ≡ true → value g q ≡ value h q
  pub lock : (q : Register) → in_map g.n q ≡ true → is_lock q ≡ true → value g q ≡ value h q
  pub stages : (q : Register) → in_map g.n q ≡ true → stage g q ≡ stage h q

-- the content tells what the state holds, by register number: a cause, 1 for locked, a stage's code, and 0 at every other number
pub record Tells (h : Handler) (c : Content) : Type 0 where
  pub answer : c.answer ≡ pos 0
  pub n : c.n ≡ h.n
  pub class : (k : ℕ) → k < class_count
      → get_or c.classes k (record { state = 0; count = 0; accum = 0 }) ≡ record { state = (class_at h k).state; count = (class_at h k).count; accum = (class_at h k).accum }
  pub stages : (r : ℕ) → r < limit → get_or c.stages r 0 ≡ stage h (decode h.n r)
  pub causes : (r : ℕ) → r < limit → get_or c.causes r 0 ≡ cond (is_cause (decode h.n r)) (value h (decode h.n r)) 0
  pub locked : (r : ℕ) → r < limit → get_or c.locked r 0 ≡ cond (is_lock (decode h.n r)) (1 - value h (decode h.n r)) 0

-- ── the sentences ──

pub record Dumps : Type 0 where
  -- "all causes, all locks, CLR_REGWEN too .. register numbers rising", and "numbers rising, each one's register"
  pub listed : (n : ℕ) → n ≤ most → Listed n
  -- no dump is longer than 3332 bytes
  pub longest : (h : Handler) → valid h ≡ true → length (dump_of (shown h)) ≤ 3332
  -- "a dump read back shows what the state held", and so does what a caller gets
  pub read_back : (h : Handler) → valid h ≡ true → read_dump (dump_of (shown h)) ≡ shows (shown h)
  pub tells : (h : Handler) → valid h ≡ true → Tells h (content_by (read_dump (dump_of (shown h))))
  -- "each shown content has one dump", and contents that callers get are equal for equal dumps alone
  pub one_dump : (a b : List ℕ) (s : Shown) → AreBytes a → AreBytes b → read_dump a ≡ shows s → read_dump b ≡ shows s → a ≡ b
  pub one_form :
      (a b : List ℕ) → AreBytes a → AreBytes b → (content_by (read_dump a)).answer ≡ pos 0 → content_by (read_dump a) ≡ content_by (read_dump b) → a ≡ b
  -- the reader accepts exactly what the writer can write, and shows what the state held of which it was written
  pub accepts : (bytes : List ℕ) (s : Shown) → AreBytes bytes → (read_dump bytes ≡ shows s) ↔ ((h : Handler) × IsDumpOf bytes h × (shown h ≡ s))
  pub writes :
      (h : Handler) (buffer : List ℕ) → valid h ≡ true → length (dump_of (shown h)) ≤ length buffer
      → ((write_dump h buffer).answer ≡ pos (length (dump_of (shown h)))) × (take (length (dump_of (shown h))) (write_dump h buffer).buffer ≡ dump_of (shown h))
  -- "17 for a cut start of a dump or no bytes, 16 for the rest"
  pub seventeen : (bytes : List ℕ) → AreBytes bytes → (read_dump bytes ≡ cut_start) ↔ IsCutStart bytes
  pub no_bytes : read_dump [] ≡ cut_start
  pub sixteen : (bytes : List ℕ) → AreBytes bytes → (read_dump bytes ≡ no_dump) ↔ (((h : Handler) → ¬ IsDumpOf bytes h) × ¬ IsCutStart bytes)
  -- equal dumps are those of states that agree in all that a dump shows
  pub agree : (g h : Handler) → valid g ≡ true → valid h ≡ true → (dump_of (shown g) ≡ dump_of (shown h)) ↔ Agree g h
