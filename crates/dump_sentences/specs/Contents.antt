-- Request (xiv), "The dump after a theft": the content that a reader gives, by register number, in sentences: literal numbers and raw fields, and no definition of the rules.
-- Assumes nothing.
use Rattle.std.specs.Prelude.{ℕ, ◌+◌, ◌<◌, ◌≡◌, pos, neg_ℤ, get_or, length}
use Rattle.dump_rules.specs.declared.Content.{Content}
use Rattle.dump_rules.specs.declared.ContentClass.{ContentClass}
use Rattle.rules.specs.declared.Field.{Field}
use Rattle.rules.specs.declared.Handler.{Handler}
use Rattle.rules.specs.declared.Register.{Register}
use Rattle.rules.specs.declared.Register.TheVariants.{Local, Alert}
use Rattle.sentences.specs.AccessMap.{Names, Regwen}
use Rattle.sentences.specs.Raw.{class_of, held}
use Rattle.dump_sentences.specs.DumpBytes.{Staged}

-- "all causes": those of local alerts and of alerts
pub data Cause : Register → Type 0 where
  local : (j : ℕ) → Cause (Local Field.Cause j)
  alert : (i : ℕ) → Cause (Alert Field.Cause i)

-- entry k of the four classes; past them there is none: never read
abbrev pub content_class : Content → ℕ → ContentClass
content_class c k = get_or c.classes k (record { state = 0; count = 0; accum = 0 })

-- the arrays of a content have their lengths: four classes, and an entry for each number below 1344
pub record Entries (c : Content) : Type 0 where
  pub classes : length c.classes ≡ 4
  pub stages : length c.stages ≡ 1344
  pub causes : length c.causes ≡ 1344
  pub locked : length c.locked ≡ 1344

-- ── "a dump read back shows what the state held" ──

pub record Shows (h : Handler) (c : Content) : Type 0 where
  -- document 01: "anything else accepted gives 0"
  pub answer : c.answer ≡ pos 0
  pub n : c.n ≡ h.n
  pub state : (k : ℕ) → k < 4 → (content_class c k).state ≡ (class_of h k).state
  pub count : (k : ℕ) → k < 4 → (content_class c k).count ≡ (class_of h k).count
  pub accumulator : (k : ℕ) → k < 4 → (content_class c k).accum ≡ (class_of h k).accum
  -- a cause at its register's number, and 0 at every other
  pub cause : (r : ℕ) (q : Register) → Names h.n r q → Cause q → get_or c.causes r 0 ≡ held h q
  pub no_cause : (r : ℕ) → r < 1344 → ((q : Register) → Names h.n r q → ¬ Cause q) → get_or c.causes r 0 ≡ 0
  -- "1 for locked": REGWEN or CLR_REGWEN is 0
  pub locked : (r : ℕ) (q : Register) → Names h.n r q → Regwen q → held h q ≡ 0 → get_or c.locked r 0 ≡ 1
  pub unlocked : (r : ℕ) (q : Register) → Names h.n r q → Regwen q → held h q ≡ 1 → get_or c.locked r 0 ≡ 0
  pub no_lock : (r : ℕ) → r < 1344 → ((q : Register) → Names h.n r q → ¬ Regwen q) → get_or c.locked r 0 ≡ 0
  -- an open stage, in the code that a state has for it: the value plus 1, and 0 for none
  pub stage : (r v : ℕ) → r < 1344 → Staged h r v → get_or c.stages r 0 ≡ v + 1
  pub no_stage : (r : ℕ) → r < 1344 → ((v : ℕ) → ¬ Staged h r v) → get_or c.stages r 0 ≡ 0
  pub entries : Entries c

-- ── "the reader shows nothing of anything else": the negated number m, and 0 everywhere ──

pub record Nothing (m : ℕ) (c : Content) : Type 0 where
  pub answer : c.answer ≡ neg_ℤ (pos m)
  pub n : c.n ≡ 0
  pub state : (k : ℕ) → k < 4 → (content_class c k).state ≡ 0
  pub count : (k : ℕ) → k < 4 → (content_class c k).count ≡ 0
  pub accumulator : (k : ℕ) → k < 4 → (content_class c k).accum ≡ 0
  pub stages : (r : ℕ) → r < 1344 → get_or c.stages r 0 ≡ 0
  pub causes : (r : ℕ) → r < 1344 → get_or c.causes r 0 ≡ 0
  pub locked : (r : ℕ) → r < 1344 → get_or c.locked r 0 ≡ 0
  pub entries : Entries c
