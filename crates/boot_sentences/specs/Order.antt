-- Request (vi), "Boot policy": what is put where, in order, in sentences: register numbers and values, and no definition of the rules or of the policy.
-- Assumes nothing.
use Rattle.std.specs.Prelude.{ℕ, ◌+◌, ◌*◌, ◌≤◌, ◌<◌, ◌≡◌, ◌⊎◌, ◌≢◌}
use Rattle.boot_sentences.specs.Classification.{Letter, letter}
use Rattle.boot_sentences.specs.Classification.Letter.{A, B, C, D, X}

-- what a place of the boot puts: a register's number and the value that it gets, by two writes or by one; or nothing. Request (v): "EN and CLASS of alerts .., and
-- CTRL, ACCUM_THRESH, TIMEOUT_CYC and the phase lengths, now take two equal writes"
pub data Put : Type 0 where
  twice : ℕ → ℕ → Put
  once : ℕ → ℕ → Put
  none : Put

-- CLASS: class A is 0, B 1, C 2, D 3; "X means EN 0 and CLASS 0"
abbrev pub class : Letter → ℕ
class A = 0
class B = 1
class C = 2
class D = 3
class X = 0

-- EN: "X means EN 0 and CLASS 0"
abbrev pub enable : Letter → ℕ
enable A = 1
enable B = 1
enable C = 1
enable D = 1
enable X = 0

-- "in PROD and PROD_END"
abbrev pub Locks : ℕ → Type 0
Locks c = (c ≡ 1) ⊎ (c ≡ 2)

-- "in PROD, PROD_END and DEV"
abbrev pub Enables : ℕ → Type 0
Enables c = Locks c ⊎ (c ≡ 3)

-- the places 0 to 202 of a boot by the column c of the table, "The order is, numbers rising, ..". Request (iii): "Alert blocks move to 256, 512, 768 and 1024", of REGWEN, EN,
-- CLASS and CAUSE, "classes to 1280+16k"; document 01: "+1 CTRL", "+5 ACCUM_THRESH", "+6 TIMEOUT_CYC", "+7 to +10 PHASE0_CYC to PHASE3_CYC"
pub record Order (c : ℕ) (put : ℕ → Put) : Type 0 where
  -- ".. each alert's CLASS then EN, ..": places 0 to 115, two an alert
  pub alert_class : (i : ℕ) → i < 58 → put (2 * i) ≡ twice (768 + i) (class (letter c i))
  pub alert_en : (i : ℕ) → i < 58 → put (2 * i + 1) ≡ twice (512 + i) (enable (letter c i))
  -- ".. each class's threshold, timeout, lengths and CTRL, ..": places 116 to 143, seven a class
  -- "then its class settings": document 002, "Accumulation Threshold" and "Timeout Cycles", 0 in each class
  pub threshold : (k : ℕ) → k < 4 → put (116 + 7 * k) ≡ twice (1285 + 16 * k) 0
  pub timeout : (k : ℕ) → k < 4 → put (117 + 7 * k) ≡ twice (1286 + 16 * k) 0
  -- "Phase 0 Cycles" to "Phase 3 Cycles" of classes A and B: 0, 10, 10, 0xFFFFFFFF
  pub phase_0 : (k : ℕ) → k < 2 → put (118 + 7 * k) ≡ twice (1287 + 16 * k) 0
  pub phase_1 : (k : ℕ) → k < 2 → put (119 + 7 * k) ≡ twice (1288 + 16 * k) 10
  pub phase_2 : (k : ℕ) → k < 2 → put (120 + 7 * k) ≡ twice (1289 + 16 * k) 10
  pub phase_3 : (k : ℕ) → k < 2 → put (121 + 7 * k) ≡ twice (1290 + 16 * k) 0xFFFFFFFF
  -- of classes C and D: 0 in each phase p
  pub no_response : (k p : ℕ) → 2 ≤ k → k < 4 → p < 4 → put (118 + 7 * k + p) ≡ twice (1287 + 16 * k + p) 0
  -- "CTRL is 0x393C with these bits"; document 01: "CTRL: bit 0 EN, 1 LOCK"
  -- "Classes A and B get EN in PROD, PROD_END and DEV, ..; class A gets LOCK, .. only in PROD and PROD_END"
  pub ctrl_a_lock : Locks c → put 122 ≡ twice 1281 (0x393C + 1 + 2)
  pub ctrl_a_dev : c ≡ 3 → put 122 ≡ twice 1281 (0x393C + 1)
  pub ctrl_a_off : ¬ Enables c → put 122 ≡ twice 1281 0x393C
  pub ctrl_b_law : Enables c → put 129 ≡ twice 1297 (0x393C + 1)
  pub ctrl_b_off : ¬ Enables c → put 129 ≡ twice 1297 0x393C
  -- "C and D never"
  pub ctrl_c : put 136 ≡ twice 1313 0x393C
  pub ctrl_d : put 143 ≡ twice 1329 0x393C
  -- ".. then the alert and class locks": places 144 to 201, one an alert, and 202; document 01: "In REGWEN .. a written 0 locks"
  -- "its REGWEN and those of alerts marked A, never X, are locked, only in PROD and PROD_END"
  pub alert_lock : (i : ℕ) → i < 58 → Locks c → letter c i ≡ A → put (144 + i) ≡ once (256 + i) 0
  pub alert_other : (i : ℕ) → i < 58 → letter c i ≢ A → put (144 + i) ≡ none
  pub alert_free : (i : ℕ) → i < 58 → ¬ Locks c → put (144 + i) ≡ none
  -- "class A .. its REGWEN", the last
  pub class_lock_law : Locks c → put 202 ≡ once 1280 0
  pub class_free : ¬ Locks c → put 202 ≡ none
