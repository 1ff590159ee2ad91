-- Request (vi), "Boot policy": what stands after a success, and what no boot writes, in sentences: raw fields of the state.
-- Assumes nothing.
use Rattle.std.specs.Prelude.{ℕ, ◌≤◌, ◌<◌, ◌≡◌, get_or}
use Rattle.rules.specs.declared.Handler.{Handler}
use Rattle.sentences.specs.Raw.{class_of}
use Rattle.boot_sentences.specs.Classification.{letter}
use Rattle.boot_sentences.specs.Classification.Letter.{A}
use Rattle.boot_sentences.specs.Order.{class, enable, Locks, Enables}

-- "after a success each of the 58 alerts is proved to stand as the table says", and the classes by their settings: the state g, by the column c
pub record Stands (c : ℕ) (g : Handler) : Type 0 where
  pub alert_class : (i : ℕ) → i < 58 → get_or g.alerts.class i 0 ≡ class (letter c i)
  pub alert_en : (i : ℕ) → i < 58 → get_or g.alerts.en i 0 ≡ enable (letter c i)
  pub alert_lock : (i : ℕ) → i < 58 → Locks c → letter c i ≡ A → get_or g.alerts.regwen i 0 ≡ 0
  pub class_lock_law : Locks c → (class_of g 0).regwen ≡ 0
  pub threshold : (k : ℕ) → k < 4 → (class_of g k).thresh ≡ 0
  pub timeout : (k : ℕ) → k < 4 → (class_of g k).timeout ≡ 0
  pub phase_0 : (k : ℕ) → k < 2 → get_or (class_of g k).lengths 0 0 ≡ 0
  pub phase_1 : (k : ℕ) → k < 2 → get_or (class_of g k).lengths 1 0 ≡ 10
  pub phase_2 : (k : ℕ) → k < 2 → get_or (class_of g k).lengths 2 0 ≡ 10
  pub phase_3 : (k : ℕ) → k < 2 → get_or (class_of g k).lengths 3 0 ≡ 0xFFFFFFFF
  pub no_response : (k p : ℕ) → 2 ≤ k → k < 4 → p < 4 → get_or (class_of g k).lengths p 0 ≡ 0
  pub ctrl_a_lock : Locks c → (class_of g 0).ctrl ≡ 0x393F
  pub ctrl_a_dev : c ≡ 3 → (class_of g 0).ctrl ≡ 0x393D
  pub ctrl_a_off : ¬ Enables c → (class_of g 0).ctrl ≡ 0x393C
  pub ctrl_b_law : Enables c → (class_of g 1).ctrl ≡ 0x393D
  pub ctrl_b_off : ¬ Enables c → (class_of g 1).ctrl ≡ 0x393C
  pub ctrl_c : (class_of g 2).ctrl ≡ 0x393C
  pub ctrl_d : (class_of g 3).ctrl ≡ 0x393C

-- "Local alerts and alerts from 58 up are not written": h is the state before the boot, g after it, wherever it stops
pub record Unwritten (h g : Handler) : Type 0 where
  pub local_regwen : (j : ℕ) → j < 7 → get_or g.locals.regwen j 0 ≡ get_or h.locals.regwen j 0
  pub local_en : (j : ℕ) → j < 7 → get_or g.locals.en j 0 ≡ get_or h.locals.en j 0
  pub local_class : (j : ℕ) → j < 7 → get_or g.locals.class j 0 ≡ get_or h.locals.class j 0
  pub alert_regwen : (i : ℕ) → 58 ≤ i → i < 248 → get_or g.alerts.regwen i 0 ≡ get_or h.alerts.regwen i 0
  pub alert_en : (i : ℕ) → 58 ≤ i → i < 248 → get_or g.alerts.en i 0 ≡ get_or h.alerts.en i 0
  pub alert_class : (i : ℕ) → 58 ≤ i → i < 248 → get_or g.alerts.class i 0 ≡ get_or h.alerts.class i 0
