-- No sentence is missing: whatever satisfies the sentences gives one result. Nothing here knows the rules' definitions.
-- Assumes nothing.
use Prim.Native.Nat.{ℕ, ◌+◌, ◌≤◌, ◌<◌}
use mathlib.Core.Path.{◌≡◌, refl, sym, ◌∙◌}
use mathlib.Core.Logic.{◌≢◌}
use mathlib.Core.Bool.{Bool, true, false}
use native.Mathlib.Omega.{arith}
use native.Mathlib.Decide.{dec_lt, ℕ_discrete}
use lib.ListN.{get_or}
use Rattle.class_rules.specs.declared.Class.{Class}
use Rattle.class_rules.specs.declared.ClassState.{ClassState}
use Rattle.class_rules.specs.declared.Signals.{Signals}
use Rattle.sentences.specs.Fits.{Fits, ClassFits}
use Rattle.sentences.specs.ClassStep.{Lock, Trigger, Due, At, Enters, Stepped, ClassStep, ClassEvent}
use Rattle.sentences.specs.Lines.{Drives}
use Rattle.sentences.specs.Start.{TriggerIs, DueIs, StartsIs, StateIs, SettingsAre}
use Rattle.sentences.proofs.SentenceCases.{by_state, by_phase, either, same_test}

abbrev Same : Class → Class → Type 0
Same d e = (d.state ≡ e.state) × (d.count ≡ e.count)

same_dec : (d e : Class) → Dec (Same d e)
same_dec d e = go (ℕ_discrete d.state e.state) (ℕ_discrete d.count e.count)
  where
    go : Dec (d.state ≡ e.state) → Dec (d.count ≡ e.count) → Dec (Same d e)
    go (yes x) (yes y) = yes (x, y)
    go (no n) y = no (λ q. n q.0)
    go (yes x) (no n) = no (λ q. n q.1)

module _ (s : Signals) (c d e : Class) (f : Fits c) (a : Stepped s c d) (b : Stepped s c e) where
  -- both went to one place
  both : (m n : ℕ) → At d m n → At e m n → Same d e
  both m n x y = (x.0 ∙ sym y.0, x.1 ∙ sym y.1)

  same_phase : (p : ℕ) → p < 4 → c.state ≡ 4 + p → (t : Bool) → s.clear ≡ t → Same d e
  same_phase p h i true t = both 0 0 (a.phase_clear p h i t) (b.phase_clear p h i t)
  same_phase p h i false t = go (dec_lt c.count (get_or c.lengths p 0)) (dec_lt p 3)
    where
      go : Dec (c.count < get_or c.lengths p 0) → Dec (p < 3) → Same d e
      go (yes l) _ = both (4 + p) (c.count + 1) (a.phase_adds p h i t l) (b.phase_adds p h i t l)
      go (no l) (yes k) = both (4 + (p + 1)) 1 (a.phase_ends p k i t (omega arith)) (b.phase_ends p k i t (omega arith))
      go (no l) (no k) =
          let z : p ≡ 3 = omega arith in
          let j : c.state ≡ 4 + 3 = rw z at i in
          let n : get_or c.lengths p 0 ≤ c.count = omega arith in
          let m : get_or c.lengths 3 0 ≤ c.count = rw z at n in
          both 3 0 (a.phase_last j t m) (b.phase_last j t m)

  same_terminal : c.state ≡ 3 → (t : Bool) → s.clear ≡ t → Same d e
  same_terminal i true t = both 0 c.count (a.terminal_clear i t) (b.terminal_clear i t)
  same_terminal i false t = both 3 c.count (a.terminal_stays i t) (b.terminal_stays i t)

  same_idle : c.state ≡ 0 → Same d e
  same_idle i =
      either {A = Trigger s c} (same_dec d e) (λ t. both 4 1 (a.idle_starts i t) (b.idle_starts i t))
      (λ t. either {A = Due s c} (same_dec d e) (λ u. both 1 1 (a.idle_due i t u) (b.idle_due i t u))
      (λ u. both 0 c.count (a.idle_stays i t u) (b.idle_stays i t u)))

  same_timeout : c.state ≡ 1 → Same d e
  same_timeout i =
      either {A = Trigger s c} (same_dec d e) (λ t. both 4 1 (a.timeout_starts i t) (b.timeout_starts i t))
      (λ t. either {A = Due s c} (same_dec d e) (λ u. go t u (dec_lt c.count c.timeout))
      (λ u. both 0 0 (a.timeout_stops i t u) (b.timeout_stops i t u)))
    where
      go : ¬ Trigger s c → Due s c → Dec (c.count < c.timeout) → Same d e
      go t u (yes l) = both 1 (c.count + 1) (a.timeout_adds i t u l) (b.timeout_adds i t u l)
      go t u (no l) = both 4 1 (a.timeout_ends i u (omega arith)) (b.timeout_ends i u (omega arith))

  same_place : Same d e
  same_place =
      by_state (λ m. c.state ≡ m → Same d e) same_idle same_timeout (λ i. same_terminal i s.clear refl)
      (λ p h i. same_phase p h i s.clear refl) c.state f.state f.is_state refl

  same_accum : (t u : Bool) → s.clear ≡ t → s.event ≡ u → d.accum ≡ e.accum
  same_accum true u x y = a.accum_clear x ∙ sym (b.accum_clear x)
  same_accum false false x y = a.accum_stays x y ∙ sym (b.accum_stays x y)
  same_accum false true x y = go (dec_lt c.accum 65535)
    where
      go : Dec (c.accum < 65535) → d.accum ≡ e.accum
      go (yes l) = a.accum_adds x y l ∙ sym (b.accum_adds x y l)
      go (no l) = let z : c.accum ≡ 65535 = omega (arith, f.accum) in a.accum_full x y z ∙ sym (b.accum_full x y z)

  same_clrwen : d.clrwen ≡ e.clrwen
  same_clrwen =
      either {A = Enters c d × Lock c} (ℕ_discrete d.clrwen e.clrwen)
      (λ l. a.locks l.0 l.1 ∙ sym (b.locks (l.0.0, sym same_place.0 ∙ l.0.1) l.1))
      (λ n. a.clrwen_stays n ∙ sym (b.clrwen_stays (λ l. n ((l.0.0, same_place.0 ∙ l.0.1), l.1))))

  pub same_class : d ≡ e
  same_class = λ i.
      record {
        lengths = (a.lengths ∙ sym b.lengths) i;
        timeout = (a.timeout ∙ sym b.timeout) i;
        count = same_place.1 i;
        ctrl = (a.ctrl ∙ sym b.ctrl) i;
        accum = same_accum s.clear s.event refl refl i;
        thresh = (a.thresh ∙ sym b.thresh) i;
        regwen = (a.regwen ∙ sym b.regwen) i;
        clrwen = same_clrwen i;
        state = same_place.0 i;
      }

-- ── two functions that satisfy the sentences are one ──

pub only_class : (f g : Signals → Class → Class) → ClassStep f → ClassStep g → (s : Signals) (c : Class) → Fits c → f s c ≡ g s c
only_class f g x y s c h = same_class s c (f s c) (g s c) h (x s c h) (y s c h)

pub only_event : (f g : Bool → Class → Bool) → ClassEvent f → ClassEvent g → (t : Bool) (c : Class) → f t c ≡ g t c
only_event f g x y t c = same_test (f t c) (g t c) (x t c) (y t c)

pub only_fits : (f g : Class → Bool) → ClassFits f → ClassFits g → (c : Class) → f c ≡ g c
only_fits f g x y c = same_test (f c) (g c) (x c) (y c)

pub only_lines : (f g : Class → ℕ → Bool) → Drives f → Drives g → (c : Class) (e : ℕ) → e < 4 → f c e ≡ g c e
only_lines f g x y c e l = same_test (f c e) (g c e) (x c e l) (y c e l)

-- ── the words of demand 3 ──

pub only_trigger : (f g : Signals → Class → Bool) → TriggerIs f → TriggerIs g → (s : Signals) (c : Class) → f s c ≡ g s c
only_trigger f g x y s c = same_test (f s c) (g s c) (x s c) (y s c)

pub only_due : (f g : Signals → Class → Bool) → DueIs f → DueIs g → (s : Signals) (c : Class) → f s c ≡ g s c
only_due f g x y s c = same_test (f s c) (g s c) (x s c) (y s c)

pub only_starts : (f g : Signals → Class → Bool) → StartsIs f → StartsIs g → (s : Signals) (c : Class) → Fits c → f s c ≡ g s c
only_starts f g x y s c h = same_test (f s c) (g s c) (x.reason s c h) (y.reason s c h)

-- a STATE that refusal 7 does not meet, and phases 0 to 3
pub only_state : (f p g q : ℕ → ClassState) → StateIs f p → StateIs g q → (m : ℕ) → m ≤ 7 → m ≢ 2 → f m ≡ g m
only_state f p g q x y =
    by_state (λ m. f m ≡ g m) (x.idle ∙ sym y.idle) (x.timeout ∙ sym y.timeout) (x.terminal ∙ sym y.terminal)
    (by_phase (λ n. f (4 + n) ≡ g (4 + n)) (x.phase_0 ∙ sym y.phase_0) (x.phase_1 ∙ sym y.phase_1) (x.phase_2 ∙ sym y.phase_2)
    (x.phase_3 ∙ sym y.phase_3))

pub only_phase : (f p g q : ℕ → ClassState) → StateIs f p → StateIs g q → (n : ℕ) → n < 4 → p n ≡ q n
only_phase f p g q x y n h = x.phases n h ∙ only_state f p g q x y (4 + n) (omega arith) (λ e. omega arith) ∙ sym (y.phases n h)

-- CTRL's fields and the phase lengths
module _ (en lock en' lock' : Class → Bool) (enable enable' : Class → ℕ → Bool) (map cyc map' cyc' : Class → ℕ → ℕ)
    (x : SettingsAre en lock enable map cyc) (y : SettingsAre en' lock' enable' map' cyc') (c : Class) where
  pub only_en : en c ≡ en' c
  only_en = same_test (en c) (en' c) (x.is_en c) (y.is_en c)

  pub only_lock : lock c ≡ lock' c
  only_lock = same_test (lock c) (lock' c) (x.is_lock_law c) (y.is_lock_law c)

  pub only_enable : (e : ℕ) → e < 4 → enable c e ≡ enable' c e
  only_enable e l = same_test (enable c e) (enable' c e) (x.enable c e l) (y.enable c e l)

  pub only_map : (e : ℕ) → e < 4 → map c e ≡ map' c e
  only_map e l = x.map c e l ∙ sym (y.map c e l)

  pub only_length : (p : ℕ) → p < 4 → cyc c p ≡ cyc' c p
  only_length p l = x.length c p l ∙ sym (y.length c p l)
