-- Demand 3's locks by document 01's register numbers, for every list of ticks: what never changes once a REGWEN reads 0.
-- Assumes nothing.
use Prim.Native.Nat.{ℕ, ◌+◌, ◌*◌, ◌≤◌, ◌<◌}
use mathlib.Core.Path.{◌≡◌, refl, sym, ap, ◌∙◌, subst}
use mathlib.Core.Logic.{◌⊎◌, ⊎_elim}
use mathlib.Core.Bool.{true, false, ◌&&◌}
use mathlib.Core.List.{List, [], ◌∷◌}
use native.Mathlib.Omega.{arith}
use native.Mathlib.Nat.{add-zero}
use borrow.Author.Tests.{lt-ltb, eq-eqb}
use lib.Dec.{eqb}
use lib.ListN.{get_or, length, take, replicate}
use Rattle.bits.proofs.IndexLaws.{true_and}
use Rattle.laws.proofs.State.Above.{run_above}
use Rattle.laws.proofs.Map.MapLaws.{decode_number}
use Rattle.laws.proofs.Valid.ValidLaws.{facts}
use Rattle.laws.specs.InMap.{in_map, setting_exists}
use Rattle.rules.specs.Scenes.{rest, write}
use Rattle.rules.proofs.Scenes.{rules, settings, zeros, station}
use Rattle.rules.specs.Access.{value, locked, clears}
use Rattle.rules.specs.Map.{decode, number_of, is_register, guard}
use Rattle.rules.specs.Run.{run}
use Rattle.rules.specs.Stages.{stage, stage_in, no_class_stages}
use Rattle.rules.specs.State.{local_count, class_count}
use Rattle.rules.specs.Valid.{valid}
use Rattle.rules.specs.declared.Field.{Field}
use Rattle.rules.specs.declared.Handler.{Handler}
use Rattle.rules.specs.declared.Input.{Input}
use Rattle.rules.specs.declared.Register.{Register}
use Rattle.rules.specs.declared.Register.TheVariants.{Local, Alert, Block}
use Rattle.rules.specs.declared.Setting.{Setting}
use Rattle.rules.specs.declared.Setting.TheVariants.{Ctrl, ClrRegwen, Clr, AccumThresh, TimeoutCyc, PhaseCyc}
use Rattle.rules.specs.declared.Stages.{Stages}
use Rattle.escalation.specs.Escalation.{Locked, value_of, stage_of}
use Rattle.escalation.specs.List.{no_input}
use Rattle.escalation.proofs.Demand3.{demand3}
use Rattle.escalation.proofs.StartExamples

module _ (h : Handler) (v : valid h ≡ true) where
  -- register q is locked while its guard g reads 0
  shut : (g q : Register) → in_map h.n g ≡ true → in_map h.n q ≡ true → is_register g ≡ true → guard q ≡ g
      → value_of h (number_of g) ≡ 0 → Locked h (number_of q)
  unfolding locked
  shut g q a b r e z =
      let m = (facts h v).n in
      let w : value h g ≡ 0 = sym (ap (value h) (decode_number h.n g m a)) ∙ z in
      ap (locked h) (decode_number h.n q m b)
      ∙ ap (λ (p : Register). is_register p && eqb (value h p) 0) e
      ∙ true_and r (eq-eqb (value h g) 0 w)

  module _ (xs : List Input) (t : ℕ) (l : t ≤ length xs) where
    -- after t ticks of the list register r holds what it held
    abbrev Same : ℕ → Type 0
    Same r = value_of (run h (take t xs)) r ≡ value_of h r

    never : (g q : Register) → in_map h.n g ≡ true → in_map h.n q ≡ true → is_register g ≡ true → guard q ≡ g
        → value_of h (number_of g) ≡ 0 → Same (number_of q)
    unfolding run
    never g q a b r e z = ((demand3 h xs v).locks 0 t (number_of q) (omega arith) l (shut g q a b r e z)).1

    -- 256+i guards 512+i and 768+i
    alerts : (i : ℕ) → h.n ≡ 248 → i < 248 → value_of h (256 + i) ≡ 0 → Same (512 + i) × Same (768 + i)
    unfolding number_of guard
    alerts i n s z =
        let a : in_map h.n (Alert Field.En i) ≡ true = lt-ltb i h.n (omega arith) in
        (never (Alert Field.Regwen i) (Alert Field.En i) a a refl refl z, never (Alert Field.Regwen i) (Alert Field.Class i) a a refl refl z)

    -- 16+j guards 24+j and 32+j
    locals : (j : ℕ) → j < local_count → value_of h (16 + j) ≡ 0 → Same (24 + j) × Same (32 + j)
    unfolding number_of guard
    locals j s z =
        let a : in_map h.n (Local Field.En j) ≡ true = lt-ltb j local_count s in
        (never (Local Field.Regwen j) (Local Field.En j) a a refl refl z, never (Local Field.Regwen j) (Local Field.Class j) a a refl refl z)

    module _ (k : ℕ) (small : k < class_count) where
      has : (s : Setting) → setting_exists s ≡ true → in_map h.n (Block s k) ≡ true
      has s e = true_and (lt-ltb k class_count small) e

      -- 1280+16k guards +1, +5, +6 and +7 to +10
      class : value_of h (1280 + 16 * k) ≡ 0
          → Same (1280 + 16 * k + 1) × Same (1280 + 16 * k + 5) × Same (1280 + 16 * k + 6) × ((p : ℕ) → p < 4 → Same (1280 + 16 * k + (7 + p)))
      unfolding number_of guard
      class z = (kept Ctrl refl refl, kept AccumThresh refl refl, kept TimeoutCyc refl refl, λ p s. kept (PhaseCyc p) (lt-ltb p 4 s) refl)
        where
          kept : (s : Setting) → setting_exists s ≡ true → guard (Block s k) ≡ Block Setting.Regwen k → Same (number_of (Block s k))
          kept s e g = never (Block Setting.Regwen k) (Block s k) (has Setting.Regwen refl) (has s e) refl g (rw add-zero z)

      -- 1282+16k guards itself
      clr_regwen : value_of h (1282 + 16 * k) ≡ 0 → Same (1282 + 16 * k)
      unfolding number_of guard
      clr_regwen z =
          let e : 1282 + 16 * k ≡ 1280 + 16 * k + 2 = omega arith in
          rw e (never (Block ClrRegwen k) (Block ClrRegwen k) (has ClrRegwen refl) (has ClrRegwen refl) refl refl (rw e at z))

      -- and CLR: no later tick has an accepted clear of class k
      no_clear : value_of h (1282 + 16 * k) ≡ 0 → t < length xs → clears (run h (take t xs)) (get_or xs t no_input).access k ≡ false
      unfolding number_of guard run
      no_clear z m =
          let e : 1282 + 16 * k ≡ 1280 + 16 * k + 2 = omega arith in
          (demand3 h xs v).no_clear 0 t k small (omega arith) m
          (shut (Block ClrRegwen k) (Block Clr k) (has ClrRegwen refl) (has Clr refl) refl refl (rw e at z))

    -- ── request (v), in the raw fields: after t ticks the stage of what they guard is what it was, or none ──

    abbrev Left : (Stages → ℕ) → Type 0
    Left code = (code (run h (take t xs)).stages ≡ code h.stages) ⊎ (code (run h (take t xs)).stages ≡ 0)

    left : (g q : Register) → in_map h.n g ≡ true → in_map h.n q ≡ true → is_register g ≡ true → guard q ≡ g
        → value_of h (number_of g) ≡ 0 → Left (λ s. stage_in s q)
    unfolding run
    left g q a b r e z =
        let f : Handler = run h (take t xs) in
        let d : decode h.n (number_of q) ≡ q = decode_number h.n q (facts h v).n b in
        let c : decode f.n (number_of q) ≡ q = ap (λ (n : ℕ). decode n (number_of q)) (run_above h (take t xs)).n ∙ d in
        subst (λ (p : Register). (stage f p ≡ stage h q) ⊎ (stage f p ≡ 0)) c
        (subst (λ (p : Register). (stage_of f (number_of q) ≡ stage h p) ⊎ (stage_of f (number_of q) ≡ 0)) d
        ((demand3 h xs v).stages 0 t (number_of q) (omega arith) l (shut g q a b r e z)))

    alerts_left : (i : ℕ) → h.n ≡ 248 → i < 248 → value_of h (256 + i) ≡ 0
        → Left (λ s. get_or s.alerts.en i 0) × Left (λ s. get_or s.alerts.class i 0)
    unfolding number_of guard stage_in
    alerts_left i n s z =
        let a : in_map h.n (Alert Field.En i) ≡ true = lt-ltb i h.n (omega arith) in
        (left (Alert Field.Regwen i) (Alert Field.En i) a a refl refl z, left (Alert Field.Regwen i) (Alert Field.Class i) a a refl refl z)

    locals_left : (j : ℕ) → j < local_count → value_of h (16 + j) ≡ 0 → Left (λ s. get_or s.locals.en j 0) × Left (λ s. get_or s.locals.class j 0)
    unfolding number_of guard stage_in
    locals_left j s z =
        let a : in_map h.n (Local Field.En j) ≡ true = lt-ltb j local_count s in
        (left (Local Field.Regwen j) (Local Field.En j) a a refl refl z, left (Local Field.Regwen j) (Local Field.Class j) a a refl refl z)

    class_left : (k : ℕ) → k < class_count → value_of h (1280 + 16 * k) ≡ 0
        → Left (λ s. (get_or s.classes k no_class_stages).ctrl)
        × Left (λ s. (get_or s.classes k no_class_stages).thresh)
        × Left (λ s. (get_or s.classes k no_class_stages).timeout)
        × ((p : ℕ) → p < 4 → Left (λ s. get_or (get_or s.classes k no_class_stages).lengths p 0))
    unfolding number_of guard stage_in
    class_left k small z = (kept Ctrl refl refl, kept AccumThresh refl refl, kept TimeoutCyc refl refl, λ p s. kept (PhaseCyc p) (lt-ltb p 4 s) refl)
      where
        kept : (s : Setting) → setting_exists s ≡ true → guard (Block s k) ≡ Block Setting.Regwen k → Left (λ t. stage_in t (Block s k))
        kept s e g =
            left (Block Setting.Regwen k) (Block s k) (true_and (lt-ltb k class_count small) refl) (true_and (lt-ltb k class_count small) e) refl g
            (rw add-zero z)

-- a scene: class 2 is locked, two alerts; whatever the ticks, its CTRL and its lengths stay
abbrev scene : Handler
scene = StartExamples.post 2 (StartExamples.locked 0 0 (7 ∷ 8 ∷ 9 ∷ 10 ∷ []))

stays : (xs : List Input) (t : ℕ) → t ≤ length xs → (value_of (run scene (take t xs)) 1313 ≡ 0x393F) × (value_of (run scene (take t xs)) 1322 ≡ 10)
unfolding rules
stays xs t l = let c = class scene refl xs t l 2 (omega arith) refl in (c.0, c.3 3 (omega arith))

-- "or after one of its ticks": class 3 is locked by the first tick, and then its CTRL stays
abbrev locking : List Input → List Input
locking ys = rest (write (Block Setting.Regwen 3) 0) ∷ ys

stays_then : (ys : List Input) (t : ℕ) → 1 ≤ t → t ≤ length (locking ys) → value_of (run (StartExamples.post 3 (settings 0x393F 0 0 zeros)) (take t (locking ys))) 1329 ≡ 0x393F
unfolding rules
stays_then ys t f l = ((demand3 (StartExamples.post 3 (settings 0x393F 0 0 zeros)) (locking ys) refl).locks 1 t 1329 f l refl).1

-- request (v): ACCUM_THRESH of class 3 has 7 staged as the lock falls; whatever the ticks, the stage holds 7 or is gone, and the register stays 0
abbrev open3 : Handler
open3 = station 1 (replicate 248 0) (replicate 248 0) 3 (settings 0x393F 0 0 zeros)

abbrev staging : List Input → List Input
staging ys = rest (write (Block AccumThresh 3) 7) ∷ rest (write (Block Setting.Regwen 3) 0) ∷ ys

stage_stays : (ys : List Input) (t : ℕ) → 2 ≤ t → t ≤ length (staging ys)
    → (stage_of (run open3 (take t (staging ys))) 1333 ≡ 8) ⊎ (stage_of (run open3 (take t (staging ys))) 1333 ≡ 0)
unfolding rules
stage_stays ys t f l = (demand3 open3 (staging ys) refl).stages 2 t 1333 f l refl

never_commits : (ys : List Input) (t : ℕ) → 2 ≤ t → t ≤ length (staging ys) → value_of (run open3 (take t (staging ys))) 1333 ≡ 0
unfolding rules
never_commits ys t f l = ((demand3 open3 (staging ys) refl).locks 2 t 1333 f l refl).1

-- none open when it is locked: none ever, also for a register that the list's first state has locked
none_reaches : (xs : List Input) (t : ℕ) → t ≤ length xs → stage_of (run scene (take t xs)) 1317 ≡ 0
unfolding rules
none_reaches xs t l = ⊎_elim (λ e. e) (λ e. e) ((demand3 scene xs refl).stages 0 t 1317 (omega arith) l refl)
