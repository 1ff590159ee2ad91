-- Request (vii): no tick locks a class with EN 1 and ACCUM_THRESH 65535.
-- Assumes nothing.
use Prim.Native.Nat.{ℕ, zero, suc, ◌<◌}
use mathlib.Core.Path.{◌≡◌, refl, sym, ap, ◌∙◌, subst}
use mathlib.Core.Logic.{◌≢◌}
use mathlib.Core.Bool.{Bool, true, false, false≢true, cond, ◌&&◌}
use mathlib.Core.List.{List, [], ◌∷◌}
use native.Mathlib.Omega.{arith}
use borrow.Author.Tests.{eq-eqb, eqb-true, lt-ltb}
use lib.Dec.{eqb}
use Rattle.bits.proofs.IndexLaws.{and-true, true_and}
use Rattle.bits.specs.Bits.{bit}
use Rattle.class_rules.specs.Class.{en}
use Rattle.class_rules.specs.Step.{class_step}
use Rattle.class_rules.specs.declared.Class.{Class}
use Rattle.class_rules.specs.declared.Signals.{Signals}
use Rattle.laws.proofs.Map.Cases.{by_kind}
use Rattle.laws.proofs.Tick.Content.{after_class, acted_class_own}
use Rattle.laws.proofs.Valid.KeepsValid.{after_valid}
use Rattle.laws.proofs.Map.MapLaws.{number_eq}
use Rattle.laws.proofs.Valid.Refusal7.{ticked_handler}
use Rattle.laws.proofs.Access.Refusals.{unrefused}
use Rattle.laws.proofs.Access.RegisterFile.{acted_value, stores_accepted, accepted_in_map, target_in_map}
use Rattle.laws.proofs.Valid.ValidLaws.{facts}
use Rattle.laws.specs.Block.{block_written, block_accepts}
use Rattle.laws.specs.RegisterFile.{target, new_value, writes, stores, commits, committed}
use Rattle.rules.specs.Access.{value, locked, accepted, acted, with_setting, silly, locks_silly}
use Rattle.rules.specs.Map.{decode, guard, number_of}
use Rattle.rules.specs.Run.{run}
use Rattle.rules.specs.Stages.{class_stages}
use Rattle.rules.specs.State.{class_count, class_at}
use Rattle.rules.specs.Tick.{after, signals_in}
use Rattle.rules.specs.Valid.{valid}
use Rattle.rules.specs.declared.Access.{Access}
use Rattle.rules.specs.declared.Access.TheVariants.{Nothing, Read, Write, Malformed}
use Rattle.rules.specs.declared.Handler.{Handler}
use Rattle.rules.specs.declared.Input.{Input}
use Rattle.rules.specs.declared.Register.{Register}
use Rattle.rules.specs.declared.Register.TheVariants.{Block}
use Rattle.rules.specs.declared.Setting.{Setting}
use Rattle.rules.specs.declared.Setting.TheVariants.{Ctrl, AccumThresh}
use Rattle.escalation.specs.List.{class_read}
use Rattle.escalation.proofs.Escalation.{keeps}

-- a class that is not locked with EN 1 and ACCUM_THRESH 65535
abbrev pub Sound : Class → Type 0
Sound c = c.regwen ≡ 0 → en c ≡ true → c.thresh ≢ 65535

-- steps 3 and 4 leave what it speaks of
step_sound : (q : Signals) (c : Class) → Sound c → Sound (class_step q c)
unfolding class_step
step_sound q c s = s

-- what writes a register of a block is a write at it
is_target : (q : Register) (s : Setting) (k : ℕ) → target q ≡ Block s k → q ≡ Block s k
is_target q s k =
    by_kind (λ q. target q ≡ Block s k → q ≡ Block s k) (λ o e. cc) (λ f j e. e) (λ f i e. e) (λ t j e. e) (λ e. e) q

module _ (g : Handler) (v : valid g ≡ true) (k : ℕ) (small : k < class_count) where
  abbrev lock : Register
  lock = Block Setting.Regwen k

  abbrev c : Class
  c = class_at g k

  -- an access that changes REGWEN is an accepted write to it
  record Locks (x : Access) : Type 0 where
    pub number : ℕ
    pub written : ℕ
    pub access : x ≡ Write number written
    pub names : decode g.n number ≡ lock
    pub accepts : accepted g x ≡ true
    pub holds : (class_at (acted g x) k).regwen ≡ written

  locks_by : (x : Access) → commits g x lock ≡ true → value (acted g x) lock ≡ committed g x (value g lock) → Locks x
  unfolding value
  locks_by Nothing e w = absurd (false≢true e)
  locks_by (Read r) e w = absurd (false≢true e)
  locks_by (Write r u) e w =
      let m = (facts g v).n in
      let b = and-true (stores g r u) (writes (decode g.n r) lock) e in
      let a = stores_accepted g r u b.0 in
      let n : decode g.n r ≡ lock =
      is_target (decode g.n r) Setting.Regwen k
      (number_eq g.n (target (decode g.n r)) lock m (target_in_map g.n (decode g.n r) (accepted_in_map g r u a))
      (true_and (lt-ltb k class_count small) refl) (eqb-true (number_of (target (decode g.n r))) (number_of lock) b.1)) in
      record { number = r; written = u; access = refl; names = n; accepts = a; holds = w ∙ ap (λ (q : Register). new_value q c.regwen u) n }
  locks_by Malformed e w = absurd (false≢true e)

  -- it leaves CTRL and ACCUM_THRESH
  beside : (r u : ℕ) → decode g.n r ≡ lock
      → ((class_at (acted g (Write r u)) k).ctrl ≡ c.ctrl) × ((class_at (acted g (Write r u)) k).thresh ≡ c.thresh)
  unfolding block_written
  beside r u e =
      let t : Bool = block_accepts Setting.Regwen u c (class_stages g.stages k) && true in (
        ap (λ (d : Class). d.ctrl) (acted_class_own g r u k Setting.Regwen e) ∙ ctrl t,
        ap (λ (d : Class). d.thresh) (acted_class_own g r u k Setting.Regwen e) ∙ thresh t,
      )
    where
      ctrl : (t : Bool) → (cond t (with_setting Setting.Regwen u c) c).ctrl ≡ c.ctrl
      ctrl true = refl
      ctrl false = refl

      thresh : (t : Bool) → (cond t (with_setting Setting.Regwen u c) c).thresh ≡ c.thresh
      thresh true = refl
      thresh false = refl

  -- a 0 at an unlocked REGWEN is accepted only of a class without such a threshold: 14
  wise : (r : ℕ) → decode g.n r ≡ lock → accepted g (Write r 0) ≡ true → c.regwen ≡ 1 → en c ≡ true → c.thresh ≢ 65535
  wise r e a w n t =
      let s : locks_silly Setting.Regwen 0 c ≡ false = ap (λ (q : Register). silly g q 0) (sym e) ∙ (unrefused g (Write r 0) a).threshold in
      absurd (false≢true (sym s ∙ true_and n (true_and (eq-eqb c.thresh 65535 t) (eq-eqb c.regwen 1 w))))

  -- step 1
  acted_sound : (x : Access) → Sound c → Sound (class_at (acted g x) k)
  unfolding locked guard value
  acted_sound x s z n t = by c.regwen refl
    where
      d : Class
      d = class_at (acted g x) k

      same : value (acted g x) lock ≡ cond (commits g x lock) (committed g x (value g lock)) (value g lock)
      same = acted_value g x lock (facts g v).n (true_and (lt-ltb k class_count small) refl)

      changed : c.regwen ≡ 1 → (b : Bool) → commits g x lock ≡ b → ⊥
      changed w true e =
          let l = locks_by x e (same ∙ ap (λ (b : Bool). cond b (committed g x (value g lock)) (value g lock)) e) in
          let u : l.written ≡ 0 = sym l.holds ∙ z in
          let a : x ≡ Write l.number 0 = l.access ∙ ap (Write l.number) u in
          let b = beside l.number 0 l.names in
          wise l.number l.names (ap (accepted g) (sym a) ∙ l.accepts) w
          (ap (λ (m : ℕ). bit m 0) (sym (ap (λ (y : Access). (class_at (acted g y) k).ctrl) a ∙ b.0)) ∙ n)
          (sym (ap (λ (y : Access). (class_at (acted g y) k).thresh) a ∙ b.1) ∙ t)
      changed w false e =
          let r : d.regwen ≡ c.regwen = same ∙ ap (λ (b : Bool). cond b (committed g x (value g lock)) (value g lock)) e in
          omega (arith, r, w, z)

      by : (m : ℕ) → c.regwen ≡ m → ⊥
      by zero w =
          let shut : eqb c.regwen 0 ≡ true = eq-eqb c.regwen 0 w in
          s w (ap (λ (m : ℕ). bit m 0) (sym (keeps g v k small x Ctrl refl shut)) ∙ n) (sym (keeps g v k small x AccumThresh refl shut) ∙ t)
      by (suc zero) w = changed w (commits g x lock) refl
      by (suc (suc m)) w = let f = ((facts g v).classes k small).regwen in omega (arith, f, w)

  -- the tick
  after_sound : (x : Input) → Sound c → Sound (class_at (after g x) k)
  after_sound x s = subst Sound (sym (after_class g x k small)) (step_sound (signals_in g x k) (class_read g x k) (acted_sound x.access s))

-- the list
pub run_sound : (g : Handler) → valid g ≡ true → (k : ℕ) → k < class_count → Sound (class_at g k) → (xs : List Input) → Sound (class_at (run g xs) k)
unfolding run
run_sound g v k small s [] = s
run_sound g v k small s (x ∷ xs) =
    subst (λ (f : Handler). Sound (class_at (run f xs) k)) (sym (ticked_handler g x v))
    (run_sound (after g x) (after_valid g x v) k small (after_sound g v k small x s) xs)
