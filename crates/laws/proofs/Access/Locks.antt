-- A locked register keeps its value and stays locked, in an access, in steps 2 to 4 and so in a tick.
-- Assumes nothing.
use Prim.Native.Nat.{ℕ, ◌+◌, ◌≤◌}
use mathlib.Core.Path.{◌≡◌, refl, sym, ap, ◌∙◌, subst}
use mathlib.Core.Logic.{◌⊎◌, inl, inr, ⊎_elim}
use mathlib.Core.Bool.{Bool, true, false, cond, not, ◌&&◌}
use borrow.Author.Tests.{eqb-true, ltb-true, not-false}
use lib.Dec.{eqb, ltb}
use Rattle.std.specs.Prelude.{Ok, Err}
use Rattle.bits.proofs.IndexLaws.{and-true, true_and}
use Rattle.rules.specs.Access.{value, locked, bars, verdict, accepts, accepted, is_first, drops, acted, effects}
use Rattle.rules.specs.Map.{decode, number_of, is_register, guard, is_lock, is_shadowed}
use Rattle.rules.specs.Stages.{stage, is_open}
use Rattle.rules.specs.State.{most, class_count}
use Rattle.rules.specs.Tick.{hears, stepped, after}
use Rattle.rules.specs.declared.Access.{Access}
use Rattle.rules.specs.declared.Effects.{Effects}
use Rattle.rules.specs.declared.Handler.{Handler}
use Rattle.rules.specs.declared.Heard.{Heard}
use Rattle.rules.specs.declared.Input.{Input}
use Rattle.rules.specs.declared.Register.{Register}
use Rattle.rules.specs.declared.Register.TheVariants.{Only, Local, Alert, Block}
use Rattle.rules.specs.declared.Setting.TheVariants.{ClrRegwen}
use Rattle.rules.specs.Answer.{Verdict}
use Rattle.laws.specs.InMap.{in_map}
use Rattle.laws.specs.Frame.{moves_itself}
use Rattle.laws.specs.StageFile.{names, stage_given, stage_by}
use Rattle.laws.specs.RegisterFile.{target, new_value, writes, stores}
use Rattle.laws.proofs.Map.Cases.{pick, by_kind, by_single, by_field, by_setting, never}
use Rattle.laws.proofs.Tick.Frame.{stepped_frame, clrwen_falls, after_value, after_stage}
use Rattle.laws.proofs.Map.MapLaws.{number_eq}
use Rattle.laws.proofs.Access.RegisterFile.{target_in_map, accepted_in_map, stores_accepted, acted_value, acted_n}
use Rattle.laws.proofs.Access.Refusals.{unrefused}
use Rattle.laws.proofs.Stages.StageFile.{in_most, acted_stage}

-- ── the REGWEN that guards a register ──

-- it guards itself
guard_guard : (q : Register) → guard (guard q) ≡ guard q
unfolding guard
guard_guard q =
    by_kind (λ q. guard (guard q) ≡ guard q) (by_single (λ o. guard (guard (Only o)) ≡ guard (Only o)) refl refl refl refl refl refl)
    (λ f j. by_field (λ f. guard (guard (Local f j)) ≡ guard (Local f j)) refl refl refl refl f)
    (λ f i. by_field (λ f. guard (guard (Alert f i)) ≡ guard (Alert f i)) refl refl refl refl f)
    (λ s k. by_setting (λ s. guard (guard (Block s k)) ≡ guard (Block s k)) refl refl refl refl refl refl refl (λ p. refl) refl refl s) refl q

-- a handler that has a register has its guard
pub guard_in_map : (n : ℕ) (q : Register) → in_map n q ≡ true → is_register (guard q) ≡ true → in_map n (guard q) ≡ true
unfolding guard
guard_in_map n q =
    by_kind P (by_single (λ o. P (Only o)) (λ a r. r) (λ a r. r) (λ a r. r) (λ a r. r) (λ a r. r) (λ a r. r))
    (λ f j. by_field (λ f. P (Local f j)) (λ a r. a) (λ a r. a) (λ a r. a) (λ a r. r) f)
    (λ f i. by_field (λ f. P (Alert f i)) (λ a r. a) (λ a r. a) (λ a r. a) (λ a r. r) f)
    (λ s k. by_setting (λ s. P (Block s k)) (λ a r. a) (λ a r. a) (λ a r. a) (λ a r. a) (λ a r. r) (λ a r. a) (λ a r. a)
    (λ p a r. true_and (and-true (ltb k class_count) (ltb p 4) a).0 refl) (λ a r. r) (λ a r. r) s) (λ a r. r) q
  where
    P : Register → Type 0
    P q = in_map n q ≡ true → is_register (guard q) ≡ true → in_map n (guard q) ≡ true

-- a REGWEN guards itself and holds what is written
is_lock_law : (q : Register) → is_lock q ≡ true → (guard q ≡ q) × ((old v : ℕ) → new_value q old v ≡ v)
unfolding guard is_lock
is_lock_law q =
    by_kind P (by_single (λ o. P (Only o)) never never never (λ e. (refl, λ old v. refl)) never never)
    (λ f j. by_field (λ f. P (Local f j)) (λ e. (refl, λ old v. refl)) never never never f)
    (λ f i. by_field (λ f. P (Alert f i)) (λ e. (refl, λ old v. refl)) never never never f)
    (λ s k. by_setting (λ s. P (Block s k)) (λ e. (refl, λ old v. refl)) never (λ e. (refl, λ old v. refl)) never never never never
    (λ p. never) never never s) never q
  where
    P : Register → Type 0
    P q = is_lock q ≡ true → (guard q ≡ q) × ((old v : ℕ) → new_value q old v ≡ v)

-- ── from one state to another ──

module _ (h : Handler) (q : Register) (e : locked h q ≡ true) where
  -- the guard of a locked register is there and holds 0
  locked_guard : (is_register (guard q) ≡ true) × (value h (guard q) ≡ 0)
  unfolding locked
  locked_guard =
      let b = and-true (is_register (guard q)) (eqb (value h (guard q)) 0) e in (b.0, eqb-true (value h (guard q)) 0 b.1)

  -- the guard of a locked register is locked
  guard_locked : locked h (guard q) ≡ true
  unfolding locked
  guard_locked = ap (λ (r : Register). is_register r && eqb (value h r) 0) (guard_guard q) ∙ e

  -- a write that a locked register takes leaves it: only a REGWEN takes one, a 0 while it is 0
  locked_takes : (v : ℕ) → bars h q v ≡ false → new_value q (value h q) v ≡ value h q
  locked_takes v f =
      let b = and-true (is_lock q) (eqb v 0) (not-false (is_lock q && eqb v 0) (ap (λ (t : Bool). t && not (is_lock q && eqb v 0)) (sym e) ∙ f)) in
      let l = is_lock_law q b.0 in
      l.1 (value h q) v ∙ eqb-true v 0 b.1 ∙ sym locked_guard.1 ∙ ap (value h) l.0

-- where each locked register keeps its value, each stays locked
stays : (h g : Handler) → ((p : Register) → in_map h.n p ≡ true → locked h p ≡ true → value g p ≡ value h p)
    → (q : Register) → in_map h.n q ≡ true → locked h q ≡ true → (locked g q ≡ true) × (value g q ≡ value h q)
unfolding locked
stays h g f q a e = (
  ap (λ (x : ℕ). is_register (guard q) && eqb x 0)
      (f (guard q) (guard_in_map h.n q a (locked_guard h q e).0) (guard_locked h q e)) ∙ e,
  f q a e,
)

-- ── step 1 ──

-- INTR_TEST writes no locked register
target_locked : (h : Handler) (w : Register) → locked h (target w) ≡ true → w ≡ target w
unfolding locked guard
target_locked h w =
    by_kind (λ w. locked h (target w) ≡ true → w ≡ target w)
    (by_single (λ o. locked h (target (Only o)) ≡ true → Only o ≡ target (Only o)) (λ e. refl) (λ e. refl) never (λ e. refl) (λ e. refl) (λ e. refl))
    (λ f j e. refl) (λ f i e. refl) (λ s k e. refl) (λ e. refl) w

-- an access leaves what is locked
acted_keeps : (h : Handler) (x : Access) → h.n ≤ most → (q : Register) → in_map h.n q ≡ true → locked h q ≡ true
    → value (acted h x) q ≡ value h q
acted_keeps h Access.Nothing m q a e = acted_value h Access.Nothing q m a
acted_keeps h (Access.Read r) m q a e = acted_value h (Access.Read r) q m a
acted_keeps h (Access.Write r v) m q a e =
    acted_value h (Access.Write r v) q m a ∙ go (stores h r v && writes (decode h.n r) q) refl
  where
    w : Register
    w = decode h.n r

    go : (b : Bool) → (stores h r v && writes w q) ≡ b → cond b (new_value w (value h q) v) (value h q) ≡ value h q
    go true d =
        let c = and-true (stores h r v) (writes w q) d in
        let b : accepted h (Access.Write r v) ≡ true = stores_accepted h r v c.0 in
        let t : target w ≡ q =
        number_eq h.n (target w) q m (target_in_map h.n w (accepted_in_map h r v b)) a
        (eqb-true (number_of (target w)) (number_of q) c.1) in
        let i : w ≡ q = target_locked h w (ap (locked h) t ∙ e) ∙ t in
        ap (λ (x : Register). new_value x (value h q) v) i
        ∙ locked_takes h q e v (ap (λ (x : Register). bars h x v) (sym i) ∙ (unrefused h (Access.Write r v) b).free)
    go false d = refl
acted_keeps h Access.Malformed m q a e = acted_value h Access.Malformed q m a

-- whatever the access, a locked register keeps its value and stays locked
pub acted_locked : (h : Handler) (x : Access) (q : Register) → h.n ≤ most → in_map h.n q ≡ true → locked h q ≡ true
    → (locked (acted h x) q ≡ true) × (value (acted h x) q ≡ value h q)
acted_locked h x q m = stays h (acted h x) (acted_keeps h x m) q

-- ── the stage of a locked register ──

-- a shadowed register is no lock
shadowed_lock : (q : Register) → is_shadowed q ≡ true → is_lock q ≡ false
unfolding is_shadowed is_lock
shadowed_lock =
    by_kind P (by_single (λ o. P (Only o)) (λ e. refl) (λ e. refl) (λ e. refl) never (λ e. refl) (λ e. refl))
    (λ f j. by_field (λ f. P (Local f j)) never (λ e. refl) (λ e. refl) (λ e. refl) f)
    (λ f i. by_field (λ f. P (Alert f i)) never (λ e. refl) (λ e. refl) (λ e. refl) f)
    (λ s k. by_setting (λ s. P (Block s k)) never (λ e. refl) never (λ e. refl) (λ e. refl) (λ e. refl) (λ e. refl) (λ p e. refl) (λ e. refl)
    (λ e. refl) s) (λ e. refl)
  where
    P : Register → Type 0
    P q = is_shadowed q ≡ true → is_lock q ≡ false

-- a stage is the one that was there, or none
abbrev pub StageLeft : ℕ → ℕ → Type 0
StageLeft old new = (new ≡ old) ⊎ (new ≡ 0)

module _ (h : Handler) (q : Register) (m : h.n ≤ most) (a : in_map h.n q ≡ true) (e : locked h q ≡ true) where
  -- no accepted write to it is a first one
  no_first : (r v : ℕ) → names h (Access.Write r v) q ≡ true → accepted h (Access.Write r v) ≡ true → is_first h (decode h.n r) ≡ false
  no_first r v d c = go (is_first h (decode h.n r)) refl
    where
      is : decode h.n r ≡ q
      is = number_eq h.n (decode h.n r) q m (accepted_in_map h r v c) a (eqb-true (number_of (decode h.n r)) (number_of q) d)

      shut : is_shadowed (decode h.n r) ≡ true → bars h (decode h.n r) v ≡ true
      shut s = true_and (ap (locked h) is ∙ e) (ap (λ (t : Bool). not (t && eqb v 0)) (shadowed_lock (decode h.n r) s))

      go : (b : Bool) → is_first h (decode h.n r) ≡ b → b ≡ false
      go true f =
          let s = (and-true (is_shadowed (decode h.n r)) (not (is_open h.stages (decode h.n r))) f).0 in
          sym (shut s) ∙ (unrefused h (Access.Write r v) c).free
      go false f = refl

  -- an accepted access leaves its stage or none
  given_left : (x : Access) → names h x q ≡ true → accepted h x ≡ true → StageLeft (stage h q) (stage_given h x (stage h q))
  given_left Access.Nothing d c = inl refl
  given_left (Access.Read r) d c = inr refl
  given_left (Access.Write r v) d c = inr (ap (λ (b : Bool). cond b (v + 1) 0) (no_first r v d c))
  given_left Access.Malformed d c = inl refl

  -- "no stage ever reaching a locked register": an access leaves the stage of a locked register or none
  pub acted_left : (x : Access) → StageLeft (stage h q) (stage (acted h x) q)
  acted_left x =
      subst (StageLeft (stage h q)) (sym (acted_stage h m q (in_most h.n q m a) x))
      (pick (StageLeft (stage h q)) (names h x q) _ _ (λ d. go d (verdict h x) refl) (λ _. inl refl))
    where
      go : names h x q ≡ true → (t : Verdict) → verdict h x ≡ t → StageLeft (stage h q) (stage_by t h x (stage h q))
      go d (Ok tt) c = given_left x d (ap accepts c)
      go d (Err n) c = pick (StageLeft (stage h q)) (drops n) 0 (stage h q) (λ _. inr refl) (λ _. inl refl)

-- ── steps 2 to 4 ──

-- of the locked registers only CLR_REGWEN moves by itself
still : (q : Register) → is_register (guard q) ≡ true → (moves_itself q ≡ false) ⊎ ((k : ℕ) × (q ≡ Block ClrRegwen k))
unfolding guard
still =
    by_kind P (by_single (λ o. P (Only o)) (λ e. inl (sym e)) (λ e. inl refl) (λ e. inl refl) (λ e. inl refl) (λ e. inl refl) (λ e. inl refl))
    (λ f j. by_field (λ f. P (Local f j)) (λ e. inl refl) (λ e. inl refl) (λ e. inl refl) (λ e. inl (sym e)) f)
    (λ f i. by_field (λ f. P (Alert f i)) (λ e. inl refl) (λ e. inl refl) (λ e. inl refl) (λ e. inl (sym e)) f)
    (λ s k. by_setting (λ s. P (Block s k)) (λ e. inl refl) (λ e. inl refl) (λ e. inr (k, refl)) (λ e. inl refl) (λ e. inl (sym e)) (λ e. inl refl)
    (λ e. inl refl) (λ p e. inl refl) (λ e. inl (sym e)) (λ e. inl (sym e)) s) (λ e. inl refl)
  where
    P : Register → Type 0
    P q = is_register (guard q) ≡ true → (moves_itself q ≡ false) ⊎ ((k : ℕ) × (q ≡ Block ClrRegwen k))

module _ (g : Handler) (v : Heard) (fx : Effects) where
  -- steps 2 to 4 leave it where it is locked
  abbrev Kept : Register → Type 0
  Kept q = in_map g.n q ≡ true → locked g q ≡ true → value (stepped g v fx) q ≡ value g q

  -- a 0 in CLR_REGWEN stays
  clrwen_keeps : (k : ℕ) → Kept (Block ClrRegwen k)
  unfolding guard
  clrwen_keeps k a e =
      ⊎_elim (λ s. s) (λ z. z ∙ sym (locked_guard g (Block ClrRegwen k) e).1)
      (clrwen_falls g v fx k (ltb-true k class_count (and-true (ltb k class_count) true a).0))

  -- so steps 2 to 4 leave what is locked
  stepped_keeps : (q : Register) → Kept q
  stepped_keeps q a e =
      ⊎_elim (λ (m : moves_itself q ≡ false). stepped_frame g v fx q a m)
      (λ (c : (k : ℕ) × (q ≡ Block ClrRegwen k)). subst Kept (sym c.1) (clrwen_keeps c.0) a e) (still q (locked_guard g q e).0)

  -- a locked register keeps its value and stays locked
  pub stepped_locked : (q : Register) → in_map g.n q ≡ true → locked g q ≡ true
      → (locked (stepped g v fx) q ≡ true) × (value (stepped g v fx) q ≡ value g q)
  stepped_locked q = stays g (stepped g v fx) stepped_keeps q

-- ── the tick ──

-- whatever comes in, a locked register keeps its stage or has none after a tick
pub after_left : (h : Handler) (x : Input) (q : Register) → h.n ≤ most → in_map h.n q ≡ true → locked h q ≡ true
    → StageLeft (stage h q) (stage (after h x) q)
after_left h x q m a e = subst (StageLeft (stage h q)) (sym (after_stage h x q)) (acted_left h q m a e x.access)

-- whatever comes in, a locked register keeps its value and stays locked in a tick
pub after_locked : (h : Handler) (x : Input) (q : Register) → h.n ≤ most → in_map h.n q ≡ true → locked h q ≡ true
    → (locked (after h x) q ≡ true) × (value (after h x) q ≡ value h q)
unfolding locked
after_locked h x q m a e =
    let s = acted_locked h x.access q m a e in
    let t =
    stepped_locked (acted h x.access) (hears h x) (effects h x.access) q
    (ap (λ (n : ℕ). in_map n q) (acted_n h x.access) ∙ a) s.0 in
    (ap (λ (n : ℕ). is_register (guard q) && eqb n 0) (after_value h x (guard q)) ∙ t.0, after_value h x q ∙ t.1 ∙ s.1)
