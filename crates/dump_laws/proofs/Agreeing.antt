-- What callers are told of a state, and states that agree in all that a dump shows.
-- Assumes nothing.
use Prim.Native.Nat.{ℕ, ◌-◌, ◌^◌, ◌<◌}
use mathlib.Core.Path.{◌≡◌, refl, sym, ap, ◌∙◌, subst}
use mathlib.Core.Bool.{Bool, true, false, cond, not}
use mathlib.Core.List.{List, map}
use native.Mathlib.Omega.{arith}
use lib.Dec.{eqb}
use lib.ListN.{get_or}
use Rattle.bits.specs.Index.{each}
use Rattle.bits.proofs.IndexLaws.{at_each, each_ext}
use Rattle.dump_rules.specs.Content.{flag_at, flags_by, code_at, codes_by, class_of, given}
use Rattle.dump_rules.specs.Reader.{no_class}
use Rattle.dump_rules.specs.Shown.{ShownClass, Shown, picks, limit, is_cause, numbers_with, shown}
use Rattle.dump_rules.specs.declared.ContentClass.{ContentClass}
use Rattle.dump_rules.proofs.KindLaws.{lock_bit, cause_register, lock_register, shadowed_register}
use Rattle.dump_rules.proofs.LawfulDump.{past_map}
use Rattle.laws.specs.InMap.{in_map}
use Rattle.laws.proofs.Map.MapLaws.{decode_number, decode_in_map}
use Rattle.laws.proofs.Stages.StageLaws.{no_stage}
use Rattle.laws.proofs.Valid.ValidLaws.{facts, bounded}
use Rattle.rules.specs.Access.{value}
use Rattle.rules.specs.Map.{decode, number_of, is_lock, is_shadowed, is_register}
use Rattle.rules.specs.Stages.{stage}
use Rattle.rules.specs.State.{class_count, class_at}
use Rattle.rules.specs.Valid.{valid}
use Rattle.rules.specs.declared.Handler.{Handler}
use Rattle.rules.specs.declared.Register.{Register}
use Rattle.rules.specs.declared.Register.TheVariants.{Only, Local, Alert, Block, Unassigned}
use Rattle.dump_laws.specs.Claims.{Agree, Tells}
use Rattle.dump_laws.proofs.Lookup.{flag_held, code_held, map_picked}

-- ── what is told ──

abbrev show_class : Handler → ℕ → ShownClass
show_class h k = record { state = (class_at h k).state; count = (class_at h k).count; accum = (class_at h k).accum }

module _ (h : Handler) where
  abbrev at : ℕ → Register
  at r = decode h.n r

  pub told : Tells h (given (shown h))
  unfolding shown flags_by codes_by
  told =
      record {
        answer = refl;
        n = refl;
        class = λ k l.
            at_each class_count (λ k. class_of (get_or (each class_count (show_class h)) k no_class)) k (class_of no_class) l
            ∙ ap class_of (at_each class_count (show_class h) k no_class l);
        stages = λ r l. at_each limit (code_at (shown h).stages) r 0 l ∙ code_held (λ r. stage h (at r)) limit r l;
        causes = λ r l.
            at_each limit (flag_at (λ r. is_cause (at r)) (shown h).causes) r 0 l ∙ flag_held (λ r. is_cause (at r)) (λ r. value h (at r)) limit r l;
        locked = λ r l.
            at_each limit (flag_at (λ r. is_lock (at r)) (shown h).locks) r 0 l ∙ flag_held (λ r. is_lock (at r)) (λ r. 1 - value h (at r)) limit r l;
      }

-- ── states of which the same is shown agree ──

module _ (g h : Handler) (v : valid g ≡ true) (w : valid h ≡ true) (same : shown g ≡ shown h) where
  same_n : g.n ≡ h.n
  unfolding shown
  same_n = ap (λ (s : Shown). s.n) same

  -- a register, by its number
  found : (q : Register) → in_map g.n q ≡ true → (decode g.n (number_of q) ≡ q) × (decode h.n (number_of q) ≡ q) × (number_of q < limit)
  found q a =
      let d : decode g.n (number_of q) ≡ q = decode_number g.n q (facts g v).n a in
      (d, decode_number h.n q (facts h w).n (subst (λ (n : ℕ). in_map n q ≡ true) same_n a), past_map g.n (number_of q) (ap is_register d ∙ registered q a))
    where
      registered : (q : Register) → in_map g.n q ≡ true → is_register q ≡ true
      registered (Only o) a = refl
      registered (Local f j) a = refl
      registered (Alert f i) a = refl
      registered (Block s k) a = refl
      registered Unassigned a = a

  both : {A : Type 0} (f : Shown → A) {x y : A} → f (shown g) ≡ x → f (shown h) ≡ y → x ≡ y
  both f a b = sym a ∙ ap f same ∙ b

  same_class : (k : ℕ) → k < class_count → class_of (show_class g k) ≡ class_of (show_class h k)
  same_class k l = both (λ s. get_or (given s).classes k (class_of no_class)) ((told g).class k l) ((told h).class k l)

  same_stage : (q : Register) → in_map g.n q ≡ true → stage g q ≡ stage h q
  same_stage q a =
      let f = found q a in
      both (λ s. get_or (given s).stages (number_of q) 0) ((told g).stages (number_of q) f.2 ∙ ap (stage g) f.0) ((told h).stages (number_of q) f.2 ∙ ap (stage h) f.1)

  same_cause : (q : Register) → in_map g.n q ≡ true → is_cause q ≡ true → value g q ≡ value h q
  same_cause q a e =
      let f = found q a in
      both (λ s. get_or (given s).causes (number_of q) 0)
      ((told g).causes (number_of q) f.2 ∙ ap (λ (p : Register). cond (is_cause p) (value g p) 0) f.0 ∙ ap (λ (t : Bool). cond t (value g q) 0) e)
      ((told h).causes (number_of q) f.2 ∙ ap (λ (p : Register). cond (is_cause p) (value h p) 0) f.1 ∙ ap (λ (t : Bool). cond t (value h q) 0) e)

  same_lock : (q : Register) → in_map g.n q ≡ true → is_lock q ≡ true → value g q ≡ value h q
  same_lock q a e =
      let f = found q a in
      let b : 1 - value g q ≡ 1 - value h q = both (λ s. get_or (given s).locked (number_of q) 0)
      ((told g).locked (number_of q) f.2 ∙ ap (λ (p : Register). cond (is_lock p) (1 - value g p) 0) f.0 ∙ ap (λ (t : Bool). cond t (1 - value g q) 0) e)
      ((told h).locked (number_of q) f.2 ∙ ap (λ (p : Register). cond (is_lock p) (1 - value h p) 0) f.1 ∙ ap (λ (t : Bool). cond t (1 - value h q) 0) e) in
      let x : value g q < 2 = subst (λ (b : ℕ). value g q < 2 ^ b) (lock_bit q e) (bounded g q v a) in
      let y : value h q < 2 = subst (λ (b : ℕ). value h q < 2 ^ b) (lock_bit q e) (bounded h q w (subst (λ (n : ℕ). in_map n q ≡ true) same_n a)) in
      omega arith

  pub agreed : Agree g h
  agreed =
      record {
        n = same_n;
        state = λ k l. ap (λ (c : ContentClass). c.state) (same_class k l);
        count = λ k l. ap (λ (c : ContentClass). c.count) (same_class k l);
        accum = λ k l. ap (λ (c : ContentClass). c.accum) (same_class k l);
        cause = same_cause;
        lock = same_lock;
        stages = same_stage;
      }

-- ── of states that agree the same is shown ──

abbrev shown_of : ℕ → List ShownClass → (ℕ → ℕ) → (ℕ → ℕ) → (ℕ → ℕ) → Shown
shown_of n cs f l t =
    record {
      n = n;
      classes = cs;
      causes = map f (numbers_with is_cause n);
      locks = map l (numbers_with is_lock n);
      stages = map (λ r. record { register = r; value = t r - 1 }) (picks (λ r. not (eqb (t r) 0)) 0 limit);
    }

abbrev cause_at : Handler → ℕ → ℕ
cause_at h r = cond (is_cause (decode h.n r)) (value h (decode h.n r)) 0

abbrev lock_at : Handler → ℕ → ℕ
lock_at h r = cond (is_lock (decode h.n r)) (1 - value h (decode h.n r)) 0

shown_is : (h : Handler) → shown h ≡ shown_of h.n (each class_count (show_class h)) (cause_at h) (lock_at h) (λ r. stage h (decode h.n r))
unfolding shown
shown_is h =
    let fs = map_picked (λ r. is_cause (decode h.n r)) (λ r. value h (decode h.n r)) 0 limit in
    let ls = map_picked (λ r. is_lock (decode h.n r)) (λ r. 1 - value h (decode h.n r)) 0 limit in
    λ i. record { n = h.n; classes = each class_count (show_class h); causes = fs i; locks = ls i; stages = (shown h).stages }

module _ (g h : Handler) (a : Agree g h) where
  abbrev in_g : ℕ → Register
  in_g r = decode g.n r

  moved : (r : ℕ) → in_g r ≡ decode h.n r
  moved r = ap (λ (n : ℕ). decode n r) a.n

  cause_same : (r : ℕ) → cause_at g r ≡ cause_at h r
  cause_same r = go (is_cause (in_g r)) refl ∙ ap (λ (q : Register). cond (is_cause q) (value h q) 0) (moved r)
    where
      go : (t : Bool) → is_cause (in_g r) ≡ t → cond t (value g (in_g r)) 0 ≡ cond t (value h (in_g r)) 0
      go true e = a.cause (in_g r) (decode_in_map g.n r (cause_register (in_g r) e)) e
      go false e = refl

  lock_same : (r : ℕ) → lock_at g r ≡ lock_at h r
  lock_same r = go (is_lock (in_g r)) refl ∙ ap (λ (q : Register). cond (is_lock q) (1 - value h q) 0) (moved r)
    where
      go : (t : Bool) → is_lock (in_g r) ≡ t → cond t (1 - value g (in_g r)) 0 ≡ cond t (1 - value h (in_g r)) 0
      go true e = ap (λ (x : ℕ). 1 - x) (a.lock (in_g r) (decode_in_map g.n r (lock_register (in_g r) e)) e)
      go false e = refl

  stage_same : (r : ℕ) → stage g (in_g r) ≡ stage h (decode h.n r)
  stage_same r = go (is_shadowed (in_g r)) refl ∙ ap (stage h) (moved r)
    where
      go : (t : Bool) → is_shadowed (in_g r) ≡ t → stage g (in_g r) ≡ stage h (in_g r)
      go true e = a.stages (in_g r) (decode_in_map g.n r (shadowed_register (in_g r) e))
      go false e = no_stage g.stages (in_g r) e ∙ sym (no_stage h.stages (in_g r) e)

  classes_same : each class_count (show_class g) ≡ each class_count (show_class h)
  classes_same =
      each_ext class_count (show_class g) (show_class h) no_class
      (λ k l. λ i. record { state = a.state k l i; count = a.count k l i; accum = a.accum k l i })

  pub shown_same : shown g ≡ shown h
  shown_same =
      let cs = classes_same in
      shown_is g
      ∙ (λ i. shown_of (a.n i) (cs i) (λ r. cause_same r i) (λ r. lock_same r i) (λ r. stage_same r i))
      ∙ sym (shown_is h)
