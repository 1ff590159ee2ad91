-- What a state that 7 accepts shows is a content of a dump, and its dump is read back.
-- Assumes nothing.
use Prim.Native.Nat.{ℕ, zero, suc, ◌+◌, ◌-◌, ◌^◌, ◌≤◌, ◌<◌}
use mathlib.Core.Path.{◌≡◌, refl, subst}
use mathlib.Core.Bool.{Bool, true, false, cond}
use mathlib.Core.List.{List, [], ◌∷◌, map}
use native.Mathlib.Omega.{arith}
use borrow.Author.Tests.{lt-ltb, eqb-false, not-true}
use lib.Dec.{eqb}
use lib.ListN.{length-map}
use Rattle.bits.specs.Index.{each_from}
use Rattle.bits.proofs.IndexLaws.{true_and}
use Rattle.class_rules.specs.declared.Class.{Class}
use Rattle.formats.specs.Format.{All}
use Rattle.laws.specs.Facts.{Valid, ClassValid}
use Rattle.laws.specs.InMap.{in_map}
use Rattle.laws.proofs.Map.MapLaws.{decode_in_map}
use Rattle.laws.proofs.Stages.StageLaws.{no_stage}
use Rattle.laws.proofs.Valid.ValidLaws.{facts, bounded}
use Rattle.rules.specs.Access.{value}
use Rattle.rules.specs.Map.{decode, bits, is_lock, is_shadowed}
use Rattle.rules.specs.Stages.{stage, stage_in, is_open}
use Rattle.rules.specs.State.{class_at}
use Rattle.rules.specs.Valid.{valid}
use Rattle.rules.specs.declared.Handler.{Handler}
use Rattle.rules.specs.declared.Register.{Register}
use Rattle.dump_rules.specs.Shown.{ShownClass, ShownStage, WellShown, RiseFrom, class_shows, shown, picks, limit, is_cause, numbers_with}
use Rattle.dump_rules.specs.Dump.{dump_of}
use Rattle.dump_rules.specs.Reader.{shows, read_dump}
use Rattle.dump_rules.proofs.KindLaws.{cause_bit, shadowed_register}
use Rattle.dump_rules.proofs.PickLaws.{all_picked}
use Rattle.dump_rules.proofs.ReaderLaws.{read_back}

abbrev show_class : Class → ShownClass
show_class c = record { state = c.state; count = c.count; accum = c.accum }

class_shows_law : (c : Class) → ClassValid c → class_shows (show_class c) ≡ true
class_shows_law c v = true_and v.state (true_and v.suits (true_and (lt-ltb c.count (2 ^ 32) v.count) (lt-ltb c.accum (2 ^ 16) v.accum)))

all_of_map : {A B : Type 0} {p : A → Type 0} (q : B → Type 0) (f : A → B) → ((x : A) → p x → q (f x)) → (xs : List A) → All p xs → All q (map f xs)
all_of_map q f g [] h = tt
all_of_map q f g (x ∷ xs) h = (g x h.0, all_of_map q f g xs h.1)

-- ── stages ──

rise_down : (n a b : ℕ) (ss : List ShownStage) → a ≤ b → RiseFrom n b ss → RiseFrom n a ss
rise_down n a b [] l h = tt
rise_down n a b (s ∷ ss) l h = (omega (arith, h.0), h.1, h.2, h.3)

module _ (h : Handler) (v : valid h ≡ true) where
  abbrev register_at : ℕ → Register
  register_at r = decode h.n r

  abbrev open_at : ℕ → Bool
  open_at r = is_open h.stages (register_at r)

  abbrev show_stage : ℕ → ShownStage
  show_stage r = record { register = r; value = stage h (register_at r) - 1 }

  abbrev f : Valid h
  f = facts h v

  open_shadowed : (q : Register) → is_open h.stages q ≡ true → is_shadowed q ≡ true
  open_shadowed q e = go (is_shadowed q) refl
    where
      go : (t : Bool) → is_shadowed q ≡ t → t ≡ true
      go true s = refl
      go false s = absurd (eqb-false (stage_in h.stages q) 0 (not-true (eqb (stage_in h.stages q) 0) e) (no_stage h.stages q s))

  stage_small : (r : ℕ) → open_at r ≡ true → stage h (register_at r) - 1 < 2 ^ bits (register_at r)
  stage_small r e =
      let q : Register = register_at r in
      let m : in_map h.n q ≡ true = decode_in_map h.n r (shadowed_register q (open_shadowed q e)) in
      let l : stage h q ≤ 2 ^ bits q = f.stages q m in
      let z : stage h q ≡ 0 → ⊥ = eqb-false (stage h q) 0 (not-true (eqb (stage h q) 0) e) in
      let p : 0 < stage h q = omega arith in
      omega arith

  rise_picks : (a m : ℕ) → RiseFrom h.n a (map show_stage (picks open_at a m))
  unfolding picks
  rise_picks a zero = tt
  rise_picks a (suc m) = go (open_at a) refl (rise_picks (suc a) m)
    where
      go : (t : Bool) → open_at a ≡ t → RiseFrom h.n (suc a) (map show_stage (picks open_at (suc a) m))
          → RiseFrom h.n a (map show_stage (cond t (a ∷ picks open_at (suc a) m) (picks open_at (suc a) m)))
      go true e g = (omega arith, open_shadowed (register_at a) e, stage_small a e, g)
      go false e g = rise_down h.n a (suc a) (map show_stage (picks open_at (suc a) m)) (omega arith) g

  -- ── the whole ──

  cause_small : (r : ℕ) → (0 ≤ r) × (r < 0 + limit) × (is_cause (register_at r) ≡ true) → value h (register_at r) < 2
  cause_small r p =
      let q : Register = register_at r in
      let o = cause_bit q p.2 in
      let l : value h q < 2 ^ bits q = bounded h q v (decode_in_map h.n r o.0) in
      subst (λ (b : ℕ). value h q < 2 ^ b) o.1 l

  lock_small : (r : ℕ) → (0 ≤ r) × (r < 0 + limit) × (is_lock (register_at r) ≡ true) → 1 - value h (register_at r) < 2
  lock_small r p = omega arith

  pub shown_well : WellShown (shown h)
  unfolding shown each_from
  shown_well =
      record {
        alerts = f.n;
        four = refl;
        each_class = (
          class_shows_law (class_at h 0) (f.classes 0 (omega arith)),
          (
            class_shows_law (class_at h 1) (f.classes 1 (omega arith)),
            (class_shows_law (class_at h 2) (f.classes 2 (omega arith)), (class_shows_law (class_at h 3) (f.classes 3 (omega arith)), tt)),
          ),
        );
        all_causes = length-map (numbers_with is_cause h.n) (λ r. value h (register_at r));
        cause_bits = all_of_map (λ b. b < 2) (λ r. value h (register_at r)) cause_small (numbers_with is_cause h.n) (all_picked (λ r. is_cause (register_at r)) 0 limit);
        all_locks = length-map (numbers_with is_lock h.n) (λ r. 1 - value h (register_at r));
        lock_bits = all_of_map (λ b. b < 2) (λ r. 1 - value h (register_at r)) lock_small (numbers_with is_lock h.n) (all_picked (λ r. is_lock (register_at r)) 0 limit);
        rising = rise_picks 0 limit;
      }

  -- a dump read back shows what the state held
  pub dump_back : read_dump (dump_of (shown h)) ≡ shows (shown h)
  dump_back = read_back (shown h) shown_well
