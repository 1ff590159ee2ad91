-- The content that callers get: it tells what the state holds, and all that was shown can be taken from it again.
-- Assumes nothing.
use Prim.Native.Nat.{ℕ, ◌-◌, ◌<◌}
use mathlib.Core.Path.{◌≡◌, refl, sym, ap, ◌∙◌}
use mathlib.Core.Bool.{Bool, true, false, not}
use mathlib.Core.List.{List, map}
use native.Mathlib.Omega.{arith}
use native.Mathlib.Decide.{dec_lt}
use lib.Dec.{eqb}
use lib.ListN.{length, get_or, get_or-eq_default}
use Rattle.bits.specs.Index.{each}
use Rattle.bits.proofs.IndexLaws.{at_each, is_each, length_each}
use Rattle.dump_rules.specs.Content.{flag_at, flags_by, code_at, codes_by, class_of, given}
use Rattle.dump_rules.specs.Reader.{no_class}
use Rattle.dump_rules.specs.Shown.{Shown, WellShown, picks, limit, is_cause, numbers_with}
use Rattle.dump_rules.specs.declared.Content.{Content}
use Rattle.dump_rules.specs.declared.ContentClass.{ContentClass}
use Rattle.dump_rules.proofs.LawfulDump.{past_map, shadow_lt}
use Rattle.dump_rules.proofs.KindLaws.{cause_register, lock_register}
use Rattle.rules.specs.Map.{decode, is_lock, is_shadowed, is_register}
use Rattle.rules.specs.State.{class_count}
use Rattle.rules.specs.declared.Register.{Register}
use Rattle.dump_laws.proofs.Flags.{flags_back, stages_back, code_none}

-- what was shown, taken from the content
abbrev pub shown_by : Content → Shown
shown_by c =
    record {
      n = c.n;
      classes = each class_count (λ k. let x = get_or c.classes k (class_of no_class) in record { state = x.state; count = x.count; accum = x.accum });
      causes = map (λ r. get_or c.causes r 0) (numbers_with is_cause c.n);
      locks = map (λ r. get_or c.locked r 0) (numbers_with is_lock c.n);
      stages = map (λ r. record { register = r; value = get_or c.stages r 0 - 1 }) (picks (λ r. not (eqb (get_or c.stages r 0) 0)) 0 limit);
    }

module _ (s : Shown) (w : WellShown s) where
  flag_told : (p : Register → Bool) (bits : List ℕ) → ((q : Register) → p q ≡ true → is_register q ≡ true) → length bits ≡ length (numbers_with p s.n)
      → map (λ r. get_or (flags_by p s.n bits) r 0) (numbers_with p s.n) ≡ bits
  unfolding flags_by
  flag_told p bits g l =
      flags_back (λ r. p (decode s.n r)) bits (λ r. get_or (flags_by p s.n bits) r 0)
      (λ r e. at_each limit (flag_at (λ r. p (decode s.n r)) bits) r 0 (past_map s.n r (g (decode s.n r) e))) limit l

  code_told : (r : ℕ) → get_or (codes_by s.stages) r 0 ≡ code_at s.stages r
  unfolding codes_by
  code_told r = go (dec_lt r limit)
    where
      outside : ¬ (r < limit) → (t : Bool) → is_shadowed (decode s.n r) ≡ t → is_shadowed (decode s.n r) ≡ false
      outside l true e = absurd (l (shadow_lt s.n r e))
      outside l false e = e

      go : Dec (r < limit) → get_or (codes_by s.stages) r 0 ≡ code_at s.stages r
      go (yes l) = at_each limit (code_at s.stages) r 0 l
      go (no l) =
          let e : length (each limit (code_at s.stages)) ≡ limit = length_each limit (code_at s.stages) in
          get_or-eq_default (each limit (code_at s.stages)) 0 (omega arith)
          ∙ sym (code_none s.n s.stages 0 r w.rising (outside l (is_shadowed (decode s.n r)) refl))

  class_told : each class_count (λ k. let x = get_or (given s).classes k (class_of no_class) in record { state = x.state; count = x.count; accum = x.accum }) ≡ s.classes
  class_told =
      sym (is_each class_count s.classes (λ k. let x = get_or (given s).classes k (class_of no_class) in record { state = x.state; count = x.count; accum = x.accum }) no_class w.four
      (λ k l. sym (ap (λ (x : ContentClass). record { state = x.state; count = x.count; accum = x.accum }) (at_each class_count (λ k. class_of (get_or s.classes k no_class)) k (class_of no_class) l))))

  pub told_back : shown_by (given s) ≡ s
  told_back =
      let cs = class_told in
      let fs = flag_told is_cause s.causes cause_register w.all_causes in
      let ls = flag_told is_lock s.locks lock_register w.all_locks in
      let ts = stages_back s.n (λ r. get_or (codes_by s.stages) r 0) limit s.stages w.rising (shadow_lt s.n) code_told in
      λ i. record { n = s.n; classes = cs i; causes = fs i; locks = ls i; stages = ts i }
