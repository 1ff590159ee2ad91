-- Each well-shown content is what some state shows that 7 accepts.
-- Assumes nothing.
use Prim.Native.Nat.{ℕ, ◌-◌, ◌^◌, ◌≤◌, ◌<◌}
use mathlib.Core.Path.{◌≡◌, refl, sym, ap, ◌∙◌, subst}
use mathlib.Core.Bool.{Bool, true, false, ◌&&◌}
use native.Mathlib.Omega.{arith}
use borrow.Author.Tests.{ltb-true}
use lib.ListN.{get_or, get_or-replicate}
use Rattle.bits.specs.Bits.{bit, fits}
use Rattle.bits.specs.Index.{each}
use Rattle.bits.proofs.BitLaws.{bit_none}
use Rattle.bits.proofs.IndexLaws.{and-true, at_each, is_each}
use Rattle.class_rules.specs.Class.{state_of, state_fits, count_fits}
use Rattle.class_rules.specs.declared.Class.{Class}
use Rattle.formats.proofs.FormatLaws.{all_at}
use Rattle.laws.specs.Facts.{ClassValid}
use Rattle.laws.specs.InMap.{in_map}
use Rattle.laws.proofs.Map.Cases.{by_field, never}
use Rattle.laws.proofs.Map.MapLaws.{decode_in_map, number_decode, decode_number}
use Rattle.laws.proofs.Samples.Heard.{receiver_by}
use Rattle.laws.proofs.Stages.StageLaws.{no_stage}
use Rattle.laws.proofs.Valid.ValidLaws.{is_valid_law}
use Rattle.link_rules.specs.Receiver.{new_receiver}
use Rattle.link_rules.specs.declared.Receiver.{Receiver}
use Rattle.rules.specs.Access.{value}
use Rattle.rules.specs.Map.{decode, number_of, bits, is_lock, is_shadowed, is_register, field_bits}
use Rattle.rules.specs.Stages.{stage}
use Rattle.rules.specs.State.{most, local_count, class_count, local, alert, class_at, receiver_in, new_handler}
use Rattle.rules.specs.Valid.{valid}
use Rattle.rules.specs.declared.Field.{Field}
use Rattle.rules.specs.declared.Register.{Register}
use Rattle.rules.specs.declared.Register.TheVariants.{Only, Local, Alert, Block}
use Rattle.dump_rules.specs.Content.{flag_at, code_at}
use Rattle.dump_rules.specs.Reader.{no_class}
use Rattle.dump_rules.specs.Shown.{ShownClass, Shown, WellShown, shown, limit, is_cause}
use Rattle.dump_rules.proofs.LawfulDump.{shadow_lt}
use Rattle.dump_rules.proofs.GoodDump.{shows_at}
use Rattle.dump_rules.proofs.KindLaws.{cause_register, lock_register, shadowed_register}
use Rattle.dump_laws.specs.Holding.{cause_of, lock_of, code_of, class_holding, holding}
use Rattle.dump_laws.proofs.Flags.{flags_back, flag_small, stages_back, code_none, code_fits}
use Rattle.dump_laws.proofs.Held.{held_cause, held_lock, held_stage, class_at_law}

module _ (s : Shown) (w : WellShown s) where
  -- ── what is shown is small enough ──

  pub cause_small : (q : Register) → cause_of s q < 2
  unfolding cause_of
  cause_small q = flag_small (λ r. is_cause (decode s.n r)) s.causes (number_of q) (all_at (λ b. b < 2) 0 (omega arith) s.causes w.cause_bits)

  pub lock_small : (q : Register) → lock_of s q < 2
  unfolding lock_of
  lock_small q = omega arith

  class_valid : (k : ℕ) → ClassValid (class_holding s k)
  class_valid k =
      let c : ShownClass = get_or s.classes k no_class in
      let a = and-true (state_fits c.state) (count_fits (state_of c.state) c.count && (fits 32 c.count && fits 16 c.accum)) (shows_at s w k) in
      let b = and-true (count_fits (state_of c.state) c.count) (fits 32 c.count && fits 16 c.accum) a.1 in
      let d = and-true (fits 32 c.count) (fits 16 c.accum) b.1 in
      record {
        regwen = lock_small (Block _ k);
        ctrl = omega arith;
        clrwen = lock_small (Block _ k);
        accum = ltb-true c.accum (2 ^ 16) d.1;
        thresh = omega arith;
        timeout = omega arith;
        lengths = λ p l. subst (λ (x : ℕ). x < 2 ^ 32) (sym (get_or-replicate 4 p 0 0 l)) (omega arith);
        count = ltb-true c.count (2 ^ 32) d.0;
        state = a.0;
        suits = b.0;
      }

  -- ── 7 accepts the state ──

  abbrev Few : Field → ℕ → Type 0
  Few f x = x < 2 ^ field_bits f

  local_fits : (f : Field) (j : ℕ) → j < local_count → Few f (local (holding s) f j)
  unfolding holding
  local_fits f j l =
      by_field (λ f. Few f (local (holding s) f j))
      (subst (λ (x : ℕ). x < 2) (sym (at_each local_count (λ j. lock_of s (Local Field.Regwen j)) j 0 l)) (lock_small (Local Field.Regwen j)))
      (subst (λ (x : ℕ). x < 2) (sym (get_or-replicate local_count j 0 0 l)) (omega arith))
      (subst (λ (x : ℕ). x < 2 ^ 2) (sym (get_or-replicate local_count j 0 0 l)) (omega arith))
      (subst (λ (x : ℕ). x < 2) (sym (at_each local_count (λ j. cause_of s (Local Field.Cause j)) j 0 l)) (cause_small (Local Field.Cause j))) f

  alert_fits : (f : Field) (i : ℕ) → i < s.n → Few f (alert (holding s) f i)
  unfolding holding
  alert_fits f i b =
      let l : i < most = omega (arith, w.alerts) in
      by_field (λ f. Few f (alert (holding s) f i))
      (subst (λ (x : ℕ). x < 2) (sym (at_each most (λ i. lock_of s (Alert Field.Regwen i)) i 0 l)) (lock_small (Alert Field.Regwen i)))
      (subst (λ (x : ℕ). x < 2) (sym (get_or-replicate most i 0 0 l)) (omega arith))
      (subst (λ (x : ℕ). x < 2 ^ 2) (sym (get_or-replicate most i 0 0 l)) (omega arith))
      (subst (λ (x : ℕ). x < 2) (sym (at_each most (λ i. cause_of s (Alert Field.Cause i)) i 0 l)) (cause_small (Alert Field.Cause i))) f

  no_ping : (i : ℕ) → i < s.n → (receiver_in (new_handler s.n).links.receivers i).pending ≡ false
  unfolding new_handler
  no_ping i l = ap (λ (r : Receiver). r.pending) (receiver_by (λ i. new_receiver) i (omega (arith, w.alerts)))

  no_line : (e : ℕ) → bit (new_handler s.n).links.lines e ≡ false
  unfolding new_handler
  no_line e = bit_none e

  stage_is : (q : Register) → in_map s.n q ≡ true → stage (holding s) q ≡ code_of s q
  unfolding code_of
  stage_is q a = go (is_shadowed q) refl
    where
      go : (t : Bool) → is_shadowed q ≡ t → stage (holding s) q ≡ code_at s.stages (number_of q)
      go true e = held_stage s w.alerts q a e
      go false e =
          no_stage (holding s).stages q e
          ∙ sym (code_none s.n s.stages 0 (number_of q) w.rising (ap is_shadowed (decode_number s.n q w.alerts a) ∙ e))

  stage_fits : (q : Register) → in_map s.n q ≡ true → stage (holding s) q ≤ 2 ^ bits q
  unfolding code_of
  stage_fits q a =
      let c : code_at s.stages (number_of q) ≤ 2 ^ bits (decode s.n (number_of q)) = code_fits s.n s.stages 0 (number_of q) w.rising in
      subst (λ (x : ℕ). x ≤ 2 ^ bits q) (sym (stage_is q a))
      (subst (λ (p : Register). code_at s.stages (number_of q) ≤ 2 ^ bits p) (decode_number s.n q w.alerts a) c)

  pub holding_valid : valid (holding s) ≡ true
  unfolding holding
  holding_valid =
      is_valid_law (holding s) (record {
        n = w.alerts;
        state = omega arith;
        enable = omega arith;
        locals = local_fits;
        alerts = alert_fits;
        classes = λ k l. subst ClassValid (sym (class_at_law s w.alerts k l)) (class_valid k);
        timer = record { regwen = lock_small (Only _); timeout = omega arith; enable = omega arith };
        pings =
            record {
              alert = λ i l e. never (sym (no_ping i l) ∙ e);
              line = λ i l e. never (sym (no_line i) ∙ e);
            };
        stages = stage_fits;
      })

  -- ── and it shows the content ──

  abbrev here : ℕ → Register
  here r = decode s.n r

  shows_cause : (r : ℕ) → is_cause (here r) ≡ true → value (holding s) (here r) ≡ flag_at (λ x. is_cause (here x)) s.causes r
  unfolding cause_of
  shows_cause r e =
      let g : is_register (here r) ≡ true = cause_register (here r) e in
      held_cause s w.alerts (here r) (decode_in_map s.n r g) e ∙ ap (flag_at (λ x. is_cause (here x)) s.causes) (number_decode s.n r g)

  shows_lock : (r : ℕ) → is_lock (here r) ≡ true → 1 - value (holding s) (here r) ≡ flag_at (λ x. is_lock (here x)) s.locks r
  unfolding lock_of
  shows_lock r e =
      let g : is_register (here r) ≡ true = lock_register (here r) e in
      let b : ℕ = flag_at (λ x. is_lock (here x)) s.locks r in
      let l : b < 2 = flag_small (λ x. is_lock (here x)) s.locks r (all_at (λ b. b < 2) 0 (omega arith) s.locks w.lock_bits) in
      let v : value (holding s) (here r) ≡ 1 - b =
      held_lock s w.alerts (here r) (decode_in_map s.n r g) e ∙ ap (λ (x : ℕ). 1 - flag_at (λ x. is_lock (here x)) s.locks x) (number_decode s.n r g) in
      ap (λ (x : ℕ). 1 - x) v ∙ (let z : 1 - (1 - b) ≡ b = omega arith in z)

  shows_stage : (r : ℕ) → stage (holding s) (here r) ≡ code_at s.stages r
  unfolding code_of
  shows_stage r = go (is_register (here r)) refl
    where
      go : (t : Bool) → is_register (here r) ≡ t → stage (holding s) (here r) ≡ code_at s.stages r
      go true g = stage_is (here r) (decode_in_map s.n r g) ∙ ap (code_at s.stages) (number_decode s.n r g)
      go false g =
          let f : is_shadowed (here r) ≡ false = not_shadowed (is_shadowed (here r)) refl in
          no_stage (holding s).stages (here r) f ∙ sym (code_none s.n s.stages 0 r w.rising f)
        where
          not_shadowed : (t : Bool) → is_shadowed (here r) ≡ t → is_shadowed (here r) ≡ false
          not_shadowed true e = never (sym g ∙ shadowed_register (here r) e)
          not_shadowed false e = e

  shows_classes : each class_count (λ k. record { state = (class_at (holding s) k).state; count = (class_at (holding s) k).count; accum = (class_at (holding s) k).accum }) ≡ s.classes
  shows_classes =
      sym (is_each class_count s.classes (λ k. record { state = (class_at (holding s) k).state; count = (class_at (holding s) k).count; accum = (class_at (holding s) k).accum }) no_class w.four
      (λ k l. sym (ap (λ (c : Class). record { state = c.state; count = c.count; accum = c.accum }) (class_at_law s w.alerts k l))))

  pub holding_shown : shown (holding s) ≡ s
  unfolding shown holding
  holding_shown =
      let cs = shows_classes in
      let fs = flags_back (λ r. is_cause (here r)) s.causes (λ r. value (holding s) (here r)) shows_cause limit w.all_causes in
      let ls = flags_back (λ r. is_lock (here r)) s.locks (λ r. 1 - value (holding s) (here r)) shows_lock limit w.all_locks in
      let ts = stages_back s.n (λ r. stage (holding s) (here r)) limit s.stages w.rising (shadow_lt s.n) shows_stage in
      λ i. record { n = s.n; classes = cs i; causes = fs i; locks = ls i; stages = ts i }
