-- What step 1 of the rules leaves as it was: entries at N and above, N, the receivers, and the whole state where it is refused with 5, 1, 2, 4 or 14.
-- Assumes nothing.
use Prim.Native.Nat.{ℕ, ◌≤◌, ◌<◌}
use mathlib.Core.Path.{◌≡◌, refl, sym, ◌∙◌}
use mathlib.Core.Bool.{true, false, ◌&&◌}
use native.Mathlib.Omega.{arith}
use borrow.Author.Tests.{eqb-true, ltb-true}
use lib.Dec.{eqb}
use lib.ListN.{get_or}
use Rattle.std.specs.Prelude.{Err}
use Rattle.bits.proofs.IndexLaws.{and-true}
use Rattle.laws.specs.Columns.{same_field}
use Rattle.laws.specs.InMap.{in_map}
use Rattle.laws.specs.RegisterFile.{stores, stored_by}
use Rattle.laws.proofs.Samples.Receivers.{acted_links}
use Rattle.laws.proofs.Map.Cases.{pick, by_kind, by_field}
use Rattle.laws.proofs.Access.Refusals.{refused_keeps}
use Rattle.laws.proofs.Access.RegisterFile.{accepted_in_map, stores_accepted, acted_n}
use Rattle.laws.proofs.Access.Step1.{acted_but_stages}
use Rattle.laws.proofs.State.StateLaws.{alert_store}
use Rattle.rules.specs.Access.{field_stored, store, verdict, drops, acted}
use Rattle.rules.specs.Map.{decode}
use Rattle.rules.specs.State.{alert}
use Rattle.rules.specs.declared.Access.{Access}
use Rattle.rules.specs.declared.Access.TheVariants.{Nothing, Read, Write}
use Rattle.rules.specs.declared.Field.{Field}
use Rattle.rules.specs.declared.Handler.{Handler}
use Rattle.rules.specs.declared.Refusal.{Refusal}
use Rattle.rules.specs.declared.Register.{Register}
use Rattle.sentences.specs.Raw.{alert_list}
use Rattle.sentences.specs.AccessWrites.{Written}
use Rattle.sentences.proofs.AccessVerdict.{refusal_of, verdict_of, is_5, is_1, is_2, is_4, is_14}
use Rattle.sentences.proofs.AccessWrites.{takes, local_cause, alert_cause, ping_enable, intr_state, intr_test, intr_width, stays}

-- what holds of the state, and of it with a value stored at a register of its map, holds of what an access stores
pub stored_either : (h : Handler) (x : Access) (P : Handler → Type 0) → P h → ((q : Register) (v : ℕ) → in_map h.n q ≡ true → P (store h q v))
    → P (stored_by h x)
stored_either h Nothing P a f = a
stored_either h (Read r) P a f = a
stored_either h (Write r v) P a f =
    pick P (stores h r v) (store h (decode h.n r) v) h (λ e. f (decode h.n r) v (accepted_in_map h r v (stores_accepted h r v e))) (λ _. a)
stored_either h Access.Malformed P a f = a

-- ── entries at N and above ──

module _ (h : Handler) (f : Field) (i : ℕ) (l : h.n ≤ i) (b : i < 248) where
  store_above : (q : Register) (v : ℕ) → in_map h.n q ≡ true → alert (store h q v) f i ≡ alert h f i
  unfolding store
  store_above q v =
      by_kind (λ q. in_map h.n q ≡ true → alert (store h q v) f i ≡ alert h f i) (λ o e. refl) (λ g j e. refl)
      (λ g j e. alert_store h g j v f i b
      ∙ pick (λ (a : ℕ). a ≡ alert h f i) (same_field g f && eqb i j) (field_stored g (alert h g j) v) (alert h f i)
      (λ d. absurd (omega (arith, eqb-true i j (and-true (same_field g f) (eqb i j) d).1, ltb-true j h.n e))) (λ _. refl))
      (λ s k e. refl) (λ e. refl) q

  alert_above : (x : Access) → alert (acted h x) f i ≡ alert h f i
  alert_above x =
      acted_but_stages h x (λ g. alert g f i ≡ alert h f i) (λ _. stored_either h x (λ g. alert g f i ≡ alert h f i) refl store_above)

-- the list of a field is its column
list_is : (h : Handler) (f : Field) (i : ℕ) → alert h f i ≡ get_or (alert_list h f) i 0
list_is h f i = by_field (λ f. alert h f i ≡ get_or (alert_list h f) i 0) refl refl refl refl f

module _ (h : Handler) (x : Access) (m : h.n ≤ 248) where
  -- a refusal that drops no stage
  untouched : (r : Refusal) → drops r ≡ false → refusal_of (verdict h x) ≡ refusal_of (Err r) → acted h x ≡ h
  untouched r d e = refused_keeps h x r (verdict_of (verdict h x) (Err r) e) d

  pub holds_written : Written h x (acted h x)
  holds_written =
      record {
        takes = takes h m x;
        local_cause = local_cause h m x;
        alert_cause = alert_cause h m x;
        ping_enable = ping_enable h m x;
        intr_state = intr_state h m x;
        intr_test = intr_test h m x;
        intr_width = intr_width h m x;
        stays = stays h m x;
        above = λ f i l b. sym (list_is (acted h x) f i) ∙ alert_above h f i (omega arith) (omega arith) x ∙ list_is h f i;
        n = acted_n h x;
        links = acted_links h x;
        after_5 = λ c. untouched Refusal.BadRecord refl ((is_5 h x m).1 c);
        after_1 = λ c. untouched Refusal.NoRegister refl ((is_1 h x m).1 c);
        after_2 = λ c. untouched Refusal.WrongWay refl ((is_2 h x m).1 c);
        after_4 = λ c. untouched Refusal.TooWide refl ((is_4 h x m).1 c);
        after_14 = λ c. untouched Refusal.SillyThreshold refl ((is_14 h x m).1 c);
      }
