-- The words in which demand 3 speaks of a class satisfy their sentences.
-- Assumes nothing.
use Prim.Native.Nat.{◌+◌, ◌≤◌}
use mathlib.Core.Path.{◌≡◌, refl, sym, ◌∙◌, subst}
use mathlib.Core.Logic.Iff
use mathlib.Core.Logic.{◌↔◌, ◌⊎◌, inl, inr, ⊎_elim}
use mathlib.Core.Bool.{true, false≢true, ◌&&◌}
use lib.Dec.{leb}
use Rattle.class_rules.specs.Class.{en, lock, line_enable, line_map, phase_cyc, phase, state_of}
use Rattle.class_rules.specs.Step.{trigger, due, starts, starts_from, class_step}
use Rattle.class_rules.specs.declared.Class.{Class}
use Rattle.class_rules.specs.declared.Signals.{Signals}
use Rattle.sentences.specs.Fits.{Fits}
use Rattle.sentences.specs.ClassStep.{Trigger, Due, Enters, Stepped}
use Rattle.sentences.specs.Start.{TriggerIs, DueIs, Reason, StartsIs, StateIs, SettingsAre}
use Rattle.sentences.proofs.SentenceCases.{by_state, by_phase, and_is, or_is, le_is}
use Rattle.sentences.proofs.HoldsClass.{stepped, starts_is, unstarted_phase}
use Rattle.sentences.proofs.OnlyClass.{same_class}
use Rattle.sentences.proofs.SentenceWords.{trigger_is, due_is}

pub holds_trigger : TriggerIs trigger
holds_trigger = trigger_is

pub holds_due : DueIs due
holds_due = due_is

module _ (s : Signals) (c : Class) where
  -- whatever steps 3 and 4 leave, they leave what the rules leave
  moves : (d : Class) → Fits c → Stepped s c d → (starts s c ≡ true) ↔ Enters c d
  moves d f a =
      let e : class_step s c ≡ d = same_class s c (class_step s c) d f (stepped s c f) a in
      (λ t. subst (Enters c) e ((starts_is s c f).0 t), λ h. (starts_is s c f).1 (subst (Enters c) (sym e) h))

  -- by its state
  reasons : Fits c → (starts s c ≡ true) ↔ Reason s c
  unfolding state_of starts_from
  reasons f =
      let waited = or_is (trigger s c) (due s c && leb c.timeout c.count) (trigger_is s c)
      (and_is (due s c) (leb c.timeout c.count) (due_is s c) (le_is c.timeout c.count)) in (
        by_state (λ m. c.state ≡ m → starts s c ≡ true → Reason s c) (λ i t. inl (inl i, (trigger_is s c).0 (simp i at t)))
            (λ i t. ⊎_elim (λ (x : Trigger s c). inl (inr i, x)) (λ (y : Due s c × (c.timeout ≤ c.count)). inr (i, y.0, y.1)) (waited.0 (simp i at t)))
            (λ i t. absurd (false≢true (simp i at t))) (λ p h i t. absurd (false≢true (sym (unstarted_phase s c p h i) ∙ t))) c.state f.state
            f.is_state refl,
        ⊎_elim
            (λ (r : ((c.state ≡ 0) ⊎ (c.state ≡ 1)) × Trigger s c).
            ⊎_elim (λ (i : c.state ≡ 0). simp (i, (trigger_is s c).1 r.1)) (λ (i : c.state ≡ 1). simp (i, (trigger_is s c).1 r.1)) r.0)
            (λ (r : (c.state ≡ 1) × Due s c × (c.timeout ≤ c.count)). simp (r.0, waited.1 (inr (r.1, r.2)))),
      )

pub holds_starts : StartsIs starts
holds_starts = record { move = moves; reason = reasons }

pub holds_state : StateIs state_of phase
unfolding state_of
holds_state =
    record {
      idle = refl;
      timeout = refl;
      terminal = refl;
      phase_0 = refl;
      phase_1 = refl;
      phase_2 = refl;
      phase_3 = refl;
      phases = by_phase (λ p. phase p ≡ state_of (4 + p)) refl refl refl refl;
    }

pub holds_settings : SettingsAre en lock line_enable line_map phase_cyc
holds_settings =
    record {
      is_en = λ c. Iff.rfl;
      is_lock_law = λ c. Iff.rfl;
      enable = λ c e l. Iff.rfl;
      map = λ c e l. refl;
      length = λ c p l. refl;
    }
