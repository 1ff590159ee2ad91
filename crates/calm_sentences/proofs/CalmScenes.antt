-- What the refutations of wrong calm calls share: a state and wires, and how a difference refutes.
-- Assumes nothing.
use Prim.Native.Nat.{ℕ, zero, suc, ◌≤◌, ◌<◌}
use mathlib.Core.Path.{◌≡◌, refl, sym, ap₂, ◌∙◌}
use mathlib.Core.List.{List, [], ◌∷◌}
use native.Mathlib.Omega.{arith}
use lib.ListN.{length, replicate}
use Rattle.calm_rules.specs.Call.{calm_verdict, calmed, calmed_list, call_words}
use Rattle.calm_rules.specs.Ticks.{calm_run, calm_output, change_word, calm_changes}
use Rattle.calm_rules.specs.declared.Calmed.{Calmed}
use Rattle.class_rules.specs.declared.Class.{Class}
use Rattle.laws.proofs.Map.Cases.{by_field}
use Rattle.rules.proofs.Scenes.{rules}
use Rattle.rules.specs.State.{new_handler, reset_class, with_alerts, with_classes, with_interrupts, with_links, with_locals, with_timer}
use Rattle.rules.specs.declared.Handler.{Handler}
use Rattle.rules.specs.declared.Wires.{Wires}
use Rattle.sentences.specs.AccessArrays.{Sized}
use Rattle.sentences.specs.Raw.{alert_list, local_list, class_of, stages_of}
use Rattle.calm_sentences.specs.Calms.{Calms}
use Rattle.calm_sentences.proofs.HoldsCalms.{is_the_calm}

-- ── the state: one alert, enabled as the local alerts are; line e on in phase e ──

-- class A with its EN, Phase 0 in its first tick of two, the other phases one tick each
abbrev pub phase0 : Class
phase0 = record { lengths = 2 ∷ 1 ∷ 1 ∷ 1 ∷ []; timeout = 0; count = 1; ctrl = 0x393F; accum = 0; thresh = 99; regwen = 1; clrwen = 1; state = 4 }

-- register 6 is t, INTR_STATE s, and the line's pairs p were on in the last tick
unfoldable pub scene : ℕ → ℕ → ℕ → Handler
scene t s p =
    with_alerts (record { regwen = replicate 248 1; en = replicate 248 1; class = replicate 248 0; cause = replicate 248 0 })
    (with_locals (record { regwen = replicate 7 1; en = replicate 7 1; class = replicate 7 0; cause = replicate 7 0 })
    (with_classes (phase0 ∷ reset_class ∷ reset_class ∷ reset_class ∷ [])
    (with_timer (record { timeout = 0; regwen = 1; enable = t })
    (with_interrupts (record { state = s; enable = 0 })
    (with_links
    (record {
      receivers = (new_handler 1).links.receivers;
      turn = (new_handler 1).links.turn;
      lines = 0;
      senders = record { on = 0; first = 0; last = p; deep = 0; answer = 0 };
      right = 0;
    })
    (new_handler 1))))))

sized_scene : (t s p : ℕ) → Sized (scene t s p)
unfolding scene new_handler
sized_scene t s p =
    record {
      alerts = by_field (λ f. length (alert_list (scene t s p) f) ≡ 248) refl refl refl refl;
      locals = by_field (λ f. length (local_list (scene t s p) f) ≡ 7) refl refl refl refl;
      classes = refl;
      lengths = lengths;
      alert_en = refl;
      alert_class = refl;
      local_en = refl;
      local_class = refl;
      stages = refl;
      stage_lengths = stage_lengths;
    }
  where
    lengths : (k : ℕ) → k < 4 → length (class_of (scene t s p) k).lengths ≡ 4
    lengths zero m = refl
    lengths (suc zero) m = refl
    lengths (suc (suc zero)) m = refl
    lengths (suc (suc (suc zero))) m = refl
    lengths (suc (suc (suc (suc k)))) m = absurd (omega arith)

    stage_lengths : (k : ℕ) → k < 4 → length (stages_of (scene t s p) k).lengths ≡ 4
    stage_lengths zero m = refl
    stage_lengths (suc zero) m = refl
    stage_lengths (suc (suc zero)) m = refl
    stage_lengths (suc (suc (suc zero))) m = refl
    stage_lengths (suc (suc (suc (suc k)))) m = absurd (omega arith)

-- ── wires: all at (0,1), all at (0,0) ──

abbrev pub low : Wires
low = record { pos = replicate 4 0; neg = replicate 4 18446744073709551615 }

abbrev pub equal : Wires
equal = record { pos = replicate 4 0; neg = replicate 4 0 }

-- names what the refutations compute with
unfoldable pub calms : ℕ → ℕ
unfolding rules scene calm_run calm_output change_word calm_changes calm_verdict calmed calmed_list call_words
calms n = n

-- ── a difference ──

-- by `only_calms` and `holds_calms` a calm call gives what `calmed` and `calmed_list` give; where f gives something else, it is none. The list has m entries of 77
pub differs_in : (f : Handler → Wires → ℕ → List ℕ → Calmed) (left : Handler → Wires → ℕ → List ℕ → List ℕ) (t s p : ℕ) (w : Wires) (n m : ℕ)
    → (view : Calmed → List ℕ → ℕ) (x y : ℕ) → view (f (scene t s p) w n (replicate m 77)) (left (scene t s p) w n (replicate m 77)) ≡ x
    → view (calmed (scene t s p) w n (replicate m 77)) (calmed_list (scene t s p) w n (replicate m 77)) ≡ y → n ≤ 4294967295 → ¬ (x ≡ y) → ¬ Calms f left
differs_in f left t s p w n m view x y a b l d c =
    let e = is_the_calm f left c (scene t s p) w n (replicate m 77) (sized_scene t s p) l in
    d (sym a ∙ ap₂ view e.0 e.1 ∙ b)
