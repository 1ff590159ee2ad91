-- No sentence of an installer is missing: two of them give, for every lifecycle's number and every state, the same state, answer and register.
-- Assumes nothing.
use Prim.Native.Nat.{ℕ, ◌≤◌, ◌<◌}
use mathlib.Core.Path.{◌≡◌, refl, sym, subst}
use native.Mathlib.Omega.{arith}
use native.Mathlib.Decide.{dec_lt}
use Rattle.policy.specs.declared.Installed.{Installed}
use Rattle.rules.specs.declared.Handler.{Handler}
use Rattle.rules.specs.declared.Input.{Input}
use Rattle.sentences.specs.AccessArrays.{Sized}
use Rattle.sentences.specs.Valid.{Valid}
use Rattle.sentences.proofs.Whole.{Same, only_whole}
use Rattle.trace_sentences.proofs.OnlyBatches.{dec_valid}
use Rattle.trace_sentences.proofs.Replays.{Good, sized_next}
use Rattle.boot_sentences.specs.Boots.{BootIs, Installer}
use Rattle.boot_sentences.proofs.OnlyCourse.{same_returns, Agree, only_course, course_kept}
use Rattle.boot_sentences.proofs.OnlyOrder.{only_order, only_turns}

module _ (f g : ℕ → Handler → Installed) (p : Installer f) (q : Installer g) where
  same : (h : Handler) (x : Input) → Sized h → Same p.number q.number (p.tick h x) (q.tick h x)
  same h x s = only_whole p.tick q.tick p.number q.number p.ticks q.ticks h x s

  agree : Agree Good p.tick q.tick p.number q.number
  agree =
      record {
        keeps = λ h x g. ((p.ticks.ticks h x).stays_valid g.0, sized_next p.tick p.number p.ticks h x g.0 g.1);
        state = λ h x g. (same h x g.1).state;
        answer = λ h x g. (same h x g.1).answer;
      }

  same_turns : (c : ℕ) → c ≤ 5 → (t : ℕ) → t < 609 → p.turn c t ≡ q.turn c t
  same_turns c l =
      only_turns (p.put c) (q.put c) (only_order c (p.put c) (q.put c) (p.order c l) (q.order c l)) (p.turn c) (q.turn c) (p.turns c l) (q.turns c l)

  -- of one column
  same_boot : (c : ℕ) (h : Handler) (a b : Installed) → c ≤ 5 → Sized h → BootIs p.tick p.number (p.turn c) h a
      → BootIs q.tick q.number (q.turn c) h b → a ≡ b
  same_boot c h a b l s x y = go (dec_valid h) (dec_lt h.n 58)
    where
      go : Dec (Valid h) → Dec (h.n < 58) → a ≡ b
      go (no v) n = same_returns 0 _ _ _ _ a b refl refl (x.bad_state v) (y.bad_state v)
      go (yes v) (yes n) = same_returns 0 _ _ _ _ a b refl refl (x.few_alerts v n) (y.few_alerts v n)
      go (yes v) (no n) =
          let w : 58 ≤ h.n = omega arith in
          only_course Good p.tick q.tick p.number q.number agree 609 (p.turn c) (q.turn c) (same_turns c l) h (v, s) a b (x.begins v w) (y.begins v w)

  -- of any number, on any state whose arrays have their lengths
  pub only_installer : (c : ℕ) (h : Handler) → Sized h → f c h ≡ g c h
  only_installer c h s = go (dec_lt 5 c)
    where
      go : Dec (5 < c) → f c h ≡ g c h
      go (yes l) = same_boot 2 h (f c h) (g c h) (omega arith) s (p.over_five c h l) (q.over_five c h l)
      go (no l) = let m : c ≤ 5 = omega arith in same_boot c h (f c h) (g c h) m s (p.lifecycles c h m) (q.lifecycles c h m)

-- ── a boot leaves the arrays their lengths, so that any call may follow it ──

module _ (f : ℕ → Handler → Installed) (p : Installer f) where
  kept : (c : ℕ) (h : Handler) (b : Installed) → Sized h → BootIs p.tick p.number (p.turn c) h b → Sized b.handler
  kept c h b s x = go (dec_valid h) (dec_lt h.n 58)
    where
      go : Dec (Valid h) → Dec (h.n < 58) → Sized b.handler
      go (no v) n = subst Sized (sym (x.bad_state v).state) s
      go (yes v) (yes n) = subst Sized (sym (x.few_alerts v n).state) s
      go (yes v) (no n) =
          let w = x.begins v (omega arith) in
          (course_kept Good p.tick p.tick p.number p.number (agree f f p p) 609 (p.turn c) (p.turn c) (λ t l. refl) h (v, s) b b w w).1

  pub sized_installed : (c : ℕ) (h : Handler) → Sized h → Sized (f c h).handler
  sized_installed c h s = go (dec_lt 5 c)
    where
      go : Dec (5 < c) → Sized (f c h).handler
      go (yes l) = kept 2 h (f c h) s (p.over_five c h l)
      go (no l) = kept c h (f c h) s (p.lifecycles c h (omega arith))
