-- No sentence of a content is missing: two that show a state are one, and so are two that show nothing.
-- Assumes nothing.
use Prim.Native.Nat.{ℕ, zero, suc, ◌≤◌, ◌<◌}
use mathlib.Core.Path.{◌≡◌, refl, sym, ◌∙◌}
use mathlib.Core.Logic.{◌⊎◌, inl, inr}
use mathlib.Core.List.{List}
use native.Mathlib.Omega.{arith}
use lib.ListN.{get_or, length}
use lib.Seq.{ext_get_or}
use Rattle.dump_rules.specs.declared.Content.{Content}
use Rattle.rules.specs.declared.Handler.{Handler}
use Rattle.rules.specs.declared.Register.{Register}
use Rattle.sentences.specs.AccessMap.{Names, Regwen}
use Rattle.sentences.specs.Raw.{held}
use Rattle.sentences.specs.Valid.{Valid}
use Rattle.dump_sentences.specs.Contents.{Cause, content_class, Entries, Shows, Nothing}
use Rattle.dump_sentences.specs.DumpBytes.{Staged}
use Rattle.dump_sentences.proofs.ContentLaws.{causes_at, locks_at, lock_small}
use Rattle.dump_sentences.proofs.StagedLaws.{dec_staged}

-- contents that agree in all they hold
module _ (c d : Content) (x : Entries c) (y : Entries d) where
  same_class : (k : ℕ) → (content_class c k).state ≡ (content_class d k).state → (content_class c k).count ≡ (content_class d k).count
      → (content_class c k).accum ≡ (content_class d k).accum → content_class c k ≡ content_class d k
  same_class k s n a = λ i. record { state = s i; count = n i; accum = a i }

  same_numbers : (xs ys : List ℕ) → length xs ≡ 1344 → length ys ≡ 1344 → ((r : ℕ) → r < 1344 → get_or xs r 0 ≡ get_or ys r 0) → xs ≡ ys
  same_numbers xs ys a b e = ext_get_or 0 xs ys (a ∙ sym b) (λ r l. e r (omega arith))

  same_content : c.answer ≡ d.answer → c.n ≡ d.n → ((k : ℕ) → k < 4 → content_class c k ≡ content_class d k)
      → ((r : ℕ) → r < 1344 → get_or c.stages r 0 ≡ get_or d.stages r 0) → ((r : ℕ) → r < 1344 → get_or c.causes r 0 ≡ get_or d.causes r 0)
      → ((r : ℕ) → r < 1344 → get_or c.locked r 0 ≡ get_or d.locked r 0) → c ≡ d
  same_content a n k s u l = λ i.
      record {
        answer = a i;
        n = n i;
        classes = ext_get_or (record { state = 0; count = 0; accum = 0 }) c.classes d.classes (x.classes ∙ sym y.classes) (λ j m. k j (omega (arith, x.classes, m))) i;
        stages = same_numbers c.stages d.stages x.stages y.stages s i;
        causes = same_numbers c.causes d.causes x.causes y.causes u i;
        locked = same_numbers c.locked d.locked x.locked y.locked l i;
      }

module _ (h : Handler) (v : Valid h) (c d : Content) (x : Shows h c) (y : Shows h d) where
  stage_same : (r : ℕ) → r < 1344 → get_or c.stages r 0 ≡ get_or d.stages r 0
  stage_same r l = go (dec_staged h v.n r)
    where
      go : ((u : ℕ) × Staged h r u) ⊎ ((u : ℕ) → ¬ Staged h r u) → get_or c.stages r 0 ≡ get_or d.stages r 0
      go (inl s) = x.stage r s.0 l s.1 ∙ sym (y.stage r s.0 l s.1)
      go (inr s) = x.no_stage r l s ∙ sym (y.no_stage r l s)

  cause_same : (r : ℕ) → r < 1344 → get_or c.causes r 0 ≡ get_or d.causes r 0
  cause_same r l = go (causes_at h.n r v.n)
    where
      go : ((q : Register) × Names h.n r q × Cause q) ⊎ ((q : Register) → Names h.n r q → ¬ Cause q) → get_or c.causes r 0 ≡ get_or d.causes r 0
      go (inl s) = x.cause r s.0 s.1 s.2 ∙ sym (y.cause r s.0 s.1 s.2)
      go (inr s) = x.no_cause r l s ∙ sym (y.no_cause r l s)

  lock_same : (r : ℕ) → r < 1344 → get_or c.locked r 0 ≡ get_or d.locked r 0
  lock_same r l = go (locks_at h.n r v.n)
    where
      by : (q : Register) → Names h.n r q → Regwen q → (b : ℕ) → held h q ≡ b → b ≤ 1 → get_or c.locked r 0 ≡ get_or d.locked r 0
      by q s w zero e m = x.locked r q s w e ∙ sym (y.locked r q s w e)
      by q s w (suc zero) e m = x.unlocked r q s w e ∙ sym (y.unlocked r q s w e)
      by q s w (suc (suc b)) e m = absurd (omega arith)

      go : ((q : Register) × Names h.n r q × Regwen q) ⊎ ((q : Register) → Names h.n r q → ¬ Regwen q) → get_or c.locked r 0 ≡ get_or d.locked r 0
      go (inl s) = by s.0 s.1 s.2 (held h s.0) refl (lock_small h v r s.0 s.1 s.2)
      go (inr s) = x.no_lock r l s ∙ sym (y.no_lock r l s)

  pub same_shows : c ≡ d
  same_shows =
      same_content c d x.entries y.entries (x.answer ∙ sym y.answer) (x.n ∙ sym y.n)
      (λ k l.
      same_class c d x.entries y.entries k (x.state k l ∙ sym (y.state k l)) (x.count k l ∙ sym (y.count k l))
      (x.accumulator k l ∙ sym (y.accumulator k l)))
      stage_same cause_same lock_same

pub same_nothing : (m : ℕ) (c d : Content) → Nothing m c → Nothing m d → c ≡ d
same_nothing m c d x y =
    same_content c d x.entries y.entries (x.answer ∙ sym y.answer) (x.n ∙ sym y.n)
    (λ k l.
    same_class c d x.entries y.entries k (x.state k l ∙ sym (y.state k l)) (x.count k l ∙ sym (y.count k l))
    (x.accumulator k l ∙ sym (y.accumulator k l)))
    (λ r l. x.stages r l ∙ sym (y.stages r l)) (λ r l. x.causes r l ∙ sym (y.causes r l)) (λ r l. x.locked r l ∙ sym (y.locked r l))
