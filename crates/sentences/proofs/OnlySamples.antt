-- No sentence of step 2 is missing: whatever satisfies them gives one result. Nothing here knows the rules' definitions.
-- Assumes nothing.
use Prim.Native.Nat.{ℕ, ◌+◌, ◌-◌, ◌*◌, ◌≤◌, ◌<◌}
use mathlib.Core.Path.{◌≡◌, sym, ap, ◌∙◌}
use mathlib.Core.Bool.{Bool}
use mathlib.Core.List.{List}
use native.Mathlib.Omega.{arith}
use native.Mathlib.Decide.{ℕ_discrete}
use lib.ListN.{get_or, length}
use lib.Seq.{ext_get_or}
use Rattle.bits.specs.Bits.{bit}
use Rattle.bits.specs.Index.{place_in}
use Rattle.bits.proofs.BitLaws.{bit_ext}
use Rattle.bits.proofs.WordLaws.{place_in_at}
use Rattle.rules.specs.declared.Effects.{Effects}
use Rattle.rules.specs.declared.Handler.{Handler}
use Rattle.rules.specs.declared.Sample.{Sample}
use Rattle.sentences.specs.Pairs.{FourWords}
use Rattle.sentences.specs.Receivers.{Event}
use Rattle.sentences.specs.Samples.{AlertEnabled, Occurs, RaisesFiveOrNone, Sampled, SampleStep, EventIs, AnswersIs, AlertEventIs, OccursIs, AssignedIs}
use Rattle.sentences.specs.Valid.{Valid}
use Rattle.sentences.proofs.SentenceCases.{either, same_test}

-- two lists of as many entries
pub same_list : {A : Type 0} (n : ℕ) (d : A) (xs ys : List A) → length xs ≡ n → length ys ≡ n → ((i : ℕ) → i < n → get_or xs i d ≡ get_or ys i d) → xs ≡ ys
same_list n d xs ys l m e = ext_get_or d xs ys (l ∙ sym m) (λ i h. e i (omega arith))

-- two lists of four words of 64 bits
pub same_words : (xs ys : List ℕ) → length xs ≡ 4 → length ys ≡ 4 → ((v : ℕ) → v < 4 → get_or xs v 0 ≤ 18446744073709551615)
    → ((v : ℕ) → v < 4 → get_or ys v 0 ≤ 18446744073709551615) → ((i : ℕ) → i < 256 → place_in xs i ≡ place_in ys i) → xs ≡ ys
same_words xs ys l m x y e = same_list 4 0 xs ys l m (λ v h. bit_ext 64 (get_or xs v 0) (get_or ys v 0) (omega (arith, x v h)) (omega (arith, y v h)) (at v h))
  where
    at : (v : ℕ) → v < 4 → (k : ℕ) → k < 64 → bit (get_or xs v 0) k ≡ bit (get_or ys v 0) k
    at v h k s =
        let d : 63 - (63 - k) ≡ k = omega arith in
        let t : 63 - k < 64 = omega arith in
        ap (bit (get_or xs v 0)) (sym d) ∙ sym (place_in_at xs v (63 - k) t) ∙ e (v * 64 + (63 - k)) (omega arith) ∙ place_in_at ys v (63 - k) t
        ∙ ap (bit (get_or ys v 0)) d

-- two numbers of four bits
pub same_bits : (a b : ℕ) → a ≤ 15 → b ≤ 15 → ((k : ℕ) → k < 4 → bit a k ≡ bit b k) → a ≡ b
same_bits a b l m e = bit_ext 4 a b (omega arith) (omega arith) e

pub same_four : (xs ys : List ℕ) → FourWords xs → FourWords ys → ((i : ℕ) → i < 256 → place_in xs i ≡ place_in ys i) → xs ≡ ys
same_four xs ys a b e = same_words xs ys a.many b.many a.fits b.fits e

-- ── the state after step 2 ──

module _ (g : Handler) (s : Sample) (f : Effects) (h k : Handler) (a : Sampled g s f h) (b : Sampled g s f k) where
  same_cause : (i : ℕ) → i < 248 → get_or h.alerts.cause i 0 ≡ get_or k.alerts.cause i 0
  same_cause i l =
      either {A = Event g s f i × AlertEnabled g i} (ℕ_discrete (get_or h.alerts.cause i 0) (get_or k.alerts.cause i 0))
      (λ e. a.cause_sets i e.0 e.1 ∙ sym (b.cause_sets i e.0 e.1)) (λ n. a.cause_stays i l n ∙ sym (b.cause_stays i l n))

  same_local : (j : ℕ) → j < 7 → get_or h.locals.cause j 0 ≡ get_or k.locals.cause j 0
  same_local j l =
      either {A = Occurs g s f j} (ℕ_discrete (get_or h.locals.cause j 0) (get_or k.locals.cause j 0))
      (λ o. a.local_sets j l o ∙ sym (b.local_sets j l o)) (λ n. a.local_stays j l n ∙ sym (b.local_stays j l n))

  pub same_sampled : h ≡ k
  same_sampled = λ i.
      record {
        n = (a.n ∙ sym b.n) i;
        links = (a.links ∙ sym b.links) i;
        classes = (a.classes ∙ sym b.classes) i;
        alerts = record {
          regwen = (a.alert_regwen ∙ sym b.alert_regwen) i;
          en = (a.alert_en ∙ sym b.alert_en) i;
          class = (a.alert_class ∙ sym b.alert_class) i;
          cause = same_list 248 0 h.alerts.cause k.alerts.cause a.cause_entries b.cause_entries same_cause i;
        };
        locals = record {
          regwen = (a.local_regwen ∙ sym b.local_regwen) i;
          en = (a.local_en ∙ sym b.local_en) i;
          class = (a.local_class ∙ sym b.local_class) i;
          cause = same_list 7 0 h.locals.cause k.locals.cause a.local_entries b.local_entries same_local i;
        };
        interrupts = (a.interrupts ∙ sym b.interrupts) i;
        timer = (a.timer ∙ sym b.timer) i;
        stages = (a.stages ∙ sym b.stages) i;
      }

-- ── two functions that satisfy the sentences are one ──

pub only_samples : (f g : Handler → Sample → Effects → Handler) → SampleStep f → SampleStep g → (h : Handler) (s : Sample) (e : Effects) → Valid h → RaisesFiveOrNone e → f h s e ≡ g h s e
only_samples f g x y h s e v r = same_sampled h s e (f h s e) (g h s e) (x h s e v r) (y h s e v r)

pub only_event_bits : (f g : Handler → Sample → Effects → ℕ → Bool) → EventIs f → EventIs g → (h : Handler) (s : Sample) (e : Effects) (i : ℕ) → h.n ≤ 248 → f h s e i ≡ g h s e i
only_event_bits f g x y h s e i m = same_test (f h s e i) (g h s e i) (x h s e i m) (y h s e i m)

pub only_answer_bits : (f g : Handler → Sample → Effects → ℕ → Bool) → AnswersIs f → AnswersIs g → (h : Handler) (s : Sample) (e : Effects) (i : ℕ) → h.n ≤ 248 → f h s e i ≡ g h s e i
only_answer_bits f g x y h s e i m = same_test (f h s e i) (g h s e i) (x h s e i m) (y h s e i m)

pub only_alert_event : (f g : Handler → Sample → Effects → ℕ → Bool) → AlertEventIs f → AlertEventIs g → (h : Handler) (s : Sample) (e : Effects) (i : ℕ) → h.n ≤ 248 → f h s e i ≡ g h s e i
only_alert_event f g x y h s e i m = same_test (f h s e i) (g h s e i) (x h s e i m) (y h s e i m)

pub only_occurs : (f g : Handler → Sample → Effects → ℕ → Bool) → OccursIs f → OccursIs g → (h : Handler) (s : Sample) (e : Effects) (j : ℕ) → h.n ≤ 248 → h.timer.timeout ≤ 65535 → RaisesFiveOrNone e → j < 7 → f h s e j ≡ g h s e j
only_occurs f g x y h s e j n t r l = same_test (f h s e j) (g h s e j) (x h s e j n t r l) (y h s e j n t r l)

pub only_assigned : (f g : Handler → Sample → Effects → ℕ → Bool) → AssignedIs f → AssignedIs g → (h : Handler) (s : Sample) (e : Effects) (k : ℕ) → h.n ≤ 248 → h.timer.timeout ≤ 65535 → RaisesFiveOrNone e → f h s e k ≡ g h s e k
only_assigned f g x y h s e k n t r = same_test (f h s e k) (g h s e k) (x h s e k n t r) (y h s e k n t r)
