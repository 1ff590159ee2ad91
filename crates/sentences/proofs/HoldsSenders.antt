-- The rules of the lines' senders, request (xi), satisfy the sentences.
-- Assumes nothing.
use Prim.Native.Nat.{ℕ, ◌<◌}
use mathlib.Core.Path.{◌≡◌, refl, sym, ap, ap₂, ◌∙◌}
use mathlib.Core.Logic.Iff
use mathlib.Core.Logic.{◌↔◌, ◌⊎◌, inl, inr, ⊎_elim}
use mathlib.Core.Bool.{Bool, true, false, false≢true, not, ◌&&◌}
use lib.Dec.{eqb}
use Rattle.bits.specs.Bits.{bit}
use Rattle.bits.proofs.BitLaws.{bit_bits_of}
use Rattle.link_rules.proofs.CodeLaws.{last_back}
use Rattle.link_rules.specs.Codes.{response_of, last_bit, deep_bit}
use Rattle.link_rules.specs.EscalationReceiver.{response_after, is_answering, sound_after}
use Rattle.link_rules.specs.Pair.{equal, differ}
use Rattle.link_rules.specs.Sender.{holds, pulses, pair, sent, wrong}
use Rattle.link_rules.specs.Timer.{is_line, line_of, opens}
use Rattle.link_rules.specs.declared.Drive.{Drive}
use Rattle.link_rules.specs.declared.Sender.{Sender}
use Rattle.link_rules.specs.declared.Turn.{Turn}
use Rattle.rules.specs.Samples.{checks, receive_positive, receive_negative, turn_answered, timed, heard}
use Rattle.rules.specs.State.{sender, with_links}
use Rattle.rules.specs.Tick.{driven, links_after}
use Rattle.rules.specs.declared.Effects.{Effects}
use Rattle.rules.specs.declared.Handler.{Handler}
use Rattle.rules.specs.declared.Receive.{Receive}
use Rattle.rules.specs.declared.Receive.TheVariants.{Pairs, Answers}
use Rattle.rules.specs.declared.Sample.{Sample}
use Rattle.sentences.specs.Raw.{line_on, line_first, pair_last, pair_deep, right_answer}
use Rattle.sentences.specs.Senders.{PingOpens, PairOn, ToAnswer, Sent, Checked, Wrong}
use Rattle.sentences.proofs.HoldsTurns.{line_is, opens_is}
use Rattle.sentences.proofs.SentenceCases.{off, same_word, eq_is, not_is, denied, and_is, or_is, then, up_to_15}

-- the state after the tick: the links are written last, on the state m after step 4
abbrev pub linked : Handler → Sample → Effects → ℕ → Handler → Handler
linked g s f lit m = with_links (links_after g (heard g s f) lit) m

-- ── what comes back ──

pub equal_is : (p m : Bool) → (equal p m ≡ true) ↔ (p ≡ m)
equal_is true true = (λ _. refl, λ _. refl)
equal_is true false = (λ t. absurd (false≢true t), λ e. absurd (false≢true (sym e)))
equal_is false true = (λ t. absurd (false≢true t), λ e. absurd (false≢true e))
equal_is false false = (λ _. refl, λ _. refl)

differ_is : (p m : Bool) → (differ p m ≡ true) ↔ (¬ (p ≡ m))
differ_is true true = (λ t. absurd (false≢true t), λ n. absurd (n refl))
differ_is true false = (λ _ e. false≢true (sym e), λ _. refl)
differ_is false true = (λ _ e. false≢true e, λ _. refl)
differ_is false false = (λ t. absurd (false≢true t), λ n. absurd (n refl))

pub checked_is : (r : Receive) → (checks r ≡ true) ↔ Checked r
checked_is (Pairs p m) = (λ _. tt, λ _. refl)
checked_is (Answers a) = (λ t. false≢true t, λ n. absurd n)

pub wrong_is : (g : Handler) (r : Receive) (e : ℕ)
    → ((checks r && wrong (sender g e) (receive_positive r e) (receive_negative r e)) ≡ true) ↔ Wrong g r e
wrong_is g (Pairs p m) e =
    or_is (equal (bit p e) (bit m e)) (differ (bit p e) (right_answer g e)) (equal_is (bit p e) (bit m e)) (differ_is (bit p e) (right_answer g e))
wrong_is g (Answers a) e = (λ t. false≢true t, λ n. absurd n)

-- ── one sound receiver ──

-- there is something to answer, by its two bits and its pair
answering_is : (l d p : Bool)
    → (is_answering (response_of l d) p ≡ true) ↔ ((p ≡ true) ⊎ (((l ≡ true) × (d ≡ false)) ⊎ ((l ≡ false) × (d ≡ true))))
answering_is true false p = (λ _. inr (inl (refl, refl)), λ _. refl)
answering_is false true p = (λ _. inr (inr (refl, refl)), λ _. refl)
answering_is false false p =
    (inl, ⊎_elim (λ e. e) (⊎_elim (λ d. absurd (false≢true d.0)) (λ d. absurd (false≢true d.1))))
answering_is true true p =
    (inl, ⊎_elim (λ e. e) (⊎_elim (λ d. absurd (false≢true (sym d.1))) (λ d. absurd (false≢true (sym d.0)))))

-- a bit and its opposite
not_self : (b : Bool) → ¬ (not b ≡ b)
not_self true e = false≢true e
not_self false e = false≢true (sym e)

-- ── what line e sends ──

module _ (g : Handler) (s : Sample) (f : Effects) (lit : ℕ) where
  abbrev t : Turn
  t = g.links.turn

  abbrev drive : ℕ → Drive
  drive e = driven g (heard g s f) lit e

  pub ping_is : (e : ℕ) → ((drive e).ping ≡ true) ↔ PingOpens g f e
  unfolding driven heard
  ping_is e =
      and_is (opens (timed g s f) t) (is_line t && eqb e (line_of t)) (opens_is g s f (turn_answered g s f))
      (and_is (is_line t) (eqb e (line_of t)) (line_is g) (eq_is e (line_of t)))

  last_is : (e : ℕ) → (not (last_bit (sender g e).sound.stands) ≡ true) ↔ (pair_last g e ≡ false)
  last_is e = same_word (ap not (last_back (pair_last g e) (pair_deep g e))) (not_is (pair_last g e))

  pair_is : (e : ℕ) → (pair (sender g e) (drive e) ≡ true) ↔ PairOn g f lit e
  unfolding driven
  pair_is e =
      or_is (holds (sender g e) (bit lit e)) (pulses (sender g e) (drive e)) (or_is (bit lit e) (line_first g e) Iff.rfl Iff.rfl)
      (and_is (drive e).ping (not (bit lit e) && not (last_bit (sender g e).sound.stands)) (ping_is e)
      (and_is (not (bit lit e)) (not (last_bit (sender g e).sound.stands)) (denied (bit lit e) Iff.rfl) (last_is e)))

  -- ── the senders after the tick, whatever the state after step 4 is ──

  module _ (m : Handler) where
    abbrev h : Handler
    h = linked g s f lit m

    abbrev next : ℕ → Sender
    next e = sent (sender g e) (drive e)

    on_at : (e : ℕ) → e < 4 → line_on h e ≡ bit lit e
    unfolding links_after driven sent
    on_at e l = bit_bits_of 4 (λ e. (next e).on) e l

    first_at : (e : ℕ) → e < 4 → line_first h e ≡ (bit lit e && not (line_on g e))
    unfolding links_after driven sent
    first_at e l = bit_bits_of 4 (λ e. (next e).first) e l

    -- where the sound receiver stands, by where it stood and the pair
    stands_at : {a b p : Bool} (e : ℕ) → e < 4 → (pair_last g e ≡ a) × (pair_deep g e ≡ b) → pair (sender g e) (drive e) ≡ p
        → (pair_last h e ≡ last_bit (response_after (response_of a b) p)) × (pair_deep h e ≡ deep_bit (response_after (response_of a b) p))
    unfolding links_after sent sound_after
    stands_at {a} {b} {p} e l d x =
        let z : (next e).sound.stands ≡ response_after (response_of a b) p =
        ap₂ (λ (c : Bool) (k : Bool). response_after (response_of c k) (pair (sender g e) (drive e))) d.0 d.1 ∙ ap (response_after (response_of a b)) x in (
          bit_bits_of 4 (λ e. last_bit (next e).sound.stands) e l ∙ ap last_bit z,
          bit_bits_of 4 (λ e. deep_bit (next e).sound.stands) e l ∙ ap deep_bit z,
        )

    -- it was sent
    last_at : (e : ℕ) → e < 4 → pair_last h e ≡ pair (sender g e) (drive e)
    last_at e l = go (pair_last g e) (pair_deep g e) (pair (sender g e) (drive e)) refl refl refl
      where
        go : (a b p : Bool) → pair_last g e ≡ a → pair_deep g e ≡ b → pair (sender g e) (drive e) ≡ p → pair_last h e ≡ p
        go true true true x y z = (stands_at e l (x, y) z).0
        go true true false x y z = (stands_at e l (x, y) z).0
        go true false true x y z = (stands_at e l (x, y) z).0
        go true false false x y z = (stands_at e l (x, y) z).0
        go false true true x y z = (stands_at e l (x, y) z).0
        go false true false x y z = (stands_at e l (x, y) z).0
        go false false true x y z = (stands_at e l (x, y) z).0
        go false false false x y z = (stands_at e l (x, y) z).0

    abbrev to_answer : ℕ → Bool
    to_answer e = is_answering (sender g e).sound.stands (pair (sender g e) (drive e))

    answer_at : (e : ℕ) → e < 4 → right_answer h e ≡ (to_answer e && not (right_answer g e))
    unfolding links_after sent sound_after
    answer_at e l = bit_bits_of 4 (λ e. (next e).sound.answer) e l

    to_answer_is : (e : ℕ) → (to_answer e ≡ true) ↔ ToAnswer g f lit e
    to_answer_is e =
        then (answering_is (pair_last g e) (pair_deep g e) (pair (sender g e) (drive e)))
        (⊎_elim (λ x. inl ((pair_is e).0 x)) inr, ⊎_elim (λ x. inl ((pair_is e).1 x)) inr)

    pub holds_senders : Sent g f lit h
    unfolding links_after
    holds_senders =
        let sends : (e : ℕ) → PairOn g f lit e → pair (sender g e) (drive e) ≡ true = λ e x. (pair_is e).1 x in
        let none : (e : ℕ) → ¬ PairOn g f lit e → pair (sender g e) (drive e) ≡ false = λ e x. off (pair (sender g e) (drive e)) (pair_is e) x in
        record {
          on = λ e l. same_word (on_at e l) Iff.rfl;
          first = λ e l. same_word (first_at e l) (and_is (bit lit e) (not (line_on g e)) Iff.rfl (not_is (line_on g e)));
          pair = λ e l. same_word (last_at e l) (pair_is e);
          at_rest = λ e l d x. stands_at e l d (none e x);
          one_tick = λ e l d x. stands_at e l d (sends e x);
          ping = λ e l d x. stands_at e l d (none e x);
          ping_over = λ e l d x. stands_at e l d (none e x);
          in_ping = λ e l d x. stands_at e l d (sends e x);
          two_ticks = λ e l d x. stands_at e l d (sends e x);
          longer = λ e l d x. stands_at e l d (sends e x);
          off = λ e l d x. stands_at e l d (none e x);
          toggles = λ e l x y.
              not_self (right_answer g e) (sym (answer_at e l ∙ ap (λ (b : Bool). b && not (right_answer g e)) ((to_answer_is e).1 x)) ∙ y);
          silent = λ e l x. answer_at e l ∙ ap (λ (b : Bool). b && not (right_answer g e)) (off (to_answer e) (to_answer_is e) x);
          on_bits = up_to_15 (λ e. (next e).on);
          first_bits = up_to_15 (λ e. (next e).first);
          last_bits = up_to_15 (λ e. last_bit (next e).sound.stands);
          deep_bits = up_to_15 (λ e. deep_bit (next e).sound.stands);
          answer_bits = up_to_15 (λ e. (next e).sound.answer);
        }
