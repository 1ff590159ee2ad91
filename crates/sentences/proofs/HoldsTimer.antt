-- The rules of the ping timer's turn and of the lines' pings, requests (ix) and (xi), satisfy the sentences.
-- Assumes nothing.
use Prim.Native.Nat.{ℕ, ◌+◌, ◌-◌, ◌≤◌, ◌<◌}
use mathlib.Core.Path.{◌≡◌, refl, sym, ap, ap₂, ◌∙◌, subst}
use mathlib.Core.Logic.{◌↔◌, inl, inr}
use mathlib.Core.Bool.{Bool, true, false, cond, not, ◌&&◌, ◌||◌}
use native.Mathlib.Decide.{dec_lt}
use native.Mathlib.Omega.{arith}
use borrow.Author.Tests.{eq-eqb, lt-ltb, le-ltb}
use lib.Dec.{eqb, ltb}
use Rattle.bits.proofs.BitLaws.{bits_of_lt}
use Rattle.bits.proofs.IndexLaws.{true_and}
use Rattle.bits.specs.Bits.{bit}
use Rattle.laws.proofs.Tick.Links.{linked_line, linked_no_line}
use Rattle.link_rules.specs.LinePing.{closing}
use Rattle.link_rules.specs.Pings.{line_after}
use Rattle.link_rules.specs.Timer.{is_line, line_of, first_turn, next_turn, is_due, opens, open_now, age, fails, ends, open_after, goes_on, turned}
use Rattle.link_rules.specs.declared.Meets.{Meets}
use Rattle.link_rules.specs.declared.Turn.{Turn}
use Rattle.rules.specs.Samples.{turn_pending, turn_answered, timed, heard}
use Rattle.rules.specs.Tick.{closed_now, lines_timed, links_after}
use Rattle.rules.specs.declared.Effects.{Effects}
use Rattle.rules.specs.declared.Handler.{Handler}
use Rattle.rules.specs.declared.Sample.{Sample}
use Rattle.sentences.specs.Raw.{line_pending}
use Rattle.sentences.specs.Timer.{Ends, Drawn, GoesOn, Timed}
use Rattle.sentences.specs.Turns.{LinesTurn, turn_line, Runs, OpenNow}
use Rattle.sentences.proofs.HoldsLinePings.{closed_is}
use Rattle.sentences.proofs.HoldsReceivers.{turn_answered_is, fails_is}
use Rattle.sentences.proofs.HoldsSenders.{linked}
use Rattle.sentences.proofs.HoldsTurns.{line_is, turn_open_is, runs_is, due_is, opens_is, open_now_is}
use Rattle.sentences.proofs.SentenceCases.{off, eq_is, denied, and_is, or_is}

module _ (g : Handler) (s : Sample) (f : Effects) (lit : ℕ) (z : Handler) (n : g.n ≤ 248) (u : g.timer.timeout ≤ 65535) where
  abbrev h : Handler
  h = linked g s f lit z

  abbrev t : Turn
  t = g.links.turn

  -- what the timer met, with what step 5 closes
  abbrev closed : Bool
  closed = closed_now g (heard g s f) lit

  abbrev m : Meets
  m = closing closed (timed g s f)

  open_is : (open_now m t ≡ true) ↔ OpenNow g f
  unfolding open_now opens
  open_is = open_now_is g s f (turn_answered g s f)

  ends_is : (ends m t ≡ true) ↔ Ends g s f lit
  unfolding ends fails open_now opens
  ends_is =
      or_is (is_due m t && not (opens m t)) (open_now m t && (turn_answered g s f || (fails m t || closed)))
      (and_is (is_due m t) (not (opens m t)) (due_is g s f (turn_answered g s f)) (denied (opens m t) (opens_is g s f (turn_answered g s f))))
      (and_is (open_now m t) (turn_answered g s f || (fails m t || closed)) open_is
      (or_is (turn_answered g s f) (fails m t || closed) (turn_answered_is g s f n)
      (or_is (fails m t) closed (fails_is g s f n u) (closed_is g s f lit))))

  -- ── the turn ──

  abbrev running : Turn
  running = cond (not m.runs) t (cond (ends m t) (next_turn t s.word) (goes_on m t))

  turn_by : (b : Bool) → f.begins ≡ b → h.links.turn ≡ cond b (first_turn s.word) running
  unfolding heard links_after turned
  turn_by b e = ap (λ (b : Bool). cond b (first_turn s.word) running) e

  runs_by : (b c : Bool) → f.begins ≡ false → m.runs ≡ b → ends m t ≡ c → h.links.turn ≡ cond (not b) t (cond c (next_turn t s.word) (goes_on m t))
  runs_by b c e r d = turn_by false e ∙ ap₂ (λ (b : Bool) (c : Bool). cond (not b) t (cond c (next_turn t s.word) (goes_on m t))) r d

  begun : f.begins ≡ true → h.links.turn ≡ first_turn s.word
  begun e = turn_by true e

  ended : Runs g f → Ends g s f lit → h.links.turn ≡ next_turn t s.word
  ended r e = runs_by true true r.1 ((runs_is g s f).1 r) (ends_is.1 e)

  went : Runs g f → ¬ Ends g s f lit → h.links.turn ≡ goes_on m t
  went r e = runs_by true false r.1 ((runs_is g s f).1 r) (off (ends m t) ends_is e)

  drawn_by : (k : ℕ) → h.links.turn ≡ record { number = k; alert = (first_turn s.word).alert; count = (first_turn s.word).count } → Drawn s h
  drawn_by k e = record { count = ap (λ (x : Turn). x.count) e; alert = ap (λ (x : Turn). x.alert) e }

  -- the count of a turn that goes on
  count_by : Runs g f → ¬ Ends g s f lit → (o p q : Bool) → open_now m t ≡ o → turn_pending g ≡ p → ltb t.count 65535 ≡ q
      → h.links.turn.count ≡ cond o (cond p (cond q (t.count + 1) 65535) 0) (t.count - 1)
  count_by r e o p q x y z =
      ap (λ (x : Turn). x.count) (went r e) ∙ ap (λ (o : Bool). cond o (age m t) (t.count - 1)) x
      ∙ ap₂ (λ (p : Bool) (q : Bool). cond o (cond p (cond q (t.count + 1) 65535) 0) (t.count - 1)) y z

  goes : Runs g f → ¬ Ends g s f lit → GoesOn g f h
  goes r e =
      record {
        number = ap (λ (x : Turn). x.number) (went r e);
        alert = ap (λ (x : Turn). x.alert) (went r e);
        nearer = λ k.
            let c : h.links.turn.count ≡ t.count - 1 = count_by r e false (turn_pending g) (ltb t.count 65535) (off (open_now m t) open_is k) refl refl in
            let z : ¬ (t.count ≡ 0) = λ (z : t.count ≡ 0). e (inl ((r, ((λ o. k (r, inl o)), z)), λ o. k (r, inr o))) in
            omega (arith, c, z);
        opened = λ o.
            count_by r e true false (ltb t.count 65535) (open_is.1 (r, inr o)) (off (turn_pending g) (turn_open_is g) o.0.1.0) refl;
        older = λ o l. count_by r e true true true (open_is.1 (r, inl o)) ((turn_open_is g).1 o) (lt-ltb t.count 65535 l);
        oldest = λ o l. count_by r e true true false (open_is.1 (r, inl o)) ((turn_open_is g).1 o) (le-ltb t.count 65535 l);
      }

  -- ── the lines ──

  ruled_line : (e : ℕ) → e < 4 → line_pending h e ≡ line_after m t (bit g.links.lines e) e
  unfolding heard
  ruled_line e l = linked_line g (heard g s f) lit e l

  own_line : LinesTurn g → line_pending h (turn_line g) ≡ (open_now m t && not (ends m t))
  own_line l =
      let e : turn_line g < 4 = omega arith in
      ruled_line (turn_line g) e
      ∙ ap (λ (b : Bool). cond b (open_after m t) (bit g.links.lines (turn_line g))) (true_and ((line_is g).1 l) (eq-eqb (turn_line g) (turn_line g) refl))

  other_line : (e : ℕ) → e < 32 → ¬ (LinesTurn g × (e ≡ turn_line g)) → line_pending h e ≡ line_pending g e
  other_line e l k = go (dec_lt e 4)
    where
      go : Dec (e < 4) → line_pending h e ≡ line_pending g e
      go (yes d) =
          ruled_line e d
          ∙ ap (λ (b : Bool). cond b (open_after m t) (bit g.links.lines e))
          (off (is_line t && eqb e (line_of t)) (and_is (is_line t) (eqb e (line_of t)) (line_is g) (eq_is e (line_of t))) k)
      go (no d) = linked_no_line g (heard g s f) lit e (omega arith) l

  line_width : h.links.lines ≤ 4294967295
  unfolding links_after lines_timed
  line_width = let b : h.links.lines < 4294967296 = bits_of_lt 32 _ in omega (arith, b)

  pub holds_timer : Timed g s f lit h
  holds_timer =
      record {
        begins = λ e. drawn_by 0 (begun e);
        first = λ e. ap (λ (x : Turn). x.number) (begun e);
        off = λ e k. runs_by false (ends m t) e (off m.runs (runs_is g s f) k) refl;
        next = λ r e. drawn_by (next_turn t s.word).number (ended r e);
        following = λ r e. ap (λ (x : Turn). x.number) (ended r e);
        goes_on = goes;
        turn_line_law = λ l.
            subst (λ (b : Bool). (b ≡ true) ↔ (OpenNow g f × ¬ Ends g s f lit)) (sym (own_line l))
            (and_is (open_now m t) (not (ends m t)) open_is (denied (ends m t) ends_is));
        other_line = other_line;
        line_bits = line_width;
      }
