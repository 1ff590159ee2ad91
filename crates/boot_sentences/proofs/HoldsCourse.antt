-- The policy's `install` of a list of accesses is such a course, of any turns.
-- Assumes nothing.
use Prim.Native.Nat.{ℕ, zero, suc, ◌<◌}
use mathlib.Core.Path.{◌≡◌, refl, sym, ap, ◌∙◌, subst}
use mathlib.Core.Logic.{◌≢◌}
use mathlib.Core.Bool.{Bool, true, false, false≢true}
use mathlib.Core.List.{List, [], ◌∷◌}
use native.Mathlib.Omega.{arith}
use native.Mathlib.Nat.{le_of_suc-le-suc, not-suc-le-zero}
use borrow.Author.Tests.{eqb-true, eq-eqb}
use lib.IntN.{ℤ, pos, negsuc}
use lib.ListN.{get_or, length}
use Rattle.boot_laws.specs.Ran.{wants, reach}
use Rattle.boot_laws.proofs.AskLaws.{asked_wanted, asked_other, stays}
use Rattle.policy.specs.Install.{Ask, is, under, stopped, ask, install, write, read}
use Rattle.policy.specs.declared.Installed.{Installed}
use Rattle.policy.specs.Progress.{Progress}
use Rattle.rules.specs.Answer.{number}
use Rattle.rules.specs.Tick.{ticked}
use Rattle.rules.specs.declared.Access.TheVariants.{Read, Write}
use Rattle.rules.specs.declared.Handler.{Handler}
use Rattle.boot_sentences.specs.Course.{quiet, Returns, Goes, Course}
use Rattle.boot_sentences.specs.Turns.{Turn}
use Rattle.boot_sentences.specs.Turns.Turn.{writes, reads, nothing}
use Rattle.boot_sentences.proofs.OnlyCourse.{kind, register, value, goes_write, goes_read, goes_nothing}

-- the accesses of some turns
unfoldable pub asks_in : List Turn → List Ask
asks_in [] = []
asks_in (writes r v ∷ us) = write r v ∷ asks_in us
asks_in (reads r v ∷ us) = read r v ∷ asks_in us
asks_in (nothing ∷ us) = asks_in us

abbrev pub turn_at : List Turn → ℕ → Turn
turn_at us t = get_or us t nothing

-- ── the answer that is wanted ──

is_value : (z : ℤ) (v : ℕ) → is z v ≡ true → z ≡ pos v
is_value (pos u) v e = ap pos (eqb-true u v e)
is_value (negsuc m) v e = absurd (false≢true e)

not_value : (z : ℤ) (v : ℕ) → is z v ≡ false → z ≢ pos v
not_value z v e f = false≢true (sym e ∙ ap (λ (x : ℤ). is x v) f ∙ eq-eqb v v refl)

-- ── one more turn before a course ──

-- k is the state after the turn u in the state h
record Steps (u : Turn) (h k : Handler) : Type 0 where
  by_write : (r v : ℕ) → u ≡ writes r v → k ≡ (ticked h (quiet (Write r v))).handler
  by_read : (r v : ℕ) → u ≡ reads r v → k ≡ (ticked h (quiet (Read r))).handler
  by_nothing : u ≡ nothing → k ≡ h

module _ (u : Turn) (us : List Turn) (h k : Handler) (b : Installed) (w : Steps u h k) (c : Course ticked number (length us) (turn_at us) k b) where
  abbrev states : ℕ → Handler
  states zero = h
  states (suc t) = c.states t

  after_write : (t r v : ℕ) → t < suc (length us) → turn_at (u ∷ us) t ≡ writes r v → states (suc t) ≡ (ticked (states t) (quiet (Write r v))).handler
  after_write zero r v l e = c.first ∙ w.by_write r v e
  after_write (suc t) r v l e = c.after_write t r v (le_of_suc-le-suc l) e

  after_read : (t r v : ℕ) → t < suc (length us) → turn_at (u ∷ us) t ≡ reads r v → states (suc t) ≡ (ticked (states t) (quiet (Read r))).handler
  after_read zero r v l e = c.first ∙ w.by_read r v e
  after_read (suc t) r v l e = c.after_read t r v (le_of_suc-le-suc l) e

  after_nothing : (t : ℕ) → t < suc (length us) → turn_at (u ∷ us) t ≡ nothing → states (suc t) ≡ states t
  after_nothing zero l e = c.first ∙ w.by_nothing e
  after_nothing (suc t) l e = c.after_nothing t (le_of_suc-le-suc l) e

  abbrev Before : ℕ → Type 0
  Before t = (s : ℕ) → s < t → Goes ticked number (states s) (turn_at (u ∷ us) s)

  later : (t : ℕ) → Before (suc t) → (s : ℕ) → s < t → Goes ticked number (c.states s) (turn_at us s)
  later t a s l = a (suc s) (omega arith)

  -- it goes on
  module _ (g : Goes ticked number h u) where
    on_write : (t r v : ℕ) → t < suc (length us) → Before t → turn_at (u ∷ us) t ≡ writes r v → number (ticked (states t) (quiet (Write r v))).answer ≢ pos 0
        → Returns r (number (ticked (states t) (quiet (Write r v))).answer) (states (suc t)) b
    on_write zero r v l a e z = absurd (z (g.write r v e))
    on_write (suc t) r v l a e z = c.stops_at_write t r v (le_of_suc-le-suc l) (later t a) e z

    on_read : (t r v : ℕ) → t < suc (length us) → Before t → turn_at (u ∷ us) t ≡ reads r v → number (ticked (states t) (quiet (Read r))).answer ≢ pos v
        → Returns r (number (ticked (states t) (quiet (Read r))).answer) (states (suc t)) b
    on_read zero r v l a e z = absurd (z (g.read r v e))
    on_read (suc t) r v l a e z = c.stops_at_read t r v (le_of_suc-le-suc l) (later t a) e z

    going : Course ticked number (suc (length us)) (turn_at (u ∷ us)) h b
    going =
        record {
          states = states;
          first = refl;
          after_write = after_write;
          after_read = after_read;
          after_nothing = after_nothing;
          stops_at_write = on_write;
          stops_at_read = on_read;
          succeeds = λ a. c.succeeds (later (length us) a);
        }

  -- it stops here, with d
  module _ (d : Installed) (f : ¬ Goes ticked number h u) (sw : (r v : ℕ) → u ≡ writes r v → Returns r (number (ticked h (quiet (Write r v))).answer) k d)
      (sr : (r v : ℕ) → u ≡ reads r v → Returns r (number (ticked h (quiet (Read r))).answer) k d) where
    here : {r : ℕ} {a : ℤ} → Returns r a k d → Returns r a (c.states 0) d
    here x = record { register = x.register; answer = x.answer; state = x.state ∙ sym c.first; spare = x.spare }

    at_write : (t r v : ℕ) → t < suc (length us) → Before t → turn_at (u ∷ us) t ≡ writes r v → number (ticked (states t) (quiet (Write r v))).answer ≢ pos 0
        → Returns r (number (ticked (states t) (quiet (Write r v))).answer) (states (suc t)) d
    at_write zero r v l a e z = here (sw r v e)
    at_write (suc t) r v l a e z = absurd (f (a 0 (omega arith)))

    at_read : (t r v : ℕ) → t < suc (length us) → Before t → turn_at (u ∷ us) t ≡ reads r v → number (ticked (states t) (quiet (Read r))).answer ≢ pos v
        → Returns r (number (ticked (states t) (quiet (Read r))).answer) (states (suc t)) d
    at_read zero r v l a e z = here (sr r v e)
    at_read (suc t) r v l a e z = absurd (f (a 0 (omega arith)))

    halting : Course ticked number (suc (length us)) (turn_at (u ∷ us)) h d
    halting =
        record {
          states = states;
          first = refl;
          after_write = after_write;
          after_read = after_read;
          after_nothing = after_nothing;
          stops_at_write = at_write;
          stops_at_read = at_read;
          succeeds = λ a. absurd (f (a 0 (omega arith)));
        }

-- ── each kind of turn ──

write_steps : (h : Handler) (r v : ℕ) → Steps (writes r v) h (reach h (write r v))
write_steps h r v =
    record {
      by_write = λ s w e. ap (λ (x : Turn). (ticked h (quiet (Write (register x) (value x)))).handler) e;
      by_read = λ s w e. absurd (let d = ap kind e in omega (arith, d));
      by_nothing = λ e. absurd (let d = ap kind e in omega (arith, d));
    }

read_steps : (h : Handler) (r v : ℕ) → Steps (reads r v) h (reach h (read r v))
read_steps h r v =
    record {
      by_write = λ s w e. absurd (let d = ap kind e in omega (arith, d));
      by_read = λ s w e. ap (λ (x : Turn). (ticked h (quiet (Read (register x)))).handler) e;
      by_nothing = λ e. absurd (let d = ap kind e in omega (arith, d));
    }

no_steps : (h : Handler) → Steps nothing h h
no_steps h =
    record {
      by_write = λ s w e. absurd (let d = ap kind e in omega (arith, d));
      by_read = λ s w e. absurd (let d = ap kind e in omega (arith, d));
      by_nothing = λ e. refl;
    }

-- what the boot gives, of the accesses of some turns
abbrev gives : List Turn → Handler → Installed
gives us h = (install (under h) (asks_in us)).reached

-- an access that gets the answer that is wanted, and one that does not
pub goes_on : (a : Ask) (us : List Ask) (h : Handler) → wants h a ≡ true → install (under h) (a ∷ us) ≡ install (under (reach h a)) us
unfolding install ask
goes_on a us h e = ap (λ (p : Progress). install p us) (asked_wanted h a e)

pub ends : (a : Ask) (us : List Ask) (h : Handler) → wants h a ≡ false → install (under h) (a ∷ us) ≡ stopped a.register (ticked h (quiet a.access))
unfolding install ask
ends a us h e = ap (λ (p : Progress). install p us) (asked_other h a e) ∙ stays _ us refl

pub holds_course : (us : List Turn) (h : Handler) → Course ticked number (length us) (turn_at us) h (gives us h)
unfolding asks_in install
holds_course [] h =
    record {
      states = λ t. h;
      first = refl;
      after_write = λ t r v l e. absurd (not-suc-le-zero l);
      after_read = λ t r v l e. absurd (not-suc-le-zero l);
      after_nothing = λ t l e. absurd (not-suc-le-zero l);
      stops_at_write = λ t r v l a e z. absurd (not-suc-le-zero l);
      stops_at_read = λ t r v l a e z. absurd (not-suc-le-zero l);
      succeeds = λ a. record { register = refl; answer = refl; state = refl; spare = refl };
    }
holds_course (nothing ∷ us) h = going nothing us h h (gives us h) (no_steps h) (holds_course us h) (goes_nothing ticked number h)
holds_course (writes r v ∷ us) h = by (wants h (write r v)) refl (holds_course us (reach h (write r v)))
  where
    by : (b : Bool) → wants h (write r v) ≡ b → Course ticked number (length us) (turn_at us) (reach h (write r v)) (gives us (reach h (write r v)))
        → Course ticked number (suc (length us)) (turn_at (writes r v ∷ us)) h (gives (writes r v ∷ us) h)
    by true e c =
        subst (λ (p : Progress). Course ticked number (suc (length us)) (turn_at (writes r v ∷ us)) h p.reached) (sym (goes_on (write r v) (asks_in us) h e))
        (going (writes r v) us h _ _ (write_steps h r v) c (goes_write ticked number h r v (is_value _ 0 e)))
    by false e c =
        subst (λ (p : Progress). Course ticked number (suc (length us)) (turn_at (writes r v ∷ us)) h p.reached) (sym (ends (write r v) (asks_in us) h e))
        (halting (writes r v) us h _ _ (write_steps h r v) c _ (λ g. not_value _ 0 e (g.write r v refl)) (λ s w z.
        subst (λ (x : Turn). Returns (register x) (number (ticked h (quiet (Write (register x) (value x)))).answer) (reach h (write r v)) (stopped r (ticked h (quiet (Write r v)))).reached) z
        (record { register = refl; answer = refl; state = refl; spare = refl })) (λ s w z. absurd (let d = ap kind z in omega (arith, d))))
holds_course (reads r v ∷ us) h = by (wants h (read r v)) refl (holds_course us (reach h (read r v)))
  where
    by : (b : Bool) → wants h (read r v) ≡ b → Course ticked number (length us) (turn_at us) (reach h (read r v)) (gives us (reach h (read r v)))
        → Course ticked number (suc (length us)) (turn_at (reads r v ∷ us)) h (gives (reads r v ∷ us) h)
    by true e c =
        subst (λ (p : Progress). Course ticked number (suc (length us)) (turn_at (reads r v ∷ us)) h p.reached) (sym (goes_on (read r v) (asks_in us) h e))
        (going (reads r v) us h _ _ (read_steps h r v) c (goes_read ticked number h r v (is_value _ v e)))
    by false e c =
        subst (λ (p : Progress). Course ticked number (suc (length us)) (turn_at (reads r v ∷ us)) h p.reached) (sym (ends (read r v) (asks_in us) h e))
        (halting (reads r v) us h _ _ (read_steps h r v) c _ (λ g. not_value _ v e (g.read r v refl)) (λ s w z. absurd (let d = ap kind z in omega (arith, d)))
        (λ s w z.
        subst (λ (x : Turn). Returns (register x) (number (ticked h (quiet (Read (register x)))).answer) (reach h (read r v)) (stopped r (ticked h (quiet (Read r)))).reached) z
        (record { register = refl; answer = refl; state = refl; spare = refl })))
