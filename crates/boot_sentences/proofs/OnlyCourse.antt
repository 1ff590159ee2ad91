-- No sentence of a boot's ticks is missing: two courses over ticks that agree and the same turns return the same.
-- Assumes nothing.
use Prim.Native.Nat.{ℕ, zero, suc, ◌≤◌, ◌<◌}
use mathlib.Core.Path.{◌≡◌, refl, sym, ap, ◌∙◌, subst}
use mathlib.Core.Logic.{◌⊎◌, ◌≢◌, inl, inr}
use native.Mathlib.Omega.{arith}
use native.Mathlib.Decide.{ℕ_discrete}
use lib.IntN.{ℤ, pos, ℤ_discrete}
use Rattle.policy.specs.declared.Installed.{Installed}
use Rattle.rules.specs.declared.Access.TheVariants.{Read, Write}
use Rattle.rules.specs.declared.Answer.{Answer}
use Rattle.rules.specs.declared.Handler.{Handler}
use Rattle.rules.specs.declared.Input.{Input}
use Rattle.rules.specs.declared.Ticked.{Ticked}
use Rattle.boot_sentences.specs.Course.{quiet, Returns, Goes, Course}
use Rattle.boot_sentences.specs.Turns.{Turn}
use Rattle.boot_sentences.specs.Turns.Turn.{writes, reads, nothing}

-- ── the first of n that fails ──

pub record Fails (P : ℕ → Type 0) (n : ℕ) : Type 0 where
  pub place : ℕ
  pub inside : place < n
  pub earlier : (s : ℕ) → s < place → P s
  pub there : ¬ P place

pub all_or_first : (P : ℕ → Type 0) → ((t : ℕ) → Dec (P t)) → (n : ℕ) → ((t : ℕ) → t < n → P t) ⊎ Fails P n
all_or_first P d zero = inl (λ t (l : t < 0). absurd (omega arith))
all_or_first P d (suc n) = go (all_or_first P d n) (d n)
  where
    go : ((t : ℕ) → t < n → P t) ⊎ Fails P n → Dec (P n) → ((t : ℕ) → t < suc n → P t) ⊎ Fails P (suc n)
    go (inr f) e = inr (record { place = f.place; inside = omega (arith, f.inside); earlier = f.earlier; there = f.there })
    go (inl a) (no e) = inr (record { place = n; inside = omega arith; earlier = a; there = e })
    go (inl a) (yes e) = inl (λ t l. last t l (ℕ_discrete t n))
      where
        last : (t : ℕ) → t < suc n → Dec (t ≡ n) → P t
        last t l (yes z) = subst P (sym z) e
        last t l (no z) = a t (omega arith)

-- ── a turn, and whether it goes on ──

-- which turn it is, as a number, with its numbers
abbrev pub kind : Turn → ℕ
kind (writes r v) = 0
kind (reads r v) = 1
kind nothing = 2

abbrev pub register : Turn → ℕ
register (writes r v) = r
register (reads r v) = r
register nothing = 0

abbrev pub value : Turn → ℕ
value (writes r v) = v
value (reads r v) = v
value nothing = 0

module _ (tick : Handler → Input → Ticked) (number : Answer → ℤ) (g : Handler) where
  pub goes_write : (r v : ℕ) → number (tick g (quiet (Write r v))).answer ≡ pos 0 → Goes tick number g (writes r v)
  goes_write r v e =
      record {
        write = λ s w f.
            subst (λ (x : Turn). number (tick g (quiet (Write (register x) (value x)))).answer ≡ pos 0) f e;
        read = λ s w f. absurd (let d = ap kind f in omega (arith, d));
      }

  pub goes_read : (r v : ℕ) → number (tick g (quiet (Read r))).answer ≡ pos v → Goes tick number g (reads r v)
  goes_read r v e =
      record {
        write = λ s w f. absurd (let d = ap kind f in omega (arith, d));
        read = λ s w f.
            subst (λ (x : Turn). number (tick g (quiet (Read (register x)))).answer ≡ pos (value x)) f e;
      }

  pub goes_nothing : Goes tick number g nothing
  goes_nothing =
      record {
        write = λ s w f. absurd (let d = ap kind f in omega (arith, d));
        read = λ s w f. absurd (let d = ap kind f in omega (arith, d));
      }

  pub dec_goes : (u : Turn) → Dec (Goes tick number g u)
  dec_goes nothing = yes goes_nothing
  dec_goes (writes r v) = go (ℤ_discrete (number (tick g (quiet (Write r v))).answer) (pos 0))
    where
      go : Dec (number (tick g (quiet (Write r v))).answer ≡ pos 0) → Dec (Goes tick number g (writes r v))
      go (yes e) = yes (goes_write r v e)
      go (no f) = no (λ x. f (x.write r v refl))
  dec_goes (reads r v) = go (ℤ_discrete (number (tick g (quiet (Read r))).answer) (pos v))
    where
      go : Dec (number (tick g (quiet (Read r))).answer ≡ pos v) → Dec (Goes tick number g (reads r v))
      go (yes e) = yes (goes_read r v e)
      go (no f) = no (λ x. f (x.read r v refl))

-- ── one result ──

pub same_returns : (r : ℕ) (a b : ℤ) (g k : Handler) (x y : Installed) → a ≡ b → g ≡ k → Returns r a g x → Returns r b k y → x ≡ y
same_returns r a b g k x y e f p q = λ i.
    record {
      handler = (p.state ∙ f ∙ sym q.state) i;
      answer = (p.answer ∙ e ∙ sym q.answer) i;
      register = (p.register ∙ sym q.register) i;
      spare = (p.spare ∙ sym q.spare) i;
    }

-- two ticks with their numbers agree on the states that P names, and stay there
pub record Agree (P : Handler → Type 0) (tick tock : Handler → Input → Ticked) (m n : Answer → ℤ) : Type 0 where
  pub keeps : (h : Handler) (x : Input) → P h → P (tick h x).handler
  pub state : (h : Handler) (x : Input) → P h → (tick h x).handler ≡ (tock h x).handler
  pub answer : (h : Handler) (x : Input) → P h → m (tick h x).answer ≡ n (tock h x).answer

module _ (P : Handler → Type 0) (tick tock : Handler → Input → Ticked) (m n : Answer → ℤ) (c : Agree P tick tock m n) where
  -- in one state one goes on where the other does
  same_goes : (g k : Handler) (u : Turn) → P g → g ≡ k → Goes tick m g u → Goes tock n k u
  same_goes g k u p e x =
      record {
        write = λ r v f. ap (λ (s : Handler). n (tock s (quiet (Write r v))).answer) (sym e) ∙ sym (c.answer g (quiet (Write r v)) p) ∙ x.write r v f;
        read = λ r v f. ap (λ (s : Handler). n (tock s (quiet (Read r))).answer) (sym e) ∙ sym (c.answer g (quiet (Read r)) p) ∙ x.read r v f;
      }

  module _ (w : ℕ) (turn other : ℕ → Turn) (same : (t : ℕ) → t < w → turn t ≡ other t) (h : Handler) (ph : P h) (b d : Installed)
      (x : Course tick m w turn h b) (y : Course tock n w other h d) where
    -- both leave one state with the tick of one access
    abbrev Meet : ℕ → Type 0
    Meet t = P (x.states t) × (x.states t ≡ y.states t)

    by_tick : (t : ℕ) (z : Input) → Meet t → x.states (suc t) ≡ (tick (x.states t) z).handler → y.states (suc t) ≡ (tock (y.states t) z).handler → Meet (suc t)
    by_tick t z a e f = (
      subst P (sym e) (c.keeps (x.states t) z a.0),
      e ∙ c.state (x.states t) z a.0 ∙ ap (λ (s : Handler). (tock s z).handler) a.1 ∙ sym f,
    )

    on_the_way : (t : ℕ) → t ≤ w → Meet t
    on_the_way zero l = (subst P (sym x.first) ph, x.first ∙ sym y.first)
    on_the_way (suc t) l =
        let k : t < w = omega arith in go (turn t) refl (sym (same t k)) (on_the_way t (omega arith))
      where
        go : (u : Turn) → turn t ≡ u → other t ≡ turn t → Meet t → Meet (suc t)
        go (writes r v) e f a = let k : t < w = omega arith in by_tick t (quiet (Write r v)) a (x.after_write t r v k e) (y.after_write t r v k (f ∙ e))
        go (reads r v) e f a = let k : t < w = omega arith in by_tick t (quiet (Read r)) a (x.after_read t r v k e) (y.after_read t r v k (f ∙ e))
        go nothing e f a =
            let k : t < w = omega arith in
            let i = x.after_nothing t k e in (subst P (sym i) a.0, i ∙ a.1 ∙ sym (y.after_nothing t k (f ∙ e)))

    goes_too : (t : ℕ) → t < w → Goes tick m (x.states t) (turn t) → Goes tock n (y.states t) (other t)
    goes_too t l g =
        let a = on_the_way t (omega arith) in
        subst (Goes tock n (y.states t)) (same t l) (same_goes (x.states t) (y.states t) (turn t) a.0 a.1 g)

    -- the first that does not go on
    stop : (t : ℕ) → t < w → ((s : ℕ) → s < t → Goes tick m (x.states s) (turn s)) → ¬ Goes tick m (x.states t) (turn t) → b ≡ d
    stop t l a f = go (turn t) refl
      where
        earlier : (s : ℕ) → s < t → Goes tock n (y.states s) (other s)
        earlier s k = goes_too s (omega arith) (a s k)

        one : (z : Input) → m (tick (x.states t) z).answer ≡ n (tock (y.states t) z).answer
        one z =
            let i = on_the_way t (omega arith) in
            c.answer (x.states t) z i.0 ∙ ap (λ (s : Handler). n (tock s z).answer) i.1

        next : x.states (suc t) ≡ y.states (suc t)
        next = (on_the_way (suc t) (omega arith)).1

        go : (u : Turn) → turn t ≡ u → b ≡ d
        go nothing e = absurd (f (subst (Goes tick m (x.states t)) (sym e) (goes_nothing tick m (x.states t))))
        go (writes r v) e =
            let z : m (tick (x.states t) (quiet (Write r v))).answer ≢ pos 0 = λ i. f (subst (Goes tick m (x.states t)) (sym e) (goes_write tick m (x.states t) r v i)) in
            same_returns r _ _ _ _ b d (one (quiet (Write r v))) next (x.stops_at_write t r v l a e z)
            (y.stops_at_write t r v l earlier (sym (same t l) ∙ e) (λ i. z (one (quiet (Write r v)) ∙ i)))
        go (reads r v) e =
            let z : m (tick (x.states t) (quiet (Read r))).answer ≢ pos v = λ i. f (subst (Goes tick m (x.states t)) (sym e) (goes_read tick m (x.states t) r v i)) in
            same_returns r _ _ _ _ b d (one (quiet (Read r))) next (x.stops_at_read t r v l a e z)
            (y.stops_at_read t r v l earlier (sym (same t l) ∙ e) (λ i. z (one (quiet (Read r)) ∙ i)))

    -- the state that is returned is one of those on the way
    stop_kept : (t : ℕ) → t < w → ((s : ℕ) → s < t → Goes tick m (x.states s) (turn s)) → ¬ Goes tick m (x.states t) (turn t) → P b.handler
    stop_kept t l a f = go (turn t) refl
      where
        next : P (x.states (suc t))
        next = (on_the_way (suc t) (omega arith)).0

        go : (u : Turn) → turn t ≡ u → P b.handler
        go nothing e = absurd (f (subst (Goes tick m (x.states t)) (sym e) (goes_nothing tick m (x.states t))))
        go (writes r v) e =
            subst P (sym (x.stops_at_write t r v l a e (λ i. f (subst (Goes tick m (x.states t)) (sym e) (goes_write tick m (x.states t) r v i)))).state) next
        go (reads r v) e =
            subst P (sym (x.stops_at_read t r v l a e (λ i. f (subst (Goes tick m (x.states t)) (sym e) (goes_read tick m (x.states t) r v i)))).state) next

    pub course_kept : P b.handler
    course_kept = go (all_or_first (λ t. Goes tick m (x.states t) (turn t)) (λ t. dec_goes tick m (x.states t) (turn t)) w)
      where
        go : ((t : ℕ) → t < w → Goes tick m (x.states t) (turn t)) ⊎ Fails (λ t. Goes tick m (x.states t) (turn t)) w → P b.handler
        go (inl a) = subst P (sym (x.succeeds a).state) (on_the_way w (omega arith)).0
        go (inr s) = stop_kept s.place s.inside s.earlier s.there

    pub only_course : b ≡ d
    only_course = go (all_or_first (λ t. Goes tick m (x.states t) (turn t)) (λ t. dec_goes tick m (x.states t) (turn t)) w)
      where
        go : ((t : ℕ) → t < w → Goes tick m (x.states t) (turn t)) ⊎ Fails (λ t. Goes tick m (x.states t) (turn t)) w → b ≡ d
        go (inl a) =
            same_returns 0 _ _ _ _ b d refl (on_the_way w (omega arith)).1 (x.succeeds a) (y.succeeds (λ t l. goes_too t l (a t l)))
        go (inr s) = stop s.place s.inside s.earlier s.there
