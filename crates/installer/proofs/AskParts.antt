-- Lists of accesses and registers, part by part, from what a `Result` holds.
-- Assumes nothing.
use Prim.Native.Nat.{ℕ, zero, suc, ◌+◌, ◌-◌, ◌<◌, ◌≤◌}
use mathlib.Core.Path.{◌≡◌, refl, sym, ap, ap₂, subst, ◌∙◌}
use mathlib.Core.Bool.{Bool, true, false, cond}
use mathlib.Core.List.{List, [], ◌∷◌, ◌++◌}
use native.Mathlib.Omega.{arith}
use lib.Dec.{ltb}
use lib.IntN.{ℤ}
use lib.ListN.{length, get_or, drop, replicate}
use mir.Facts.{to_z-of_z}
use mir.Syntax.{w64}
use mir.Val.{SFits, to_z, of_z}
use Rattle.std.proofs.Math.Seq.{drop-cons}
use Rattle.std.proofs.lemmas.List.{drop_all}
use Rattle.std.specs.Prelude.{Result, Ok, Err, IsErrAnd}
use Rattle.policy.proofs.Asks.{install_append, asks_append}
use Rattle.policy.specs.Install.{Ask, Entry, under, install, asked, ask, once, twice, asks_of, asks}
use Rattle.policy.specs.Plan.{parts_to, plan_of, barred, boot}
use Rattle.policy.specs.Progress.{Progress}
use Rattle.policy.specs.declared.Bar.TheVariants.{BadState, FewAlerts}
use Rattle.policy.specs.declared.Installed.{Installed}
use Rattle.policy.specs.declared.Lifecycle.{Lifecycle}
use Rattle.rules.specs.Map.{number_of, is_shadowed}
use Rattle.rules.specs.Valid.{valid}
use Rattle.rules.specs.declared.Handler.{Handler}
use Rattle.installer.specs.declared.ask.Stop.{Stop}
use Rattle.installer.specs.Results.{progress_of, twice_each}

-- what has stopped does no more
stays : (h : Handler) (s : Stop) (xs : List Ask) → install (progress_of h (Err s)) xs ≡ progress_of h (Err s)
unfolding install ask
stays h s [] = refl
stays h s (a ∷ xs) = stays h s xs

-- `?` hands on where it stopped
pub handed_on : (h : Handler) (r : Result (Unit {0}) Stop) (s : Stop) → IsErrAnd r (λ t. t ≡ s) → progress_of h r ≡ progress_of h (Err s)
handed_on h (Ok u) s a = absurd a
handed_on h (Err t) s a = ap (λ (x : Stop). progress_of h (Err x)) a

-- it has stopped at p, so that what was still to come changes nothing
halts : (p : Progress) (xs : List Ask) (h : Handler) (r : Result (Unit {0}) Stop) (s : Stop) → progress_of h (Err s) ≡ p → IsErrAnd r (λ t. t ≡ s)
    → progress_of h r ≡ install p xs
halts p xs h r s d e = handed_on h r s e ∙ sym (stays h s xs) ∙ ap (λ (q : Progress). install q xs) d

-- ── accesses ──

module _ (h : Handler) (a : Ask) where
  pub last : (p : Progress) → p ≡ asked h a → p ≡ install (under h) (a ∷ [])
  unfolding install ask
  last p e = e

  module _ (xs : List Ask) (g : Handler) where
    -- after the first it goes on
    pub goes : (p : Progress) → under g ≡ asked h a → p ≡ install (under g) xs → p ≡ install (under h) (a ∷ xs)
    unfolding install ask
    goes p d e = e ∙ ap (λ (q : Progress). install q xs) d

    -- it stops there
    pub stops : (r : Result (Unit {0}) Stop) (s : Stop) → progress_of g (Err s) ≡ asked h a → IsErrAnd r (λ t. t ≡ s)
        → progress_of g r ≡ install (under h) (a ∷ xs)
    unfolding install ask
    stops r s d e = halts (asked h a) xs g r s d e

-- the settings that are left from place i on, and those from the next, where p is what setting i gives
module _ (xs : List (ℕ × ℕ)) (i : ℕ) (h g : Handler) where
  pub turn : (p : Progress) → i < length xs → p ≡ install (under g) (twice (get_or xs i (0, 0)).0 (get_or xs i (0, 0)).1)
      → install (under g) (twice_each (drop i xs)) ≡ install (under h) (twice_each xs) → install p (twice_each (drop (suc i) xs)) ≡ install (under h) (twice_each xs)
  unfolding twice_each
  turn p l e a =
      ap (λ (q : Progress). install q (twice_each (drop (suc i) xs))) e
      ∙ sym (install_append (under g) (twice (get_or xs i (0, 0)).0 (get_or xs i (0, 0)).1) (twice_each (drop (suc i) xs)))
      ∙ ap (λ (ys : List (ℕ × ℕ)). install (under g) (twice_each ys)) (sym (drop-cons xs i (0, 0) l)) ∙ a

  -- none is left
  pub turns_done : length xs ≤ i → install (under g) (twice_each (drop i xs)) ≡ install (under h) (twice_each xs) → under g ≡ install (under h) (twice_each xs)
  unfolding twice_each install
  turns_done l a = ap (λ (ys : List (ℕ × ℕ)). install (under g) (twice_each ys)) (sym (drop_all i xs l)) ∙ a

  -- it stops at setting i
  pub turn_stops : (k : Handler) (r : Result (Unit {0}) Stop) (s : Stop) → i < length xs
      → progress_of k (Err s) ≡ install (under g) (twice (get_or xs i (0, 0)).0 (get_or xs i (0, 0)).1) → IsErrAnd r (λ t. t ≡ s)
      → install (under g) (twice_each (drop i xs)) ≡ install (under h) (twice_each xs) → progress_of k r ≡ install (under h) (twice_each xs)
  turn_stops k r s l e d a = handed_on k r s d ∙ sym (stays k s (twice_each (drop (suc i) xs))) ∙ turn (progress_of k (Err s)) l e a

-- ── registers ──

-- one more, at the front, of those that take two writes
pub next : (e : Entry) (es : List Entry) (x : ℕ × ℕ) (xs : List (ℕ × ℕ)) → is_shadowed e.register ≡ true → x.0 ≡ number_of e.register → x.1 ≡ e.value
    → twice_each xs ≡ asks es → twice_each (x ∷ xs) ≡ asks (e ∷ es)
unfolding asks asks_of twice_each
next e es x xs t n v r =
    ap (λ (y : List Ask). twice x.0 x.1 ++ y) r
    ∙ ap (λ (y : ℕ). twice y x.1 ++ asks es) n
    ∙ ap (λ (y : ℕ). twice (number_of e.register) y ++ asks es) v
    ∙ ap (λ (y : Bool). cond y (twice (number_of e.register) e.value) (once (number_of e.register) e.value) ++ asks es) (sym t)

-- no more
pub end : twice_each [] ≡ asks []
unfolding asks twice_each
end = refl

-- where there may be one, of those that take one write
pub maybe : (e : Entry) (s p : Progress) (t : Bool) → is_shadowed e.register ≡ false → t ≡ true
    → p ≡ install s (once (number_of e.register) e.value) → p ≡ install s (asks (cond t (e ∷ []) []))
unfolding install asks asks_of
maybe e s p t n x a =
    a ∙ ap (λ (y : Bool). install s (cond y (twice (number_of e.register) e.value) (once (number_of e.register) e.value) ++ [])) (sym n)
    ∙ ap (λ (y : Bool). install s (asks (cond y (e ∷ []) []))) (sym x)

pub maybe_not : (e : Entry) (s : Progress) (t : Bool) → t ≡ false → s ≡ install s (asks (cond t (e ∷ []) []))
unfolding install asks
maybe_not e s t x = ap (λ (y : Bool). install s (asks (cond y (e ∷ []) []))) (sym x)

-- ── parts ──

-- one list after another
joined : (s : Progress) (es fs : List Entry) → install (install s (asks es)) (asks fs) ≡ install s (asks (es ++ fs))
joined s es fs = sym (install_append s (asks es) (asks fs)) ∙ ap (install s) (sym (asks_append es fs))

module _ (p : Progress) (f : ℕ → List Entry) where
  pub none : p ≡ install p (asks (parts_to f 0))
  unfolding install asks parts_to
  none = refl

  -- one part more
  pub more : (i : ℕ) (q r : Progress) → q ≡ install p (asks (parts_to f i)) → r ≡ install q (asks (f i)) → r ≡ install p (asks (parts_to f (suc i)))
  unfolding parts_to
  more i q r a b = b ∙ ap (λ (x : Progress). install x (asks (f i))) a ∙ joined p (parts_to f i) (f i)

  -- n parts are done
  pub parts_done : (n i : ℕ) (q : Progress) → i ≤ n → n ≤ i → q ≡ install p (asks (parts_to f i)) → q ≡ install p (asks (parts_to f n))
  parts_done n i q a b e = let d : i ≡ n = omega (arith, a, b) in subst (λ (m : ℕ). q ≡ install p (asks (parts_to f m))) d e

  -- parts that are left to what has stopped
  left : (h : Handler) (s : Stop) (k i n : ℕ) → i + k ≡ n → progress_of h (Err s) ≡ install p (asks (parts_to f i))
      → progress_of h (Err s) ≡ install p (asks (parts_to f n))
  left h s zero i n e a = let d : i ≡ n = omega arith in subst (λ (m : ℕ). progress_of h (Err s) ≡ install p (asks (parts_to f m))) d a
  left h s (suc k) i zero e a = absurd (omega arith)
  left h s (suc k) i (suc m) e a = more m (progress_of h (Err s)) (progress_of h (Err s)) (left h s k i m (omega arith) a) (sym (stays h s (asks (f m))))

  -- it stops in part i of n
  pub part_stops : (n i : ℕ) (g h : Handler) (s : Stop) → i < n → under g ≡ install p (asks (parts_to f i)) → progress_of h (Err s) ≡ install (under g) (asks (f i))
      → progress_of h (Err s) ≡ install p (asks (parts_to f n))
  part_stops n i g h s l a b = left h s (n - suc i) (suc i) n (omega (arith, l)) (more i (under g) (progress_of h (Err s)) a b)

module _ (p : Progress) (es fs : List Entry) (g : Handler) where
  -- after the first list of registers it goes on
  pub goes_over : (q : Progress) → under g ≡ install p (asks es) → q ≡ install (under g) (asks fs) → q ≡ install p (asks (es ++ fs))
  goes_over q d e = e ∙ ap (λ (x : Progress). install x (asks fs)) d ∙ joined p es fs

  -- it stops in it
  pub stops_over : (r : Result (Unit {0}) Stop) (s : Stop) → progress_of g (Err s) ≡ install p (asks es) → IsErrAnd r (λ t. t ≡ s)
      → progress_of g r ≡ install p (asks (es ++ fs))
  stops_over r s d e = halts (install p (asks es)) (asks fs) g r s d e ∙ joined p es fs

-- ── the boot ──

-- an answer is one of 64 bits, and so reads back as it is
pub reads_back : (h : Handler) (z : ℤ) (r : ℕ) → SFits w64 z → ◌≡◌ {A = Installed}
    (record { handler = h; answer = to_z w64 (of_z w64 z); register = r; spare = replicate 6 0 })
    (record { handler = h; answer = z; register = r; spare = replicate 6 0 })
reads_back h z r f = ap (λ (y : ℤ). record { handler = h; answer = y; register = r; spare = replicate 6 0 }) (to_z-of_z f)

module _ (l : Lifecycle) (h : Handler) where
  pub boot_is : (a b : Bool) → valid h ≡ a → ltb h.n 58 ≡ b
      → cond a (cond b (barred h FewAlerts) (install (under h) (asks (plan_of l))).reached) (barred h BadState) ≡ boot l h
  unfolding boot
  boot_is a b p q =
      ap₂ (λ (x y : Bool). cond x (cond y (barred h FewAlerts) (install (under h) (asks (plan_of l))).reached) (barred h BadState)) (sym p) (sym q)
