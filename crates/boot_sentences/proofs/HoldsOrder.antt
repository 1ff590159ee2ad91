-- The policy's plan, as what is put at each place: it satisfies the sentences of the order, and its accesses are the policy's.
-- Assumes nothing.
use Prim.Native.Nat.{ℕ, zero, suc, ◌+◌, ◌*◌, ◌≤◌, ◌<◌}
use mathlib.Core.Path.{◌≡◌, refl, ap, ap₂, ◌∙◌}
use mathlib.Core.Logic.{◌≢◌, inl, inr}
use mathlib.Core.Bool.{Bool, true, false, false≢true, cond, ◌&&◌, ◌||◌}
use mathlib.Core.List.{List, [], ◌∷◌, ◌++◌, map}
use native.Mathlib.Omega.{arith}
use borrow.Author.Tests.{eqb-true, ne_eqb}
use lib.Dec.{eqb}
use lib.ListN.{length}
use Rattle.bits.proofs.IndexLaws.{and-true, all_at}
use Rattle.bits.specs.Index.{each, each_from, all_to}
use Rattle.policy.specs.Install.{Entry, asks_of, asks}
use Rattle.policy.specs.Plan.{alert_entries, class_entries, lock_entries, class_lock, parts_to, plan_of, lifecycle_of}
use Rattle.policy.specs.Table.{mark_at}
use Rattle.rules.specs.Map.{number_of, is_shadowed}
use Rattle.boot_sentences.specs.Classification.{Letter, letter}
use Rattle.boot_sentences.specs.Classification.Letter.{A, B, C, D, X}
use Rattle.boot_sentences.specs.Order.{Put, class, enable, Locks, Enables, Order}
use Rattle.boot_sentences.specs.Order.Put.{twice, once, none}
use Rattle.boot_sentences.proofs.HoldsCourse.{asks_in}
use Rattle.boot_sentences.proofs.HoldsTurns.{turns_of, put_at}

-- ── the plan with a place for each alert's lock ──

abbrev put_of : Entry → Put
put_of e = cond (is_shadowed e.register) (twice (number_of e.register) e.value) (once (number_of e.register) e.value)

-- "in PROD and PROD_END", as a test
abbrev pub locked : ℕ → Bool
locked c = eqb c 1 || eqb c 2

abbrev lock_of : ℕ → Letter → Put
lock_of i A = once (256 + i) 0
lock_of i B = none
lock_of i C = none
lock_of i D = none
lock_of i X = none

abbrev lock_in : ℕ → ℕ → Put
lock_in c i = cond (locked c) (lock_of i (letter c i)) none

abbrev class_lock_in : ℕ → Put
class_lock_in c = cond (locked c) (once 1280 0) none

unfoldable pub puts_of : ℕ → List Put
puts_of c =
    map put_of (parts_to (alert_entries (lifecycle_of c)) 58 ++ parts_to (class_entries (lifecycle_of c)) 4) ++ (each 58 (lock_in c) ++ (class_lock_in c ∷ []))

-- names what is computed
unfoldable plans : ℕ → ℕ
unfolding puts_of turns_of asks_in plan_of parts_to alert_entries class_entries lock_entries class_lock mark_at letter number_of is_shadowed asks_of asks lifecycle_of each_from all_to
plans n = n

pub by_column : (P : ℕ → Type 0) → P 0 → P 1 → P 2 → P 3 → P 4 → P 5 → (c : ℕ) → c ≤ 5 → P c
by_column P a b d e f g zero l = a
by_column P a b d e f g (suc zero) l = b
by_column P a b d e f g (suc (suc zero)) l = d
by_column P a b d e f g (suc (suc (suc zero))) l = e
by_column P a b d e f g (suc (suc (suc (suc zero)))) l = f
by_column P a b d e f g (suc (suc (suc (suc (suc zero))))) l = g
by_column P a b d e f g (suc (suc (suc (suc (suc (suc c)))))) l = absurd (omega arith)

pub places : (c : ℕ) → c ≤ 5 → length (puts_of c) ≡ 203
unfolding plans
places c l = by_column (λ c. length (puts_of c) ≡ 203) refl refl refl refl refl refl c l

pub turns_many : (c : ℕ) → c ≤ 5 → length (turns_of (puts_of c)) ≡ 609
unfolding plans
turns_many c l = by_column (λ c. length (turns_of (puts_of c)) ≡ 609) refl refl refl refl refl refl c l

-- the accesses are those of the policy's plan
pub same_asks : (c : ℕ) → c ≤ 5 → asks_in (turns_of (puts_of c)) ≡ asks (plan_of (lifecycle_of c))
unfolding plans
same_asks c l = by_column (λ c. asks_in (turns_of (puts_of c)) ≡ asks (plan_of (lifecycle_of c))) refl refl refl refl refl refl c l

-- ── the tests ──

abbrev is_put : Put → Put → Bool
is_put (twice r v) (twice s w) = eqb r s && eqb v w
is_put (twice r v) (once s w) = false
is_put (twice r v) none = false
is_put (once r v) (twice s w) = false
is_put (once r v) (once s w) = eqb r s && eqb v w
is_put (once r v) none = false
is_put none (twice s w) = false
is_put none (once s w) = false
is_put none none = true

put_is : (p q : Put) → is_put p q ≡ true → p ≡ q
put_is (twice r v) (twice s w) e = let d = and-true (eqb r s) (eqb v w) e in ap₂ twice (eqb-true r s d.0) (eqb-true v w d.1)
put_is (twice r v) (once s w) e = absurd (false≢true e)
put_is (twice r v) none e = absurd (false≢true e)
put_is (once r v) (twice s w) e = absurd (false≢true e)
put_is (once r v) (once s w) e = let d = and-true (eqb r s) (eqb v w) e in ap₂ once (eqb-true r s d.0) (eqb-true v w d.1)
put_is (once r v) none e = absurd (false≢true e)
put_is none (twice s w) e = absurd (false≢true e)
put_is none (once s w) e = absurd (false≢true e)
put_is none none e = refl

-- at the places that f gives stands what g gives
abbrev all_are : ℕ → ℕ → (ℕ → ℕ) → (ℕ → Put) → Bool
all_are c n f g = all_to (λ i. is_put (put_at (puts_of c) (f i)) (g i)) n

at_all : (c n : ℕ) (f : ℕ → ℕ) (g : ℕ → Put) → all_are c n f g ≡ true → (i : ℕ) → i < n → put_at (puts_of c) (f i) ≡ g i
at_all c n f g e i l = put_is _ (g i) (all_at (λ i. is_put (put_at (puts_of c) (f i)) (g i)) n e i l)

module _ (n : ℕ) (f : ℕ → ℕ) (g : ℕ → ℕ → Put) where
  abbrev Test : ℕ → Type 0
  Test c = all_are c n f (g c) ≡ true

  in_each : Test 0 → Test 1 → Test 2 → Test 3 → Test 4 → Test 5 → (c : ℕ) → c ≤ 5 → (i : ℕ) → i < n → put_at (puts_of c) (f i) ≡ g c i
  in_each a b d e h k c l = at_all c n f (g c) (by_column Test a b d e h k c l)

class_in : (c : ℕ) → c ≤ 5 → (i : ℕ) → i < 58 → put_at (puts_of c) (2 * i) ≡ twice (768 + i) (class (letter c i))
unfolding plans
class_in = in_each 58 (λ i. 2 * i) (λ c i. twice (768 + i) (class (letter c i))) refl refl refl refl refl refl

en_in : (c : ℕ) → c ≤ 5 → (i : ℕ) → i < 58 → put_at (puts_of c) (2 * i + 1) ≡ twice (512 + i) (enable (letter c i))
unfolding plans
en_in = in_each 58 (λ i. 2 * i + 1) (λ c i. twice (512 + i) (enable (letter c i))) refl refl refl refl refl refl

lock_in_law : (c : ℕ) → c ≤ 5 → (i : ℕ) → i < 58 → put_at (puts_of c) (144 + i) ≡ lock_in c i
unfolding plans
lock_in_law = in_each 58 (λ i. 144 + i) lock_in refl refl refl refl refl refl

thresh_in : (c : ℕ) → c ≤ 5 → (k : ℕ) → k < 4 → put_at (puts_of c) (116 + 7 * k) ≡ twice (1285 + 16 * k) 0
unfolding plans
thresh_in = in_each 4 (λ k. 116 + 7 * k) (λ c k. twice (1285 + 16 * k) 0) refl refl refl refl refl refl

timeout_in : (c : ℕ) → c ≤ 5 → (k : ℕ) → k < 4 → put_at (puts_of c) (117 + 7 * k) ≡ twice (1286 + 16 * k) 0
unfolding plans
timeout_in = in_each 4 (λ k. 117 + 7 * k) (λ c k. twice (1286 + 16 * k) 0) refl refl refl refl refl refl

length_0 : (c : ℕ) → c ≤ 5 → (k : ℕ) → k < 2 → put_at (puts_of c) (118 + 7 * k) ≡ twice (1287 + 16 * k) 0
unfolding plans
length_0 = in_each 2 (λ k. 118 + 7 * k) (λ c k. twice (1287 + 16 * k) 0) refl refl refl refl refl refl

length_1 : (c : ℕ) → c ≤ 5 → (k : ℕ) → k < 2 → put_at (puts_of c) (119 + 7 * k) ≡ twice (1288 + 16 * k) 10
unfolding plans
length_1 = in_each 2 (λ k. 119 + 7 * k) (λ c k. twice (1288 + 16 * k) 10) refl refl refl refl refl refl

length_2 : (c : ℕ) → c ≤ 5 → (k : ℕ) → k < 2 → put_at (puts_of c) (120 + 7 * k) ≡ twice (1289 + 16 * k) 10
unfolding plans
length_2 = in_each 2 (λ k. 120 + 7 * k) (λ c k. twice (1289 + 16 * k) 10) refl refl refl refl refl refl

length_3 : (c : ℕ) → c ≤ 5 → (k : ℕ) → k < 2 → put_at (puts_of c) (121 + 7 * k) ≡ twice (1290 + 16 * k) 0xFFFFFFFF
unfolding plans
length_3 = in_each 2 (λ k. 121 + 7 * k) (λ c k. twice (1290 + 16 * k) 0xFFFFFFFF) refl refl refl refl refl refl

-- of classes C and D, whose lengths are at places 132 to 135 and 139 to 142
length_c : (c : ℕ) → c ≤ 5 → (p : ℕ) → p < 4 → put_at (puts_of c) (132 + p) ≡ twice (1319 + p) 0
unfolding plans
length_c = in_each 4 (λ p. 132 + p) (λ c p. twice (1319 + p) 0) refl refl refl refl refl refl

length_d : (c : ℕ) → c ≤ 5 → (p : ℕ) → p < 4 → put_at (puts_of c) (139 + p) ≡ twice (1335 + p) 0
unfolding plans
length_d = in_each 4 (λ p. 139 + p) (λ c p. twice (1335 + p) 0) refl refl refl refl refl refl

no_response_in : (c : ℕ) → c ≤ 5 → (k p : ℕ) → 2 ≤ k → k < 4 → p < 4 → put_at (puts_of c) (118 + 7 * k + p) ≡ twice (1287 + 16 * k + p) 0
no_response_in c l zero p a b d = absurd (omega arith)
no_response_in c l (suc zero) p a b d = absurd (omega arith)
no_response_in c l (suc (suc zero)) p a b d = length_c c l p d
no_response_in c l (suc (suc (suc zero))) p a b d = length_d c l p d
no_response_in c l (suc (suc (suc (suc k)))) p a b d = absurd (omega arith)

-- ── CTRL ──

abbrev pub ctrl_a : ℕ → ℕ
ctrl_a c = cond (locked c) 0x393F (cond (eqb c 3) 0x393D 0x393C)

abbrev pub ctrl_b : ℕ → ℕ
ctrl_b c = cond (locked c || eqb c 3) 0x393D 0x393C

ctrls_in : (c : ℕ) → c ≤ 5
    → (put_at (puts_of c) 122 ≡ twice 1281 (ctrl_a c))
    × (put_at (puts_of c) 129 ≡ twice 1297 (ctrl_b c))
    × (put_at (puts_of c) 136 ≡ twice 1313 0x393C)
    × (put_at (puts_of c) 143 ≡ twice 1329 0x393C)
    × (put_at (puts_of c) 202 ≡ class_lock_in c)
unfolding plans
ctrls_in c l =
    by_column
    (λ c. (put_at (puts_of c) 122 ≡ twice 1281 (ctrl_a c))
    × (put_at (puts_of c) 129 ≡ twice 1297 (ctrl_b c))
    × (put_at (puts_of c) 136 ≡ twice 1313 0x393C)
    × (put_at (puts_of c) 143 ≡ twice 1329 0x393C)
    × (put_at (puts_of c) 202 ≡ class_lock_in c))
    (refl, refl, refl, refl, refl) (refl, refl, refl, refl, refl) (refl, refl, refl, refl, refl) (refl, refl, refl, refl, refl)
    (refl, refl, refl, refl, refl) (refl, refl, refl, refl, refl) c l

-- ── lifecycles, as tests ──

pub locks_is : (c : ℕ) → Locks c → locked c ≡ true
locks_is c (inl e) = rw e
locks_is c (inr e) = rw e

locks_not : (c : ℕ) → ¬ Locks c → locked c ≡ false
locks_not c f = rw (ne_eqb c 1 (λ e. f (inl e)), ne_eqb c 2 (λ e. f (inr e)))

pub dev_not : (c : ℕ) → c ≡ 3 → (locked c ≡ false) × (eqb c 3 ≡ true)
dev_not c e = (rw e, rw e)

pub enables_is : (c : ℕ) → Enables c → (locked c || eqb c 3) ≡ true
enables_is c (inl (inl e)) = rw e
enables_is c (inl (inr e)) = rw e
enables_is c (inr e) = rw e

pub enables_not : (c : ℕ) → ¬ Enables c → (locked c ≡ false) × (eqb c 3 ≡ false)
enables_not c f = (locks_not c (λ e. f (inl e)), ne_eqb c 3 (λ e. f (inr e)))

-- ── locks ──

other_free : (i : ℕ) (x : Letter) → x ≢ A → lock_of i x ≡ none
other_free i A f = absurd (f refl)
other_free i B f = refl
other_free i C f = refl
other_free i D f = refl
other_free i X f = refl

either_free : (b : Bool) (p : Put) → p ≡ none → cond b p none ≡ none
either_free true p e = e
either_free false p e = refl

pub holds_order : (c : ℕ) → c ≤ 5 → Order c (put_at (puts_of c))
holds_order c l =
    let s = ctrls_in c l in
    record {
      alert_class = λ i m. class_in c l i (omega arith);
      alert_en = en_in c l;
      threshold = thresh_in c l;
      timeout = timeout_in c l;
      phase_0 = length_0 c l;
      phase_1 = length_1 c l;
      phase_2 = length_2 c l;
      phase_3 = length_3 c l;
      no_response = no_response_in c l;
      ctrl_a_lock = λ k. s.0 ∙ ap (λ (b : Bool). twice 1281 (cond b 0x393F (cond (eqb c 3) 0x393D 0x393C))) (locks_is c k);
      ctrl_a_dev = λ e. let d = dev_not c e in s.0 ∙ ap₂ (λ (a b : Bool). twice 1281 (cond a 0x393F (cond b 0x393D 0x393C))) d.0 d.1;
      ctrl_a_off = λ f. let d = enables_not c f in s.0 ∙ ap₂ (λ (a b : Bool). twice 1281 (cond a 0x393F (cond b 0x393D 0x393C))) d.0 d.1;
      ctrl_b_law = λ e. s.1 ∙ ap (λ (b : Bool). twice 1297 (cond b 0x393D 0x393C)) (enables_is c e);
      ctrl_b_off = λ f. let d = enables_not c f in s.1 ∙ ap₂ (λ (a b : Bool). twice 1297 (cond (a || b) 0x393D 0x393C)) d.0 d.1;
      ctrl_c = s.2;
      ctrl_d = s.3;
      alert_lock = λ i m k a. lock_in_law c l i m ∙ ap₂ (λ (b : Bool) (x : Letter). cond b (lock_of i x) none) (locks_is c k) a;
      alert_other = λ i m f. lock_in_law c l i m ∙ either_free (locked c) _ (other_free i (letter c i) f);
      alert_free = λ i m f. lock_in_law c l i m ∙ ap (λ (b : Bool). cond b (lock_of i (letter c i)) none) (locks_not c f);
      class_lock_law = λ k. s.4 ∙ ap (λ (b : Bool). cond b (once 1280 0) none) (locks_is c k);
      class_free = λ f. s.4 ∙ ap (λ (b : Bool). cond b (once 1280 0) none) (locks_not c f);
    }
