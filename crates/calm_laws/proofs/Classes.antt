-- Request (xii), the four classes: a jump is that many plain ticks, without a change of a line; and a round of the engine.
-- Assumes nothing.
use Prim.Native.Nat.{ℕ, zero, suc, ◌+◌, ◌≤◌, ◌<◌}
use mathlib.Core.Path.{◌≡◌, refl, sym, ap, ◌∙◌, fun_ext, subst}
use mathlib.Core.Bool.{Bool, true, false, cond}
use mathlib.Core.List.{List}
use native.Mathlib.Omega.{arith}
use native.Mathlib.Nat.{add-zero, add-suc}
use native.Mathlib.Decide.{dec_lt}
use lib.Dec.{leb}
use lib.ListN.{length}
use Rattle.bits.specs.Bits.{bits_of}
use Rattle.bits.proofs.IndexLaws.{at_each, length_each, is_each, any_ext}
use Rattle.class_rules.specs.Class.{drives, no_class}
use Rattle.class_rules.specs.Step.{class_step}
use Rattle.class_rules.specs.declared.Class.{Class}
use Rattle.class_rules.specs.declared.Signals.{Signals}
use Rattle.calm_laws.specs.Stand.{class_after, forever, least, stands, jumped, Fits}
use Rattle.calm_laws.specs.Rank.{changes_left, moves_left}
use Rattle.laws.specs.OutputMasks.{lines_on}
use Rattle.calm_laws.specs.Four.{class_of, four_step, after, four_stands, four_jump, four_of, changes_in, moves_in, FourFit}
use Rattle.calm_laws.proofs.Standing.{least_below, leaves, stands_less}
use Rattle.calm_laws.proofs.Jumps.{jump_is, same_lines, jumped_fits, step_fits}
use Rattle.calm_laws.proofs.Ranks.{fewer_changes, same_drives, fewer_moves, same_state}

-- ── lists of four ──

step_at : (s : ℕ → Signals) (cs : List Class) (k : ℕ) → k < 4 → class_of (four_step s cs) k ≡ class_step (s k) (class_of cs k)
unfolding four_step
step_at s cs k h = at_each 4 (λ j. class_step (s j) (class_of cs j)) k no_class h

jump_at : (s : ℕ → Signals) (n : ℕ) (cs : List Class) (k : ℕ) → k < 4 → class_of (four_jump s n cs) k ≡ jumped (s k) n (class_of cs k)
unfolding four_jump
jump_at s n cs k h = at_each 4 (λ j. jumped (s j) n (class_of cs j)) k no_class h

-- class k after n ticks is that of class k alone
after_at : (s : ℕ → Signals) (cs : List Class) (n k : ℕ) → k < 4 → class_of (after s n cs) k ≡ class_after (s k) n (class_of cs k)
unfolding after class_after
after_at s cs zero k h = refl
after_at s cs (suc n) k h = step_at s (after s n cs) k h ∙ ap (class_step (s k)) (after_at s cs n k h)

after_four : (s : ℕ → Signals) (cs : List Class) (n : ℕ) → length cs ≡ 4 → length (after s n cs) ≡ 4
unfolding after four_step
after_four s cs zero h = h
after_four s cs (suc n) h = length_each 4 _

pub after_add : (s : ℕ → Signals) (cs : List Class) (n m : ℕ) → after s (n + m) cs ≡ after s m (after s n cs)
unfolding after
after_add s cs n zero = ap (λ (x : ℕ). after s x cs) (add-zero n)
after_add s cs n (suc m) = ap (λ (x : ℕ). after s x cs) (add-suc n m) ∙ ap (four_step s) (after_add s cs n m)

-- the lines are those of the classes
lines_same : (xs ys : List Class) → ((k : ℕ) → k < 4 → (e : ℕ) → drives (class_of xs k) e ≡ drives (class_of ys k) e) → lines_on xs ≡ lines_on ys
unfolding lines_on
lines_same xs ys h = ap (bits_of 4) (fun_ext (λ e. any_ext (λ k. drives (class_of xs k) e) (λ k. drives (class_of ys k) e) 4 (λ k l. h k l e)))

-- ── sums and the smallest of four ──

pub four_below : (s : ℕ → Signals) (cs : List Class) (k : ℕ) → k < 4 → four_stands s cs ≤ stands (s k) (class_of cs k)
unfolding four_stands
four_below s cs k h = go k h
  where
    at : ℕ → ℕ
    at j = stands (s j) (class_of cs j)

    b0 : (least (at 0) (least (at 1) (least (at 2) (at 3))) ≤ at 0) × (least (at 0) (least (at 1) (least (at 2) (at 3))) ≤ least (at 1) (least (at 2) (at 3)))
    b0 = least_below (at 0) (least (at 1) (least (at 2) (at 3)))

    b1 : (least (at 1) (least (at 2) (at 3)) ≤ at 1) × (least (at 1) (least (at 2) (at 3)) ≤ least (at 2) (at 3))
    b1 = least_below (at 1) (least (at 2) (at 3))

    b2 : (least (at 2) (at 3) ≤ at 2) × (least (at 2) (at 3) ≤ at 3)
    b2 = least_below (at 2) (at 3)

    go : (k : ℕ) → k < 4 → least (at 0) (least (at 1) (least (at 2) (at 3))) ≤ at k
    go zero l = b0.0
    go (suc zero) l = omega (arith, b0, b1)
    go (suc (suc zero)) l = omega (arith, b0, b1, b2)
    go (suc (suc (suc zero))) l = omega (arith, b0, b1, b2)
    go (suc (suc (suc (suc k)))) l = absurd (omega arith)

-- it is that of one of them
four_some : (s : ℕ → Signals) (cs : List Class) → (k : ℕ) × (k < 4) × (four_stands s cs ≡ stands (s k) (class_of cs k))
unfolding four_stands
four_some s cs = go (leb (at 0) (least (at 1) (least (at 2) (at 3)))) (leb (at 1) (least (at 2) (at 3))) (leb (at 2) (at 3))
  where
    at : ℕ → ℕ
    at j = stands (s j) (class_of cs j)

    go : (a b c : Bool) → (k : ℕ) × (k < 4) × (cond a (at 0) (cond b (at 1) (cond c (at 2) (at 3))) ≡ at k)
    go true b c = (0, omega arith, refl)
    go false true c = (1, omega arith, refl)
    go false false true = (2, omega arith, refl)
    go false false false = (3, omega arith, refl)

-- a sum of four of which none rises
sum_less : (f g : ℕ → ℕ) → ((k : ℕ) → k < 4 → f k ≤ g k) → four_of f ≤ four_of g
sum_less f g h = omega (arith, h 0 (omega arith), h 1 (omega arith), h 2 (omega arith), h 3 (omega arith))

-- falls if one falls
sum_falls : (f g : ℕ → ℕ) → ((k : ℕ) → k < 4 → f k ≤ g k) → (k : ℕ) → k < 4 → f k < g k → four_of f < four_of g
sum_falls f g h zero l e = omega (arith, h 1 (omega arith), h 2 (omega arith), h 3 (omega arith))
sum_falls f g h (suc zero) l e = omega (arith, h 0 (omega arith), h 2 (omega arith), h 3 (omega arith))
sum_falls f g h (suc (suc zero)) l e = omega (arith, h 0 (omega arith), h 1 (omega arith), h 3 (omega arith))
sum_falls f g h (suc (suc (suc zero))) l e = omega (arith, h 0 (omega arith), h 1 (omega arith), h 2 (omega arith))
sum_falls f g h (suc (suc (suc (suc k)))) l e = absurd (omega arith)

-- and is the same only if each is
sum_same : (f g : ℕ → ℕ) → ((k : ℕ) → k < 4 → f k ≤ g k) → four_of g ≤ four_of f → (k : ℕ) → k < 4 → f k ≡ g k
sum_same f g h e k l = go (dec_lt (f k) (g k))
  where
    go : Dec (f k < g k) → f k ≡ g k
    go (yes d) = absurd (omega (arith, sum_falls f g h k l d))
    go (no d) = omega (arith, h k l)

sum_ext : (f g : ℕ → ℕ) → ((k : ℕ) → k < 4 → f k ≡ g k) → four_of f ≡ four_of g
sum_ext f g h = omega (arith, h 0 (omega arith), h 1 (omega arith), h 2 (omega arith), h 3 (omega arith))

-- ── what a tick and a jump leave ──

module _ (s : ℕ → Signals) (k : (j : ℕ) → (s j).clear ≡ false) where
  step_fit : (cs : List Class) → FourFit cs → FourFit (four_step s cs)
  unfolding four_step
  step_fit cs v =
      record {
        four = length_each 4 _;
        all = λ j l. subst Fits (sym (step_at s cs j l)) (step_fits (s j) (class_of cs j) (v.all j l));
      }

  pub after_fit : (cs : List Class) (n : ℕ) → FourFit cs → FourFit (after s n cs)
  unfolding after
  after_fit cs zero v = v
  after_fit cs (suc n) v = step_fit (after s n cs) (after_fit cs n v)

  -- a jump is that many plain ticks
  pub jump_after : (cs : List Class) (n : ℕ) → FourFit cs → n ≤ four_stands s cs → four_jump s n cs ≡ after s n cs
  unfolding four_jump
  jump_after cs n v h =
      sym (is_each 4 (after s n cs) (λ j. jumped (s j) n (class_of cs j)) no_class (after_four s cs n v.four)
      (λ j l. after_at s cs n j l ∙ jump_is (s j) (class_of cs j) (k j) (v.all j l) n (omega (arith, four_below s cs j l))))

  -- in which no line changes
  pub jump_lines : (cs : List Class) (n : ℕ) → FourFit cs → n ≤ four_stands s cs → lines_on (after s n cs) ≡ lines_on cs
  jump_lines cs n v h =
      lines_same (after s n cs) cs
      (λ j l e. ap (λ (c : Class). drives c e) (after_at s cs n j l) ∙ same_lines (s j) (class_of cs j) (k j) (v.all j l) n (omega (arith, four_below s cs j l)) e)

  pub jump_changes_left : (cs : List Class) (n : ℕ) → changes_in (four_jump s n cs) ≡ changes_in cs
  unfolding changes_in jumped
  jump_changes_left cs n =
      sum_ext (λ j. changes_left (class_of (four_jump s n cs) j)) (λ j. changes_left (class_of cs j)) (λ j l. ap changes_left (jump_at s n cs j l))

  pub jump_moves_left : (cs : List Class) (n : ℕ) → moves_in s (four_jump s n cs) ≡ moves_in s cs
  unfolding moves_in jumped
  jump_moves_left cs n =
      sum_ext (λ j. moves_left (s j) (class_of (four_jump s n cs) j)) (λ j. moves_left (s j) (class_of cs j)) (λ j l. ap (moves_left (s j)) (jump_at s n cs j l))

  -- a tick that changes a line leaves fewer of them
  fewer_at : (cs : List Class) (j : ℕ) → j < 4 → changes_left (class_of (four_step s cs) j) ≤ changes_left (class_of cs j)
  fewer_at cs j l = rw (step_at s cs j l) (fewer_changes (s j) (class_of cs j) (k j))

  pub step_changes_left : (cs : List Class) → changes_in (four_step s cs) ≤ changes_in cs
  unfolding changes_in
  step_changes_left cs = sum_less (λ j. changes_left (class_of (four_step s cs) j)) (λ j. changes_left (class_of cs j)) (fewer_at cs)

  pub step_changes_fall : (cs : List Class) → (lines_on (four_step s cs) ≡ lines_on cs → ⊥) → changes_in (four_step s cs) < changes_in cs
  unfolding changes_in
  step_changes_fall cs d = go (dec_lt (four_of f) (four_of g))
    where
      f : ℕ → ℕ
      f j = changes_left (class_of (four_step s cs) j)

      g : ℕ → ℕ
      g j = changes_left (class_of cs j)

      go : Dec (four_of f < four_of g) → four_of f < four_of g
      go (yes l) = l
      go (no l) =
          absurd (d (lines_same (four_step s cs) cs
          (λ j h e. ap (λ (c : Class). drives c e) (step_at s cs j h)
          ∙ same_drives (s j) (class_of cs j) (k j) (ap changes_left (sym (step_at s cs j h)) ∙ sum_same f g (fewer_at cs) (omega arith) j h) e)))

  -- no tick leaves more moves
  moves_at : (cs : List Class) (j : ℕ) → j < 4 → moves_left (s j) (class_of (four_step s cs) j) ≤ moves_left (s j) (class_of cs j)
  moves_at cs j l = rw (step_at s cs j l) (fewer_moves (s j) (class_of cs j) (k j))

  pub step_moves_left : (cs : List Class) → moves_in s (four_step s cs) ≤ moves_in s cs
  unfolding moves_in
  step_moves_left cs = sum_less (λ j. moves_left (s j) (class_of (four_step s cs) j)) (λ j. moves_left (s j) (class_of cs j)) (moves_at cs)

  -- the tick after the shortest time leaves fewer moves
  pub moves_fall : (cs : List Class) → FourFit cs → four_stands s cs < forever → moves_in s (four_step s (four_jump s (four_stands s cs) cs)) < moves_in s cs
  unfolding moves_in
  moves_fall cs v h =
      let n = four_stands s cs in
      let js = four_jump s n cs in
      let w = four_some s cs in
      let j = w.0 in
      let e : class_of js j ≡ jumped (s j) n (class_of cs j) = jump_at s n cs j w.1 in
      let z : stands (s j) (jumped (s j) n (class_of cs j)) ≡ 0 = let y = stands_less (s j) (class_of cs j) (v.all j w.1) n (omega (arith, w.2)) in omega (arith, w.2) in
      let fit : Fits (jumped (s j) n (class_of cs j)) = jumped_fits (s j) n (class_of cs j) (v.all j w.1) in
      let fall : moves_left (s j) (class_of (four_step s js) j) < moves_left (s j) (class_of js j) =
      rw (step_at s js j w.1, e) (falls (s j) (jumped (s j) n (class_of cs j)) (k j) fit z) in
      omega (arith, sum_falls (λ i. moves_left (s i) (class_of (four_step s js) i)) (λ i. moves_left (s i) (class_of js i)) (moves_at js) j w.1 fall, jump_moves_left cs n)
    where
      falls : (q : Signals) (c : Class) → q.clear ≡ false → Fits c → stands q c ≡ 0 → moves_left q (class_step q c) < moves_left q c
      falls q c r v z = go (dec_lt (moves_left q (class_step q c)) (moves_left q c))
        where
          go : Dec (moves_left q (class_step q c) < moves_left q c) → moves_left q (class_step q c) < moves_left q c
          go (yes l) = l
          go (no l) = absurd (leaves q c r v z (same_state q c r v.named (omega (arith, fewer_moves q c r))))
