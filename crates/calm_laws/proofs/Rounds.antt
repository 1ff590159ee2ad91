-- Request (xii), the engine's rounds: a jump in which nothing is written, and a plain tick that writes a word if a line changed.
-- Assumes nothing.
use Prim.Native.Nat.{ℕ, zero, suc, ◌+◌, ◌-◌, ◌^◌, ◌≤◌, ◌<◌}
use mathlib.Core.Path.{◌≡◌, refl, sym, ap, ap₂, ◌∙◌, subst}
use mathlib.Core.Bool.{Bool, true, false, cond}
use mathlib.Core.List.{List, [], ◌∷◌, ◌++◌, append-nil, append_assoc}
use native.Mathlib.Omega.{arith}
use native.Mathlib.Nat.{add-zero, add-suc}
use native.Mathlib.Numerals.{add-one}
use native.Mathlib.Decide.{dec_lt, ℕ_discrete}
use borrow.Author.Tests.{eq-eqb, ne_eqb, lt-ltb, le-ltb}
use lib.Dec.{ltb}
use lib.ListN.{length, length-append}
use Rattle.bits.specs.Bits.{num}
use Rattle.class_rules.specs.declared.Class.{Class}
use Rattle.class_rules.specs.declared.Signals.{Signals}
use Rattle.calm_laws.specs.Stand.{least}
use Rattle.link_rules.specs.Senders.{sent_all}
use Rattle.link_rules.specs.declared.Senders.{Senders}
use Rattle.calm_rules.specs.Ticks.{change_word, change}
use Rattle.laws.specs.OutputMasks.{lines_on}
use Rattle.calm_laws.specs.Four.{class_of, met, four_step, after, changes, four_stands, four_jump, changes_in, moves_in, FourFit, senders_after, Running}
use Rattle.calm_laws.specs.Steady.{steady, senders_for}
use Rattle.calm_laws.proofs.Standing.{least_left, least_right}
use Rattle.calm_laws.proofs.Ranks.{changes_most, moves_most}
use Rattle.calm_laws.proofs.Classes.{after_add, after_fit, jump_after, jump_lines, jump_changes_left, step_changes_left, step_changes_fall, jump_moves_left, step_moves_left, moves_fall}

-- 20 entries are enough
pub changes_twenty : (cs : List Class) → changes_in cs ≤ 20
unfolding changes_in
changes_twenty cs =
    omega (arith, changes_most (class_of cs 0), changes_most (class_of cs 1), changes_most (class_of cs 2), changes_most (class_of cs 3))

-- what a tick's change takes of the room: a change of a line leaves fewer that can come
pub change_room : (most : ℕ) (ws : List ℕ) (before lines t left next : ℕ) → length ws + left ≤ most → next ≤ left → ((lines ≡ before → ⊥) → next < left)
    → length (ws ++ change before lines t) + next ≤ most
change_room most ws before lines t left next h l d = go (ℕ_discrete lines before)
  where
    go : Dec (lines ≡ before) → length (ws ++ change before lines t) + next ≤ most
    go (yes e) = rw (eq-eqb lines before e, append-nil) (omega (arith, h, l))
    go (no e) = rw (ne_eqb lines before e, length-append ws (change_word lines t ∷ [])) (omega (arith, h, d e))

module _ (s : ℕ → Signals) (k : (j : ℕ) → (s j).clear ≡ false) (cs : List Class) (ss : Senders) (v : FourFit cs) (from most : ℕ) (old : List ℕ) where
  abbrev At : ℕ → List Class → Senders → List ℕ → Type 0
  At n ds ts ws = Running s cs ss from most old n ds ts ws

  pub start : length old + changes_in cs ≤ most → At 0 cs ss old
  unfolding after changes senders_after
  start h = record { classes = refl; senders = refl; words = sym (append-nil old); room = h }

  module _ (n : ℕ) (ds : List Class) (ts : Senders) (ws : List ℕ) (r : At n ds ts ws) where
    pub now_fit : FourFit ds
    now_fit = subst FourFit (sym r.classes) (after_fit s k cs n v)

    -- a jump of m ticks changes no line
    lines_still : (m : ℕ) → m ≤ four_stands s ds → lines_on (after s (n + m) cs) ≡ lines_on ds
    lines_still m h = ap lines_on (after_add s cs n m ∙ ap (after s m) (sym r.classes)) ∙ jump_lines s k ds m now_fit h

    no_changes : (m : ℕ) → m ≤ four_stands s ds → changes s from (n + m) cs ≡ changes s from n cs
    unfolding changes
    no_changes zero h = ap (λ (x : ℕ). changes s from x cs) (add-zero n)
    no_changes (suc m) h =
        ap (λ (x : ℕ). changes s from x cs) (add-suc n m)
        ∙ ap₂ ◌++◌ (no_changes m (omega arith))
        (ap (λ (b : Bool). cond b [] (change_word (lines_on (after s (suc (n + m)) cs)) (from + suc (n + m)) ∷ []))
        (eq-eqb (lines_on (after s (suc (n + m)) cs)) (lines_on (after s (n + m) cs))
        (ap (λ (x : ℕ). lines_on (after s x cs)) (sym (add-suc n m)) ∙ lines_still (suc m) h ∙ sym (lines_still m (omega arith)))))
        ∙ append-nil (changes s from n cs)

    -- and the senders go on with the lines as they are
    steady_senders : (m : ℕ) → m ≤ four_stands s ds → senders_after s (n + m) cs ss ≡ senders_for (lines_on ds) m ts
    unfolding senders_after senders_for
    steady_senders zero h = ap (λ (x : ℕ). senders_after s x cs ss) (add-zero n) ∙ sym r.senders
    steady_senders (suc m) h =
        ap (λ (x : ℕ). senders_after s x cs ss) (add-suc n m)
        ∙ ap₂ (λ (z : Senders) (x : ℕ). sent_all z (steady x)) (steady_senders m (omega arith))
        (ap (λ (x : ℕ). lines_on (after s x cs)) (sym (add-suc n m)) ∙ lines_still (suc m) h)

    pub jump : (m : ℕ) → m ≤ four_stands s ds → At (n + m) (four_jump s m ds) (senders_for (lines_on ds) m ts) ws
    jump m h =
        record {
          classes = jump_after s k ds m now_fit h ∙ ap (after s m) r.classes ∙ sym (after_add s cs n m);
          senders = sym (steady_senders m h);
          words = r.words ∙ ap (λ (ys : List ℕ). old ++ ys) (sym (no_changes m h));
          room = omega (arith, r.room, jump_changes_left s k ds m);
        }

    next_classes : four_step s ds ≡ after s (suc n) cs
    unfolding after
    next_classes = ap (four_step s) r.classes

    next_senders : sent_all ts (steady (lines_on (four_step s ds))) ≡ senders_after s (suc n) cs ss
    unfolding senders_after
    next_senders = ap₂ (λ (z : Senders) (x : List Class). sent_all z (steady (lines_on x))) r.senders next_classes

    -- the lines after the tick and before it
    lines_after : lines_on (four_step s ds) ≡ lines_on (after s (suc n) cs)
    lines_after = ap lines_on next_classes

    lines_before : lines_on ds ≡ lines_on (after s n cs)
    lines_before = ap lines_on r.classes

    -- the word of a plain tick, if it changes a line
    abbrev noted : List ℕ
    noted = change (lines_on ds) (lines_on (four_step s ds)) (from + suc n)

    noted_is : changes s from n cs ++ noted ≡ changes s from (suc n) cs
    unfolding changes
    noted_is = ap₂ (λ (x y : ℕ). changes s from n cs ++ change x y (from + suc n)) lines_before lines_after

    -- there is room for it
    pub room_for : (lines_on (four_step s ds) ≡ lines_on ds → ⊥) → length ws < most
    room_for d = omega (arith, r.room, step_changes_fall s k ds d)

    pub next : At (suc n) (four_step s ds) (sent_all ts (steady (lines_on (four_step s ds)))) (ws ++ noted)
    next =
        record {
          classes = next_classes;
          senders = next_senders;
          words =
              ap (λ (ys : List ℕ). ys ++ noted) r.words
              ∙ append_assoc old (changes s from n cs) noted
              ∙ ap (λ (ys : List ℕ). old ++ ys) noted_is;
          room =
              change_room most ws (lines_on ds) (lines_on (four_step s ds)) (from + suc n) (changes_in ds) (changes_in (four_step s ds)) r.room
              (step_changes_left s k ds) (step_changes_fall s k ds);
        }

-- ── a round is a jump and a plain tick; at most 24 of them, and one more to the last tick ──

pub moves_most_four : (s : ℕ → Signals) (cs : List Class) → moves_in s cs ≤ 24
unfolding moves_in
moves_most_four s cs =
    omega (arith, moves_most (s 0) (class_of cs 0), moves_most (s 1) (class_of cs 1), moves_most (s 2) (class_of cs 2), moves_most (s 3) (class_of cs 3))

num_most : (b : Bool) → num b ≤ 1
num_most true = omega arith
num_most false = omega arith

pub round_less : (s : ℕ → Signals) → ((j : ℕ) → (s j).clear ≡ false) → (ds : List Class) → FourFit ds → (n done m : ℕ) → n < 2 ^ 32 → done < n
    → m ≡ least (n - done - 1) (four_stands s ds)
    → moves_in s (four_step s (four_jump s m ds)) + num (ltb (done + m + 1) n) < moves_in s ds + num (ltb done n)
round_less s k ds v n done m h l e = go (dec_lt (four_stands s ds) (n - done - 1))
  where
    some : num (ltb done n) ≡ 1
    some = ap num (lt-ltb done n l)

    go : Dec (four_stands s ds < n - done - 1) → moves_in s (four_step s (four_jump s m ds)) + num (ltb (done + m + 1) n) < moves_in s ds + num (ltb done n)
    go (yes t) =
        let z : m ≡ four_stands s ds = e ∙ least_right (n - done - 1) (four_stands s ds) (omega arith) in
        let f : moves_in s (four_step s (four_jump s m ds)) < moves_in s ds = rw z (moves_fall s k ds v (omega arith)) in
        omega (arith, some, num_most (ltb (done + m + 1) n))
    go (no t) =
        let z : m ≡ n - done - 1 = e ∙ least_left (n - done - 1) (four_stands s ds) (omega arith) in
        let g : num (ltb (done + m + 1) n) ≡ 0 = ap num (le-ltb (done + m + 1) n (omega arith)) in
        omega (arith, some, step_moves_left s k (four_jump s m ds), jump_moves_left s k ds m)

-- ── a round as the code takes it: a jump of m ticks to js and us, and a plain tick to ns and xs ──

module _ (s : ℕ → Signals) (k : (j : ℕ) → (s j).clear ≡ false) (cs : List Class) (ss : Senders) (v : FourFit cs) (from most : ℕ) (old : List ℕ)
    (n : ℕ) (ds : List Class) (ts : Senders) (ws : List ℕ) (r : Running s cs ss from most old n ds ts ws)
    (m : ℕ) (h : m ≤ four_stands s ds) (js ns : List Class) (j : js ≡ four_jump s m ds) (e : ns ≡ four_step s js)
    (us xs : Senders) (u : us ≡ senders_for (lines_on js) m ts) (x : xs ≡ sent_all us (steady (lines_on ns))) where
  fit : FourFit ds
  fit = now_fit s k cs ss v from most old n ds ts ws r

  still : lines_on js ≡ lines_on ds
  still = ap lines_on (j ∙ jump_after s k ds m fit h) ∙ jump_lines s k ds m fit h

  jumped_to : Running s cs ss from most old (n + m) js us ws
  jumped_to =
      subst (λ (z : Senders). Running s cs ss from most old (n + m) js z ws) (ap (λ (l : ℕ). senders_for l m ts) (sym still) ∙ sym u)
      (subst (λ (ys : List Class). Running s cs ss from most old (n + m) ys (senders_for (lines_on ds) m ts) ws) (sym j)
      (jump s k cs ss v from most old n ds ts ws r m h))

  pub round_room : (lines_on ns ≡ lines_on js → ⊥) → length ws < most
  round_room d = room_for s k cs ss v from most old (n + m) js us ws jumped_to (λ l. d (ap lines_on e ∙ l))

  pub round_next : Running s cs ss from most old (n + m + 1) ns xs (ws ++ change (lines_on js) (lines_on ns) (from + (n + m + 1)))
  round_next = rw (add-one (n + m), x, e) (next s k cs ss v from most old (n + m) js us ws jumped_to)

  -- what the round leaves of the measure, of t ticks in all
  pub round_falls : (t : ℕ) → t < 2 ^ 32 → n < t → m ≡ least (t - n - 1) (four_stands s ds)
      → moves_in s ns + num (ltb (n + m + 1) t) < moves_in s ds + num (ltb n t)
  round_falls t a b y = rw (e, j) (round_less s k ds fit t n m a b y)

-- no access, so no clear
pub no_clear : (events interrupts j : ℕ) → (met events interrupts j).clear ≡ false
unfolding met
no_clear events interrupts j = refl
