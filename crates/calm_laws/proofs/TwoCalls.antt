-- Request (xii): two calm calls one after another are one.
-- Assumes nothing.
use Prim.Native.Nat.{ℕ, zero, suc, ◌+◌, ◌≤◌, ◌<◌}
use mathlib.Core.Path.{◌≡◌, refl, sym, ap, ap₂, ◌∙◌}
use mathlib.Core.Bool.{Bool, true, false, cond, not}
use mathlib.Core.List.{List, [], ◌∷◌, ◌++◌, map, map-append, append-nil, append_assoc}
use native.Mathlib.Nat.{add-zero, add-suc}
use native.Mathlib.Omega.{arith}
use borrow.Author.Tests.{le-ltb}
use lib.Dec.{eqb, ltb}
use lib.IntN.{ℤ, pos, negsuc}
use lib.ListN.{length, take, drop, length-append}
use lib.Seq.{take_at}
use Rattle.std.specs.Prelude.{Result, Ok, Err}
use Rattle.bits.specs.Fields.{pack}
use Rattle.calm_rules.specs.Call.{calm_verdict, calmed_by, list_by, calmed, calmed_list}
use Rattle.calm_rules.specs.Ticks.{calm_input, calm_run, calm_output, change_word, change, calm_changes}
use Rattle.calm_rules.specs.declared.Bar.{Bar}
use Rattle.calm_rules.specs.declared.Bar.TheVariants.{BadState, TimerOn, ShortList}
use Rattle.calm_rules.specs.declared.Calmed.{Calmed}
use Rattle.laws.proofs.Valid.Refusal7.{ticked_good}
use Rattle.rules.specs.State.{is_on}
use Rattle.rules.specs.Tick.{interrupts, lines, output_of, tick, ticked}
use Rattle.rules.specs.Valid.{valid}
use Rattle.rules.specs.declared.Handler.{Handler}
use Rattle.rules.specs.declared.Ticked.{Ticked}
use Rattle.rules.specs.declared.Wires.{Wires}
use Rattle.calm_laws.specs.TwoCalls.{later, TwoCalls}
use Rattle.calm_laws.proofs.CalmRuns.{run_add, calm_valid, calm_off, output_lines}

-- ── words with the tick moved ──

word_later : (on m t : ℕ) → change_word on (m + t) ≡ later m (change_word on t)
unfolding change_word pack
word_later on m t = omega arith

change_later : (old new m t : ℕ) → change old new (m + t) ≡ map (later m) (change old new t)
change_later old new m t = go (eqb new old)
  where
    go : (b : Bool) → cond b [] (change_word new (m + t) ∷ []) ≡ map (later m) (cond b [] (change_word new t ∷ []))
    go true = refl
    go false = ap (λ (x : ℕ). x ∷ []) (word_later new m t)

length-map : (f : ℕ → ℕ) (xs : List ℕ) → length (map f xs) ≡ length xs
length-map f [] = refl
length-map f (x ∷ xs) = ap suc (length-map f xs)

-- ── ticks after ticks ──

module _ (h : Handler) (w : Wires) (v : valid h ≡ true) (m : ℕ) where
  abbrev g : Handler
  g = calm_run h w m

  -- the interrupts of tick n are those of the state after it
  output_interrupts : (x : Handler) → valid x ≡ true → (n : ℕ) → (calm_output x w n).interrupts ≡ interrupts (calm_run x w n)
  unfolding calm_output calm_run tick output_of
  output_interrupts x e zero = refl
  output_interrupts x e (suc n) =
      let q = calm_run x w n in
      let t = ticked_good q (calm_input w q) (calm_valid x w e n) in
      ap (λ (y : Ticked). y.output.interrupts) t ∙ sym (ap (λ (y : Ticked). interrupts y.handler) t)

  lines_add : (n : ℕ) → (calm_output h w (m + n)).lines ≡ (calm_output g w n).lines
  lines_add n = output_lines h w v (m + n) ∙ ap lines (run_add h w m n) ∙ sym (output_lines g w (calm_valid h w v m) n)

  interrupts_add : (n : ℕ) → (calm_output h w (m + n)).interrupts ≡ (calm_output g w n).interrupts
  interrupts_add n =
      output_interrupts h v (m + n) ∙ ap interrupts (run_add h w m n) ∙ sym (output_interrupts g (calm_valid h w v m) n)

  output_add : (n : ℕ) → calm_output h w (m + suc n) ≡ calm_output g w (suc n)
  unfolding calm_output
  output_add n = ap (calm_output h w) (add-suc m n) ∙ ap (λ (x : Handler). (ticked x (calm_input w x)).output) (run_add h w m n)

  changes_add : (n : ℕ) → calm_changes h w (m + n) ≡ calm_changes h w m ++ map (later m) (calm_changes g w n)
  unfolding calm_changes
  changes_add zero = ap (calm_changes h w) (add-zero m) ∙ sym (append-nil (calm_changes h w m))
  changes_add (suc n) =
      let o : suc (m + n) ≡ m + suc n = omega arith in
      let c = change (calm_output g w n).lines (calm_output g w (suc n)).lines in
      ap (calm_changes h w) (sym o)
      ∙ ap₂ ◌++◌ (changes_add n)
      (ap₂ (λ (x y : ℕ). change x y (suc (m + n))) (lines_add n) (ap (λ (x : ℕ). (calm_output h w x).lines) o ∙ lines_add (suc n))
      ∙ ap c o
      ∙ change_later (calm_output g w n).lines (calm_output g w (suc n)).lines m (suc n))
      ∙ append_assoc (calm_changes h w m) (map (later m) (calm_changes g w n)) (map (later m) (c (suc n)))
      ∙ ap (λ (ws : List ℕ). calm_changes h w m ++ ws) (sym (map-append (later m) (calm_changes g w n) (c (suc n))))

-- ── calls that run ──

-- the verdict from what is found of the state and the list
pub judged : (h : Handler) (list : List ℕ) (a b c : Bool) → valid h ≡ a → is_on h ≡ b → ltb (length list) 20 ≡ c
    → calm_verdict h list ≡ cond (not a) (Err BadState) (cond b (Err TimerOn) (cond c (Err ShortList) (Ok tt)))
unfolding calm_verdict
judged h list a b c x y z = λ i. cond (not (x i)) (Err BadState) (cond (y i) (Err TimerOn) (cond (z i) (Err ShortList) (Ok tt)))

pub runs_from : (h : Handler) (list : List ℕ) → valid h ≡ true → is_on h ≡ false → 20 ≤ length list → calm_verdict h list ≡ Ok tt
runs_from h list v off l = judged h list true false false v off (le-ltb (length list) 20 l)

module _ (h : Handler) (w : Wires) (n : ℕ) (list : List ℕ) (r : calm_verdict h list ≡ Ok tt) where
  pub gives : calmed h w n list ≡ record { handler = calm_run h w n; answer = pos (length (calm_changes h w n)); output = calm_output h w n }
  unfolding calmed
  gives = ap (λ (x : Result (Unit {0}) Bar). calmed_by x h w n) r

  pub leaves : calmed_list h w n list ≡ calm_changes h w n ++ drop (length (calm_changes h w n)) list
  unfolding calmed_list
  leaves = ap (λ (x : Result (Unit {0}) Bar). list_by x h w n list) r

  -- the words are as many as it answers
  pub count_is : (x : ℕ) → (calmed h w n list).answer ≡ pos x → x ≡ length (calm_changes h w n)
  count_is x e = pos_only x (length (calm_changes h w n)) (sym e ∙ ap (λ (c : Calmed). c.answer) gives)
    where
      natural : ℤ → ℕ
      natural (pos y) = y
      natural (negsuc y) = 0

      pos_only : (a b : ℕ) → pos a ≡ pos b → a ≡ b
      pos_only a b e = ap natural e

  pub words_are : (x : ℕ) → x ≡ length (calm_changes h w n) → take x (calmed_list h w n list) ≡ calm_changes h w n
  words_are x e = ap (take x) leaves ∙ take_at (calm_changes h w n) (drop (length (calm_changes h w n)) list) x (sym e)

-- ── the claim ──

pub two_calls : (h : Handler) (w : Wires) (m n : ℕ) (us vs ws : List ℕ) → valid h ≡ true → is_on h ≡ false
    → 20 ≤ length us → 20 ≤ length vs → 20 ≤ length ws → TwoCalls h w m n us vs ws
two_calls h w m n us vs ws v off la lb lc =
    record {
      runs_on = second;
      state = ap (λ (c : Calmed). c.handler) then ∙ sym (run_add h w m n) ∙ sym (ap (λ (c : Calmed). c.handler) one);
      answers = λ x y a b. ap (λ (c : Calmed). c.answer) one ∙ ap pos (number x y a b);
      changes = words;
      outputs = last n;
      interrupts =
          ap (λ (c : Calmed). c.output.interrupts) then ∙ sym (interrupts_add h w v m n) ∙ sym (ap (λ (c : Calmed). c.output.interrupts) one);
      lines = ap (λ (c : Calmed). c.output.lines) then ∙ sym (lines_add h w v m n) ∙ sym (ap (λ (c : Calmed). c.output.lines) one);
    }
  where
    ra : calm_verdict h us ≡ Ok tt
    ra = runs_from h us v off la

    rc : calm_verdict h ws ≡ Ok tt
    rc = runs_from h ws v off lc

    one : calmed h w (m + n) ws ≡ record { handler = calm_run h w (m + n); answer = pos (length (calm_changes h w (m + n))); output = calm_output h w (m + n) }
    one = gives h w (m + n) ws rc

    first : (calmed h w m us).handler ≡ calm_run h w m
    first = ap (λ (c : Calmed). c.handler) (gives h w m us ra)

    rb : calm_verdict (calm_run h w m) vs ≡ Ok tt
    rb = runs_from (calm_run h w m) vs (calm_valid h w v m) (calm_off h w v off m) lb

    second : calm_verdict (calmed h w m us).handler vs ≡ Ok tt
    second = ap (λ (x : Handler). calm_verdict x vs) first ∙ rb

    then : calmed (calmed h w m us).handler w n vs
        ≡ record { handler = calm_run (calm_run h w m) w n; answer = pos (length (calm_changes (calm_run h w m) w n)); output = calm_output (calm_run h w m) w n }
    then = ap (λ (x : Handler). calmed x w n vs) first ∙ gives (calm_run h w m) w n vs rb

    number : (x y : ℕ) → (calmed h w m us).answer ≡ pos x → (calmed (calmed h w m us).handler w n vs).answer ≡ pos y
        → length (calm_changes h w (m + n)) ≡ x + y
    number x y a b =
        let i = count_is h w m us ra x a in
        let j = count_is (calm_run h w m) w n vs rb y (ap (λ (z : Handler). (calmed z w n vs).answer) (sym first) ∙ b) in
        ap length (changes_add h w v m n)
        ∙ length-append (calm_changes h w m) (map (later m) (calm_changes (calm_run h w m) w n))
        ∙ ap₂ ◌+◌ (sym i) (length-map (later m) (calm_changes (calm_run h w m) w n) ∙ sym j)

    words : (x y : ℕ) → (calmed h w m us).answer ≡ pos x → (calmed (calmed h w m us).handler w n vs).answer ≡ pos y
        → take (x + y) (calmed_list h w (m + n) ws)
        ≡ take x (calmed_list h w m us) ++ map (later m) (take y (calmed_list (calmed h w m us).handler w n vs))
    words x y a b =
        let i = count_is h w m us ra x a in
        let j = count_is (calm_run h w m) w n vs rb y (ap (λ (z : Handler). (calmed z w n vs).answer) (sym first) ∙ b) in
        words_are h w (m + n) ws rc (x + y) (sym (number x y a b))
        ∙ changes_add h w v m n
        ∙ sym (ap₂ (λ (xs ys : List ℕ). xs ++ map (later m) ys) (words_are h w m us ra x i)
        (ap (λ (z : Handler). take y (calmed_list z w n vs)) first ∙ words_are (calm_run h w m) w n vs rb y j))

    last : (k : ℕ) → 0 < k → (calmed (calmed h w m us).handler w k vs).output ≡ (calmed h w (m + k) ws).output
    last zero l = absurd (omega (arith, l))
    last (suc k) l =
        ap (λ (x : Handler). (calmed x w (suc k) vs).output) first
        ∙ ap (λ (c : Calmed). c.output) (gives (calm_run h w m) w (suc k) vs rb)
        ∙ sym (output_add h w v m k)
        ∙ sym (ap (λ (c : Calmed). c.output) (gives h w (m + suc k) ws rc))
