-- Request (xii): the words of a calm call tell the lines of each of its ticks.
-- Assumes nothing.
use Prim.Native.Nat.{ℕ, zero, suc, ◌+◌, ◌-◌, ◌^◌, ◌≤◌, ◌<◌}
use mathlib.Core.Path.{◌≡◌, refl, sym, ap, ◌∙◌, subst}
use mathlib.Core.Logic.{◌≢◌}
use mathlib.Core.Bool.{Bool, true, false, cond}
use mathlib.Core.List.{List, [], ◌∷◌, ◌++◌, append-nil}
use native.Mathlib.Decide.{dec_lt}
use native.Mathlib.Nat.{add-zero, not-suc-le-zero}
use native.Mathlib.Omega.{arith}
use borrow.Author.Tests.{eqb-false}
use lib.Dec.{eqb}
use lib.ListN.{get_or, length, length-append, get_or-append}
use lib.Seq.{get_or-append-add}
use Rattle.bits.proofs.BitLaws.{bits_of_lt}
use Rattle.bits.specs.Bits.{field}
use Rattle.rules.specs.Tick.{lines}
use Rattle.rules.specs.Valid.{valid}
use Rattle.rules.specs.declared.Handler.{Handler}
use Rattle.rules.specs.declared.Wires.{Wires}
use Rattle.calm_rules.specs.Ticks.{calm_output, change_word, change, calm_changes}
use Rattle.calm_laws.specs.Tells.{lines_in, tick_in, lines_by, Tells}
use Rattle.calm_laws.proofs.CalmRuns.{output_lines}
use Rattle.calm_laws.proofs.ChangeWords.{word_tick, word_zeros, word_lines, by_append, by_before, by_after}

module _ (h : Handler) (w : Wires) (v : valid h ≡ true) where
  -- the lines of tick t
  abbrev at : ℕ → ℕ
  at t = (calm_output h w t).lines

  abbrev words : ℕ → List ℕ
  words n = calm_changes h w n

  -- the words of tick n + 1: none or one
  abbrev next : ℕ → List ℕ
  next n = change (at n) (at (suc n)) (suc n)

  four : (n : ℕ) → at n < 2 ^ 4
  unfolding lines
  four n = subst (λ (x : ℕ). x < 2 ^ 4) (sym (output_lines h w v n)) (bits_of_lt 4 _)

  -- ── the lines ──

  -- of tick n, and as far as these words tell of every later tick
  at_end : (n : ℕ) → n < 2 ^ 32 → (t : ℕ) → n ≤ t → lines_by (lines h) (words n) t ≡ at n
  unfolding lines_by calm_changes calm_output
  at_end zero s t l = refl
  at_end (suc n) s t l =
      by_append (lines h) (words n) (next n) t
      ∙ ap (λ (x : ℕ). lines_by x (next n) t) (at_end n (omega arith) t (omega arith))
      ∙ by_after (at n) (at (suc n)) (suc n) s (four (suc n)) t l

  -- of every tick before
  by_words : (n : ℕ) → n < 2 ^ 32 → (t : ℕ) → t ≤ n → lines_by (lines h) (words n) t ≡ at t
  unfolding calm_changes
  by_words zero s t l = let e : t ≡ 0 = omega arith in at_end zero s t (omega arith) ∙ ap at (sym e)
  by_words (suc n) s t l = go (dec_lt t (suc n)) (λ m. by_words n (omega arith) t (omega arith))
    where
      go : Dec (t < suc n) → (t < suc n → lines_by (lines h) (words n) t ≡ at t) → lines_by (lines h) (words (suc n)) t ≡ at t
      go (yes m) earlier =
          by_append (lines h) (words n) (next n) t
          ∙ by_before (at n) (at (suc n)) (suc n) s (lines_by (lines h) (words n) t) t m
          ∙ earlier m
      go (no m) earlier = let e : t ≡ suc n = omega arith in at_end (suc n) s t (omega arith) ∙ ap at (sym e)

  -- ── the words ──

  -- one of them, of n ticks
  record Word (n x : ℕ) : Type 0 where
    from : 1 ≤ tick_in x
    to : tick_in x ≤ n
    changed : lines_in x ≢ at (tick_in x - 1)
    zeros : field 32 28 x ≡ 0

  record InOrder (n : ℕ) (ws : List ℕ) : Type 0 where
    word : (i : ℕ) → i < length ws → Word n (get_or ws i 0)
    rising : (i : ℕ) → suc i < length ws → tick_in (get_or ws i 0) < tick_in (get_or ws (suc i) 0)

  longer : (n : ℕ) (ws : List ℕ) → InOrder n ws → InOrder (suc n) ws
  longer n ws o =
      record {
        word = λ i l. let x = o.word i l in record { from = x.from; to = omega (arith, x.to); changed = x.changed; zeros = x.zeros };
        rising = o.rising;
      }

  -- the word of tick n + 1 after them
  one_more : (n : ℕ) (ws : List ℕ) (x : ℕ) → InOrder n ws → Word (suc n) x → tick_in x ≡ suc n → InOrder (suc n) (ws ++ x ∷ [])
  one_more n ws x o a e = record { word = word; rising = rising }
    where
      size : length (ws ++ x ∷ []) ≡ length ws + 1
      size = length-append ws (x ∷ [])

      old : (i : ℕ) → i < length ws → get_or (ws ++ x ∷ []) i 0 ≡ get_or ws i 0
      old i l = get_or-append ws (x ∷ []) 0 i l

      last : (i : ℕ) → i ≡ length ws → get_or (ws ++ x ∷ []) i 0 ≡ x
      last i d = ap (λ (j : ℕ). get_or (ws ++ x ∷ []) j 0) (d ∙ sym (add-zero (length ws))) ∙ get_or-append-add ws (x ∷ []) 0 0

      word : (i : ℕ) → i < length (ws ++ x ∷ []) → Word (suc n) (get_or (ws ++ x ∷ []) i 0)
      word i l = go (dec_lt i (length ws))
        where
          go : Dec (i < length ws) → Word (suc n) (get_or (ws ++ x ∷ []) i 0)
          go (yes m) = subst (Word (suc n)) (sym (old i m)) ((longer n ws o).word i m)
          go (no m) = subst (Word (suc n)) (sym (last i (omega (arith, size, l, m)))) a

      rising : (i : ℕ) → suc i < length (ws ++ x ∷ []) → tick_in (get_or (ws ++ x ∷ []) i 0) < tick_in (get_or (ws ++ x ∷ []) (suc i) 0)
      rising i l = go (dec_lt (suc i) (length ws))
        where
          go : Dec (suc i < length ws) → tick_in (get_or (ws ++ x ∷ []) i 0) < tick_in (get_or (ws ++ x ∷ []) (suc i) 0)
          go (yes m) = omega (arith, o.rising i m, ap tick_in (old i (omega arith)), ap tick_in (old (suc i) m))
          go (no m) =
              let k : i < length ws = omega (arith, size, l) in
              omega (arith, (o.word i k).to, ap tick_in (old i k), ap tick_in (last (suc i) (omega (arith, size, l, m))), e)

  in_order : (n : ℕ) → n < 2 ^ 32 → InOrder n (words n)
  unfolding calm_changes
  in_order zero s = record { word = λ i l. absurd (not-suc-le-zero l); rising = λ i l. absurd (not-suc-le-zero l) }
  in_order (suc n) s = go (eqb (at (suc n)) (at n)) refl (in_order n (omega arith))
    where
      x : ℕ
      x = change_word (at (suc n)) (suc n)

      tick : tick_in x ≡ suc n
      tick = word_tick (at (suc n)) (suc n) s

      go : (b : Bool) → eqb (at (suc n)) (at n) ≡ b → InOrder n (words n) → InOrder (suc n) (words n ++ cond b [] (x ∷ []))
      go true e o = subst (InOrder (suc n)) (sym (append-nil (words n))) (longer n (words n) o)
      go false e o =
          one_more n (words n) x o
          (record {
            from = omega (arith, tick);
            to = omega (arith, tick);
            changed =
                λ d.
                let p : tick_in x - 1 ≡ n = omega (arith, tick) in
                eqb-false (at (suc n)) (at n) e (sym (word_lines (at (suc n)) (suc n) s (four (suc n))) ∙ d ∙ ap at p);
            zeros = word_zeros (at (suc n)) (suc n) s;
          })
          tick

-- ── the claim ──

pub tells : (h : Handler) (w : Wires) (n : ℕ) → valid h ≡ true → n < 2 ^ 32 → Tells h w n
tells h w n v s =
    let o = in_order h w v n s in
    record {
      each_tick = by_words h w v n s;
      rising = o.rising;
      within = λ i l. ((o.word i l).from, (o.word i l).to);
      changed = λ i l. (o.word i l).changed;
      zeros = λ i l. (o.word i l).zeros;
    }
