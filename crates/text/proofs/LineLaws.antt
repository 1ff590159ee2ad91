-- Lines of words by their places: each digit, the newline, and one line behind the others.
-- Assumes nothing.
use Prim.Native.Nat.{ℕ, zero, suc, ◌+◌, ◌-◌, ◌*◌, ◌/◌, ◌%◌, ◌^◌, ◌≤◌, ◌<◌}
use mathlib.Core.Path.{◌≡◌, refl, sym, ap, ◌∙◌}
use mathlib.Core.List.{List, [], ◌∷◌, ◌++◌, map, append_assoc, append-nil}
use native.Mathlib.Nat.{le_of_suc-le-suc, not-suc-le-zero}
use native.Mathlib.Numerals.{add-one}
use native.Mathlib.Omega.{arith}
use lib.ListN.{length, get_or, set, take, drop, replicate, drop_of_length-le, length-append, get_or-append, get_or-map}
use lib.Seq.{get_or-append-add, paste, paste-suc, take-suc, take_all, take_at, drop_at, drop-drop, length-take-le}
use Rattle.bits.specs.Fields.{total, unpack}
use Rattle.text.specs.HexLines.{digit_of, line_of, lines_of}

-- ── a line ──

total_fields : (n b : ℕ) → total (replicate n b) ≡ n * b
total_fields zero b = omega arith
total_fields (suc n) b = omega (arith, total_fields n b)

-- of n fields of b bits, the one that has i fields below it
field_at_law : (n b w j i : ℕ) → j + suc i ≡ n → get_or (unpack (replicate n b) w) j 0 ≡ w / 2 ^ (i * b) % 2 ^ b
unfolding unpack
field_at_law zero b w j i e = absurd (omega arith)
field_at_law (suc n) b w zero i e = let d : n ≡ i = omega arith in ap (λ (s : ℕ). w / 2 ^ s % 2 ^ b) (total_fields n b ∙ ap (λ (x : ℕ). x * b) d)
field_at_law (suc n) b w (suc j) i e = field_at_law n b w j i (omega arith)

pub length_line : (w : ℕ) → length (line_of w) ≡ 17
unfolding line_of unpack
length_line w = refl

-- within a list it does not matter what stands for the places past it
default_free : (xs : List ℕ) (i a b : ℕ) → i < length xs → get_or xs i a ≡ get_or xs i b
default_free [] i a b l = absurd (not-suc-le-zero l)
default_free (x ∷ xs) zero a b l = refl
default_free (x ∷ xs) (suc i) a b l = default_free xs i a b (le_of_suc-le-suc l)

-- 48 is the digit of 0
digit_at : (w j : ℕ) → j < 16 → get_or (line_of w) j 48 ≡ digit_of (w / 2 ^ (60 - 4 * j) % 16)
unfolding line_of unpack
digit_at w j h =
    let s : (15 - j) * 4 ≡ 60 - 4 * j = omega arith in
    let fs : List ℕ = unpack (replicate 16 4) w in
    get_or-append (map digit_of fs) (10 ∷ []) 48 j h ∙ get_or-map digit_of fs j 0
    ∙ ap digit_of (field_at_law 16 4 w j (15 - j) (omega arith) ∙ ap (λ (x : ℕ). w / 2 ^ x % 16) s)

-- the store of digit j
pub put_digit : (d : List ℕ) (at w j : ℕ) → at + 16 ≤ length d → j < 16
    → set (paste d at (line_of w) j) (at + j) (digit_of (w / 2 ^ (60 - 4 * j) % 16)) ≡ paste d at (line_of w) (j + 1)
put_digit d at w j h l =
    rw (add-one, ← digit_at w j l) (paste-suc d at (line_of w) j 48 (omega arith) (omega (arith, length_line w)))

-- the same where the line has its own list
pub put_own_digit : (d : List ℕ) (w j : ℕ) → length d ≡ 17 → j < 16
    → set (paste d 0 (line_of w) j) j (digit_of (w / 2 ^ (60 - 4 * j) % 16)) ≡ paste d 0 (line_of w) (j + 1)
put_own_digit d w j h l =
    let e : 0 + j ≡ j = omega arith in
    ap (λ (k : ℕ). set (paste d 0 (line_of w) j) k (digit_of (w / 2 ^ (60 - 4 * j) % 16))) (sym e) ∙ put_digit d 0 w j (omega arith) l

-- the store of the newline
pub put_newline : (d : List ℕ) (at w : ℕ) → at + 17 ≤ length d → set (paste d at (line_of w) 16) (at + 16) 10 ≡ paste d at (line_of w) 17
unfolding line_of unpack
put_newline d at w h = paste-suc d at (line_of w) 16 0 (omega arith) (omega arith)

-- the newline behind the digits makes the line whole
pub own_line : (d : List ℕ) (w : ℕ) → length d ≡ 17 → set (paste d 0 (line_of w) 16) 16 10 ≡ line_of w
own_line d w h =
    let e : length (line_of w) ≤ 17 = omega (arith, length_line w) in
    let n : length d ≤ 0 + 17 = omega arith in
    put_newline d 0 w (omega arith) ∙ rw (drop_of_length-le d n, append-nil, take_all 17 (line_of w) e) refl

-- ── lines ──

pub length_lines : (ws : List ℕ) → length (lines_of ws) ≡ 17 * length ws
unfolding lines_of
length_lines [] = refl
length_lines (w ∷ ws) = simp (length-append, length_line, length_lines ws) (omega arith)

pub lines_joined : (vs ws : List ℕ) → lines_of (vs ++ ws) ≡ lines_of vs ++ lines_of ws
unfolding lines_of
lines_joined [] ws = refl
lines_joined (v ∷ vs) ws = ap (λ (l : List ℕ). line_of v ++ l) (lines_joined vs ws) ∙ sym (append_assoc (line_of v) (lines_of vs) (lines_of ws))

-- each place of a line, and of lines
pub line_digit : (w j : ℕ) → j < 16 → get_or (line_of w) j 0 ≡ digit_of (w / 2 ^ (60 - 4 * j) % 16)
line_digit w j h = default_free (line_of w) j 0 48 (omega (arith, length_line w)) ∙ digit_at w j h

pub line_newline : (w : ℕ) → get_or (line_of w) 16 0 ≡ 10
unfolding line_of unpack
line_newline w = refl

pub line_at_law : (ws : List ℕ) (i j : ℕ) → i < length ws → j < 17 → get_or (lines_of ws) (17 * i + j) 0 ≡ get_or (line_of (get_or ws i 0)) j 0
unfolding lines_of
line_at_law [] i j l m = absurd (not-suc-le-zero l)
line_at_law (w ∷ ws) zero j l m =
    let e : 17 * 0 + j ≡ j = omega arith in
    ap (λ (k : ℕ). get_or (line_of w ++ lines_of ws) k 0) e ∙ get_or-append (line_of w) (lines_of ws) 0 j (omega (arith, length_line w))
line_at_law (w ∷ ws) (suc i) j l m =
    let e : 17 * suc i + j ≡ length (line_of w) + (17 * i + j) = omega (arith, length_line w) in
    ap (λ (k : ℕ). get_or (line_of w ++ lines_of ws) k 0) e ∙ get_or-append-add (line_of w) (lines_of ws) (17 * i + j) 0 ∙ line_at_law ws i j (le_of_suc-le-suc l) m

lines_append : (ws : List ℕ) (w : ℕ) → lines_of (ws ++ (w ∷ [])) ≡ lines_of ws ++ line_of w
unfolding lines_of
lines_append ws w = lines_joined ws (w ∷ []) ∙ ap (λ (l : List ℕ). lines_of ws ++ l) (append-nil (line_of w))

-- the line of word i behind the i lines before it
pub put_next : (ws d : List ℕ) (i : ℕ) → i < length ws → 17 * i + 17 ≤ length d
    → paste (lines_of (take i ws) ++ drop (17 * i) d) (17 * i) (line_of (get_or ws i 0)) 17 ≡ lines_of (take (i + 1) ws) ++ drop (17 * (i + 1)) d
put_next ws d i h l =
    let p : List ℕ = lines_of (take i ws) in
    let q : List ℕ = drop (17 * i) d in
    let n : length p ≡ 17 * i = length_lines (take i ws) ∙ ap (λ (x : ℕ). 17 * x) (length-take-le i ws (omega arith)) in
    let e : 17 * (i + 1) ≡ 17 * i + 17 = omega arith in
    let r : drop (17 * i + 17) (p ++ q) ≡ drop (17 * i + 17) d = sym (drop-drop 17 (17 * i) (p ++ q)) ∙ ap (drop 17) (drop_at p q (17 * i) n) ∙ drop-drop 17 (17 * i) d in
    let a : length (line_of (get_or ws i 0)) ≤ 17 = omega (arith, length_line (get_or ws i 0)) in
    rw (e, add-one, take-suc ws i 0 h, lines_append (take i ws) (get_or ws i 0), take_at p q (17 * i) n, take_all 17 (line_of (get_or ws i 0)) a, r)
