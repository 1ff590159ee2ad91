-- Request (ix), open pings that may not be open, as the code looks for them: in words of 64.
-- Assumes nothing.
use Rattle.std.specs.Prelude.{ℕ, ◌+◌, ◌*◌, Bool, not, ◌&&◌, ◌||◌, List, eqb, ltb}
use Rattle.bits.specs.Bits.{bit, word_of}
use Rattle.bits.specs.Index.{place_in, all_to}
use Rattle.link_rules.specs.Timer.{is_line, line_of}
use Rattle.rules.specs.declared.Links.{Links}

-- the ping of alert j is open, j is below n, and it is not alert i's, which may be open if own
abbrev pub is_stray : ℕ → List ℕ → Bool → ℕ → ℕ → Bool
is_stray n pends own i j = (place_in pends j && ltb j n) && not (own && eqb j i)

-- word v of them
abbrev pub stray_word : ℕ → List ℕ → Bool → ℕ → ℕ → ℕ
stray_word n pends own i v = word_of 64 (λ b. is_stray n pends own i (v * 64 + b))

-- no ping is open but the turn's
abbrev pub pings_owned : ℕ → Links → Bool → Bool
pings_owned n k on =
    all_to (λ j. not (place_in k.receivers.pending j) || ((on && not (is_line k.turn)) && eqb j k.turn.alert)) n
    && all_to (λ l. not (bit k.lines l) || ((on && is_line k.turn) && eqb l (line_of k.turn))) 4
