-- `are_still` meets its contract: word by word.
-- Assumes nothing.
use Prim.Native.Nat.{ℕ, ◌+◌, ◌*◌, ◌<◌}
use mathlib.Core.Path.{◌≡◌, refl}
use mathlib.Core.Bool.{false}
use borrow.Author.Rules.{rules}
use lib.ListN.{get_or}
use mir.Syntax.{w64}
use mir.Val.{Fits}
use Rattle.std.proofs.Common.{lit<}
use Rattle.std.proofs.lemmas.Iterator.{YieldsList-from_range}
use Rattle.std.specs.List.{All, range_with_len}
use Rattle.masks.proofs.Held.{all_held}
use Rattle.rules.specs.State.{words}
use Rattle.samples.specs.Rest.{stirs}
use Rattle.samples.proofs.RestingWords.{Four, whole, by_word, of_four}
use Rattle.samples.proofs.rest.are_still.Goals as goal

-- the words of the receivers, by their types; apart, since the search for them looks at so many facts and no more
pausing_words : (c : goal.After-fold) → Four c.args.r.pausing
pausing_words c =
    let g = c.well_formed.1.0 in
    record { long = search (g, rules); small = λ v. let f : Fits w64 (get_or c.args.r.pausing v 0) = search (g, rules) in f.fits }

busy_words : (c : goal.After-fold) → Four c.args.r.busy
busy_words c =
    let g = c.well_formed.1.0 in
    record { long = search (g, rules); small = λ v. let f : Fits w64 (get_or c.args.r.busy v 0) = search (g, rules) in f.fits }

level_words : (c : goal.After-fold) → Four c.args.r.level
level_words c =
    let g = c.well_formed.1.0 in
    record { long = search (g, rules); small = λ v. let f : Fits w64 (get_or c.args.r.level v 0) = search (g, rules) in f.fits }

pending_words : (c : goal.After-fold) → Four c.args.r.pending
pending_words c =
    let g = c.well_formed.1.0 in
    record { long = search (g, rules); small = λ v. let f : Fits w64 (get_or c.args.r.pending v 0) = search (g, rules) in f.fits }

pub returns : goal.returns
returns c =
    let a = c.args in
    let P : ℕ → Type 0 = λ v. (b : ℕ) → b < 64 → stirs a.n a.r a.w (v * 64 + b) ≡ false in
    λ e.
    let each : All P (range_with_len 0 words) =
    all_held _ P (λ x v y q k. search rules) _ c.fold.ensures.ran (YieldsList-from_range 0 words words refl refl) e in
    record {
      none_stirs = by_word (stirs a.n a.r a.w) (of_four P (each 0 0 (lit< tt)) (each 1 0 (lit< tt)) (each 2 0 (lit< tt)) (each 3 0 (lit< tt)));
      whole = whole a.r (pausing_words c) (busy_words c) (level_words c) (pending_words c);
    }
