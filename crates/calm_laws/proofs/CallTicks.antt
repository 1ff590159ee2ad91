-- Request (xii): a calm call is the list of its ticks, and one that is refused is the empty list; the words that it leaves, and what stays.
-- Assumes nothing.
use Prim.Native.Nat.{ℕ}
use mathlib.Core.Path.{◌≡◌, refl}
use mathlib.Core.List.{List}
use lib.ListN.{length, take, drop}
use lib.Seq.{take_at, drop_at}
use Rattle.std.specs.Prelude.{Result, Ok, Err}
use Rattle.calm_rules.specs.Call.{calm_verdict, inputs_by, words_by, calmed_by, list_by, calmed, calmed_list, call_inputs, call_words}
use Rattle.calm_rules.specs.Ticks.{calm_changes}
use Rattle.calm_rules.specs.declared.Bar.{Bar}
use Rattle.rules.specs.Run.{run}
use Rattle.rules.specs.declared.Handler.{Handler}
use Rattle.rules.specs.declared.Wires.{Wires}
use Rattle.calm_laws.proofs.CalmRuns.{calm_is_run}

module _ (h : Handler) (w : Wires) (n : ℕ) (list : List ℕ) where
  by_ticks : (v : Result (Unit {0}) Bar) → (calmed_by v h w n).handler ≡ run h (inputs_by v h w n)
  unfolding run
  by_ticks (Ok _) = calm_is_run h w n
  by_ticks (Err b) = refl

  pub call_is_run : (calmed h w n list).handler ≡ run h (call_inputs h w n list)
  unfolding calmed call_inputs
  call_is_run = by_ticks (calm_verdict h list)

  first_words : (v : Result (Unit {0}) Bar) → take (length (words_by v h w n)) (list_by v h w n list) ≡ words_by v h w n
  first_words (Ok _) = take_at (calm_changes h w n) (drop (length (calm_changes h w n)) list) (length (calm_changes h w n)) refl
  first_words (Err b) = refl

  pub call_words_law : take (length (call_words h w n list)) (calmed_list h w n list) ≡ call_words h w n list
  unfolding calmed_list call_words
  call_words_law = first_words (calm_verdict h list)

  later_words : (v : Result (Unit {0}) Bar) → drop (length (words_by v h w n)) (list_by v h w n list) ≡ drop (length (words_by v h w n)) list
  later_words (Ok _) = drop_at (calm_changes h w n) (drop (length (calm_changes h w n)) list) (length (calm_changes h w n)) refl
  later_words (Err b) = refl

  pub call_rest : drop (length (call_words h w n list)) (calmed_list h w n list) ≡ drop (length (call_words h w n list)) list
  unfolding calmed_list call_words
  call_rest = later_words (calm_verdict h list)
