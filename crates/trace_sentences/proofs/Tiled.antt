-- The rows of the records leave no bit out and name none twice: each part begins where the one before it ends, and the last ends with the record.
-- Assumes nothing.
use Prim.Native.Nat.{◌+◌, ◌*◌}
use mathlib.Core.Path.{◌≡◌, refl}
use Rattle.trace_rules.specs.declared.Edition.{Edition}
use Rattle.trace_rules.specs.declared.Edition.TheVariants.{Alerts64, Alerts248, Pings, Wires}
use Rattle.trace_sentences.specs.RecordBits.{Form, form}

pub record Tiles (f : Form) : Type 0 where
  pub register : 2 ≡ f.register_at_law
  pub zeros : f.register_at_law + f.register_bits ≡ f.zeros_at
  pub value : f.zeros_at + f.zero_bits ≡ f.value_at
  pub positive : f.value_at + 32 ≡ f.positive_at
  pub negative : f.positive_at + f.alerts ≡ f.negative_at
  pub word : f.negative_at + f.alerts ≡ f.word_at
  pub more_zeros : f.word_at + f.word_bits ≡ f.more_zeros_at
  pub answers : f.more_zeros_at + f.more_zero_bits ≡ f.answers_at
  pub pairs : f.answers_at + f.answer_bits ≡ f.pairs_at
  pub end : f.pairs_at + f.pair_bits ≡ 8 * f.bytes

pub tiles : (e : Edition) → Tiles (form e)
tiles Alerts64 = record { register = refl; zeros = refl; value = refl; positive = refl; negative = refl; word = refl; more_zeros = refl; answers = refl; pairs = refl; end = refl }
tiles Alerts248 = record { register = refl; zeros = refl; value = refl; positive = refl; negative = refl; word = refl; more_zeros = refl; answers = refl; pairs = refl; end = refl }
tiles Pings = record { register = refl; zeros = refl; value = refl; positive = refl; negative = refl; word = refl; more_zeros = refl; answers = refl; pairs = refl; end = refl }
tiles Wires = record { register = refl; zeros = refl; value = refl; positive = refl; negative = refl; word = refl; more_zeros = refl; answers = refl; pairs = refl; end = refl }
