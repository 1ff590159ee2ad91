-- The boundary is a library of which all sentences hold, by the definitions that its contracts cite.
-- Assumes nothing.
use mathlib.Core.Path.{refl}
use Rattle.boot_sentences.proofs.HoldsBoots.{holds_installer}
use Rattle.boundary.specs.Input.{input_by}
use Rattle.call_sentences.proofs.HoldsArguments.{lent_by, holds_tick_inputs, holds_write_calls}
use Rattle.call_sentences.proofs.HoldsHearing.{holds_hears}
use Rattle.call_sentences.proofs.HoldsReceiving.{holds_receiving}
use Rattle.calm_rules.specs.Call.{calmed, calmed_list}
use Rattle.calm_sentences.proofs.HoldsCalms.{holds_calms}
use Rattle.dump_rules.specs.Content.{content_by}
use Rattle.dump_rules.specs.Reader.{read_dump}
use Rattle.dump_rules.specs.Writer.{write_dump}
use Rattle.dump_sentences.proofs.HoldsDumpers as dumpers
use Rattle.handler.proofs.Accounts.{account_answer}
use Rattle.handler.specs.Account.{account}
use Rattle.handler.specs.Answered.{answered}
use Rattle.bits.specs.Bits.{bit}
use Rattle.link_rules.specs.LineReceivers.{listened_all}
use Rattle.policy.specs.Plan.{boot, lifecycle_of}
use Rattle.rules.specs.Answer.{number}
use Rattle.rules.specs.State.{made}
use Rattle.rules.specs.Tick.{ticked}
use Rattle.sentences.proofs.HoldsMaking.{holds_making}
use Rattle.sentences.proofs.Whole.{holds_whole}
use Rattle.trace_rules.specs.Batch.{batch}
use Rattle.trace_rules.specs.Record.{input_of}
use Rattle.trace_rules.specs.Word.{word_of}
use Rattle.trace_sentences.proofs.HoldsBatches.{holds_batches}
use Rattle.trace_sentences.proofs.HoldsRecords.{holds_reader}
use Rattle.trace_sentences.proofs.HoldsWords.{holds_words}
use Rattle.writer.specs.Lent.{write_lent}
use Rattle.everything.specs.Everything.{Library, Everything}

-- what the contracts say that the calls give
abbrev pub boundary : Library
boundary =
    record {
      new = made;
      tick = λ h k r v w. answered (ticked h (input_by k r v w));
      hear = λ h k r v w. account h (input_by k r v w);
      batch = λ e h bytes out. record { handler = (batch e h bytes out).handler; answer = (batch e h bytes out).answer };
      batch_words = λ e h bytes out. (batch e h bytes out).out;
      write = λ l buffer. (write_lent (lent_by l) buffer).answer;
      write_bytes = λ l buffer. (write_lent (lent_by l) buffer).buffer;
      receive = λ r p m. listened_all r (bit p) (bit m);
      install = λ c h. boot (lifecycle_of c) h;
      calm = calmed;
      calm_words = calmed_list;
      dump = λ h buffer. (write_dump h buffer).answer;
      dump_bytes = λ h buffer. (write_dump h buffer).buffer;
      read_dump_law = λ bytes. content_by (read_dump bytes);
    }

pub holds_everything : Everything boundary
unfolding answered holds_whole
holds_everything =
    record {
      making = holds_making;
      tick = ticked;
      number = number;
      ticks = holds_whole;
      input = input_by;
      inputs = holds_tick_inputs;
      tick_state = λ h k r v w. refl;
      tick_answer = λ h k r v w. refl;
      tick_output = λ h k r v w. refl;
      hears = λ h k r v w. holds_hears h (input_by k r v w);
      hear_answer = λ h k r v w. account_answer h (input_by k r v w);
      word = word_of;
      words = holds_words;
      read = input_of;
      reads = holds_reader;
      batches = holds_batches;
      writes = holds_write_calls;
      receives = holds_receiving;
      installs = holds_installer;
      calms = holds_calms;
      dumps = dumpers.holds_writer;
      dump_reads = dumpers.holds_reader;
    }
