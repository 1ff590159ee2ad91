-- What a record shows of a sample: the wires that its edition has a place for, with the timer its word, and what it keeps of the lines.
-- Assumes nothing.
use Rattle.std.specs.Prelude.{cond}
use Rattle.trace_rules.specs.Edition.{alerts, has_timer}
use Rattle.trace_rules.specs.Record.{wire_words, wires_of}
use Rattle.trace_rules.specs.Writer.{keeps}
use Rattle.trace_rules.specs.declared.Edition.{Edition}
use Rattle.rules.specs.declared.Input.{Input}

-- the same access, words in which every place past the edition's alerts is 0, where it has the timer the same word, else word 0, and what it keeps
-- of what comes back from the lines
abbrev pub shown : Edition → Input → Input
shown e x =
    record {
      access = x.access;
      sample =
          record {
            alerts =
                record {
                  pos = wire_words (alerts e) (wires_of (alerts e) x.sample.alerts.pos);
                  neg = wire_words (alerts e) (wires_of (alerts e) x.sample.alerts.neg);
                };
            word = cond (has_timer e) x.sample.word 0;
            receive = keeps e x.sample.receive;
          };
    }
