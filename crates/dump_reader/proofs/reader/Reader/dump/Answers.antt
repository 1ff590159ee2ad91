-- `Reader::dump` meets its contract.
-- Assumes nothing.
use mathlib.Core.Path.{refl}
use lib.Dec.{leb}
use Rattle.formats.specs.Format.{chain}
use Rattle.rules.specs.State.{most}
use Rattle.dump_rules.specs.Dump.{mark}
use Rattle.dump_rules.specs.Reader.{mark_chain, parts_format, content_of, parts_of, alerts_format, body_format, unmarked_format}
use Rattle.dump_rules.proofs.LawfulDump.{mark_lawful}
use Rattle.dump_reader.proofs.ReadLaws.{typed, then_failed, then_number, then_pass}
use Rattle.dump_reader.proofs.reader.Reader.dump.Goals as goal

pub returns-in_err-mark : goal.returns-in_err-mark
returns-in_err-mark c =
    typed content_of parts_of parts_format _ _ _ (then_failed (chain mark_chain 4 mark) (λ m. unmarked_format) _ _ _ _ c.in_err-mark.ensures c.from_residual.ensures.1)

pub returns-in_err-n : goal.returns-in_err-n
returns-in_err-n c =
    typed content_of parts_of parts_format _ _ _
    (then_pass (chain mark_chain 4 mark) unmarked_format mark_lawful _ _ _ _ _ c.in_ok-mark.ensures
    (then_failed alerts_format body_format _ _ _ _ (c.in_err-n.ensures (λ n. leb n most) (λ x. refl)).reads c.from_residual-in_err-n.ensures.1))

pub returns : goal.returns
returns c =
    typed content_of parts_of parts_format _ _ _
    (then_pass (chain mark_chain 4 mark) unmarked_format mark_lawful _ _ _ _ _ c.in_ok-mark.ensures
    (then_number 8 (λ n. leb n most) body_format _ _ _ _ _ (c.in_ok-n.ensures (λ n. leb n most) (λ x. refl)) c.body.ensures))
