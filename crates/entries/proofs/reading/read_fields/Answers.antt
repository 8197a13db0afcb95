-- `entries::reading::read_fields` meets its contract.
use Rattle.laws.proofs.AnswerLaws.{writes-on}
use Rattle.registers.proofs.Refusals.{outcome-passes}
use Rattle.entries.specs.Reading.{read_fields}
use Rattle.entries.proofs.reading.read_fields.Goals as goal

pub returns-in_err-w : goal.returns-in_err-w
unfolding read_fields
returns-in_err-w c =
    outcome-passes c.from_residual.result c.in_err-w.field-0.0 _ _ _ c.from_residual.ensures.1 c.in_err-w.ensures

pub returns : goal.returns
unfolding read_fields
returns c = writes-on _ _ _ c.in_ok-w.w _ c.in_ok-w.ensures c.read_fields_of.ensures
