-- `entries::reading::read_fields_of` meets its contract.
use Rattle.laws.proofs.AnswerLaws.{writes-on}
use Rattle.registers.proofs.Refusals.{outcome-passes}
use Rattle.entries.specs.Reading.{read_fields_of}
use Rattle.entries.proofs.reading.read_fields_of.Goals as goal

pub returns-in_err-f : goal.returns-in_err-f
unfolding read_fields_of
returns-in_err-f c =
    outcome-passes c.from_residual.result c.in_err-f.field-0.0 _ _ _ c.from_residual.ensures.1 c.in_err-f.ensures

pub returns : goal.returns
unfolding read_fields_of
returns c =
    writes-on _ _ _ c.in_ok-f.f _ c.in_ok-f.ensures (rw c.from.ensures at c.put_entries.ensures)
