-- `entries::writing::write_fields_of` meets its contract.
use Rattle.laws.proofs.AnswerLaws.{writes-on}
use Rattle.registers.proofs.Refusals.{outcome-passes}
use Rattle.entries.specs.Writing.{write_fields_of}
use Rattle.entries.proofs.writing.write_fields_of.Goals as goal

pub returns-in_err-w : goal.returns-in_err-w
unfolding write_fields_of
returns-in_err-w c =
    outcome-passes c.from_residual.result c.in_err-w.field-0.0 _ _ _ c.from_residual.ensures.1 c.in_err-w.ensures

pub returns : goal.returns
unfolding write_fields_of
returns c =
    writes-on _ _ _ c.in_ok-w.w _ c.in_ok-w.ensures (rw c.from.ensures at c.put_entries.ensures)
