-- `fields::read` meets its contract.
use Rattle.std.proofs.Common.{arith, sym, ◌∙◌}
use Rattle.laws.proofs.AnswerLaws.{one-accepts}
use Rattle.laws.specs.Cases.{lowest, lower}
use Rattle.registers.proofs.Refusals.{not-refused, refused-as}
use Rattle.fields.specs.Reading.{read}
use Rattle.fields.proofs.read.Goals as goal

pub returns-in_err-refuse_if : goal.returns-in_err-refuse_if
unfolding read lowest lower
returns-in_err-refuse_if c =
    refused-as c.from_residual.result c.in_err-refuse_if.field-0.0 _ _ c.from_residual.ensures.1
    (rw c.reserved_bit.ensures at c.in_err-refuse_if.ensures)

pub returns : goal.returns
unfolding read
returns c =
    one-accepts 1 _ _ _ (sym c.reserved_bit.ensures ∙ not-refused 1 _ c.in_ok-refuse_if.ensures (λ e. omega arith)) c.into.ensures
