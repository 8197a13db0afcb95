-- `fields::write` meets its contract: fields that are not too wide fit.
use Rattle.std.proofs.Common.{arith, sym, ◌∙◌}
use Rattle.laws.proofs.AnswerLaws.{one-accepts}
use Rattle.laws.specs.Cases.{lowest, lower}
use Rattle.registers.proofs.Refusals.{not-refused, refused-as}
use Rattle.fields.proofs.Fitting.{fields_fit}
use Rattle.fields.specs.Writing.{write}
use Rattle.fields.proofs.write.Goals as goal

pub returns-in_err-refuse_if : goal.returns-in_err-refuse_if
unfolding write lowest lower
returns-in_err-refuse_if c =
    refused-as c.from_residual.result c.in_err-refuse_if.field-0.0 _ _ c.from_residual.ensures.1
    (rw c.too_wide.ensures at c.in_err-refuse_if.ensures)

pub packed-requires : goal.packed-requires
packed-requires c =
    fields_fit c.args.f (sym c.too_wide.ensures ∙ not-refused 12 _ c.in_ok-refuse_if.ensures (λ e. omega arith))

pub returns : goal.returns
unfolding write
returns c =
    one-accepts 12 _ _ _ (sym c.too_wide.ensures ∙ not-refused 12 _ c.in_ok-refuse_if.ensures (λ e. omega arith)) c.packed.ensures
