-- `scanout::viewport::change_viewport` meets its contract.
use Rattle.std.proofs.Common.{refl}
use Rattle.laws.proofs.AnswerLaws.{gives-answer}
use Rattle.registers.proofs.Refusals.{refused-as}
use Rattle.scanout.specs.Calls.{change}
use Rattle.scanout.proofs.viewport.change_viewport.Goals as goal

pub returns-in_err-judge_change : goal.returns-in_err-judge_change
unfolding change
returns-in_err-judge_change c =
    refused-as c.from_residual.result c.in_err-judge_change.field-0.0 _ _ c.from_residual.ensures.1 c.in_err-judge_change.ensures

pub returns : goal.returns
unfolding change
returns c = gives-answer 0 _ _ _ c.in_ok-judge_change.ensures refl refl
