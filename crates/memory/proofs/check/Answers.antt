-- `memory::check` meets its contract.
use Rattle.laws.proofs.AnswerLaws.{judges-on}
use Rattle.registers.proofs.Refusals.{number-passes}
use Rattle.memory.specs.Memory.{check}
use Rattle.memory.proofs.check.Goals as goal

pub returns-in_err-nine : goal.returns-in_err-nine
unfolding check
returns-in_err-nine c =
    number-passes c.from_residual.result c.in_err-nine.field-0.0 _ _ c.from_residual.ensures.1 c.in_err-nine.ensures

pub returns : goal.returns
unfolding check
returns c = judges-on _ _ c.in_ok-nine.nine _ c.in_ok-nine.ensures c.judge_check.ensures
