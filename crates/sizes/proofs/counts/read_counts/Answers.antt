-- `sizes::counts::read_counts` meets its contract.
use Rattle.laws.proofs.AnswerLaws.{writes-on}
use Rattle.registers.proofs.Refusals.{outcome-passes}
use Rattle.sizes.specs.Counts.{read_counts}
use Rattle.sizes.proofs.counts.read_counts.Goals as goal

pub returns-in_err-w : goal.returns-in_err-w
unfolding read_counts
returns-in_err-w c =
    outcome-passes c.from_residual.result c.in_err-w.field-0.0 _ _ _ c.from_residual.ensures.1 c.in_err-w.ensures

pub returns : goal.returns
unfolding read_counts
returns c = writes-on _ _ _ c.in_ok-w.w _ c.in_ok-w.ensures c.put_counts.ensures
