-- `panel::refusals::accept` meets its contract.
use Rattle.std.proofs.Common.{ap, ◌∙◌}
use Rattle.laws.specs.Answers.{judged}
use Rattle.laws.proofs.AnswerLaws.{goes_on}
use Rattle.registers.specs.Loading.{load}
use Rattle.registers.proofs.Refusals.{answer-passes, judged-with}
use Rattle.registers.specs.Refusals.{answer}
use Rattle.panel.specs.Refusals.{judge_either, accept}
use Rattle.panel.proofs.refusals.accept.Goals as goal

pub returns-in_err-w : goal.returns-in_err-w
unfolding accept
returns-in_err-w c =
    answer-passes c.from_residual.result c.in_err-w.field-0.0 (load c.args.words.now) (λ w. judged (judge_either w) w)
    c.from_residual.ensures.1 c.in_err-w.ensures

pub returns : goal.returns
unfolding accept
returns c =
    goes_on (load c.args.words.now) (λ w. judged (judge_either w) w) c.in_ok-w.w _ c.in_ok-w.ensures
    (ap answer c.and.ensures ∙ judged-with c.judge_either.result (judge_either c.in_ok-w.w) c.in_ok-w.w c.judge_either.ensures)
