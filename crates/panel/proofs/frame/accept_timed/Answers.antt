-- `panel::frame::accept_timed` meets its contract.
use Rattle.std.proofs.Common.{ap, ◌∙◌}
use Rattle.laws.proofs.AnswerLaws.{goes_on}
use Rattle.registers.proofs.Refusals.{answer-passes, judged-with}
use Rattle.registers.specs.Refusals.{answer}
use Rattle.panel.specs.Refusals.{judge_timed, accept}
use Rattle.panel.specs.Counts.{timed_words, accept_timed}
use Rattle.panel.proofs.frame.accept_timed.Goals as goal

pub returns-in_err-w : goal.returns-in_err-w
unfolding accept_timed
returns-in_err-w c =
    answer-passes c.from_residual.result c.in_err-w.field-0.0 (accept c.args.words.now) (λ w. timed_words w c.args.edition)
    c.from_residual.ensures.1 c.in_err-w.ensures

pub returns : goal.returns
unfolding accept_timed timed_words
returns c =
    goes_on (accept c.args.words.now) (λ w. timed_words w c.args.edition) c.in_ok-w.w _ c.in_ok-w.ensures
    (ap answer c.and.ensures ∙ judged-with c.judge_timed.result (judge_timed c.in_ok-w.w c.args.edition) c.in_ok-w.w c.judge_timed.ensures)
