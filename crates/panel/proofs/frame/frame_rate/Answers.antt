-- `panel::frame::frame_rate` meets its contract.
use Rattle.laws.proofs.AnswerLaws.{maps}
use Rattle.registers.proofs.Refusals.{mapped-passes}
use Rattle.panel.specs.Counts.{accept_timed, rate, panel_millihertz}
use Rattle.panel.proofs.frame.frame_rate.Goals as goal

pub returns-in_err-timed : goal.returns-in_err-timed
unfolding rate
returns-in_err-timed c =
    let args = c.args in
    mapped-passes c.from_residual.result c.in_err-timed.field-0.0 (accept_timed args.words.now args.edition) (λ w. panel_millihertz w args.edition args.hclk)
    c.from_residual.ensures.1 c.in_err-timed.ensures

pub returns : goal.returns
unfolding rate
returns c =
    let args = c.args in
    maps (λ w. panel_millihertz w args.edition args.hclk) (accept_timed args.words.now args.edition) c.in_ok-timed.timed _ c.in_ok-timed.ensures
    (c.panel_millihertz.ensures)
