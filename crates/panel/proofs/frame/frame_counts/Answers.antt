-- `panel::frame::frame_counts` meets its contract.
use Rattle.laws.proofs.AnswerLaws.{maps}
use Rattle.registers.proofs.Refusals.{mapped-passes}
use Rattle.panel.specs.Counts.{accept_timed, counts, counts_of}
use Rattle.panel.proofs.frame.frame_counts.Goals as goal

pub returns-in_err-w : goal.returns-in_err-w
unfolding counts
returns-in_err-w c =
    let args = c.args in
    mapped-passes c.from_residual.result c.in_err-w.field-0.0 (accept_timed args.words.now args.edition) (λ w. counts_of w args.edition)
    c.from_residual.ensures.1 c.in_err-w.ensures

pub returns : goal.returns
unfolding counts
returns c =
    let args = c.args in
    maps (λ w. counts_of w args.edition) (accept_timed args.words.now args.edition) c.in_ok-w.w _ c.in_ok-w.ensures
    (rw (c.panel_clocks.ensures, c.panel_ticks.ensures))
