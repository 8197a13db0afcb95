-- `stn::draw_stn` meets its contract: a refusal leaves the bytes as they were.
use mathlib.Core.Path.{sym}
use Rattle.laws.proofs.AnswerLaws.{leaves-written}
use Rattle.registers.proofs.Refusals.{left-as-it-was}
use Rattle.stn.specs.Drawing.{draw_stn}
use Rattle.stn.proofs.Judged.{rows-lent, bytes-lent}
use Rattle.stn.proofs.draw_stn.Goals as goal

pub returns-in_err-judge_drawing : goal.returns-in_err-judge_drawing
unfolding draw_stn
returns-in_err-judge_drawing c =
    left-as-it-was c.from_residual.result c.in_err-judge_drawing.field-0.0 _ _ _ c.from_residual.ensures.1 c.in_err-judge_drawing.ensures

pub draw_frame-requires : goal.draw_frame-requires
draw_frame-requires c =
    let accepted = sym c.in_ok-judge_drawing.ensures in
    (rows-lent _ _ _ accepted, bytes-lent _ _ _ accepted)

pub returns : goal.returns
unfolding draw_stn
returns c = leaves-written _ _ _ _ (sym c.in_ok-judge_drawing.ensures) c.draw_frame.ensures
