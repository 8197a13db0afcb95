-- `drawing::pixel::draw_pixel` meets its contract.
use mathlib.Core.Path.{refl}
use Rattle.laws.proofs.AnswerLaws.{gives-answer}
use Rattle.registers.proofs.Refusals.{refused-as}
use Rattle.drawing.specs.Drawing.{draw_pixel}
use Rattle.drawing.proofs.pixel.draw_pixel.Goals as goal

pub returns-in_err-judge_pixel : goal.returns-in_err-judge_pixel
unfolding draw_pixel
returns-in_err-judge_pixel c =
    refused-as c.from_residual.result c.in_err-judge_pixel.field-0.0 _ _ c.from_residual.ensures.1 c.in_err-judge_pixel.ensures

pub returns : goal.returns
unfolding draw_pixel
returns c = gives-answer _ _ _ _ c.in_ok-judge_pixel.ensures refl c.pixel_colour.ensures
