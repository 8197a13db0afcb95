-- `drawing::pixel::judge_pixel` meets its contract: 1 to 10, and then 11.
use mathlib.Core.Bool.{◌||◌}
use mathlib.Core.List.{[], ◌∷◌}
use Rattle.laws.specs.Cases.{◌when◌}
use Rattle.laws.proofs.CaseLaws.{chain-ends}
use Rattle.registers.proofs.Refusals.{exits-in-front}
use Rattle.drawing.specs.Drawing.{row_outside, column_outside, drawing_cases, judge_drawing, judge_pixel}
use Rattle.drawing.proofs.pixel.judge_pixel.Goals as goal

pub returns-in_err-judge_drawing : goal.returns-in_err-judge_drawing
unfolding judge_pixel judge_drawing
returns-in_err-judge_drawing c =
    let a = c.args in
    exits-in-front c.from_residual.result c.in_err-judge_drawing.field-0.0 c.from_residual.ensures.1
    (drawing_cases a.s a.lent a.entries a.short)
    (11 when (row_outside a.s.words a.place.row || column_outside a.s.words a.place.column) ∷ []) 10 tt tt c.in_err-judge_drawing.ensures

pub returns : goal.returns
unfolding judge_pixel judge_drawing row_outside column_outside
returns c =
    let a = c.args in
    chain-ends (drawing_cases a.s a.lent a.entries a.short) [] 10 11 (row_outside a.s.words a.place.row || column_outside a.s.words a.place.column) _ tt tt
    c.in_ok-judge_drawing.ensures tt
    (rw (c.height.ensures, c.width.ensures) at c.refuse_if.ensures)
