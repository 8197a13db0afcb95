-- `drawing::row::judge_row` meets its contract: 1 to 10, and then 11.
use mathlib.Core.List.{[], ◌∷◌}
use lib.ListN.{length}
use Rattle.laws.specs.Cases.{◌when◌}
use Rattle.laws.proofs.CaseLaws.{chain-ends}
use Rattle.registers.proofs.Refusals.{exits-in-front}
use Rattle.panel.specs.Geometry.{width}
use Rattle.registers.specs.Loading.{too_short}
use Rattle.drawing.specs.Drawing.{row_outside, drawing_cases, judge_drawing, judge_row}
use Rattle.drawing.proofs.row.judge_row.Goals as goal

pub returns-in_err-judge_drawing : goal.returns-in_err-judge_drawing
unfolding judge_row judge_drawing too_short
returns-in_err-judge_drawing c =
    let a = c.args in
    exits-in-front c.from_residual.result c.in_err-judge_drawing.field-0.0 c.from_residual.ensures.1
    (drawing_cases a.s (length a.lent.video.now) (length a.lent.palette.now) (too_short a.room (width a.s.words)))
    (11 when row_outside a.s.words a.row ∷ []) 10 tt tt (rw c.width.ensures at c.in_err-judge_drawing.ensures)

pub returns : goal.returns
unfolding judge_row judge_drawing row_outside too_short
returns c =
    let a = c.args in
    chain-ends (drawing_cases a.s (length a.lent.video.now) (length a.lent.palette.now) (too_short a.room (width a.s.words))) [] 10 11
    (row_outside a.s.words a.row) _ tt tt (rw c.width.ensures at c.in_ok-judge_drawing.ensures) tt
    (rw c.height.ensures at c.refuse_if.ensures)
