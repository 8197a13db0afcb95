-- `drawing::row::draw_row` meets its contract.
use mathlib.Core.Path.{◌≡◌, sym, ap, ◌∙◌}
use Prim.Native.Nat.{ℕ}
use native.Mathlib.Omega.{arith}
use lib.ListN.{length, take, length-take}
use Rattle.laws.proofs.AnswerLaws.{leaves-written}
use Rattle.registers.proofs.Refusals.{left-as-it-was}
use Rattle.panel.specs.Geometry.{width}
use Rattle.laws.specs.Storing.{stores}
use Rattle.drawing.specs.Colour.{contents, colour}
use Rattle.drawing.specs.Drawing.{draw_row}
use Rattle.drawing.proofs.Judged.{rows-of-row, row-on-panel, row-has-room}
use Rattle.drawing.proofs.Numbers.{colour-is}
use Rattle.drawing.proofs.Shown.{front-stored}
use Rattle.drawing.proofs.row.draw_row.Goals as goal

pub returns-in_err-judge_row : goal.returns-in_err-judge_row
unfolding draw_row
returns-in_err-judge_row c = left-as-it-was c.from_residual.result c.in_err-judge_row.field-0.0 _ _ _ c.from_residual.ensures.1 c.in_err-judge_row.ensures

pub slice_bounds-draw_from-end : goal.slice_bounds-draw_from-end
slice_bounds-draw_from-end c = rw c.width-wide.ensures (row-has-room _ _ _ _ _ (sym c.in_ok-judge_row.ensures))

pub slice_bounds-draw_from-end-2 : goal.slice_bounds-draw_from-end-2
slice_bounds-draw_from-end-2 c = omega (arith, length-take c.width-wide.result c.args.out.now, row-has-room _ _ _ _ _ (sym c.in_ok-judge_row.ensures))

pub draw_from-requires : goal.draw_from-requires
draw_from-requires c =
    let a = c.args in
    let accepted = sym c.in_ok-judge_row.ensures in
    let rows = rows-of-row _ _ _ _ _ accepted in
    let long : length (take c.width-wide.result a.out.now) ≡ width a.s.words =
    omega (arith, length-take c.width-wide.result a.out.now, row-has-room _ _ _ _ _ accepted) in
    rw (c.format_of-f.ensures, c.first_word.ensures.value, long) (
      rows.legal,
      record { whole = rows.whole; inside = rows.inside _ (row-on-panel _ _ _ _ _ accepted) },
      omega arith,
    )

pub returns : goal.returns
unfolding draw_row
returns c =
    let a = c.args in
    let accepted = sym c.in_ok-judge_row.ensures in
    leaves-written _ _ _ _ accepted
    (front-stored (colour a.s (contents a.lent) a.row) _ c.width-wide.result a.out.now _ c.draw_from.ensures
    (λ i h. colour-is a.s (contents a.lent) a.row _ _ c.format_of-f.ensures c.first_word.ensures.value i)
    c.draw_from.auto.out (rw c.width-wide.ensures (row-has-room _ _ _ _ _ accepted))
    ∙ ap (λ (k : ℕ). stores (colour a.s (contents a.lent) a.row) 0 k a.out.now) c.width-wide.ensures)
