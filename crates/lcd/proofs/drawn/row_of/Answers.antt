-- `lcd::drawn::row_of` meets its contract.
use Rattle.drawing.specs.Colour.{contents}
use Rattle.drawing.specs.Drawing as Drawing
use Rattle.lcd.specs.Calls.{draw_row}
use Rattle.lcd.proofs.Screens.{goes-on, passes-on}
use Rattle.lcd.proofs.drawn.row_of.Goals as goal

pub returns-in_err-s : goal.returns-in_err-s
unfolding draw_row
returns-in_err-s c =
    passes-on _ _ c.args.out.now (λ s. Drawing.draw_row s (contents c.args.lent) c.args.row c.args.out.now) c.from_residual.result c.in_err-s.field-0.0
    c.from_residual.ensures.1 c.in_err-s.ensures

pub returns : goal.returns
unfolding draw_row
returns c =
    goes-on _ _ c.args.out.now (λ s. Drawing.draw_row s (contents c.args.lent) c.args.row c.args.out.now) c.in_ok-s.s _ c.in_ok-s.ensures c.draw_row.ensures
