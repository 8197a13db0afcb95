-- `lcd::drawn::picture_of` meets its contract.
use Rattle.drawing.specs.Colour.{contents}
use Rattle.drawing.specs.Drawing as Drawing
use Rattle.lcd.specs.Calls.{draw_picture}
use Rattle.lcd.proofs.Screens.{goes-on, passes-on}
use Rattle.lcd.proofs.drawn.picture_of.Goals as goal

pub returns-in_err-s : goal.returns-in_err-s
unfolding draw_picture
returns-in_err-s c =
    passes-on _ _ c.args.picture.now (λ s. Drawing.draw_picture s (contents c.args.lent) c.args.picture.now) c.from_residual.result c.in_err-s.field-0.0
    c.from_residual.ensures.1 c.in_err-s.ensures

pub returns : goal.returns
unfolding draw_picture
returns c =
    goes-on _ _ c.args.picture.now (λ s. Drawing.draw_picture s (contents c.args.lent) c.args.picture.now) c.in_ok-s.s _ c.in_ok-s.ensures c.draw_picture.ensures
