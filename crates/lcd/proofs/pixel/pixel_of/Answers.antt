-- `lcd::pixel::pixel_of` meets its contract.
use Rattle.drawing.specs.Colour.{contents}
use Rattle.lcd.specs.Pixel.{draw_pixel_in, draw_pixel}
use Rattle.lcd.proofs.Screens.{goes-on, passes-on}
use Rattle.lcd.proofs.pixel.pixel_of.Goals as goal

pub returns-in_err-s : goal.returns-in_err-s
unfolding draw_pixel
returns-in_err-s c =
    passes-on _ _ c.args.out.now (λ s. draw_pixel_in s (contents c.args.lent) c.args.place.row c.args.place.column c.args.out.now) c.from_residual.result c.in_err-s.field-0.0
    c.from_residual.ensures.1 c.in_err-s.ensures

pub returns : goal.returns
unfolding draw_pixel
returns c =
    goes-on _ _ c.args.out.now (λ s. draw_pixel_in s (contents c.args.lent) c.args.place.row c.args.place.column c.args.out.now) c.in_ok-s.s _ c.in_ok-s.ensures c.draw_pixel_in.ensures
