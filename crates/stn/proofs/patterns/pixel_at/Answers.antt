-- `stn::patterns::pixel_at` meets its contract.
use mathlib.Core.Path.{refl, ◌∙◌}
use Rattle.pixels.proofs.PixelOrder.{cut-by-shifts, pixel-past}
use Rattle.stn.proofs.patterns.pixel_at.Goals as goal

pub returns : goal.returns
returns c =
    let a = c.args in
    cut-by-shifts a.s _ a.x c.requires.1 ∙ pixel-past a.s a.k _ a.x refl
