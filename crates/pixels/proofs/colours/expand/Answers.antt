-- `pixels::colours::expand` meets its contract.
use Rattle.pixels.specs.Colours.{expanded}
use Rattle.pixels.proofs.colours.expand.Goals as goal

pub returns-in-Rgb565 : goal.returns-in-Rgb565
unfolding expanded
returns-in-Rgb565 c = rw c.in-Rgb565.is c.expand_565.ensures

pub returns-in-Rgb5551 : goal.returns-in-Rgb5551
unfolding expanded
returns-in-Rgb5551 c = rw c.in-Rgb5551.is c.expand_5551.ensures
