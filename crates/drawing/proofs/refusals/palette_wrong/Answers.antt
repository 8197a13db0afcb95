-- `drawing::refusals::palette_wrong` meets its contract.
use mathlib.Core.Path.{refl}
use Rattle.drawing.specs.Drawing.{palette_wrong}
use Rattle.drawing.proofs.refusals.palette_wrong.Goals as goal

pub returns : goal.returns
unfolding palette_wrong
returns c = refl
