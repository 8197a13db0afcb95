-- `drawing::picture::judge_picture` meets its contract.
use Rattle.registers.specs.Loading.{too_short}
use Rattle.drawing.specs.Drawing.{judge_picture}
use Rattle.drawing.proofs.picture.judge_picture.Goals as goal

pub returns : goal.returns
unfolding judge_picture too_short
returns c = rw (← c.pixels_of.ensures.value) c.judge_drawing.ensures
