-- `drawing::picture::draw_few` meets its contract: a pixel a turn.
use Rattle.std.proofs.Common.{◌≡◌, ◌<◌, ◌+◌, get_or, ℕ}
use Rattle.drawing.specs.Colour.{contents}
use Rattle.drawing.specs.Drawing.{colour_in_order}
use Rattle.drawing.proofs.picture.draw_few.Given as goal

abbrev pub invariant-loop-i : goal.invariant-loop-i
invariant-loop-i l = (k : ℕ) → k < l.i → get_or l.out k 0 ≡ colour_in_order l.s (contents l.lent) (l.first + k)
