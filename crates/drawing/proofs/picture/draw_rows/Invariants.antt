-- `drawing::picture::draw_rows` meets its contract: a row a turn.
use Rattle.std.proofs.Common.{◌≡◌, ◌<◌, ◌+◌, ◌-◌, ◌*◌, get_or, ℕ, min}
use Rattle.drawing.specs.Colour.{contents}
use Rattle.drawing.specs.Drawing.{colour_in_order}
use Rattle.drawing.proofs.picture.draw_rows.Given as goal

abbrev pub invariant-loop-row : goal.invariant-loop-row
invariant-loop-row l =
    (k : ℕ) → k < min (l.row * l.wide) l.end - l.first → get_or l.out k 0 ≡ colour_in_order l.s (contents l.lent) (l.first + k)
