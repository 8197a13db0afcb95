-- `drawing::words::expand_words` meets its contract.
use Rattle.std.proofs.Common.{false, ◌≡◌, ◌<◌, ◌*◌, get_or, ℕ}
use Rattle.pixels.specs.Colours.{expanded}
use Rattle.pixels.specs.Order.{stored_pixel}
use Rattle.drawing.proofs.words.expand_words.Given as goal

abbrev pub invariant-loop-i : goal.invariant-loop-i
invariant-loop-i l = (k : ℕ) → k < l.i * 2 → get_or l.out k 0 ≡ expanded l.expansion (stored_pixel 16 false l.hwswp l.words 0 k)
