-- `drawing::words::cut_words` meets its contract.
use Rattle.std.proofs.Common.{false, ◌≡◌, ◌<◌, get_or, ℕ}
use Rattle.pixels.specs.Colours.{cut24}
use Rattle.pixels.specs.Order.{stored_pixel}
use Rattle.drawing.proofs.words.cut_words.Given as goal

abbrev pub invariant-loop-i : goal.invariant-loop-i
invariant-loop-i l = (k : ℕ) → k < l.i → get_or l.out k 0 ≡ cut24 l.bpp24bl (stored_pixel 32 false false l.words 0 k)
