-- `drawing::words::look_up_word` meets its contract.
use Rattle.std.proofs.Common.{◌≡◌, ◌<◌, get_or, ℕ}
use Rattle.pixels.specs.Order.{pixel_bits}
use Rattle.drawing.proofs.words.look_up_word.Given as goal

abbrev pub invariant-loop-k : goal.invariant-loop-k
invariant-loop-k l = (j : ℕ) → j < l.k → get_or l.out j 0 ≡ get_or l.table (pixel_bits l.s l.x j) 0
