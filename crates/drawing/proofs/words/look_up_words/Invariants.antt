-- `drawing::words::look_up_words` meets its contract: a word a turn.
use Rattle.std.proofs.Common.{false, ◌≡◌, ◌<◌, ◌*◌, ◌/◌, get_or, ℕ}
use Rattle.pixels.specs.Order.{stored_pixel}
use Rattle.drawing.proofs.words.look_up_words.Given as goal

abbrev pub invariant-loop-i : goal.invariant-loop-i
invariant-loop-i l = (k : ℕ) → k < l.i * (32 / l.s) → get_or l.out k 0 ≡ get_or l.table (stored_pixel l.s l.bswp false l.words 0 k) 0
