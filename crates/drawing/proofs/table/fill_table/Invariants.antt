-- `drawing::table::fill_table` meets its contract.
use Rattle.std.proofs.Common.{◌≡◌, ◌<◌, ◌≤◌, get_or, ℕ}
use Rattle.pixels.specs.Pixel.{indexed}
use Rattle.drawing.proofs.table.fill_table.Given as goal

abbrev pub invariant-loop-v : goal.invariant-loop-v
invariant-loop-v l =
    ((k : ℕ) → k < l.v → get_or l.table k 0 ≡ indexed l.f l.palette k) × ((k : ℕ) → l.v ≤ k → get_or l.table k 0 ≡ 0)
