-- `stn::words::draw_greys` meets its contract: a word a turn.
use mathlib.Core.Path.{◌≡◌}
use Prim.Native.Nat.{◌+◌, ◌*◌, ◌%◌}
use Rattle.laws.specs.StoringLaws.{Stored}
use Rattle.stn.specs.Greys.{row_byte}
use Rattle.stn.proofs.words.draw_greys.Given as goal

abbrev pub invariant-loop-i : goal.invariant-loop-i
invariant-loop-i l =
    (l.now.number ≡ (l.fn.phase.number + 8 * l.i) % 420)
    × Stored (row_byte 4 l.bswp l.words 0 l.fn.phase.number) 0 l.initial.out l.out l.i
