-- `stn::words::draw_mono` meets its contract: four bytes a turn.
use Prim.Native.Nat.{◌*◌}
use Rattle.laws.specs.StoringLaws.{Stored}
use Rattle.stn.specs.Greys.{row_byte}
use Rattle.stn.proofs.words.draw_mono.Given as goal

abbrev pub invariant-loop-i : goal.invariant-loop-i
invariant-loop-i l = Stored (row_byte 1 l.bswp l.words 0 0) 0 l.initial.out l.out (l.i * 4)
