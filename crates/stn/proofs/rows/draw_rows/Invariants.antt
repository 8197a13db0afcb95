-- `stn::rows::draw_rows` meets its contract: a row a turn.
use Prim.Native.Nat.{◌*◌}
use Rattle.laws.specs.StoringLaws.{Stored}
use Rattle.stn.specs.Drawing.{row_bytes, stn_byte}
use Rattle.stn.proofs.rows.draw_rows.Given as goal

abbrev pub invariant-loop-row : goal.invariant-loop-row
invariant-loop-row l = Stored (stn_byte l.s l.video l.frame) 0 l.initial.out l.out (l.row * row_bytes l.s.words)
