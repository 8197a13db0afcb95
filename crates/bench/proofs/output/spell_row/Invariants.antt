-- The colours before `c` are stored, each with what follows it.
use Rattle.std.proofs.Common.{◌*◌}
use Rattle.laws.specs.StoringLaws.{Stored}
use Rattle.bench.specs.Output.{row_text}
use Rattle.bench.proofs.output.spell_row.Given as goal

abbrev pub invariant-loop-c : goal.invariant-loop-c
invariant-loop-c l = Stored (row_text l.row) 0 l.initial.text l.text (7 * l.c)
