-- The digits before `k` are stored.
use Rattle.laws.specs.StoringLaws.{Stored}
use Rattle.bench.specs.Output.{colour_text}
use Rattle.bench.proofs.output.spell_colour.Given as goal

abbrev pub invariant-loop-k : goal.invariant-loop-k
invariant-loop-k l = Stored (colour_text l.colour) 0 l.initial.text l.text l.k
