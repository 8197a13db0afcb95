-- `stn::patterns::Patterns::lit_byte` meets its contract: a pixel a turn.
use mathlib.Core.Path.{◌≡◌}
use Rattle.stn.specs.Core.{lit_in}
use Rattle.stn.specs.Greys.{packed}
use Rattle.stn.proofs.patterns.Patterns.lit_byte.Given as goal

abbrev pub invariant-loop-k : goal.invariant-loop-k
invariant-loop-k l = l.byte ≡ packed (lit_in l.word l.phase.number) l.k
