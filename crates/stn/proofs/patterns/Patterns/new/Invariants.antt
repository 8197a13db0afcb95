-- `stn::patterns::Patterns::new` meets its contract: a pattern a turn.
use Rattle.std.proofs.Common.{◌≡◌, ℕ, ◌<◌, get_or}
use Rattle.stn.specs.Core.{pattern}
use Rattle.stn.proofs.patterns.Patterns.new.Given as goal

abbrev pub invariant-loop-phase : goal.invariant-loop-phase
invariant-loop-phase l = (k : ℕ) → k < l.phase → get_or l.pattern-items k 0 ≡ pattern k
