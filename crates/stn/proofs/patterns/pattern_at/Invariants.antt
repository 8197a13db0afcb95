-- `stn::patterns::pattern_at` meets its contract: the levels from `level` on are packed.
use mathlib.Core.Path.{◌≡◌}
use Prim.Native.Nat.{◌-◌}
use Rattle.stn.specs.Greys.{duty, lit, packed}
use Rattle.stn.proofs.patterns.pattern_at.Given as goal

abbrev pub invariant-loop-level : goal.invariant-loop-level
invariant-loop-level l = l.pattern ≡ packed (λ j. lit (duty (15 - j)) l.phase) (16 - l.level)
