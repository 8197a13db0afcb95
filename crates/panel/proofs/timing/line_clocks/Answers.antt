-- `panel::timing::line_clocks` meets its contract.
use native.Mathlib.Omega.{arith}
use Rattle.panel.specs.Timing.{line_clocks}
use Rattle.panel.proofs.timing.line_clocks.Goals as goal

pub returns : goal.returns
unfolding line_clocks
returns c = omega arith
