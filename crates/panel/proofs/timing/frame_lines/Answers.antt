-- `panel::timing::frame_lines` meets its contract.
use native.Mathlib.Omega.{arith}
use Rattle.panel.specs.Timing.{frame_lines}
use Rattle.panel.proofs.timing.frame_lines.Goals as goal

pub returns : goal.returns
unfolding frame_lines
returns c = omega arith
