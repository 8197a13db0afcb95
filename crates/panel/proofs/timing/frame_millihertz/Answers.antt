-- `panel::timing::frame_millihertz` meets its contract: a frame has ticks to divide by.
use native.Mathlib.Omega.{arith}
use Rattle.panel.proofs.Bounds.{frame-ticks-ge}
use Rattle.panel.proofs.timing.frame_millihertz.Goals as goal

pub nonzero_div-result : goal.nonzero_div-result
nonzero_div-result c = omega (arith, frame-ticks-ge c.args.w)

pub returns : goal.returns
returns c = rw c.frame_ticks.ensures
