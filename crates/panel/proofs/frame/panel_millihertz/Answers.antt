-- `panel::frame::panel_millihertz` meets its contract: a frame has ticks to divide by.
use native.Mathlib.Omega.{arith}
use Rattle.panel.proofs.Bounds.{panel-ticks-ge}
use Rattle.panel.proofs.frame.panel_millihertz.Goals as goal

pub nonzero_div-result : goal.nonzero_div-result
nonzero_div-result c = omega (arith, panel-ticks-ge c.args.w c.args.edition)

pub returns : goal.returns
returns c = rw c.panel_ticks.ensures
