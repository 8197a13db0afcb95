-- `panel::refusals::no_stn_mode` meets its contract.
use Rattle.panel.specs.Geometry.{outside_stn_modes}
use Rattle.panel.proofs.refusals.no_stn_mode.Goals as goal

pub returns : goal.returns
unfolding outside_stn_modes
returns c = rw c.bppmode-mode.ensures
