-- `panel::refusals::not_stn` meets its contract.
use Rattle.panel.specs.Refusals.{not_stn}
use Rattle.panel.proofs.refusals.not_stn.Goals as goal

pub returns : goal.returns
unfolding not_stn
returns c = rw c.stn.ensures
