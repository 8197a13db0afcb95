-- `panel::refusals::not_tft` meets its contract.
use Rattle.panel.specs.Refusals.{not_tft}
use Rattle.panel.proofs.refusals.not_tft.Goals as goal

pub returns : goal.returns
unfolding not_tft
returns c = rw c.pnrmode.ensures
