-- `panel::refusals::neither_panel` meets its contract.
use Rattle.panel.specs.Refusals.{neither_panel}
use Rattle.panel.proofs.refusals.neither_panel.Goals as goal

pub returns : goal.returns
unfolding neither_panel
returns c = rw (c.not_tft.ensures, c.not_stn.ensures)
