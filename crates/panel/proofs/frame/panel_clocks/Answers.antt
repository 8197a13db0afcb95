-- `panel::frame::panel_clocks` meets its contract.
use Rattle.laws.specs.BooleanLaws.{chosen, not_chosen}
use Rattle.panel.specs.Counts.{panel_clocks}
use Rattle.panel.proofs.frame.panel_clocks.Goals as goal

pub returns-then-stn : goal.returns-then-stn
unfolding panel_clocks
returns-then-stn c = chosen _ c.stn.ensures c.if-stn.true c.stn_frame_clocks.ensures

pub returns-else-stn : goal.returns-else-stn
unfolding panel_clocks
returns-else-stn c = not_chosen _ c.stn.ensures c.if-stn.false c.frame_clocks.ensures
