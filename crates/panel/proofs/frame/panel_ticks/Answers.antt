-- `panel::frame::panel_ticks` meets its contract.
use Rattle.laws.specs.BooleanLaws.{chosen, not_chosen}
use Rattle.panel.specs.Counts.{panel_ticks}
use Rattle.panel.proofs.frame.panel_ticks.Goals as goal

pub returns-then-stn : goal.returns-then-stn
unfolding panel_ticks
returns-then-stn c = chosen _ c.stn.ensures c.if-stn.true c.stn_frame_ticks.ensures

pub returns-else-stn : goal.returns-else-stn
unfolding panel_ticks
returns-else-stn c = not_chosen _ c.stn.ensures c.if-stn.false c.frame_ticks.ensures
