-- `panel::geometry::panel_width` meets its contract.
use Rattle.laws.specs.BooleanLaws.{chosen, not_chosen}
use Rattle.panel.specs.Geometry.{panel_width}
use Rattle.panel.proofs.geometry.panel_width.Goals as goal

pub returns-then-stn : goal.returns-then-stn
unfolding panel_width
returns-then-stn c = chosen _ c.stn.ensures c.if-stn.true c.stn_width.ensures

pub returns-else-stn : goal.returns-else-stn
unfolding panel_width
returns-else-stn c = not_chosen _ c.stn.ensures c.if-stn.false c.width.ensures
