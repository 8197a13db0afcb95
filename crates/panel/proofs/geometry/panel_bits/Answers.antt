-- `panel::geometry::panel_bits` meets its contract.
use Rattle.laws.specs.BooleanLaws.{chosen, not_chosen}
use Rattle.panel.specs.Geometry.{panel_bits}
use Rattle.panel.proofs.geometry.panel_bits.Goals as goal

pub returns-then-stn : goal.returns-then-stn
unfolding panel_bits
returns-then-stn c = chosen _ c.stn.ensures c.if-stn.true c.stn_bits_of.ensures

pub returns-else-stn : goal.returns-else-stn
unfolding panel_bits
returns-else-stn c = not_chosen _ c.stn.ensures c.if-stn.false c.bits_of.ensures
