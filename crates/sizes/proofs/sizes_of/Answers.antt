-- `sizes::sizes_of` meets its contract.
use Rattle.laws.specs.BooleanLaws.{chosen, not_chosen}
use Rattle.sizes.specs.Sizes.{sizes}
use Rattle.sizes.proofs.sizes_of.Goals as goal

pub returns-then-stn : goal.returns-then-stn
unfolding sizes
returns-then-stn c = chosen _ c.stn.ensures c.if-stn.true c.stn_sizes.ensures

pub returns-else-stn : goal.returns-else-stn
unfolding sizes
returns-else-stn c = not_chosen _ c.stn.ensures c.if-stn.false c.tft_sizes.ensures
