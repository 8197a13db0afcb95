-- `panel::refusals::no_such_mode` meets its contract.
use Rattle.laws.specs.BooleanLaws.{chosen, not_chosen}
use Rattle.panel.specs.Refusals.{no_such_mode}
use Rattle.panel.proofs.refusals.no_such_mode.Goals as goal

pub returns-then-stn : goal.returns-then-stn
unfolding no_such_mode
returns-then-stn c = chosen _ c.stn.ensures c.if-stn.true c.no_stn_mode.ensures

pub returns-else-stn : goal.returns-else-stn
unfolding no_such_mode
returns-else-stn c = not_chosen _ c.stn.ensures c.if-stn.false c.no_tft_mode.ensures
