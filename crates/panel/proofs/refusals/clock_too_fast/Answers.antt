-- `panel::refusals::clock_too_fast` meets its contract.
use Rattle.panel.specs.Refusals.{clock_too_fast}
use Rattle.panel.proofs.refusals.clock_too_fast.Goals as goal

pub returns : goal.returns
unfolding clock_too_fast
returns c = rw (c.stn.ensures, c.clkval.ensures)
