-- `panel::refusals::swaps_illegal` meets its contract.
use Rattle.panel.specs.Refusals.{swaps_illegal}
use Rattle.panel.proofs.refusals.swaps_illegal.Goals as goal

pub returns : goal.returns
unfolding swaps_illegal
returns c = rw (c.panel_bits-bits.ensures, c.bswp-bswp.ensures, c.hwswp-hwswp.ensures)
