-- `panel::refusals::end_differs` meets its contract.
use Rattle.panel.specs.Refusals.{end_differs}
use Rattle.panel.proofs.refusals.end_differs.Goals as goal

pub returns : goal.returns
unfolding end_differs
returns c = rw (c.lcdbasel.ensures, c.row_offset-end.ensures, c.height.ensures)
