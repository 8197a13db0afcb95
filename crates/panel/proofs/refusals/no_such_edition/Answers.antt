-- `panel::refusals::no_such_edition` meets its contract.
use mathlib.Core.Path.{refl}
use Rattle.panel.specs.Refusals.{no_such_edition}
use Rattle.panel.proofs.refusals.no_such_edition.Goals as goal

pub returns : goal.returns
unfolding no_such_edition
returns c = refl
