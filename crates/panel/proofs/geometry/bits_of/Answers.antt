-- `panel::geometry::bits_of` meets its contract.
use Rattle.std.proofs.Common.{◌∙◌, ap}
use Rattle.panel.specs.Geometry.{stored_bits}
use Rattle.panel.proofs.Modes.{mode-bits}
use Rattle.panel.proofs.geometry.bits_of.Goals as goal

pub returns : goal.returns
returns c =
    c.unwrap_or.ensures ∙ mode-bits c.stored_bits.result _ c.stored_bits.ensures ∙ ap stored_bits c.bppmode.ensures
