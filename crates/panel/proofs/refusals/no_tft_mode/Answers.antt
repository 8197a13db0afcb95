-- `panel::refusals::no_tft_mode` meets its contract.
use Rattle.std.proofs.Common.{◌∙◌, ap}
use Rattle.panel.specs.Geometry.{outside_modes}
use Rattle.panel.proofs.Modes.{mode-outside}
use Rattle.panel.proofs.refusals.no_tft_mode.Goals as goal

pub returns : goal.returns
returns c =
    c.is_err.ensures.value ∙ mode-outside c.stored_bits.result _ c.stored_bits.ensures ∙ ap outside_modes c.bppmode.ensures
