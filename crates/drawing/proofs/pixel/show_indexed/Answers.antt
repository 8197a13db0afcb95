-- `drawing::pixel::show_indexed` meets its contract.
use mathlib.Core.Path.{sym, ap, ◌∙◌}
use native.Mathlib.Omega.{arith}
use Rattle.pixels.specs.Colours.{expanded}
use Rattle.drawing.proofs.Formats.{shown-at-32, shown-at-16, shown-below}
use Rattle.drawing.proofs.pixel.show_indexed.Goals as goal

pub returns-in-32 : goal.returns-in-32
returns-in-32 c =
    let a = c.args in
    c.cut_24.ensures ∙ sym (shown-at-32 a.f _ a.v c.in-32.is)

pub returns-in-16 : goal.returns-in-16
returns-in-16 c =
    let a = c.args in
    c.expand.ensures ∙ sym (shown-at-16 a.f _ a.v c.in-16.is)

pub returns-in_default : goal.returns-in_default
returns-in_default c =
    let a = c.args in
    c.expand-in_default.ensures
    ∙ ap (expanded a.f.expansion) c.entry_at.ensures
    ∙ sym (shown-below a.f _ a.v (λ e. omega arith) (λ e. omega arith))
