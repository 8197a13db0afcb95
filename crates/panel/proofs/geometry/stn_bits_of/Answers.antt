-- `panel::geometry::stn_bits_of` meets its contract.
use mathlib.Core.Path.{◌≡◌, sym, ap, ◌∙◌}
use native.Mathlib.Omega.{arith}
use borrow.Author.Tests.{ne_eqb}
use Rattle.panel.specs.Geometry.{stn_bits}
use Rattle.panel.proofs.geometry.stn_bits_of.Goals as goal

pub returns-in-0 : goal.returns-in-0
unfolding stn_bits
returns-in-0 c = ap stn_bits (sym c.in-0.is ∙ c.bppmode-mode.ensures)

pub returns-in-2 : goal.returns-in-2
unfolding stn_bits
returns-in-2 c = ap stn_bits (sym c.in-2.is ∙ c.bppmode-mode.ensures)

pub returns-in_default : goal.returns-in_default
unfolding stn_bits
returns-in_default c =
    let mode = c.bppmode-mode.result in
    let none : stn_bits mode ≡ 0 = rw (ne_eqb mode 0 (λ e. omega arith), ne_eqb mode 2 (λ e. omega arith)) in
    sym none ∙ ap stn_bits c.bppmode-mode.ensures
