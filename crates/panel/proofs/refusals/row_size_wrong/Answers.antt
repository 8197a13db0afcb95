-- `panel::refusals::row_size_wrong` meets its contract.
use native.Mathlib.Omega.{arith}
use Rattle.laws.specs.ProductLaws.{product_le}
use Rattle.panel.proofs.Bounds.{panel-width-le}
use Rattle.panel.proofs.Modes.{panel-bits-le}
use Rattle.panel.specs.Refusals.{row_size_wrong}
use Rattle.panel.proofs.refusals.row_size_wrong.Goals as goal

pub overflow_mul-pixels : goal.overflow_mul-pixels
overflow_mul-pixels c =
    let w = c.args.w in
    let wide = panel-width-le w in
    let bits = panel-bits-le w in
    omega (arith, product_le c.panel_width.result 16384 c.panel_bits.result 32 (omega arith) (omega arith))

pub returns : goal.returns
unfolding row_size_wrong
returns c =
    rw (
      c.pagewidth-row.ensures,
      c.panel_width.ensures,
      c.panel_bits.ensures,
      c.lcdbaseu.ensures,
      c.pagewidth.ensures,
      c.offsize.ensures,
    )
