-- `panel::geometry::row_offset` meets its contract.
use native.Mathlib.Omega.{arith}
use Rattle.laws.specs.ProductLaws.{product_le}
use Rattle.panel.specs.Geometry.{row_offset}
use Rattle.panel.proofs.geometry.row_offset.Goals as goal

pub overflow_mul-result : goal.overflow_mul-result
overflow_mul-result c = omega (arith, product_le c.args.row 4294967295 c.pitch.result 4094 (omega arith) (omega arith))

pub overflow_add-result : goal.overflow_add-result
overflow_add-result c = omega (arith, product_le c.args.row 4294967295 c.pitch.result 4094 (omega arith) (omega arith))

pub returns : goal.returns
unfolding row_offset
returns c = rw (c.lcdbaseu.ensures, c.pitch.ensures)
