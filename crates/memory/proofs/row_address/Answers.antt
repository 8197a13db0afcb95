-- `memory::row_address` meets its contract.
-- no 32-bit row number brings the address near 2^64
use native.Mathlib.Omega.{arith}
use Rattle.panel.proofs.Bounds.{row-offset-le}
use Rattle.memory.specs.Memory.{row_address}
use Rattle.memory.proofs.row_address.Goals as goal

pub overflow_mul-result-2 : goal.overflow_mul-result-2
overflow_mul-result-2 c = omega (arith, c.row_offset.ensures, row-offset-le c.args.w c.args.row 4294967295 (omega arith))

pub overflow_add-result : goal.overflow_add-result
overflow_add-result c = omega (arith, c.row_offset.ensures, row-offset-le c.args.w c.args.row 4294967295 (omega arith))

pub returns : goal.returns
unfolding row_address
returns c = rw (c.lcdbank.ensures, c.row_offset.ensures)
