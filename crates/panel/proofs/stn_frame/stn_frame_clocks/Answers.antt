-- `panel::stn_frame::stn_frame_clocks` meets its contract.
use Prim.Native.Nat.{◌+◌}
use native.Mathlib.Omega.{arith}
use Rattle.laws.specs.ProductLaws.{product_le}
use Rattle.panel.specs.Counts.{stn_frame_clocks}
use Rattle.panel.proofs.stn_frame.stn_frame_clocks.Goals as goal

pub overflow_mul-result : goal.overflow_mul-result
overflow_mul-result c =
    omega (arith, product_le c.height.result 1024 (c.hozval.result + 1) 2048 (omega arith) (omega arith))

pub returns : goal.returns
unfolding stn_frame_clocks
returns c = rw (c.height.ensures, c.hozval.ensures)
