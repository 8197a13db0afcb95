-- `panel::stn_frame::stn_line_ticks` meets its contract: at the largest fields nothing overflows.
use Prim.Native.Nat.{ℕ, ◌+◌, ◌*◌, ◌<◌, ◌≤◌}
use native.Mathlib.Omega.{arith}
use Rattle.laws.specs.ProductLaws.{product_le}
use Rattle.panel.specs.Counts.{stn_line_ticks}
use Rattle.panel.proofs.stn_frame.stn_line_ticks.Goals as goal

-- the clocks that the data take, at the largest fields
data-le : (clkval hozval : ℕ) → clkval < 1024 → hozval < 2048 → 2 * clkval * (hozval + 1) ≤ 2046 * 2048
data-le clkval hozval h k = product_le (2 * clkval) 2046 (hozval + 1) 2048 (omega arith) (omega arith)

pub overflow_mul-data-2 : goal.overflow_mul-data-2
overflow_mul-data-2 c = omega (arith, data-le c.clkval.result c.hozval.result (omega arith) (omega arith))

pub overflow_add-result : goal.overflow_add-result
overflow_add-result c = omega (arith, data-le c.clkval.result c.hozval.result (omega arith) (omega arith))

pub overflow_add-result-2 : goal.overflow_add-result-2
overflow_add-result-2 c = omega (arith, data-le c.clkval.result c.hozval.result (omega arith) (omega arith))

pub overflow_add-result-3 : goal.overflow_add-result-3
overflow_add-result-3 c = omega (arith, data-le c.clkval.result c.hozval.result (omega arith) (omega arith))

pub returns : goal.returns
unfolding stn_line_ticks
returns c =
    rw (
      c.clkval.ensures,
      c.hozval.ensures,
      c.ticks_by.ensures.value,
      c.wlh.ensures,
      c.ticks_by-2.ensures.value,
      c.wdly.ensures,
      c.lineblank.ensures,
    )
