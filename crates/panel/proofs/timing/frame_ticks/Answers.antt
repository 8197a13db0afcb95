-- `panel::timing::frame_ticks` meets its contract.
use Prim.Native.Nat.{◌+◌, ◌*◌}
use native.Mathlib.Omega.{arith}
use Rattle.laws.specs.ProductLaws.{product_le}
use Rattle.panel.proofs.Bounds.{frame-clocks-le}
use Rattle.panel.specs.Counts.{frame_ticks}
use Rattle.panel.proofs.timing.frame_ticks.Goals as goal

pub overflow_mul-result-2 : goal.overflow_mul-result-2
overflow_mul-result-2 c =
    let bound = frame-clocks-le c.args.w in
    let factor = 2 * (c.clkval.result + 1) in
    omega (arith, product_le factor 2048 c.frame_clocks.result 4300800 (omega arith) (omega arith))

pub returns : goal.returns
unfolding frame_ticks
returns c = rw (c.clkval.ensures, c.frame_clocks.ensures)
