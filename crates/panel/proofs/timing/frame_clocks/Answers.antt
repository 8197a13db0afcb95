-- `panel::timing::frame_clocks` meets its contract.
use mathlib.Core.Path.{ap₂}
use Prim.Native.Nat.{◌*◌}
use native.Mathlib.Omega.{arith}
use Rattle.laws.specs.ProductLaws.{product_le}
use Rattle.panel.proofs.Bounds.{line-clocks-le, frame-lines-le}
use Rattle.panel.specs.Timing.{frame_clocks}
use Rattle.panel.proofs.timing.frame_clocks.Goals as goal

pub overflow_mul-result : goal.overflow_mul-result
overflow_mul-result c =
    let w = c.args.w in
    let lines = frame-lines-le w in
    let clocks = line-clocks-le w in
    omega (arith, product_le c.frame_lines.result 1600 c.line_clocks.result 2688 (omega arith) (omega arith))

pub returns : goal.returns
unfolding frame_clocks
returns c = ap₂ ◌*◌ c.frame_lines.ensures c.line_clocks.ensures
