-- `panel::stn_frame::stn_frame_ticks` meets its contract.
use native.Mathlib.Omega.{arith}
use Rattle.laws.specs.ProductLaws.{product_le}
use Rattle.panel.proofs.Bounds.{stn-line-ticks-le}
use Rattle.panel.specs.Counts.{stn_frame_ticks}
use Rattle.panel.proofs.stn_frame.stn_frame_ticks.Goals as goal

pub overflow_mul-result : goal.overflow_mul-result
overflow_mul-result c =
    let args = c.args in
    let bound = stn-line-ticks-le args.w args.edition in
    omega (arith, product_le c.height.result 1024 c.stn_line_ticks.result 4192504 (omega arith) (omega arith))

pub returns : goal.returns
unfolding stn_frame_ticks
returns c = rw (c.height.ensures, c.stn_line_ticks.ensures)
