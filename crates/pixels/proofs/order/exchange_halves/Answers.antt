-- `pixels::order::exchange_halves` meets its contract: the upper half moved down, the lower over it.
use native.Mathlib.Omega.{arith}
use Rattle.laws.specs.PackingLaws.{moved-from-top, moved-to-top, over}
use Rattle.pixels.specs.Order.{exchange_halves}
use Rattle.pixels.proofs.order.exchange_halves.Goals as goal

pub returns : goal.returns
unfolding exchange_halves
returns c =
    let x = c.args.x in
    (over tt (moved-from-top x 16 16 (omega arith)) (moved-to-top x 16 16)).is
