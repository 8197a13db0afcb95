-- `pixels::order::reverse_bytes` meets its contract: four bytes, each moved to its place.
use mathlib.Core.Path.{◌∙◌}
use native.Mathlib.Nat.{add_assoc}
use native.Mathlib.Omega.{arith}
use Rattle.laws.specs.PackingLaws.{masked-moved-up, moved-down-masked, moved-to-top, moved-from-top, over}
use Rattle.pixels.specs.Order.{reverse_bytes}
use Rattle.pixels.proofs.order.reverse_bytes.Goals as goal

pub returns : goal.returns
unfolding reverse_bytes
returns c =
    let x = c.args.x in
    let byte0 = moved-from-top x 8 24 (omega arith) in
    let byte1 = over tt byte0 (moved-down-masked x 8 8 8) in
    let byte2 = over tt byte1 (masked-moved-up x 8 8 8 tt) in
    let byte3 = over tt byte2 (moved-to-top x 8 24) in
    byte3.is ∙ simp add_assoc
