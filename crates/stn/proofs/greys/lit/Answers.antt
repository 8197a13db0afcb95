-- `stn::greys::lit` meets its contract.
use Prim.Native.Nat.{◌≤◌}
use native.Mathlib.Omega.{arith}
use Rattle.laws.specs.ProductLaws.{product_le}
use Rattle.stn.specs.Greys.{lit}
use Rattle.stn.proofs.Duties.{numerator-le, denominator-pos}
use Rattle.stn.proofs.greys.lit.Goals as goal

pub overflow_mul-result : goal.overflow_mul-result
overflow_mul-result c =
    let q = c.duty_of-q in
    let a = c.args in
    let small : q.result.n ≤ 6 = rw q.ensures (numerator-le a.level) in
    omega (arith, product_le a.phase 427 q.result.n 6 (omega arith) small)

pub nonzero_rem-result : goal.nonzero_rem-result
nonzero_rem-result c = rw c.duty_of-q.ensures (denominator-pos c.args.level)

pub returns : goal.returns
unfolding lit
returns c = rw c.duty_of-q.ensures
