-- `Bits::put` meets its contract: a shift and an or are a product and a sum.
use mathlib.Core.Path.{◌≡◌}
use Prim.Native.Nat.{ℕ, suc, ◌+◌, ◌-◌}
use native.Mathlib.Omega.{arith}
use Rattle.laws.specs.ShiftLaws.{shift-and-join, joined-lt}
use Rattle.registers.proofs.bits.Bits.put.Goals as goal

pub returns : goal.returns
returns c fits =
    let a = c.args in
    let width : ℕ = suc a.self.high - a.self.low in
    let joined = shift-and-join a.value a.below width a.self.low fits.0 fits.1 (omega arith) in
    let bound : suc a.self.high ≡ width + a.self.low = omega arith in
    (joined, rw (joined, bound) (joined-lt a.value a.below width a.self.low fits.0 fits.1))
