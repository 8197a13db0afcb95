-- `Bits::exceeded_by` meets its contract: the bits past their width hold a 1 where the value does not fit.
use mathlib.Core.Path.{◌∙◌, ap}
use Prim.Native.Nat.{ℕ, ◌+◌, ◌-◌, ◌^◌}
use native.Mathlib.Omega.{arith}
use lib.Dec.{leb}
use Rattle.laws.specs.ShiftLaws.{bits-beyond}
use Rattle.registers.proofs.bits.Bits.exceeded_by.Goals as goal

pub returns : goal.returns
returns c =
    let bits = c.args.self in
    bits-beyond c.args.value (bits.high - bits.low + 1) ∙ ap (λ (k : ℕ). leb (2 ^ k) c.args.value) (omega arith)
