-- `panel::refusals::past_bank` meets its contract.
use Prim.Native.Nat.{◌-◌}
use native.Mathlib.Omega.{arith}
use Rattle.panel.proofs.Bounds.{row-offset-le}
use Rattle.panel.specs.Refusals.{past_bank}
use Rattle.panel.proofs.refusals.past_bank.Goals as goal

pub overflow_add-result : goal.overflow_add-result
overflow_add-result c =
    omega (arith, row-offset-le c.args.w (c.height.result - 1) 1023 (omega arith))

pub returns : goal.returns
unfolding past_bank
returns c = rw (c.row_offset.ensures, c.height.ensures, c.pagewidth.ensures)
