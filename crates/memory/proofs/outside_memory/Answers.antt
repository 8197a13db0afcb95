-- `memory::outside_memory` meets its contract: the closed form of refusal 8.
use Prim.Native.Nat.{◌-◌}
use native.Mathlib.Omega.{arith}
use Rattle.panel.proofs.Accepted.{laid-either}
use Rattle.memory.proofs.Window.{row-address-le, outside-early, outside-late, start-before, rows-rise}
use Rattle.memory.proofs.outside_memory.Goals as goal

pub overflow_add-end : goal.overflow_add-end
overflow_add-end c =
    omega (
      arith,
      c.row_address.ensures,
      row-address-le c.args.s.words (c.height.result - 1) 1023 (omega arith),
    )

pub returns-then-window_start-first : goal.returns-then-window_start-first
returns-then-window_start-first c =
    let s = c.args.s in
    outside-early s.words (laid-either s.words c.requires) s.window_start c.args.lent
    (rw (← c.row_address-first.ensures) c.if-window_start-first.true)

pub overflow_sub-result : goal.overflow_sub-result
overflow_sub-result c =
    let s = c.args.s in
    omega (
      arith,
      c.row_address.ensures,
      rows-rise s.words 0 (c.height.result - 1) (omega arith),
      start-before s.words (laid-either s.words c.requires) s.window_start c.args.lent
          (rw (← c.row_address-first.ensures) c.if-window_start-first.false),
    )

pub returns : goal.returns
returns c =
    let s = c.args.s in
    rw (
      c.row_address.ensures,
      c.height.ensures,
      c.pagewidth.ensures,
    )
    (outside-late s.words (laid-either s.words c.requires) s.window_start c.args.lent
    (rw (← c.row_address-first.ensures) c.if-window_start-first.false))
