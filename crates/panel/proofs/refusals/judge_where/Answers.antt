-- `panel::refusals::judge_where` meets its contract: it goes through the conditions in the order of their numbers, to the first that holds.
use Rattle.std.specs.Prelude.{[], ◌∷◌}
use Rattle.laws.specs.Cases.{◌when◌}
use Rattle.laws.proofs.CaseLaws.{no-front, chain-ends}
use Rattle.registers.specs.Fields.{reserved_bit}
use Rattle.registers.proofs.Refusals.{exits}
use Rattle.panel.specs.Refusals.{no_such_mode, swaps_illegal, row_size_wrong, end_differs, past_bank, judge_where}
use Rattle.panel.proofs.refusals.judge_where.Goals as goal

pub returns-in_err-refuse_if : goal.returns-in_err-refuse_if
unfolding judge_where
returns-in_err-refuse_if c =
    exits c.from_residual.result c.in_err-refuse_if.field-0.0 c.from_residual.ensures.1 [] [] (2 when c.args.other ∷ 3 when no_such_mode c.args.w ∷ 4 when swaps_illegal c.args.w ∷ 5 when row_size_wrong c.args.w ∷ 6 when end_differs c.args.w ∷ 7 when past_bank c.args.w ∷ []) 0 1 (reserved_bit c.args.w) tt tt no-front tt (rw c.reserved_bit.ensures at c.in_err-refuse_if.ensures)

pub returns-in_err-refuse_if-2 : goal.returns-in_err-refuse_if-2
unfolding judge_where
returns-in_err-refuse_if-2 c =
    exits c.from_residual-in_err-refuse_if-2.result c.in_err-refuse_if-2.field-0.0 c.from_residual-in_err-refuse_if-2.ensures.1 [] (1 when reserved_bit c.args.w ∷ []) (3 when no_such_mode c.args.w ∷ 4 when swaps_illegal c.args.w ∷ 5 when row_size_wrong c.args.w ∷ 6 when end_differs c.args.w ∷ 7 when past_bank c.args.w ∷ []) 0 2 (c.args.other) tt tt no-front (rw c.reserved_bit.ensures at c.in_ok-refuse_if.ensures, tt) (c.in_err-refuse_if-2.ensures)

pub returns-in_err-refuse_if-3 : goal.returns-in_err-refuse_if-3
unfolding judge_where
returns-in_err-refuse_if-3 c =
    exits c.from_residual-in_err-refuse_if-3.result c.in_err-refuse_if-3.field-0.0 c.from_residual-in_err-refuse_if-3.ensures.1 [] (1 when reserved_bit c.args.w ∷ 2 when c.args.other ∷ []) (4 when swaps_illegal c.args.w ∷ 5 when row_size_wrong c.args.w ∷ 6 when end_differs c.args.w ∷ 7 when past_bank c.args.w ∷ []) 0 3 (no_such_mode c.args.w) tt tt no-front (rw c.reserved_bit.ensures at c.in_ok-refuse_if.ensures, (c.in_ok-refuse_if-2.ensures, tt)) (rw c.no_such_mode.ensures at c.in_err-refuse_if-3.ensures)

pub returns-in_err-refuse_if-4 : goal.returns-in_err-refuse_if-4
unfolding judge_where
returns-in_err-refuse_if-4 c =
    exits c.from_residual-in_err-refuse_if-4.result c.in_err-refuse_if-4.field-0.0 c.from_residual-in_err-refuse_if-4.ensures.1 [] (1 when reserved_bit c.args.w ∷ 2 when c.args.other ∷ 3 when no_such_mode c.args.w ∷ []) (5 when row_size_wrong c.args.w ∷ 6 when end_differs c.args.w ∷ 7 when past_bank c.args.w ∷ []) 0 4 (swaps_illegal c.args.w) tt tt no-front (rw c.reserved_bit.ensures at c.in_ok-refuse_if.ensures, (c.in_ok-refuse_if-2.ensures, (rw c.no_such_mode.ensures at c.in_ok-refuse_if-3.ensures, tt))) (rw c.swaps_illegal.ensures at c.in_err-refuse_if-4.ensures)

pub returns-in_err-refuse_if-5 : goal.returns-in_err-refuse_if-5
unfolding judge_where
returns-in_err-refuse_if-5 c =
    exits c.from_residual-in_err-refuse_if-5.result c.in_err-refuse_if-5.field-0.0 c.from_residual-in_err-refuse_if-5.ensures.1 [] (1 when reserved_bit c.args.w ∷ 2 when c.args.other ∷ 3 when no_such_mode c.args.w ∷ 4 when swaps_illegal c.args.w ∷ []) (6 when end_differs c.args.w ∷ 7 when past_bank c.args.w ∷ []) 0 5 (row_size_wrong c.args.w) tt tt no-front (rw c.reserved_bit.ensures at c.in_ok-refuse_if.ensures, (c.in_ok-refuse_if-2.ensures, (rw c.no_such_mode.ensures at c.in_ok-refuse_if-3.ensures, (rw c.swaps_illegal.ensures at c.in_ok-refuse_if-4.ensures, tt)))) (rw c.row_size_wrong.ensures at c.in_err-refuse_if-5.ensures)

pub returns-in_err-refuse_if-6 : goal.returns-in_err-refuse_if-6
unfolding judge_where
returns-in_err-refuse_if-6 c =
    exits c.from_residual-in_err-refuse_if-6.result c.in_err-refuse_if-6.field-0.0 c.from_residual-in_err-refuse_if-6.ensures.1 [] (1 when reserved_bit c.args.w ∷ 2 when c.args.other ∷ 3 when no_such_mode c.args.w ∷ 4 when swaps_illegal c.args.w ∷ 5 when row_size_wrong c.args.w ∷ []) (7 when past_bank c.args.w ∷ []) 0 6 (end_differs c.args.w) tt tt no-front (rw c.reserved_bit.ensures at c.in_ok-refuse_if.ensures, (c.in_ok-refuse_if-2.ensures, (rw c.no_such_mode.ensures at c.in_ok-refuse_if-3.ensures, (rw c.swaps_illegal.ensures at c.in_ok-refuse_if-4.ensures, (rw c.row_size_wrong.ensures at c.in_ok-refuse_if-5.ensures, tt))))) (rw c.end_differs.ensures at c.in_err-refuse_if-6.ensures)

pub returns : goal.returns
unfolding judge_where
returns c =
    chain-ends [] (1 when reserved_bit c.args.w ∷ 2 when c.args.other ∷ 3 when no_such_mode c.args.w ∷ 4 when swaps_illegal c.args.w ∷ 5 when row_size_wrong c.args.w ∷ 6 when end_differs c.args.w ∷ []) 0 7 (past_bank c.args.w) _ tt tt no-front (rw c.reserved_bit.ensures at c.in_ok-refuse_if.ensures, (c.in_ok-refuse_if-2.ensures, (rw c.no_such_mode.ensures at c.in_ok-refuse_if-3.ensures, (rw c.swaps_illegal.ensures at c.in_ok-refuse_if-4.ensures, (rw c.row_size_wrong.ensures at c.in_ok-refuse_if-5.ensures, (rw c.end_differs.ensures at c.in_ok-refuse_if-6.ensures, tt)))))) (rw c.past_bank.ensures at c.refuse_if-7.ensures)
