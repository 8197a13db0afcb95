-- `panel::refusals::judge_timed` meets its contract.
use Rattle.std.specs.Prelude.{[], ◌∷◌}
use Rattle.laws.specs.Cases.{◌when◌}
use Rattle.laws.proofs.CaseLaws.{no-front, chain-ends}
use Rattle.registers.proofs.Refusals.{exits}
use Rattle.panel.specs.Refusals.{clock_too_fast, no_such_edition, judge_timed}
use Rattle.panel.proofs.refusals.judge_timed.Goals as goal

pub returns-in_err-refuse_if : goal.returns-in_err-refuse_if
unfolding judge_timed
returns-in_err-refuse_if c =
    exits c.from_residual.result c.in_err-refuse_if.field-0.0 c.from_residual.ensures.1 [] []
    (27 when no_such_edition c.args.edition ∷ []) 0 17 (clock_too_fast c.args.w) tt tt no-front tt
    (rw c.clock_too_fast.ensures at c.in_err-refuse_if.ensures)

pub returns : goal.returns
unfolding judge_timed
returns c =
    chain-ends [] (17 when clock_too_fast c.args.w ∷ []) 0 27 (no_such_edition c.args.edition) _ tt tt no-front
    (rw c.clock_too_fast.ensures at c.in_ok-refuse_if.ensures, tt)
    (rw c.no_such_edition.ensures at c.refuse_if-2.ensures)
