-- `scans::change_scan` meets its contract.
use Rattle.std.proofs.Common.{ap, ◌∙◌}
use Rattle.laws.specs.Answers.{leaves}
use Rattle.laws.proofs.AnswerLaws.{writes-on, leaves-on}
use Rattle.registers.specs.Refusals.{code}
use Rattle.registers.proofs.Refusals.{outcome-passes}
use Rattle.scans.specs.Scan.{change_on, change_scan}
use Rattle.scans.proofs.Calls.{loaded, state-put, stays, not-loaded}
use Rattle.scans.proofs.change_scan.Goals as goal

pub returns-in_default : goal.returns-in_default
unfolding change_scan
returns-in_default c = leaves-on _ _ _ 10 (not-loaded c.args.scan.now c.in_default.ensures.cases)

pub returns-in_err-next : goal.returns-in_err-next
unfolding change_scan change_on
returns-in_err-next c =
    let scan = c.args.scan.now in
    let chunk = c.in-Some.ensures.cases in
    ap (leaves (code c.from_residual.result)) (stays 13 scan c.in-Some.entries.now chunk)
    ∙ writes-on _ _ _ c.from.result _ (loaded scan c.in-Some.entries.now chunk c.from.result c.from.ensures)
    (outcome-passes c.from_residual.result c.in_err-next.field-0.0 _ scan _ c.from_residual.ensures.1 c.in_err-next.ensures)

pub returns : goal.returns
unfolding change_scan change_on
returns c =
    let scan = c.args.scan.now in
    let chunk = c.in-Some.ensures.cases in
    writes-on _ _ _ c.from.result _ (loaded scan c.in-Some.entries.now chunk c.from.result c.from.ensures)
    (writes-on _ _ _ c.in_ok-next.next _ c.in_ok-next.ensures
    (ap (leaves 0) (state-put scan c.in-Some.entries.now chunk c.in_ok-next.next c.into.result c.into.ensures)))
