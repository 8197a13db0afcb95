-- `scans::start_scan` meets its contract.
use Rattle.std.specs.Prelude.{List, ℕ}
use Rattle.std.proofs.Common.{ap, ◌∙◌}
use Rattle.laws.proofs.AnswerLaws.{writes-on}
use Rattle.registers.proofs.Refusals.{outcome-passes}
use Rattle.registers.specs.Loading.{put_entries}
use Rattle.scans.specs.Scan.{put_state, put_started, start_scan}
use Rattle.scans.proofs.start_scan.Goals as goal

pub returns-in_err-s : goal.returns-in_err-s
unfolding start_scan
returns-in_err-s c =
    outcome-passes c.from_residual.result c.in_err-s.field-0.0 _ _ _ c.from_residual.ensures.1 c.in_err-s.ensures

pub returns : goal.returns
unfolding start_scan put_started put_state put_entries
returns c =
    writes-on _ _ _ c.in_ok-s.s _ c.in_ok-s.ensures
    (c.put_entries.ensures ∙ ap (λ (numbers : List ℕ). put_entries numbers c.args.scan.now) c.from.ensures)
