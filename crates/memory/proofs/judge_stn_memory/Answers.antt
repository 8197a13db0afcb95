-- `memory::judge_stn_memory` meets its contract: 1 to 7, then 8.
use Rattle.std.specs.Prelude.{[], ◌∷◌}
use Rattle.std.proofs.Common.{sym}
use Rattle.laws.specs.Cases.{◌when◌}
use Rattle.laws.proofs.CaseLaws.{chain-ends}
use Rattle.registers.proofs.Refusals.{exits-in-front}
use Rattle.panel.specs.Refusals.{stn_cases, judge_stn}
use Rattle.panel.proofs.Accepted.{either-of-stn}
use Rattle.memory.specs.Memory.{outside_memory, judge_stn_memory}
use Rattle.memory.proofs.judge_stn_memory.Goals as goal

pub returns-in_err-judge_stn : goal.returns-in_err-judge_stn
unfolding judge_stn_memory judge_stn
returns-in_err-judge_stn c =
    exits-in-front c.from_residual.result c.in_err-judge_stn.field-0.0 c.from_residual.ensures.1 (stn_cases c.args.s.words)
    (8 when outside_memory c.args.s c.args.lent ∷ []) 7 tt tt c.in_err-judge_stn.ensures

pub outside_memory-requires : goal.outside_memory-requires
outside_memory-requires c = either-of-stn c.args.s.words (sym c.in_ok-judge_stn.ensures)

pub returns : goal.returns
unfolding judge_stn_memory judge_stn
returns c =
    chain-ends (stn_cases c.args.s.words) [] 7 8 (outside_memory c.args.s c.args.lent) _ tt tt c.in_ok-judge_stn.ensures tt
    (rw c.outside_memory.ensures at c.refuse_if.ensures)
