-- `panel::refusals::judge` meets its contract.
use mathlib.Core.Bool.{Bool}
use mathlib.Core.Path.{ap, ◌∙◌}
use Rattle.panel.specs.Refusals.{judge_where, judge}
use Rattle.panel.proofs.refusals.judge.Goals as goal

pub returns : goal.returns
unfolding judge judge_where
returns c = c.judge_where.ensures ∙ ap (λ (b : Bool). judge_where b c.args.w) c.not_tft.ensures
