-- `panel::refusals::judge_either` meets its contract.
use mathlib.Core.Bool.{Bool}
use mathlib.Core.Path.{ap, ◌∙◌}
use Rattle.panel.specs.Refusals.{judge_where, judge_either}
use Rattle.panel.proofs.refusals.judge_either.Goals as goal

pub returns : goal.returns
unfolding judge_either judge_where
returns c = c.judge_where.ensures ∙ ap (λ (b : Bool). judge_where b c.args.w) c.neither_panel.ensures
