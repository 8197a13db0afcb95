-- `sizes::counts::put_counts` meets its contract.
use Rattle.std.specs.Prelude.{◌≡◌, List, [], ◌∷◌, ◌++◌, ℕ, length, drop}
use Rattle.std.proofs.Common.{arith, ◌∙◌, sym, ap}
use Rattle.std.proofs.lemmas.Bool.{ltb-false}
use Rattle.laws.specs.StoringLaws.{stored-front}
use Rattle.laws.proofs.AnswerLaws.{leaves-written}
use Rattle.laws.specs.Cases.{lowest}
use Rattle.laws.proofs.CaseLaws.{no-front, chain-refuses}
use Rattle.registers.proofs.Refusals.{number-some, not-refused, left-as-it-was}
use Rattle.panel.specs.Refusals.{judge_timed, timed_cases}
use Rattle.registers.specs.Loading.{too_short}
use Rattle.sizes.specs.Counts.{numbers, put_counts}
use Rattle.sizes.proofs.counts.put_counts.Goals as goal

pub returns-in_err-refuse_if : goal.returns-in_err-refuse_if
unfolding put_counts too_short
returns-in_err-refuse_if c =
    let refusal = c.in_err-refuse_if.field-0.0 in
    left-as-it-was c.from_residual.result refusal _ _ _ c.from_residual.ensures.1
    (chain-refuses [] [] 0 10 _ _ (timed_cases c.args.w c.args.edition) tt tt no-front tt c.in_err-refuse_if.ensures (number-some refusal))

pub returns-in_err-judge_timed : goal.returns-in_err-judge_timed
unfolding put_counts too_short judge_timed lowest
returns-in_err-judge_timed c =
    let short = not-refused 10 _ c.in_ok-refuse_if.ensures (λ z. omega arith) in
    let exit = c.from_residual-in_err-judge_timed in
    left-as-it-was exit.result c.in_err-judge_timed.field-0.0 _ _ _ exit.ensures.1 (c.in_err-judge_timed.ensures ∙ rw short)

pub returns : goal.returns
unfolding put_counts too_short judge_timed lowest
returns c =
    let out = c.args.counts.now in
    let short = not-refused 10 _ c.in_ok-refuse_if.ensures (λ z. omega arith) in
    let values : (c.panel_clocks-clocks.result ∷ c.panel_ticks-ticks.result ∷ c.panel_millihertz-rate.result ∷ []) ≡ numbers c.args.w c.args.edition c.args.hclk =
    rw (c.panel_clocks-clocks.ensures, c.panel_ticks-ticks.ensures, c.panel_millihertz-rate.ensures) in
    leaves-written _ _ _ _ (rw short (sym c.in_ok-judge_timed.ensures))
    (ap (λ (s : List ℕ). s ++ drop 3 out) (c.copy_from_slice.ensures.after ∙ values)
    ∙ stored-front (numbers c.args.w c.args.edition c.args.hclk) out (ltb-false (length out) 3 short))
