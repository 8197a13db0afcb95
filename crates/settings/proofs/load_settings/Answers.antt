-- `settings::load_settings` meets its contract: a refusal leaves the block as it was.
use Rattle.std.specs.Prelude.{◌≤◌, length, ltb}
use Rattle.std.proofs.Common.{sym, ap, ◌∙◌, arith, lit<}
use Rattle.std.proofs.lemmas.Bool.{ltb-false}
use Rattle.laws.proofs.AnswerLaws.{judged-accepted, one-refuses, passes-number, leaves-written}
use Rattle.memory.specs.Memory.{check}
use Rattle.registers.specs.Loading.{too_short, short_of_nine, load}
use Rattle.registers.proofs.Refusals.{refused-by, not-refused, left-as-it-was, number-some}
use Rattle.settings.specs.Stores.{after_cut, judge_load, load_settings}
use Rattle.settings.proofs.Storing.{as-checked}
use Rattle.settings.proofs.load_settings.Goals as goal

pub returns-in_err-refuse_if : goal.returns-in_err-refuse_if
unfolding load_settings judge_load load short_of_nine too_short
returns-in_err-refuse_if c =
    let r = c.in_err-refuse_if.field-0.0 in
    let refused = refused-by _ 10 (ltb (length c.args.stored.now) 9) c.in_err-refuse_if.ensures (number-some r) in
    left-as-it-was c.from_residual.result r _ _ _ c.from_residual.ensures.1
    (refused.1 ∙ passes-number _ _ 10 (one-refuses 10 _ _ (lit< tt) refused.0))

pub returns-in_err-wanted : goal.returns-in_err-wanted
unfolding load_settings check
returns-in_err-wanted c =
    let a = c.args in
    let room : 9 ≤ length a.stored.now = ltb-false _ 9 (not-refused 10 _ c.in_ok-refuse_if.ensures (λ e. omega arith)) in
    left-as-it-was c.from_residual-in_err-wanted.result c.in_err-wanted.field-0.0 _ _ _ c.from_residual-in_err-wanted.ensures.1
    (passes-number _ _ _ c.in_err-wanted.ensures ∙ as-checked a.stored.now a.words.now a.window_start a.video.now room)

pub returns-in_err-check : goal.returns-in_err-check
unfolding load_settings
returns-in_err-check c =
    let a = c.args in
    let room : 9 ≤ length a.stored.now = ltb-false _ 9 (not-refused 10 _ c.in_ok-refuse_if.ensures (λ e. omega arith)) in
    left-as-it-was c.from_residual-in_err-check.result c.in_err-check.field-0.0 _ _ _ c.from_residual-in_err-check.ensures.1
    (c.in_err-check.ensures ∙ as-checked a.stored.now a.words.now a.window_start a.video.now room)

pub make_stores-requires : goal.make_stores-requires
make_stores-requires c = ltb-false _ 9 (not-refused 10 _ c.in_ok-refuse_if.ensures (λ e. omega arith))

pub returns : goal.returns
unfolding load_settings load
returns c =
    let a = c.args in
    let room : 9 ≤ length a.stored.now = ltb-false _ 9 (not-refused 10 _ c.in_ok-refuse_if.ensures (λ e. omega arith)) in
    let wanted = judged-accepted _ _ _ (sym c.in_ok-wanted.ensures) in
    leaves-written _ _ _ _ (sym (c.in_ok-check.ensures ∙ as-checked a.stored.now a.words.now a.window_start a.video.now room))
    (c.make_stores.ensures ∙ ap (λ w. after_cut w a.cut a.stored.now) (sym wanted.1))
