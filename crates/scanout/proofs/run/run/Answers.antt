-- `scanout::run::run` meets its contract.
use Rattle.std.specs.Prelude.{◌≡◌, ℕ, ◌+◌, ◌≤◌, List, length, ltb}
use Rattle.std.proofs.Common.{refl, sym, ap, ap₂, ◌∙◌, arith}
use Rattle.std.proofs.lemmas.Bool.{ltb-false}
use Rattle.laws.specs.Answers.{Outcome}
use Rattle.laws.proofs.AnswerLaws.{gives-answer, leaves-as-it-was, leaves-written}
use Rattle.registers.specs.Loading.{too_short}
use Rattle.registers.proofs.Refusals.{number-some, refused-as}
use Rattle.drawing.specs.Colour.{Lent, contents}
use Rattle.drawing.specs.Drawing.{pixels}
use Rattle.scanout.specs.Calls.{count_of, drawn, judge_run, run, running}
use Rattle.scanout.specs.Refusals.{judge_scan}
use Rattle.scanout.specs.State.{frame_of, after}
use Rattle.scanout.specs.declared.state.State.{State}
use Rattle.scanout.proofs.Acceptance.{Passed, passed, short-passes}
use Rattle.scanout.proofs.Views.{after-moved}
use Rattle.scanout.proofs.run.run.Goals as goal

-- the code judges as a run is judged, by the pixels that it counts
module _ (s : State) (l : Lent) (picture : List ℕ) (count : ℕ) (is : count ≡ pixels s.screen.words) where
  judged-run : (r : ℕ) → r ≡ judge_scan s (length l.memory) (length l.palette) (ltb (length picture) count) → r ≡ judge_run s l picture
  unfolding judge_run too_short
  judged-run r e = rw is at e

  passes : 0 ≡ judge_scan s (length l.memory) (length l.palette) (ltb (length picture) count)
      → Passed s (length l.memory) (length l.palette) (too_short (length picture) (pixels s.screen.words))
  unfolding judge_run
  passes e = passed s _ _ _ (sym (judged-run 0 e))

  enough : 0 ≡ judge_scan s (length l.memory) (length l.palette) (ltb (length picture) count) → pixels s.screen.words ≤ length picture
  unfolding too_short
  enough e = ltb-false _ _ (short-passes s _ _ _ (passes e))

  fits : (n m : ℕ) → 0 ≡ judge_scan s (length l.memory) (length l.palette) (ltb (length picture) count) → n ≡ count_of s m
      → s.position + n ≤ frame_of s
  unfolding count_of
  fits n m e q = omega (arith, (passes e).inside)

pub returns-in_err-judge_scan : goal.returns-in_err-judge_scan
unfolding run
returns-in_err-judge_scan c =
    let e = c.in_err-judge_scan.field-0.0 in
    let judged = judged-run c.args.s (contents c.args.lent) c.args.picture.now _ c.pixels_of.ensures.value _ c.in_err-judge_scan.ensures in
    ap₂ running (refused-as c.from_residual.result e _ _ c.from_residual.ensures.1 judged)
    (ap (λ (o : Outcome). o.left) (leaves-as-it-was _ _ _ _ judged (number-some e)))

pub returns-then-none : goal.returns-then-none
unfolding run after drawn
returns-then-none c =
    let a = c.args in
    let l = contents a.lent in
    let judged = judged-run a.s l a.picture.now _ c.pixels_of.ensures.value 0 c.in_ok-judge_scan.ensures in
    let none : 0 ≡ count_of a.s a.clocks = sym c.if-none.true ∙ c.count_of-count.ensures in
    ap₂ running (gives-answer 0 _ _ _ judged refl (ap (λ (k : ℕ). record { count = k; next = after k a.s }) none))
    (ap (λ (o : Outcome). o.left) (leaves-written _ _ _ _ (sym judged) (ap (λ (k : ℕ). drawn k a.s l a.picture.now) none)))

pub draw_clocks-requires : goal.draw_clocks-requires
draw_clocks-requires c =
    let a = c.args in (
      fits a.s (contents a.lent) a.picture.now _ c.pixels_of.ensures.value _ a.clocks c.in_ok-judge_scan.ensures c.count_of-count.ensures,
      enough a.s (contents a.lent) a.picture.now _ c.pixels_of.ensures.value c.in_ok-judge_scan.ensures,
    )

pub moved-requires : goal.moved-requires
moved-requires c =
    let a = c.args in
    fits a.s (contents a.lent) a.picture.now _ c.pixels_of.ensures.value _ a.clocks c.in_ok-judge_scan.ensures c.count_of-count.ensures

pub returns : goal.returns
unfolding run
returns c =
    let a = c.args in
    let l = contents a.lent in
    let judged = judged-run a.s l a.picture.now _ c.pixels_of.ensures.value 0 c.in_ok-judge_scan.ensures in
    let counted = c.count_of-count.ensures in
    let inside = fits a.s l a.picture.now _ c.pixels_of.ensures.value _ a.clocks c.in_ok-judge_scan.ensures counted in
    ap₂ running
    (gives-answer 0 _ _ _ judged refl
    (ap₂ (λ (k : ℕ) (t : State). record { count = k; next = t }) (c.from.ensures ∙ counted)
    (c.moved.ensures
    ∙ sym (after-moved a.s c.count_of-count.result (omega (arith, c.if-none.false)) inside)
    ∙ ap (λ (k : ℕ). after k a.s) counted)))
    (ap (λ (o : Outcome). o.left)
    (leaves-written _ _ _ _ (sym judged)
    (c.draw_clocks.ensures ∙ ap (λ (k : ℕ). drawn k a.s l a.picture.now) counted)))
