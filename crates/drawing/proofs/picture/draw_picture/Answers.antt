-- `drawing::picture::draw_picture` meets its contract.
use mathlib.Core.Path.{◌≡◌, refl, sym, ap, ◌∙◌}
use Prim.Native.Nat.{ℕ, ◌+◌}
use native.Mathlib.Nat.{dvd-zero, dvd-mul_right_of_dvd}
use native.Mathlib.Omega.{arith}
use lib.ListN.{length, take, length-take}
use Rattle.laws.proofs.AnswerLaws.{leaves-written}
use Rattle.registers.proofs.Refusals.{left-as-it-was}
use Rattle.drawing.specs.Colour.{contents}
use Rattle.drawing.specs.Drawing.{pixels, pixels_stored, colour_in_order, draw_picture}
use Rattle.drawing.proofs.Judged.{rows-of-picture, picture-has-room}
use Rattle.drawing.proofs.Shown.{front-stored}
use Rattle.drawing.proofs.picture.draw_picture.Goals as goal

pub returns-in_err-judge_picture : goal.returns-in_err-judge_picture
unfolding draw_picture
returns-in_err-judge_picture c =
    left-as-it-was c.from_residual.result c.in_err-judge_picture.field-0.0 _ _ _ c.from_residual.ensures.1 c.in_err-judge_picture.ensures

pub slice_bounds-draw_rows-end : goal.slice_bounds-draw_rows-end
slice_bounds-draw_rows-end c = rw c.pixels_of-n.ensures.value (picture-has-room _ _ _ _ (sym c.in_ok-judge_picture.ensures))

pub slice_bounds-draw_rows-end-2 : goal.slice_bounds-draw_rows-end-2
slice_bounds-draw_rows-end-2 c =
    omega (
      arith,
      length-take c.pixels_of-n.result c.args.picture.now,
      c.pixels_of-n.ensures.value,
      picture-has-room _ _ _ _ (sym c.in_ok-judge_picture.ensures),
    )

pub draw_rows-requires : goal.draw_rows-requires
draw_rows-requires c =
    let accepted = sym c.in_ok-judge_picture.ensures in
    let rows = rows-of-picture _ _ _ _ accepted in
    let many : length (take c.pixels_of-n.result c.args.picture.now) ≡ pixels c.args.s.words =
    omega (arith, length-take c.pixels_of-n.result c.args.picture.now, c.pixels_of-n.ensures.value, picture-has-room _ _ _ _ accepted) in (
      rows,
      record { begins = λ some. dvd-zero _; whole = rw many (dvd-mul_right_of_dvd _ rows.whole _) },
      omega arith,
    )

pub returns : goal.returns
unfolding draw_picture
returns c =
    let a = c.args in
    let accepted = sym c.in_ok-judge_picture.ensures in
    leaves-written _ _ _ _ accepted
    (front-stored (λ k. colour_in_order a.s (contents a.lent) (0 + k)) _ c.pixels_of-n.result a.picture.now _ c.draw_rows.ensures
    (λ i h. refl) c.draw_rows.auto.out (rw c.pixels_of-n.ensures.value (picture-has-room _ _ _ _ accepted))
    ∙ ap (λ (k : ℕ). pixels_stored a.s (contents a.lent) 0 k a.picture.now) c.pixels_of-n.ensures.value)
