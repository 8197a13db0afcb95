-- `lcd::pixel::draw_pixel_in` meets its contract: with an entry for the colour it is judged as the drawing of a pixel.
use Rattle.std.specs.Prelude.{◌≡◌, ◌<◌, ◌≤◌, Bool, true, false, ◌||◌, List, [], ◌∷◌, ℕ, length, set}
use Rattle.std.proofs.Common.{arith, ◌∙◌, sym, ap}
use Rattle.std.proofs.lemmas.Bool.{lt-ltb, le-ltb}
use Rattle.std.proofs.lemmas.List.{set-get_or}
use Rattle.laws.specs.Answers.{leaves}
use Rattle.laws.specs.BooleanLaws.{or-false-right}
use Rattle.laws.specs.Cases.{◌when◌}
use Rattle.laws.proofs.AnswerLaws.{judged-accepted, judged-refused, leaves-as-it-was, leaves-written}
use Rattle.laws.proofs.CaseLaws.{both-pass}
use Rattle.registers.specs.Loading.{too_short}
use Rattle.registers.specs.Refusals.{number, code}
use Rattle.registers.proofs.Refusals.{left-as-it-was}
use Rattle.memory.specs.Memory.{memory_cases}
use Rattle.memory.specs.declared.Screen.{Screen}
use Rattle.drawing.specs.Drawing.{palette_wrong, row_outside, column_outside, colour_tail, drawing_cases, judge_pixel, draw_pixel}
use Rattle.lcd.specs.Pixel.{draw_pixel_in}
use Rattle.lcd.proofs.pixel.draw_pixel_in.Goals as goal

-- a slice that is too short is refused
short-refused : (s : Screen) (lent entries r c : ℕ) → judge_pixel s lent entries true r c ≡ 0 → ⊥
unfolding judge_pixel
short-refused s lent entries r c e =
    let passed = or-false-right (palette_wrong entries) true
    (both-pass (memory_cases s lent) (colour_tail s.words entries true) tt tt
    (both-pass (drawing_cases s lent entries true) (11 when outside ∷ []) tt tt e).0).1.1.0 in
    cc
  where
    outside : Bool
    outside = row_outside s.words r || column_outside s.words c

none : (out : List ℕ) → length out ≤ 0 → too_short (length out) 1 ≡ true
unfolding too_short
none out h = lt-ltb (length out) 1 (omega arith)

one : (out : List ℕ) → 0 < length out → too_short (length out) 1 ≡ false
unfolding too_short
one out h = le-ltb (length out) 1 (omega arith)

pub returns-in_default : goal.returns-in_default
unfolding draw_pixel_in
returns-in_default c =
    let a = c.args in
    let short = none a.out.now (omega (arith, c.in_default.ensures.item)) in
    leaves-as-it-was _ _ _ _ (c.judge_pixel.ensures ∙ rw short)
    (λ z. short-refused a.s _ _ a.place.row a.place.column (sym c.judge_pixel.ensures ∙ z))

pub returns-in_err-colour : goal.returns-in_err-colour
unfolding draw_pixel_in draw_pixel
returns-in_err-colour c =
    let a = c.args in
    let out = a.out.now in
    let item = c.in-Some.ensures.item in
    let refusal = c.in_err-colour.field-0.0 in
    let long = one out item.3.0 in
    let same : set out 0 c.in-Some.first.now ≡ out = ap (set out 0) (item.3.1 0) ∙ set-get_or out 0 0 in
    ap (leaves (code c.from_residual.result)) same
    ∙ left-as-it-was c.from_residual.result refusal _ out _ c.from_residual.ensures.1
    (rw long (sym (judged-refused _ _ (number refusal) (sym c.in_err-colour.ensures)).0))

pub returns : goal.returns
unfolding draw_pixel_in draw_pixel
returns c =
    let a = c.args in
    let out = a.out.now in
    let long = one out c.in-Some.ensures.item.3.0 in
    let passed = judged-accepted _ _ c.in_ok-colour.colour (sym c.in_ok-colour.ensures) in
    leaves-written _ _ _ _ (rw long passed.0) (ap (set out 0) (sym passed.1))
