-- `drawing::words::expand_words` meets its contract.
use mathlib.Core.Path.{ap, ◌∙◌}
use native.Mathlib.Omega.{arith}
use lib.ListN.{length-set}
use Rattle.pixels.specs.Colours.{expanded}
use Rattle.pixels.proofs.StoredPixels.{first-of-two, second-of-two}
use Rattle.drawing.proofs.Shown.{one-shown}
use Rattle.drawing.proofs.words.expand_words.Goals as goal

pub loop-i-preserved : goal.loop-i-preserved
loop-i-preserved c j h =
    let a = c.args in
    let i = c.loop-i.i in
    let first = one-shown _ _ _ c.loop-i.invariant _ (omega arith)
    (c.expand.ensures
    ∙ ap (expanded a.expansion)
    (rw (c.half.ensures, c.exchange_halves-x.ensures) (first-of-two a.hwswp a.words.now i))) in
    one-shown _ _ _ first _ (simp length-set (omega arith))
    (c.expand-in-loop-i.ensures
    ∙ ap (expanded a.expansion)
    (rw (c.half-in-loop-i.ensures, c.exchange_halves-x.ensures) (second-of-two a.hwswp a.words.now i)))
    j (omega arith)
