-- `drawing::words::cut_words` meets its contract.
use mathlib.Core.Path.{sym, ap, ◌∙◌}
use native.Mathlib.Omega.{arith}
use Rattle.pixels.specs.Colours.{cut24}
use Rattle.pixels.proofs.StoredPixels.{word-is-pixel}
use Rattle.drawing.proofs.Shown.{one-shown}
use Rattle.drawing.proofs.words.cut_words.Goals as goal

pub loop-i-preserved : goal.loop-i-preserved
loop-i-preserved c =
    one-shown _ _ _ c.loop-i.invariant _ (omega arith)
    (c.cut_24.ensures
    ∙ ap (cut24 c.args.bpp24bl) (sym (word-is-pixel c.args.words.now c.loop-i.i (omega (arith, c.type_inv.words c.loop-i.i)))))
