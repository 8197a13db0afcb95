-- `drawing::words::look_up_word` meets its contract.
use mathlib.Core.Path.{refl, ap, ◌∙◌}
use Prim.Native.Nat.{ℕ}
use native.Mathlib.Omega.{arith}
use lib.ListN.{get_or}
use Rattle.pixels.proofs.PixelOrder.{pixel-past}
use Rattle.drawing.proofs.Shown.{one-shown}
use Rattle.drawing.proofs.words.look_up_word.Goals as goal

pub loop-k-preserved : goal.loop-k-preserved
loop-k-preserved c =
    one-shown _ _ _ c.loop-k.invariant _ (omega arith)
    (ap (λ (v : ℕ). get_or c.args.table.now v 0) (c.bits_past.ensures ∙ pixel-past c.args.s c.loop-k.k _ c.args.x refl))
