-- `drawing::picture::draw_few` meets its contract: a pixel a turn.
use mathlib.Core.Path.{sym, ap, ◌∙◌}
use Prim.Native.Nat.{ℕ, ◌+◌, ◌/◌, ◌%◌}
use native.Mathlib.Omega.{arith}
use Rattle.drawing.proofs.Numbers.{in_order}
use Rattle.drawing.proofs.Shown.{one-shown}
use Rattle.drawing.proofs.picture.draw_few.Goals as goal

pub loop-i-preserved : goal.loop-i-preserved
loop-i-preserved c =
    let number = c.args.first + c.loop-i.i in
    let e = sym c.width-wide.ensures in
    one-shown _ _ _ c.loop-i.invariant _ (omega arith)
    (c.pixel_colour.ensures ∙ in_order c.args.s _ number _ _ (ap (λ (k : ℕ). number / k) e) (ap (λ (k : ℕ). number % k) e))
