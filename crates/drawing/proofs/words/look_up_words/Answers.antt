-- `drawing::words::look_up_words` meets its contract: a word a turn.
use mathlib.Core.Bool.{false}
use mathlib.Core.Path.{sym, ap, ◌∙◌}
use Prim.Native.Nat.{ℕ, ◌+◌, ◌/◌}
use native.Mathlib.Nat.{add-mul, mul-le-mul_right}
use native.Mathlib.Omega.{arith}
use lib.ListN.{get_or, length}
use Rattle.pixels.specs.Order.{pixel_bits}
use Rattle.pixels.proofs.StoredPixels.{pixel-of-word}
use Rattle.drawing.proofs.Shown.{part-shown}
use Rattle.drawing.proofs.words.look_up_words.Goals as goal

pub loop-i-preserved : goal.loop-i-preserved
loop-i-preserved c j h =
    let a = c.args in
    let i = c.loop-i.i in
    let q = 32 / a.s in
    let next = add-mul i 1 q in
    part-shown _ _ _ c.loop-i.invariant _ _ c.look_up_word.auto.out
    (omega (arith, c.requires.0.room, mul-le-mul_right {m = i + 1} {n = length a.words.now} q (omega arith))) _ c.look_up_word.ensures
    (λ k l.
    ap (λ (v : ℕ). get_or a.table.now v 0)
    (ap (λ (x : ℕ). pixel_bits a.s x k) c.in_order.ensures ∙ sym (pixel-of-word a.s a.bswp false a.words.now i k (omega (arith, l)))))
    j (omega arith)
