-- `stn::patterns::Patterns::lit_byte` meets its contract: a pixel a turn.
use mathlib.Core.Path.{refl, ap, ◌∙◌}
use Prim.Native.Nat.{◌^◌, ◌<◌}
use native.Mathlib.Omega.{arith}
use Rattle.pixels.proofs.PixelOrder.{pixel-bits-lt}
use Rattle.stn.specs.Greys.{packed}
use Rattle.stn.proofs.Packing.{packs-few, one-more-packed}
use Rattle.stn.proofs.RowBytes.{bit-looked-up}
use Rattle.stn.proofs.patterns.Patterns.lit_byte.Goals as goal

pub loop-k-init : goal.loop-k-init
unfolding packed
loop-k-init c = refl

pub overflow_mul-byte : goal.overflow_mul-byte
overflow_mul-byte c = omega (arith, packs-few _ _ 8 _ c.loop-k.invariant (omega arith))

pub overflow_shr-byte : goal.overflow_shr-byte
overflow_shr-byte c =
    let level-lt : c.pixel_at.result < 2 ^ 4 = rw c.pixel_at.ensures (pixel-bits-lt 4 _ _) in
    omega (arith, level-lt)

pub overflow_add-byte-in-loop-k : goal.overflow_add-byte-in-loop-k
overflow_add-byte-in-loop-k c = omega (arith, packs-few _ _ 8 _ c.loop-k.invariant (omega arith))

pub loop-k-preserved : goal.loop-k-preserved
loop-k-preserved c =
    let a = c.args in
    one-more-packed _ c.loop-k.k _ _ c.loop-k.invariant
    (bit-looked-up a.self.now.table a.self.now.each a.word a.phase.number c.loop-k.k _ a.phase.below c.loop-k-test.true
    c.pixel_at.ensures)

pub overflow_cast-result : goal.overflow_cast-result
overflow_cast-result c = omega (arith, packs-few _ _ 8 _ c.loop-k.invariant (omega arith))

pub returns : goal.returns
returns c = c.loop-k.invariant ∙ ap (packed _) (omega arith)
