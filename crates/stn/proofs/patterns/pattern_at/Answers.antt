-- `stn::patterns::pattern_at` meets its contract: one more level a turn.
use mathlib.Core.Path.{◌≡◌, refl, ap, ◌∙◌}
use Prim.Native.Nat.{ℕ, ◌-◌}
use native.Mathlib.Omega.{arith}
use Rattle.stn.specs.Core.{pattern}
use Rattle.stn.specs.Greys.{duty, lit, bit, packed}
use Rattle.stn.proofs.Packing.{bit-lt, bit-of-bool, packs-few, one-more-packed}
use Rattle.stn.proofs.patterns.pattern_at.Goals as goal

pub loop-level-init : goal.loop-level-init
unfolding packed
loop-level-init c = refl

pub overflow_mul-pattern : goal.overflow_mul-pattern
overflow_mul-pattern c = omega (arith, packs-few _ _ 15 _ c.loop-level.invariant (omega arith))

pub overflow_add-pattern : goal.overflow_add-pattern
overflow_add-pattern c =
    omega (arith, packs-few _ _ 15 _ c.loop-level.invariant (omega arith), bit-of-bool c.lit.result, bit-lt c.lit.result)

pub loop-level-preserved : goal.loop-level-preserved
loop-level-preserved c =
    let lit-next : c.lit.result ≡ lit (duty (15 - (16 - c.loop-level.level))) c.args.phase =
    c.lit.ensures ∙ ap (λ (k : ℕ). lit (duty k) c.args.phase) (omega arith) in
    one-more-packed (λ j. lit (duty (15 - j)) c.args.phase) (16 - c.loop-level.level) _ _ c.loop-level.invariant
    (bit-of-bool c.lit.result ∙ ap bit lit-next)
    ∙ ap (packed _) (omega arith)

pub returns : goal.returns
unfolding pattern
returns c = c.loop-level.invariant ∙ ap (packed _) (omega arith)
