-- `signals::pixel::pixels_before` meets its contract.
use Rattle.std.proofs.Common.{ℕ, ◌+◌, ◌-◌, ◌*◌, ◌/◌, ◌%◌, ◌^◌, ◌≤◌, min, sym, ap, ◌∙◌, ◌≡◌, arith}
use Rattle.laws.specs.ProductLaws.{product_le}
use Rattle.panel.proofs.Bounds.{width-le, height-le}
use Rattle.panel.specs.Geometry.{width, height}
use Rattle.panel.specs.Timing.{timing, line_clocks}
use Rattle.registers.specs.declared.Words.{Words}
use Rattle.signals.proofs.ReadingOrder.{counted-in-row, counted-in-rows, at-most-all}
use Rattle.signals.specs.Core.{lines_of, clocks_of}
use Rattle.signals.specs.Parts.{part_at, line_part}
use Rattle.signals.specs.Pixel.{pixels_before}
use Rattle.signals.specs.declared.parts.Layout.{Layout}
use Rattle.signals.specs.declared.parts.Part.TheVariants.{Active}
use Rattle.signals.proofs.pixel.pixels_before.Goals as goal

module _ (w : Words) (p size : ℕ) (lines clocks : Layout) (s : size ≡ line_clocks (timing w)) (l : lines ≡ lines_of (timing w))
    (k : clocks ≡ clocks_of (timing w)) where
  in-row : (r : ℕ) → part_at lines.sync lines.before lines.active (p / size) ≡ Active r
      → r * clocks.active + min (p % size - clocks.before) clocks.active ≡ pixels_before (timing w) p
  unfolding line_part
  in-row r e = rw (k, s) (sym (counted-in-row (timing w) p r (rw (l, s) at e)))

  in-rows : ((r : ℕ) → part_at lines.sync lines.before lines.active (p / size) ≡ Active r → ⊥)
      → min (p / size - lines.before) lines.active * clocks.active ≡ pixels_before (timing w) p
  unfolding line_part
  in-rows ne = rw (l, k, s) (sym (counted-in-rows (timing w) p (rw (l, s) at ne)))

  above-fits : (r : ℕ) → part_at lines.sync lines.before lines.active (p / size) ≡ Active r → r * clocks.active ≤ 2 ^ 21
  above-fits r e =
      omega (
        arith,
        in-row r e,
        at-most-all (timing w) p,
        product_le (height w) 1024 (width w) 2048 (height-le w) (width-le w),
      )

pub overflow_mul-result : goal.overflow_mul-result
overflow_mul-result c =
    omega (
      arith,
      above-fits c.args.w c.args.position _ _ _ c.line_clocks-size.ensures c.lines_of-lines.ensures c.clocks_of-clocks.ensures
          c.in-Active.row (sym c.part_at.ensures ∙ c.in-Active.is),
    )

pub overflow_add-result : goal.overflow_add-result
overflow_add-result c =
    omega (
      arith,
      above-fits c.args.w c.args.position _ _ _ c.line_clocks-size.ensures c.lines_of-lines.ensures c.clocks_of-clocks.ensures
          c.in-Active.row (sym c.part_at.ensures ∙ c.in-Active.is),
      c.active_before.ensures,
      ap (λ (x : Layout). x.active) c.clocks_of-clocks.ensures,
    )

pub returns-in-Active : goal.returns-in-Active
returns-in-Active c =
    rw c.active_before.ensures
    (in-row c.args.w c.args.position _ _ _ c.line_clocks-size.ensures c.lines_of-lines.ensures c.clocks_of-clocks.ensures
    c.in-Active.row (sym c.part_at.ensures ∙ c.in-Active.is))

pub returns-in_default : goal.returns-in_default
returns-in_default c =
    rw c.active_before-in_default.ensures
    (in-rows c.args.w c.args.position _ _ _ c.line_clocks-size.ensures c.lines_of-lines.ensures c.clocks_of-clocks.ensures
    (λ r e. c.in_default.not-Active r (c.part_at.ensures ∙ e)))
