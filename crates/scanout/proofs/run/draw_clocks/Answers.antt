-- `scanout::run::draw_clocks` meets its contract.
use Rattle.std.proofs.Common.{ℕ, ◌+◌, ◌-◌, ap, ap₂, ◌∙◌, arith}
use Rattle.drawing.specs.Colour.{contents}
use Rattle.drawing.specs.Drawing.{draw_stretch}
use Rattle.memory.specs.declared.Screen.{Screen}
use Rattle.panel.proofs.Bounds.{frame-clocks-le}
use Rattle.panel.specs.Timing.{timing}
use Rattle.signals.proofs.ReadingOrder.{further}
use Rattle.scanout.proofs.Drawings.{run-drawn}
use Rattle.scanout.proofs.Stretch.{first, many}
use Rattle.scanout.proofs.run.draw_clocks.Goals as goal

pub overflow_add-s : goal.overflow_add-s
overflow_add-s c = omega (arith, c.requires.0, frame-clocks-le c.args.s.screen.words)

pub overflow_sub-end : goal.overflow_sub-end
overflow_sub-end c =
    let a = c.args in
    omega (
      arith,
      further (timing a.s.screen.words) a.s.position (a.s.position + a.count) (omega arith),
      c.pixels_before-first.ensures,
      c.pixels_before-end.ensures,
    )

pub returns : goal.returns
returns c =
    let a = c.args in
    let l = contents a.lent in
    c.draw_stretch.ensures
    ∙ ap₂ (λ (i j : ℕ). draw_stretch c.shown_screen.result l i (j - i) a.picture.now) c.pixels_before-first.ensures c.pixels_before-end.ensures
    ∙ ap (λ (x : Screen). draw_stretch x l (first a.s l) (many a.s l a.count) a.picture.now) c.shown_screen.ensures
    ∙ run-drawn a.s l a.count a.picture.now c.requires.0 c.requires.1
