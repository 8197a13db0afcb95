-- `stn::words::draw_greys` meets its contract: a word a turn.
use mathlib.Core.Path.{◌∙◌}
use native.Mathlib.Omega.{arith}
use Rattle.laws.specs.StoringLaws.{none-stored, one_more, all-stored}
use Rattle.stn.proofs.RowBytes.{byte-of-greys}
use Rattle.stn.proofs.words.draw_greys.Goals as goal

pub loop-i-init : goal.loop-i-init
loop-i-init c = (omega arith, none-stored _ _ _)

pub loop-i-preserved : goal.loop-i-preserved
loop-i-preserved c =
    let a = c.args in
    let now = c.loop-i in (
      c.eight_on-now.ensures ∙ omega (arith, now.invariant.0),
      one_more _ _ _ _ _ now.invariant.1 _ _ (omega arith)
          (c.lit_byte.ensures
          ∙ byte-of-greys a.bswp a.words.now a.phase.number now.i _ now.now.number c.in_order.ensures
          (omega (arith, now.invariant.0))),
    )

pub returns : goal.returns
returns c = all-stored _ _ _ _ _ c.loop-i.invariant.1 _ (omega arith)
