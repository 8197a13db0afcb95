-- `drawing::words::bits_past` meets its contract.
use native.Mathlib.Omega.{arith}
use Rattle.pixels.proofs.PixelOrder.{cut-by-shifts}
use Rattle.drawing.proofs.words.bits_past.Goals as goal

pub returns : goal.returns
returns c = cut-by-shifts c.args.s c.args.past c.args.x (omega arith)
