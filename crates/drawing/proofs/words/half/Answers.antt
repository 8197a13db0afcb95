-- `drawing::words::half` meets its contract.
use lib.Bits.{and_mask}
use Rattle.drawing.proofs.words.half.Goals as goal

pub returns-then-upper : goal.returns-then-upper
returns-then-upper c = rw c.if-upper.true

pub returns-else-upper : goal.returns-else-upper
returns-else-upper c = rw c.if-upper.false (and_mask c.args.x 16)
