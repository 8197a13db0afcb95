-- `Bits::of` meets its contract: a shift and a mask are a quotient and a remainder.
use native.Mathlib.Omega.{arith}
use Rattle.laws.specs.ShiftLaws.{shift-and-mask}
use Rattle.registers.proofs.bits.Bits.of.Goals as goal

pub returns : goal.returns
returns c = shift-and-mask c.args.word c.args.self.high c.args.self.low (omega arith) (omega arith)
