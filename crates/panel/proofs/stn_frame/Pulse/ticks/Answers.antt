-- `panel::stn_frame::Pulse::ticks` meets its contract.
use Prim.Native.Nat.{◌+◌}
use native.Mathlib.Omega.{arith}
use Rattle.laws.specs.ShiftLaws.{one_shifted}
use Rattle.panel.proofs.stn_frame.Pulse.ticks.Goals as goal

pub returns : goal.returns
returns c = one_shifted (4 + c.args.self.n) (omega arith)
