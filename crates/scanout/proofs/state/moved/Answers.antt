-- `scanout::state::moved` meets its contract.
use Rattle.std.proofs.Common.{arith}
use Rattle.scanout.proofs.Views.{some-frame}
use Rattle.scanout.proofs.state.moved.Goals as goal

pub position_after-requires : goal.position_after-requires
position_after-requires c = (omega (arith, c.frame_clocks.ensures, some-frame c.args.s), omega (arith, c.frame_clocks.ensures, c.requires))
