-- `panel::refusals::video_off` meets its contract.
use Rattle.panel.specs.Refusals.{video_off}
use Rattle.panel.proofs.refusals.video_off.Goals as goal

pub returns : goal.returns
unfolding video_off
returns c = rw c.envid.ensures
