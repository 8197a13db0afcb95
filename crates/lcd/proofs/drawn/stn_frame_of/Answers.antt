-- `lcd::drawn::stn_frame_of` meets its contract.
use Rattle.stn.specs.Drawing as Stn
use Rattle.lcd.specs.Calls.{draw_stn}
use Rattle.lcd.proofs.Screens.{goes-on, passes-on}
use Rattle.lcd.proofs.drawn.stn_frame_of.Goals as goal

pub returns-in_err-s : goal.returns-in_err-s
unfolding draw_stn
returns-in_err-s c =
    passes-on _ _ c.args.out.now (λ s. Stn.draw_stn s c.args.video.now c.args.frame c.args.out.now) c.from_residual.result c.in_err-s.field-0.0
    c.from_residual.ensures.1 c.in_err-s.ensures

pub returns : goal.returns
unfolding draw_stn
returns c =
    goes-on _ _ c.args.out.now (λ s. Stn.draw_stn s c.args.video.now c.args.frame c.args.out.now) c.in_ok-s.s _ c.in_ok-s.ensures c.draw_stn.ensures
