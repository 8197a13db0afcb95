-- `lcd::drawn::screen_of` meets its contract.
use Rattle.std.proofs.Common.{refl}
use Rattle.laws.proofs.AnswerLaws.{maps}
use Rattle.registers.specs.Loading.{load}
use Rattle.registers.proofs.Refusals.{mapped-passes}
use Rattle.memory.specs.Memory.{screen}
use Rattle.lcd.proofs.drawn.screen_of.Goals as goal

pub returns-in_err-words : goal.returns-in_err-words
returns-in_err-words c =
    mapped-passes c.from_residual.result c.in_err-words.field-0.0 (load c.args.words.now) (λ w. screen w c.args.window_start)
    c.from_residual.ensures.1 c.in_err-words.ensures

pub returns : goal.returns
returns c = maps (λ w. screen w c.args.window_start) (load c.args.words.now) c.in_ok-words.words _ c.in_ok-words.ensures refl
