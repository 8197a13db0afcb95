-- `panel::geometry::stored_bits` meets its contract: each mode is a row of the table, and the two ranges lie outside it.
use native.Mathlib.Omega.{arith}
use lib.Dec.{lit<}
use Rattle.laws.specs.Answers.{judged}
use Rattle.laws.proofs.AnswerLaws.{one-refuses}
use Rattle.laws.specs.Cases.{lowest}
use Rattle.panel.specs.Geometry.{depth_of, stored_bits, outside_modes}
use Rattle.panel.proofs.Modes.{outside_below, outside_above}
use Rattle.panel.proofs.geometry.stored_bits.Goals as goal

pub returns-in-8 : goal.returns-in-8
unfolding depth_of stored_bits outside_modes judged lowest
returns-in-8 c = rw c.in-8.is

pub returns-in-9 : goal.returns-in-9
unfolding depth_of stored_bits outside_modes judged lowest
returns-in-9 c = rw c.in-9.is

pub returns-in-10 : goal.returns-in-10
unfolding depth_of stored_bits outside_modes judged lowest
returns-in-10 c = rw c.in-10.is

pub returns-in-11 : goal.returns-in-11
unfolding depth_of stored_bits outside_modes judged lowest
returns-in-11 c = rw c.in-11.is

pub returns-in-12 : goal.returns-in-12
unfolding depth_of stored_bits outside_modes judged lowest
returns-in-12 c = rw c.in-12.is

pub returns-in-13 : goal.returns-in-13
unfolding depth_of stored_bits outside_modes judged lowest
returns-in-13 c = rw c.in-13.is

pub returns-in-0-to-7 : goal.returns-in-0-to-7
unfolding depth_of
returns-in-0-to-7 c = one-refuses 3 _ _ (lit< tt) (outside_below c.args.mode (omega arith))

pub returns-in-14-to-4294967295 : goal.returns-in-14-to-4294967295
unfolding depth_of
returns-in-14-to-4294967295 c = one-refuses 3 _ _ (lit< tt) (outside_above c.args.mode (omega arith))
