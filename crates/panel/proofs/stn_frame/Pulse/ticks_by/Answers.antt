-- `panel::stn_frame::Pulse::ticks_by` meets its contract.
use mathlib.Core.Path.{refl}
use native.Mathlib.Omega.{arith}
use borrow.Author.Tests.{eq-eqb, ne_eqb}
use Rattle.laws.specs.BooleanLaws.{chosen, not_chosen}
use Rattle.panel.specs.Counts.{edition_pulse}
use Rattle.panel.proofs.Bounds.{edition-pulse-le}
use Rattle.panel.proofs.stn_frame.Pulse.ticks_by.Goals as goal

pub returns-then-later : goal.returns-then-later
unfolding edition_pulse
returns-then-later c =
    let args = c.args in
    let e = chosen _ refl (eq-eqb _ _ c.if-later.true) c.later_ticks.ensures in
    record { value = e; upper_bound = omega (arith, e, edition-pulse-le args.edition args.self.n (omega arith)) }

pub returns-else-later : goal.returns-else-later
unfolding edition_pulse
returns-else-later c =
    let args = c.args in
    let e = not_chosen _ refl (ne_eqb _ _ c.if-later.false) c.ticks.ensures in
    record { value = e; upper_bound = omega (arith, e, edition-pulse-le args.edition args.self.n (omega arith)) }
