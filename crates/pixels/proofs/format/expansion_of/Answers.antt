-- `pixels::format::expansion_of` meets its contract.
use borrow.Author.Tests.{eq-eqb, ne_eqb}
use Rattle.pixels.specs.Format.{expansion_of}
use Rattle.pixels.proofs.format.expansion_of.Goals as goal

pub returns-then-frm565-eq1 : goal.returns-then-frm565-eq1
unfolding expansion_of
returns-then-frm565-eq1 c = rw (eq-eqb _ _ (rw c.frm565.ensures at c.if-frm565-eq1.true))

pub returns : goal.returns
unfolding expansion_of
returns c = rw (ne_eqb _ _ (rw c.frm565.ensures at c.if-frm565-eq1.false))
