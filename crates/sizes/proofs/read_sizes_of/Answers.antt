-- `sizes::read_sizes_of` meets its contract.
use Rattle.std.proofs.Common.{refl}
use Rattle.laws.specs.Cases.{lower, lowest}
use Rattle.laws.proofs.AnswerLaws.{gives-refusal, gives-answer, writes-on}
use Rattle.registers.proofs.Refusals.{number-some, outcome-passes}
use Rattle.sizes.specs.Sizes.{read_sizes_of}
use Rattle.sizes.proofs.read_sizes_of.Goals as goal

pub returns-in_err-refuse_if : goal.returns-in_err-refuse_if
unfolding read_sizes_of lowest lower
returns-in_err-refuse_if c =
    let refusal = c.in_err-refuse_if.field-0.0 in
    outcome-passes c.from_residual.result refusal _ _ _ c.from_residual.ensures.1
    (gives-refusal _ _ _ (rw c.reserved_bit.ensures at c.in_err-refuse_if.ensures) (number-some refusal))

pub returns : goal.returns
unfolding read_sizes_of lowest lower
returns c =
    writes-on _ _ _ c.sizes_of.result _
    (gives-answer 0 _ _ _ (rw c.reserved_bit.ensures at c.in_ok-refuse_if.ensures) refl c.sizes_of.ensures)
    c.put_entries.ensures
