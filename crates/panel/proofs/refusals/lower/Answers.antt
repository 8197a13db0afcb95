-- `panel::refusals::lower` meets its contract.
use Rattle.std.specs.Prelude.{ℕ}
use Rattle.std.proofs.Common.{sym, ap, ap₂, ◌∙◌}
use Rattle.laws.specs.Cases.{lower}
use Rattle.laws.proofs.CaseLaws.{lower-none}
use Rattle.registers.specs.Refusals.{number, code}
use Rattle.panel.proofs.refusals.lower.Goals as goal

pub returns-in_default : goal.returns-in_default
unfolding lower
returns-in_default c = sym (ap (λ (n : ℕ). lower n (code c.args.b)) (ap code c.in_default.is))

pub returns-in_default-b : goal.returns-in_default-b
returns-in_default-b c = sym (lower-none (number c.in-Err.first)) ∙ sym (ap₂ lower (ap code c.in-Err.is) (ap code c.in_default-b.is))

pub returns : goal.returns
returns c = c.lesser.ensures ∙ sym (ap₂ lower (ap code c.in-Err.is) (ap code c.in-Err-b.is))
