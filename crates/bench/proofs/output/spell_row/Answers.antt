-- `bench::output::spell_row` meets its contract: a turn of the loop stores six digits and what follows them.
use Rattle.std.proofs.Common.{ℕ, ◌+◌, ◌-◌, ◌*◌, ◌≤◌, length, get_or, sym, ap, ◌∙◌, arith}
use Rattle.laws.specs.StoringLaws.{none-stored, one_more, some_more, so-many-stored, all-stored}
use Rattle.bench.specs.Output.{colour_text}
use Rattle.bench.proofs.Lines.{digit-in-line, parting-in-line, part-spelled}
use Rattle.bench.proofs.output.spell_row.Goals as goal

pub loop-c-init : goal.loop-c-init
loop-c-init c = none-stored _ _ _

pub loop-c-preserved : goal.loop-c-preserved
loop-c-preserved c =
    let row = c.args.row.now in
    let i = c.loop-c.c in
    let now = c.loop-c.invariant in
    let room : 7 * i + (7 * i + 6 - 7 * i) ≤ length c.loop-c.text = omega (arith, now.size, c.requires) in
    let digits =
    some_more _ _ _ _ _ now _ _ _ _
    (part-spelled (colour_text (get_or row i 0)) (7 * i) (7 * i + 6 - 7 * i) 6 c.loop-c.text _ c.spell_colour.ensures (omega arith) room)
    (omega arith)
    (λ k h. sym (digit-in-line row i k (omega arith))) in
    let six = so-many-stored _ _ _ _ _ digits (7 * i + 6) (omega arith) in
    let behind = one_more _ _ _ _ _ six (7 * i + 6) _ (omega arith) (c.parting.ensures ∙ sym (parting-in-line row i)) in
    so-many-stored _ _ _ _ _ behind _ (omega arith)

pub returns : goal.returns
returns c = all-stored _ _ _ _ _ c.loop-c.invariant _ (ap (λ (k : ℕ). 7 * k) (omega arith))
