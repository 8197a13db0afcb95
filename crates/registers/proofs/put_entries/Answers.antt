-- `registers::put_entries` meets its contract: the numbers stand in front of what `out` held.
use Rattle.std.proofs.Common.{List, ℕ, ◌++◌, drop, length, sym, arith, ap, ◌∙◌}
use Rattle.std.proofs.lemmas.Bool.{ltb-false}
use Rattle.laws.specs.Answers.{leaves}
use Rattle.laws.specs.Cases.{lower, lowest}
use Rattle.laws.specs.StoringLaws.{stored-front}
use Rattle.registers.specs.Loading.{put_entries, too_short}
use Rattle.registers.proofs.Lending.{room-for-all}
use Rattle.registers.proofs.Refusals.{not-refused, left-as-it-was}
use Rattle.registers.proofs.put_entries.Goals as goal

pub returns-in_err-refuse_if : goal.returns-in_err-refuse_if
unfolding put_entries too_short lowest lower
returns-in_err-refuse_if c =
    left-as-it-was c.from_residual.result c.in_err-refuse_if.field-0.0 _ _ _ c.from_residual.ensures.1 c.in_err-refuse_if.ensures

pub returns : goal.returns
returns c =
    let numbers = c.args.numbers.now in
    let out = c.args.out.now in
    let room = ltb-false (length out) (length numbers) (not-refused 10 _ c.in_ok-refuse_if.ensures (λ e. omega arith)) in
    ap (λ (s : List ℕ). leaves 0 (s ++ drop (length numbers) out)) c.copy_from_slice.ensures.after
    ∙ ap (leaves 0) (stored-front numbers out room)
    ∙ sym (room-for-all numbers out room)
