-- `bench::main` is safe: an input that is not refused has 556 bytes at least.
use Rattle.std.proofs.Common.{sym, ◌∙◌, arith}
use Rattle.bench.proofs.Lengths.{accepted-length}
use Rattle.bench.proofs.main.Goals as goal

pub print_input-requires : goal.print_input-requires
print_input-requires c =
    let bounds = accepted-length _ (sym c.length_refused.ensures ∙ c.if-length_refused.false) in
    omega (arith, bounds.0)
