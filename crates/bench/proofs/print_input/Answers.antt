-- `bench::print_input` is safe: the first 44 bytes are eleven words.
use Rattle.std.proofs.Common.{arith}
use Rattle.std.proofs.lemmas.List.{length-take}
use Rattle.bench.proofs.print_input.Goals as goal

pub slice_bounds-numbers-end : goal.slice_bounds-numbers-end
slice_bounds-numbers-end g c = omega (arith, c.requires, length-take 44 c.args.bytes.now)

pub index-requires : goal.index-requires
index-requires g c = omega (arith, c.requires, c.in_ok-head.ensures.len, length-take 44 c.args.bytes.now)

pub index-requires-in-Ok : goal.index-requires-in-Ok
index-requires-in-Ok g c = omega (arith, c.requires, c.in_ok-head.ensures.len, length-take 44 c.args.bytes.now)
