-- The lengths that 14 does not refuse (§11.3).
use mathlib.Core.Bool.{false, not, ◌||◌}
use mathlib.Core.Path.{◌≡◌}
use Prim.Native.Nat.{ℕ, ◌-◌, ◌%◌, ◌≤◌}
use native.Mathlib.Omega.{arith}
use borrow.Author.Tests.{ltb-false}
use lib.Dec.{eqb, ltb}
use Rattle.laws.specs.BooleanLaws.{or-false-left, or-false-right}
use Rattle.bench.specs.Input.{length_refused}

pub accepted-length : (n : ℕ) → length_refused n ≡ false → (556 ≤ n) × (n ≤ 33324)
unfolding length_refused
accepted-length n e =
    let short = ltb n 556 in
    let cut = not (eqb ((n - 556) % 4) 0) in
    let long = ltb 32768 (n - 556) in
    let low = ltb-false n 556 (or-false-left short cut (or-false-left (short || cut) long e)) in
    let high = ltb-false 32768 (n - 556) (or-false-right (short || cut) long e) in
    (low, omega arith)
