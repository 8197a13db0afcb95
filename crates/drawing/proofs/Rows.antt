-- Reading order (§5.6): the part of a row that a stretch of the picture takes, over plain numbers.
use mathlib.Core.Path.{◌≡◌, ap, ◌∙◌}
use Prim.Native.Nat.{ℕ, min, max, ◌+◌, ◌-◌, ◌*◌, ◌/◌, ◌%◌, ◌<◌, ◌≤◌}
use native.Mathlib.Nat.{add-mul, div-add-mod', mod-lt, mul_comm, mul-le-mul_right, lt_of_mul-lt-mul_right}
use native.Mathlib.Omega.{arith}
use lib.Arith.{digits_div, digits_mod}
use Rattle.std.specs.Int.{div_ceil}
use Rattle.std.proofs.lemmas.Grind.{div_ceil_times}

-- pixels `first` to `end` of a panel of `wide` by `high`; the row is one that holds some of them, from number a up to number b
pub record Turn (wide high first end row a b : ℕ) : Type 0 where
  pub some : 0 < wide
  pub ordered : first ≤ end
  pub fits : end ≤ wide * high
  pub reached : first / wide ≤ row
  pub left : row < div_ceil end wide
  pub begins : a ≡ max (row * wide) first
  pub ends : b ≡ min (row * wide + wide) end

module _ (wide high first end row a b : ℕ) (t : Turn wide high first end row a b) where
  not-past : first < row * wide + wide
  not-past =
      omega (
        arith,
        t.reached,
        div-add-mod' first wide,
        mod-lt first t.some,
        mul-le-mul_right {m = first / wide} {n = row} wide t.reached,
      )

  pub begun : row * wide < end
  begun =
      omega (
        arith,
        (div_ceil_times end wide t.some).1,
        add-mul row 1 wide,
        mul-le-mul_right {m = row + 1} {n = div_ceil end wide} wide (omega (arith, t.left)),
      )

  pub on-panel : row < high
  on-panel = lt_of_mul-lt-mul_right wide {m = row} {n = high} (omega (arith, begun, t.fits, mul_comm wide high))

  -- its columns
  pub in-order : a ≤ b
  in-order = omega (arith, t.begins, t.ends, t.ordered, not-past, begun)

  pub one-row : a - row * wide + (b - a) ≤ wide
  one-row = omega (arith, t.begins, t.ends, in-order)

  -- how far the stretch was drawn before, and is then
  pub drawn-before : a - first ≡ min (row * wide) end - first
  drawn-before = omega (arith, t.begins, begun)

  pub drawn-then : b - first ≡ min ((row + 1) * wide) end - first
  drawn-then = omega (arith, t.ends, add-mul row 1 wide)

  -- pixel i of the part
  module _ (i : ℕ) (l : i < b - a) where
    number : first + (a - first + i) ≡ row * wide + (a - row * wide + i)
    number = omega (arith, t.begins)

    pub its-row : (first + (a - first + i)) / wide ≡ row
    its-row = ap (λ (k : ℕ). k / wide) number ∙ digits_div row (omega (arith, one-row, l))

    pub its-column : (first + (a - first + i)) % wide ≡ a - row * wide + i
    its-column = ap (λ (k : ℕ). k % wide) number ∙ digits_mod row (omega (arith, one-row, l))

-- where no row is left, all are drawn
pub all-drawn : (wide first end row : ℕ) → 0 < wide → div_ceil end wide ≤ row → min (row * wide) end - first ≡ end - first
all-drawn wide first end row some past =
    omega (arith, (div_ceil_times end wide some).0, mul-le-mul_right {m = div_ceil end wide} {n = row} wide past)
