-- `drawing::picture::to_next_word` meets its contract.
use mathlib.Core.Path.{ap, ◌∙◌}
use Prim.Native.Nat.{ℕ, ◌-◌, ◌*◌, ◌/◌, ◌%◌}
use native.Mathlib.Nat.{add-zero, div-le_self}
use native.Mathlib.Omega.{arith}
use Rattle.laws.specs.ProductLaws.{product_le}
use Rattle.drawing.proofs.Formats.{begins-word, left-in-word, size-le}
use Rattle.drawing.proofs.picture.to_next_word.Goals as goal

pub overflow_mul-bit : goal.overflow_mul-bit
overflow_mul-bit c =
    omega (
      arith,
      product_le c.args.column 2048 c.args.bits 32 c.requires.2 (size-le c.args.bits c.requires.0 c.requires.1),
    )

pub returns-then-bit-eq0 : goal.returns-then-bit-eq0
returns-then-bit-eq0 c =
    record {
      bits_value =
          ap (λ (n : ℕ). n % (32 / c.args.bits)) (add-zero c.args.column)
          ∙ begins-word c.args.bits c.requires.0 c.requires.1 c.args.column c.if-bit-eq0.true;
      upper_bound = omega arith;
    }

pub returns : goal.returns
returns c =
    record {
      bits_value = left-in-word c.args.bits c.requires.0 c.requires.1 c.args.column;
      upper_bound = omega (arith, div-le_self (32 - c.args.column * c.args.bits % 32) c.args.bits);
    }
