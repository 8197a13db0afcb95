-- `drawing::picture::pixels_of` meets its contract.
use native.Mathlib.Omega.{arith}
use Rattle.laws.specs.ProductLaws.{product_le}
use Rattle.drawing.proofs.picture.pixels_of.Goals as goal

pub overflow_mul-result : goal.overflow_mul-result
overflow_mul-result c = omega (arith, product_le c.width.result 2048 c.height.result 1024 (omega arith) (omega arith))

pub returns : goal.returns
returns c =
    record {
      value = rw (c.width.ensures, c.height.ensures);
      upper_bound = product_le c.width.result 2048 c.height.result 1024 (omega arith) (omega arith);
    }
