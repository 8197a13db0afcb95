-- Laws of products: bounds, with every number written out so that `omega` can take them. A reader need not believe them.
use Rattle.std.specs.Prelude.{ℕ, ◌*◌, ◌≤◌}
use Rattle.std.proofs.Common.{mul-le-mul}

pub product_le : (a m b n : ℕ) → a ≤ m → b ≤ n → a * b ≤ m * n
product_le a m b n p q = mul-le-mul p q
