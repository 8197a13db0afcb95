-- Storing into a lent slice: a stretch of its entries is filled, every other entry keeps its value (§5.6, §10.1). Promises cite it, so
-- a reader must believe it; its laws are in StoringLaws.
use Rattle.std.specs.Prelude.{List, ℕ, zero, suc, ◌+◌, set}

-- d with the n entries from `at` on set to g 0, g 1 and so on
unfoldable pub stores : (ℕ → ℕ) → ℕ → ℕ → List ℕ → List ℕ
stores g at zero d = d
stores g at (suc n) d = set (stores g at n d) (at + n) (g n)
