-- The bench's input: its numbers (§11.1), and the lengths that are refused (§11.3). Promises cite it, so a reader must believe it.
use Rattle.std.specs.Prelude.{Bool, not, ◌||◌, List, ℕ, zero, suc, ◌+◌, ◌-◌, ◌*◌, ◌%◌, ◌^◌, eqb, ltb, get_or}

-- 14 (§11.3), of an input of n bytes: it ends before the video words begin, or inside one of them, or has more than 8,192 of them
unfoldable pub length_refused : ℕ → Bool
length_refused n = ltb n 556 || not (eqb ((n - 556) % 4) 0) || ltb 32768 (n - 556)

-- the number in so many bytes from a place on, low byte first (§11.1): byte k counts 2 ^ (8 * k)
unfoldable pub low_first : List ℕ → ℕ → ℕ → ℕ
low_first bytes at zero = 0
low_first bytes at (suc k) = low_first bytes at k + get_or bytes (at + k) 0 * 2 ^ (8 * k)
