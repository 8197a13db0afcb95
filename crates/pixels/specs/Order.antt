-- Pixel order (§4.1 to §4.3): which bits of a word are its pixel k.
-- Promises cite it, so a reader must believe it.
use Rattle.std.specs.Prelude.{Bool, cond, List, ℕ, ◌+◌, ◌-◌, ◌*◌, ◌/◌, ◌%◌, ◌^◌, get_or}

-- BSWP (§4.2): the four bytes in reverse order
unfoldable pub reverse_bytes : ℕ → ℕ
reverse_bytes x = x % 2 ^ 8 * 2 ^ 24 + x / 2 ^ 8 % 2 ^ 8 * 2 ^ 16 + x / 2 ^ 16 % 2 ^ 8 * 2 ^ 8 + x / 2 ^ 24 % 2 ^ 8

-- HWSWP (§4.3): the two halves exchanged
unfoldable pub exchange_halves : ℕ → ℕ
exchange_halves x = x % 2 ^ 16 * 2 ^ 16 + x / 2 ^ 16 % 2 ^ 16

-- the word after its swap, so that its first pixel is in the highest bits (§4.1); both swaps at once are never legal (§4.4)
unfoldable pub in_order : Bool → Bool → ℕ → ℕ
in_order bswp hwswp x = cond bswp (reverse_bytes x) (cond hwswp (exchange_halves x) x)

-- pixel k of a word in this order, at s stored bits a pixel: counted from the highest bits down (§4.1)
unfoldable pub pixel_bits : ℕ → ℕ → ℕ → ℕ
pixel_bits s x k = x / 2 ^ (32 - s * (k + 1)) % 2 ^ s

-- the stored bits of pixel c of a row that begins with the memory's word `base` (§4.1): a word holds 32 / s pixels
unfoldable pub stored_pixel : ℕ → Bool → Bool → List ℕ → ℕ → ℕ → ℕ
stored_pixel s bswp hwswp memory base c =
    pixel_bits s (in_order bswp hwswp (get_or memory (base + c / (32 / s)) 0)) (c % (32 / s))
