-- Grey levels of an STN panel: the duty of each (§5.8), when a pixel is lit (§5.9), and the bytes of a row (§5.10).
-- Promises cite it, so a reader must believe it.
use Rattle.std.specs.Prelude.{Bool, false, cond, List, [], ◌∷◌, ℕ, zero, suc, ◌+◌, ◌*◌, ◌%◌, eqb, ltb, get_or}
use Rattle.pixels.specs.Order.{stored_pixel}
use Rattle.stn.specs.declared.greys.Duty.{Duty}

infix 70 ◌of◌
abbrev pub ◌of◌ : ℕ → ℕ → Duty
n of d = record { n = n; d = d }

-- the frames in which a level's pixel is lit: n of each d (§5.8)
abbrev pub duties : List Duty
duties =
    0 of 1 ∷ 1 of 7 ∷ 1 of 5 ∷ 1 of 4 ∷ 1 of 3 ∷ 2 of 5 ∷ 3 of 7 ∷ 1 of 2
    ∷ 4 of 7 ∷ 3 of 5 ∷ 2 of 3 ∷ 5 of 7 ∷ 3 of 4 ∷ 4 of 5 ∷ 6 of 7 ∷ 1 of 1 ∷ []

-- the duty of a level; none above 15 is lit
unfoldable pub duty : ℕ → Duty
duty level = get_or duties level (0 of 1)

-- a pixel of this duty is lit at a phase: the number of the frame, the row and the column, added up (§5.9)
unfoldable pub lit : Duty → ℕ → Bool
lit q phase = ltb (phase * q.n % q.d) q.n

-- whether the stored bits v of a pixel are lit, by how many they are (§5.9): 1 bit where it is 1, 4 by the level's duty
unfoldable pub lit_bits : ℕ → ℕ → ℕ → Bool
lit_bits bits v phase = cond (eqb bits 1) (eqb v 1) (lit (duty v) phase)

-- 1 for lit
abbrev pub bit : Bool → ℕ
bit b = cond b 1 0

-- n pixels as a number, the first in the highest bit (§5.10)
unfoldable pub packed : (ℕ → Bool) → ℕ → ℕ
packed g zero = 0
packed g (suc n) = packed g n * 2 + bit (g n)

-- byte j of a row that begins with the memory's word `base`: columns 8j to 8j + 7 (§5.10). The phase is that of column 0; HWSWP is legal
-- in no STN mode (§4.4), so BSWP alone is applied
unfoldable pub row_byte : ℕ → Bool → List ℕ → ℕ → ℕ → ℕ → ℕ
row_byte bits bswp memory base phase j =
    packed (λ k. lit_bits bits (stored_pixel bits bswp false memory base (8 * j + k)) (phase + (8 * j + k))) 8
