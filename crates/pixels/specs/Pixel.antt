-- What the stored bits of a pixel show (§4.5, §5.1 to §5.3, §5.5).
-- Promises cite it, so a reader must believe it.
use Rattle.std.specs.Prelude.{cond, List, ℕ, eqb, get_or}
use Rattle.pixels.specs.Colours.{expanded, cut24}
use Rattle.pixels.specs.declared.format.Format.{Format}

-- the colour of an index: the palette's entry, expanded (§5.1)
abbrev pub indexed : Format → List ℕ → ℕ → ℕ
indexed f palette v = expanded f.expansion (get_or palette v 0)

-- what stored bits show, given the colour of each index (§5.5): of 32 stored bits 24 are taken, 16 are expanded, fewer are an index
unfoldable pub shown : Format → (ℕ → ℕ) → ℕ → ℕ
shown f colours v =
    cond (eqb f.bits 32) (cut24 f.bpp24bl v) (cond (eqb f.bits 16) (expanded f.expansion v) (colours v))
