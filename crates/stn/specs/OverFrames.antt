-- What the eye sees of a pixel over several frames (§5.8, §5.9), stated of the bytes that the drawings left. These are the claims of the
-- STN drawing, `GreyLitNOfD` and `MonoAsStored`, so a reader must believe them; proofs/OverFrames proves them.
use Rattle.std.specs.Prelude.{Bool, false, List, ◌≡◌, ℕ, zero, suc, ◌+◌, ◌-◌, ◌*◌, ◌/◌, ◌%◌, ◌^◌, ◌<◌, eqb, get_or}
use Rattle.laws.specs.Answers.{leaves}
use Rattle.memory.specs.Memory.{first_word}
use Rattle.memory.specs.declared.Screen.{Screen}
use Rattle.panel.specs.Geometry.{height, stn_width, stn_bits}
use Rattle.pixels.specs.Order.{stored_pixel}
use Rattle.registers.specs.Fields.{bppmode, bswp}
use Rattle.registers.specs.declared.Words.{Words}
use Rattle.stn.specs.Drawing.{row_bytes, draw_stn}
use Rattle.stn.specs.Greys.{duty, bit}

-- how many numbers below n pass the test
unfoldable pub count_below : ℕ → (ℕ → Bool) → ℕ
count_below zero p = 0
count_below (suc n) p = count_below n p + bit (p n)

-- frames f, f + 1 and so on, n of them, each drawn from its own words and memory to its own bytes. (A program's frames have numbers
-- below 2^32; nothing here asks for it.)
pub record Frames (f n : ℕ) : Type 0 where
  pub screen : ℕ → Screen
  pub memory : ℕ → List ℕ
  pub was : ℕ → List ℕ
  pub left : ℕ → List ℕ
  pub drawn : (i : ℕ) → i < n → draw_stn (screen i) (memory i) (f + i) (was i) ≡ leaves 0 (left i)

-- row r, column c lies on the panel, and holds these stored bits in this mode (§2.3, §4.1)
pub record Pixel (s : Screen) (memory : List ℕ) (r c mode v : ℕ) : Type 0 where
  pub row : r < height s.words
  pub column : c < stn_width s.words
  pub in-mode : bppmode s.words ≡ mode
  pub stored : stored_pixel (stn_bits mode) (eqb (bswp s.words) 1) false memory (first_word s r) c ≡ v

-- its bit: bit 7 - c % 8 of byte r × W / 8 + c / 8
unfoldable pub bit_of : Words → List ℕ → ℕ → ℕ → ℕ
bit_of w bytes r c = get_or bytes (r * row_bytes w + c / 8) 0 / 2 ^ (7 - c % 8) % 2

-- a pixel that keeps its grey level over d frames is lit in n of them
abbrev pub GreyLitNOfD : Type 0
GreyLitNOfD =
    (f r c level : ℕ) (frames : Frames f (duty level).d)
    → ((i : ℕ) → i < (duty level).d → Pixel (frames.screen i) (frames.memory i) r c 2 level)
    → count_below (duty level).d (λ i. eqb (bit_of (frames.screen i).words (frames.left i) r c) 1) ≡ (duty level).n

-- a mono pixel is lit where it is 1
abbrev pub MonoAsStored : Type 0
MonoAsStored =
    (f n r c v : ℕ) (frames : Frames f n) (i : ℕ) → i < n → Pixel (frames.screen i) (frames.memory i) r c 0 v
    → eqb (bit_of (frames.screen i).words (frames.left i) r c) 1 ≡ eqb v 1
