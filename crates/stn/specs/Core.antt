-- What the private functions of the STN drawing require and leave. A reader of the promises need not believe any of it.
use Rattle.std.specs.Prelude.{Bool, cond, List, ◌≡◌, ℕ, ◌+◌, ◌-◌, ◌*◌, ◌<◌, ◌≤◌, eqb, get_or}
use Rattle.memory.specs.Memory.{row_words, first_word}
use Rattle.memory.specs.declared.Screen.{Screen}
use Rattle.panel.specs.Geometry.{height, stn_bits}
use Rattle.pixels.specs.Order.{pixel_bits}
use Rattle.registers.specs.Fields.{bppmode}
use Rattle.registers.specs.declared.Words.{Words}
use Rattle.stn.specs.Drawing.{row_bytes}
use Rattle.stn.specs.Greys.{duty, lit, packed}

-- the levels that are lit at a phase: level v is bit v
unfoldable pub pattern : ℕ → ℕ
pattern phase = packed (λ i. lit (duty (15 - i)) phase) 16

-- the table holds the pattern of each phase below 420, and of the seven columns after
abbrev pub IsPatterns : List ℕ → Type 0
IsPatterns table = (phase : ℕ) → phase < 427 → get_or table phase 0 ≡ pattern phase

-- pixel k of a word at 4 bits is lit, where the word begins at a phase
abbrev pub lit_in : ℕ → ℕ → ℕ → Bool
lit_in x phase k = lit (duty (pixel_bits 4 x k)) (phase + k)

-- mono; else 16 greys
abbrev pub mono : Words → Bool
mono w = eqb (bppmode w) 0

-- stored bits of a pixel in these two
abbrev pub bits_in : Bool → ℕ
bits_in m = cond m 1 4

-- bytes that n words give
abbrev pub bytes_of : Bool → ℕ → ℕ
bytes_of m n = cond m (n * 4) n

-- the mode is one of the two, a row's words hold its pixels, and those of every row are lent
pub record ByRows (s : Screen) (lent : ℕ) : Type 0 where
  pub bits : stn_bits (bppmode s.words) ≡ bits_in (mono s.words)
  pub whole : bytes_of (mono s.words) (row_words s.words) ≡ row_bytes s.words
  pub inside : (r : ℕ) → r < height s.words → first_word s r + row_words s.words ≤ lent
