-- What the private functions of drawing require and leave. A reader of the promises need not believe any of it.
use Rattle.std.specs.Prelude.{Bool, true, false, not, ◌&&◌, List, ◌≡◌, ℕ, ◌+◌, ◌*◌, ◌/◌, ◌^◌, ◌<◌, ◌≤◌, leb, length, get_or}
use Rattle.std.specs.Int.{◌∣◌}
use Rattle.panel.specs.Geometry.{width, height, stored_bits}
use Rattle.pixels.specs.Format.{format}
use Rattle.pixels.specs.Pixel.{indexed}
use Rattle.pixels.specs.declared.format.Format.{Format}
use Rattle.memory.specs.Memory.{first_word}
use Rattle.memory.specs.declared.Screen.{Screen}

-- a format whose stored bits are those of a mode number (§2.2): 0 where there is no such mode
pub record Sized (f : Format) : Type 0 where
  pub mode : ℕ
  pub size : f.bits ≡ stored_bits mode

-- a format whose mode stores pixels
pub record Stores (f : Format) : Type 0 where
  pub sized : Sized f
  pub some : 0 < f.bits

-- and whose swaps are legal for it (§4.4)
pub record Legal (f : Format) : Type 0 where
  pub stores : Stores f
  pub bytes : f.bswp ≡ true → f.bits ≤ 8
  pub halves : f.hwswp ≡ true → f.bits ≡ 16

-- pixels are looked up: they are indices, and no temporary palette hides them
abbrev pub looked_up : Format → Bool
looked_up f = leb f.bits 8 && not f.tpalen

-- the table holds the expanded colour of each index, where pixels are looked up
pub record Expanded (f : Format) (palette table : List ℕ) : Type 0 where
  pub entry : f.tpalen ≡ false → (v : ℕ) → f.bits ≤ 8 → v < 2 ^ f.bits → get_or table v 0 ≡ indexed f palette v

-- every entry of a slice is what g gives its index
abbrev pub Shows : (ℕ → ℕ) → List ℕ → Type 0
Shows g out = (i : ℕ) → i < length out → get_or out i 0 ≡ g i

-- the entries are those of n words of pixels, s bits each
pub record Fits (s n : ℕ) (out : List ℕ) : Type 0 where
  pub some : 0 < s
  pub whole : s * (32 / s) ≡ 32
  pub room : length out ≡ n * (32 / s)

-- pixels in a word
abbrev pub per_word : Format → ℕ
per_word f = 32 / f.bits

-- n pixels fill whole words, which are lent from the memory's word `base` on
pub record InMemory (f : Format) (memory : List ℕ) (base n : ℕ) : Type 0 where
  pub whole : per_word f ∣ n
  pub inside : base + n / per_word f ≤ length memory

-- what drawing n columns of a row from `column` on requires: they begin and end with a word
pub record Columns (f : Format) (memory : List ℕ) (base column n : ℕ) : Type 0 where
  pub legal : Legal f
  pub begins : 0 < n → per_word f ∣ column
  pub lent : InMemory f memory (base + column / per_word f) n
  pub short : column + n ≤ 2048

-- rows fill whole words, and each lies inside `lent` words of memory
pub record ByRows (s : Screen) (lent : ℕ) : Type 0 where
  pub legal : Legal (format s.words)
  pub whole : per_word (format s.words) ∣ width s.words
  pub inside : (r : ℕ) → r < height s.words → first_word s r + width s.words / per_word (format s.words) ≤ lent

-- the `count` pixels from number `first` on begin and end with a word, where there are any
pub record InWords (s : Screen) (first count : ℕ) : Type 0 where
  pub begins : 0 < count → per_word (format s.words) ∣ first
  pub whole : per_word (format s.words) ∣ count
