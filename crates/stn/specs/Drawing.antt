-- The STN drawing (§5.10): a byte for eight pixels of a row, row after row; and what it is judged by (§9.3). Promises cite it, so a
-- reader must believe it.
use Rattle.std.specs.Prelude.{List, [], ◌∷◌, ◌++◌, ℕ, ◌+◌, ◌*◌, ◌/◌, ◌%◌, eqb, length}
use Rattle.laws.specs.Answers.{Outcome, outcome}
use Rattle.laws.specs.Cases.{Case, ◌when◌, lowest}
use Rattle.laws.specs.Storing.{stores}
use Rattle.memory.specs.Memory.{stn_memory_cases, first_word}
use Rattle.memory.specs.declared.Screen.{Screen}
use Rattle.panel.specs.Geometry.{height, stn_width, stn_bits}
use Rattle.panel.specs.Refusals.{video_off, clock_too_fast}
use Rattle.registers.specs.Fields.{bppmode, bswp}
use Rattle.registers.specs.Loading.{too_short}
use Rattle.registers.specs.declared.Words.{Words}
use Rattle.stn.specs.Greys.{row_byte}

-- bytes of a row: one for eight pixels
unfoldable pub row_bytes : Words → ℕ
row_bytes w = stn_width w / 8

-- bytes of a frame: H × W / 8
abbrev pub frame_bytes : Words → ℕ
frame_bytes w = height w * row_bytes w

-- byte j of row r in frame f
unfoldable pub byte_in : Screen → List ℕ → ℕ → ℕ → ℕ → ℕ
byte_in s memory f r j =
    row_byte (stn_bits (bppmode s.words)) (eqb (bswp s.words) 1) memory (first_word s r) (f + r) j

-- byte i of frame f, row after row (§5.10)
unfoldable pub stn_byte : Screen → List ℕ → ℕ → ℕ → ℕ
stn_byte s memory f i = byte_in s memory f (i / row_bytes s.words) (i % row_bytes s.words)

-- what follows 1 to 8: 9, 10 where too few bytes are lent, 17 (§9.3)
abbrev pub stn_tail : Words → ℕ → List Case
stn_tail w room = 9 when video_off w ∷ 10 when too_short room (frame_bytes w) ∷ 17 when clock_too_fast w ∷ []

-- the lowest of 1 to 8, 9, 10, 17 that holds, 0 where none does (§9.2)
unfoldable pub judge_stn_drawing : Screen → ℕ → ℕ → ℕ
judge_stn_drawing s lent room = lowest (stn_memory_cases s lent ++ stn_tail s.words room)

-- frame f of what the words and the memory show (§5.10): byte i goes to entry i; entries from H × W / 8 on keep their values
unfoldable pub draw_stn : Screen → List ℕ → ℕ → List ℕ → Outcome
draw_stn s memory f bytes =
    outcome (judge_stn_drawing s (length memory) (length bytes)) bytes (stores (stn_byte s memory f) 0 (frame_bytes s.words) bytes)
