-- What a reader holds, and what a lookup through it gives (§12.1). Promises cite these definitions, so they are to be believed.
use Rattle.std.specs.Prelude.{List, ℕ}
use Rattle.std.specs.Borrow.{Bor}
use Rattle.laws.specs.Answers.{Answer}
use Rattle.memory.specs.declared.Screen.{Screen}
use Rattle.drawing.specs.Colour.{lending}
use Rattle.drawing.specs.Drawing.{draw_pixel}
use Rattle.reader.specs.declared.Reader.{Reader}

-- a reader holds the words, the window start and the reference to the lent memory (§12.1)
abbrev pub reader_of : Screen → Bor (List ℕ) → Reader
reader_of s video = record { screen = s; video = video }

-- a lookup is the drawing of one pixel (§5.6), refusals included, with the palette lent to the lookup (§12.1)
abbrev pub look_up : Reader → List ℕ → ℕ → ℕ → Answer ℕ
look_up r palette row column = draw_pixel r.screen (lending r.video.now palette) row column
