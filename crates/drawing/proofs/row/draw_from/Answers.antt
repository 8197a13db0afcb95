-- `drawing::row::draw_from` meets its contract.
use mathlib.Core.List.{List}
use lib.ListN.{get_or, replicate}
use mathlib.Core.Path.{sym, ap, ◌∙◌}
use Prim.Native.Nat.{ℕ, ◌+◌, ◌≤◌}
use native.Mathlib.Nat.{dvd-zero, zero-div}
use native.Mathlib.Omega.{arith}
use Rattle.pixels.specs.declared.format.Format.{Format}
use Rattle.drawing.specs.Colour.{row_colour}
use Rattle.drawing.specs.Core.{per_word, Columns, InMemory, Legal}
use Rattle.drawing.proofs.Formats.{row-by-table, no_table}
use Rattle.drawing.proofs.row.draw_from.Goals as goal

-- the columns of a row from its first on
row-columns : (f : Format) (video : List ℕ) (base n : ℕ) → Legal f → InMemory f video base n → n ≤ 2048 → Columns f video base 0 n
row-columns f video base n legal lent short =
    record {
      legal = legal;
      begins = λ some. dvd-zero _;
      lent = record { whole = lent.whole; inside = omega (arith, lent.inside, zero-div (per_word f)) };
      short = omega (arith, short);
    }

pub draw_columns-requires : goal.draw_columns-requires
draw_columns-requires c = row-columns _ _ _ _ c.requires.0 c.requires.1 c.requires.2

pub draw_columns-requires-else-looked_up : goal.draw_columns-requires-else-looked_up
draw_columns-requires-else-looked_up c = row-columns _ _ _ _ c.requires.0 c.requires.1 c.requires.2

pub returns-then-looked_up : goal.returns-then-looked_up
returns-then-looked_up c i h =
    let a = c.args in
    c.draw_columns.ensures i h
    ∙ ap (row_colour a.f _ a.video.now a.base) {x = 0 + i} {y = i} (omega arith)
    ∙ row-by-table a.f c.requires.0.stores.sized a.palette.now _ c.fill_table.ensures a.video.now a.base i

pub returns-else-looked_up : goal.returns-else-looked_up
returns-else-looked_up c i h =
    let a = c.args in
    c.draw_columns-else-looked_up.ensures i h
    ∙ ap (row_colour a.f (λ v. get_or (replicate 256 0) v 0) a.video.now a.base) {x = 0 + i} {y = i} (omega arith)
    ∙ row-by-table a.f c.requires.0.stores.sized a.palette.now (replicate 256 0)
    (no_table a.f a.palette.now (replicate 256 0) (sym c.looked_up.ensures ∙ c.if-looked_up.false)) a.video.now a.base i
