-- `drawing::pixel::pixel_colour` meets its contract.
use mathlib.Core.Path.{refl, sym, ap, ◌∙◌}
use native.Mathlib.Omega.{arith}
use Rattle.pixels.specs.Pixel.{indexed, shown}
use Rattle.memory.specs.Memory.{first_word}
use Rattle.drawing.specs.Colour.{contents}
use Rattle.drawing.proofs.Formats.{sized-format, temporary-colour, shown-colour}
use Rattle.drawing.proofs.Numbers.{colour-is}
use Rattle.drawing.proofs.pixel.pixel_colour.Goals as goal

pub returns-then-f : goal.returns-then-f
returns-then-f c =
    let a = c.args in
    let f = c.format_of-f.result in
    sym (temporary-colour f (indexed f a.lent.palette.now) a.lent.video.now (first_word a.s a.place.row) a.place.column c.if-f.true)
    ∙ colour-is a.s (contents a.lent) a.place.row f (first_word a.s a.place.row) c.format_of-f.ensures refl a.place.column

pub stored_at-v-requires : goal.stored_at-v-requires
stored_at-v-requires c =
    (rw c.format_of-f.ensures (sized-format c.args.s.words), c.first_word.ensures.upper_bound, omega arith)

pub returns : goal.returns
returns c =
    let a = c.args in
    let f = c.format_of-f.result in
    c.show_indexed.ensures
    ∙ ap (shown f (indexed f a.lent.palette.now)) c.stored_at-v.ensures
    ∙ sym (shown-colour f (indexed f a.lent.palette.now) a.lent.video.now c.first_word.result a.place.column c.if-f.false)
    ∙ colour-is a.s (contents a.lent) a.place.row f c.first_word.result c.format_of-f.ensures c.first_word.ensures.value a.place.column
