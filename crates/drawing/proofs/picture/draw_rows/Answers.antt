-- `drawing::picture::draw_rows` meets its contract: a row a turn.
use mathlib.Core.List.{List}
use mathlib.Core.Path.{◌≡◌, ◌∙◌, subst}
use Prim.Native.Nat.{ℕ, min, max, ◌+◌, ◌-◌, ◌*◌, ◌/◌, ◌<◌, ◌≤◌, ◌∣◌}
use native.Mathlib.Decide.{dec_lt}
use native.Mathlib.Nat.{dvd-zero, dvd-sub, dvd-add, dvd-mul_left_of_dvd}
use native.Mathlib.Omega.{arith}
use lib.ListN.{length, drop, length-take, length-drop}
use Rattle.std.specs.Int.{div_ceil}
use Rattle.registers.specs.declared.Words.{Words}
use Rattle.panel.specs.Geometry.{width, height}
use Rattle.pixels.specs.Format.{format}
use Rattle.pixels.specs.declared.format.Format.{Format}
use Rattle.memory.specs.Memory.{first_word}
use Rattle.memory.specs.declared.Screen.{Screen}
use Rattle.drawing.specs.Colour.{contents}
use Rattle.drawing.specs.Core.{per_word, Columns, ByRows, InWords}
use Rattle.drawing.proofs.Formats.{sized-format, row-by-table}
use Rattle.drawing.proofs.Numbers.{colour-is, in_order}
use Rattle.drawing.proofs.Parts.{dvd-min, dvd-max, part-lent}
use Rattle.drawing.proofs.Rows.{Turn, on-panel, in-order, one-row, drawn-before, drawn-then, its-row, its-column, all-drawn}
use Rattle.drawing.proofs.Shown.{part-shown}
use Rattle.drawing.proofs.picture.draw_rows.Goals as goal

-- the turn that the loop takes, by the width that was read
turn : (w : Words) (first count read ceil row a b : ℕ) → read ≡ width w → first + count ≤ width w * height w → first / read ≤ row
    → row < ceil → ceil ≡ div_ceil (first + count) read → a ≡ max (row * read) first → b ≡ min (row * read + read) (first + count)
    → Turn read (height w) first (first + count) row a b
turn w first count read ceil row a b is fits reached left e begins ends =
    record {
      some = omega arith;
      ordered = omega arith;
      fits = rw is fits;
      reached = reached;
      left = rw e at left;
      begins = begins;
      ends = ends;
    }

-- it draws whole words of the row
module _ (s : Screen) (video : List ℕ) (first count row read a b : ℕ) (rows : ByRows s (length video)) (words : InWords s first count)
    (is : read ≡ width s.words) (t : Turn read (height s.words) first (first + count) row a b) where
  row-begins : per_word (format s.words) ∣ row * read
  row-begins = rw is (dvd-mul_left_of_dvd _ rows.whole row)

  begins : 0 < count → per_word (format s.words) ∣ a
  begins some = rw t.begins (dvd-max _ _ _ row-begins (words.begins some))

  ends : 0 < count → per_word (format s.words) ∣ b
  ends some =
      rw t.ends (dvd-min _ _ _ (dvd-add _ row-begins (rw is rows.whole)) (dvd-add _ (words.begins some) words.whole))

  whole : per_word (format s.words) ∣ b - a
  whole = go (dec_lt 0 count)
    where
      go : Dec (0 < count) → per_word (format s.words) ∣ b - a
      go (yes some) = dvd-sub _ (ends some) (begins some)
      go (no none) = subst (λ (k : ℕ). per_word (format s.words) ∣ k) (omega (arith, t.begins, t.ends)) (dvd-zero _)

  columns : (f : Format) (base n : ℕ) → f ≡ format s.words → base ≡ first_word s row → n ≡ b - a → Columns f video base (a - row * read) n
  columns f base n is-format is-first many =
      rw (is-format, is-first, many)
      (record {
        legal = rows.legal;
        begins = λ some. dvd-sub _ (begins (omega (arith, some, t.begins, t.ends))) row-begins;
        lent =
            record {
              whole = whole;
              inside = part-lent s (length video) rows row (a - row * read) (b - a) (on-panel _ _ _ _ _ _ _ t)
                  (omega (arith, is, one-row _ _ _ _ _ _ _ t));
            };
        short = omega (arith, is, one-row _ _ _ _ _ _ _ t);
      })

pub draw_columns-requires : goal.draw_columns-requires
draw_columns-requires c =
    let a = c.args in
    let t = turn a.s.words _ _ _ _ _ _ _ c.width-wide.ensures c.requires.2 c.loop-row.auto.row c.loop-row-test.true c.div_ceil-row-end.ensures
    c.max-from.ensures c.min-to.ensures in
    columns a.s a.lent.video.now a.first (length a.out.now) c.loop-row.row c.width-wide.result c.max-from.result c.min-to.result
    c.requires.0 c.requires.1 c.width-wide.ensures t _ _ _ c.format_of-f.ensures c.first_word-base.ensures.value
    (omega (
      arith,
      length-take (c.min-to.result - a.first - (c.max-from.result - a.first)) (drop (c.max-from.result - a.first) c.loop-row.out),
      length-drop (c.max-from.result - a.first) c.loop-row.out,
      in-order _ _ _ _ _ _ _ t,
      t.begins,
      t.ends,
    ))

pub loop-row-preserved : goal.loop-row-preserved
loop-row-preserved c k h =
    let a = c.args in
    let t = turn a.s.words _ _ _ _ _ _ _ c.width-wide.ensures c.requires.2 c.loop-row.auto.row c.loop-row-test.true c.div_ceil-row-end.ensures
    c.max-from.ensures c.min-to.ensures in
    let ordered = in-order _ _ _ _ _ _ _ t in
    part-shown _ _ _ (λ j l. c.loop-row.invariant j (omega (arith, l, drawn-before _ _ _ _ _ _ _ t))) _ _ c.draw_columns.auto.out
    (omega (arith, t.begins, t.ends)) _ c.draw_columns.ensures
    (λ i l.
    row-by-table _ (rw c.format_of-f.ensures (sized-format a.s.words)) a.lent.palette.now _ c.fill_table.ensures _ _ _
    ∙ colour-is a.s (contents a.lent) c.loop-row.row _ _ c.format_of-f.ensures c.first_word-base.ensures.value _
    ∙ in_order a.s (contents a.lent) _ _ _ (rw (← c.width-wide.ensures) (its-row _ _ _ _ _ _ _ t i (omega (arith, l))))
    (rw (← c.width-wide.ensures) (its-column _ _ _ _ _ _ _ t i (omega (arith, l)))))
    k (omega (arith, h, drawn-then _ _ _ _ _ _ _ t))

pub returns : goal.returns
returns c i h =
    c.loop-row.invariant i
    (omega (
      arith,
      h,
      all-drawn c.width-wide.result c.args.first (c.args.first + length c.args.out.now) c.loop-row.row (omega arith)
          (omega (arith, c.div_ceil-row-end.ensures)),
    ))
