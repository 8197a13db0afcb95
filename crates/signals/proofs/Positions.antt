-- Which clock shows which pixel (§6.6): a position shows the pixel in row r, column c exactly where the formula gives that position.
-- Only these laws and those of ReadingOrder open the definitions of the parts.
use mathlib.Core.Path.{◌≡◌, refl, sym, ap, ap₂, ◌∙◌}
use Prim.Native.Nat.{ℕ, ◌+◌, ◌-◌, ◌*◌, ◌/◌, ◌%◌, ◌<◌, ◌≤◌}
use native.Mathlib.Decide.{dec_lt}
use native.Mathlib.Nat.{div-add-mod'}
use native.Mathlib.Omega.{arith}
use borrow.Author.Tests.{lt-ltb, le-ltb}
use lib.Arith.{digits_div, digits_mod, digits_lt}
use lib.Dec.{ltb}
use Rattle.std.specs.Prelude.{Some, None, ◌⊎◌}
use Rattle.std.proofs.Common.{inl, inr}
use Rattle.laws.specs.BooleanLaws.{either_way}
use Rattle.panel.specs.Timing.{Timing, line_clocks, frame_lines, frame_clocks}
use Rattle.signals.specs.Parts.{part_at, lines_before, clocks_before, line_part, clock_part}
use Rattle.signals.specs.Pixel.{in_row, spot_of, spot_at, pixel_clock}
use Rattle.signals.specs.declared.parts.Part.{Part}
use Rattle.signals.specs.declared.parts.Part.TheVariants.{Sync, BackPorch, Active, FrontPorch}

-- ---- where the number of a line or clock lies: ahead of the active ones, among them, or past them

pub data Lies (before active n : ℕ) : Type 0 where
  ahead : n < before → Lies before active n
  among : (k : ℕ) → k < active → n ≡ before + k → Lies before active n
  past : before + active ≤ n → Lies before active n

pub lies : (before active n : ℕ) → Lies before active n
lies before active n = go (dec_lt n before) (dec_lt (n - before) active)
  where
    go : Dec (n < before) → Dec (n - before < active) → Lies before active n
    go (yes h) d = ahead h
    go (no h) (yes k) = among (n - before) k (omega arith)
    go (no h) (no k) = past (omega arith)

-- ---- the part of a number

-- a part that is not active
abbrev pub Idle : Part → Type 0
Idle Sync = Unit
Idle BackPorch = Unit
Idle (Active k) = ⊥
Idle FrontPorch = Unit

module _ (sync before active n : ℕ) where
  pub ahead-is-idle : n < before → Idle (part_at sync before active n)
  unfolding part_at
  ahead-is-idle h = rw (lt-ltb n before h) (either_way Idle (ltb n sync) tt tt)

  pub past-is-idle : before + active ≤ n → Idle (part_at sync before active n)
  unfolding part_at
  past-is-idle h =
      rw (le-ltb n before (omega arith), le-ltb (n - before) active (omega arith)) (either_way Idle (ltb n sync) tt tt)

  pub among-is-active : (k : ℕ) → sync ≤ before → k < active → n ≡ before + k → part_at sync before active n ≡ Active k
  unfolding part_at
  among-is-active k s h e =
      let rest : n - before ≡ k = omega arith in
      rw (le-ltb n sync (omega arith), le-ltb n before (omega arith), rest, lt-ltb k active h) refl

  -- and what an active part says, or one that is not
  pub active-is-among : (k : ℕ) → sync ≤ before → part_at sync before active n ≡ Active k → (k < active) × (n ≡ before + k)
  active-is-among k s e = go (lies before active n)
    where
      go : Lies before active n → (k < active) × (n ≡ before + k)
      go (ahead h) = absurd (rw e at (ahead-is-idle h))
      go (past h) = absurd (rw e at (past-is-idle h))
      go (among j h q) = let same : k ≡ j = cc (e, among-is-active j s h q) in rw same (h, q)

  pub other-is-outside : sync ≤ before → ((k : ℕ) → part_at sync before active n ≡ Active k → ⊥)
      → (n < before) ⊎ (before + active ≤ n)
  other-is-outside s ne = go (lies before active n)
    where
      go : Lies before active n → (n < before) ⊎ (before + active ≤ n)
      go (ahead h) = inl h
      go (past h) = inr h
      go (among k h q) = absurd (ne k (among-is-active k s h q))

pub idle-line : (line clock : Part) → Idle line → spot_of line clock ≡ None
unfolding spot_of
idle-line Sync clock i = refl
idle-line BackPorch clock i = refl
idle-line (Active k) clock i = absurd i
idle-line FrontPorch clock i = refl

pub idle-clock : (r : ℕ) (clock : Part) → Idle clock → in_row r clock ≡ None
unfolding in_row
idle-clock r Sync i = refl
idle-clock r BackPorch i = refl
idle-clock r (Active k) i = absurd i
idle-clock r FrontPorch i = refl

-- ---- what a position shows

module _ (t : Timing) where
  -- the sizes of the panel
  abbrev pub wide : ℕ
  wide = t.hozval + 1

  abbrev pub high : ℕ
  high = t.lineval + 1

  -- a line has clocks before and after its active ones
  pub line-room : clocks_before t + wide < line_clocks t
  unfolding line_clocks
  line-room = omega arith

  pub frame-room : lines_before t + high < frame_lines t
  unfolding frame_lines
  frame-room = omega arith

  pub some-clocks : 0 < line_clocks t
  some-clocks = omega (arith, line-room)

  -- the line and clock of position p are those of row r, column c
  pub record At (p r c : ℕ) : Type 0 where
    pub row : r < high
    pub column : c < wide
    pub line : p / line_clocks t ≡ lines_before t + r
    pub clock : p % line_clocks t ≡ clocks_before t + c

  pub at-shows : (p r c : ℕ) → At p r c → spot_at t p ≡ Some (record { row = r; column = c })
  unfolding spot_at line_part clock_part spot_of in_row
  at-shows p r c a =
      ap₂ spot_of
      (among-is-active (t.vspw + 1) (lines_before t) high (p / line_clocks t) r (omega arith) a.row a.line)
      (among-is-active (t.hspw + 1) (clocks_before t) wide (p % line_clocks t) c (omega arith) a.column a.clock)

  pub data Shows (p : ℕ) : Type 0 where
    pixel : (r c : ℕ) → At p r c → spot_at t p ≡ Some (record { row = r; column = c }) → Shows p
    blank : ((r c : ℕ) → At p r c → ⊥) → spot_at t p ≡ None → Shows p

  pub shows : (p : ℕ) → Shows p
  unfolding spot_at line_part clock_part spot_of
  shows p = go (lies (lines_before t) high (p / line_clocks t)) (lies (clocks_before t) wide (p % line_clocks t))
    where
      quiet_line : Idle (line_part t p) → spot_at t p ≡ None
      quiet_line i = idle-line (line_part t p) (clock_part t p) i

      quiet-clock : (r : ℕ) → line_part t p ≡ Active r → Idle (clock_part t p) → spot_at t p ≡ None
      quiet-clock r e i = ap (λ (line : Part). spot_of line (clock_part t p)) e ∙ idle-clock r (clock_part t p) i

      active-line : (r : ℕ) → r < high → p / line_clocks t ≡ lines_before t + r → line_part t p ≡ Active r
      active-line r h e = among-is-active (t.vspw + 1) (lines_before t) high (p / line_clocks t) r (omega arith) h e

      go : Lies (lines_before t) high (p / line_clocks t) → Lies (clocks_before t) wide (p % line_clocks t) → Shows p
      go (ahead h) k =
          blank (λ r c a. omega (arith, a.line))
          (quiet_line (ahead-is-idle (t.vspw + 1) (lines_before t) high (p / line_clocks t) h))
      go (past h) k =
          blank (λ r c a. omega (arith, a.line, a.row))
          (quiet_line (past-is-idle (t.vspw + 1) (lines_before t) high (p / line_clocks t) h))
      go (among r h e) (ahead k) =
          blank (λ r c a. omega (arith, a.clock))
          (quiet-clock r (active-line r h e) (ahead-is-idle (t.hspw + 1) (clocks_before t) wide (p % line_clocks t) k))
      go (among r h e) (past k) =
          blank (λ r c a. omega (arith, a.clock, a.column))
          (quiet-clock r (active-line r h e) (past-is-idle (t.hspw + 1) (clocks_before t) wide (p % line_clocks t) k))
      go (among r h e) (among c k e') =
          let a : At p r c = record { row = h; column = k; line = e; clock = e' } in
          pixel r c a (at-shows p r c a)

  -- ---- the formula (§6.6)

  -- the position that the formula gives is in that row and column
  pub at-pixel-clock : (r c : ℕ) → r < high → c < wide → At (pixel_clock t r c) r c
  unfolding pixel_clock
  at-pixel-clock r c h k =
      record {
        row = h;
        column = k;
        line = digits_div (lines_before t + r) (omega (arith, line-room));
        clock = digits_mod (lines_before t + r) (omega (arith, line-room));
      }

  -- and no other
  pub at-is-pixel-clock : (p r c : ℕ) → At p r c → p ≡ pixel_clock t r c
  unfolding pixel_clock
  at-is-pixel-clock p r c a =
      sym (div-add-mod' p (line_clocks t)) ∙ ap₂ (λ (q k : ℕ). q * line_clocks t + k) a.line a.clock

  -- it lies inside the frame
  pub pixel-clock-in-frame : (r c : ℕ) → r < high → c < wide → pixel_clock t r c < frame_clocks t
  unfolding pixel_clock frame_clocks
  pixel-clock-in-frame r c h k = digits_lt (omega (arith, frame-room)) (omega (arith, line-room))
