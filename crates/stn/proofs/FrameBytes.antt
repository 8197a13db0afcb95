-- Rows one after the other (§5.10): where each stands among a frame's bytes, and what it holds.
use mathlib.Core.Bool.{Bool}
use mathlib.Core.List.{List}
use mathlib.Core.Path.{◌≡◌, ap₂, ◌∙◌}
use Prim.Native.Nat.{ℕ, ◌+◌, ◌*◌, ◌%◌, ◌<◌, ◌≤◌}
use native.Mathlib.Nat.{add-mul, mul-le-mul_right}
use native.Mathlib.Omega.{arith}
use lib.Arith.{digits_div, digits_mod}
use lib.Dec.{eqb}
use Rattle.memory.specs.Memory.{first_word}
use Rattle.memory.specs.declared.Screen.{Screen}
use Rattle.panel.specs.Geometry.{height, stn_bits}
use Rattle.registers.specs.Fields.{bppmode, bswp}
use Rattle.registers.specs.declared.Words.{Words}
use Rattle.stn.specs.Drawing.{row_bytes, frame_bytes, byte_in, stn_byte}
use Rattle.stn.specs.Greys.{row_byte}
use Rattle.stn.proofs.RowBytes.{row-byte-alike}

-- row r ends inside the frame
pub row-in-frame : (w : Words) (r : ℕ) → r < height w → r * row_bytes w + row_bytes w ≤ frame_bytes w
row-in-frame w r h =
    omega (arith, add-mul r 1 (row_bytes w), mul-le-mul_right {m = r + 1} {n = height w} (row_bytes w) (omega arith))

module _ (s : Screen) (memory : List ℕ) (f r : ℕ) where
  -- byte j of row r is byte r × (W / 8) + j of the frame
  pub byte-of-frame : (j : ℕ) → j < row_bytes s.words → stn_byte s memory f (r * row_bytes s.words + j) ≡ byte_in s memory f r j
  unfolding stn_byte
  byte-of-frame j h = ap₂ (byte_in s memory f) (digits_div r h) (digits_mod r h)

  -- it goes by the phase modulo 420
  pub byte-by-phase : (bits : ℕ) (swap : Bool) (from phase j : ℕ) → bits ≡ stn_bits (bppmode s.words)
      → swap ≡ eqb (bswp s.words) 1 → from ≡ first_word s r → phase ≡ (f + r) % 420
      → row_byte bits swap memory from phase j ≡ byte_in s memory f r j
  unfolding byte_in
  byte-by-phase bits swap from phase j e₁ e₂ e₃ e₄ =
      row-byte-alike bits swap memory from phase (f + r) j (omega (arith, e₄))
      ∙ rw (e₁, e₂, e₃)
