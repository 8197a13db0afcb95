-- What an accepted STN drawing's judgement (§9.3) says of its mode, of the rows in memory and of the lent bytes.
use mathlib.Core.Bool.{Bool, true, false, not, cond, ◌&&◌}
use mathlib.Core.List.{[], ◌∷◌}
use mathlib.Core.Path.{◌≡◌, refl, sym, ap, ◌∙◌}
use Prim.Native.Nat.{ℕ, ◌*◌, ◌/◌, ◌≤◌}
use native.Mathlib.Omega.{arith}
use borrow.Author.Tests.{ltb-false, not-false}
use lib.Dec.{eqb}
use Rattle.laws.specs.Cases.{◌when◌, lowest}
use Rattle.laws.specs.CaseLaws.{NoneHolds}
use Rattle.laws.proofs.CaseLaws.{both-pass}
use Rattle.memory.specs.Memory.{row_words, outside_memory, stn_memory_cases}
use Rattle.memory.specs.declared.Screen.{Screen}
use Rattle.memory.proofs.Window.{row-words-lent}
use Rattle.panel.specs.Geometry.{stn_width, stn_bits, outside_stn_modes}
use Rattle.panel.specs.Refusals.{stn_cases, judge_stn}
use Rattle.panel.proofs.Accepted.{AcceptedStn, accepted-stn, stn-row-in-words}
use Rattle.registers.specs.Fields.{bppmode}
use Rattle.registers.specs.Loading.{too_short}
use Rattle.stn.specs.Core.{bits_in, bytes_of, mono, ByRows}
use Rattle.stn.specs.Drawing.{row_bytes, frame_bytes, stn_tail, judge_stn_drawing}

-- ---- over plain numbers

-- a mode of STN is mono or has 4 bits
mode-bits : (mode : ℕ) → outside_stn_modes mode ≡ false → stn_bits mode ≡ bits_in (eqb mode 0)
unfolding outside_stn_modes stn_bits
mode-bits mode e = go (eqb mode 0) (eqb mode 2) e
  where
    go : (m g : Bool) → not m && not g ≡ false → cond m 1 (cond g 4 0) ≡ bits_in m
    go true g f = refl
    go false g f = rw (not-false g f)

-- n words hold the pixels of a row of W
words-of-row : (m : Bool) (wide n : ℕ) → wide * bits_in m ≡ n * 32 → bytes_of m n ≡ wide / 8
words-of-row true wide n e = omega arith
words-of-row false wide n e = omega arith

-- ---- of an accepted drawing

module _ (s : Screen) (lent room : ℕ) (e : judge_stn_drawing s lent room ≡ 0) where
  judged : (lowest (stn_memory_cases s lent) ≡ 0) × NoneHolds (stn_tail s.words room)
  unfolding judge_stn_drawing
  judged = both-pass (stn_memory_cases s lent) (stn_tail s.words room) tt tt e

  placed : (lowest (stn_cases s.words) ≡ 0) × NoneHolds (8 when outside_memory s lent ∷ [])
  placed = both-pass (stn_cases s.words) (8 when outside_memory s lent ∷ []) tt tt judged.0

  pub words-accepted : AcceptedStn s.words
  unfolding judge_stn
  words-accepted = accepted-stn s.words placed.0

  pub rows-lent : ByRows s lent
  unfolding row_bytes
  rows-lent =
      let w = s.words in
      let bits = mode-bits (bppmode w) words-accepted.mode in
      record {
        bits = bits;
        whole =
            words-of-row (mono w) (stn_width w) (row_words w)
            (ap (λ (n : ℕ). stn_width w * n) (sym bits) ∙ stn-row-in-words w words-accepted);
        inside = row-words-lent s lent words-accepted.laid placed.1.0;
      }

  pub bytes-lent : frame_bytes s.words ≤ room
  unfolding too_short
  bytes-lent = ltb-false room (frame_bytes s.words) judged.1.1.0
