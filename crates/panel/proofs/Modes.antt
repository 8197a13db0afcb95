-- The modes (§2.2, §2.3): what lies outside 8..13, and what the modes inside select; the same on STN.
use mathlib.Core.Bool.{Bool, true, false, not, cond, ◌&&◌, and-eq-true_iff, true≢false}
use mathlib.Core.List.{[], ◌∷◌}
use mathlib.Core.Path.{◌≡◌, refl, sym}
use Prim.Native.Nat.{ℕ, ◌-◌, ◌*◌, ◌/◌, ◌<◌, ◌≤◌}
use native.Mathlib.Omega.{arith}
use borrow.Author.Tests.{lt-leb, le-leb, leb-true, not-false}
use lib.Dec.{T, leb, ltb, eqb, leb→le, ltb→lt, eqb→eq}
use Rattle.laws.specs.Answers.{accepted, refused}
use Rattle.laws.proofs.AnswerLaws.{one-accepted, one-refused}
use Rattle.laws.specs.BooleanLaws.{either_way}
use Rattle.laws.specs.TableLaws.{every, entry-passes}
use Rattle.registers.specs.Fields.{bppmode, stn}
use Rattle.registers.specs.declared.Words.{Words}
use Rattle.registers.specs.declared.refusal.Refusal.{Refusal}
use Rattle.registers.specs.Refusals.{number, answer}
use Rattle.std.specs.Prelude.{Result, Ok, Err, is_err}
use Rattle.std.specs.Result.{result_unwrap_or}
use Rattle.panel.specs.Geometry.{outside_modes, stored_bits, depth_of, outside_stn_modes, stn_bits, panel_bits}

-- ---- outside

pub outside_below : (mode : ℕ) → mode < 8 → outside_modes mode ≡ true
unfolding outside_modes
outside_below mode h = rw (lt-leb 8 mode h)

pub outside_above : (mode : ℕ) → 13 < mode → outside_modes mode ≡ true
unfolding outside_modes
outside_above mode h = rw (le-leb 8 mode (omega arith), lt-leb mode 13 h)

pub outside-stores-none : (mode : ℕ) → outside_modes mode ≡ true → stored_bits mode ≡ 0
unfolding stored_bits
outside-stores-none mode o = rw o

-- one more number is ruled out for a mode
pub past : (n mode : ℕ) → n ≤ mode → (mode ≡ n → ⊥) → n < mode
past n mode l ne = omega arith

-- ---- what an answer says of the mode

pub accepted-mode : (mode bits : ℕ) → accepted bits ≡ depth_of mode
    → (outside_modes mode ≡ false) × (bits ≡ stored_bits mode)
unfolding depth_of
accepted-mode mode bits e =
    let taken = one-accepted 3 (outside_modes mode) (stored_bits mode) bits tt (sym e) in
    (taken.0, sym taken.1)

pub refused-mode : (mode n : ℕ) → refused n ≡ depth_of mode → outside_modes mode ≡ true
unfolding depth_of
refused-mode mode n e = one-refused 3 (outside_modes mode) (stored_bits mode) n (sym e)

-- ---- inside

pub inside-range : (mode : ℕ) → outside_modes mode ≡ false → (8 ≤ mode) × (mode ≤ 13)
unfolding outside_modes
inside-range mode o =
    let both : leb 8 mode && leb mode 13 ≡ true = not-false (leb 8 mode && leb mode 13) o in
    let low : leb 8 mode ≡ true = ((and-eq-true_iff (leb 8 mode) (leb mode 13)).0 both).0 in
    let high : leb mode 13 ≡ true = ((and-eq-true_iff (leb 8 mode) (leb mode 13)).0 both).1 in
    (leb-true 8 mode low, leb-true mode 13 high)

-- what holds of each stored size holds of the one that a mode selects
pub size-passes : (p : ℕ → Bool) → T (every p (1 ∷ 2 ∷ 4 ∷ 8 ∷ 16 ∷ 32 ∷ [])) → (mode : ℕ)
    → outside_modes mode ≡ false → T (p (stored_bits mode))
unfolding stored_bits
size-passes p t mode o =
    let range = inside-range mode o in
    rw o (entry-passes p (1 ∷ 2 ∷ 4 ∷ 8 ∷ 16 ∷ 32 ∷ []) t (mode - 8) (omega arith))

pub stored-bits-le : (mode : ℕ) → stored_bits mode ≤ 32
stored-bits-le mode = go (outside_modes mode) refl
  where
    go : (b : Bool) → outside_modes mode ≡ b → stored_bits mode ≤ 32
    go true o = omega (arith, outside-stores-none mode o)
    go false o = leb→le (stored_bits mode) 32 (size-passes (λ s. leb s 32) tt mode o)

pub stored-bits-pos : (mode : ℕ) → outside_modes mode ≡ false → 0 < stored_bits mode
stored-bits-pos mode o = ltb→lt 0 (stored_bits mode) (size-passes (λ s. ltb 0 s) tt mode o)

-- a word holds a whole number of pixels
pub pixels-fill-word : (mode : ℕ) → outside_modes mode ≡ false → stored_bits mode * (32 / stored_bits mode) ≡ 32
pixels-fill-word mode o =
    eqb→eq (stored_bits mode * (32 / stored_bits mode)) 32 (size-passes (λ s. eqb (s * (32 / s)) 32) tt mode o)

-- ---- on STN

-- by the two tests
abbrev outside_by : Bool → Bool → Bool
outside_by mono greys = not mono && not greys

abbrev bits_by : Bool → Bool → ℕ
bits_by mono greys = cond mono 1 (cond greys 4 0)

pub stn-bits-pos : (mode : ℕ) → outside_stn_modes mode ≡ false → 0 < stn_bits mode
unfolding outside_stn_modes stn_bits
stn-bits-pos mode o = go (eqb mode 0) (eqb mode 2) o
  where
    go : (mono greys : Bool) → outside_by mono greys ≡ false → 0 < bits_by mono greys
    go true greys e = omega arith
    go false true e = omega arith
    go false false e = absurd (true≢false e)

pub stn-bits-le : (mode : ℕ) → stn_bits mode ≤ 4
unfolding stn_bits
stn-bits-le mode =
    either_way (λ k. k ≤ 4) (eqb mode 0) (omega arith) (either_way (λ k. k ≤ 4) (eqb mode 2) (omega arith) (omega arith))

pub panel-bits-le : (w : Words) → panel_bits w ≤ 32
unfolding panel_bits
panel-bits-le w =
    either_way (λ k. k ≤ 32) (stn w) (omega (arith, stn-bits-le (bppmode w))) (stored-bits-le (bppmode w))

-- what a program takes from the answer at a mode
pub mode-bits : (r : Result ℕ Refusal) (mode : ℕ) → answer r ≡ depth_of mode → result_unwrap_or r 0 ≡ stored_bits mode
mode-bits (Ok bits) mode e = (accepted-mode mode bits e).1
mode-bits (Err d) mode e = sym (outside-stores-none mode (refused-mode mode (number d) e))

pub mode-outside : (r : Result ℕ Refusal) (mode : ℕ) → answer r ≡ depth_of mode → is_err r ≡ outside_modes mode
mode-outside (Ok bits) mode e = sym (accepted-mode mode bits e).0
mode-outside (Err d) mode e = sym (refused-mode mode (number d) e)
