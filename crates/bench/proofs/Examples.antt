-- Worked examples of the bench (§11), tried on the definitions: both sides of each limit of refusal 14, numbers low byte first, and
-- the line of a row.
use mathlib.Core.Bool.{true, false}
use mathlib.Core.List.{List, [], ◌∷◌}
use mathlib.Core.Path.{◌≡◌, refl}
use Prim.Native.Nat.{ℕ}
use Rattle.laws.specs.Storing.{stores}
use Rattle.bench.specs.Input.{length_refused, low_first}
use Rattle.bench.specs.Output.{digit_char, colour_text, column_text, row_text}

-- ---- lengths

abbrev pub Refused : List ℕ → Type 0
Refused [] = Unit
Refused (n ∷ ns) = (length_refused n ≡ true) × Refused ns

abbrev pub Accepted : List ℕ → Type 0
Accepted [] = Unit
Accepted (n ∷ ns) = (length_refused n ≡ false) × Accepted ns

pub lengths-refused : Refused (0 ∷ 552 ∷ 555 ∷ 557 ∷ 558 ∷ 559 ∷ 33323 ∷ 33325 ∷ 33328 ∷ [])
unfolding length_refused
lengths-refused = (refl, (refl, (refl, (refl, (refl, (refl, (refl, (refl, (refl, tt)))))))))

pub lengths-accepted : Accepted (556 ∷ 560 ∷ 33320 ∷ 33324 ∷ [])
unfolding length_refused
lengths-accepted = (refl, (refl, (refl, (refl, tt))))

-- ---- numbers

abbrev bytes : List ℕ
bytes = 0xee ∷ 0x78 ∷ 0x56 ∷ 0x34 ∷ 0x12 ∷ 0xff ∷ []

pub word-low-first : low_first bytes 1 4 ≡ 0x12345678
unfolding low_first
word-low-first = refl

pub half-low-first : low_first bytes 4 2 ≡ 0xff12
unfolding low_first
half-low-first = refl

-- ---- lines

-- T1's first row: 112233 and a newline; the bytes past the line stay
pub t1-line : stores (row_text (0x112233 ∷ [])) 0 7 (1 ∷ 2 ∷ 3 ∷ 4 ∷ 5 ∷ 6 ∷ 7 ∷ 8 ∷ [])
    ≡ 0x31 ∷ 0x31 ∷ 0x32 ∷ 0x32 ∷ 0x33 ∷ 0x33 ∷ 0x0a ∷ 8 ∷ []
unfolding stores row_text column_text colour_text digit_char
t1-line = refl

-- 09af00 and 00ff9a: a space between them, a newline at the end
pub two-columns : stores (row_text (0x09af00 ∷ 0x00ff9a ∷ [])) 0 14 (0 ∷ 0 ∷ 0 ∷ 0 ∷ 0 ∷ 0 ∷ 0 ∷ 0 ∷ 0 ∷ 0 ∷ 0 ∷ 0 ∷ 0 ∷ 0 ∷ [])
    ≡ 0x30 ∷ 0x39 ∷ 0x61 ∷ 0x66 ∷ 0x30 ∷ 0x30 ∷ 0x20 ∷ 0x30 ∷ 0x30 ∷ 0x66 ∷ 0x66 ∷ 0x39 ∷ 0x61 ∷ 0x0a ∷ []
unfolding stores row_text column_text colour_text digit_char
two-columns = refl
