-- The line that the bench prints for a row (§11.2), byte by byte. Promises cite it, so a reader must believe it.
use Rattle.std.specs.Prelude.{Bool, cond, List, ℕ, ◌+◌, ◌-◌, ◌/◌, ◌%◌, ◌^◌, eqb, ltb, length, get_or}

-- the character of a digit below 16: '0' to '9', then 'a' to 'f'
unfoldable pub digit_char : ℕ → ℕ
digit_char d = cond (ltb d 10) (0x30 + d) (0x61 + (d - 10))

-- digit k of a colour's six, the highest first (§11.2)
unfoldable pub colour_text : ℕ → ℕ → ℕ
colour_text v k = digit_char (v / 16 ^ (5 - k) % 16)

-- what follows a colour: a newline after the row's last, else a space
abbrev pub parting : Bool → ℕ
parting last = cond last 0x0a 0x20

-- byte k of the seven of colour c
unfoldable pub column_text : List ℕ → ℕ → ℕ → ℕ
column_text row c k = cond (ltb k 6) (colour_text (get_or row c 0) k) (parting (eqb (c + 1) (length row)))

-- byte i of the line, which has 7 * W bytes (§11.2)
unfoldable pub row_text : List ℕ → ℕ → ℕ
row_text row i = column_text row (i / 7) (i % 7)
