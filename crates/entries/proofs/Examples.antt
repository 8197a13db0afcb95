-- The entries (§10.2) checked against independent numbers: each field's entry, by its number in the C header, has the bits of its mask,
-- written out from those that the chip's manual names (§14.3).
use mathlib.Core.List.{List, [], ◌∷◌}
use Prim.Native.Nat.{ℕ}
use lib.Dec.{T}
use lib.ListN.{get_or}
use Rattle.registers.proofs.Examples.{Mask, agree}
use Rattle.fields.specs.Reading.{fields_of}
use Rattle.entries.specs.Order.{field_entries}

-- an entry, its word from 0, its mask, and its largest value
abbrev at : ℕ → ℕ → ℕ → ℕ → Mask
at entry word mask ones =
    record { value = λ w. get_or (field_entries (fields_of w)) entry 0; word = word; mask = mask; ones = ones }

abbrev pub masks : List Mask
masks =
    at 0 0 0x0003FF00 1023
    ∷ at 1 0 0x80 1
    ∷ at 2 0 0x60 3
    ∷ at 3 0 0x1E 15
    ∷ at 4 0 0x1 1
    ∷ at 5 1 0xFF000000 255
    ∷ at 6 1 0x00FFC000 1023
    ∷ at 7 1 0x3FC0 255
    ∷ at 8 1 0x3F 63
    ∷ at 9 2 0x03F80000 127
    ∷ at 10 2 0x0007FF00 2047
    ∷ at 11 2 0xFF 255
    ∷ at 12 3 0xFF00 255
    ∷ at 13 3 0xFF 255
    ∷ at 14 4 0x1000 1
    ∷ at 15 4 0x800 1
    ∷ at 16 4 0x400 1
    ∷ at 17 4 0x200 1
    ∷ at 18 4 0x100 1
    ∷ at 19 4 0x80 1
    ∷ at 20 4 0x40 1
    ∷ at 21 4 0x20 1
    ∷ at 22 4 0x10 1
    ∷ at 23 4 0x8 1
    ∷ at 24 4 0x4 1
    ∷ at 25 4 0x2 1
    ∷ at 26 4 0x1 1
    ∷ at 27 5 0x3FE00000 511
    ∷ at 28 5 0x1FFFFF 2097151
    ∷ at 29 6 0x1FFFFF 2097151
    ∷ at 30 7 0x3FF800 2047
    ∷ at 31 7 0x7FF 2047
    ∷ at 32 8 0x1000000 1
    ∷ at 33 8 0xFFFFFF 16777215
    ∷ []

pub entries-agree : T (agree masks)
entries-agree = tt
