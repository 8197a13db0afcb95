-- Each field by its mask, written out from the bits that the chip's manual names (§14.3), tried on the definitions: with the mask's
-- bits set the field is all ones, with every other bit set it is 0. So a field at another place is refused even where the layout and
-- the code agree on it.
use mathlib.Core.Bool.{Bool, true, ◌&&◌}
use mathlib.Core.List.{List, [], ◌∷◌}
use Prim.Native.Nat.{ℕ, ◌-◌}
use lib.Dec.{T, eqb}
use lib.ListN.{set, replicate}
use Rattle.registers.specs.Fields as Fields
use Rattle.registers.specs.Loading.{nine_words}
use Rattle.registers.specs.declared.Words.{Words}

pub record Mask : Type 0 where
  pub value : Words → ℕ
  pub word : ℕ
  pub mask : ℕ
  pub ones : ℕ

abbrev at : (Words → ℕ) → ℕ → ℕ → ℕ → Mask
at value word mask ones = record { value = value; word = word; mask = mask; ones = ones }

-- the field, its word from 0, its mask, and its largest value
abbrev pub masks : List Mask
masks =
    at Fields.linecnt 0 0x0FFC0000 1023
    ∷ at Fields.clkval 0 0x0003FF00 1023
    ∷ at Fields.mmode 0 0x80 1
    ∷ at Fields.pnrmode 0 0x60 3
    ∷ at Fields.bppmode 0 0x1E 15
    ∷ at Fields.envid 0 0x1 1
    ∷ at Fields.vbpd 1 0xFF000000 255
    ∷ at Fields.lineval 1 0x00FFC000 1023
    ∷ at Fields.vfpd 1 0x3FC0 255
    ∷ at Fields.vspw 1 0x3F 63
    ∷ at Fields.hbpd 2 0x03F80000 127
    ∷ at Fields.hozval 2 0x0007FF00 2047
    ∷ at Fields.hfpd 2 0xFF 255
    ∷ at Fields.wdly 2 0x00180000 3
    ∷ at Fields.lineblank 2 0xFF 255
    ∷ at Fields.mval 3 0xFF00 255
    ∷ at Fields.hspw 3 0xFF 255
    ∷ at Fields.wlh 3 0x3 3
    ∷ at Fields.vstatus 4 0x18000 3
    ∷ at Fields.hstatus 4 0x6000 3
    ∷ at Fields.bpp24bl 4 0x1000 1
    ∷ at Fields.frm565 4 0x800 1
    ∷ at Fields.invvclk 4 0x400 1
    ∷ at Fields.invvline 4 0x200 1
    ∷ at Fields.invvframe 4 0x100 1
    ∷ at Fields.invvd 4 0x80 1
    ∷ at Fields.invvden 4 0x40 1
    ∷ at Fields.invpwren 4 0x20 1
    ∷ at Fields.invlend 4 0x10 1
    ∷ at Fields.pwren 4 0x8 1
    ∷ at Fields.enlend 4 0x4 1
    ∷ at Fields.bswp 4 0x2 1
    ∷ at Fields.hwswp 4 0x1 1
    ∷ at Fields.lcdbank 5 0x3FE00000 511
    ∷ at Fields.lcdbaseu 5 0x1FFFFF 2097151
    ∷ at Fields.lcdbasel 6 0x1FFFFF 2097151
    ∷ at Fields.offsize 7 0x3FF800 2047
    ∷ at Fields.pagewidth 7 0x7FF 2047
    ∷ at Fields.tpalen 8 0x1000000 1
    ∷ at Fields.tpalval 8 0xFFFFFF 16777215
    ∷ []

-- the nine words with one of them set, the others 0
abbrev only : ℕ → ℕ → Words
only word x = nine_words (set (replicate 9 0) word x)

abbrev pub agree : List Mask → Bool
agree [] = true
agree (m ∷ ms) =
    eqb (m.value (only m.word m.mask)) m.ones
    && eqb (m.value (only m.word (0xFFFFFFFF - m.mask))) 0
    && agree ms

pub masks-agree : T (agree masks)
masks-agree = tt
