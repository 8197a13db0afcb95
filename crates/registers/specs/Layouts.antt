-- The nine words bit by bit (§1.2), in the order of §1.1: each field once, by its highest and lowest bit, and each word as one list
-- from bit 31 down. Bits of no field are reserved (§1.3). Three words have another layout on an STN panel (§1.7). Promises cite it, so
-- a reader must believe it.
use Rattle.std.specs.Prelude.{List, [], ◌∷◌}
use Rattle.laws.specs.BitFields.{Span, free, read_only, reserved}

-- LCDCON1: LINECNT 27..18 (read-only), CLKVAL 17..8, MMODE 7, PNRMODE 6..5, BPPMODE 4..1, ENVID 0.
abbrev pub LINECNT : Span
LINECNT = read_only 27 18

abbrev pub CLKVAL : Span
CLKVAL = free 17 8

abbrev pub MMODE : Span
MMODE = free 7 7

abbrev pub PNRMODE : Span
PNRMODE = free 6 5

abbrev pub BPPMODE : Span
BPPMODE = free 4 1

abbrev pub ENVID : Span
ENVID = free 0 0

abbrev pub LCDCON1 : List Span
LCDCON1 = reserved 31 28 ∷ LINECNT ∷ CLKVAL ∷ MMODE ∷ PNRMODE ∷ BPPMODE ∷ ENVID ∷ []

-- LCDCON2: VBPD 31..24, LINEVAL 23..14, VFPD 13..6, VSPW 5..0.
abbrev pub VBPD : Span
VBPD = free 31 24

abbrev pub LINEVAL : Span
LINEVAL = free 23 14

abbrev pub VFPD : Span
VFPD = free 13 6

abbrev pub VSPW : Span
VSPW = free 5 0

abbrev pub LCDCON2 : List Span
LCDCON2 = VBPD ∷ LINEVAL ∷ VFPD ∷ VSPW ∷ []

-- LCDCON3: HBPD 25..19, HOZVAL 18..8, HFPD 7..0.
abbrev pub HBPD : Span
HBPD = free 25 19

abbrev pub HOZVAL : Span
HOZVAL = free 18 8

abbrev pub HFPD : Span
HFPD = free 7 0

abbrev pub LCDCON3 : List Span
LCDCON3 = reserved 31 26 ∷ HBPD ∷ HOZVAL ∷ HFPD ∷ []

-- on STN: WDLY 20..19, HOZVAL 18..8, LINEBLANK 7..0.
abbrev pub WDLY : Span
WDLY = free 20 19

abbrev pub LINEBLANK : Span
LINEBLANK = free 7 0

abbrev pub STN-LCDCON3 : List Span
STN-LCDCON3 = reserved 31 21 ∷ WDLY ∷ HOZVAL ∷ LINEBLANK ∷ []

-- LCDCON4: MVAL 15..8, HSPW 7..0.
abbrev pub MVAL : Span
MVAL = free 15 8

abbrev pub HSPW : Span
HSPW = free 7 0

abbrev pub LCDCON4 : List Span
LCDCON4 = reserved 31 16 ∷ MVAL ∷ HSPW ∷ []

-- on STN: MVAL 15..8, WLH 1..0.
abbrev pub WLH : Span
WLH = free 1 0

abbrev pub STN-LCDCON4 : List Span
STN-LCDCON4 = reserved 31 16 ∷ MVAL ∷ reserved 7 2 ∷ WLH ∷ []

-- LCDCON5: VSTATUS 16..15 and HSTATUS 14..13 (read-only), BPP24BL 12, FRM565 11, INVVCLK 10, INVVLINE 9, INVVFRAME 8, INVVD 7,
-- INVVDEN 6, INVPWREN 5, INVLEND 4, PWREN 3, ENLEND 2, BSWP 1, HWSWP 0.
abbrev pub VSTATUS : Span
VSTATUS = read_only 16 15

abbrev pub HSTATUS : Span
HSTATUS = read_only 14 13

abbrev pub BPP24BL : Span
BPP24BL = free 12 12

abbrev pub FRM565 : Span
FRM565 = free 11 11

abbrev pub INVVCLK : Span
INVVCLK = free 10 10

abbrev pub INVVLINE : Span
INVVLINE = free 9 9

abbrev pub INVVFRAME : Span
INVVFRAME = free 8 8

abbrev pub INVVD : Span
INVVD = free 7 7

abbrev pub INVVDEN : Span
INVVDEN = free 6 6

abbrev pub INVPWREN : Span
INVPWREN = free 5 5

abbrev pub INVLEND : Span
INVLEND = free 4 4

abbrev pub PWREN : Span
PWREN = free 3 3

abbrev pub ENLEND : Span
ENLEND = free 2 2

abbrev pub BSWP : Span
BSWP = free 1 1

abbrev pub HWSWP : Span
HWSWP = free 0 0

abbrev pub LCDCON5 : List Span
LCDCON5 =
    reserved 31 17
    ∷ VSTATUS
    ∷ HSTATUS
    ∷ BPP24BL
    ∷ FRM565
    ∷ INVVCLK
    ∷ INVVLINE
    ∷ INVVFRAME
    ∷ INVVD
    ∷ INVVDEN
    ∷ INVPWREN
    ∷ INVLEND
    ∷ PWREN
    ∷ ENLEND
    ∷ BSWP
    ∷ HWSWP
    ∷ []

-- LCDSADDR1: LCDBANK 29..21, LCDBASEU 20..0.
abbrev pub LCDBANK : Span
LCDBANK = free 29 21

abbrev pub LCDBASEU : Span
LCDBASEU = free 20 0

abbrev pub LCDSADDR1 : List Span
LCDSADDR1 = reserved 31 30 ∷ LCDBANK ∷ LCDBASEU ∷ []

-- LCDSADDR2: LCDBASEL 20..0.
abbrev pub LCDBASEL : Span
LCDBASEL = free 20 0

abbrev pub LCDSADDR2 : List Span
LCDSADDR2 = reserved 31 21 ∷ LCDBASEL ∷ []

-- LCDSADDR3: OFFSIZE 21..11, PAGEWIDTH 10..0.
abbrev pub OFFSIZE : Span
OFFSIZE = free 21 11

abbrev pub PAGEWIDTH : Span
PAGEWIDTH = free 10 0

abbrev pub LCDSADDR3 : List Span
LCDSADDR3 = reserved 31 22 ∷ OFFSIZE ∷ PAGEWIDTH ∷ []

-- TPAL: TPALEN 24, TPALVAL 23..0.
abbrev pub TPALEN : Span
TPALEN = free 24 24

abbrev pub TPALVAL : Span
TPALVAL = free 23 0

abbrev pub TPAL : List Span
TPAL = reserved 31 25 ∷ TPALEN ∷ TPALVAL ∷ []

-- on STN: no field.
abbrev pub STN-TPAL : List Span
STN-TPAL = reserved 31 0 ∷ []
