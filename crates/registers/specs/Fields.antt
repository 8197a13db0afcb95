-- Each field of the nine words by name (§1.2, §1.7), and refusal 1 (§1.3, §1.7). Which bits a field has stands in Layouts. Promises cite
-- it, so a reader must believe it.
use Rattle.std.specs.Prelude.{Bool, ◌&&◌, ◌||◌, List, [], ◌∷◌, ℕ, eqb}
use Rattle.laws.specs.BitFields.{field, reserved_set}
use Rattle.laws.specs.Booleans.{any}
use Rattle.registers.specs.declared.Words.{Words}
use Rattle.registers.specs.Layouts.{LCDCON1, LINECNT, CLKVAL, MMODE, PNRMODE, BPPMODE, ENVID}
use Rattle.registers.specs.Layouts.{LCDCON2, VBPD, LINEVAL, VFPD, VSPW}
use Rattle.registers.specs.Layouts.{LCDCON3, HBPD, HOZVAL, HFPD, STN-LCDCON3, WDLY, LINEBLANK}
use Rattle.registers.specs.Layouts.{LCDCON4, MVAL, HSPW, STN-LCDCON4, WLH}
use Rattle.registers.specs.Layouts.{LCDCON5, VSTATUS, HSTATUS, BPP24BL, FRM565, INVVCLK, INVVLINE, INVVFRAME, INVVD, INVVDEN, INVPWREN, INVLEND, PWREN, ENLEND, BSWP, HWSWP}
use Rattle.registers.specs.Layouts.{LCDSADDR1, LCDBANK, LCDBASEU}
use Rattle.registers.specs.Layouts.{LCDSADDR2, LCDBASEL}
use Rattle.registers.specs.Layouts.{LCDSADDR3, OFFSIZE, PAGEWIDTH}
use Rattle.registers.specs.Layouts.{TPAL, TPALEN, TPALVAL, STN-TPAL}

-- ---- LCDCON1
abbrev pub linecnt : Words → ℕ
linecnt w = field LINECNT w.lcdcon1

abbrev pub clkval : Words → ℕ
clkval w = field CLKVAL w.lcdcon1

abbrev pub mmode : Words → ℕ
mmode w = field MMODE w.lcdcon1

abbrev pub pnrmode : Words → ℕ
pnrmode w = field PNRMODE w.lcdcon1

abbrev pub bppmode : Words → ℕ
bppmode w = field BPPMODE w.lcdcon1

abbrev pub envid : Words → ℕ
envid w = field ENVID w.lcdcon1

-- ---- LCDCON2
abbrev pub vbpd : Words → ℕ
vbpd w = field VBPD w.lcdcon2

abbrev pub lineval : Words → ℕ
lineval w = field LINEVAL w.lcdcon2

abbrev pub vfpd : Words → ℕ
vfpd w = field VFPD w.lcdcon2

abbrev pub vspw : Words → ℕ
vspw w = field VSPW w.lcdcon2

-- ---- LCDCON3
abbrev pub hbpd : Words → ℕ
hbpd w = field HBPD w.lcdcon3

abbrev pub hozval : Words → ℕ
hozval w = field HOZVAL w.lcdcon3

abbrev pub hfpd : Words → ℕ
hfpd w = field HFPD w.lcdcon3

abbrev pub wdly : Words → ℕ
wdly w = field WDLY w.lcdcon3

abbrev pub lineblank : Words → ℕ
lineblank w = field LINEBLANK w.lcdcon3

-- ---- LCDCON4
abbrev pub mval : Words → ℕ
mval w = field MVAL w.lcdcon4

abbrev pub hspw : Words → ℕ
hspw w = field HSPW w.lcdcon4

abbrev pub wlh : Words → ℕ
wlh w = field WLH w.lcdcon4

-- ---- LCDCON5
abbrev pub vstatus : Words → ℕ
vstatus w = field VSTATUS w.lcdcon5

abbrev pub hstatus : Words → ℕ
hstatus w = field HSTATUS w.lcdcon5

abbrev pub bpp24bl : Words → ℕ
bpp24bl w = field BPP24BL w.lcdcon5

abbrev pub frm565 : Words → ℕ
frm565 w = field FRM565 w.lcdcon5

abbrev pub invvclk : Words → ℕ
invvclk w = field INVVCLK w.lcdcon5

abbrev pub invvline : Words → ℕ
invvline w = field INVVLINE w.lcdcon5

abbrev pub invvframe : Words → ℕ
invvframe w = field INVVFRAME w.lcdcon5

abbrev pub invvd : Words → ℕ
invvd w = field INVVD w.lcdcon5

abbrev pub invvden : Words → ℕ
invvden w = field INVVDEN w.lcdcon5

abbrev pub invpwren : Words → ℕ
invpwren w = field INVPWREN w.lcdcon5

abbrev pub invlend : Words → ℕ
invlend w = field INVLEND w.lcdcon5

abbrev pub pwren : Words → ℕ
pwren w = field PWREN w.lcdcon5

abbrev pub enlend : Words → ℕ
enlend w = field ENLEND w.lcdcon5

abbrev pub bswp : Words → ℕ
bswp w = field BSWP w.lcdcon5

abbrev pub hwswp : Words → ℕ
hwswp w = field HWSWP w.lcdcon5

-- ---- LCDSADDR1
abbrev pub lcdbank : Words → ℕ
lcdbank w = field LCDBANK w.lcdsaddr1

abbrev pub lcdbaseu : Words → ℕ
lcdbaseu w = field LCDBASEU w.lcdsaddr1

-- ---- LCDSADDR2
abbrev pub lcdbasel : Words → ℕ
lcdbasel w = field LCDBASEL w.lcdsaddr2

-- ---- LCDSADDR3
abbrev pub offsize : Words → ℕ
offsize w = field OFFSIZE w.lcdsaddr3

abbrev pub pagewidth : Words → ℕ
pagewidth w = field PAGEWIDTH w.lcdsaddr3

-- ---- TPAL
abbrev pub tpalen : Words → ℕ
tpalen w = field TPALEN w.tpal

abbrev pub tpalval : Words → ℕ
tpalval w = field TPALVAL w.tpal

-- PNRMODE selects an STN panel: 8 bits, single scan (§1.7)
unfoldable pub stn : Words → Bool
stn w = eqb (pnrmode w) 2

-- for each word, whether a bit of it is set that is reserved on every panel (§1.3)
abbrev pub reserved_words : Words → List Bool
reserved_words w =
    reserved_set LCDCON1 w.lcdcon1
    ∷ reserved_set LCDCON2 w.lcdcon2
    ∷ reserved_set LCDCON3 w.lcdcon3
    ∷ reserved_set LCDCON4 w.lcdcon4
    ∷ reserved_set LCDCON5 w.lcdcon5
    ∷ reserved_set LCDSADDR1 w.lcdsaddr1
    ∷ reserved_set LCDSADDR2 w.lcdsaddr2
    ∷ reserved_set LCDSADDR3 w.lcdsaddr3
    ∷ reserved_set TPAL w.tpal
    ∷ []

-- the same for the three words that have another layout on an STN panel (§1.7)
abbrev pub stn_reserved_words : Words → List Bool
stn_reserved_words w =
    reserved_set STN-LCDCON3 w.lcdcon3 ∷ reserved_set STN-LCDCON4 w.lcdcon4 ∷ reserved_set STN-TPAL w.tpal ∷ []

-- 1 (§1.3): some word has a reserved bit set; on an STN panel more bits are reserved (§1.7)
unfoldable pub reserved_bit : Words → Bool
reserved_bit w = any (reserved_words w) || (stn w && any (stn_reserved_words w))
