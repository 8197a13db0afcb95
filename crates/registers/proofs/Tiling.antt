-- The layouts of the nine words leave no bit out and take none twice (§1.2, §1.3, §1.7).
use mathlib.Core.Bool.{◌&&◌}
use lib.Dec.{T}
use Rattle.laws.specs.BitFields.{tiles}
use Rattle.registers.specs.Layouts.{LCDCON1, LCDCON2, LCDCON3, LCDCON4, LCDCON5, LCDSADDR1, LCDSADDR2, LCDSADDR3, TPAL}
use Rattle.registers.specs.Layouts.{STN-LCDCON3, STN-LCDCON4, STN-TPAL}

-- each of the 32 bits of each word lies in one span
pub each-bit-once :
    T
    (tiles 32 LCDCON1
    && tiles 32 LCDCON2
    && tiles 32 LCDCON3
    && tiles 32 LCDCON4
    && tiles 32 LCDCON5
    && tiles 32 LCDSADDR1
    && tiles 32 LCDSADDR2
    && tiles 32 LCDSADDR3
    && tiles 32 TPAL
    && tiles 32 STN-LCDCON3
    && tiles 32 STN-LCDCON4
    && tiles 32 STN-TPAL)
each-bit-once = tt
