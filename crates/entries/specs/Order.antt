-- The order of the 34 writable fields in a lent slice (§10.2): word after word (§1.1), the fields of a word from its highest bits down
-- (§1.2). Promises cite it, so a reader must believe it.
use Rattle.std.specs.Prelude.{List, ◌++◌, ℕ, get_or}
use Rattle.fields.specs.Writing.{lcdcon1_values, lcdcon2_values, lcdcon3_values, lcdcon4_values, lcdcon5_values}
use Rattle.fields.specs.Writing.{lcdsaddr1_values, lcdsaddr2_values, lcdsaddr3_values, tpal_values}
use Rattle.fields.specs.declared.Fields.{Fields}
use Rattle.fields.specs.declared.Lcdcon1.{Lcdcon1}
use Rattle.fields.specs.declared.Lcdcon2.{Lcdcon2}
use Rattle.fields.specs.declared.Lcdcon3.{Lcdcon3}
use Rattle.fields.specs.declared.Lcdcon4.{Lcdcon4}
use Rattle.fields.specs.declared.Lcdcon5.{Lcdcon5}
use Rattle.fields.specs.declared.Lcdsaddr1.{Lcdsaddr1}
use Rattle.fields.specs.declared.Lcdsaddr2.{Lcdsaddr2}
use Rattle.fields.specs.declared.Lcdsaddr3.{Lcdsaddr3}
use Rattle.fields.specs.declared.Tpal.{Tpal}

-- ---- fields as entries

abbrev pub field_entries : Fields → List ℕ
field_entries f =
    lcdcon1_values f.lcdcon1
    ++ lcdcon2_values f.lcdcon2
    ++ lcdcon3_values f.lcdcon3
    ++ lcdcon4_values f.lcdcon4
    ++ lcdcon5_values f.lcdcon5
    ++ lcdsaddr1_values f.lcdsaddr1
    ++ lcdsaddr2_values f.lcdsaddr2
    ++ lcdsaddr3_values f.lcdsaddr3
    ++ tpal_values f.tpal

-- ---- entries as fields

abbrev pub lcdcon1_in : List ℕ → Lcdcon1
lcdcon1_in s =
    record {
      clkval = get_or s 0 0;
      mmode = get_or s 1 0;
      pnrmode = get_or s 2 0;
      bppmode = get_or s 3 0;
      envid = get_or s 4 0;
    }

abbrev pub lcdcon2_in : List ℕ → Lcdcon2
lcdcon2_in s = record { vbpd = get_or s 5 0; lineval = get_or s 6 0; vfpd = get_or s 7 0; vspw = get_or s 8 0 }

abbrev pub lcdcon3_in : List ℕ → Lcdcon3
lcdcon3_in s = record { hbpd = get_or s 9 0; hozval = get_or s 10 0; hfpd = get_or s 11 0 }

abbrev pub lcdcon4_in : List ℕ → Lcdcon4
lcdcon4_in s = record { mval = get_or s 12 0; hspw = get_or s 13 0 }

abbrev pub lcdcon5_in : List ℕ → Lcdcon5
lcdcon5_in s =
    record {
      bpp24bl = get_or s 14 0;
      frm565 = get_or s 15 0;
      invvclk = get_or s 16 0;
      invvline = get_or s 17 0;
      invvframe = get_or s 18 0;
      invvd = get_or s 19 0;
      invvden = get_or s 20 0;
      invpwren = get_or s 21 0;
      invlend = get_or s 22 0;
      pwren = get_or s 23 0;
      enlend = get_or s 24 0;
      bswp = get_or s 25 0;
      hwswp = get_or s 26 0;
    }

abbrev pub lcdsaddr1_in : List ℕ → Lcdsaddr1
lcdsaddr1_in s = record { lcdbank = get_or s 27 0; lcdbaseu = get_or s 28 0 }

abbrev pub lcdsaddr2_in : List ℕ → Lcdsaddr2
lcdsaddr2_in s = record { lcdbasel = get_or s 29 0 }

abbrev pub lcdsaddr3_in : List ℕ → Lcdsaddr3
lcdsaddr3_in s = record { offsize = get_or s 30 0; pagewidth = get_or s 31 0 }

abbrev pub tpal_in : List ℕ → Tpal
tpal_in s = record { tpalen = get_or s 32 0; tpalval = get_or s 33 0 }

abbrev pub fields_in : List ℕ → Fields
fields_in s =
    record {
      lcdcon1 = lcdcon1_in s;
      lcdcon2 = lcdcon2_in s;
      lcdcon3 = lcdcon3_in s;
      lcdcon4 = lcdcon4_in s;
      lcdcon5 = lcdcon5_in s;
      lcdsaddr1 = lcdsaddr1_in s;
      lcdsaddr2 = lcdsaddr2_in s;
      lcdsaddr3 = lcdsaddr3_in s;
      tpal = tpal_in s;
    }
