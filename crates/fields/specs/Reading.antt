-- Reading the fields of the nine words (§1.4), judged by refusal 1 alone (§9.3). Promises cite it, so a reader must believe it.
use Rattle.std.specs.Prelude.{[], ◌∷◌}
use Rattle.laws.specs.Answers.{Answer, judged}
use Rattle.laws.specs.Cases.{◌when◌, lowest}
use Rattle.registers.specs.declared.Words.{Words}
use Rattle.registers.specs.Fields as Fields
use Rattle.registers.specs.Fields.{reserved_bit}
use Rattle.fields.specs.declared.Fields.{Fields}
use Rattle.fields.specs.declared.Lcdcon1.{Lcdcon1}
use Rattle.fields.specs.declared.Lcdcon2.{Lcdcon2}
use Rattle.fields.specs.declared.Lcdcon3.{Lcdcon3}
use Rattle.fields.specs.declared.Lcdcon4.{Lcdcon4}
use Rattle.fields.specs.declared.Lcdcon5.{Lcdcon5}
use Rattle.fields.specs.declared.Lcdsaddr1.{Lcdsaddr1}
use Rattle.fields.specs.declared.Lcdsaddr2.{Lcdsaddr2}
use Rattle.fields.specs.declared.Lcdsaddr3.{Lcdsaddr3}
use Rattle.fields.specs.declared.Tpal.{Tpal}

-- the writable fields of each word; read-only ones are left out (§1.3)
abbrev pub lcdcon1_of : Words → Lcdcon1
lcdcon1_of w =
    record {
      clkval = Fields.clkval w;
      mmode = Fields.mmode w;
      pnrmode = Fields.pnrmode w;
      bppmode = Fields.bppmode w;
      envid = Fields.envid w;
    }

abbrev pub lcdcon2_of : Words → Lcdcon2
lcdcon2_of w = record { vbpd = Fields.vbpd w; lineval = Fields.lineval w; vfpd = Fields.vfpd w; vspw = Fields.vspw w }

abbrev pub lcdcon3_of : Words → Lcdcon3
lcdcon3_of w = record { hbpd = Fields.hbpd w; hozval = Fields.hozval w; hfpd = Fields.hfpd w }

abbrev pub lcdcon4_of : Words → Lcdcon4
lcdcon4_of w = record { mval = Fields.mval w; hspw = Fields.hspw w }

abbrev pub lcdcon5_of : Words → Lcdcon5
lcdcon5_of w =
    record {
      bpp24bl = Fields.bpp24bl w;
      frm565 = Fields.frm565 w;
      invvclk = Fields.invvclk w;
      invvline = Fields.invvline w;
      invvframe = Fields.invvframe w;
      invvd = Fields.invvd w;
      invvden = Fields.invvden w;
      invpwren = Fields.invpwren w;
      invlend = Fields.invlend w;
      pwren = Fields.pwren w;
      enlend = Fields.enlend w;
      bswp = Fields.bswp w;
      hwswp = Fields.hwswp w;
    }

abbrev pub lcdsaddr1_of : Words → Lcdsaddr1
lcdsaddr1_of w = record { lcdbank = Fields.lcdbank w; lcdbaseu = Fields.lcdbaseu w }

abbrev pub lcdsaddr2_of : Words → Lcdsaddr2
lcdsaddr2_of w = record { lcdbasel = Fields.lcdbasel w }

abbrev pub lcdsaddr3_of : Words → Lcdsaddr3
lcdsaddr3_of w = record { offsize = Fields.offsize w; pagewidth = Fields.pagewidth w }

abbrev pub tpal_of : Words → Tpal
tpal_of w = record { tpalen = Fields.tpalen w; tpalval = Fields.tpalval w }

abbrev pub fields_of : Words → Fields
fields_of w =
    record {
      lcdcon1 = lcdcon1_of w;
      lcdcon2 = lcdcon2_of w;
      lcdcon3 = lcdcon3_of w;
      lcdcon4 = lcdcon4_of w;
      lcdcon5 = lcdcon5_of w;
      lcdsaddr1 = lcdsaddr1_of w;
      lcdsaddr2 = lcdsaddr2_of w;
      lcdsaddr3 = lcdsaddr3_of w;
      tpal = tpal_of w;
    }

-- the fields, or 1 (§1.4)
unfoldable pub read : Words → Answer Fields
read w = judged (lowest (1 when reserved_bit w ∷ [])) (fields_of w)
