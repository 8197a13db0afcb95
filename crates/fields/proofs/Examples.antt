-- T9 (§13.1), tried on the definitions: the nine words of the 240 by 320 panel from its fields and back, and one field a bit too wide.
use mathlib.Core.Path.{◌≡◌, refl}
use Prim.Native.Nat.{ℕ}
use Rattle.laws.specs.Answers.{accepted, refused, judged}
use Rattle.laws.specs.Cases.{lowest, lower}
use Rattle.registers.specs.Fields.{stn, reserved_bit}
use Rattle.registers.specs.declared.Words.{Words}
use Rattle.fields.specs.Reading.{read}
use Rattle.fields.specs.Writing.{write, field_too_wide}
use Rattle.fields.specs.declared.Fields.{Fields}

-- the panel's fields, with a given PAGEWIDTH
abbrev panel : ℕ → Fields
panel pagewidth =
    record {
      lcdcon1 = record { clkval = 4; mmode = 0; pnrmode = 3; bppmode = 12; envid = 1 };
      lcdcon2 = record { vbpd = 1; lineval = 319; vfpd = 1; vspw = 1 };
      lcdcon3 = record { hbpd = 19; hozval = 239; hfpd = 9 };
      lcdcon4 = record { mval = 0; hspw = 9 };
      lcdcon5 = record {
        bpp24bl = 0;
        frm565 = 1;
        invvclk = 0;
        invvline = 1;
        invvframe = 1;
        invvd = 0;
        invvden = 0;
        invpwren = 0;
        invlend = 0;
        pwren = 1;
        enlend = 0;
        bswp = 0;
        hwswp = 1;
      };
      lcdsaddr1 = record { lcdbank = 192; lcdbaseu = 0 };
      lcdsaddr2 = record { lcdbasel = 76800 };
      lcdsaddr3 = record { offsize = 0; pagewidth = pagewidth };
      tpal = record { tpalen = 0; tpalval = 0 };
    }

abbrev words : Words
words =
    record {
      lcdcon1 = 0x479;
      lcdcon2 = 0x014FC041;
      lcdcon3 = 0x0098EF09;
      lcdcon4 = 0x9;
      lcdcon5 = 0xB09;
      lcdsaddr1 = 0x18000000;
      lcdsaddr2 = 0x12C00;
      lcdsaddr3 = 0xF0;
      tpal = 0;
    }

pub t9 : (write (panel 240) ≡ accepted words) × (read words ≡ accepted (panel 240))
unfolding write read judged lowest lower field_too_wide reserved_bit stn
t9 = (refl, refl)

pub one-bit-too-wide : write (panel 2048) ≡ refused 12
unfolding write judged lowest lower field_too_wide
one-bit-too-wide = refl
