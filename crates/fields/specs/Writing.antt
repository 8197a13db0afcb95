-- The writer (§1.5): words from fields, read-only bits 0 (§1.3); judged by refusal 12 alone (§9.3). Promises cite it, so a reader must
-- believe it.
use Rattle.std.specs.Prelude.{Bool, ◌&&◌, ◌||◌, List, [], ◌∷◌, ℕ, eqb, leb, ltb}
use Rattle.laws.specs.Answers.{Answer, judged}
use Rattle.laws.specs.BitFields.{pack, too_wide}
use Rattle.laws.specs.Booleans.{any}
use Rattle.laws.specs.Cases.{◌when◌, lowest}
use Rattle.registers.specs.Layouts.{LCDCON1, LCDCON2, LCDCON3, LCDCON4, LCDCON5, LCDSADDR1, LCDSADDR2, LCDSADDR3, TPAL}
use Rattle.registers.specs.declared.Words.{Words}
use Rattle.fields.specs.declared.Fields.{Fields}
use Rattle.fields.specs.declared.Lcdcon1.{Lcdcon1}
use Rattle.fields.specs.declared.Lcdcon2.{Lcdcon2}
use Rattle.fields.specs.declared.Lcdcon3.{Lcdcon3}
use Rattle.fields.specs.declared.Lcdcon4.{Lcdcon4}
use Rattle.fields.specs.declared.Lcdcon5.{Lcdcon5}
use Rattle.fields.specs.declared.Lcdsaddr1.{Lcdsaddr1}
use Rattle.fields.specs.declared.Lcdsaddr2.{Lcdsaddr2}
use Rattle.fields.specs.declared.Lcdsaddr3.{Lcdsaddr3}
use Rattle.fields.specs.declared.Tpal.{Tpal}

-- the values of each word's fields, from the highest bits down: the order of the free spans in its layout
abbrev pub lcdcon1_values : Lcdcon1 → List ℕ
lcdcon1_values f = f.clkval ∷ f.mmode ∷ f.pnrmode ∷ f.bppmode ∷ f.envid ∷ []

abbrev pub lcdcon2_values : Lcdcon2 → List ℕ
lcdcon2_values f = f.vbpd ∷ f.lineval ∷ f.vfpd ∷ f.vspw ∷ []

abbrev pub lcdcon3_values : Lcdcon3 → List ℕ
lcdcon3_values f = f.hbpd ∷ f.hozval ∷ f.hfpd ∷ []

abbrev pub lcdcon4_values : Lcdcon4 → List ℕ
lcdcon4_values f = f.mval ∷ f.hspw ∷ []

abbrev pub lcdcon5_values : Lcdcon5 → List ℕ
lcdcon5_values f =
    f.bpp24bl
    ∷ f.frm565
    ∷ f.invvclk
    ∷ f.invvline
    ∷ f.invvframe
    ∷ f.invvd
    ∷ f.invvden
    ∷ f.invpwren
    ∷ f.invlend
    ∷ f.pwren
    ∷ f.enlend
    ∷ f.bswp
    ∷ f.hwswp
    ∷ []

abbrev pub lcdsaddr1_values : Lcdsaddr1 → List ℕ
lcdsaddr1_values f = f.lcdbank ∷ f.lcdbaseu ∷ []

abbrev pub lcdsaddr2_values : Lcdsaddr2 → List ℕ
lcdsaddr2_values f = f.lcdbasel ∷ []

abbrev pub lcdsaddr3_values : Lcdsaddr3 → List ℕ
lcdsaddr3_values f = f.offsize ∷ f.pagewidth ∷ []

abbrev pub tpal_values : Tpal → List ℕ
tpal_values f = f.tpalen ∷ f.tpalval ∷ []

abbrev pub words_of : Fields → Words
words_of f =
    record {
      lcdcon1 = pack LCDCON1 (lcdcon1_values f.lcdcon1);
      lcdcon2 = pack LCDCON2 (lcdcon2_values f.lcdcon2);
      lcdcon3 = pack LCDCON3 (lcdcon3_values f.lcdcon3);
      lcdcon4 = pack LCDCON4 (lcdcon4_values f.lcdcon4);
      lcdcon5 = pack LCDCON5 (lcdcon5_values f.lcdcon5);
      lcdsaddr1 = pack LCDSADDR1 (lcdsaddr1_values f.lcdsaddr1);
      lcdsaddr2 = pack LCDSADDR2 (lcdsaddr2_values f.lcdsaddr2);
      lcdsaddr3 = pack LCDSADDR3 (lcdsaddr3_values f.lcdsaddr3);
      tpal = pack TPAL (tpal_values f.tpal);
    }

-- for each word, whether one of its fields is too wide
abbrev pub wide_words : Fields → List Bool
wide_words f =
    too_wide LCDCON1 (lcdcon1_values f.lcdcon1)
    ∷ too_wide LCDCON2 (lcdcon2_values f.lcdcon2)
    ∷ too_wide LCDCON3 (lcdcon3_values f.lcdcon3)
    ∷ too_wide LCDCON4 (lcdcon4_values f.lcdcon4)
    ∷ too_wide LCDCON5 (lcdcon5_values f.lcdcon5)
    ∷ too_wide LCDSADDR1 (lcdsaddr1_values f.lcdsaddr1)
    ∷ too_wide LCDSADDR2 (lcdsaddr2_values f.lcdsaddr2)
    ∷ too_wide LCDSADDR3 (lcdsaddr3_values f.lcdsaddr3)
    ∷ too_wide TPAL (tpal_values f.tpal)
    ∷ []

-- 12 (§1.5): a field does not fit its bits
unfoldable pub field_too_wide : Fields → Bool
field_too_wide f = any (wide_words f)

-- the fields set a bit that is reserved on the STN panel they select (§1.7): above WDLY in HBPD, above WLH in HSPW, or in TPAL. The
-- writer does not judge it; reading the words then gives 1 (§1.6)
unfoldable pub reserved_on_stn : Fields → Bool
reserved_on_stn f =
    eqb f.lcdcon1.pnrmode 2
    && any
    (leb 4 f.lcdcon3.hbpd ∷ leb 4 f.lcdcon4.hspw ∷ (ltb 0 f.tpal.tpalen || ltb 0 f.tpal.tpalval) ∷ [])

-- the words, or 12 (§1.5)
unfoldable pub write : Fields → Answer Words
write f = judged (lowest (12 when field_too_wide f ∷ [])) (words_of f)
