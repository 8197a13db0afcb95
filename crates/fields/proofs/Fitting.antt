-- Fields that are not too wide fit, word by word: what packing asks where 12 does not hold (§1.5).
use mathlib.Core.Bool.{false}
use mathlib.Core.Path.{◌≡◌}
use Rattle.laws.proofs.BitFieldLaws.{all_fit}
use Rattle.laws.specs.BooleanLaws.{AllFalse, all-false}
use Rattle.registers.specs.Layouts.{LCDCON1, LCDCON2, LCDCON3, LCDCON4, LCDCON5, LCDSADDR1, LCDSADDR2, LCDSADDR3, TPAL}
use Rattle.fields.specs.Core.{FieldsFit}
use Rattle.fields.specs.Writing.{field_too_wide, wide_words}
use Rattle.fields.specs.Writing.{lcdcon1_values, lcdcon2_values, lcdcon3_values, lcdcon4_values, lcdcon5_values}
use Rattle.fields.specs.Writing.{lcdsaddr1_values, lcdsaddr2_values, lcdsaddr3_values, tpal_values}
use Rattle.fields.specs.declared.Fields.{Fields}

pub fields_fit : (f : Fields) → field_too_wide f ≡ false → FieldsFit f
unfolding field_too_wide
fields_fit f e =
    record {
      lcdcon1 = all_fit LCDCON1 (lcdcon1_values f.lcdcon1) none.0;
      lcdcon2 = all_fit LCDCON2 (lcdcon2_values f.lcdcon2) none.1.0;
      lcdcon3 = all_fit LCDCON3 (lcdcon3_values f.lcdcon3) none.1.1.0;
      lcdcon4 = all_fit LCDCON4 (lcdcon4_values f.lcdcon4) none.1.1.1.0;
      lcdcon5 = all_fit LCDCON5 (lcdcon5_values f.lcdcon5) none.1.1.1.1.0;
      lcdsaddr1 = all_fit LCDSADDR1 (lcdsaddr1_values f.lcdsaddr1) none.1.1.1.1.1.0;
      lcdsaddr2 = all_fit LCDSADDR2 (lcdsaddr2_values f.lcdsaddr2) none.1.1.1.1.1.1.0;
      lcdsaddr3 = all_fit LCDSADDR3 (lcdsaddr3_values f.lcdsaddr3) none.1.1.1.1.1.1.1.0;
      tpal = all_fit TPAL (tpal_values f.tpal) none.1.1.1.1.1.1.1.1.0;
    }
  where
    none : AllFalse (wide_words f)
    none = all-false (wide_words f) e
