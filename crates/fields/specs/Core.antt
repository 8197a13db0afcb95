-- What packing asks of its fields: that each fits, word by word (§1.5). It stands in a private function's `requires` only, and a reader
-- of the promises need not believe it: that it holds where refusal 12 does not is a law (`fields_fit`, proofs/Fitting).
use Rattle.laws.specs.BitFieldLaws.{Fit}
use Rattle.registers.specs.Layouts.{LCDCON1, LCDCON2, LCDCON3, LCDCON4, LCDCON5, LCDSADDR1, LCDSADDR2, LCDSADDR3, TPAL}
use Rattle.fields.specs.Writing.{lcdcon1_values, lcdcon2_values, lcdcon3_values, lcdcon4_values, lcdcon5_values}
use Rattle.fields.specs.Writing.{lcdsaddr1_values, lcdsaddr2_values, lcdsaddr3_values, tpal_values}
use Rattle.fields.specs.declared.Fields.{Fields}

pub record FieldsFit (f : Fields) : Type 0 where
  pub lcdcon1 : Fit LCDCON1 (lcdcon1_values f.lcdcon1)
  pub lcdcon2 : Fit LCDCON2 (lcdcon2_values f.lcdcon2)
  pub lcdcon3 : Fit LCDCON3 (lcdcon3_values f.lcdcon3)
  pub lcdcon4 : Fit LCDCON4 (lcdcon4_values f.lcdcon4)
  pub lcdcon5 : Fit LCDCON5 (lcdcon5_values f.lcdcon5)
  pub lcdsaddr1 : Fit LCDSADDR1 (lcdsaddr1_values f.lcdsaddr1)
  pub lcdsaddr2 : Fit LCDSADDR2 (lcdsaddr2_values f.lcdsaddr2)
  pub lcdsaddr3 : Fit LCDSADDR3 (lcdsaddr3_values f.lcdsaddr3)
  pub tpal : Fit TPAL (tpal_values f.tpal)
