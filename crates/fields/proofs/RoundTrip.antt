-- The two round trips (§1.6): reading what the writer made gives the fields back, unless they set a bit that is reserved on an STN panel
-- (§1.7), and writing what was read gives the words back with their read-only bits 0. Both follow from the layouts, word by word, by one
-- law each. The only assumption is that each word has 32 bits.
use mathlib.Core.Bool.{Bool, true, false, ◌&&◌, ◌||◌}
use mathlib.Core.List.{List, [], ◌∷◌}
use mathlib.Core.Path.{◌≡◌, refl, sym, ap, ap₂, ◌∙◌}
use Prim.Native.Nat.{ℕ, zero, suc, ◌+◌, ◌-◌, ◌*◌, ◌^◌, ◌<◌, ◌≤◌}
use native.Mathlib.Omega.{arith}
use borrow.Author.Tests.{lt-ltb, le-ltb, leb-true, leb-false}
use lib.Dec.{eqb, leb, ltb}
use lib.ListN.{get_or}
use Rattle.laws.specs.Answers.{accepted, judged}
use Rattle.laws.proofs.AnswerLaws.{one-accepts, one-accepted}
use Rattle.laws.specs.Booleans.{any}
use Rattle.laws.specs.Cases.{◌when◌, lowest}
use Rattle.laws.specs.BitFields.{read_only_bits, reserved_set, pack, field, reserved}
use Rattle.laws.proofs.BitFieldLaws.{packed-and-read, packed-is-clear, values-narrow, read-and-packed}
use Rattle.laws.specs.BooleanLaws.{AllFalse, all-false, none_true, or-false-left, or-never}
use Rattle.registers.specs.Fields.{stn, reserved_bit, reserved_words, stn_reserved_words}
use Rattle.registers.specs.Layouts.{LCDCON1, LCDCON2, LCDCON3, LCDCON4, LCDCON5, LCDSADDR1, LCDSADDR2, LCDSADDR3, TPAL}
use Rattle.registers.specs.Layouts.{STN-LCDCON3, STN-LCDCON4, STN-TPAL}
use Rattle.registers.specs.declared.Words.{Words}
use Rattle.fields.specs.Core.{FieldsFit}
use Rattle.fields.proofs.Fitting.{fields_fit}
use Rattle.fields.specs.Reading.{read, fields_of}
use Rattle.fields.specs.Writing.{write, words_of, field_too_wide, wide_words, reserved_on_stn}
use Rattle.fields.specs.Writing.{lcdcon1_values, lcdcon2_values, lcdcon3_values, lcdcon4_values, lcdcon5_values}
use Rattle.fields.specs.Writing.{lcdsaddr1_values, lcdsaddr2_values, lcdsaddr3_values, tpal_values}
use Rattle.fields.specs.declared.Fields.{Fields}
use Rattle.fields.specs.declared.Lcdcon1.{Lcdcon1}
use Rattle.fields.specs.declared.Lcdcon2.{Lcdcon2}
use Rattle.fields.specs.declared.Lcdcon3.{Lcdcon3}
use Rattle.fields.specs.declared.Lcdcon4.{Lcdcon4}
use Rattle.fields.specs.declared.Lcdcon5.{Lcdcon5}
use Rattle.fields.specs.declared.Lcdsaddr1.{Lcdsaddr1}
use Rattle.fields.specs.declared.Lcdsaddr2.{Lcdsaddr2}
use Rattle.fields.specs.declared.Lcdsaddr3.{Lcdsaddr3}
use Rattle.fields.specs.declared.Tpal.{Tpal}

-- each word has 32 bits, as every u32 has
pub record Each32 (w : Words) : Type 0 where
  pub lcdcon1 : w.lcdcon1 < 2 ^ 32
  pub lcdcon2 : w.lcdcon2 < 2 ^ 32
  pub lcdcon3 : w.lcdcon3 < 2 ^ 32
  pub lcdcon4 : w.lcdcon4 < 2 ^ 32
  pub lcdcon5 : w.lcdcon5 < 2 ^ 32
  pub lcdsaddr1 : w.lcdsaddr1 < 2 ^ 32
  pub lcdsaddr2 : w.lcdsaddr2 < 2 ^ 32
  pub lcdsaddr3 : w.lcdsaddr3 < 2 ^ 32
  pub tpal : w.tpal < 2 ^ 32

-- the words with their read-only bits 0
abbrev pub without_read_only : Words → Words
without_read_only w =
    record {
      lcdcon1 = w.lcdcon1 - read_only_bits LCDCON1 w.lcdcon1;
      lcdcon2 = w.lcdcon2 - read_only_bits LCDCON2 w.lcdcon2;
      lcdcon3 = w.lcdcon3 - read_only_bits LCDCON3 w.lcdcon3;
      lcdcon4 = w.lcdcon4 - read_only_bits LCDCON4 w.lcdcon4;
      lcdcon5 = w.lcdcon5 - read_only_bits LCDCON5 w.lcdcon5;
      lcdsaddr1 = w.lcdsaddr1 - read_only_bits LCDSADDR1 w.lcdsaddr1;
      lcdsaddr2 = w.lcdsaddr2 - read_only_bits LCDSADDR2 w.lcdsaddr2;
      lcdsaddr3 = w.lcdsaddr3 - read_only_bits LCDSADDR3 w.lcdsaddr3;
      tpal = w.tpal - read_only_bits TPAL w.tpal;
    }

-- ---- each word's struct from the list of its values

lcdcon1-from : List ℕ → Lcdcon1
lcdcon1-from vs =
    record {
      clkval = get_or vs 0 0;
      mmode = get_or vs 1 0;
      pnrmode = get_or vs 2 0;
      bppmode = get_or vs 3 0;
      envid = get_or vs 4 0;
    }

lcdcon2-from : List ℕ → Lcdcon2
lcdcon2-from vs = record { vbpd = get_or vs 0 0; lineval = get_or vs 1 0; vfpd = get_or vs 2 0; vspw = get_or vs 3 0 }

lcdcon3-from : List ℕ → Lcdcon3
lcdcon3-from vs = record { hbpd = get_or vs 0 0; hozval = get_or vs 1 0; hfpd = get_or vs 2 0 }

lcdcon4-from : List ℕ → Lcdcon4
lcdcon4-from vs = record { mval = get_or vs 0 0; hspw = get_or vs 1 0 }

lcdcon5-from : List ℕ → Lcdcon5
lcdcon5-from vs =
    record {
      bpp24bl = get_or vs 0 0;
      frm565 = get_or vs 1 0;
      invvclk = get_or vs 2 0;
      invvline = get_or vs 3 0;
      invvframe = get_or vs 4 0;
      invvd = get_or vs 5 0;
      invvden = get_or vs 6 0;
      invpwren = get_or vs 7 0;
      invlend = get_or vs 8 0;
      pwren = get_or vs 9 0;
      enlend = get_or vs 10 0;
      bswp = get_or vs 11 0;
      hwswp = get_or vs 12 0;
    }

lcdsaddr1-from : List ℕ → Lcdsaddr1
lcdsaddr1-from vs = record { lcdbank = get_or vs 0 0; lcdbaseu = get_or vs 1 0 }

lcdsaddr2-from : List ℕ → Lcdsaddr2
lcdsaddr2-from vs = record { lcdbasel = get_or vs 0 0 }

lcdsaddr3-from : List ℕ → Lcdsaddr3
lcdsaddr3-from vs = record { offsize = get_or vs 0 0; pagewidth = get_or vs 1 0 }

tpal-from : List ℕ → Tpal
tpal-from vs = record { tpalen = get_or vs 0 0; tpalval = get_or vs 1 0 }

-- ---- fields written and read back

-- a number x that is above 0 exactly where v reaches k
above-as-test : (k v x : ℕ) → (k ≤ v → 0 < x) → (v < k → x ≤ 0) → ltb 0 x ≡ leb k v
above-as-test k v x reaches below = go (leb k v) refl
  where
    go : (b : Bool) → leb k v ≡ b → ltb 0 x ≡ leb k v
    go true e = lt-ltb 0 x (reaches (leb-true k v e)) ∙ sym e
    go false e = le-ltb 0 x (below (leb-false k v e)) ∙ sym e

-- two values of a word that has no other bits: the word is above 0 where one of them is
both-in-word : (a b : ℕ) → a < 2 → b < 2 ^ 24
    → ltb 0 (field (reserved 31 0) (0 + (a * 2 ^ 24 + (b * 2 ^ 0 + 0)))) ≡ ltb 0 a || ltb 0 b
both-in-word zero b h k =
    let same : field (reserved 31 0) (0 + (zero * 2 ^ 24 + (b * 2 ^ 0 + 0))) ≡ b = omega arith in ap (ltb 0) same
both-in-word (suc a) b h k =
    lt-ltb 0 (field (reserved 31 0) (0 + (suc a * 2 ^ 24 + (b * 2 ^ 0 + 0)))) (omega arith)
    ∙ ap (λ (t : Bool). t || ltb 0 b) (sym (lt-ltb 0 (suc a) (omega arith)))

module _ (f : Fields) (fit : FieldsFit f) where
  same-fields : fields_of (words_of f) ≡ f
  unfolding lcdcon1-from lcdcon2-from lcdcon3-from lcdcon4-from lcdcon5-from lcdsaddr1-from lcdsaddr2-from lcdsaddr3-from tpal-from
  same-fields =
      λ i. record {
        lcdcon1 = ap lcdcon1-from (packed-and-read 32 LCDCON1 (lcdcon1_values f.lcdcon1) tt fit.lcdcon1 refl) i;
        lcdcon2 = ap lcdcon2-from (packed-and-read 32 LCDCON2 (lcdcon2_values f.lcdcon2) tt fit.lcdcon2 refl) i;
        lcdcon3 = ap lcdcon3-from (packed-and-read 32 LCDCON3 (lcdcon3_values f.lcdcon3) tt fit.lcdcon3 refl) i;
        lcdcon4 = ap lcdcon4-from (packed-and-read 32 LCDCON4 (lcdcon4_values f.lcdcon4) tt fit.lcdcon4 refl) i;
        lcdcon5 = ap lcdcon5-from (packed-and-read 32 LCDCON5 (lcdcon5_values f.lcdcon5) tt fit.lcdcon5 refl) i;
        lcdsaddr1 = ap lcdsaddr1-from (packed-and-read 32 LCDSADDR1 (lcdsaddr1_values f.lcdsaddr1) tt fit.lcdsaddr1 refl) i;
        lcdsaddr2 = ap lcdsaddr2-from (packed-and-read 32 LCDSADDR2 (lcdsaddr2_values f.lcdsaddr2) tt fit.lcdsaddr2 refl) i;
        lcdsaddr3 = ap lcdsaddr3-from (packed-and-read 32 LCDSADDR3 (lcdsaddr3_values f.lcdsaddr3) tt fit.lcdsaddr3 refl) i;
        tpal = ap tpal-from (packed-and-read 32 TPAL (tpal_values f.tpal) tt fit.tpal refl) i;
      }

  clear-words : AllFalse (reserved_words (words_of f))
  clear-words = (
    packed-is-clear 32 LCDCON1 (lcdcon1_values f.lcdcon1) tt fit.lcdcon1,
    (
      packed-is-clear 32 LCDCON2 (lcdcon2_values f.lcdcon2) tt fit.lcdcon2,
      (
        packed-is-clear 32 LCDCON3 (lcdcon3_values f.lcdcon3) tt fit.lcdcon3,
        (
          packed-is-clear 32 LCDCON4 (lcdcon4_values f.lcdcon4) tt fit.lcdcon4,
          (
            packed-is-clear 32 LCDCON5 (lcdcon5_values f.lcdcon5) tt fit.lcdcon5,
            (
              packed-is-clear 32 LCDSADDR1 (lcdsaddr1_values f.lcdsaddr1) tt fit.lcdsaddr1,
              (
                packed-is-clear 32 LCDSADDR2 (lcdsaddr2_values f.lcdsaddr2) tt fit.lcdsaddr2,
                (
                  packed-is-clear 32 LCDSADDR3 (lcdsaddr3_values f.lcdsaddr3) tt fit.lcdsaddr3,
                  (packed-is-clear 32 TPAL (tpal_values f.tpal) tt fit.tpal, tt),
                ),
              ),
            ),
          ),
        ),
      ),
    ),
  )

  -- the three words that have another layout on an STN panel
  lcdcon3-reserved : reserved_set STN-LCDCON3 (pack LCDCON3 (lcdcon3_values f.lcdcon3)) ≡ leb 4 f.lcdcon3.hbpd
  lcdcon3-reserved =
      above-as-test 4 f.lcdcon3.hbpd (field (reserved 31 21) (pack LCDCON3 (lcdcon3_values f.lcdcon3)))
      (λ h. omega (arith, fit.lcdcon3)) (λ h. omega (arith, fit.lcdcon3))

  lcdcon4-reserved : reserved_set STN-LCDCON4 (pack LCDCON4 (lcdcon4_values f.lcdcon4)) ≡ leb 4 f.lcdcon4.hspw
  lcdcon4-reserved =
      let x = pack LCDCON4 (lcdcon4_values f.lcdcon4) in
      ap₂ ◌||◌ (or-never (ltb 0 (field (reserved 7 2) x)))
      (le-ltb 0 (field (reserved 31 16) x) (omega (arith, fit.lcdcon4)))
      ∙ or-never (ltb 0 (field (reserved 7 2) x))
      ∙ above-as-test 4 f.lcdcon4.hspw (field (reserved 7 2) x) (λ h. omega (arith, fit.lcdcon4)) (λ h. omega (arith, fit.lcdcon4))

  tpal-reserved : reserved_set STN-TPAL (pack TPAL (tpal_values f.tpal)) ≡ ltb 0 f.tpal.tpalen || ltb 0 f.tpal.tpalval
  tpal-reserved =
      both-in-word f.tpal.tpalen f.tpal.tpalval fit.tpal.1.0 fit.tpal.1.1.0

  reserved-on-stn : reserved_bit (words_of f) ≡ reserved_on_stn f
  unfolding reserved_bit reserved_on_stn stn
  reserved-on-stn =
      ap₂ ◌||◌ (none_true (reserved_words (words_of f)) clear-words)
      (ap₂ ◌&&◌ (ap (λ (g : Fields). eqb g.lcdcon1.pnrmode 2) same-fields)
      (ap₂ ◌||◌ lcdcon3-reserved (ap₂ ◌||◌ lcdcon4-reserved (ap (λ (b : Bool). b || false) tpal-reserved))))

-- where the writer accepts fields, reading its words gives them back, or 1 where they set a bit that is reserved on an STN panel
pub fields-written-and-read : (f : Fields) (w : Words) → write f ≡ accepted w
    → read w ≡ judged (lowest (1 when reserved_on_stn f ∷ [])) f
unfolding write read
fields-written-and-read f w e =
    ap read (sym taken.1)
    ∙ ap₂ (λ (b : Bool) (g : Fields). judged (lowest (1 when b ∷ [])) g) (reserved-on-stn f fit) (same-fields f fit)
  where
    taken : (field_too_wide f ≡ false) × (words_of f ≡ w)
    taken = one-accepted 12 (field_too_wide f) (words_of f) w tt e

    fit : FieldsFit f
    fit = fields_fit f taken.0

-- ---- words read and written back

module _ (w : Words) (sizes : Each32 w) (clear-bits : reserved_bit w ≡ false) where
  none : AllFalse (reserved_words w)
  unfolding reserved_bit
  none = all-false (reserved_words w) (or-false-left (any (reserved_words w)) (stn w && any (stn_reserved_words w)) clear-bits)

  same-words : words_of (fields_of w) ≡ without_read_only w
  same-words =
      λ i. record {
        lcdcon1 = read-and-packed 32 LCDCON1 w.lcdcon1 tt sizes.lcdcon1 none.0 i;
        lcdcon2 = read-and-packed 32 LCDCON2 w.lcdcon2 tt sizes.lcdcon2 none.1.0 i;
        lcdcon3 = read-and-packed 32 LCDCON3 w.lcdcon3 tt sizes.lcdcon3 none.1.1.0 i;
        lcdcon4 = read-and-packed 32 LCDCON4 w.lcdcon4 tt sizes.lcdcon4 none.1.1.1.0 i;
        lcdcon5 = read-and-packed 32 LCDCON5 w.lcdcon5 tt sizes.lcdcon5 none.1.1.1.1.0 i;
        lcdsaddr1 = read-and-packed 32 LCDSADDR1 w.lcdsaddr1 tt sizes.lcdsaddr1 none.1.1.1.1.1.0 i;
        lcdsaddr2 = read-and-packed 32 LCDSADDR2 w.lcdsaddr2 tt sizes.lcdsaddr2 none.1.1.1.1.1.1.0 i;
        lcdsaddr3 = read-and-packed 32 LCDSADDR3 w.lcdsaddr3 tt sizes.lcdsaddr3 none.1.1.1.1.1.1.1.0 i;
        tpal = read-and-packed 32 TPAL w.tpal tt sizes.tpal none.1.1.1.1.1.1.1.1.0 i;
      }

narrow-words : (w : Words) → AllFalse (wide_words (fields_of w))
narrow-words w = (
  values-narrow LCDCON1 w.lcdcon1,
  (
    values-narrow LCDCON2 w.lcdcon2,
    (
      values-narrow LCDCON3 w.lcdcon3,
      (
        values-narrow LCDCON4 w.lcdcon4,
        (
          values-narrow LCDCON5 w.lcdcon5,
          (
            values-narrow LCDSADDR1 w.lcdsaddr1,
            (
              values-narrow LCDSADDR2 w.lcdsaddr2,
              (
                values-narrow LCDSADDR3 w.lcdsaddr3,
                (values-narrow TPAL w.tpal, tt),
              ),
            ),
          ),
        ),
      ),
    ),
  ),
)

narrow : (w : Words) → field_too_wide (fields_of w) ≡ false
unfolding field_too_wide
narrow w = none_true (wide_words (fields_of w)) (narrow-words w)

-- where reading accepts words, the writer makes the same words of their fields, read-only bits 0
pub words-read-and-written : (w : Words) (f : Fields) → Each32 w → read w ≡ accepted f
    → write f ≡ accepted (without_read_only w)
unfolding write read
words-read-and-written w f sizes e =
    ap write (sym taken.1) ∙ sym (one-accepts 12 _ _ _ (narrow w) (sym (same-words w sizes taken.0)))
  where
    taken : (reserved_bit w ≡ false) × (fields_of w ≡ f)
    taken = one-accepted 1 (reserved_bit w) (fields_of w) f tt e
