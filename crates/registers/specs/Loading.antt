-- The nine words in a lent slice (§1.1, §10.1), and numbers put into one; 10 where a slice has too few entries (§9.1). Promises cite
-- it, so a reader must believe it.
use Rattle.std.specs.Prelude.{Bool, List, [], ◌∷◌, ℕ, ltb, length, get_or}
use Rattle.laws.specs.Answers.{Answer, judged, Outcome, outcome}
use Rattle.laws.specs.Cases.{◌when◌, lowest}
use Rattle.laws.specs.Storing.{stores}
use Rattle.registers.specs.declared.Words.{Words}

-- the words in their order (§1.1)
abbrev pub nine_words : List ℕ → Words
nine_words s =
    record {
      lcdcon1 = get_or s 0 0;
      lcdcon2 = get_or s 1 0;
      lcdcon3 = get_or s 2 0;
      lcdcon4 = get_or s 3 0;
      lcdcon5 = get_or s 4 0;
      lcdsaddr1 = get_or s 5 0;
      lcdsaddr2 = get_or s 6 0;
      lcdsaddr3 = get_or s 7 0;
      tpal = get_or s 8 0;
    }

-- the same order the other way: words as entries
abbrev pub word_entries : Words → List ℕ
word_entries w =
    w.lcdcon1
    ∷ w.lcdcon2
    ∷ w.lcdcon3
    ∷ w.lcdcon4
    ∷ w.lcdcon5
    ∷ w.lcdsaddr1
    ∷ w.lcdsaddr2
    ∷ w.lcdsaddr3
    ∷ w.tpal
    ∷ []

-- 10 (§9.1): a slice has fewer entries than its call needs
unfoldable pub too_short : ℕ → ℕ → Bool
too_short lent needed = ltb lent needed

-- 10 (§9.2): fewer than nine entries for the words; it comes before every other number
unfoldable pub short_of_nine : List ℕ → Bool
short_of_nine s = too_short (length s) 9

-- the words that a slice begins with, or 10; a tenth entry is ignored (§10.1)
unfoldable pub load : List ℕ → Answer Words
load s = judged (lowest (10 when short_of_nine s ∷ [])) (nine_words s)

-- the slice with these numbers as its first entries; the others stay (§10.1)
abbrev pub begun_with : List ℕ → List ℕ → List ℕ
begun_with numbers out = stores (λ i. get_or numbers i 0) 0 (length numbers) out

-- numbers put into a slice, or 10 where it has fewer entries than there are numbers (§10.1)
unfoldable pub put_entries : List ℕ → List ℕ → Outcome
put_entries numbers out = outcome (lowest (10 when too_short (length out) (length numbers) ∷ [])) out (begun_with numbers out)
