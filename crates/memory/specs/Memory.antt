-- The lent video memory (§3.1), the address of a row in it (§3.2), refusal 8 (§3.6) and the check (§9.3). The window start is the byte
-- address of the first lent word; addresses are plain numbers and never wrap. Promises cite it, so a reader must believe it.
use Rattle.std.specs.Prelude.{Bool, not, ◌||◌, List, [], ◌∷◌, ◌++◌, ℕ, ◌+◌, ◌-◌, ◌*◌, ◌/◌, ◌%◌, ◌^◌, eqb, ltb, length}
use Rattle.laws.specs.Answers.{judged_on}
use Rattle.laws.specs.Booleans.{some_below}
use Rattle.laws.specs.Cases.{Case, ◌when◌, lowest}
use Rattle.panel.specs.Geometry.{height, row_offset}
use Rattle.panel.specs.Refusals.{word_cases, either_cases, stn_cases, clock_too_fast}
use Rattle.registers.specs.Fields.{lcdbank, pagewidth}
use Rattle.registers.specs.Loading.{load}
use Rattle.registers.specs.declared.Words.{Words}
use Rattle.memory.specs.declared.Screen.{Screen}

-- the byte address of row r (§3.2)
unfoldable pub row_address : Words → ℕ → ℕ
row_address w r = lcdbank w * 2 ^ 22 + 2 * row_offset w r

-- the words of a row (§3.2): PAGEWIDTH counts half-words, and is even wherever 8 is given (5 comes before, §3.4)
abbrev pub row_words : Words → ℕ
row_words w = pagewidth w / 2

-- what a call is given beside what it is lent (§3.1)
abbrev pub screen : Words → ℕ → Screen
screen w window-start = record { words = w; window_start = window-start }

-- the word at an address is not, or not wholly, one of the `lent` words from the window start on (§3.6)
unfoldable pub word_outside : ℕ → ℕ → ℕ → Bool
word_outside window-start lent address = ltb address window-start || ltb (window-start + 4 * lent) (address + 4)

-- 8 (§3.6): the window start is not aligned to 4 bytes, or a word of a row is not lent
unfoldable pub outside_memory : Screen → ℕ → Bool
outside_memory s lent =
    not (eqb (s.window_start % 4) 0)
    || some_below (height s.words) (λ r.
    some_below (row_words s.words) (λ i. word_outside s.window_start lent (row_address s.words r + 4 * i)))

-- the conditions on the words and the lent memory (§9.1), for a call that takes TFT panels
abbrev pub memory_cases : Screen → ℕ → List Case
memory_cases s lent = word_cases s.words ++ (8 when outside_memory s lent ∷ [])

-- the lowest of 1 to 8 that holds, 0 where none does (§9.2)
unfoldable pub judge_memory : Screen → ℕ → ℕ
judge_memory s lent = lowest (memory_cases s lent)

-- for a call that takes STN panels
abbrev pub stn_memory_cases : Screen → ℕ → List Case
stn_memory_cases s lent = stn_cases s.words ++ (8 when outside_memory s lent ∷ [])

unfoldable pub judge_stn_memory : Screen → ℕ → ℕ
judge_stn_memory s lent = lowest (stn_memory_cases s lent)

-- for the check, which takes either panel and judges 17 too
abbrev pub check_cases : Screen → ℕ → List Case
check_cases s lent = either_cases s.words ++ (8 when outside_memory s lent ∷ 17 when clock_too_fast s.words ∷ [])

unfoldable pub judge_check : Screen → ℕ → ℕ
judge_check s lent = lowest (check_cases s lent)

-- the check (§9.3): 10 first where `words` has fewer than nine entries, then 1 to 8, then 17
unfoldable pub check : List ℕ → ℕ → List ℕ → ℕ
check words window-start memory = judged_on (load words) (λ w. judge_check (screen w window-start) (length memory))

-- the index of a row's first word among the lent words (§3.2)
unfoldable pub first_word : Screen → ℕ → ℕ
first_word s r = (row_address s.words r - s.window_start) / 4
