-- New settings for a stored block, a word at a time (§1.8): the ten stores, what a cut leaves of them, and the call with its refusals
-- (§9.3). Promises cite it, so a reader must believe it.
use Rattle.std.specs.Prelude.{List, [], ◌∷◌, ℕ, ◌-◌, set, take}
use Rattle.laws.specs.Answers.{judged_on, Outcome, outcome}
use Rattle.laws.specs.BitFields.{field}
use Rattle.memory.specs.Memory.{check}
use Rattle.registers.specs.Layouts.{ENVID}
use Rattle.registers.specs.Loading.{nine_words, load}
use Rattle.registers.specs.declared.Words.{Words}
use Rattle.settings.specs.declared.Store.{Store}

-- one store: an entry of the block gets a word
infix 70 ◌gets◌
abbrev pub ◌gets◌ : ℕ → ℕ → Store
e gets n = record { entry = e; word = n }

-- LCDCON1 with ENVID, which is its bit 0, cleared
unfoldable pub with_video_off : ℕ → ℕ
with_video_off lcdcon1 = lcdcon1 - field ENVID lcdcon1

-- video off first, the other eight words in their order, then LCDCON1 as wanted
unfoldable pub ten_stores : Words → List Store
ten_stores w =
    0 gets with_video_off w.lcdcon1
    ∷ 1 gets w.lcdcon2
    ∷ 2 gets w.lcdcon3
    ∷ 3 gets w.lcdcon4
    ∷ 4 gets w.lcdcon5
    ∷ 5 gets w.lcdsaddr1
    ∷ 6 gets w.lcdsaddr2
    ∷ 7 gets w.lcdsaddr3
    ∷ 8 gets w.tpal
    ∷ 0 gets w.lcdcon1
    ∷ []

-- the block after these stores, one after the other
unfoldable pub after_stores : List Store → List ℕ → List ℕ
after_stores [] block = block
after_stores (s ∷ ss) block = after_stores ss (set block s.entry s.word)

-- the block after the first `cut` of the ten, which are all of them where it is above 10
unfoldable pub after_cut : Words → ℕ → List ℕ → List ℕ
after_cut w cut block = after_stores (take cut (ten_stores w)) block

-- 10 where one of the two has fewer than nine entries; then 1 to 8 and 17 of the new words, as in the check (§9.3)
unfoldable pub judge_load : List ℕ → List ℕ → ℕ → List ℕ → ℕ
judge_load block words window-start memory = judged_on (load block) (λ old. check words window-start memory)

-- a load of new words into a block; refused, it stores nothing (§9.5)
unfoldable pub load_settings : List ℕ → List ℕ → ℕ → List ℕ → ℕ → Outcome
load_settings block words window-start memory cut =
    outcome (judge_load block words window-start memory) block (after_cut (nine_words words) cut block)
