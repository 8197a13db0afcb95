-- What loads leave that a power cut may end (§8.7). These are claims, `EveryEntry`, `OldOffOrNew`, `LoadedAgain` and `OnIsWhole`, so a
-- reader must believe them; proofs/CutLoads proves them.
use Rattle.std.specs.Prelude.{Bool, false, cond, ◌&&◌, List, [], ◌∷◌, ◌≡◌, ℕ, ◌≤◌, eqb, ltb, length}
use Rattle.memory.specs.Memory.{check}
use Rattle.panel.specs.Refusals.{video_off}
use Rattle.registers.specs.Fields.{envid}
use Rattle.registers.specs.Loading.{nine_words, word_entries, begun_with}
use Rattle.registers.specs.declared.Words.{Words}
use Rattle.settings.specs.Stores.{with_video_off, judge_load, load_settings}

-- a load: what it is asked to store, the memory that it is judged with, and after how many stores the power fails
pub record Load : Type 0 where
  pub words : List ℕ
  pub window-start : ℕ
  pub memory : List ℕ
  pub cut : ℕ

-- the block that it leaves
abbrev pub block_after : List ℕ → Load → List ℕ
block_after block l = (load_settings block l.words l.window-start l.memory l.cut).left

-- and its number, 0 where it is accepted
abbrev pub refusal : List ℕ → Load → ℕ
refusal block l = judge_load block l.words l.window-start l.memory

abbrev pub Accepted : List ℕ → Load → Type 0
Accepted block l = refusal block l ≡ 0

-- ---- one load

-- the nine words after `cut` stores: each is the new one once it is stored, LCDCON1 with video off until the last store
abbrev pub words_after : Words → Words → ℕ → Words
words_after old new cut =
    record {
      lcdcon1 = cond (ltb 9 cut) new.lcdcon1 (cond (ltb 0 cut) (with_video_off new.lcdcon1) old.lcdcon1);
      lcdcon2 = cond (ltb 1 cut) new.lcdcon2 old.lcdcon2;
      lcdcon3 = cond (ltb 2 cut) new.lcdcon3 old.lcdcon3;
      lcdcon4 = cond (ltb 3 cut) new.lcdcon4 old.lcdcon4;
      lcdcon5 = cond (ltb 4 cut) new.lcdcon5 old.lcdcon5;
      lcdsaddr1 = cond (ltb 5 cut) new.lcdsaddr1 old.lcdsaddr1;
      lcdsaddr2 = cond (ltb 6 cut) new.lcdsaddr2 old.lcdsaddr2;
      lcdsaddr3 = cond (ltb 7 cut) new.lcdsaddr3 old.lcdsaddr3;
      tpal = cond (ltb 8 cut) new.tpal old.tpal;
    }

-- every entry of the block that an accepted load leaves: these nine words, and behind them what was there
abbrev pub EveryEntry : Type 0
EveryEntry =
    (block : List ℕ) (l : Load) → Accepted block l
    → block_after block l ≡ begun_with (word_entries (words_after (nine_words block) (nine_words l.words) l.cut)) block

-- which is the old block whole, one with video off, or the new words whole: by the cut
abbrev pub OldOffOrNew : Type 0
OldOffOrNew =
    (block : List ℕ) (l : Load) → Accepted block l
    → (l.cut ≡ 0 → block_after block l ≡ block)
    × ((1 ≤ l.cut → l.cut ≤ 9 → envid (nine_words (block_after block l)) ≡ 0)
    × (10 ≤ l.cut → nine_words (block_after block l) ≡ nine_words l.words))

-- ---- loads in a row

-- the block that they leave; a refused one leaves it as it was
unfoldable pub block_after_all : List ℕ → List Load → List ℕ
block_after_all block [] = block
block_after_all block (l ∷ ls) = block_after_all (block_after block l) ls

-- after any loads, cut anywhere, one that is not cut leaves the new words, and behind them what was there at first
abbrev pub LoadedAgain : Type 0
LoadedAgain =
    (block : List ℕ) (ls : List Load) (l : Load) → Accepted block l → 10 ≤ l.cut
    → block_after (block_after_all block ls) l ≡ begun_with (word_entries (nine_words l.words)) block

-- the number that the check gives for its words
abbrev pub checked : Load → ℕ
checked l = check l.words l.window-start l.memory

-- a load that stores its words whole
abbrev pub stores_whole : Load → Bool
stores_whole l = eqb (checked l) 0 && ltb 9 l.cut

-- the words that were whole last: those of the last load that stored its words whole, those at first where none did
unfoldable pub last_whole : Words → List Load → Words
last_whole w [] = w
last_whole w (l ∷ ls) = last_whole (cond (stores_whole l) (nine_words l.words) w) ls

-- after any loads, cut anywhere, a block with video on is the one that was whole last: its words, and behind them what was there at first
abbrev pub OnIsWhole : Type 0
OnIsWhole =
    (block : List ℕ) (ls : List Load) → 9 ≤ length block → video_off (nine_words (block_after_all block ls)) ≡ false
    → block_after_all block ls ≡ begun_with (word_entries (last_whole (nine_words block) ls)) block
