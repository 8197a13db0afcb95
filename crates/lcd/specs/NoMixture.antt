-- What C draws or scans from a stored block (§8.7): after any loads, each perhaps ended by a power cut, a call that gets the block is
-- refused, or does what it does with the words that were whole last. `NoMixture` is a claim, so a reader must believe it; proofs/NoMixture
-- proves it.
use Rattle.std.specs.Prelude.{List, ◌≡◌, ℕ, ◌≤◌, length}
use Rattle.laws.specs.Answers.{Outcome}
use Rattle.drawing.specs.Colour.{Lent}
use Rattle.registers.specs.Loading.{nine_words, word_entries, begun_with}
use Rattle.scans.specs.Scan.{start_scan, StepLeft, step_scan, RunLeft, run_scan, change_scan}
use Rattle.settings.specs.CutLoads.{Load, block_after_all, last_whole}
use Rattle.lcd.specs.Calls.{draw_row, draw_picture, draw_stn}
use Rattle.lcd.specs.Pixel.{draw_pixel}

-- a call that gets the block as its words
abbrev pub OfWhole : (List ℕ → Outcome) → Type 0
OfWhole call =
    (block : List ℕ) (ls : List Load) → 9 ≤ length block → (call (block_after_all block ls)).refusal ≡ 0
    → call (block_after_all block ls) ≡ call (word_entries (last_whole (nine_words block) ls))

-- a call that gets the block as its scan, whose first nine entries are the words in force (§10.4): they were set while it scanned
abbrev pub OfWholeScan : {A : Type 0} → (A → ℕ) → (List ℕ → A) → Type 0
OfWholeScan refusal call =
    (scan : List ℕ) (ls : List Load) → 9 ≤ length scan → refusal (call (block_after_all scan ls)) ≡ 0
    → call (block_after_all scan ls) ≡ call (begun_with (word_entries (last_whole (nine_words scan) ls)) scan)

pub record NoMixture : Type 0 where
  pub pixel : (window-start : ℕ) (l : Lent) (r c : ℕ) (out : List ℕ) → OfWhole (λ words. draw_pixel words window-start l r c out)
  pub row : (window-start : ℕ) (l : Lent) (r : ℕ) (row : List ℕ) → OfWhole (λ words. draw_row words window-start l r row)
  pub picture : (window-start : ℕ) (l : Lent) (picture : List ℕ) → OfWhole (λ words. draw_picture words window-start l picture)
  pub stn : (window-start : ℕ) (memory : List ℕ) (f : ℕ) (out : List ℕ) → OfWhole (λ words. draw_stn words window-start memory f out)
  pub start : (window-start : ℕ) (memory scan : List ℕ) → OfWhole (λ words. start_scan words window-start memory scan)
  pub step : (memory palette clock : List ℕ) → OfWholeScan (λ (o : StepLeft). o.refusal) (λ scan. step_scan scan memory palette clock)
  pub run : (memory palette : List ℕ) (n : ℕ) (picture taken : List ℕ)
      → OfWholeScan (λ (o : RunLeft). o.refusal) (λ scan. run_scan scan memory palette n picture taken)
  pub change : (memory : List ℕ) (a b : ℕ) → OfWholeScan (λ (o : Outcome). o.refusal) (λ scan. change_scan scan memory a b)
