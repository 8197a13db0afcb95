-- What loads leave that a power cut may end (§8.7): proofs of the claims in specs/CutLoads.
use mathlib.Core.Bool.{Bool, true, false, cond, true≢false}
use mathlib.Core.List.{List, [], ◌∷◌, ◌++◌}
use mathlib.Core.Path.{◌≡◌, refl, sym, ap, ap₂, ◌∙◌}
use Prim.Native.Nat.{ℕ, zero, suc, ◌≤◌}
use native.Mathlib.Decide.{ℕ_discrete}
use native.Mathlib.Omega.{arith}
use borrow.Author.Tests.{lt-ltb, le-ltb, ltb-true, ltb-false, eq-eqb, ne_eqb}
use lib.Dec.{eqb, ltb, lit≤}
use lib.ListN.{length, drop}
use Rattle.std.proofs.lemmas.List.{take_all}
use Rattle.laws.specs.Answers.{Answer, accepted, Outcome}
use Rattle.laws.proofs.AnswerLaws.{leaves-written, leaves-as-it-was}
use Rattle.laws.specs.Storing.{stores}
use Rattle.panel.specs.Refusals.{video_off}
use Rattle.registers.specs.Fields.{envid}
use Rattle.registers.specs.Loading.{nine_words, word_entries, begun_with, load}
use Rattle.registers.specs.declared.Words.{Words}
use Rattle.registers.proofs.Lending.{nine-loaded, words-put-are-loaded}
use Rattle.settings.specs.CutLoads.{Load, block_after, refusal, Accepted, words_after, EveryEntry, OldOffOrNew}
use Rattle.settings.specs.CutLoads.{block_after_all, LoadedAgain, checked, stores_whole, last_whole, OnIsWhole}
use Rattle.settings.specs.declared.Store.{Store}
use Rattle.settings.specs.Stores.{with_video_off, ten_stores, after_stores, after_cut, judge_load, load_settings}
use Rattle.settings.proofs.Storing.{has-nine, as-checked}

-- ---- a block as nine words and the rest

nine-and-rest : (block : List ℕ) → 9 ≤ length block → block ≡ word_entries (nine_words block) ++ drop 9 block
nine-and-rest [] h = absurd (omega arith)
nine-and-rest (a ∷ []) h = absurd (omega arith)
nine-and-rest (a ∷ b ∷ []) h = absurd (omega arith)
nine-and-rest (a ∷ b ∷ c ∷ []) h = absurd (omega arith)
nine-and-rest (a ∷ b ∷ c ∷ d ∷ []) h = absurd (omega arith)
nine-and-rest (a ∷ b ∷ c ∷ d ∷ e ∷ []) h = absurd (omega arith)
nine-and-rest (a ∷ b ∷ c ∷ d ∷ e ∷ f ∷ []) h = absurd (omega arith)
nine-and-rest (a ∷ b ∷ c ∷ d ∷ e ∷ f ∷ g ∷ []) h = absurd (omega arith)
nine-and-rest (a ∷ b ∷ c ∷ d ∷ e ∷ f ∷ g ∷ i ∷ []) h = absurd (omega arith)
nine-and-rest (a ∷ b ∷ c ∷ d ∷ e ∷ f ∷ g ∷ i ∷ j ∷ rest) h = refl

module _ (old new : Words) (rest : List ℕ) where
  begun : begun_with (word_entries new) (word_entries old ++ rest) ≡ word_entries new ++ rest
  unfolding stores
  begun = refl

  all-stored : (cut : ℕ) → 10 ≤ cut → words_after old new cut ≡ new
  all-stored cut h =
      rw (
        lt-ltb 1 cut (omega arith),
        lt-ltb 2 cut (omega arith),
        lt-ltb 3 cut (omega arith),
        lt-ltb 4 cut (omega arith),
        lt-ltb 5 cut (omega arith),
        lt-ltb 6 cut (omega arith),
        lt-ltb 7 cut (omega arith),
        lt-ltb 8 cut (omega arith),
        lt-ltb 9 cut (omega arith),
      )
      refl

  -- the block after any number of stores
  cut-words : (cut : ℕ) → after_cut new cut (word_entries old ++ rest) ≡ word_entries (words_after old new cut) ++ rest
  unfolding after_cut after_stores ten_stores
  cut-words zero = refl
  cut-words (suc zero) = refl
  cut-words (suc (suc zero)) = refl
  cut-words (suc (suc (suc zero))) = refl
  cut-words (suc (suc (suc (suc zero)))) = refl
  cut-words (suc (suc (suc (suc (suc zero))))) = refl
  cut-words (suc (suc (suc (suc (suc (suc zero)))))) = refl
  cut-words (suc (suc (suc (suc (suc (suc (suc zero))))))) = refl
  cut-words (suc (suc (suc (suc (suc (suc (suc (suc zero)))))))) = refl
  cut-words (suc (suc (suc (suc (suc (suc (suc (suc (suc zero))))))))) = refl
  cut-words (suc (suc (suc (suc (suc (suc (suc (suc (suc (suc n)))))))))) =
      ap (λ (ss : List Store). after_stores ss (word_entries new ++ rest)) (take_all n [] (omega arith))
      ∙ ap (λ (w : Words). word_entries w ++ rest)
      (sym (all-stored (suc (suc (suc (suc (suc (suc (suc (suc (suc (suc n)))))))))) (omega arith)))

begun-nine : (block : List ℕ) (w : Words) → 9 ≤ length block → begun_with (word_entries w) block ≡ word_entries w ++ drop 9 block
begun-nine block w room =
    ap (begun_with (word_entries w)) (nine-and-rest block room) ∙ begun (nine_words block) w (drop 9 block)

-- ---- one load

long : (block : List ℕ) (l : Load) → Accepted block l → 9 ≤ length block
unfolding judge_load
long block l e = has-nine block _ e

-- where it is accepted, and where it is not
module _ (block : List ℕ) (l : Load) where
  accepted-leaves : Accepted block l
      → block_after block l ≡ word_entries (words_after (nine_words block) (nine_words l.words) l.cut) ++ drop 9 block
  unfolding load_settings
  accepted-leaves e =
      ap (λ (o : Outcome). o.left) (sym (leaves-written _ block _ _ e refl))
      ∙ (ap (after_cut (nine_words l.words) l.cut) (nine-and-rest block (long block l e))
      ∙ cut-words (nine_words block) (nine_words l.words) (drop 9 block) l.cut)

  refused-leaves : (Accepted block l → ⊥) → block_after block l ≡ block
  unfolding load_settings
  refused-leaves ne = ap (λ (o : Outcome). o.left) (sym (leaves-as-it-was _ _ block _ refl ne))

pub every-entry : EveryEntry
every-entry block l e = accepted-leaves block l e ∙ sym (begun-nine block _ (long block l e))

module _ (block : List ℕ) (l : Load) (e : Accepted block l) where
  new-words : nine_words (block_after block l) ≡ words_after (nine_words block) (nine_words l.words) l.cut
  new-words = ap nine_words (accepted-leaves block l e)

  unchanged : l.cut ≡ 0 → block_after block l ≡ block
  unchanged z = accepted-leaves block l e ∙ rw z (sym (nine-and-rest block (long block l e)))

  off : 1 ≤ l.cut → l.cut ≤ 9 → envid (nine_words (block_after block l)) ≡ 0
  unfolding with_video_off
  off h k = ap envid new-words ∙ rw (le-ltb 9 l.cut k, lt-ltb 0 l.cut h) (omega arith)

  whole : 10 ≤ l.cut → nine_words (block_after block l) ≡ nine_words l.words
  whole h = new-words ∙ all-stored (nine_words block) (nine_words l.words) (drop 9 block) l.cut h

pub old-off-or-new : OldOffOrNew
old-off-or-new block l e = (unchanged block l e, (off block l e, whole block l e))

-- ---- loads in a row

-- what a load leaves has nine entries still, and behind them the same
record Kept (block left : List ℕ) : Type 0 where
  size : 9 ≤ length left
  behind : drop 9 left ≡ drop 9 block

kept-on : (block left later : List ℕ) → Kept block left → Kept left later → Kept block later
kept-on block left later one more = record { size = more.size; behind = more.behind ∙ one.behind }

-- so with these words it is the block at first, begun with them
as-begun : (block left : List ℕ) (w : Words) → 9 ≤ length block → Kept block left → nine_words left ≡ w
    → left ≡ begun_with (word_entries w) block
as-begun block left w room k e =
    nine-and-rest left k.size
    ∙ (ap₂ (λ (v : Words) (rest : List ℕ). word_entries v ++ rest) e k.behind ∙ sym (begun-nine block w room))

kept : (block : List ℕ) (l : Load) → 9 ≤ length block → Kept block (block_after block l)
kept block l room = go (ℕ_discrete (refusal block l) 0)
  where
    go : Dec (Accepted block l) → Kept block (block_after block l)
    go (yes e) =
        record { size = rw (accepted-leaves block l e) (omega arith); behind = ap (drop 9) (accepted-leaves block l e) }
    go (no ne) = record { size = rw (refused-leaves block l ne) room; behind = ap (drop 9) (refused-leaves block l ne) }

all-kept : (block : List ℕ) (ls : List Load) → 9 ≤ length block → Kept block (block_after_all block ls)
unfolding block_after_all
all-kept block [] room = record { size = room; behind = refl }
all-kept block (l ∷ ls) room =
    let one = kept block l room in
    kept-on block (block_after block l) _ one (all-kept (block_after block l) ls one.size)

pub loaded-again : LoadedAgain
loaded-again block ls l e h =
    as-begun block (block_after later l) (nine_words l.words) room
    (kept-on block later (block_after later l) kept-later (kept later l kept-later.size))
    (whole later l (sym (same later kept-later.size) ∙ (same block room ∙ e)) h)
  where
    room : 9 ≤ length block
    room = long block l e

    later : List ℕ
    later = block_after_all block ls

    kept-later : Kept block later
    kept-later = all-kept block ls room

    same : (b : List ℕ) → 9 ≤ length b → checked l ≡ refusal b l
    same b = as-checked b l.words l.window-start l.memory

-- one load more: video is off, or the words that were whole last are there
module _ (block : List ℕ) (l : Load) (w : Words) (room : 9 ≤ length block)
    (inv : video_off (nine_words block) ≡ false → nine_words block ≡ w)
    (on : video_off (nine_words (block_after block l)) ≡ false) where
  abbrev Goal : Bool → Type 0
  Goal b = nine_words (block_after block l) ≡ cond b (nine_words l.words) w

  as_before : block_after block l ≡ block → Goal false
  as_before e = ap nine_words e ∙ inv (sym (ap (λ (b : List ℕ). video_off (nine_words b)) e) ∙ on)

  by-cut : Accepted block l → (later : Bool) → ltb 9 l.cut ≡ later → (some : Bool) → ltb 0 l.cut ≡ some → Goal later
  unfolding video_off
  by-cut e true t some u = whole block l e (omega (arith, ltb-true 9 l.cut t))
  by-cut e false t true u =
      let dark = off block l e (omega (arith, ltb-true 0 l.cut u)) (omega (arith, ltb-false 9 l.cut t)) in
      absurd (true≢false (sym (ap (λ (n : ℕ). eqb n 0) dark) ∙ on))
  by-cut e false t false u = as_before (unchanged block l e (omega (arith, ltb-false 0 l.cut u)))

  step : Goal (stores_whole l)
  step = go (ℕ_discrete (checked l) 0)
    where
      same : checked l ≡ refusal block l
      same = as-checked block l.words l.window-start l.memory room

      go : Dec (checked l ≡ 0) → Goal (stores_whole l)
      go (yes e) = rw (eq-eqb _ _ e) (by-cut (sym same ∙ e) (ltb 9 l.cut) refl (ltb 0 l.cut) refl)
      go (no ne) = rw (ne_eqb _ _ ne) (as_before (refused-leaves block l (λ e. ne (same ∙ e))))

from : (block : List ℕ) (ls : List Load) (w : Words) → 9 ≤ length block
    → (video_off (nine_words block) ≡ false → nine_words block ≡ w)
    → video_off (nine_words (block_after_all block ls)) ≡ false → nine_words (block_after_all block ls) ≡ last_whole w ls
unfolding block_after_all last_whole
from block [] w room inv = inv
from block (l ∷ ls) w room inv =
    from (block_after block l) ls (cond (stores_whole l) (nine_words l.words) w) (kept block l room).size (step block l w room inv)

pub on-is-whole : OnIsWhole
on-is-whole block ls room on =
    as-begun block (block_after_all block ls) (last_whole (nine_words block) ls) room (all-kept block ls room)
    (from block ls (nine_words block) room (λ on. refl) on)

-- ---- calls that get the block, and are done only where video is on

pub whole-scanned : {A : Type 0} (call : List ℕ → A) (refusal : A → ℕ)
    → ((scan : List ℕ) → refusal (call scan) ≡ 0 → video_off (nine_words scan) ≡ false)
    → (scan : List ℕ) (ls : List Load) → 9 ≤ length scan → refusal (call (block_after_all scan ls)) ≡ 0
    → call (block_after_all scan ls) ≡ call (begun_with (word_entries (last_whole (nine_words scan) ls)) scan)
whole-scanned call refusal on-only scan ls room e =
    ap call (on-is-whole scan ls room (on-only (block_after_all scan ls) e))

-- as its words
pub whole-shown : (call : Answer Words → Outcome) → ((w : Words) → (call (accepted w)).refusal ≡ 0 → video_off w ≡ false)
    → (block : List ℕ) (ls : List Load) → 9 ≤ length block → (call (load (block_after_all block ls))).refusal ≡ 0
    → call (load (block_after_all block ls)) ≡ call (load (word_entries (last_whole (nine_words block) ls)))
whole-shown call on-only block ls room e =
    ap (λ (b : List ℕ). call (load b)) (on-is-whole block ls room on)
    ∙ ap call
    (words-put-are-loaded (last_whole (nine_words block) ls) block room
    ∙ sym (nine-loaded (word_entries (last_whole (nine_words block) ls)) (lit≤ tt)))
  where
    later : List ℕ
    later = block_after_all block ls

    on : video_off (nine_words later) ≡ false
    on =
        on-only (nine_words later)
        (ap (λ (a : Answer Words). (call a).refusal) (sym (nine-loaded later (all-kept block ls room).size)) ∙ e)
