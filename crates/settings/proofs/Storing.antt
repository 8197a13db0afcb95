-- Laws of stores in a row (§1.8): one store more, all of them, and where they go; and of what a load is judged by.
use mathlib.Core.List.{List, [], ◌∷◌}
use mathlib.Core.Path.{◌≡◌, refl, sym, ap, ◌∙◌}
use mathlib.Core.Logic.{◌⊎◌, inl, inr}
use Prim.Native.Nat.{ℕ, zero, suc, min, ◌+◌, ◌<◌, ◌≤◌}
use native.Mathlib.Nat.{le_of_suc-le-suc, not-suc-le-zero}
use native.Mathlib.Numerals.{add-one}
use native.Mathlib.Omega.{arith}
use borrow.Author.Tests.{ltb-false}
use lib.Dec.{ltb, ltb→lt}
use lib.ListN.{length, get_or, take, set, length-set}
use Rattle.std.proofs.lemmas.Bool.{cases_lt}
use Rattle.std.proofs.lemmas.List.{take_all, get_or-take, length-take}
use Rattle.laws.specs.Answers.{Answer, judged_on}
use Rattle.laws.proofs.AnswerLaws.{number-went-on}
use Rattle.laws.specs.Cases.{◌when◌}
use Rattle.laws.proofs.CaseLaws.{lowest-zero-none-holds}
use Rattle.laws.specs.TableLaws.{every-place-passes}
use Rattle.memory.specs.Memory.{check}
use Rattle.registers.specs.Loading.{too_short, short_of_nine, load}
use Rattle.registers.specs.declared.Words.{Words}
use Rattle.registers.proofs.Lending.{nine-loaded}
use Rattle.settings.specs.declared.Store.{Store}
use Rattle.settings.specs.Stores.{◌gets◌, ten_stores, after_stores, after_cut, judge_load}

-- what stands for a store past the last
abbrev pub none : Store
none = 0 gets 0

pub one-store-more : (ss : List Store) (i : ℕ) (block : List ℕ) → i < length ss
    → after_stores (take (suc i) ss) block
    ≡ set (after_stores (take i ss) block) (get_or ss i none).entry (get_or ss i none).word
unfolding after_stores
one-store-more [] i block h = absurd (not-suc-le-zero h)
one-store-more (s ∷ ss) zero block h = refl
one-store-more (s ∷ ss) (suc i) block h = one-store-more ss i (set block s.entry s.word) (le_of_suc-le-suc h)

pub stores-keep-length : (ss : List Store) (block : List ℕ) → length (after_stores ss block) ≡ length block
unfolding after_stores
stores-keep-length [] block = refl
stores-keep-length (s ∷ ss) block = stores-keep-length ss (set block s.entry s.word) ∙ length-set block s.entry s.word

-- ---- a loop that makes the first of the ten, up to a cut: `out` is the block after i of them

module _ (w : Words) (block out : List ℕ) (i made : ℕ) (ss : List Store) (same : ss ≡ take made (ten_stores w))
    (e : out ≡ after_stores (take i ss) block) where
  pub length-kept : length out ≡ length block
  length-kept = ap length e ∙ stores-keep-length (take i ss) block

  -- the next one sets one of the nine entries
  pub within-nine : i < length ss → (get_or ss i none).entry < 9
  unfolding ten_stores
  within-nine h =
      rw same
      (rw (get_or-take made (ten_stores w) i none (omega (arith, ap length same, length-take made (ten_stores w))))
      (ltb→lt _ 9 (every-place-passes (λ s. ltb s.entry 9) (ten_stores w) tt none tt i)))

  pub next-made : i < length ss
      → set out (get_or ss i none).entry (get_or ss i none).word ≡ after_stores (take (i + 1) ss) block
  next-made h = rw (e, add-one i) (sym (one-store-more ss i block h))

  pub all_made : (cut : ℕ) → made ≡ min cut 10 → length ss ≤ i → out ≡ after_cut w cut block
  unfolding after_cut ten_stores
  all_made cut m h =
      e
      ∙ ap (λ (l : List Store). after_stores l block)
      (take_all i ss h ∙ same ∙ ap (λ (n : ℕ). take n (ten_stores w)) m ∙ go (cases_lt cut 10))
    where
      go : (cut < 10) ⊎ (10 ≤ cut) → take (min cut 10) (ten_stores w) ≡ take cut (ten_stores w)
      go (inl u) = ap (λ (n : ℕ). take n (ten_stores w)) (omega arith)
      go (inr u) =
          ap (λ (n : ℕ). take n (ten_stores w)) {y = 10} (omega arith) ∙ sym (take_all cut (ten_stores w) u)

-- ---- the judgement

-- a slice that is judged by its nine words, and accepted, has nine entries
pub has-nine : (slice : List ℕ) (f : Words → ℕ) → judged_on (load slice) f ≡ 0 → 9 ≤ length slice
unfolding load short_of_nine too_short
has-nine slice f e =
    ltb-false (length slice) 9 (lowest-zero-none-holds 0 (10 when short_of_nine slice ∷ []) tt (number-went-on _ _ f e).0).0

-- a block of nine entries leaves the judgement to the check
pub as-checked : (block words : List ℕ) (window-start : ℕ) (memory : List ℕ) → 9 ≤ length block
    → check words window-start memory ≡ judge_load block words window-start memory
unfolding judge_load judged_on
as-checked block words window-start memory room =
    sym (ap (λ (a : Answer Words). judged_on a (λ old. check words window-start memory)) (nine-loaded block room))
