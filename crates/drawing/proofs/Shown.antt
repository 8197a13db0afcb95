-- Slices that are filled from the front, an entry a turn or a part a turn, and a part that is drawn by itself: it is a stretch of the
-- slice.
use mathlib.Core.List.{List}
use mathlib.Core.Path.{◌≡◌, sym, ap, ◌∙◌}
use Prim.Native.Nat.{ℕ, ◌+◌, ◌-◌, ◌<◌, ◌≤◌}
use native.Mathlib.Omega.{arith}
use borrow.Rule.Slice.PartMut.{put_mid}
use lib.ListN.{length, get_or, set}
use Rattle.std.proofs.Common.{rules, below_more, get_or-set_same, get_or-set_other, ◌≢◌, ◌⊎◌, inl, inr, take, drop, ◌++◌}
use Rattle.std.proofs.lemmas.Bool.{cases_lt}
use Rattle.std.proofs.lemmas.List.{places, length-take-le, length-take, length-drop, get_or_append_left, get_or-append_right}
use Rattle.laws.specs.Storing.{stores}
use Rattle.laws.specs.StoringLaws.{stores_as, stored-front}
use Rattle.laws.proofs.PartLaws as PartLaws
use Rattle.drawing.specs.Core.{Shows}

-- ---- a part of n entries from `at` on

module _ (at n : ℕ) (d part : List ℕ) (size : length part ≡ length (take n (drop at d))) (room : at + n ≤ length d) where
  long : length part ≡ n
  long = omega (arith, size, length-take n (drop at d), length-drop at d)

  pub part-length : length (put_mid at n d part) ≡ length d
  part-length = search (rules, places, long)

  start : length (take at d) ≡ at
  start = length-take-le at d (omega (arith, room))

  before-part : (j : ℕ) → j < at → get_or (put_mid at n d part) j 0 ≡ get_or d j 0
  before-part j below = search (rules, places)

  in-part : (j : ℕ) → at ≤ j → j < at + n → get_or (put_mid at n d part) j 0 ≡ get_or part (j - at) 0
  in-part j above below =
      get_or-append_right (take at d) (part ++ drop n (drop at d)) at j 0 start above
      ∙ get_or_append_left part (drop n (drop at d)) 0 (j - at) (omega (arith, long))

  after-part : (j : ℕ) → at + n ≤ j → get_or (put_mid at n d part) j 0 ≡ get_or d j 0
  after-part j above = search (rules, places, long, start)

-- ---- filled from the front

module _ (g : ℕ → ℕ) (out : List ℕ) (k : ℕ) (before : (j : ℕ) → j < k → get_or out j 0 ≡ g j) where
  pub one-shown : (v : ℕ) → k < length out → v ≡ g k → (j : ℕ) → j < k + 1 → get_or (set out k v) j 0 ≡ g j
  one-shown v h e =
      below_more (λ j. get_or (set out k v) j 0 ≡ g j) k
      (λ j l. let other : j ≢ k = omega arith in rw get_or-set_other (before j l))
      (rw get_or-set_same e)

  -- n entries, drawn by themselves
  pub part-shown : (n : ℕ) (part : List ℕ) → length part ≡ length (take n (drop k out)) → k + n ≤ length out
      → (h : ℕ → ℕ) → Shows h part → ((i : ℕ) → i < n → h i ≡ g (k + i)) → (j : ℕ) → j < k + n → get_or (put_mid k n out part) j 0 ≡ g j
  part-shown n part size room h drawn same j l = go (cases_lt j k)
    where
      go : (j < k) ⊎ (k ≤ j) → get_or (put_mid k n out part) j 0 ≡ g j
      go (inl below) = before-part k n out part size room j below ∙ before j below
      go (inr above) =
          in-part k n out part size room j above l
          ∙ drawn (j - k) (omega (arith, long k n out part size room))
          ∙ same (j - k) (omega arith)
          ∙ ap g (omega arith)

-- ---- a slice of which a part was drawn to

module _ (g h : ℕ → ℕ) (n : ℕ) (d part : List ℕ) (drawn : Shows h part) (same : (i : ℕ) → i < n → h i ≡ g i) where
  pub front-stored : length part ≡ length (take n d) → n ≤ length d → part ++ drop n d ≡ stores g 0 n d
  front-stored size room =
      ap (λ (k : ℕ). part ++ drop k d) (sym many)
      ∙ stored-front part d (omega (arith, many))
      ∙ stores_as (λ i. get_or part i 0) g 0 (length part) n d many (λ i l. drawn i l ∙ same i (omega (arith, many)))
    where
      many : length part ≡ n
      many = size ∙ length-take-le n d room

  pub part-stored : (at : ℕ) → length part ≡ length (take n (drop at d)) → at + n ≤ length d → put_mid at n d part ≡ stores g at n d
  part-stored at size room =
      PartLaws.part-stored g at n d part room (long at n d part size room)
      (λ i l. drawn i (omega (arith, long at n d part size room)) ∙ same i l)
