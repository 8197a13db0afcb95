-- A part of a slice that is written by itself: what the whole slice holds then. A reader need not believe it.
use Rattle.std.specs.Prelude.{List, ◌≡◌, ℕ, ◌+◌, ◌<◌, ◌≤◌, length, get_or}
use Rattle.std.proofs.Common.{arith, ⊎_elim}
use Rattle.std.proofs.lemmas.Grind.{common_steps}
use borrow.Rule.Slice.PartMut.{put_mid}
use Rattle.laws.specs.Storing.{stores}
use Rattle.laws.specs.StoringLaws.{stored-entries}

-- the n entries from `at` on were written, and now are h 0, h 1 and so on
pub part-stored : (h : ℕ → ℕ) (at n : ℕ) (d part : List ℕ) → at + n ≤ length d → length part ≡ n
    → ((i : ℕ) → i < n → get_or part i 0 ≡ h i) → put_mid at n d part ≡ stores h at n d
part-stored h at n d part room size is =
    stored-entries h at n d (put_mid at n d part) room (grind (arith, common_steps))
    (λ i l. let e = is i l in grind (arith, common_steps))
    (λ j o. ⊎_elim (λ l. grind (arith, common_steps)) (λ l. grind (arith, common_steps)) o)
