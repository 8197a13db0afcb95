-- Laws of storing into a lent slice: entry by entry, and of a loop that stores one entry a turn or lets another function store some.
-- A reader need not believe them.
use Rattle.std.specs.Prelude.{List, ◌≡◌, refl, ℕ, zero, suc, ◌+◌, ◌-◌, ◌<◌, ◌≤◌, ◌⊎◌, ◌++◌, length, drop, set, get_or}
use Rattle.std.proofs.Common.{inl, inr, ⊎_elim, subst, sym, length-append, length-drop, ap, ◌∙◌, add_assoc, add-suc, add-zero, add-one, arith, get_or-set_same, get_or-set_other}
use Rattle.std.proofs.lemmas.List.{ext_get_or, get_or_append_left, get_or-append_right, get_or-drop}
use Rattle.std.proofs.lemmas.Bool.{cases_lt}
use Rattle.std.proofs.Math.Nat.{zero-add}
use Rattle.std.proofs.Math.Decide.{ℕ_discrete}
use Rattle.std.proofs.Math.ListN.{length-set}
use Rattle.laws.specs.Storing.{stores}

-- ---- entry by entry

pub length-stores : (g : ℕ → ℕ) (at n : ℕ) (d : List ℕ) → length (stores g at n d) ≡ length d
unfolding stores
length-stores g at zero d = refl
length-stores g at (suc n) d = length-set (stores g at n d) (at + n) (g n) ∙ length-stores g at n d

-- the length of what a call left
pub left-length : (g : ℕ → ℕ) (at n : ℕ) (d left : List ℕ) → left ≡ stores g at n d → length left ≡ length d
left-length g at n d left e = ap length e ∙ length-stores g at n d

pub entry-outside : (g : ℕ → ℕ) (at n : ℕ) (d : List ℕ) (j : ℕ) → ((i : ℕ) → i < n → j ≡ at + i → ⊥)
    → get_or (stores g at n d) j 0 ≡ get_or d j 0
unfolding stores
entry-outside g at zero d j out = refl
entry-outside g at (suc n) d j out =
    get_or-set_other (stores g at n d) (at + n) j (g n) 0 (out n (omega arith))
    ∙ entry-outside g at n d j (λ i h. out i (omega arith))

pub entry-stored : (g : ℕ → ℕ) (at n : ℕ) (d : List ℕ) (i : ℕ) → at + n ≤ length d → i < n
    → get_or (stores g at n d) (at + i) 0 ≡ g i
unfolding stores
entry-stored g at zero d i room h = absurd (omega arith)
entry-stored g at (suc n) d i room h = go (ℕ_discrete i n) (λ l. entry-stored g at n d i (omega arith) l)
  where
    go : Dec (i ≡ n) → (i < n → get_or (stores g at n d) (at + i) 0 ≡ g i)
        → get_or (set (stores g at n d) (at + n) (g n)) (at + i) 0 ≡ g i
    go (yes e) below =
        rw e (get_or-set_same (stores g at n d) (at + n) (g n) 0 (omega (arith, length-stores g at n d)))
    go (no ne) below =
        get_or-set_other (stores g at n d) (at + n) (at + i) (g n) 0 (λ e. ne (omega arith)) ∙ below (omega arith)

-- a slice with such entries, the others as they were
pub stored-entries : (g : ℕ → ℕ) (at n : ℕ) (d s : List ℕ) → at + n ≤ length d → length s ≡ length d
    → ((i : ℕ) → i < n → get_or s (at + i) 0 ≡ g i)
    → ((j : ℕ) → (j < at) ⊎ (at + n ≤ j) → get_or s j 0 ≡ get_or d j 0) → s ≡ stores g at n d
stored-entries g at n d s room size inside outside =
    ext_get_or 0 s (stores g at n d) (size ∙ sym (length-stores g at n d)) (λ j h. each j (cases_lt j at) (cases_lt j (at + n)))
  where
    beyond : (j : ℕ) → (j < at) ⊎ (at + n ≤ j) → get_or s j 0 ≡ get_or (stores g at n d) j 0
    beyond j o =
        let out : (i : ℕ) → i < n → j ≡ at + i → ⊥ = λ i h e. ⊎_elim (λ l. omega arith) (λ l. omega arith) o in
        outside j o ∙ sym (entry-outside g at n d j out)

    each : (j : ℕ) → (j < at) ⊎ (at ≤ j) → (j < at + n) ⊎ (at + n ≤ j) → get_or s j 0 ≡ get_or (stores g at n d) j 0
    each j (inl u) o = beyond j (inl u)
    each j (inr l) (inr u) = beyond j (inr u)
    each j (inr l) (inl u) =
        let e : at + (j - at) ≡ j = omega arith in
        let k : j - at < n = omega arith in
        subst (λ (m : ℕ). get_or s m 0 ≡ get_or (stores g at n d) m 0) e
        (inside (j - at) k ∙ sym (entry-stored g at n d (j - at) room k))

-- numbers in front of the rest
pub stored-front : (xs d : List ℕ) → length xs ≤ length d → xs ++ drop (length xs) d ≡ stores (λ i. get_or xs i 0) 0 (length xs) d
stored-front xs d room =
    stored-entries (λ i. get_or xs i 0) 0 (length xs) d (xs ++ drop (length xs) d) (omega arith)
    (omega (arith, length-append xs (drop (length xs) d), length-drop (length xs) d))
    (λ i h. rw zero-add (get_or_append_left xs (drop (length xs) d) 0 i h))
    (λ j o. ⊎_elim (λ l. absurd (omega arith)) (λ l. rest j (omega (arith, l))) o)
  where
    rest : (j : ℕ) → length xs ≤ j → get_or (xs ++ drop (length xs) d) j 0 ≡ get_or d j 0
    rest j l =
        let e : length xs + (j - length xs) ≡ j = omega arith in
        get_or-append_right xs (drop (length xs) d) (length xs) j 0 refl l ∙ get_or-drop (length xs) d (j - length xs) 0
        ∙ ap (λ (m : ℕ). get_or d m 0) e

-- ---- the same entries, and more of them

pub stores_same : (g h : ℕ → ℕ) (at n : ℕ) (d : List ℕ) → ((i : ℕ) → i < n → g i ≡ h i)
    → stores g at n d ≡ stores h at n d
unfolding stores
stores_same g h at zero d e = refl
stores_same g h at (suc n) d e =
    rw (e n (omega arith), stores_same g h at n d (λ i l. e i (omega arith)))

pub stores_as : (g h : ℕ → ℕ) (at m n : ℕ) (d : List ℕ) → m ≡ n → ((i : ℕ) → i < m → g i ≡ h i)
    → stores g at m d ≡ stores h at n d
stores_as g h at m n d e same = stores_same g h at m d same ∙ ap (λ (k : ℕ). stores h at k d) e

-- m entries, and then n more
pub stores-add : (g : ℕ → ℕ) (at m n : ℕ) (d : List ℕ)
    → stores (λ i. g (m + i)) (at + m) n (stores g at m d) ≡ stores g at (m + n) d
unfolding stores
stores-add g at m zero d = rw add-zero
stores-add g at m (suc n) d =
    rw (add-suc, add_assoc) (ap (λ (p : List ℕ). set p (at + (m + n)) (g (m + n))) (stores-add g at m n d))

-- ---- a loop's invariant

-- `done` entries are stored, and the slice is as long as it was
pub record Stored (g : ℕ → ℕ) (at : ℕ) (d out : List ℕ) (done : ℕ) : Type 0 where
  pub is : out ≡ stores g at done d
  pub size : length out ≡ length d

pub none-stored : (g : ℕ → ℕ) (at : ℕ) (d : List ℕ) → Stored g at d d 0
unfolding stores
none-stored g at d = record { is = refl; size = refl }

module _ (g : ℕ → ℕ) (at : ℕ) (d out : List ℕ) (done : ℕ) (s : Stored g at d out done) where
  pub one_more : (j v : ℕ) → j ≡ at + done → v ≡ g done → Stored g at d (set out j v) (done + 1)
  unfolding stores
  one_more j v place e =
      record {
        is = rw (add-one, e, place, s.is);
        size = length-set out j v ∙ s.size;
      }

  -- n more, by another function
  pub some_more : (h : ℕ → ℕ) (j n : ℕ) (left : List ℕ) → left ≡ stores h j n out → j ≡ at + done
      → ((i : ℕ) → i < n → h i ≡ g (done + i)) → Stored g at d left (done + n)
  some_more h j n left e place same =
      record {
        is =
            e
            ∙ ap (λ (k : ℕ). stores h k n out) place
            ∙ stores_same h (λ i. g (done + i)) (at + done) n out same
            ∙ ap (stores (λ i. g (done + i)) (at + done) n) s.is
            ∙ stores-add g at done n d;
        size = ap length e ∙ length-stores h j n out ∙ s.size;
      }

  pub so-many-stored : (n : ℕ) → done ≡ n → Stored g at d out n
  so-many-stored n e = record { is = s.is ∙ ap (λ (k : ℕ). stores g at k d) e; size = s.size }

  -- the loop ends when all are stored
  pub all-stored : (n : ℕ) → done ≡ n → out ≡ stores g at n d
  all-stored n e = s.is ∙ ap (λ (k : ℕ). stores g at k d) e
