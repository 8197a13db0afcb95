-- Laws of numbered conditions (§9.2): the first that holds where numbers rise, what acceptance says, lists that are joined. A reader
-- need not believe them.
use Rattle.std.specs.Prelude.{◌≡◌, Bool, true, false, cond, List, [], ◌∷◌, ◌++◌, ◌⊎◌, leb, ltb, T}
use Rattle.std.proofs.Math.Path.{refl}
use Rattle.std.proofs.Common.{sym, ap, ap₂, ◌∙◌, inl, inr, ⊎_elim, lt_trans, arith, leb→le, ltb→lt}
use Prim.Native.Nat.{ℕ, zero, suc, min, ◌<◌, ◌≤◌}
use Rattle.std.proofs.Math.Decide.{ℕ_discrete}
use Rattle.laws.specs.BooleanLaws.{and_left, and_right, and_both, either_way}
use Rattle.laws.specs.Cases.{Case, ◌when◌, lower, lowest, and_where}
use Rattle.laws.specs.CaseLaws.{NoneHolds, Passed, ascending, first, through, up_to}

module _ (n : ℕ) (c : Case) (cs : List Case) (t : T (ascending n (c ∷ cs))) where
  rises : n < c.number
  rises = ltb→lt n c.number (and_left (ltb n c.number) (ascending c.number cs) t)

  onward : T (ascending c.number cs)
  onward = and_right (ltb n c.number) (ascending c.number cs) t

lower-keeps : (n m : ℕ) → 0 < n → (m ≡ 0) ⊎ (n < m) → lower n m ≡ n
unfolding lower
lower-keeps zero m h o = omega arith
lower-keeps (suc n) zero h o = refl
lower-keeps (suc n) (suc m) h o = ⊎_elim (λ e. omega arith) (λ l. omega arith) o

first_above : (n : ℕ) (cs : List Case) → T (ascending n cs) → (first cs ≡ 0) ⊎ (n < first cs)
unfolding first
first_above n [] t = inl refl
first_above n (c ∷ cs) t = go c.holds (first_above c.number cs (onward n c cs t))
  where
    go : (b : Bool) → (first cs ≡ 0) ⊎ (c.number < first cs)
        → (cond b c.number (first cs) ≡ 0) ⊎ (n < cond b c.number (first cs))
    go true o = inr (rises n c cs t)
    go false (inl e) = inl e
    go false (inr l) = inr (lt_trans (rises n c cs t) l)

-- in an ascending list the first condition that holds has the lowest number
pub lowest-of-ascending-is-first : (n : ℕ) (cs : List Case) → T (ascending n cs) → lowest cs ≡ first cs
unfolding lowest first
lowest-of-ascending-is-first n [] t = refl
lowest-of-ascending-is-first n (c ∷ cs) t = go c.holds (lowest-of-ascending-is-first c.number cs (onward n c cs t))
  where
    keeps : lower c.number (first cs) ≡ c.number
    keeps =
        lower-keeps c.number (first cs) (omega (arith, rises n c cs t))
        (first_above c.number cs (onward n c cs t))

    go : (b : Bool) → lowest cs ≡ first cs
        → cond b (lower c.number (lowest cs)) (lowest cs) ≡ cond b c.number (first cs)
    go true e = ap (lower c.number) e ∙ keeps
    go false e = e

-- how a program looks: past a condition that does not hold, stopping at one that does
pub skips : (r n : ℕ) (b : Bool) (cs : List Case) → r ≡ first (n when b ∷ cs) → b ≡ false → r ≡ first cs
unfolding first
skips r n b cs e f = rw f at e

pub stops : (r n : ℕ) (b : Bool) (cs : List Case) → r ≡ first (n when b ∷ cs) → b ≡ true → n ≡ r
unfolding first
stops r n b cs e t = sym (rw t at e)

-- past the last of them
pub ends : (r n : ℕ) (b : Bool) → r ≡ first (n when b ∷ []) → b ≡ false → 0 ≡ r
unfolding first
ends r n b e f = sym (rw f at e)

first-none : (n : ℕ) (cs : List Case) → T (ascending n cs) → first cs ≡ 0 → NoneHolds cs
unfolding first
first-none n [] t e = tt
first-none n (c ∷ cs) t e = go c.holds (first-none c.number cs (onward n c cs t)) e
  where
    go : (b : Bool) → (first cs ≡ 0 → NoneHolds cs) → cond b c.number (first cs) ≡ 0
        → (b ≡ false) × NoneHolds cs
    go true f z = absurd (omega (arith, rises n c cs t, z))
    go false f z = (refl, f z)

-- where the lowest number is 0, no condition holds
pub lowest-zero-none-holds : (n : ℕ) (cs : List Case) → T (ascending n cs) → lowest cs ≡ 0 → NoneHolds cs
lowest-zero-none-holds n cs t e = first-none n cs t (sym (lowest-of-ascending-is-first n cs t) ∙ e)

-- ---- two lists, one after the other

first-stays : (cs ds : List Case) → (first cs ≡ 0 → ⊥) → first (cs ++ ds) ≡ first cs
unfolding first
first-stays [] ds ne = absurd (ne refl)
first-stays (c ∷ cs) ds ne = go c.holds (first-stays cs ds) ne
  where
    go : (b : Bool) → ((first cs ≡ 0 → ⊥) → first (cs ++ ds) ≡ first cs) → (cond b c.number (first cs) ≡ 0 → ⊥)
        → cond b c.number (first (cs ++ ds)) ≡ cond b c.number (first cs)
    go true f z = refl
    go false f z = f z

first-goes-on : (n : ℕ) (cs ds : List Case) → T (ascending n (cs ++ ds)) → first cs ≡ 0 → first (cs ++ ds) ≡ first ds
unfolding first
first-goes-on n [] ds t e = refl
first-goes-on n (c ∷ cs) ds t e =
    go c.holds (first-goes-on c.number cs ds (onward n c (cs ++ ds) t)) e
  where
    go : (b : Bool) → (first cs ≡ 0 → first (cs ++ ds) ≡ first ds) → cond b c.number (first cs) ≡ 0
        → cond b c.number (first (cs ++ ds)) ≡ first ds
    go true f z = absurd (omega (arith, rises n c (cs ++ ds) t, z))
    go false f z = f z

front-ascends : (n : ℕ) (cs ds : List Case) → T (ascending n (cs ++ ds)) → T (ascending n cs)
front-ascends n [] ds t = tt
front-ascends n (c ∷ cs) ds t =
    and_both (ltb n c.number) (ascending c.number cs)
    (and_left (ltb n c.number) (ascending c.number (cs ++ ds)) t)
    (front-ascends c.number cs ds (onward n c (cs ++ ds) t))

-- where some condition of a list's front holds, its lowest number r is the whole list's
pub front-refuses : (r : ℕ) (cs ds : List Case) → T (ascending 0 (cs ++ ds)) → r ≡ lowest cs → (r ≡ 0 → ⊥)
    → r ≡ lowest (cs ++ ds)
front-refuses r cs ds t e ne =
    first-is ∙ sym (first-stays cs ds (λ z. ne (first-is ∙ z))) ∙ sym (lowest-of-ascending-is-first 0 (cs ++ ds) t)
  where
    first-is : r ≡ first cs
    first-is = e ∙ lowest-of-ascending-is-first 0 cs (front-ascends 0 cs ds t)

-- where none of it holds, the program looks on in the rest
pub front-passes : (r : ℕ) (cs ds : List Case) → T (ascending 0 (cs ++ ds)) → r ≡ lowest cs → r ≡ 0
    → lowest (cs ++ ds) ≡ first ds
front-passes r cs ds t e z =
    lowest-of-ascending-is-first 0 (cs ++ ds) t
    ∙ first-goes-on 0 cs ds t
    (sym (lowest-of-ascending-is-first 0 cs (front-ascends 0 cs ds t)) ∙ sym e ∙ z)

-- where the whole list's number is 0, the front's is 0 and no condition of the rest holds
pub both-pass : (cs ds : List Case) → T (ascending 0 (cs ++ ds)) → T (ascending 0 ds) → lowest (cs ++ ds) ≡ 0
    → (lowest cs ≡ 0) × NoneHolds ds
both-pass cs ds t u e = (front, first-none 0 ds u (sym (front-passes (lowest cs) cs ds t refl front) ∙ e))
  where
    front : lowest cs ≡ 0
    front = go (ℕ_discrete (lowest cs) 0)
      where
        go : Dec (lowest cs ≡ 0) → lowest cs ≡ 0
        go (yes z) = z
        go (no ne) = absurd (ne (front-refuses (lowest cs) cs ds t refl ne ∙ e))

-- ---- lists that do not rise together: each of several viewports has its own (§9.4)

pub lower-min : (a b : ℕ) → 0 < a → 0 < b → lower a b ≡ min a b
unfolding lower
lower-min zero b h k = absurd (omega arith)
lower-min (suc a) zero h k = absurd (omega arith)
lower-min (suc a) (suc b) h k = refl

pub lower-none : (a : ℕ) → lower a 0 ≡ a
unfolding lower
lower-none zero = refl
lower-none (suc a) = refl

lower-assoc : (a b c : ℕ) → lower (lower a b) c ≡ lower a (lower b c)
unfolding lower
lower-assoc zero b c = refl
lower-assoc (suc a) zero c = refl
lower-assoc (suc a) (suc b) zero = lower-none (min (suc a) (suc b))
lower-assoc (suc a) (suc b) (suc c) =
    lower-min (min (suc a) (suc b)) (suc c) (omega arith) (omega arith)
    ∙ omega arith
    ∙ sym (lower-min (suc a) (min (suc b) (suc c)) (omega arith) (omega arith))

lower-zero : (a b : ℕ) → lower a b ≡ 0 → (a ≡ 0) × (b ≡ 0)
unfolding lower
lower-zero zero b e = (refl, e)
lower-zero (suc a) zero e = absurd (omega arith)
lower-zero (suc a) (suc b) e = absurd (omega arith)

-- the lower of a number and itself
pub lower-same : (a : ℕ) → lower a a ≡ a
unfolding lower
lower-same zero = refl
lower-same (suc a) = omega arith

-- the lowest number over two lists is the lower of their lowest
pub lowest-joined : (cs ds : List Case) → lowest (cs ++ ds) ≡ lower (lowest cs) (lowest ds)
unfolding lowest lower
lowest-joined [] ds = refl
lowest-joined (c ∷ cs) ds = go c.holds (lowest-joined cs ds)
  where
    go : (b : Bool) → lowest (cs ++ ds) ≡ lower (lowest cs) (lowest ds)
        → cond b (lower c.number (lowest (cs ++ ds))) (lowest (cs ++ ds))
        ≡ lower (cond b (lower c.number (lowest cs)) (lowest cs)) (lowest ds)
    go true e = ap (lower c.number) e ∙ sym (lower-assoc c.number (lowest cs) (lowest ds))
    go false e = e

-- it is 0 exactly where both are
pub joined-pass : (cs ds : List Case) → lowest (cs ++ ds) ≡ 0 → (lowest cs ≡ 0) × (lowest ds ≡ 0)
joined-pass cs ds e = lower-zero (lowest cs) (lowest ds) (sym (lowest-joined cs ds) ∙ e)

pub pass-joined : (cs ds : List Case) → lowest cs ≡ 0 → lowest ds ≡ 0 → lowest (cs ++ ds) ≡ 0
unfolding lower
pass-joined cs ds e e' = lowest-joined cs ds ∙ rw (e, e') refl

-- no number is given, so a case among them does not hold
pub does-not-hold : (cs : List Case) (n : ℕ) (b : Bool) (ds : List Case) → 0 < n → lowest (cs ++ (n when b ∷ ds)) ≡ 0 → b ≡ false
unfolding lowest
does-not-hold cs n false ds h e = refl
does-not-hold cs n true ds h e = absurd (omega (arith, (lower-zero n (lowest ds) (joined-pass cs (n when true ∷ ds) e).1).0))

-- one condition, which does not hold
pub none-of-one : (n : ℕ) (b : Bool) → b ≡ false → lowest (n when b ∷ []) ≡ 0
unfolding lowest
none-of-one n b f = rw f refl

lower-le : (a b n : ℕ) → a ≤ n → b ≤ n → lower a b ≤ n
unfolding lower
lower-le zero b n h k = k
lower-le (suc a) zero n h k = h
lower-le (suc a) (suc b) n h k = omega arith

lowest-up-to : (n : ℕ) (cs : List Case) → T (up_to n cs) → lowest cs ≤ n
unfolding lowest
lowest-up-to n [] t = omega arith
lowest-up-to n (c ∷ cs) t =
    let first = leb→le c.number n (and_left (leb c.number n) (up_to n cs) t) in
    let rest = lowest-up-to n cs (and_right (leb c.number n) (up_to n cs) t) in
    either_way (λ k. k ≤ n) c.holds (lower-le c.number (lowest cs) n first rest) rest

-- where some condition of such a front holds and the rest rises from n, the front's lowest number r is the whole list's
pub several-refuse : (r n : ℕ) (cs ds : List Case) → T (up_to n cs) → T (ascending n ds) → r ≡ lowest cs → (r ≡ 0 → ⊥)
    → r ≡ lowest (cs ++ ds)
several-refuse r n cs ds u t e ne =
    e ∙ sym (lower-keeps (lowest cs) (lowest ds) (omega (arith, some)) above) ∙ sym (lowest-joined cs ds)
  where
    some : lowest cs ≡ 0 → ⊥
    some z = ne (e ∙ z)

    above : (lowest ds ≡ 0) ⊎ (lowest cs < lowest ds)
    above =
        ⊎_elim (λ z. inl (lowest-of-ascending-is-first n ds t ∙ z))
        (λ l. inr (omega (arith, lowest-up-to n cs u, lowest-of-ascending-is-first n ds t)))
        (first_above n ds t)

-- where none of it holds, the program looks on in the rest
pub several-pass : (r n : ℕ) (cs ds : List Case) → T (ascending n ds) → r ≡ lowest cs → r ≡ 0 → lowest (cs ++ ds) ≡ first ds
unfolding lower
several-pass r n cs ds t e z =
    lowest-joined cs ds
    ∙ ap (λ (k : ℕ). lower k (lowest ds)) (sym e ∙ z)
    ∙ lowest-of-ascending-is-first n ds t

-- ---- one condition after another, in a straight line

-- how a program gives `and_where`
module _ (r : ℕ) (b : Bool) (n : ℕ) where
  pub and-where-refused : (r ≡ 0 → ⊥) → r ≡ and_where r b n
  unfolding and_where
  and-where-refused ne = go r ne
    where
      go : (m : ℕ) → (m ≡ 0 → ⊥) → m ≡ and_where m b n
      go zero f = absurd (f refl)
      go (suc m) f = refl

  pub and-where-holds : r ≡ 0 → b ≡ true → n ≡ and_where r b n
  unfolding and_where
  and-where-holds z t = rw (z, t) refl

  pub and-where-passes : r ≡ 0 → b ≡ false → 0 ≡ and_where r b n
  unfolding and_where
  and-where-passes z f = rw (z, f) refl

through-refused : (r : ℕ) (ds : List Case) → through (suc r) ds ≡ suc r
unfolding and_where
through-refused r [] = refl
through-refused r (c ∷ ds) = through-refused r ds

through-first : (n : ℕ) (ds : List Case) → T (ascending n ds) → through 0 ds ≡ first ds
unfolding and_where first
through-first n [] t = refl
through-first n (c ∷ ds) t = go c.holds c.number (rises n c ds t) (through-first c.number ds (onward n c ds t))
  where
    go : (b : Bool) (m : ℕ) → n < m → through 0 ds ≡ first ds → through (cond b m 0) ds ≡ cond b m (first ds)
    go true zero h e = absurd (omega arith)
    go true (suc m) h e = through-refused m ds
    go false m h e = e

-- one more, where the number so far and the condition are known by other names
pub and-next : (n : ℕ) {r x : ℕ} {b y : Bool} {k : ℕ} → k ≡ and_where r b n → r ≡ x → b ≡ y → k ≡ and_where x y n
and-next n e p q = e ∙ ap₂ (λ (i : ℕ) (c : Bool). and_where i c n) p q

-- r, the lowest number of a front whose numbers are n at most, carried through a rest that rises from n, is the whole list's
pub further : (r n : ℕ) (cs ds : List Case) → T (up_to n cs) → T (ascending n ds) → r ≡ lowest cs
    → through r ds ≡ lowest (cs ++ ds)
further zero n cs ds u t e = through-first n ds t ∙ sym (several-pass zero n cs ds t e refl)
further (suc r) n cs ds u t e = through-refused r ds ∙ several-refuse (suc r) n cs ds u t e (λ z. omega arith)

-- ---- one condition after another, where a program ends at the first that holds

first-passes : (n : ℕ) (ds rest : List Case) → T (ascending n (ds ++ rest)) → Passed ds → first (ds ++ rest) ≡ first rest
unfolding first
first-passes n [] rest t p = refl
first-passes n (c ∷ ds) rest t p =
    go c.holds c.number (rises n c (ds ++ rest) t) p.0 (first-passes c.number ds rest (onward n c (ds ++ rest) t) p.1)
  where
    go : (b : Bool) (m : ℕ) → n < m → 0 ≡ cond b m 0 → first (ds ++ rest) ≡ first rest
        → cond b m (first (ds ++ rest)) ≡ first rest
    go true m h z e = absurd (omega arith)
    go false m h z e = e

-- an empty front refuses nothing
pub no-front : 0 ≡ lowest []
unfolding lowest
no-front = refl

module _ (cs ds : List Case) (n k : ℕ) (b : Bool) (r : ℕ) where
  -- past a front of several and the conditions ds, the one numbered k holds
  pub chain-refuses : (es : List Case) → T (up_to n cs) → T (ascending n (ds ++ (k when b ∷ es))) → 0 ≡ lowest cs → Passed ds
      → r ≡ cond b k 0 → (r ≡ 0 → ⊥) → r ≡ lowest (cs ++ (ds ++ (k when b ∷ es)))
  unfolding first
  chain-refuses es u t z p e ne =
      go b e
      ∙ sym (first-passes n ds (k when b ∷ es) t p)
      ∙ sym (several-pass 0 n cs (ds ++ (k when b ∷ es)) t z refl)
    where
      go : (x : Bool) → r ≡ cond x k 0 → r ≡ cond x k (first es)
      go true q = q
      go false q = absurd (ne q)

  -- or it is the last one
  pub chain-ends : T (up_to n cs) → T (ascending n (ds ++ (k when b ∷ []))) → 0 ≡ lowest cs → Passed ds → r ≡ cond b k 0
      → r ≡ lowest (cs ++ (ds ++ (k when b ∷ [])))
  unfolding first
  chain-ends u t z p e =
      e
      ∙ sym (first-passes n ds (k when b ∷ []) t p)
      ∙ sym (several-pass 0 n cs (ds ++ (k when b ∷ [])) t z refl)
