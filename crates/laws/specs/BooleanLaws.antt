-- Laws of tests that the other files share. A reader need not believe them.
use Rattle.std.specs.Prelude.{◌≡◌, refl, Bool, true, false, cond, ◌&&◌, ◌||◌, List, [], ◌∷◌, ℕ, zero, suc, ◌<◌, T}
use Rattle.std.proofs.Common.{sym, ap, ◌∙◌, true≢false, arith}
use Rattle.std.proofs.Math.Decide.{ℕ_discrete}
use Rattle.laws.specs.Booleans.{any, some_below}

pub and_left : (a b : Bool) → T (a && b) → T a
and_left true b t = tt
and_left false b t = t

pub and_right : (a b : Bool) → T (a && b) → T b
and_right true b t = t
and_right false b t = absurd t

pub and_both : (a b : Bool) → T a → T b → T (a && b)
and_both true b s t = t
and_both false b s t = s

pub both_true : (a b : Bool) → a && b ≡ true → (a ≡ true) × (b ≡ true)
both_true true b e = (refl, e)
both_true false b e = absurd (true≢false (sym e))

pub or-false-left : (a b : Bool) → a || b ≡ false → a ≡ false
or-false-left true b e = e
or-false-left false b e = refl

pub or-false-right : (a b : Bool) → a || b ≡ false → b ≡ false
or-false-right true b e = absurd (true≢false e)
or-false-right false b e = e

pub or-false : {a b : Bool} → a ≡ false → b ≡ false → a || b ≡ false
or-false p q = rw (p, q)

pub or-never : (a : Bool) → a || false ≡ a
or-never true = refl
or-never false = refl

pub and-never : (a : Bool) → a && false ≡ false
and-never true = refl
and-never false = refl

pub or-true : (a : Bool) → a || true ≡ true
or-true true = refl
or-true false = refl

-- all of the tests are false
abbrev pub AllFalse : List Bool → Type 0
AllFalse [] = Unit
AllFalse (b ∷ bs) = (b ≡ false) × AllFalse bs

pub all-false : (bs : List Bool) → any bs ≡ false → AllFalse bs
all-false [] e = tt
all-false (b ∷ bs) e = (or-false-left b (any bs) e, all-false bs (or-false-right b (any bs) e))

pub none_true : (bs : List Bool) → AllFalse bs → any bs ≡ false
none_true [] f = refl
none_true (b ∷ bs) f = or-false f.0 (none_true bs f.1)

-- ---- a test at each number below n

pub none_below : (n : ℕ) (p : ℕ → Bool) → ((i : ℕ) → i < n → p i ≡ false) → some_below n p ≡ false
unfolding some_below
none_below zero p f = refl
none_below (suc n) p f = or-false (f n (omega arith)) (none_below n p (λ i h. f i (omega arith)))

pub one_below : (n : ℕ) (p : ℕ → Bool) (i : ℕ) → i < n → p i ≡ true → some_below n p ≡ true
unfolding some_below
one_below zero p i h t = absurd (omega arith)
one_below (suc n) p i h t = go (ℕ_discrete i n) (λ l. one_below n p i l t)
  where
    go : Dec (i ≡ n) → (i < n → some_below n p ≡ true) → p n || some_below n p ≡ true
    go (yes e) below = rw (← e, t)
    go (no ne) below = ap (λ (b : Bool). p n || b) (below (omega arith)) ∙ or-true (p n)

-- ---- a choice

-- what holds of both holds of the one that is chosen
pub either_way : {A : Type 0} (P : A → Type 0) (b : Bool) {x y : A} → P x → P y → P (cond b x y)
either_way P true p q = p
either_way P false p q = q

-- what a branch gives, where its test r is that of a choice
pub chosen : {A : Type 0} {r b : Bool} {v x : A} (y : A) → r ≡ b → r ≡ true → v ≡ x → v ≡ cond b x y
chosen {x} y e t p = p ∙ ap (λ (k : Bool). cond k x y) (sym t ∙ e)

pub not_chosen : {A : Type 0} {r b : Bool} {v y : A} (x : A) → r ≡ b → r ≡ false → v ≡ y → v ≡ cond b x y
not_chosen {y} x e t p = p ∙ ap (λ (k : Bool). cond k x y) (sym t ∙ e)
