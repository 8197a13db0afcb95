-- What hand-written walks share (the kit's guide PROOFS, section 3): steps that several take, and a walk whose parameters are all given
-- up. A reader need not believe them.
use Rattle.std.specs.Prelude.{◌≡◌, ℕ, zero, List, [], ◌∷◌}
use Rattle.std.proofs.Common.{sym, subst}
use seplogic.Ra.Ura.{Ura}
use base.Fraction.{full_share}
use mir.Syntax.{Callee, Ty, Fn, Place, Opd as Operand, Body, place, copy, seq, call}
use mir.Val.{Val}
use base.Logic.{SProp, ent, sep, emp, via, emp∗, comm∗, fst∗, snd∗, mono∗, mono_r, ex_e, id⊢}
use base.Fml.{Share, fat, fdies}
use prog.Wp.{Env, Calls, Loops, Tables, WpFn, spot_of}
use types.Logic.{Logic, sem}
use sound.WpLaws.{FmC, WpFn-mono}
use contract.Lifetimes.{Lfts, Shares, AllOutlive}
use contract.Monad.{fact}
use types.Kit.{Item, Post, Goal, Seq, Step, step, runs, lands, frees, ‵, raw, ◌⊛◌, some, later, ⋆, mean, nth, del, pull, push, ◌$◌, ◌∵◌, !, qed, move, use0, use1, split, join, pick, await, suffices, done}
use types.Run.{Opd, Opds, look, stop, from, load, free1}
use denote.Laws.{Are, Ises, Spells, Tellss, valss}
use denote.RattleType.{Denots, Valss, flat}
use denote.Signature.{Slot, type_at, types_at}
use denote.Steps.{heard}
use denote.Triple.Call.{calls_at}
use denote.Triple.Clauses.{Clauses, Ended, Lasts, at_exit, lasts, ensured, closing}
use denote.Triple.End.{Kepts, Fins}
use denote.Triple.Entry.{Args, Res, alive, on_entry}
use denote.Triple.Spec.{Meets, triple_of}
use denote.Triple.Statement.{Contract, Triple}
use denote.Triple.Walked.{Stays, stay_dropped, has_of, fits_of, walk_of, ends_at, Silent, AllGo, Goes-dropped, says, walked, walk_Meets}

-- ---- steps

-- what a callee without `requires` asks
pub no-requires : {M : Type 1} (𝓤 : Ura M) (P : SProp 𝓤) → ent 𝓤 P (sep 𝓤 P (emp 𝓤))
no-requires 𝓤 P = via 𝓤 (sep 𝓤 (emp 𝓤) P) (emp∗ 𝓤 P) (comm∗ 𝓤 (emp 𝓤) P)

-- a callee's contract, as a caller cites it
abbrev Cited : {M : Type 1} {𝓤 : Ura M} (𝓛 : Logic 𝓤) (T : Ended) → Clauses 𝓤 T → Contract 𝓤
Cited 𝓛 T c = triple_of 𝓛 T.signature (closing 𝓛 T c)

-- an entry taken out of the context
out : {M : Type 1} {𝓤 : Ura M} (𝓛 : Logic 𝓤) (Γ : List (Item 𝓤)) (n : ℕ) {i : Item 𝓤} → nth 𝓛 n Γ ≡ i
    → ent 𝓤 (⋆ 𝓛 Γ) (sep 𝓤 (mean 𝓛 i) (⋆ 𝓛 (del 𝓛 n Γ)))
out {𝓤 = 𝓤} 𝓛 Γ n e =
    subst (λ (j : Item 𝓤). ent 𝓤 (⋆ 𝓛 Γ) (sep 𝓤 (mean 𝓛 j) (⋆ 𝓛 (del 𝓛 n Γ)))) e (pull 𝓛 n Γ)

module _ {M : Type 1} {𝓤 : Ura M} {𝓛 : Logic 𝓤} {K : Type 0} {Γ : List (Item 𝓤)} {E : Env 𝓤 𝓛.H} where
  -- an operand that is a whole local: its cell is entry n
  open 𝓛 use {H}

  pub copied : K → (n : ℕ) {i : ℕ} {q : Share} {v : Val}
      → nth 𝓛 n Γ ≡ ‵ (fat q (spot_of 𝓤 H E i).0 (spot_of 𝓤 H E i).1 (spot_of 𝓤 H E i).2 v) → Opd K 𝓛 Γ E (copy (place i [])) v
  copied t n e = load t (from t (stop t)) (look t n e)

  -- a local is freed: its cell is entry n, and what frees it comes next
  pub freed : K → (n : ℕ) {τ : Ty} {b : ℕ} {v : Val} {g : Goal 𝓤 H}
      → nth 𝓛 n Γ ≡ ‵ (fat full_share τ b zero v) → nth 𝓛 n (del 𝓛 n Γ) ≡ ‵ (fdies τ b)
      → Step K 𝓛 (del 𝓛 n (del 𝓛 n Γ)) (frees E g) Γ (frees ((τ, b) ∷ E) g)
  freed t n {τ} {b} {v} {g} e e' =
      let Δ : List (Item 𝓤) = del 𝓛 n Γ in
      let Δ' : List (Item 𝓤) = del 𝓛 n Δ in
      step (λ s. record {
        prf =
            via 𝓤 (sep 𝓤 (H.at full_share τ b zero v) (⋆ 𝓛 Δ)) (out 𝓛 Γ n e)
            (via 𝓤 (sep 𝓤 (H.room τ b zero) (⋆ 𝓛 (‵ (fdies τ b) ∷ Δ')))
            (mono∗ 𝓤 (𝓛.laws.at_room τ b zero v)
            (via 𝓤 (sep 𝓤 (H.dies τ b) (⋆ 𝓛 Δ')) (out 𝓛 Δ n e') (push 𝓛 (‵ (fdies τ b)) Δ')))
            (free1 t $ s).prf);
      })

  -- a call by its callee's contract c, which says φ of the result whatever the last values are: the caller has the result r with what
  -- it owns, the tokens, and φ r
  pub told : K → {C : Calls 𝓤 H} {Λ : Loops 𝓤 H} {q : Post 𝓤 H} {d : Place} {f : Callee} {xs : List Operand} {rest : Body}
      → FmC 𝓤 H 𝓛.laws C → (T : Ended) (c : Clauses 𝓤 T) → Triple 𝓤 (C f) (Cited 𝓛 T c) → (y : (Cited 𝓛 T c).Ghost)
      → Opds K 𝓛 (raw ((Cited 𝓛 T c).pre y) ∷ Γ) E xs ((Cited 𝓛 T c).args y) → (φ : Res T.signature y.0.0 → Type 0)
      → ((r : Res T.signature y.0.0) (ws : Lasts T y.0.0 y.0.3)
      → (c y.0.0 y.0.3).ensures y.1 r (at_exit T y.0.0 y.0.3 ws) ≡ fact 𝓤 (φ r))
      → ((u : Val) (r : Res T.signature y.0.0) → φ r
      → Seq K 𝓛
      (‵ ((type_at T.signature.result y.0.0).own_val r (u ∷ [])) ∷ raw (alive 𝓛 T.signature y.0.0 y.0.1) ∷ Γ)
      (lands C Λ E d u rest q))
      → Seq K 𝓛 (raw ((Cited 𝓛 T c).pre y) ∷ Γ) (runs C Λ E (seq (call f xs d) rest) q)
  told t fm T c known y os φ says-φ k =
      calls_at t fm (Cited 𝓛 T c) known y os (λ u.
      use1 𝓛
      (later (some (λ (r : Res T.signature y.0.0).
      (raw (alive 𝓛 T.signature y.0.0 y.0.1) ⊛ ‵ ((type_at T.signature.result y.0.0).own_val r (u ∷ [])))
      ⊛ raw (ensured 𝓛 T c y.0.0 y.0.3 y.1 r))))
      (id⊢ 𝓤 _) $ await t tt $ pick t (λ r. split t $ move t (1 ∷ []) $ use1 𝓛 (raw (fact 𝓤 (φ r))) (said r) $
      heard t (φ r) (λ e. split t $ move t (1 ∷ []) $ k u r e)))
    where
      said : (r : Res T.signature y.0.0) → ent 𝓤 (ensured 𝓛 T c y.0.0 y.0.3 y.1 r) (fact 𝓤 (φ r))
      said r =
          ex_e 𝓤 _ (λ ws.
          subst (λ (P : SProp 𝓤). ent 𝓤 (sep 𝓤 (sem 𝓛 (lasts T y.0.0 y.0.3 ws)) P) (fact 𝓤 (φ r))) (sym (says-φ r ws))
          (snd∗ 𝓤 (sem 𝓛 (lasts T y.0.0 y.0.3 ws)) (fact 𝓤 (φ r))))

-- ---- parameters that are given up: each is Copy, and a contract says nothing of it at exit, so that a walk may hand what it owns to a
-- callee or to the result

abbrev pub given_up : {n : ℕ} (ss : List (Slot n)) (ks : Kepts ss) → Stays ss ks
given_up [] ks = tt
given_up (s ∷ ss) ks = (stay_dropped s ks.0, given_up ss ks.1)

module _ {M : Type 1} {𝓤 : Ura M} (𝓛 : Logic 𝓤) where
  open 𝓛 use {H}

  module _ {n : ℕ} where
    -- nothing is said of a parameter at exit
    abbrev pub AllSilent : (ss : List (Slot n)) → Kepts ss → Type 1
    AllSilent [] ks = Unit {1}
    AllSilent (s ∷ ss) ks = Silent 𝓛 n s ks.0 × AllSilent ss ks.1

    pub all_go : (ss : List (Slot n)) (ks : Kepts ss) → AllSilent ss ks → AllGo 𝓛 n ss ks (given_up ss ks)
    all_go [] ks silent = tt
    all_go (s ∷ ss) ks silent = (Goes-dropped 𝓛 n s ks.0 silent.0, all_go ss ks.1 silent.1)

    fits : (κs : Lfts n) (ss : List (Slot n)) (ks : Kepts ss) (a : Denots (types_at ss κs)) (ws : Fins κs ss ks a)
        → fits_of κs ss ks (given_up ss ks) a ws
    fits κs [] ks a ws = tt
    fits κs (s ∷ ss) ks a ws = (tt, fits κs ss ks.1 a.1 ws.1)

    none-had : (κs : Lfts n) (ss : List (Slot n)) (ks : Kepts ss) (a : Denots (types_at ss κs)) (ws : Fins κs ss ks a)
        (vss : Valss (types_at ss κs)) → ent 𝓤 (emp 𝓤) (sem 𝓛 (has_of κs ss ks (given_up ss ks) a ws vss))
    none-had κs [] ks a ws vss = id⊢ 𝓤 _
    none-had κs (s ∷ ss) ks a ws vss =
        via 𝓤 (sep 𝓤 (emp 𝓤) (emp 𝓤)) (emp∗ 𝓤 (emp 𝓤)) (mono_r 𝓤 (emp 𝓤) (none-had κs ss ks.1 a.1 ws.1 vss.1))

  module _ (T : Ended) (c : Clauses 𝓤 T) where
    -- a walk over such parameters ends in the tokens and what the result r owns, beside what the contract says of r
    pub ends-in : (y : (walk_of 𝓛 T (given_up T.signature.params T.kept) c).Ghost) (v : Val)
        (r : Res T.signature y.0.0) (ws : Lasts T y.0.0 y.0.3)
        → ent 𝓤
        (sep 𝓤
        (sep 𝓤 (alive 𝓛 T.signature y.0.0 y.0.1) (sem 𝓛 ((type_at T.signature.result y.0.0).own_val r (v ∷ []))))
        ((c y.0.0 y.0.3).ensures y.1 r (at_exit T y.0.0 y.0.3 ws)))
        ((walk_of 𝓛 T (given_up T.signature.params T.kept) c).post y v)
    ends-in y v r ws =
        qed 𝓛
        ((raw (alive 𝓛 T.signature y.0.0 y.0.1) ⊛ ‵ ((type_at T.signature.result y.0.0).own_val r (v ∷ [])))
        ∷ raw ((c y.0.0 y.0.3).ensures y.1 r (at_exit T y.0.0 y.0.3 ws))
        ∷ []) ∵
        suffices ! _
        (ends_at 𝓛 T (given_up T.signature.params T.kept) c y v r ws
        (fits y.0.0 T.signature.params T.kept y.0.3 ws)) $
        split ! $
        use0 𝓛 (‵ (has_of y.0.0 T.signature.params T.kept (given_up T.signature.params T.kept) y.0.3 ws y.0.4))
        (none-had y.0.0 T.signature.params T.kept y.0.3 ws y.0.4) $
        move ! (0 ∷ 2 ∷ []) $ join ! $ move ! (1 ∷ 0 ∷ []) $ join ! $ done !

    -- the same where the contract says the fact φ of r, from what a call leaves
    pub ends-told : (y : (walk_of 𝓛 T (given_up T.signature.params T.kept) c).Ghost) (v : Val)
        (r : Res T.signature y.0.0) (ws : Lasts T y.0.0 y.0.3) (φ : Type 0)
        → (c y.0.0 y.0.3).ensures y.1 r (at_exit T y.0.0 y.0.3 ws) ≡ fact 𝓤 φ → φ
        → ent 𝓤
        (⋆ 𝓛
        (‵ ((type_at T.signature.result y.0.0).own_val r (v ∷ [])) ∷ raw (alive 𝓛 T.signature y.0.0 y.0.1) ∷ []))
        ((walk_of 𝓛 T (given_up T.signature.params T.kept) c).post y v)
    ends-told y v r ws φ says-φ p =
        let Owned : SProp 𝓤 =
        sep 𝓤 (alive 𝓛 T.signature y.0.0 y.0.1) (sem 𝓛 ((type_at T.signature.result y.0.0).own_val r (v ∷ []))) in
        qed 𝓛 (‵ ((type_at T.signature.result y.0.0).own_val r (v ∷ [])) ∷ raw (alive 𝓛 T.signature y.0.0 y.0.1) ∷ []) ∵
        suffices ! _
        (subst
        (λ (P : SProp 𝓤). ent 𝓤 (sep 𝓤 Owned P) ((walk_of 𝓛 T (given_up T.signature.params T.kept) c).post y v))
        says-φ (ends-in y v r ws)) $
        says ! p $ move ! (1 ∷ 0 ∷ []) $ done !

    -- a function without `requires` that is walked from its entry on, with the arguments' relations in hand, meets its contract
    module _ (hs : Stays T.signature.params T.kept)
        (gs : AllGo 𝓛 T.signature.lifetimes T.signature.params T.kept hs) where
      pub meets : (𝓣 : Tables 𝓤 H) (f : Fn) (sp : (κs : Lfts T.signature.lifetimes) → Spells (types_at T.signature.params κs))
          → ((κs : Lfts T.signature.lifetimes) → Tellss (types_at T.signature.params κs) (Ises (types_at T.signature.params κs)) (sp κs))
          → ((κs : Lfts T.signature.lifetimes) (qs : Shares T.signature.lifetimes)
          (bounds : AllOutlive T.signature.lifetimes T.signature.outlives κs) (a : Args T.signature κs) (g : (c κs a).ghost)
          → Are (types_at T.signature.params κs) (Ises (types_at T.signature.params κs)) a (valss (types_at T.signature.params κs) (sp κs) a)
          → ent 𝓤 (on_entry 𝓛 T.signature κs qs a (valss (types_at T.signature.params κs) (sp κs) a))
          (WpFn 𝓤 H 𝓣.C 𝓣.Λ f (flat (types_at T.signature.params κs) (valss (types_at T.signature.params κs) (sp κs) a))
          ((walk_of 𝓛 T hs c).post ((κs, qs, bounds, a, valss (types_at T.signature.params κs) (sp κs) a), g))))
          → Meets 𝓛 T.signature (WpFn 𝓤 H 𝓣.C 𝓣.Λ f) (closing 𝓛 T c)
      meets 𝓣 f sp tl walk =
          walk_Meets 𝓛 T hs gs c (WpFn 𝓤 H 𝓣.C 𝓣.Λ f) (WpFn-mono 𝓤 H 𝓛.laws 𝓣 f)
          (walked 𝓛 T hs c (WpFn 𝓤 H 𝓣.C 𝓣.Λ f) sp tl
          (λ κs qs bounds a g are. via 𝓤 _ (fst∗ 𝓤 _ ((c κs a).requires g)) (walk κs qs bounds a g are)))
