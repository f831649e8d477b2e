-- Event handlers that have gone on.
use Rattle.std.proofs.Common.{◌≡◌, ◌≤◌, ℕ, suc, List, [], ◌∷◌, ◌++◌, length, map, refl, ap}
use Rattle.lb_loops.specs.Running.{HaveGoneOn}

-- there are as many of them as before
pub as_many : {A T : Type 0} (answered : T → ℕ) (taker : A → T) (olds : List A) (news : List T) → HaveGoneOn answered (map taker olds) news → length news ≡ length olds
as_many answered taker [] [] gone = refl
as_many answered taker (old ∷ olds) (new ∷ news) gone = ap suc (as_many answered taker olds news gone.1)
as_many answered taker [] (new ∷ news) gone = elim gone [ ]
as_many answered taker (old ∷ olds) [] gone = elim gone [ ]

-- and one more
pub with_last : {A T : Type 0} (answered : T → ℕ) (taker : A → T) (olds : List A) (last : A) (news : List T) (new : T) →
    HaveGoneOn answered (map taker olds) news → answered (taker last) ≤ answered new → HaveGoneOn answered (map taker (olds ++ last ∷ [])) (news ++ new ∷ [])
with_last answered taker [] last [] new gone on = (on, tt)
with_last answered taker (old ∷ olds) last (first ∷ news) new gone on = (gone.0, with_last answered taker olds last news new gone.1 on)
with_last answered taker [] last (first ∷ news) new gone on = elim gone [ ]
with_last answered taker (old ∷ olds) last [] new gone on = elim gone [ ]
