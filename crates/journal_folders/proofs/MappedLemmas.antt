-- What `map_err` leaves of a result.
use Rattle.std.proofs.Common.{◌≡◌, Result, Ok, Err, refl, sym, subst, ◌∙◌}
use Rattle.std.specs.Prelude.{MatchResult, IsErrAnd, OnErr, OnOk}
use Rattle.std.proofs.lemmas.Result.{err_from_is_err_and}

-- an error that was mapped is that of an error
pub mapped_err : {T E D : Type 0} (f : E → D) (r : Result T E) (m : Result T D) (d : D) → MatchResult r (λ x. m ≡ Ok x) (λ e. IsErrAnd m (λ y. y ≡ f e)) → m ≡ Err d → (e : E) × (r ≡ Err e) × (d ≡ f e)
mapped_err f (Ok x) m d h is = absurd (let bad : Ok x ≡ Err d = sym h ∙ is in cc)
mapped_err f (Err e) m d h is =
    let (y, made, from) = err_from_is_err_and m h in
    (e, refl, (let same : Err d ≡ Err y = sym is ∙ made in let one : d ≡ y = cc in one ∙ from))

-- a value that was kept is that of the result
pub mapped_ok : {T E D : Type 0} (f : E → D) (r : Result T E) (m : Result T D) (x : T) → MatchResult r (λ x. m ≡ Ok x) (λ e. IsErrAnd m (λ y. y ≡ f e)) → m ≡ Ok x → r ≡ Ok x
mapped_ok f (Ok y) m x h is = let same : Ok y ≡ Ok x = sym h ∙ is in cc
mapped_ok f (Err e) m x h is =
    let (y, made, from) = err_from_is_err_and m h in
    absurd (let bad : Err y ≡ Ok x = sym made ∙ is in cc)

-- what holds where there is a value, or an error
pub on_ok_at : {T E P : Type 0} {r : Result T E} {x : T} → r ≡ Ok x → OnOk r P → P
on_ok_at {T} {E} {P} is h = subst (λ (s : Result T E). OnOk s P) is h

pub on_err_at : {T E P : Type 0} {r : Result T E} {e : E} → r ≡ Err e → OnErr r P → P
on_err_at {T} {E} {P} is h = subst (λ (s : Result T E). OnErr s P) is h
