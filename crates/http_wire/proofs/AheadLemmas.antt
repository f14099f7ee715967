-- What reads and writes do to known bytes, one call after another.
use Rattle.std.proofs.Common.{◌≡◌, ℕ, refl, ◌+◌, List, [], ◌++◌, Option, Some, None, Result, Ok, Err, is_err, true, false, true≢false, IfOk, IfSome, OnOk, OnErr, subst, take, drop, sym, ap, ◌∙◌, append-nil, append_assoc}
use Rattle.std.proofs.Math.Seq.{take-add}
use Rattle.std.specs.Io.KnownBytes.{Appends, Consumes, Keeps}
use Rattle.http_wire.specs.inside.Ahead.{Ahead, StopsAtEnd}

-- what holds of an error holds where there is one
pub OnErr-known : {T E P : Type 0} (r : Result T E) → is_err r ≡ true → OnErr r P → P
OnErr-known (Ok x) is h = absurd cc
OnErr-known (Err e) is h = h

-- and what holds of a value where there is one
pub OnOk-known : {T E P : Type 0} (r : Result T E) → is_err r ≡ false → OnOk r P → P
OnOk-known (Ok x) is h = h
OnOk-known (Err e) is h = absurd cc

pub IfOk-known : {T E : Type 0} (P : T → Type 0) (r : Result T E) → is_err r ≡ false → IfOk r P → (x : T) × (r ≡ Ok x) × P x
IfOk-known P (Ok x) is h = (x, refl, h)
IfOk-known P (Err e) is h = absurd cc

-- two facts of one value
pub IfOk-both : {T E : Type 0} (P Q : T → Type 0) (r : Result T E) → IfOk r P → IfOk r Q → IfOk r (λ x. P x × Q x)
IfOk-both P Q (Ok x) p q = (p, q)
IfOk-both P Q (Err e) p q = tt

pub IfSome-known : {T : Type 0} (P : T → Type 0) (o : Option T) (x : T) → o ≡ Some x → IfSome o P → P x
IfSome-known P o x is h = subst (λ o. IfSome o P) is h

-- what holds anyway holds of an error, and of a value
pub OnErr-always : {T E P : Type 0} (r : Result T E) → P → OnErr r P
OnErr-always (Ok x) h = tt
OnErr-always (Err e) h = h

pub OnOk-always : {T E P : Type 0} (r : Result T E) → P → OnOk r P
OnOk-always (Ok x) h = h
OnOk-always (Err e) h = tt

-- bytes that stay are bytes of which none were taken
pub Consumes-from_keeps : (before after : Option (List ℕ)) → Keeps before after → Consumes before after []
Consumes-from_keeps None after h = tt
Consumes-from_keeps (Some xs) None h = absurd h
Consumes-from_keeps (Some xs) (Some ys) h = sym h

-- nothing was written
pub Appends-none : (x : Option (List ℕ)) → Appends x x []
Appends-none None = tt
Appends-none (Some xs) = sym (append-nil xs)

-- a write, and then another
pub Appends-more : (x y z : Option (List ℕ)) (a b : List ℕ) → Appends x y a → Appends y z b → Appends x z (a ++ b)
Appends-more None y z a b h k = tt
Appends-more (Some xs) None z a b h k = absurd h
Appends-more (Some xs) (Some ys) None a b h k = absurd k
Appends-more (Some xs) (Some ys) (Some zs) a b h k = k ∙ ap (λ l. l ++ b) h ∙ append_assoc xs a b

-- a write of a prefix of what was left of some bytes
pub Appends-step : (x y z : Option (List ℕ)) (bytes : List ℕ) (done n : ℕ) → Appends x y (take done bytes) → Appends y z (take n (drop done bytes))
    → Appends x z (take (done + n) bytes)
Appends-step x y z bytes done n h k = rw take-add (Appends-more x y z (take done bytes) (take n (drop done bytes)) h k)

-- nothing was read
pub Consumes-none : (x : Option (List ℕ)) → Consumes x x []
Consumes-none None = tt
Consumes-none (Some xs) = refl

-- a read, and then another
pub Consumes-more : (x y z : Option (List ℕ)) (a b : List ℕ) → Consumes x y a → Consumes y z b → Consumes x z (a ++ b)
Consumes-more None y z a b h k = tt
Consumes-more (Some xs) None z a b h k = absurd h
Consumes-more (Some xs) (Some ys) None a b h k = absurd k
Consumes-more (Some xs) (Some ys) (Some zs) a b h k = h ∙ ap (λ l. a ++ l) k ∙ sym (append_assoc a b zs)

-- a read, and then one that took nothing
pub Consumes-kept : (x y z : Option (List ℕ)) (a : List ℕ) → Consumes x y a → Keeps y z → Consumes x z a
Consumes-kept None y z a h k = tt
Consumes-kept (Some xs) None z a h k = absurd h
Consumes-kept (Some xs) (Some ys) None a h k = absurd k
Consumes-kept (Some xs) (Some ys) (Some zs) a h k = h ∙ ap (λ l. a ++ l) (sym k)

-- the end was not seen yet, so it was not seen before
pub StopsAtEnd-open : {R : Type 0} (before here after : R) (old held new : Ahead) → StopsAtEnd before here old held → held.ended ≡ false → StopsAtEnd before after old new
StopsAtEnd-open before here after old held new stops unended seen = absurd (true≢false (sym (stops seen).1 ∙ unended))
