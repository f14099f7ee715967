-- Lists whose elements go together, place by place.
use Rattle.std.proofs.Common.{◌≡◌, ℕ, suc, ◌+◌, ◌<◌, List, [], ◌∷◌, ◌++◌, length, take, get_or, add-one, refl, ap}
use Rattle.std.proofs.Math.Seq.{take-suc}
use Rattle.std.specs.List.{AllZip}
use Rattle.tus_shared.specs.Answers.{AllFour}

-- two such pairs of lists, joined
pub AllZip-append : {A B : Type 0} (xs more : List A) (ys others : List B) (P : A → B → Type 0) → AllZip P xs ys → AllZip P more others → AllZip P (xs ++ more) (ys ++ others)
AllZip-append [] more [] others P all rest = rest
AllZip-append [] more (y ∷ ys) others P all rest = absurd all
AllZip-append (x ∷ xs) more [] others P all rest = absurd all
AllZip-append (x ∷ xs) more (y ∷ ys) others P all rest = (all.0, AllZip-append xs more ys others P all.1 rest)

-- two such lists without their last elements; and these
init : {A B : Type 0} (firsts : List A) (x : A) (ys : List B) (y : B) (P : A → B → Type 0) → AllZip P (firsts ++ x ∷ []) (ys ++ y ∷ []) → AllZip P firsts ys × P x y
init [] x [] y P all = (tt, all.0)
init [] x (z ∷ []) y P all = absurd all.1
init [] x (z ∷ w ∷ ys) y P all = absurd all.1
init (f ∷ []) x [] y P all = absurd all.1
init (f ∷ g ∷ firsts) x [] y P all = absurd all.1
init (f ∷ firsts) x (z ∷ ys) y P all = let rest = init firsts x ys y P all.1 in ((all.0, rest.0), rest.1)

pub AllZip-init : {A B : Type 0} (xs firsts : List A) (x : A) (rooms ys : List B) (y : B) (P : A → B → Type 0)
    → xs ≡ firsts ++ x ∷ [] → rooms ≡ ys ++ y ∷ [] → AllZip P xs rooms → AllZip P firsts ys × P x y
AllZip-init xs firsts x rooms ys y P whole popped all = init firsts x ys y P (rw (whole, popped) at all)

-- one more of each
pub AllZip-next : {A B : Type 0} (xs : List A) (ys more : List B) (P : A → B → Type 0) (n : ℕ) (x : A) (y : B)
    → n < length xs → x ≡ get_or xs n x → more ≡ ys ++ y ∷ [] → AllZip P (take n xs) ys → P x y → AllZip P (take (n + 1) xs) more
AllZip-next xs ys more P n x y within is pushed so_far here =
    rw (add-one, take-suc xs n x within, ← is, pushed) (AllZip-append (take n xs) (x ∷ []) ys (y ∷ []) P so_far (here, tt))

-- four such lists, with one more of each at the end
AllFour-push : {A B C D : Type 0} (P : A → B → C → D → Type 0) (xs : List A) (x : A) (ys : List B) (y : B) (zs : List C) (z : C) (ws : List D) (w : D)
    → AllFour P xs ys zs ws → P x y z w → AllFour P (xs ++ x ∷ []) (ys ++ y ∷ []) (zs ++ z ∷ []) (ws ++ w ∷ [])
AllFour-push P [] x [] y [] z [] w all here = (here, tt)
AllFour-push P [] x [] y [] z (v ∷ ws) w all here = absurd all
AllFour-push P [] x [] y (u ∷ zs) z ws w all here = absurd all
AllFour-push P [] x (r ∷ ys) y zs z ws w all here = absurd all
AllFour-push P (q ∷ xs) x [] y zs z ws w all here = absurd all
AllFour-push P (q ∷ xs) x (r ∷ ys) y [] z ws w all here = absurd all
AllFour-push P (q ∷ xs) x (r ∷ ys) y (u ∷ zs) z [] w all here = absurd all
AllFour-push P (q ∷ xs) x (r ∷ ys) y (u ∷ zs) z (v ∷ ws) w all here = (all.0, AllFour-push P xs x ys y zs z ws w all.1 here)

pub AllFour-last : {A B C D : Type 0} (P : A → B → C → D → Type 0) (xs firsts : List A) (x : A) (lists ys : List B) (y : B) (olds zs : List C) (z : C) (news ws : List D) (w : D)
    → xs ≡ firsts ++ x ∷ [] → lists ≡ ys ++ y ∷ [] → olds ≡ zs ++ z ∷ [] → news ≡ ws ++ w ∷ [] → AllFour P firsts ys zs ws → P x y z w → AllFour P xs lists olds news
AllFour-last P xs firsts x lists ys y olds zs z news ws w whole replies before after all here =
    rw (whole, replies, before, after) (AllFour-push P firsts x ys y zs z ws w all here)

-- the second and the fourth are as long as the first
pub AllFour-long : {A B C D : Type 0} (P : A → B → C → D → Type 0) (xs : List A) (ys : List B) (zs : List C) (ws : List D) → AllFour P xs ys zs ws → (length xs ≡ length ys) × (length xs ≡ length ws)
AllFour-long P [] [] [] [] all = (refl, refl)
AllFour-long P [] [] [] (w ∷ ws) all = absurd all
AllFour-long P [] [] (z ∷ zs) ws all = absurd all
AllFour-long P [] (y ∷ ys) zs ws all = absurd all
AllFour-long P (x ∷ xs) [] zs ws all = absurd all
AllFour-long P (x ∷ xs) (y ∷ ys) [] ws all = absurd all
AllFour-long P (x ∷ xs) (y ∷ ys) (z ∷ zs) [] all = absurd all
AllFour-long P (x ∷ xs) (y ∷ ys) (z ∷ zs) (w ∷ ws) all = let rest = AllFour-long P xs ys zs ws all.1 in (ap suc rest.0, ap suc rest.1)

-- four lists with no element
pub AllFour-none : {A B C D : Type 0} (P : A → B → C → D → Type 0) (xs : List A) (ys : List B) (zs : List C) (ws : List D) → length xs ≡ 0 → length ys ≡ 0 → length zs ≡ 0 → length ws ≡ 0
    → AllFour P xs ys zs ws
AllFour-none P [] [] [] [] x y z w = tt
AllFour-none P (v ∷ xs) ys zs ws x y z w = absurd (cc)
AllFour-none P [] (v ∷ ys) zs ws x y z w = absurd (cc)
AllFour-none P [] [] (v ∷ zs) ws x y z w = absurd (cc)
AllFour-none P [] [] [] (v ∷ ws) x y z w = absurd (cc)
