-- Where no refusal or fault applies, none of the tests holds.
use Rattle.std.proofs.Common.{◌≡◌, Bool, true, false, cond, List, [], ◌∷◌, ◌++◌, Option, Some, None, refl}
use Rattle.upload_book.specs.Refusal.{first_that_holds}

-- the first test fails, and the others find nothing
pub test-passed : {R : Type 0} (test : Bool) (r : R) (rest : Option R) → cond test (Some r) rest ≡ None → (test ≡ false) × (rest ≡ None)
test-passed true r rest none = absurd (cc)
test-passed false r rest none = (refl, none)

-- the first test that holds of two lists: one of the first,
pub first-of-both : {R : Type 0} (tests others : List (Bool × R)) (r : R) → first_that_holds tests ≡ Some r → first_that_holds (tests ++ others) ≡ Some r
first-of-both [] others r is = absurd (cc)
first-of-both ((true, reason) ∷ tests) others r is = is
first-of-both ((false, reason) ∷ tests) others r is = first-of-both tests others r is

-- and where none of those does, one of the second
pub first-of-others : {R : Type 0} (tests others : List (Bool × R)) → first_that_holds tests ≡ None → first_that_holds (tests ++ others) ≡ first_that_holds others
first-of-others [] others none = refl
first-of-others ((true, reason) ∷ tests) others none = absurd (cc)
first-of-others ((false, reason) ∷ tests) others none = first-of-others tests others none
