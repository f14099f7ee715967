-- Clients that leave their lists, one after the other.
use Rattle.std.specs.Prelude.{◌≡◌, ℕ, ◌++◌, [], ◌∷◌}
use Rattle.std.proofs.lemmas.Fn.{FoldsTo-push}
use Rattle.turn_lists.specs.Lists.{Lists, list_of, without}
use Rattle.tus_workers.specs.Turns.{HaveLeft}

pub one-more-left : (old before after : Lists) (key : ℕ) → HaveLeft old before → after ≡ without before key (list_of before key) → HaveLeft old after
one-more-left old before after key left is =
    (left.0 ++ key ∷ [], FoldsTo-push (λ (from : Lists) (k : ℕ) (to : Lists). to ≡ without from k (list_of from k)) old left.0 before key after left.1 is)
