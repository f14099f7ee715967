use Rattle.std.proofs.Common.{◌≡◌, ◌++◌, ◌∷◌, [], List, All, append_assoc, length, map, false, length-append, ap, ◌∙◌, sym, arith}
use Rattle.std.proofs.lemmas.List.{map-append}
use Rattle.std.proofs.lemmas.List.Elements.{All-append, All-cons}
use Rattle.tus_workers.proofs.worker.hire.Goals as goal

-- what holds of each element and of one more holds of all of them
All-push : {X : Type 0} (xs ys : List X) (x : X) (P : X → Type 0) → ys ≡ xs ++ x ∷ [] → All P xs → P x → All P ys
All-push xs ys x P pushed each one = rw pushed (All-append P xs (x ∷ []) each (All-cons P x [] one (λ k d lt. absurd (omega arith))))

-- one more is the next of those that are left
next-is : {X Y : Type 0} (f : X → Y) (xs ys : List X) (x : X) (left rest all : List Y) → ys ≡ xs ++ x ∷ [] → left ≡ f x ∷ rest → map f xs ++ left ≡ all → map f ys ++ rest ≡ all
next-is f xs ys x left rest all pushed took same =
    rw (pushed, map-append f xs (x ∷ []), append_assoc (map f xs) (f x ∷ []) rest) (ap (λ l. map f xs ++ l) (sym took) ∙ same)

pub loop-desk-preserved : goal.loop-desk-preserved
loop-desk-preserved g c =
    let pushed = c.push_reserved.ensures.items in
    let more = simp length-append at (ap length pushed) in
    let fewer = ap length c.in-Some.ensures.steps.0 in
    record {
      desks = next-is (λ w. w.desk) c.loop-desk.workers.items c.push_reserved.new.self.items _ _ _ _ pushed c.in-Some.ensures.steps.0 c.loop-desk.invariant.desks;
      count = omega (arith, more, fewer);
      room = omega (arith, more, fewer, c.push_reserved.ensures.capacity);
      alive = All-push c.loop-desk.workers.items c.push_reserved.new.self.items _ (λ w. g.L.Acceptor.Accept.has_failed w.acceptor ≡ false) pushed c.loop-desk.invariant.alive c.in_ok-acceptor.ensures.alive;
      unstopped = All-push c.loop-desk.workers.items c.push_reserved.new.self.items _ (λ w. g.L.Acceptor.Accept.is_stopped w.acceptor ≡ false) pushed c.loop-desk.invariant.unstopped c.in_ok-acceptor.ensures.unstopped;
      new = All-push c.loop-desk.workers.items c.push_reserved.new.self.items _ (λ w. g.L.Acceptor.Accept.accepted w.acceptor ≡ 0) pushed c.loop-desk.invariant.new c.in_ok-acceptor.ensures.new;
    }
