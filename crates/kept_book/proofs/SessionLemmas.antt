-- Requests that are answered one after another.
use Rattle.std.proofs.Common.{◌≡◌, ℕ, ◌+◌, ◌<◌, List, [], ◌∷◌, ◌++◌, length, get_or, take, refl, sym, ap, subst, ◌∙◌, append_assoc}
use Rattle.std.proofs.lemmas.List.{append-nil, take_more}
use Rattle.sqlite_disk.specs.declared.Disk.{Ghosts}
use Rattle.tus_steps.specs.declared.reply.Reply.{Reply}
use Rattle.tus_steps.specs.Request.{Request}
use Rattle.upload_book.specs.Events.{ChangeEvent, book_after_all}
use Rattle.upload_book.specs.PlainBook.{PlainBook, opening_book}
use Rattle.upload_book.specs.Settings.{Settings}
use Rattle.kept_book.specs.Answer.{GoesOn, IsKeptStep}
use Rattle.kept_book.specs.declared.kept.KeptBook.{KeptBook}
use Rattle.kept_book.specs.Kept.{book_in, disk_in, key_in, IsKept, IsLeftWithOneMore}
use Rattle.kept_book.specs.Session.{IsRun, IsSession}

run-next : (b : PlainBook) (turns : List (Request × ℕ)) (replies : List Reply) (middle : PlainBook) (turn : Request × ℕ) (told : Reply) (after : PlainBook) → IsRun b turns replies middle → IsKeptStep middle turn.0 turn.1 told after → IsRun b (turns ++ turn ∷ []) (replies ++ told ∷ []) after
run-next b [] [] middle turn told after so_far step = (after, subst (λ (x : PlainBook). IsKeptStep x turn.0 turn.1 told after) so_far step, refl)
run-next b [] (reply ∷ replies) middle turn told after so_far step = absurd so_far
run-next b (first ∷ turns) [] middle turn told after so_far step = absurd so_far
run-next b (first ∷ turns) (reply ∷ replies) middle turn told after so_far step = (so_far.0, so_far.1, run-next so_far.0 turns replies middle turn told after so_far.2 step)

module _ {D : Type 0} {g : Ghosts D} where
  -- so far all is kept that the replies told
  pub record RunsTo (b : PlainBook) (kept : KeptBook D g) (s : Settings) (events : List ChangeEvent) (turns : List (Request × ℕ)) (replies : List Reply) : Type 0 where
    pub told : List ChangeEvent
    pub all : IsKept kept s (events ++ told)
    pub run : IsRun b turns replies (book_in kept)

  pub runs-none : (kept : KeptBook D g) (s : Settings) (events : List ChangeEvent) (replies : List Reply) → replies ≡ [] → IsKept kept s events → RunsTo (book_in kept) kept s events [] replies
  runs-none kept s events replies none is = record {
    told = [];
    all = subst (IsKept kept s) (sym (append-nil events)) is;
    run = subst (λ (rs : List Reply). IsRun (book_in kept) [] rs (book_in kept)) (sym none) refl;
  }

  pub runs-turn : (b : PlainBook) (kept new : KeptBook D g) (s : Settings) (events : List ChangeEvent) (turns : List (Request × ℕ)) (i : ℕ) (turn : Request × ℕ) (replies more : List Reply) (told : Reply) → i < length turns → turn ≡ get_or turns i turn → more ≡ replies ++ told ∷ []
      → (so_far : RunsTo b kept s events (take i turns) replies) → IsKeptStep (book_in kept) turn.0 turn.1 told (book_in new) → GoesOn new s (events ++ so_far.told) → RunsTo b new s events (take (i + 1) turns) more
  runs-turn b kept new s events turns i turn replies more told within is added so_far step on = record {
    told = so_far.told ++ on.more;
    all = subst (IsKept new s) (append_assoc events so_far.told on.more) on.all;
    run =
        let next = run-next b (take i turns) replies (book_in kept) turn told (book_in new) so_far.run step in
        let taken : take (i + 1) turns ≡ take i turns ++ turn ∷ [] = take_more turns i turn within ∙ ap (λ (t : Request × ℕ). take i turns ++ t ∷ []) (sym is) in
        rw (taken, added) next;
  }

  -- whatever happened then
  pub runs-end : (old kept new : KeptBook D g) (s : Settings) (events : List ChangeEvent) (turns : List (Request × ℕ)) (i : ℕ) (replies : List Reply) → length replies ≡ i → (so_far : RunsTo (book_in old) kept s events (take i turns) replies)
      → ((c : List ℕ) → g.may_leave (disk_in new) c → IsLeftWithOneMore (key_in old) s (events ++ so_far.told) c) → IsSession old new s events turns replies
  runs-end old kept new s events turns i replies count so_far left = record {
    told = so_far.told;
    run =
        subst (λ (n : ℕ). IsRun (book_in old) (take n turns) replies (book_after_all (opening_book s) (events ++ so_far.told))) (sym count)
        (subst (λ (x : PlainBook). IsRun (book_in old) (take i turns) replies x) so_far.all.book so_far.run);
    left = left;
  }
