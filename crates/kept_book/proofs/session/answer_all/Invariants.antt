use Rattle.std.proofs.Common.{◌≡◌, ◌≤◌, List, length, take, vec_len, vec_capacity}
use Rattle.upload_book.specs.Events.{ChangeEvent}
use Rattle.upload_book.specs.Settings.{Settings}
use Rattle.kept_book.specs.Kept.{book_in, key_in, IsKept}
use Rattle.kept_book.proofs.SessionLemmas.{RunsTo}
use Rattle.kept_book.proofs.session.answer_all.Given as goal

-- all that the replies so far told is kept, and there is room for the others
abbrev pub invariant-loop-request : goal.invariant-loop-request
invariant-loop-request g l = record {
  count : vec_len l.replies ≡ l.request-index;
  size : length l.replies.items ≡ l.request-index;
  room : length l.turns ≤ vec_capacity l.replies;
  key : key_in l.kept ≡ key_in l.fn.kept;
  so_far : (s : Settings) (events : List ChangeEvent) → IsKept l.fn.kept s events → RunsTo (book_in l.fn.kept) l.kept s events (take l.request-index l.turns) l.replies.items;
}
