use Rattle.std.proofs.Common.{◌≡◌, ◌≤◌, length, take, vec_len, vec_capacity}
use Rattle.upload_book.specs.Book.{plain_of}
use Rattle.tus_steps.specs.History.{IsHistory, requests_at}
use Rattle.tus_steps.proofs.runs.run.Given as goal

-- the requests so far have happened, and there is room for the replies to the others
abbrev pub invariant-loop-request : goal.invariant-loop-request
invariant-loop-request l = record {
  count : vec_len l.replies ≡ l.request-index;
  room : length l.turns ≤ vec_capacity l.replies;
  history : IsHistory (plain_of l.fn.book) (requests_at (take l.request-index l.turns)) l.replies.items (plain_of l.book);
}
