-- A reply whose row, where it is one of a HEAD, or metadata, where it is one of a GET, lies beside what it is.
use Rattle.upload_book.specs.declared.head_row.HeadRow.{HeadRow}
use Rattle.tus_steps.specs.declared.placed_reply.PlacedReply.{PlacedReply}
use Rattle.tus_steps.specs.declared.placed_reply.ReplyKind.{ReplyKind}
use Rattle.tus_steps.specs.declared.placed_reply.ReplyKind.TheVariants as kind
use Rattle.tus_steps.specs.declared.reply.Reply.{Reply}
use Rattle.tus_steps.specs.declared.reply.Reply.TheVariants as reply

-- the reply of a kind, which tells this row, or its metadata, where it tells such
abbrev pub reply_with : ReplyKind → HeadRow → Reply
reply_with (kind.Options max_size) row = reply.Options max_size
reply_with (kind.Created tenant id offset expires) row = reply.Created tenant id offset expires
reply_with kind.Head row = reply.Head row
reply_with (kind.Content bytes extent) row = reply.Content bytes extent row.metadata
reply_with (kind.Unsatisfiable len) row = reply.Unsatisfiable len
reply_with (kind.Patched offset expires) row = reply.Patched offset expires
reply_with kind.Deleted row = reply.Deleted
reply_with (kind.Refused why head place expires) row = reply.Refused why head place expires

-- the reply in its place
abbrev pub reply_in : PlacedReply → Reply
reply_in p = reply_with p.kind p.row
