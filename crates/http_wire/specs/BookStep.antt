-- How a book answers the requests of a connection.
use Rattle.std.specs.Prelude.{ℕ}
use Rattle.upload_book.specs.Book.{StoredBook, plain_of}
use Rattle.tus_steps.specs.declared.reply.Reply.{Reply}
use Rattle.tus_steps.specs.Request.{Request}
use Rattle.tus_steps.specs.Step.{IsStep}

-- the step of a book by a request is that of the plain book that it stands for
abbrev pub BookStep : StoredBook → Request → ℕ → Reply → StoredBook → Type 0
BookStep old request now reply new = IsStep (plain_of old) request now reply (plain_of new)
