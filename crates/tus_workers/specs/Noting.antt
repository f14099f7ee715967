-- What is noted of a reply.
use Rattle.std.specs.Prelude.{ℕ, List, []}
use Rattle.upload_book.specs.Refusal.{word_of}
use Rattle.tus_steps.specs.declared.reply.Reply.{Reply}
use Rattle.tus_steps.specs.declared.reply.Reply.TheVariants.{Refused}

-- the word of the refusal that a reply tells
abbrev pub told_word : Reply → List ℕ
told_word (Refused why head at expires) = word_of why
told_word _ = []
