-- How a reply is sent: what it puts on a page, and the bytes of an upload that come after it.
use Rattle.std.specs.Prelude.{ℕ, List, [], ◌++◌}
use Rattle.upload_book.specs.Refusal.{word_of}
use Rattle.tus_steps.specs.declared.reply.Reply.{Reply}
use Rattle.tus_steps.specs.declared.reply.Reply.TheVariants.{Content, Unsatisfiable, Refused}
use Rattle.http_wire.specs.ReplyText.{reply_head, reply_status, is_bare, body_sent, range_word, word_body}
use Rattle.http_wire.specs.declared.framing.Framing.{Framing}

-- a body that is put on the page
abbrev pub word_in : Reply → List ℕ
word_in (Unsatisfiable len) = word_body range_word
word_in (Refused why head at expires) = word_body (word_of why)
word_in _ = []

-- a body that comes after it
abbrev pub content_in : Reply → List ℕ
content_in (Content bytes extent metadata) = bytes
content_in _ = []

-- what a reply puts on a page
abbrev pub page_text : Reply → ℕ → Framing → List ℕ
page_text r now framing = reply_head r now framing ++ body_sent (is_bare framing (reply_status r)) (word_in r)

-- what comes after it
abbrev pub content_sent : Reply → Framing → List ℕ
content_sent r framing = body_sent framing.bare (content_in r)
