-- The lines of a log. A line is a date in quotes, then words, each behind one space, and LF.
use Rattle.std.specs.Prelude.{ℕ, Bool, true, false, List, [], ◌∷◌, ◌++◌, codes, decimal, Option, Some, None}
use Rattle.tus_steps.specs.declared.method.Method.{Method}
use Rattle.tus_steps.specs.declared.method.Method.TheVariants as method
use Rattle.tus_text.specs.Date.{expires_text}
use Rattle.service_watch.specs.CutLine.{CutLine}
use Rattle.service_watch.specs.Escape.{shown}
use Rattle.service_watch.specs.RequestLine.{RequestLine}
use Rattle.service_watch.specs.declared.cut.Cut.{Cut}
use Rattle.service_watch.specs.declared.cut.Cut.TheVariants as cut

-- the method in force, as RFC 9110, section 9, and RFC 5789 name it
abbrev pub method_name : Method → List ℕ
method_name method.Post = codes "POST"
method_name method.Head = codes "HEAD"
method_name method.Get = codes "GET"
method_name method.Patch = codes "PATCH"
method_name method.Delete = codes "DELETE"
method_name method.Options = codes "OPTIONS"
method_name method.Other = codes "other"

-- for what a connection was cut off
abbrev pub cut_name : Cut → List ℕ
cut_name cut.Idle = codes "idle"
cut_name cut.Message = codes "message"
cut_name cut.Rate = codes "rate"
cut_name cut.Memory = codes "memory"
cut_name cut.Newer = codes "newer"
cut_name cut.Failed = codes "failed"
cut_name cut.Stopped = codes "stopped"

-- the date in quotes
unfoldable pub date : ℕ → List ℕ
date moment = 34 ∷ expires_text moment ++ 34 ∷ []

-- a word behind a space
unfoldable pub word : List ℕ → List ℕ
word text = 32 ∷ text

abbrev pub method_word : Option Method → List ℕ
method_word None = codes "-"
method_word (Some m) = method_name m

abbrev pub status_word : Option ℕ → List ℕ
status_word None = codes "-"
status_word (Some status) = decimal status

abbrev pub sent_word : Bool → List ℕ
sent_word true = codes "sent"
sent_word false = codes "unsent"

-- who asked for what
unfoldable pub question : RequestLine → List ℕ
question l = word (shown l.peer) ++ word (shown l.tenant) ++ word (method_word l.method) ++ word (shown l.path)

-- what was answered, with the bytes in and out and the microseconds
unfoldable pub answer : RequestLine → List ℕ
answer l =
    word (status_word l.status) ++ word (shown l.word) ++ word (decimal l.received) ++ word (decimal l.sent)
    ++ word (decimal l.micros) ++ word (sent_word l.was_sent)

-- date, peer, tenant, method, path, status, word of refusal, bytes in, bytes out, microseconds, sent or unsent
unfoldable pub request_text : RequestLine → List ℕ
request_text l = date l.moment ++ question l ++ answer l ++ 10 ∷ []

-- date, peer, `cut`, and why
unfoldable pub cut_text : CutLine → List ℕ
cut_text l = date l.moment ++ word (shown l.peer) ++ word (codes "cut") ++ word (cut_name l.cut) ++ 10 ∷ []
