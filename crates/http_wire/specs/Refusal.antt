-- The refusals of the wire.
use Rattle.std.specs.Prelude.{ℕ, List, codes}
use Rattle.http_wire.specs.declared.refusal.WireRefusal.{WireRefusal}
use Rattle.http_wire.specs.declared.refusal.WireRefusal.TheVariants.{Memory, Head, HeadSize, Host, Coding, ContentLength, BodySize}

-- the word that names it, which is the body of its reply
abbrev pub word_of : WireRefusal → List ℕ
word_of Memory = codes "memory"
word_of Head = codes "head"
word_of HeadSize = codes "head-size"
word_of Host = codes "host"
word_of Coding = codes "coding"
word_of ContentLength = codes "content-length"
word_of BodySize = codes "body-size"

-- the status of its reply (RFC 9110, section 15; 431: RFC 6585, section 5)
abbrev pub status_of : WireRefusal → ℕ
status_of Memory = 503
status_of Head = 400
status_of HeadSize = 431
status_of Host = 400
status_of Coding = 411
status_of ContentLength = 400
status_of BodySize = 413
