-- The bytes of a reply (RFC 9112, sections 4 and 5; tus 1.0.0, Core Protocol, Creation, Expiration and
-- Concatenation): for each field, where it stands and what it tells. The order of the fields is this
-- server's choice.
use Rattle.std.specs.Prelude.{ℕ, Bool, true, false, ◌||◌, ◌==◌, if◌then◌else◌, List, [], ◌∷◌, ◌++◌, length, codes, decimal, Option, Some, None}
use Rattle.tus_text.specs.Date.{expires_text}
use Rattle.upload_book.specs.declared.refusal.Refusal.{Refusal}
use Rattle.upload_book.specs.declared.refusal.Refusal.TheVariants as refusal
use Rattle.upload_book.specs.Refusal.{status_of, word_of}
use Rattle.tus_steps.specs.declared.range.Extent.{Extent}
use Rattle.tus_steps.specs.declared.range.Extent.TheVariants.{Plain, Whole, Range}
use Rattle.tus_steps.specs.declared.reply.PathKind.{PathKind}
use Rattle.tus_steps.specs.declared.reply.PathKind.TheVariants as place
use Rattle.tus_steps.specs.declared.reply.Reply.{Reply}
use Rattle.tus_steps.specs.declared.reply.Reply.TheVariants.{Options, Created, Head, Content, Unsatisfiable, Patched, Deleted, Refused}
use Rattle.http_wire.specs.File.{any_type, disposition, file_type}
use Rattle.http_wire.specs.Refusal as wire
use Rattle.http_wire.specs.declared.framing.Framing.{Framing}
use Rattle.http_wire.specs.declared.refusal.WireRefusal.{WireRefusal}

-- CR LF
abbrev pub crlf : List ℕ
crlf = 13 ∷ 10 ∷ []

-- field-line = name ":" SP value CR LF
unfoldable pub line : List ℕ → List ℕ → List ℕ
line name value = name ++ codes ": " ++ value ++ crlf

-- the line of a text that is there unless it is empty
unfoldable pub text_line : List ℕ → List ℕ → List ℕ
text_line name [] = []
text_line name (b ∷ value) = line name (b ∷ value)

-- the line of a number that may be there
unfoldable pub number_line : List ℕ → Option ℕ → List ℕ
number_line name None = []
number_line name (Some n) = line name (decimal n)

-- a line that stands where the test holds
unfoldable pub line_if : Bool → List ℕ → List ℕ → List ℕ
line_if true name value = line name value
line_if false name value = []

-- the reason phrases of the statuses (RFC 9110, section 15; RFC 6585; tus 1.0.0, Checksum; RFC 4918)
abbrev pub reasons : List (ℕ × List ℕ)
reasons =
    (200, codes "OK")
    ∷ (201, codes "Created")
    ∷ (204, codes "No Content")
    ∷ (206, codes "Partial Content")
    ∷ (400, codes "Bad Request")
    ∷ (403, codes "Forbidden")
    ∷ (404, codes "Not Found")
    ∷ (405, codes "Method Not Allowed")
    ∷ (409, codes "Conflict")
    ∷ (410, codes "Gone")
    ∷ (411, codes "Length Required")
    ∷ (412, codes "Precondition Failed")
    ∷ (413, codes "Content Too Large")
    ∷ (415, codes "Unsupported Media Type")
    ∷ (416, codes "Range Not Satisfiable")
    ∷ (431, codes "Request Header Fields Too Large")
    ∷ (460, codes "Checksum Mismatch")
    ∷ (503, codes "Service Unavailable")
    ∷ (507, codes "Insufficient Storage")
    ∷ []

-- the phrase beside a status
abbrev pub reason_in : List (ℕ × List ℕ) → ℕ → List ℕ
reason_in [] status = []
reason_in (r ∷ rows) status = if r.0 == status then r.1 else reason_in rows status

-- status-line = HTTP-version SP status-code SP reason-phrase CR LF
unfoldable pub status_line : ℕ → List ℕ
status_line status = codes "HTTP/1.1 " ++ decimal status ++ codes " " ++ reason_in reasons status ++ crlf

-- the lines that every reply begins with: the status, the moment and the protocol's version
unfoldable pub opening : ℕ → ℕ → List ℕ
opening status now =
    status_line status ++ line (codes "Date") (expires_text now) ++ line (codes "Tus-Resumable") (codes "1.0.0")

-- the status of a reply that gives all bytes of an upload, or some of them
abbrev pub content_status : Extent → ℕ
content_status Plain = 200
content_status Whole = 200
content_status (Range first last len) = 206

-- the status of a reply
abbrev pub reply_status : Reply → ℕ
reply_status (Options max_size) = 204
reply_status (Created tenant id offset expires) = 201
reply_status (Head row) = 200
reply_status (Content bytes extent metadata) = content_status extent
reply_status (Unsatisfiable len) = 416
reply_status (Patched offset expires) = 204
reply_status Deleted = 204
reply_status (Refused why head at expires) = status_of why

-- the refusal is that of another version
abbrev pub is_version : Refusal → Bool
is_version refusal.Version = true
is_version _ = false

-- the refusal is that of a method that is not allowed
abbrev pub is_method : Refusal → Bool
is_method refusal.Method = true
is_method _ = false

-- an OPTIONS, and a request of another version of the protocol, are told the one that is served
abbrev pub tells_version : Reply → Bool
tells_version (Options max_size) = true
tells_version (Refused why head at expires) = is_version why
tells_version _ = false

-- an OPTIONS is told what is served beside the core protocol
abbrev pub extensions_in : Reply → List ℕ
extensions_in (Options max_size) = codes "creation,creation-defer-length,expiration,termination,concatenation,checksum,creation-with-upload"
extensions_in _ = []

-- and how many bytes an upload may have
abbrev pub max_size_in : Reply → Option ℕ
max_size_in (Options max_size) = Some max_size
max_size_in _ = None

-- and by which algorithms a checksum may be
abbrev pub algorithms_in : Reply → List ℕ
algorithms_in (Options max_size) = codes "sha1"
algorithms_in _ = []

-- the methods that are served at a place
abbrev pub allowed_at : PathKind → List ℕ
allowed_at place.Create = codes "POST, OPTIONS"
allowed_at place.Upload = codes "HEAD, GET, PATCH, DELETE, OPTIONS"
allowed_at place.Other = []

-- a request whose method is not allowed is told those that are
abbrev pub allowed_in : Reply → List ℕ
allowed_in (Refused why head at expires) = if is_method why then allowed_at at else []
allowed_in _ = []

-- the path of an upload
abbrev pub upload_path : List ℕ → ℕ → List ℕ
upload_path tenant id = codes "/files/" ++ tenant ++ codes "/" ++ decimal id

-- the path of an upload that was created
abbrev pub location_in : Reply → List ℕ
location_in (Created tenant id offset expires) = upload_path tenant id
location_in _ = []

-- ranges are served, as a reply to a GET tells (RFC 9110, section 14.3)
abbrev pub is_told : Extent → Bool
is_told Plain = false
is_told Whole = true
is_told (Range first last len) = true

abbrev pub tells_ranges : Reply → Bool
tells_ranges (Content bytes extent metadata) = is_told extent
tells_ranges _ = false

-- which bytes of how many it gives, or how many there are where it gives none of them (RFC 9110, section 14.4)
abbrev pub range_of : Extent → List ℕ
range_of Plain = []
range_of Whole = []
range_of (Range first last len) = codes "bytes " ++ decimal first ++ codes "-" ++ decimal last ++ codes "/" ++ decimal len

abbrev pub content_range_in : Reply → List ℕ
content_range_in (Content bytes extent metadata) = range_of extent
content_range_in (Unsatisfiable len) = codes "bytes */" ++ decimal len
content_range_in _ = []

-- what a body is: the bytes of an upload, whose type is told where ranges are, or the word of a refusal
abbrev pub media_in : Reply → List ℕ
media_in (Content bytes extent metadata) = if is_told extent then file_type metadata else any_type
media_in (Unsatisfiable len) = codes "text/plain"
media_in (Refused why head at expires) = codes "text/plain"
media_in _ = []

-- what a browser is to do with a body of this type, and the name of the file; told where ranges are
abbrev pub disposition_in : List ℕ → Reply → List ℕ
disposition_in media (Content bytes extent metadata) = if is_told extent then disposition media metadata else []
disposition_in media _ = []

-- how many bytes the upload has
abbrev pub offset_in : Reply → Option ℕ
offset_in (Created tenant id offset expires) = offset
offset_in (Head row) = Some row.offset
offset_in (Patched offset expires) = Some offset
offset_in _ = None

-- how many it will have, or that this will be told later
unfoldable pub declared_line : Option ℕ → List ℕ
declared_line None = line (codes "Upload-Defer-Length") (codes "1")
declared_line (Some n) = number_line (codes "Upload-Length") (Some n)

-- the same of the upload in a reply to a HEAD
unfoldable pub length_line : Reply → List ℕ
length_line (Head row) = declared_line row.declared
length_line _ = []

-- its metadata, as it was accepted
abbrev pub metadata_in : Reply → List ℕ
metadata_in (Head row) = row.metadata
metadata_in _ = []

-- what it is a part or the whole of, as it was accepted
abbrev pub concat_in : Reply → List ℕ
concat_in (Head row) = row.concat
concat_in _ = []

-- when it expires, except in the reply to a HEAD
abbrev pub expires_in : Reply → Option ℕ
expires_in (Created tenant id offset expires) = expires
expires_in (Patched offset expires) = expires
expires_in (Refused why head at expires) = expires
expires_in _ = None

-- the line of a moment that may be there
unfoldable pub moment_line : List ℕ → Option ℕ → List ℕ
moment_line name None = []
moment_line name (Some moment) = line name (expires_text moment)

-- no reply to a HEAD is kept by a cache
abbrev pub is_uncached : Reply → Bool
is_uncached (Head row) = true
is_uncached (Refused why head at expires) = head
is_uncached _ = false

-- the fields of a reply of the steps
unfoldable pub own_fields : Reply → List ℕ
own_fields r =
    line_if (tells_version r) (codes "Tus-Version") (codes "1.0.0")
    ++ text_line (codes "Tus-Extension") (extensions_in r)
    ++ number_line (codes "Tus-Max-Size") (max_size_in r)
    ++ text_line (codes "Tus-Checksum-Algorithm") (algorithms_in r)
    ++ text_line (codes "Allow") (allowed_in r)
    ++ text_line (codes "Location") (location_in r)
    ++ line_if (tells_ranges r) (codes "Accept-Ranges") (codes "bytes")
    ++ text_line (codes "Content-Range") (content_range_in r)
    ++ text_line (codes "Content-Disposition") (disposition_in (media_in r) r)
    ++ line_if (tells_ranges r) (codes "X-Content-Type-Options") (codes "nosniff")
    ++ number_line (codes "Upload-Offset") (offset_in r)
    ++ length_line r
    ++ text_line (codes "Upload-Metadata") (metadata_in r)
    ++ text_line (codes "Upload-Concat") (concat_in r)
    ++ moment_line (codes "Upload-Expires") (expires_in r)
    ++ line_if (is_uncached r) (codes "Cache-Control") (codes "no-store")

-- the body that tells a refusal's word
abbrev pub word_body : List ℕ → List ℕ
word_body word = word ++ 10 ∷ []

-- the word of a GET that asks for a range of bytes of which the upload has none
abbrev pub range_word : List ℕ
range_word = codes "range"

-- the body of a reply
abbrev pub body_in : Reply → List ℕ
body_in (Content bytes extent metadata) = bytes
body_in (Unsatisfiable len) = word_body range_word
body_in (Refused why head at expires) = word_body (word_of why)
body_in _ = []

-- the fields of a body of this type, with so many bytes
unfoldable pub content_fields : List ℕ → ℕ → List ℕ
content_fields media len = text_line (codes "Content-Type") media ++ number_line (codes "Content-Length") (Some len)

-- what follows the fields of the steps, to the empty line. A bare reply has no field of a body
unfoldable pub ending : Bool → Bool → List ℕ → ℕ → List ℕ
ending bare close media len =
    (if bare then [] else content_fields media len) ++ line_if close (codes "Connection") (codes "close") ++ crlf

-- a bare reply has no body
abbrev pub body_sent : Bool → List ℕ → List ℕ
body_sent bare body = if bare then [] else body

-- a reply to a HEAD is bare, and so is one of status 204
abbrev pub is_bare : Framing → ℕ → Bool
is_bare framing status = framing.bare || status == 204

-- the bytes of a reply at a moment, up to its body
unfoldable pub reply_head : Reply → ℕ → Framing → List ℕ
reply_head r now framing =
    opening (reply_status r) now ++ own_fields r
    ++ ending (is_bare framing (reply_status r)) framing.close (media_in r) (length (body_in r))

-- the bytes of a reply at a moment
unfoldable pub reply_text : Reply → ℕ → Framing → List ℕ
reply_text r now framing = reply_head r now framing ++ body_sent (is_bare framing (reply_status r)) (body_in r)

-- the bytes of a refusal of the wire at a moment
unfoldable pub refusal_text : WireRefusal → ℕ → Framing → List ℕ
refusal_text why now framing =
    let bare = is_bare framing (wire.status_of why) in
    let body = word_body (wire.word_of why) in
    opening (wire.status_of why) now ++ ending bare framing.close (codes "text/plain") (length body) ++ body_sent bare body
