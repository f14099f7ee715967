-- The order in which a request is refused, which is this server's choice: tus 1.0.0 and HTTP name a status
-- for each reason, and no order among them.
use Rattle.std.specs.Prelude.{ℕ, Bool, true, false, List, [], ◌∷◌, codes, bytes_eq, if◌then◌else◌}

-- The words of all refusals that a reply can have: a request is refused by the first that applies. The wire asks those of
-- the first group, and closes the connection after such a refusal; the steps ask those of the second, before the book is
-- asked; and the book asks those of the third. Memory stands wherever it may be lacking.
abbrev pub order : List (List ℕ)
order =
    codes "head-size"  -- the head has more than 16,384 bytes, line ends before it included, or more than 64 lines of fields
    ∷ codes "head"  -- it is no head of a request with at most 64 fields
    ∷ codes "memory"  -- its fields find no memory; never answered, since no head takes memory
    ∷ codes "host"  -- HTTP/1.1 without Host, or two or more Host fields
    ∷ codes "coding"  -- there is a Transfer-Encoding
    ∷ codes "content-length"  -- two or more Content-Length fields, or one that is no number
    ∷ codes "body-size"  -- Content-Length is above the greatest size
    ∷ codes "memory"  -- the body finds no memory
    ∷ codes "version"  -- Tus-Resumable is not one field `1.0.0`; a GET needs none
    ∷ codes "path"  -- the target is the path of no upload and of no tenant
    ∷ codes "tenant"  -- there is no tenant of that name
    ∷ codes "method"  -- the path does not allow the method
    ∷ codes "field"  -- a field that the method needs is missing, repeated, not of its form or out of place, or bytes are sent to a final upload
    ∷ codes "unknown"  -- the id was never given
    ∷ codes "gone"  -- it was given, and its upload has ended or expired
    ∷ codes "final"  -- a PATCH of a final upload, which takes no bytes
    ∷ codes "media"  -- bytes without the content type of a PATCH
    ∷ codes "offset"  -- a PATCH at another offset than the upload's
    ∷ codes "length-fixed"  -- a PATCH that tells another length than the known one
    ∷ codes "too-long"  -- a length above the greatest size, or bytes past the upload's length
    ∷ codes "algorithm"  -- a checksum by another algorithm than SHA-1
    ∷ codes "mismatch"  -- a checksum that is not that of the bytes
    ∷ codes "part"  -- a part of a final upload is no visible partial upload of its tenant
    ∷ codes "part-open"  -- a part of a final upload does not have all of its bytes
    ∷ codes "unfinished"  -- a GET of an upload that does not have all of its bytes
    ∷ codes "range"  -- a GET of a range of bytes of which the upload has none
    ∷ codes "uploads"  -- the tenant has as many uploads as the book keeps for one
    ∷ codes "spent"  -- the tenant's ids are used up, or the blocks that all tenants may be charged in all
    ∷ codes "quota"  -- the tenant would pay for more blocks than its quota
    ∷ codes "pool"  -- no block is free; never answered, since within the quotas there is one
    ∷ codes "memory"  -- the bytes of a PATCH, of a creation or of a GET, or the lists of a final upload, find no memory
    ∷ []

-- the words stand in a list in this sequence
abbrev pub stand_in : List (List ℕ) → List (List ℕ) → Bool
stand_in [] list = true
stand_in (word ∷ words) [] = false
stand_in (word ∷ words) (first ∷ list) = if bytes_eq word first then stand_in words list else stand_in (word ∷ words) list
