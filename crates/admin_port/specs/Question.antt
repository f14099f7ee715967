-- What a request at the port for numbers asks for: a method (RFC 9110, section 9) at a target, in a head (RFC 9112, section 2).
use Rattle.std.specs.Prelude.{◌≡◌, ◌≤◌, ◌⊎◌, ℕ, Bool, not, ◌&&◌, List, length, map, codes, bytes_eq, if◌then◌else◌, Option, Some, None}
use Rattle.std.specs.Char.{to_ascii_lowercase}
use Rattle.std.specs.List.{list_any}
use Rattle.httparse.specs.Grammar.{Field, RequestHead, ReadsRequest, HasNoRequest, MayBecomeRequest}
use Rattle.httparse.specs.Spans.{RequestOverflows}
use Rattle.admin_port.specs.declared.question.Question.{Question}
use Rattle.admin_port.specs.declared.question.Question.TheVariants.{Metrics, Health, Stop, StopFromElsewhere, StopByOtherMethod, Other}

-- the most fields of a request
abbrev pub field_limit : ℕ
field_limit = 64

-- the name of the field that a browser sends with each POST of a page (RFC 6454, section 7), in any letter case (RFC 9110,
-- section 5.1)
abbrev pub is_origin : List ℕ → Bool
is_origin name = bytes_eq (map to_ascii_lowercase name) (codes "origin")

-- some field tells of a page
abbrev pub has_origin : List Field → Bool
has_origin fields = list_any (λ f. is_origin f.name) fields

-- what is asked for where the service is stopped: by POST alone, and by one who may
abbrev pub stop_by : List ℕ → Bool → Question
stop_by method may_stop =
    if bytes_eq method (codes "POST") then (if may_stop then Stop else StopFromElsewhere) else StopByOtherMethod

-- what is asked for where something is read: by GET alone
abbrev pub read_by : List ℕ → Question → Question
read_by method question = if bytes_eq method (codes "GET") then question else Other

-- what a method at a target asks for
abbrev pub asked_by : List ℕ → List ℕ → Bool → Question
asked_by method target may_stop =
    if bytes_eq target (codes "/stop") then stop_by method may_stop
    else if bytes_eq target (codes "/metrics") then read_by method Metrics
    else if bytes_eq target (codes "/health") then read_by method Health
    else Other

-- what a head asks for; one who is near may stop the service, but no page
abbrev pub question_of : Bool → RequestHead → Question
question_of is_near h = asked_by h.method h.target (is_near && not (has_origin h.fields))

-- What the bytes that came ask for: nothing yet, where they have no whole head and may become one; what the head asks for that they
-- begin with; or something else, where no more bytes make them begin with a head of so many fields at most.
abbrev pub Asks : Bool → List ℕ → Option Question → Type 0
Asks is_near bytes None = HasNoRequest bytes × MayBecomeRequest bytes
Asks is_near bytes (Some question) =
    ((h : RequestHead) × (rest : List ℕ) × ReadsRequest bytes h rest × (length h.fields ≤ field_limit) × (question ≡ question_of is_near h))
    ⊎ (RequestOverflows field_limit bytes × (question ≡ Other))
