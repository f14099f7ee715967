-- What a head with a body begins.
use Rattle.std.specs.Prelude.{codes}
use Rattle.std.proofs.Common.{◌≡◌, ℕ, ◌+◌, ◌-◌, ◌<◌, ◌≤◌, Bool, true, false, true≢false, nat_le, if◌then◌else◌, List, [], ◌++◌, length, take, drop, Option, None, Some, Result, Ok, Err, refl, sym, ap, ◌∙◌, subst, subst₂, arith, inl, inr, le-leb, le-ltb, lt-ltb, append-nil, append_assoc, length-append, length-drop, length-take-le, take-take, drop-drop}
use Rattle.std.proofs.lemmas.Bool.{lt-leb, cases_Bool, cases_lt}
use Rattle.std.proofs.lemmas.List.{take-append-le, drop-append-le, drop-take}
use Rattle.httparse.specs.Grammar.{RequestHead}
use Rattle.tus_steps.specs.declared.tus_fields.TusFields.{TusFields}
use Rattle.tus_steps.specs.Field.{FieldText, is_absent}
use Rattle.tus_steps.specs.Method.{is_applied_when_cut, is_taken_in_pieces}
use Rattle.tus_steps.specs.Request.{Request}
use Rattle.tus_steps.specs.declared.method.Method.{Method}
use Rattle.http_wire.specs.RequestLimits.{AreWithin, limit_by}
use Rattle.http_wire.specs.inside.Ahead.{Ahead}
use Rattle.http_wire.specs.NextMessage.{NextMessage, Begins, BeginsWhole, IsNextMessage, LacksMemory, message, refused, cut_patch, cut_other, clean_end, closing, framing_of, unknown_framing, sure_room, method_in, is_waiting, request_of, tus_fields, with_body, judged, judged_message, limit_of, parsed_message}
use Rattle.http_wire.specs.Fields.{field_text}
use Rattle.http_wire.specs.Judge.{body_len, is_host_wrong, judge, sized}
use Rattle.http_wire.specs.Layout.{field_at, request_at}
use Rattle.http_wire.specs.inside.HeadLayout.{ShowsHead, BeginsHead, ReadsLayout}
use Rattle.http_wire.specs.ReadOnWire.{BreaksMessage, waits}
use Rattle.http_wire.specs.inside.HeadSearch.{IsUnfinished}
use Rattle.http_wire.specs.HeadText.{HeadText, whole, too_long, cut, nothing, head_limit, head_text, has_many_lines}
use Rattle.http_wire.specs.declared.read.layout.Layout.{Layout}
use Rattle.http_wire.specs.declared.refusal.WireRefusal.{WireRefusal}
use Rattle.http_wire.specs.declared.refusal.WireRefusal.TheVariants.{BodySize, Coding, HeadSize, Host, Memory}
use Rattle.http_wire.specs.declared.framing.Framing.{Framing}
use Rattle.http_wire.specs.declared.fault.WireFault.TheVariants.{Read}
use Rattle.http_wire.proofs.FindLemmas.{head_text-append, whole_short}
use Rattle.http_wire.specs.declared.request_limits.RequestLimits.{RequestLimits}

-- a body that is accepted is no longer than the greatest
sized-bound : (max : ℕ) (len : Option ℕ) (n : ℕ) → sized max len ≡ Ok n → n ≤ max
sized-bound max None n is = absurd cc
sized-bound max (Some k) n is =
    elim (cases_lt max k) [
      | inl long ↦ absurd (no_length (rw (lt-ltb max k long) at is))
      | inr fits ↦ omega (arith, fits, same (Ok k) refl (rw (le-ltb max k fits) at is))
    ]
  where
    no_length : Err BodySize ≡ Ok n → ⊥
    no_length e = absurd cc

    same : (r : Result ℕ WireRefusal) → r ≡ Ok k → r ≡ Ok n → k ≡ n
    same r x y = cc

judge-bound : (max minor : ℕ) (host coding len : FieldText) (n : ℕ) → judge max minor host coding len ≡ Ok n → n ≤ max
judge-bound max minor host coding len n is =
    elim (cases_Bool (is_host_wrong minor host)) [
      | inl wrong ↦ absurd (no_length Host (rw wrong at is))
      | inr right ↦ elim (cases_Bool (is_absent coding)) [
        | inl none ↦ sized-bound max (body_len len) n (rw none at rw right at is)
        | inr some ↦ absurd (no_length Coding (rw some at rw right at is))
      ]
    ]
  where
    no_length : (why : WireRefusal) → Err why ≡ Ok n → ⊥
    no_length why e = absurd cc

-- the limit of a request is no greater than both
pub limit_by-within : (limits : RequestLimits) (most : ℕ) (method : Method) (checksum : FieldText) → AreWithin limits most → limit_by limits method checksum ≤ most
limit_by-within limits most method checksum within = by (is_taken_in_pieces method checksum)
  where
    by : (plain : Bool) → (if plain then limits.plain else limits.other) ≤ most
    by true = within.0
    by false = within.1

pub judged-bound : (limits : RequestLimits) (most : ℕ) (h : RequestHead) (n : ℕ) → AreWithin limits most → judged limits h ≡ Ok n → n ≤ most
judged-bound limits most h n within is =
    let field = λ (name : List ℕ). field_text name h.fields in
    omega (
      arith,
      judge-bound (limit_of limits h) h.minor (field (codes "host")) (field (codes "transfer-encoding")) (field (codes "content-length")) n is,
      limit_by-within limits most (method_in h) (tus_fields h).checksum within,
    )

-- more bytes came
pub BeginsHead-more : (limits : RequestLimits) (bytes : List ℕ) (p : Layout) (held got all : List ℕ) → BeginsHead limits bytes p held → p.head_len ≤ length held → all ≡ held ++ got
    → BeginsHead limits (bytes ++ got) p all
BeginsHead-more limits bytes p held got all b within e =
    let head : take p.head_len all ≡ take p.head_len held = ap (take p.head_len) e ∙ take-append-le p.head_len held got within in
    let rest_of : drop p.head_len all ≡ drop p.head_len held ++ got = ap (drop p.head_len) e ∙ drop-append-le p.head_len held got within in
    record {
      head = b.head;
      few = rw head b.few;
      parses = rw head b.parses;
      shows = rw head b.shows;
      begins = λ rest. ap head_text (append_assoc bytes got rest) ∙ b.begins (got ++ rest)
          ∙ rw (head, rest_of) (ap (whole (take p.head_len held)) (sym (append_assoc (drop p.head_len held) got rest)));
    }

-- what came with a head whose body lacks some bytes, and these, are at most a head and the greatest body
pub BeginsHead-short : (limits : RequestLimits) (most : ℕ) (bytes : List ℕ) (p : Layout) (held : List ℕ) → AreWithin limits most → BeginsHead limits bytes p held → p.head_len ≤ length held → length held < p.head_len + p.body_len
    → length bytes + ((p.head_len + p.body_len) - length held) ≤ head_limit + most
BeginsHead-short limits most bytes p held lie b within short =
    let text = take p.head_len held in
    let rest = drop p.head_len held in
    let begins : head_text bytes ≡ whole text rest = ap head_text (sym (append-nil bytes)) ∙ b.begins [] ∙ ap (whole text) (append-nil rest) in
    omega (arith, within, short, whole_short bytes text rest begins, length-drop p.head_len held, judged-bound limits most b.head p.body_len lie b.shows.body_len)

-- the next message, by the length of the body
pub IsNextMessage-with_body : (limits : RequestLimits) (bytes : List ℕ) (p : Layout) (held : List ℕ) (b : BeginsHead limits bytes p held) (rest : List ℕ)
    → IsNextMessage limits (bytes ++ rest) (with_body limits b.head p.body_len (drop p.head_len held ++ rest))
IsNextMessage-with_body limits bytes p held b rest =
    let f = with_body limits b.head p.body_len (drop p.head_len held ++ rest) in
    let same : f ≡ parsed_message limits (Some b.head) (drop p.head_len held ++ rest) = rw b.shows.body_len refl in
    subst (λ t. Begins limits t f) (sym (b.begins rest)) (rw b.few (Some b.head, b.parses, inl same))

-- the body found no memory
pub IsNextMessage-memory : (limits : RequestLimits) (bytes : List ℕ) (p : Layout) (held : List ℕ) (b : BeginsHead limits bytes p held) (rest : List ℕ) → p.head_len ≤ length held
    → 0 < p.body_len → sure_room < p.head_len + p.body_len → IsNextMessage limits (bytes ++ rest) (refused Memory (closing p.framing))
IsNextMessage-memory limits bytes p held b rest within some large =
    let f = refused Memory (closing p.framing) in
    let same : f ≡ refused Memory (closing (framing_of b.head)) = ap (λ x. refused Memory (closing x)) b.shows.framing in
    subst (λ t. Begins limits t f) (sym (b.begins rest)) (rw b.few (Some b.head, b.parses, inr ((p.body_len, b.shows.body_len, some, rw (length-take-le p.head_len held within) large), same)))

-- the request of the layout is that of the head
pub request_at-shows : (limits : RequestLimits) (text head body : List ℕ) (h : RequestHead) (p : Layout) → ShowsHead limits head h p → take p.head_len text ≡ head → drop p.head_len text ≡ body
    → request_at p text ≡ request_of limits h body
request_at-shows limits text head body h p s next_message rest =
    rw (next_message, rest, s.created, s.method, s.target, s.fields, s.range, s.given, s.more) refl

-- all of the body is held
pub IsNextMessage-message : (limits : RequestLimits) (bytes : List ℕ) (p : Layout) (held : List ℕ) (b : BeginsHead limits bytes p held) (a : Ahead) → p.head_len + p.body_len ≤ length held
    → a.lent ≡ take (p.head_len + p.body_len) held → a.held ≡ drop (p.head_len + p.body_len) held
    → (rest : List ℕ) → IsNextMessage limits (bytes ++ rest) (message (request_at p a.lent) p.framing p.is_waiting (a.held ++ rest))
IsNextMessage-message limits bytes p held b a whole_body lent left rest =
    subst (λ f. IsNextMessage limits (bytes ++ rest) f) same (IsNextMessage-with_body limits bytes p held b rest)
  where
    body : List ℕ
    body = drop p.head_len held

    inside : p.head_len + p.body_len ≤ length held → p.body_len ≤ length (drop p.head_len held)
    inside h = omega (arith, length-drop p.head_len held, h)

    same : with_body limits b.head p.body_len (drop p.head_len held ++ rest) ≡ message (request_at p a.lent) p.framing p.is_waiting (a.held ++ rest)
    same =
        let fits = inside whole_body in
        let long : p.body_len ≤ length (drop p.head_len held ++ rest) = omega (arith, length-append (drop p.head_len held) rest, fits) in
        let head : take p.head_len a.lent ≡ take p.head_len held = ap (take p.head_len) lent ∙ take-take p.head_len (p.head_len + p.body_len) held (omega arith) in
        let text : drop p.head_len a.lent ≡ take p.body_len (drop p.head_len held) = ap (drop p.head_len) lent ∙ drop-take p.head_len p.body_len held in
        let first : take p.body_len (drop p.head_len held ++ rest) ≡ take p.body_len (drop p.head_len held) = take-append-le p.body_len (drop p.head_len held) rest fits in
        let later : drop p.body_len (drop p.head_len held ++ rest) ≡ a.held ++ rest =
        drop-append-le p.body_len (drop p.head_len held) rest fits ∙ ap (λ l. l ++ rest) (drop-drop p.body_len p.head_len held ∙ sym left) in
        let request = request_at-shows limits a.lent (take p.head_len held) (take p.body_len (drop p.head_len held)) b.head p b.shows head text in
        rw (le-leb p.body_len (length (drop p.head_len held ++ rest)) long, first, later, request, b.shows.framing, b.shows.is_waiting) refl

alone : (limits : RequestLimits) (bytes : List ℕ) (p : Layout) (held : List ℕ) (b : BeginsHead limits bytes p held) → IsNextMessage limits bytes (with_body limits b.head p.body_len (drop p.head_len held))
alone limits bytes p held b =
    subst₂ (λ i f. IsNextMessage limits i f) (append-nil bytes) (ap (with_body limits b.head p.body_len) (append-nil (drop p.head_len held))) (IsNextMessage-with_body limits bytes p held b [])

-- not all of it is held
short_body : (limits : RequestLimits) (h : RequestHead) (n : ℕ) (rest : List ℕ) → length rest < n
    → with_body limits h n rest ≡ (if is_applied_when_cut (method_in h) (tus_fields h).checksum then cut_patch (request_of limits h rest) (framing_of h) (is_waiting h n) else cut_other (is_waiting h n))
short_body limits h n rest short = rw (lt-leb n (length rest) short) refl

-- what a cut body does follows from the layout of the head
cut-shows : (limits : RequestLimits) (text : List ℕ) (h : RequestHead) (p : Layout) → ShowsHead limits text h p → (applied : Bool) → is_applied_when_cut p.method (field_at text p.fields.checksum) ≡ applied → is_applied_when_cut (method_in h) (tus_fields h).checksum ≡ applied
cut-shows limits text h p shows applied is =
    ap (λ m. is_applied_when_cut m (tus_fields h).checksum) (sym shows.method) ∙ ap (λ (f : TusFields FieldText). is_applied_when_cut p.method f.checksum) (sym shows.fields) ∙ is

pub IsNextMessage-cut_patch : (limits : RequestLimits) (bytes : List ℕ) (p : Layout) (held : List ℕ) (b : BeginsHead limits bytes p held) (a : Ahead) → length held < p.head_len + p.body_len
    → p.head_len ≤ length held → ((head : List ℕ) → is_applied_when_cut p.method (field_at head p.fields.checksum) ≡ true) → a.lent ≡ held → IsNextMessage limits bytes (cut_patch (request_at p a.lent) p.framing p.is_waiting)
IsNextMessage-cut_patch limits bytes p held b a short within patch lent =
    let few : length (drop p.head_len held) < p.body_len = omega (arith, length-drop p.head_len held) in
    let request = request_at-shows limits a.lent (take p.head_len held) (drop p.head_len held) b.head p b.shows (ap (take p.head_len) lent) (ap (drop p.head_len) lent) in
    let is = cut-shows limits (take p.head_len held) b.head p b.shows _ (patch (take p.head_len held)) in
    subst (λ f. IsNextMessage limits bytes f) (short_body limits b.head p.body_len (drop p.head_len held) few ∙ rw (is, request, b.shows.framing, b.shows.is_waiting) refl) (alone limits bytes p held b)

pub IsNextMessage-cut_other : (limits : RequestLimits) (bytes : List ℕ) (p : Layout) (held : List ℕ) (b : BeginsHead limits bytes p held) → length held < p.head_len + p.body_len
    → p.head_len ≤ length held → ((head : List ℕ) → is_applied_when_cut p.method (field_at head p.fields.checksum) ≡ false) → IsNextMessage limits bytes (cut_other p.is_waiting)
IsNextMessage-cut_other limits bytes p held b short within patch =
    let few : length (drop p.head_len held) < p.body_len = omega (arith, length-drop p.head_len held) in
    let is = cut-shows limits (take p.head_len held) b.head p b.shows _ (patch (take p.head_len held)) in
    subst (λ f. IsNextMessage limits bytes f) (short_body limits b.head p.body_len (drop p.head_len held) few ∙ rw (is, b.shows.is_waiting) refl) (alone limits bytes p held b)

-- the request waits
pub waits-with_body : (limits : RequestLimits) (h : RequestHead) (n : ℕ) (rest : List ℕ) → is_waiting h n ≡ true → waits (with_body limits h n rest) ≡ true
waits-with_body limits h n rest w =
    elim (cases_Bool (nat_le n (length rest))) [
      | inl t ↦ rw t w
      | inr f ↦ rw f (elim (cases_Bool (is_applied_when_cut (method_in h) (tus_fields h).checksum)) [
        | inl t ↦ rw t w
        | inr f2 ↦ rw f2 w
      ])
    ]

pub IsNextMessage-waits : (limits : RequestLimits) (bytes : List ℕ) (p : Layout) (held : List ℕ) (b : BeginsHead limits bytes p held) → p.is_waiting ≡ true
    → (f : NextMessage) × IsNextMessage limits bytes f × (waits f ≡ true)
IsNextMessage-waits limits bytes p held b w =
    (with_body limits b.head p.body_len (drop p.head_len held), alone limits bytes p held b, waits-with_body limits b.head p.body_len (drop p.head_len held) (sym b.shows.is_waiting ∙ w))

-- a head that was found and read
pub BeginsHead-found : (limits : RequestLimits) (bytes held found : List ℕ) (len : ℕ) (p : Layout) → found ≡ held → len ≤ length held → p.head_len ≡ length (take len found)
    → ReadsLayout limits (take len found) (Ok p) → ((rest : List ℕ) → head_text (bytes ++ rest) ≡ whole (take len held) (drop len held ++ rest)) → BeginsHead limits bytes p held
BeginsHead-found limits bytes held found len p e within is gives begins =
    let count : length (take len found) ≡ len = rw e (omega (arith, length-take-le len held within)) in
    let n : p.head_len ≡ len = is ∙ count in
    let next_message : take p.head_len held ≡ take len found = ap (λ k. take k held) n ∙ ap (take len) (sym e) in
    record {
      head = gives.1.0;
      few = rw next_message gives.0;
      parses = rw next_message gives.1.1;
      shows = rw next_message gives.1.2;
      begins = λ rest. rw n (begins rest);
    }

-- a head that is refused
pub IsNextMessage-refused : (limits : RequestLimits) (bytes held found : List ℕ) (len : ℕ) (f : NextMessage) → found ≡ held → ((rest : List ℕ) → Begins limits (whole (take len found) rest) f)
    → ((rest : List ℕ) → head_text (bytes ++ rest) ≡ whole (take len held) (drop len held ++ rest)) → (rest : List ℕ) → IsNextMessage limits (bytes ++ rest) f
IsNextMessage-refused limits bytes held found len f e gives begins rest =
    subst (λ t. Begins limits t f) (ap (λ l. whole (take len l) (drop len held ++ rest)) e ∙ sym (begins rest)) (gives (drop len held ++ rest))

-- the end inside a head
pub IsNextMessage-cut : (limits : RequestLimits) (bytes : List ℕ) → head_text bytes ≡ cut → IsNextMessage limits bytes (cut_other false)
IsNextMessage-cut limits bytes e = subst (λ t. Begins limits t (cut_other false)) (sym e) refl

-- a read failed before a whole head came
pub BreaksMessage-unfinished : (limits : RequestLimits) (bytes said : List ℕ) → said ≡ [] → IsUnfinished bytes → BreaksMessage limits (record { input = bytes; text = said }) Read
BreaksMessage-unfinished limits bytes said e (inl c) = inl (false, e, IsNextMessage-cut limits bytes c)
BreaksMessage-unfinished limits bytes said e (inr n) = inr (e, subst (λ t. Begins limits t clean_end) (sym n) refl)

-- what an input begins with, where more bytes follow a message
abbrev pub followed : List ℕ → NextMessage → NextMessage
followed more (message request framing waiting rest) = message request framing waiting (rest ++ more)
followed more (refused why framing) = refused why framing
followed more (cut_patch request framing waiting) = cut_patch request framing waiting
followed more (cut_other waiting) = cut_other waiting
followed more clean_end = clean_end

-- it begins with a message
abbrev pub is_message : NextMessage → Bool
is_message (message request framing waiting rest) = true
is_message (refused why framing) = false
is_message (cut_patch request framing waiting) = false
is_message (cut_other waiting) = false
is_message clean_end = false

pub no_message : (f g : NextMessage) → is_message f ≡ true → f ≡ g → is_message g ≡ false → ⊥
no_message f g is same isnt = true≢false (sym is ∙ ap is_message same ∙ isnt)

-- a body that the end cut off makes no message
cut_message : (patch : Bool) (request : Request) (framing : Framing) (waiting : Bool) → is_message (if patch then cut_patch request framing waiting else cut_other waiting) ≡ false
cut_message true request framing waiting = refl
cut_message false request framing waiting = refl

with_body-followed : (limits : RequestLimits) (h : RequestHead) (n : ℕ) (rest more : List ℕ) → is_message (with_body limits h n rest) ≡ true
    → followed more (with_body limits h n rest) ≡ with_body limits h n (rest ++ more)
with_body-followed limits h n rest more is =
    elim (cases_lt (length rest) n) [
      | inl short ↦ absurd (true≢false (sym is ∙ rw (lt-leb n (length rest) short) (cut_message _ _ _ _)))
      | inr fits ↦
          let long : n ≤ length (rest ++ more) = omega (arith, length-append rest more, fits) in
          rw (le-leb n (length rest) fits, le-leb n (length (rest ++ more)) long, take-append-le n rest more fits, drop-append-le n rest more fits) refl
    ]

judged_message-followed : (limits : RequestLimits) (h : RequestHead) (r : Result ℕ WireRefusal) (rest more : List ℕ) → is_message (judged_message limits h r rest) ≡ true
    → followed more (judged_message limits h r rest) ≡ judged_message limits h r (rest ++ more)
judged_message-followed limits h (Err why) rest more is = refl
judged_message-followed limits h (Ok n) rest more is = with_body-followed limits h n rest more is

parsed_message-followed : (limits : RequestLimits) (h : Option RequestHead) (rest more : List ℕ) → is_message (parsed_message limits h rest) ≡ true
    → followed more (parsed_message limits h rest) ≡ parsed_message limits h (rest ++ more)
parsed_message-followed limits None rest more is = refl
parsed_message-followed limits (Some h) rest more is = judged_message-followed limits h (judged limits h) rest more is

-- no message is refused because there is no memory
pub lacks_none : (limits : RequestLimits) (text : List ℕ) (h : Option RequestHead) (f : NextMessage) → is_message f ≡ true → LacksMemory limits text h f → ⊥
lacks_none limits text None f is l = l
lacks_none limits text (Some h) f is l = no_message f (refused Memory (closing (framing_of h))) is l.1 refl

Begins-followed : (limits : RequestLimits) (t : HeadText) (more : List ℕ) (f : NextMessage) → is_message f ≡ true → Begins limits t f
    → (text rest : List ℕ) × (t ≡ whole text rest) × Begins limits (whole text (rest ++ more)) (followed more f)
Begins-followed limits (whole text rest) more f is b = (
  text,
  rest,
  refl,
  elim (cases_Bool (has_many_lines text)) [
    | inl many ↦ absurd (no_message f (refused HeadSize unknown_framing) is (rw many at b) refl)
    | inr few ↦ rw few (kept (rw few at b))
  ],
)
  where
    kept : BeginsWhole limits text rest f → BeginsWhole limits text (rest ++ more) (followed more f)
    kept w =
        elim w.2 [
          | inl same ↦ (w.0, w.1, inl (ap (followed more) same ∙ parsed_message-followed limits w.0 rest more (ap is_message (sym same) ∙ is)))
          | inr lacks ↦ absurd (lacks_none limits text w.0 f is lacks)
        ]
Begins-followed limits too_long more f is b = absurd (no_message f (refused HeadSize unknown_framing) is b refl)
Begins-followed limits cut more f is b = absurd (no_message f (cut_other false) is b refl)
Begins-followed limits nothing more f is b = absurd (no_message f clean_end is b refl)

-- a message stays when more bytes follow
pub IsNextMessage-followed : (limits : RequestLimits) (input more : List ℕ) (f : NextMessage) → is_message f ≡ true → IsNextMessage limits input f → IsNextMessage limits (input ++ more) (followed more f)
IsNextMessage-followed limits input more f is next_message =
    let b = Begins-followed limits (head_text input) more f is next_message in
    subst (λ t. Begins limits t (followed more f)) (sym (head_text-append input more b.0 b.1 b.2)) b.3
