-- A body that is taken in pieces, look by look, read by read and piece by piece.
use Rattle.std.proofs.Common.{◌≡◌, ◌≤◌, ◌<◌, ◌+◌, ◌-◌, ◌&&◌, ◌||◌, ℕ, Bool, true, false, List, [], ◌∷◌, ◌++◌, length, take, drop, nat_lt, if◌then◌else◌, Option, Some, None, true≢false, IfSome, refl, ap, sym, subst, ◌∙◌, arith, append-nil, append_assoc, length-append}
use Rattle.std.proofs.lemmas.Bool.{ltb-false}
use Rattle.std.proofs.lemmas.List.Elements.{All-head}
use Rattle.std.proofs.lemmas.List.{take-append-drop, take-append-le, drop-append-le, take_at, drop_at, take_all, drop_all, take-take, length-take-le, length-drop}
use Rattle.tus_steps.specs.Field.{is_absent}
use Rattle.tus_steps.specs.InPieces.{MayComeInPieces, behind, created_in, fields_behind, is_taken, method_behind}
use Rattle.tus_steps.specs.Method.{is_applied_when_cut, is_patch, is_post, is_taken_in_pieces}
use Rattle.tus_steps.specs.TusFields.{map_fields}
use Rattle.tus_steps.specs.declared.method.Method.{Method}
use Rattle.tus_steps.specs.Request.{Request}
use Rattle.http_wire.specs.RequestLimits.{AreWithin}
use Rattle.http_wire.specs.Conversation.{continue_text}
use Rattle.http_wire.specs.HeadText.{head_limit, head_text, whole}
use Rattle.http_wire.specs.NextMessage.{NextMessage, IsNextMessage, cut_other}
use Rattle.http_wire.specs.OnConnection.{HasNoMessage}
use Rattle.http_wire.specs.ReadOnWire.{waits}
use Rattle.http_wire.specs.History.{Answering, AreGiven, AreLong, behind_pieces, piece_of}
use Rattle.http_wire.specs.Layout.{field_at, request_at}
use Rattle.http_wire.specs.PiecedBody.{IsPlain, IsTaken, piece_in, pieced_by}
use Rattle.http_wire.specs.declared.read.fields.FieldSpan.{FieldSpan}
use Rattle.http_wire.specs.declared.read.fields.FieldSpan.TheVariants.{Absent, One, Many}
use Rattle.http_wire.specs.declared.read.layout.Layout.{Layout}
use Rattle.http_wire.specs.declared.read.pieces.PiecedBody.{PiecedBody}
use Rattle.http_wire.specs.inside.HeadLayout.{BeginsHead}
use Rattle.http_wire.proofs.NextMessageLemmas.{BeginsHead-more, BeginsHead-short, IsNextMessage-cut_other, IsNextMessage-cut_patch, IsNextMessage-waits}
use Rattle.http_wire.specs.declared.request_limits.RequestLimits.{RequestLimits}

-- the bytes of a message whose head is here, with those that are gone
abbrev with_gone : ℕ → List ℕ → List ℕ → List ℕ
with_gone n gone here = take n here ++ (gone ++ drop n here)

gone-head : (n : ℕ) (gone here : List ℕ) → n ≤ length here → take n (with_gone n gone here) ≡ take n here
gone-head n gone here within = take_at (take n here) (gone ++ drop n here) n (length-take-le n here within)

gone-rest : (n : ℕ) (gone here : List ℕ) → n ≤ length here → drop n (with_gone n gone here) ≡ gone ++ drop n here
gone-rest n gone here within = drop_at (take n here) (gone ++ drop n here) n (length-take-le n here within)

-- nothing is gone of a body that begins
pub IsTaken-first : (limits : RequestLimits) (bytes said : List ℕ) (b : PiecedBody) (held : List ℕ) → said ≡ continue_text b.layout.is_waiting → b.given ≡ 0 → b.layout.head_len ≤ length held → BeginsHead limits bytes b.layout held
    → IsTaken limits bytes said [] b held
IsTaken-first limits bytes said b held says none within begins = record {
  waits = says;
  given = sym none;
  head = within;
  begins = subst (BeginsHead limits bytes b.layout) (sym (take-append-drop b.layout.head_len held)) begins;
}

-- more bytes came
pub IsTaken-more : (limits : RequestLimits) (bytes got said gone : List ℕ) (b : PiecedBody) (here more : List ℕ) → IsTaken limits bytes said gone b here → more ≡ here ++ got → IsTaken limits (bytes ++ got) said gone b more
IsTaken-more limits bytes got said gone b here more h is =
    let n = b.layout.head_len in
    let head : take n more ≡ take n here = ap (take n) is ∙ take-append-le n here got h.head in
    let rest : drop n more ≡ drop n here ++ got = ap (drop n) is ∙ drop-append-le n here got h.head in
    let long : n ≤ length (with_gone n gone here) = omega (arith, length-append (take n here) (gone ++ drop n here), length-take-le n here h.head) in
    record {
      waits = h.waits;
      given = h.given;
      head = omega (arith, ap length is, length-append here got, h.head);
      begins = BeginsHead-more limits bytes b.layout (with_gone n gone here) got (with_gone n gone more) h.begins long
          (rw (head, rest) (ap (λ l. take n here ++ l) (sym (append_assoc gone (drop n here) got)) ∙ sym (append_assoc (take n here) (gone ++ drop n here) got)));
    }

-- the same bytes are here
pub IsTaken-kept : (limits : RequestLimits) (bytes said gone : List ℕ) (b : PiecedBody) (here there : List ℕ) → IsTaken limits bytes said gone b here → there ≡ here → IsTaken limits bytes said gone b there
IsTaken-kept limits bytes said gone b here there h is = subst (IsTaken limits bytes said gone b) (sym is) h

whole-same : (a b c d : List ℕ) → whole a b ≡ whole c d → (a ≡ c) × (b ≡ d)
whole-same a b c d e = (cc, cc)

-- the bytes that came tell which are gone, and the head
pub IsTaken-same : (limits : RequestLimits) (bytes got said says gone went : List ℕ) (b : PiecedBody) (here there : List ℕ) → IsTaken limits bytes said gone b here → IsTaken limits (bytes ++ got) says went b there
    → (went ≡ gone) × (take b.layout.head_len there ≡ take b.layout.head_len here)
IsTaken-same limits bytes got said says gone went b here there h k =
    let n = b.layout.head_len in
    let both = whole-same _ _ _ _ (sym (k.begins.begins []) ∙ ap head_text (append-nil (bytes ++ got)) ∙ h.begins.begins got) in
    let left : (went ++ drop n there) ++ [] ≡ (gone ++ drop n here) ++ got =
    ap (λ l. l ++ []) (sym (gone-rest n went there k.head)) ∙ both.1 ∙ ap (λ l. l ++ got) (gone-rest n gone here h.head) in (
      sym (take_at went (drop n there ++ []) b.given k.given) ∙ ap (take b.given) (sym (append_assoc went (drop n there) []) ∙ left ∙ append_assoc gone (drop n here) got) ∙ take_at gone (drop n here ++ got) b.given h.given,
      sym (gone-head n went there k.head) ∙ both.0 ∙ gone-head n gone here h.head,
    )

-- how many bytes of the message have come behind the line ends before it
count-gone : (n : ℕ) (gone here : List ℕ) → n ≤ length here → length (with_gone n gone here) ≡ length here + length gone
count-gone n gone here within =
    omega (arith, length-append (take n here) (gone ++ drop n here), length-append gone (drop n here), length-take-le n here within, length-drop n here, within)

-- its client waits for `100 Continue`
pub IsTaken-waits : (limits : RequestLimits) (bytes said gone : List ℕ) (b : PiecedBody) (here : List ℕ) → IsTaken limits bytes said gone b here → b.layout.is_waiting ≡ true → (f : NextMessage) × IsNextMessage limits bytes f × (waits f ≡ true)
IsTaken-waits limits bytes said gone b here h is = IsNextMessage-waits limits bytes b.layout (with_gone b.layout.head_len gone here) h.begins is

-- whether a message with this method and this field is applied when it is cut
pub applied : (m : Method) (f : FieldSpan) → (b : Bool) × ((head : List ℕ) → is_applied_when_cut m (field_at head f) ≡ b)
applied m Absent = (is_applied_when_cut m (field_at [] Absent), λ head. refl)
applied m (One span) = (is_applied_when_cut m (field_at [] (One span)), λ head. refl)
applied m Many = (is_applied_when_cut m (field_at [] Many), λ head. refl)

-- while bytes of the body are lacking, no whole message came
pub IsTaken-unfinished : (limits : RequestLimits) (bytes said gone : List ℕ) (b : PiecedBody) (here : List ℕ) → IsTaken limits bytes said gone b here → b.given < b.layout.body_len
    → length here < b.layout.head_len + (b.layout.body_len - b.given) → HasNoMessage limits bytes
IsTaken-unfinished limits bytes said gone b here h given short = by (applied b.layout.method b.layout.fields.checksum)
  where
    held : List ℕ
    held = with_gone b.layout.head_len gone here

    count : length held ≡ length here + length gone
    count = count-gone b.layout.head_len gone here h.head

    by : (applied : Bool) × ((head : List ℕ) → is_applied_when_cut b.layout.method (field_at head b.layout.fields.checksum) ≡ applied) → HasNoMessage limits bytes
    by (true, is) =
        (_, IsNextMessage-cut_patch limits bytes b.layout held h.begins (record { lent = held; held = []; ended = true; room = 0 }) (omega (arith, count, h.given, given, short)) (omega (arith, count, h.head)) is refl, tt)
    by (false, is) = (_, IsNextMessage-cut_other limits bytes b.layout held h.begins (omega (arith, count, h.given, given, short)) (omega (arith, count, h.head)) is, tt)

-- what is not applied where it is cut is no PATCH
pub not-applied : (made : Option ℕ) (m : Method) (is : Bool) → is ≡ is_patch (method_behind made m) → is ≡ false → is_patch m ≡ false
not-applied None m is told other = sym told ∙ other
not-applied (Some id) m is told other = absurd (true≢false (sym told ∙ other))

-- of a body of which nothing was taken, that is no PATCH, what came is no message
pub IsTaken-cut : (limits : RequestLimits) (bytes said gone : List ℕ) (b : PiecedBody) (here : List ℕ) → IsTaken limits bytes said gone b here → b.given < b.layout.body_len
    → length here < b.layout.head_len + (b.layout.body_len - b.given) → is_patch b.layout.method ≡ false → IsNextMessage limits bytes (cut_other b.layout.is_waiting)
IsTaken-cut limits bytes said gone b here h given short other =
    let held = with_gone b.layout.head_len gone here in
    let count = count-gone b.layout.head_len gone here h.head in
    IsNextMessage-cut_other limits bytes b.layout held h.begins (omega (arith, count, h.given, given, short)) (omega (arith, count, h.head)) (λ head. rw other refl)

-- and what came, and what the body lacks, are at most a head and the greatest body
pub IsTaken-short : (limits : RequestLimits) (most : ℕ) (bytes said gone : List ℕ) (b : PiecedBody) (here : List ℕ) → AreWithin limits most → IsTaken limits bytes said gone b here → b.given < b.layout.body_len
    → length here < b.layout.head_len + (b.layout.body_len - b.given) → length bytes + ((b.layout.head_len + (b.layout.body_len - b.given)) - length here) ≤ head_limit + most
IsTaken-short limits most bytes said gone b here within h given short =
    let held = with_gone b.layout.head_len gone here in
    let count = count-gone b.layout.head_len gone here h.head in
    omega (arith, count, h.given, given, BeginsHead-short limits most bytes b.layout held within h.begins (omega (arith, count, h.head)) (omega (arith, count, h.given, given, short)))

-- a piece was taken: it is gone, and the head is here
pub IsTaken-accepted : (limits : RequestLimits) (bytes said gone lent : List ℕ) (b : PiecedBody) (made : Option ℕ) → IsTaken limits bytes said gone b (lent ++ []) → b.layout.head_len ≤ length lent
    → IsTaken limits bytes said (gone ++ drop b.layout.head_len lent) (record b { given = b.given + (length lent - b.layout.head_len); created = made }) (take b.layout.head_len lent)
IsTaken-accepted limits bytes said gone lent b made h within =
    let n = b.layout.head_len in
    let count : length (take n lent) ≡ n = length-take-le n lent within in
    let head : take n (take n lent) ≡ take n lent = take_all n (take n lent) (omega (arith, count)) in
    let none : drop n (take n lent) ≡ [] = drop_all n (take n lent) (omega (arith, count)) in
    record {
      waits = h.waits;
      given = length-append gone (drop n lent) ∙ omega (arith, length-drop n lent, h.given);
      head = omega (arith, count);
      begins = subst (BeginsHead limits bytes b.layout)
          (ap (λ l. with_gone n gone l) (append-nil lent) ∙ sym (rw (head, none) (ap (λ l. take n lent ++ l) (append-nil (gone ++ drop n lent))))) h.begins;
    }

-- the head and the bytes of a piece that is lent
pub lent-head : (n : ℕ) (lent held : List ℕ) → n ≤ length lent → take n (lent ++ held) ≡ take n lent
lent-head n lent held within = take-append-le n lent held within

pub lent-rest : (n : ℕ) (lent held : List ℕ) → n ≤ length lent → drop n (lent ++ held) ≡ drop n lent ++ held
lent-rest n lent held within = drop-append-le n lent held within

-- the request of a piece that is lent is the piece of the request, or of what is behind the pieces that created its upload
pub piece-lent : (b : PiecedBody) (lent : List ℕ) → b.layout.created ≡ None
    → (piece_in b lent).request ≡ piece_of (behind b.created (request_at b.layout (take b.layout.head_len lent))) b.layout.body_len b.given (drop b.layout.head_len lent)
piece-lent b lent fresh =
    let n = b.layout.head_len in
    rw (take-take n n lent (omega arith), length-drop n lent, fresh) refl

-- one piece more was accepted
pub AreGiven-push : (r : Request) (n given : ℕ) (answered : List Answering) (bytes piece : List ℕ) (q : Answering) → AreGiven r n given answered bytes → q.request ≡ piece_of (behind_pieces r answered) n (given + length bytes) piece
    → is_taken (behind_pieces r answered) q.reply ≡ true → 0 < length piece → AreGiven r n given (answered ++ q ∷ []) (bytes ++ piece)
AreGiven-push r n given [] bytes piece q is next accepted some =
    let none : given + length bytes ≡ given = rw is (omega arith) in
    (piece, [], next ∙ ap (λ k. piece_of r n k piece) none, accepted, ap (λ l. l ++ piece) is ∙ sym (append-nil piece), some, refl)
AreGiven-push r n given (a ∷ answered) bytes piece q taken next accepted some =
    let more : given + length bytes ≡ (given + length taken.0) + length taken.1 = omega (arith, ap length taken.4, length-append taken.0 taken.1) in (
      taken.0,
      taken.1 ++ piece,
      taken.2,
      taken.3,
      ap (λ l. l ++ piece) taken.4 ∙ append_assoc taken.0 taken.1 piece,
      taken.5,
      AreGiven-push (behind (created_in a.reply) r) n (given + length taken.0) answered taken.1 piece q taken.6 (next ∙ ap (λ k. piece_of (behind_pieces (behind (created_in a.reply) r) answered) n k piece) more) accepted some,
    )

-- what is asked for behind one piece more
pub behind_pieces-push : (r : Request) (answered : List Answering) (q : Answering) → behind_pieces r (answered ++ q ∷ []) ≡ behind (created_in q.reply) (behind_pieces r answered)
behind_pieces-push r [] q = refl
behind_pieces-push r (a ∷ answered) q = behind_pieces-push (behind (created_in a.reply) r) answered q

-- pieces that have some bytes each are none where they have none together
pub none-given : (r : Request) (n given m : ℕ) (answered : List Answering) (bytes : List ℕ) → AreGiven r n given answered bytes → AreLong m answered → 0 < m → length bytes ≡ 0 → answered ≡ []
none-given r n given m [] bytes is long some none = refl
none-given r n given m (q ∷ answered) bytes is long some none =
    absurd (omega (arith, some, none, ap length is.4, length-append is.0 is.1, subst (λ (r : Request). m ≤ length r.body) is.2 (All-head (λ (q : Answering). m ≤ length q.request.body) q answered long)))

-- the message of a body that is taken in pieces is a PATCH or a POST without a checksum
both-true : (a b : Bool) → a && b ≡ true → (a ≡ true) × (b ≡ true)
both-true true true is = (refl, refl)
both-true true false is = absurd cc
both-true false b is = absurd cc

pub plain-request : (p : Layout) (text : List ℕ) → IsPlain p → MayComeInPieces (request_at p text)
plain-request p text plain = by p.created
  where
    head : List ℕ
    head = take p.head_len text

    by : (made : Option ℕ) → is_taken_in_pieces (method_behind made p.method) (fields_behind made (map_fields (field_at head) p.fields)).checksum ≡ true
    by None = plain head
    by (Some id) = (both-true (is_patch p.method || is_post p.method) (is_absent (field_at head p.fields.checksum)) (plain head)).1

-- one that is gathered whole has no more bytes than a piece
same-absent : (head : List ℕ) (f : FieldSpan) → is_absent (field_at head f) ≡ is_absent (field_at [] f)
same-absent head Absent = refl
same-absent head (One span) = refl
same-absent head Many = refl

no-piece : (a c : Bool) (x : PiecedBody) → a ≡ true → (if a && c then Some x else None) ≡ None → c ≡ false
no-piece true true x plain none = absurd cc
no-piece true false x plain none = refl
no-piece false c x plain none = absurd cc

gathered-whole : (n : ℕ) (p : Layout) (text : List ℕ) → pieced_by (Some n) p ≡ None → p.created ≡ None → length text ≤ p.head_len + p.body_len → MayComeInPieces (request_at p text) → length (drop p.head_len text) ≤ n
gathered-whole n p text none fresh few plain =
    let told : is_taken_in_pieces p.method (field_at (take p.head_len text) p.fields.checksum) ≡ true = rw fresh at plain in
    let first : is_taken_in_pieces p.method (field_at [] p.fields.checksum) ≡ true =
    ap (λ b. (is_patch p.method || is_post p.method) && b) (sym (same-absent (take p.head_len text) p.fields.checksum)) ∙ told in
    let short = ltb-false n p.body_len (no-piece (is_taken_in_pieces p.method (field_at [] p.fields.checksum)) (nat_lt n p.body_len) (record { layout = p; given = 0; piece = n; created = None }) first none) in
    omega (arith, length-drop p.head_len text, few, short)

pub GathersIn-few : (piece : Option ℕ) (p : Layout) (text : List ℕ) → pieced_by piece p ≡ None → p.created ≡ None → length text ≤ p.head_len + p.body_len → IfSome piece (λ n. MayComeInPieces (request_at p text) → length (drop p.head_len text) ≤ n)
GathersIn-few None p text none fresh few = tt
GathersIn-few (Some n) p text none fresh few = gathered-whole n p text none fresh few
