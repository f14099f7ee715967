-- A request that is answered piece by piece, as the bytes of its body come.
use Rattle.std.specs.Prelude.{◌≡◌, ◌<◌, ◌≤◌, ◌+◌, ◌-◌, ◌&&◌, ℕ, Bool, true, false, not, List, [], ◌∷◌, length, take, drop, All, codes, Option, Some, None, is_some, if◌then◌else◌}
use Rattle.tus_text.specs.declared.path.Path.{Path}
use Rattle.tus_text.specs.declared.path.Path.TheVariants as path
use Rattle.upload_book.specs.Expiry.{lifetime_end}
use Rattle.upload_book.specs.laws.Steps.{LastFinishes}
use Rattle.upload_book.specs.Lawful.{IsLawful}
use Rattle.upload_book.specs.PlainBook.{PlainBook}
use Rattle.tus_steps.specs.declared.reply.Reply.{Reply}
use Rattle.tus_steps.specs.declared.reply.Reply.TheVariants.{Options, Created, Head, Content, Unsatisfiable, Patched, Deleted, Refused}
use Rattle.tus_steps.specs.declared.method.Method.{Method}
use Rattle.tus_steps.specs.declared.method.Method.TheVariants.{Patch}
use Rattle.tus_steps.specs.declared.tus_fields.TusFields.{TusFields}
use Rattle.tus_steps.specs.Field.{FieldText, absent, one}
use Rattle.tus_steps.specs.Method.{is_patch, is_post, is_taken_in_pieces}
use Rattle.tus_steps.specs.Request.{Request}
use Rattle.tus_steps.specs.Step.{IsStep}

-- the bytes of a PATCH were taken
abbrev pub is_patched : Reply → Bool
is_patched (Options max_size) = false
is_patched (Created tenant id offset expires) = false
is_patched (Head row) = false
is_patched (Content bytes extent metadata) = false
is_patched (Unsatisfiable len) = false
is_patched (Patched offset expires) = true
is_patched Deleted = false
is_patched (Refused why head at expires) = false

-- the id of the upload that was created
abbrev pub created_in : Reply → Option ℕ
created_in (Options max_size) = None
created_in (Created tenant id offset expires) = Some id
created_in (Head row) = None
created_in (Content bytes extent metadata) = None
created_in (Unsatisfiable len) = None
created_in (Patched offset expires) = None
created_in Deleted = None
created_in (Refused why head at expires) = None

-- the bytes of a request were taken: those of a PATCH by its upload, and those of any other by one that was created with them
abbrev pub is_taken : Request → Reply → Bool
is_taken r reply = if is_patch r.method then is_patched reply else is_some (created_in reply)

-- the path of an upload of the same tenant
abbrev pub upload_path : Path → ℕ → Path
upload_path (path.Create tenant) id = path.Upload tenant id
upload_path (path.Upload tenant other) id = path.Upload tenant id
upload_path path.Other id = path.Other

-- What is asked for behind the first piece of a creation: to add bytes to the upload that it created, from its start on. So
-- the method, the path and the fields are those of a PATCH, where an upload was created.
abbrev pub method_behind : Option ℕ → Method → Method
method_behind None method = method
method_behind (Some id) method = Patch

abbrev pub path_behind : Option ℕ → Path → Path
path_behind None at = at
path_behind (Some id) at = upload_path at id

abbrev pub fields_behind : Option ℕ → TusFields FieldText → TusFields FieldText
fields_behind None fields = fields
fields_behind (Some id) fields = record fields { offset = one (codes "0") }

abbrev pub behind : Option ℕ → Request → Request
behind made r = record r {
  method = method_behind made r.method;
  path = path_behind made r.path;
  fields = fields_behind made r.fields;
}

-- the piece of a request that has its first bytes, so many, and what is left of the request once that got a reply
abbrev pub first_of : Request → ℕ → Request
first_of r k = record r { body = take k r.body; more = r.more + (length r.body - k) }

abbrev pub rest_of : Request → ℕ → Reply → Request
rest_of r k reply = record (behind (created_in reply) r) { body = drop k r.body; given = r.given + k }

-- the reply to a creation whose upload, at this path, was patched with its last bytes
abbrev pub as_creation : Path → Reply → Reply
as_creation (path.Upload tenant id) (Patched offset expires) = Created tenant id (Some offset) expires
as_creation at reply = reply

-- the reply to a request of which this was left, and got this reply
abbrev pub reply_to_all : Request → Request → Reply → Reply
reply_to_all r left reply = if is_patch left.method && not (is_patch r.method) then as_creation left.path reply else reply

-- a piece: how many bytes it has, and its moment
pub record PieceAt : Type 0 where
  pub len : ℕ
  pub now : ℕ

-- each piece has some bytes
abbrev pub HaveBytes : List PieceAt → Type 0
HaveBytes pieces = All (λ (q : PieceAt). 0 < q.len) pieces

-- how many bytes pieces have in all
abbrev pub count_pieces : List PieceAt → ℕ
count_pieces [] = 0
count_pieces (q ∷ pieces) = q.len + count_pieces pieces

module _ {A : Type 0} (steps : A → Request → ℕ → Reply → A → Type 0) where
  -- its first bytes were taken in pieces, one after another, which leaves this of the request
  abbrev pub Takes : A → Request → List PieceAt → A → Request → Type 0
  Takes a r [] b left = (b ≡ a) × (left ≡ r)
  Takes a r (q ∷ pieces) b left =
      (c : A) × (reply : Reply) × (0 < q.len) × (q.len ≤ length r.body) × steps a (first_of r q.len) q.now reply c × (is_taken r reply ≡ true)
      × Takes c (rest_of r q.len reply) pieces b left

  -- The request is answered at a moment: as one; or its first bytes were taken in pieces before, and what was left then got
  -- the last reply.
  pub record InPieces (a : A) (r : Request) (now : ℕ) (reply : Reply) (b : A) : Type 0 where
    pub pieces : List PieceAt
    pub between : A
    pub left : Request
    pub last : Reply
    pub taken : Takes a r pieces between left
    pub ends : steps between left now last b
    pub told : reply ≡ reply_to_all r left last

-- a PATCH or a POST without a checksum
abbrev pub MayComeInPieces : Request → Type 0
MayComeInPieces r = is_taken_in_pieces r.method r.fields.checksum ≡ true

-- a PATCH without a checksum
pub record IsPlainPatch (r : Request) : Type 0 where
  pub method : is_patch r.method ≡ true
  pub unchecked : r.fields.checksum ≡ absent

-- a POST without a checksum, none of whose bytes were given before
pub record IsPlainCreation (r : Request) : Type 0 where
  pub method : is_post r.method ≡ true
  pub unchecked : r.fields.checksum ≡ absent
  pub whole : r.given ≡ 0

-- A PATCH that is accepted as one at a moment. However it is cut, with pieces of some bytes each at no later moment and nothing
-- between: each of them is accepted, and the rest gets the reply to the whole, and leaves the book that the whole leaves. If the
-- rest is accepted it gets no other reply. The pieces of a creation can be accepted in the same way, while the upload lasts that
-- its first piece created: behind it the others are PATCHes of the upload, and by the last reply all gets the reply to the whole.
-- Where finished uploads end by themselves, the rest has some bytes: it finishes what the whole does, and so at its moment.
pub record PiecesAreTheRequest : Type 0 where
  pub taken :
      (b : PlainBook) (r : Request) (pieces : List PieceAt) (now : ℕ) (reply : Reply) (after : PlainBook) → IsLawful b → IsPlainPatch r
      → HaveBytes pieces → count_pieces pieces ≤ length r.body → All (λ (q : PieceAt). q.now ≤ now) pieces
      → LastFinishes b.settings.numbers (count_pieces pieces) (length r.body)
      → IsStep b r now reply after → is_patched reply ≡ true
      → (between : PlainBook) × (left : Request) × Takes IsStep b r pieces between left × IsStep between left now reply after
  pub same :
      (b : PlainBook) (r : Request) (pieces : List PieceAt) (now : ℕ) (reply : Reply) (after : PlainBook) → IsLawful b → IsPlainPatch r
      → All (λ (q : PieceAt). q.now ≤ now) pieces → LastFinishes b.settings.numbers (count_pieces pieces) (length r.body)
      → IsStep b r now reply after → is_patched reply ≡ true
      → (between : PlainBook) (left : Request) (last : Reply) (end : PlainBook) → Takes IsStep b r pieces between left → IsStep between left now last end
      → is_patched last ≡ true → (last ≡ reply) × (end ≡ after)
  pub created :
      (b : PlainBook) (r : Request) (q : PieceAt) (pieces : List PieceAt) (now : ℕ) (reply : Reply) (after : PlainBook) → IsLawful b → IsPlainCreation r
      → HaveBytes (q ∷ pieces) → count_pieces (q ∷ pieces) ≤ length r.body → All (λ (p : PieceAt). p.now ≤ now) (q ∷ pieces) → now < lifetime_end b.settings.numbers q.now
      → LastFinishes b.settings.numbers (count_pieces (q ∷ pieces)) (length r.body)
      → IsStep b r now reply after → is_some (created_in reply) ≡ true
      → (between : PlainBook) × (left : Request) × (last : Reply) × Takes IsStep b r (q ∷ pieces) between left × IsStep between left now last after
      × (reply_to_all r left last ≡ reply)
