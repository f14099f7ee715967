-- Where the final uploads of a store come from (tus 1.0.0, Concatenation). Each was joined, by one of the events, of the parts that
-- were there then. With a journal it was joined so in this opening or in an earlier one, whose book the journal makes again.
use Rattle.std.specs.Prelude.{◌≡◌, ◌⊎◌, ⊤, ℕ, List, [], ◌∷◌, ◌++◌, All, map, Option, Some, None}
use Rattle.upload_book.specs.declared.head_row.Kind.TheVariants.{Final}
use Rattle.upload_book.specs.declared.head_row.Name.{Name}
use Rattle.upload_book.specs.Events.{ChangeEvent, HasUpload, IsJoinedBy, book_after_all}
use Rattle.upload_book.specs.PlainBook.{PlainBook, opening_book}
use Rattle.upload_book.specs.Settings.{Settings}
use Rattle.upload_book.specs.Upload.{Upload}
use Rattle.head_board.specs.Event.{Event}
use Rattle.head_board.specs.Events.{change_event}
use Rattle.tus_steps.specs.declared.reply.Reply.{Reply}
use Rattle.tus_steps.specs.Request.{Request}
use Rattle.upload_book.specs.declared.sweep.Swept.{Swept}
use Rattle.tus_shared.specs.Journal.{Queueing}
use Rattle.tus_shared.specs.Restoring.{RestoreNothing, RestoresNothing}
use Rattle.tus_shared.specs.Steps.{AddsChange, IsSweepAt}

-- some events were added, which restore nothing
pub record AddsPlain (before after : List Event) : Type 0 where
  pub more : List Event
  pub are : after ≡ before ++ more
  pub plain : RestoreNothing more

-- among the events is the concatenation that made this upload, of the parts that were there then
pub record IsJoinedIn (b : PlainBook) (events : List ChangeEvent) (name : Name) (u : Upload) : Type 0 where
  pub before : List ChangeEvent
  pub event : ChangeEvent
  pub after : List ChangeEvent
  pub all : events ≡ before ++ event ∷ after
  pub joined : IsJoinedBy (book_after_all b before) event name u

-- An opening of a store: its settings; the events by which its book was made again of the journal that an earlier one left; and
-- those since.
pub record Opening : Type 0 where
  pub settings : Settings
  pub again : List ChangeEvent
  pub since : List ChangeEvent

-- the book with which it begins
abbrev pub book_begun : Opening → PlainBook
book_begun opening = book_after_all (opening_book opening.settings) opening.again

-- the book after what happened since
abbrev pub book_of : Opening → PlainBook
book_of opening = book_after_all (book_begun opening) opening.since

-- the upload stood in the book of one of these openings
abbrev pub StoodIn : List Opening → Name → Upload → Type 0
StoodIn [] name u = ⊥
StoodIn (opening ∷ earlier) name u = HasUpload (book_of opening) name u ⊎ StoodIn earlier name u

-- an event of one of these openings joined it, of the parts that were there then
abbrev pub WasJoinedIn : List Opening → Name → Upload → Type 0
WasJoinedIn [] name u = ⊥
WasJoinedIn (opening ∷ earlier) name u = IsJoinedIn (book_begun opening) opening.since name u ⊎ WasJoinedIn earlier name u

-- The opening goes on from earlier ones: each final with which it begins stood in the book of one of them, and nothing was
-- restored since.
pub record GoesOn (opening : Opening) (earlier : List Opening) : Type 0 where
  pub stood : (name : Name) (u : Upload) → u.kind ≡ Final → HasUpload (book_begun opening) name u → StoodIn earlier name u
  pub plain : All (λ (e : ChangeEvent). RestoresNothing e.change) opening.since

-- these are the openings of a journal, the last one first
abbrev pub AreOpenings : List Opening → Type 0
AreOpenings [] = ⊤
AreOpenings (opening ∷ earlier) = GoesOn opening earlier × AreOpenings earlier

-- How an upload came to be among the finals at an opening with these settings: one of the events joined it. With a journal one
-- of them did, or one of an earlier opening, whichever openings came before.
abbrev pub ComesBy : Option ℕ → Settings → List ChangeEvent → Name → Upload → Type 0
ComesBy None s events name u = IsJoinedIn (opening_book s) events name u
ComesBy (Some key) s events name u =
    (again since : List ChangeEvent) (earlier : List Opening)
    → events ≡ again ++ since
    → (let opening : Opening = record { settings = s; again = again; since = since } in
    AreOpenings (opening ∷ earlier) → WasJoinedIn (opening ∷ earlier) name u)

-- where no event restores anything, each final was joined by one of them
abbrev pub FinalsAreJoined : Type 0
FinalsAreJoined =
    (s : Settings) (events : List Event) (name : Name) (u : Upload)
    → RestoreNothing events → u.kind ≡ Final → HasUpload (book_after_all (opening_book s) (map {A = Event} {B = ChangeEvent} change_event events)) name u
    → IsJoinedIn (opening_book s) (map {A = Event} {B = ChangeEvent} change_event events) name u

-- However many openings there were, each final that stands in a book of them was joined by an event of one of them.
abbrev pub FinalsOfOpenings : Type 0
FinalsOfOpenings =
    (openings : List Opening) (name : Name) (u : Upload)
    → AreOpenings openings → u.kind ≡ Final → StoodIn openings name u → WasJoinedIn openings name u

-- So are the openings of a journal: the first one, which makes nothing again; one in which an event happened that restores
-- nothing, as the event of a request or of a sweep; and one whose book is made again as the last one left it, with the same
-- tenants, whatever their uploads.
pub record OpeningsGoOn : Type 0 where
  pub first : (s : Settings) → AreOpenings (record { settings = s; again = []; since = [] } ∷ [])
  pub happens :
      (opening : Opening) (earlier : List Opening) (event : ChangeEvent)
      → AreOpenings (opening ∷ earlier) → RestoresNothing event.change
      → AreOpenings (record opening { since = opening.since ++ event ∷ [] } ∷ earlier)
  pub reopened :
      (opening : Opening) (earlier : List Opening) (s : Settings) (again : List ChangeEvent)
      → AreOpenings (opening ∷ earlier) → (book_after_all (opening_book s) again).tenants ≡ (book_of opening).tenants
      → AreOpenings (record { settings = s; again = again; since = [] } ∷ opening ∷ earlier)

-- what a request or a sweep adds to what happened restores nothing
pub record StepsRestoreNothing : Type 0 where
  pub step :
      (q : Queueing) (s : Settings) (before : List Event) (desk : ℕ) (r : Request) (now : ℕ) (reply : Reply) (after : List Event)
      → AddsChange q s before desk r now reply after → AddsPlain before after
  pub sweep :
      (q : Queueing) (s : Settings) (before : List Event) (desk now : ℕ) (swept : Option Swept) (after : List Event)
      → IsSweepAt q s before desk now swept after → AddsPlain before after
